use Rattle.std.proofs.Common.{◌≡◌, ◌++◌, length, take, map, ◌∙◌, ap, refl, sym, append-nil, arith, below_more}
use Rattle.std.proofs.lemmas.List.{length-map}
use Rattle.arrayvec.specs.ArrayVec.{array_vec_len}
use Rattle.token_session.{specs.Meters.numbered_packet, proofs.Metering.driven_follows, proofs.Answered.told_from_is}
use Rattle.token_session.proofs.Metering.{driven_more, whole_more, sends_more, capacity_here, driven_stands}
use Rattle.token_session.proofs.driver.drive.Goals as goal

pub returns-then-remaining_capacity-lt-OUTBOX_CAPACITY : goal.returns-then-remaining_capacity-lt-OUTBOX_CAPACITY
returns-then-remaining_capacity-lt-OUTBOX_CAPACITY g c = record {
  run = record { state = c.loop-i.invariant.state; packets = c.loop-i.invariant.packets; capacity = c.loop-i.invariant.capacity };
  meters = tt;
  whole = c.loop-i.invariant.whole;
  full = (c.loop-i-test.true, omega (arith, c.if-remaining_capacity-lt-OUTBOX_CAPACITY.true, c.remaining_capacity.ensures));
  after = λ start h b. c.loop-i.invariant.state ∙ driven_stands (take c.loop-i.i c.args.inputs.now) _ start h b;
  sent = λ start h b. c.loop-i.invariant.packets ∙ ap (λ q. map numbered_packet c.args.sent.now.items ++ q)
      (driven_follows (take c.loop-i.i c.args.inputs.now) _ start 0 h b);
  follows = λ start h f. record {
    lawful = f.lawful;
    stands = c.loop-i.invariant.state ∙ driven_stands (take c.loop-i.i c.args.inputs.now) _ start h f.stands;
  };
  told = λ start h f. c.loop-i.invariant.packets ∙ ap (λ q. map numbered_packet c.args.sent.now.items ++ q)
      (driven_follows (take c.loop-i.i c.args.inputs.now) _ start 0 h f.stands
      ∙ told_from_is start (λ k. c.answers_follow_history.ensures.told start k f.lawful) (take c.loop-i.i c.args.inputs.now) 0 h);
}

pub returns : goal.returns
returns g c =
    let e : c.loop-i.i ≡ length c.args.inputs.now = omega arith in
    record {
      run = rw (← e) (record { state = c.loop-i.invariant.state; packets = c.loop-i.invariant.packets; capacity = c.loop-i.invariant.capacity });
      meters = c.meters.ensures.value;
      whole = rw (← e) c.loop-i.invariant.whole;
      full = tt;
      after = λ start h b. rw (← e) (c.loop-i.invariant.state
          ∙ driven_stands (take c.loop-i.i c.args.inputs.now) _ start h b);
      sent = λ start h b. rw (← e) (c.loop-i.invariant.packets
          ∙ ap (λ q. map numbered_packet c.args.sent.now.items ++ q)
          (driven_follows (take c.loop-i.i c.args.inputs.now) _ start 0 h b));
      follows = λ start h f. record {
        lawful = f.lawful;
        stands = rw (← e) (c.loop-i.invariant.state
            ∙ driven_stands (take c.loop-i.i c.args.inputs.now) _ start h f.stands);
      };
      told = λ start h f. rw (← e) (c.loop-i.invariant.packets
          ∙ ap (λ q. map numbered_packet c.args.sent.now.items ++ q)
          (driven_follows (take c.loop-i.i c.args.inputs.now) _ start 0 h f.stands
          ∙ told_from_is start (λ k. c.answers_follow_history.ensures.told start k f.lawful) (take c.loop-i.i c.args.inputs.now) 0 h));
    }

pub loop-i-preserved : goal.loop-i-preserved
loop-i-preserved g c = record {
  state = driven_more c.args.inputs.now c.loop-i.i _ _ _ c.index-inputs-i.result _ c.loop-i-test.true
      c.index-inputs-i.is c.step.ensures.state c.loop-i.invariant.state;
  packets = sends_more c.args.inputs.now c.loop-i.i _ _ _ _ _ _ c.index-inputs-i.result _ c.loop-i-test.true
      c.index-inputs-i.is
      c.collect_packets.ensures.sent c.step.ensures.packets c.loop-i.invariant.state c.loop-i.invariant.packets;
  whole = whole_more c.args.inputs.now c.loop-i.i c.index-inputs-i.result _ c.loop-i-test.true c.index-inputs-i.is
      c.loop-i.invariant.whole c.input_bounds.ensures;
  capacity = below_more _ _ c.loop-i.invariant.capacity (capacity_here (map numbered_packet c.loop-i.sent.items) _ g.row.N
      c.loop-i.invariant.packets
      (let n : length (map numbered_packet c.loop-i.sent.items) ≡ array_vec_len c.loop-i.sent = simp length-map in
      omega (arith, c.if-remaining_capacity-lt-OUTBOX_CAPACITY.false, c.remaining_capacity.ensures)));
  empty = c.collect_packets.ensures.empty;
}

pub loop-i-init : goal.loop-i-init
loop-i-init g c = record {
  state = refl;
  packets = sym (append-nil _);
  whole = tt;
  capacity = λ j less. absurd (omega arith);
  empty = c.new-outbox.ensures;
}

pub step-requires : goal.step-requires
step-requires g c = (assumption c.well_formed, c.loop-i.invariant.empty)

pub collect_packets-requires : goal.collect_packets-requires
collect_packets-requires g c = (assumption c.well_formed, omega (arith, c.if-remaining_capacity-lt-OUTBOX_CAPACITY.false, c.remaining_capacity.ensures, c.step.ensures.few))

pub remaining_capacity-requires : goal.remaining_capacity-requires
remaining_capacity-requires g c = assumption c.well_formed

pub meters-requires : goal.meters-requires
meters-requires g c = assumption c.well_formed
