use Rattle.std.proofs.Common.{arith}
use Rattle.authn_core.specs.{Marks.core_at, Signed.requests_of, Turn.first_state, Turn.turn}
use Rattle.authn_core.proofs.{Histories.core_sound, Histories.turn_signs, Histories.signs_at, Histories.work_answers}
use Rattle.authn_core.proofs.laws.signed_bytes_are_in_the_response.Goals as goal

pub returns : goal.returns
returns c = record {
  kept = turn_signs;
  signed = λ start h l o. grind (arith, (signs_at start h l o).work);
  answered = λ start h t id signed sig l o e.
      let s = (core_at (first_state start) h).state in
      unfold turn in rw (core_sound (first_state start) h (record { pending = tt; work = tt }) l).setup
      (work_answers (first_state start).setup s t (requests_of h) s.work id signed sig (signs_at start h l o).work e);
}
