use Rattle.std.proofs.Common.{◌-◌, ◌≡◌, ap, subst, Err}
use Rattle.ctap_cbor.specs.{Views.to_part, Items.AnItem, Items.read}
use Rattle.ctap_cbor.proofs.{Cursors.item_taken, Cursors.item_refused, Cursors.read_taken, Parsing.item_only, Parsing.item_never}
use Rattle.ctap_cbor.proofs.cursor.Cursor.item.Goals as goal

pub returns-in-Ok : goal.returns-in-Ok
returns-in-Ok c = record {
  takes = item_taken (5 - c.args.level) c.args.self.now c.pass.new.self c.rest-rest.result.now
      (to_part c.in-Ok.item) c.in-Ok.len c.rest-rest.ensures.rest c.rest-rest.ensures.bytes c.in-Ok.ensures
      c.pass.ensures;
  exact = read_taken (5 - c.args.level) c.args.self.now c.pass.new.self c.rest-rest.result.now
      (to_part c.in-Ok.item) c.in-Ok.len c.rest-rest.ensures.rest c.in-Ok.ensures.0 c.pass.ensures;
  only = item_only (5 - c.args.level) c.args.self.now c.pass.new.self c.in-Ok.item
      (read_taken (5 - c.args.level) c.args.self.now c.pass.new.self c.rest-rest.result.now
      (to_part c.in-Ok.item) c.in-Ok.len c.rest-rest.ensures.rest c.in-Ok.ensures.0 c.pass.ensures);
}

pub returns-in-Err : goal.returns-in-Err
returns-in-Err c = record {
  takes = item_refused (5 - c.args.level) c.args.self.now c.pass-in-Err.new.self c.self.inside.place
      c.rest-rest.result.now c.in-Err.kind c.in-Err.len c.end_steps.result c.rest-rest.ensures.rest c.in-Err.ensures
      c.end_steps.ensures c.pass-in-Err.ensures (ap (λ r. r.place) c.self.view_is);
  exact = subst (λ x. read (5 - c.args.level) AnItem x ≡ Err c.in-Err.kind) c.rest-rest.ensures.rest c.in-Err.ensures.0;
  only = λ i rest suits e. absurd (item_never (5 - c.args.level) i rest c.args.self.now c.in-Err.kind suits e
      (subst (λ x. read (5 - c.args.level) AnItem x ≡ Err c.in-Err.kind) c.rest-rest.ensures.rest c.in-Err.ensures.0));
}
