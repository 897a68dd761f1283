use Rattle.std.proofs.Common.{arith, sym, ◌∙◌, subst, List}
use Rattle.cred_table.specs.{declared.row.Row.Row, Rows.is_user, Rows.ValidRows}
use Rattle.cred_table.proofs.Stored.{replaced_rows, id_found, replaced_is, Lawful-replace}
use Rattle.cred_table.proofs.listed.ListedTable.replace.Goals as goal

pub place-place-requires : goal.place-place-requires
place-place-requires g c = grind (arith, id_found)

pub invariant_of-self : goal.invariant_of-self
invariant_of-self g c =
    let before = c.args.self.now in
    let there = id_found (is_user c.args.new.rp c.args.new.user.items) c.args.old.now before.list.items
    c.requires.same_user in
    let appended =
    replaced_rows c.args.old.now c.args.new before.list.items c.remove.new.self.items c.push.new.self.items
    c.place-place.result there before.lawful.distinct c.place-place.ensures.value c.remove.ensures.items
    c.push.ensures.items in
    let P : List Row → Type 0 = λ rows. ValidRows g.row.C rows in
    record {
      lawful = subst P (sym appended) (Lawful-replace g.row.C c.args.old.now c.args.new before.list.items before.lawful
          c.requires.fresh c.requires.same_user);
      some = before.some;
      few = before.few;
    }

pub returns-clause-appended : goal.returns-clause-appended
returns-clause-appended g c = grind (arith, id_found, replaced_rows)

pub returns-clause-stored : goal.returns-clause-stored
returns-clause-stored g c = λ discoverable.
    let before = c.args.self.now in
    let there = id_found (is_user c.args.new.rp c.args.new.user.items) c.args.old.now before.list.items
    c.requires.same_user in
    replaced_rows c.args.old.now c.args.new before.list.items c.remove.new.self.items c.push.new.self.items
    c.place-place.result there before.lawful.distinct c.place-place.ensures.value c.remove.ensures.items
    c.push.ensures.items
    ∙ replaced_is g.row.C c.args.old.now c.args.new before.list.items before.lawful discoverable c.requires.same_user
