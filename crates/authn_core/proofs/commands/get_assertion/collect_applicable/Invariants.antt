use Rattle.std.proofs.Common.{◌≡◌, []}
use Rattle.ctap_message.specs.{Members.ids_of, DescriptorWalk.left_of}
use Rattle.authn_core.specs.Turn.{find_allowed}
use Rattle.authn_core.proofs.commands.get_assertion.collect_applicable.Given as goal

abbrev pub invariant-walk : goal.invariant-walk
invariant-walk g l = record {
  next : (goal.iterator-walk g).can_next l.allow;
  finite : (goal.iterator-walk g).is_finite l.allow;
  none : l.found.items ≡ [];
  same : find_allowed l.rp (g.T.Table.rows l.table) (ids_of (left_of l.fn.allow))
      ≡ find_allowed l.rp (g.T.Table.rows l.table) (ids_of (left_of l.allow));
}
