use Rattle.std.proofs.Common.{◌≡◌}
use Rattle.ctap_message.specs.{Members.ids_of, DescriptorWalk.left_of}
use Rattle.authn_core.specs.Turn.{has_listed_credential}
use Rattle.authn_core.proofs.commands.make_credential.has_listed_credential.Given as goal

abbrev pub invariant-walk : goal.invariant-walk
invariant-walk g l = record {
  next : (goal.iterator-walk g).can_next l.ids;
  finite : (goal.iterator-walk g).is_finite l.ids;
  same : has_listed_credential l.rp (g.T.Table.rows l.table) (ids_of (left_of l.fn.ids))
      ≡ has_listed_credential l.rp (g.T.Table.rows l.table) (ids_of (left_of l.ids));
}
