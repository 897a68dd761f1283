use Rattle.std.proofs.Common.{[], sym, ◌∙◌}
use Rattle.authn_core.proofs.{Histories.none_later, Histories.rows_left, Histories.core_sound}
use Rattle.authn_core.proofs.laws.rows_follow_history.Goals as goal

pub returns : goal.returns
returns c = record {
  rows = λ start h o. sym (none_later _) ∙ rows_left start h [] o;
  lawful = λ start h r l. let s = core_sound start h r l in rw s.setup at s.lawful;
  pending = λ start h r l f. let s = core_sound start h r l in rw s.setup at s.few f;
}
