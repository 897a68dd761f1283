use Rattle.authn_core.specs.Marks.{Orderly, core_at, changes, signed_assertions}
use Rattle.authn_core.proofs.Histories.{history_tells, rise_differ, told, turn_adds}
use Rattle.authn_core.proofs.Histories.{core_sound}
use Rattle.authn_core.proofs.laws.signed_bytes_differ.Goals as goal

pub returns : goal.returns
returns c = record {
  differ = λ start h r l o. rise_differ (signed_assertions start h) (history_tells start h r l o).rise;
  rise = λ start h r l o. (history_tells start h r l o).rise;
  told = λ start h x t r l o e. unfold core_at signed_assertions Orderly in
      let k = core_at start h in
      told (changes start h) k.state _ _ (signed_assertions start h) t (turn_adds _ k.setup k.state x.at x.event o.0
      (core_sound start h r l).ready) e;
  newest = λ start h id none r l o e. (history_tells start h r l o).newest none id e;
}
