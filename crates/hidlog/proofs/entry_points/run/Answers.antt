use Rattle.std.proofs.Common.{inl, refl}
use Rattle.hidlog.proofs.entry_points.run.Goals as goal

pub returns-clause-plays : goal.returns-clause-plays
returns-clause-plays g c = inl (_, c.play.new.self, c.in-Ok.ensures.left, refl, refl, c.play.ensures.played)
