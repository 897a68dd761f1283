use Rattle.std.proofs.{Common.arith, lemmas.Simd.map-map}
use Rattle.cred_table.proofs.chained.ChainedTable.iter.Goals as goal

pub returns : goal.returns
returns g c = grind (arith, map-map)
