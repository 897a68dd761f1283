use Rattle.std.proofs.{Common.arith, lemmas.Slice.drop-put_mid}
use Rattle.session_log.proofs.target.SliceOutTarget.put.Goals as goal

pub returns-clause-rest : goal.returns-clause-rest
returns-clause-rest c = search (arith, drop-put_mid)
