use Rattle.std.proofs.{Common.ℕ, Common.length, Common.arith, lemmas.Grind.common_steps, lemmas.List.drop-replicate}
use Rattle.authn_core.proofs.replies.Signature.new.Goals as goal

pub invariant_of-result : goal.invariant_of-result
invariant_of-result c = grind (arith, common_steps, drop-replicate {X = ℕ} (length c.args.bytes.now) 72 0)
