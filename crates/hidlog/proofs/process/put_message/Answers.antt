use Rattle.std.proofs.Common.{ℕ, List, [], ◌∷◌, ◌++◌, Option, Result, Ok, Err, inl, inr, refl, rules}
use Rattle.hidlog.specs.Program.{IsWrittenTo}
use Rattle.session_show.specs.Shown.{Writes}
use Rattle.hidlog.proofs.process.put_message.Goals as goal

-- what a target took of a write is a text, or the front of one
given : {F A E : Type 0} (taken : F → Option (List ℕ)) (failed : F → ℕ) (target : F × F) (r : Result A E)
    → Writes taken failed target r → (text : List ℕ) × IsWrittenTo taken failed target text
given taken failed target (Ok x) w = (w.0.0, inl (w.0.1, w.1))
given taken failed target (Err e) w = (w.0.0 ++ 0 ∷ [], inr ((w.0.0, 0 ∷ [], refl, search rules, w.0.1), w.1))

pub returns-clause-written : goal.returns-clause-written
returns-clause-written g c = given g.E.Target.taken g.E.Target.failed (c.args.stream.now, c.put_chunks.new.writer)
    c.put_chunks.result c.put_chunks.ensures
