use Rattle.std.proofs.Common.{◌∙◌, arith, inl, inr, sym}
use Rattle.hidlog.specs.CommandLine.{to_path}
use Rattle.hidlog.proofs.Compared.{next_fails, next_same, next_still, of_ok, on_err}
use Rattle.hidlog.proofs.host.Host.check_each.{Goals.then-has_failed, Goals.else-has_failed, Invariants.model}
use Rattle.hidlog.proofs.host.Host.check_each.Goals as goal

pub loop-path-preserved : goal.loop-path-preserved
loop-path-preserved g c = (
  c.check_one-one.ensures.kept ∙ c.loop-path.invariant.0,
  λ none. elim c.if-has_failed.branch [
    | then-has_failed w ↦ cc
    | else-has_failed w ↦
        let before = c.loop-path.invariant.1 w.if-has_failed.false in
        let fine = sym w.is_err-has_failed.ensures.value ∙ (sym w.has_failed-is ∙ none) in
        let written = of_ok c.check_one-one.result fine c.check_one-one.ensures.written in (
          next_same (model g) (to_path c.args.wished.now.load) c.args.self.now.files c.loop-path.self.files
              c.args.paths.now c.loop-path.path-index _
              c.check_one-one.result c.args.self.now.input c.loop-path.self.input c.check_one-one.new.self.input
              c.loop-path-test.true c.loop-path.invariant.0 before.0 fine c.check_one-one.ensures.same,
          grind (arith, before.1, written),
        )
  ],
  λ some. elim c.if-has_failed.branch [
    | then-has_failed w ↦ elim (c.loop-path.invariant.2 w.if-has_failed.true) [
      | inl fails ↦ inl (next_still (model g) (to_path c.args.wished.now.load) c.args.self.now.files c.args.paths.now
          c.loop-path.path-index c.args.self.now.input fails)
      | inr unwritten ↦ let none : ⊥ = grind (arith) in elim none [ ]
    ]
    | else-has_failed w ↦
        let still = sym w.is_err-has_failed.ensures.value ∙ (sym w.has_failed-is ∙ some) in
        elim (on_err c.check_one-one.result still c.check_one-one.ensures.fails) [
          | inl unwritten ↦ inr unwritten
          | inr fails ↦ inl (next_fails (model g) (to_path c.args.wished.now.load) c.args.self.now.files c.loop-path.self.files
              c.args.paths.now c.loop-path.path-index _ fails.0 c.args.self.now.input c.loop-path.self.input fails.1
              c.loop-path-test.true c.loop-path.invariant.0 (c.loop-path.invariant.1 w.if-has_failed.false).0 fails.2)
        ]
  ],
)
