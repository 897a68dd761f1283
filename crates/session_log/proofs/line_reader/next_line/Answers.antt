use Rattle.std.proofs.{lemmas.Grind.common_steps, KnownBytes.Consumes-nil}
use Rattle.std.proofs.Common.{◌<◌, ◌≤◌, ◌+◌, ◌-◌, ◌^◌, ℕ, append-nil, length, refl, arith, sym, subst, ap, ◌∙◌}
use Rattle.session_log.{specs.Lines.IsUnfinished, proofs.Cutting.gathers, proofs.Cutting.in_count}
use Rattle.session_log.proofs.line_reader.next_line.Goals as goal

below_full : (n : ℕ) → (256 ≤ n → ⊥) → n < 256
below_full n few = grind (arith, few)

pub reading-init : goal.reading-init
reading-init g c = search (arith, append-nil, Consumes-nil)

pub fill-requires-clause-read : goal.fill-requires-clause-read
fill-requires-clause-read g c = subst (λ (k : ℕ). k < 2 ^ 64 - 1) (sym c.reading.invariant.same) c.requires

pub fill-requires-clause-space : goal.fill-requires-clause-space
fill-requires-clause-space g c = below_full (length c.reading.window) (λ full. cc (c.if-is_full.ensures.1 full))

pub reading-preserved : goal.reading-preserved
reading-preserved g c = grind (arith, common_steps, gathers)

pub reading-smaller : goal.reading-smaller
reading-smaller g c = search arith

pub returns-then-has_too_many_lines : goal.returns-then-has_too_many_lines
returns-then-has_too_many_lines g c = search arith

pub returns-in-Some : goal.returns-in-Some
returns-in-Some g c = search (arith, in_count)

pub returns-then-is_full : goal.returns-then-is_full
returns-then-is_full g c = search (arith, in_count)

pub returns-in-Ok-false : goal.returns-in-Ok-false
returns-in-Ok-false g c =
    let feed = sym c.find_newline.ensures.value ∙ c.in_default.is in
    let short = below_full (length c.reading.window) (λ full. cc (c.if-is_full.ensures.1 full)) in
    let before : IsUnfinished c.args.number c.reading.window = search arith in
    let ended = rw c.in-Ok-false.field-0-test at c.in-Ok-false.ensures.grown in
    record {
      bytes = gathers _ c.reading.window c.fill.new.self _ _ _ c.reading.invariant.done c.fill.ensures.bytes;
      found = (subst (IsUnfinished c.args.number) (sym ended.0) before, (ended.1, ended.2));
      stopped = tt;
      reads = ◌∙◌ {b = g.S.Source.failed c.reading.reader} c.in-Ok-false.ensures.counted c.reading.invariant.same;
    }

pub returns-in-Err : goal.returns-in-Err
returns-in-Err g c =
    let short = below_full (length c.reading.window) (λ full. cc (c.if-is_full.ensures.1 full)) in
    let feed = sym c.find_newline.ensures.value ∙ c.in_default.is in
    record {
      bytes = gathers _ c.reading.window c.fill.new.self _ _ _ c.reading.invariant.done c.fill.ensures.bytes;
      found = tt;
      stopped = (refl, rw (c.in-Err.ensures.err) (search arith));
      reads = c.in-Err.ensures.counted ∙ ap (λ (k : ℕ). k + 1) c.reading.invariant.same;
    }
