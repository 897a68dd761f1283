use Rattle.std.proofs.Common.{◌≡◌, ◌≢◌, ◌+◌, ◌-◌, ◌≤◌, List, ℕ, None, length, take, drop, false, refl, sym, ap, ◌∙◌, arith}
use Rattle.std.proofs.lemmas.{Grind.common_steps, Str.is_utf8-from_IsUtf8, Str.IsUtf8-from_is_utf8, List.nil_from_length, Result.err_from_is_err_and}
use Rattle.std.specs.Str.{is_utf8, IsUtf8}
use Rattle.ctap_cbor.specs.Items.{AnItem, first_fault_of, later_faults, body_faults, string_len, item_len, passed}
use Rattle.ctap_cbor.specs.Grammar.{major, info, argument, argument_len, least_argument}
use Rattle.ctap_cbor.specs.{Items.read, Items.One, Tree.Text, Tree.Bytes, Views.expected_of, Views.to_part}
use Rattle.ctap_cbor.specs.declared.fault.Kind.TheVariants.{Truncated, NotUtf8}
use Rattle.ctap_cbor.proofs.Cursors.{fault_first, info_known, passed_first, found_part, found_error}
use Rattle.ctap_cbor.proofs.head.find.Goals.{in-0, in-1, in-4, in-5, in_default-major+in-20, in_default-major+in-21, in_default-major+in_default-2}
use Rattle.ctap_cbor.proofs.head.find.Goals as goal

not_utf8 : (s : List ℕ) → (IsUtf8 s → ⊥) → is_utf8 s ≡ false
not_utf8 s h = grind (arith, IsUtf8-from_is_utf8)

no_fault : (first : ℕ) (rest : List ℕ) → argument_len (info first) ≤ length rest
    → least_argument (info first) ≤ argument first rest → major first ≢ 2 → major first ≢ 3
    → first_fault_of (later_faults AnItem first rest) ≡ None
unfolding body_faults string_len
no_fault first rest fits shortest bytes text = grind (arith, common_steps)

head_only : (first : ℕ) (rest : List ℕ) → major first ≢ 2 → major first ≢ 3
    → 1 + argument_len (info first) ≡ item_len first rest
unfolding item_len string_len
head_only first rest bytes text = grind (arith, common_steps)

pub returns-in_default : goal.returns-in_default
unfolding read passed
returns-in_default c = rw (nil_from_length c.args.bytes.now c.in_default.ensures.cases) (refl, refl, omega arith)

pub find_argument-requires : goal.find_argument-requires
find_argument-requires c = info_known c.args.levels (expected_of c.args.is_key) c.in-Some.first.now (sym c.in_default-first_fault.ensures)

pub returns-in-Some-first_fault : goal.returns-in-Some-first_fault
returns-in-Some-first_fault c = grind (arith, fault_first, passed_first)

pub returns-in-Ok : goal.returns-in-Ok
unfolding body_faults string_len item_len passed
returns-in-Ok c =
    let is = is_utf8-from_IsUtf8 _ c.in-Ok.ensures.cases.1 in
    found_part c.args.levels c.args.is_key c.args.bytes.now c.in-Some.first.now c.in-Some.rest.now (One (Text c.in-Ok.text.now))
    (1 + c.in_ok-argument.len + length (take c.in_ok-argument.argument (take (length c.in-Some.rest.now - c.in_ok-argument.len) (drop c.in_ok-argument.len c.in-Some.rest.now))))
    c.in-Some.ensures.cases.0 (sym c.in_default-first_fault.ensures) (grind (arith, common_steps))

pub returns-in-Err : goal.returns-in-Err
unfolding body_faults string_len item_len passed
returns-in-Err c =
    let is = not_utf8 _ c.in-Err.ensures.cases.0 in
    found_error c.args.levels c.args.is_key c.args.bytes.now c.in-Some.first.now c.in-Some.rest.now NotUtf8
    (1 + c.in_ok-argument.len + length (take c.in_ok-argument.argument (take (length c.in-Some.rest.now - c.in_ok-argument.len) (drop c.in_ok-argument.len c.in-Some.rest.now))))
    c.in-Some.ensures.cases.0 (sym c.in_default-first_fault.ensures) (grind (arith, common_steps))

pub returns-in_err-argument : goal.returns-in_err-argument
unfolding body_faults string_len item_len passed
returns-in_err-argument c =
    let p = err_from_is_err_and c.from_residual.result c.from_residual.ensures.1 in
    rw (p.1, p.2) (found_error c.args.levels c.args.is_key c.args.bytes.now c.in-Some.first.now c.in-Some.rest.now _ _
    c.in-Some.ensures.cases.0 (sym c.in_default-first_fault.ensures) (grind (arith, common_steps)))

pub returns-then-content-argument : goal.returns-then-content-argument
unfolding body_faults string_len item_len passed
returns-then-content-argument c =
    found_error c.args.levels c.args.is_key c.args.bytes.now c.in-Some.first.now c.in-Some.rest.now Truncated (1 + length c.in-Some.rest.now)
    c.in-Some.ensures.cases.0 (sym c.in_default-first_fault.ensures) (grind (arith, common_steps))

pub returns-then-major-eq2 : goal.returns-then-major-eq2
unfolding body_faults string_len item_len passed
returns-then-major-eq2 c =
    found_part c.args.levels c.args.is_key c.args.bytes.now c.in-Some.first.now c.in-Some.rest.now
    (One (Bytes (take c.in_ok-argument.argument (take (length c.in-Some.rest.now - c.in_ok-argument.len) (drop c.in_ok-argument.len c.in-Some.rest.now)))))
    (1 + c.in_ok-argument.len + length (take c.in_ok-argument.argument (take (length c.in-Some.rest.now - c.in_ok-argument.len) (drop c.in_ok-argument.len c.in-Some.rest.now))))
    c.in-Some.ensures.cases.0 (sym c.in_default-first_fault.ensures) (grind (arith, common_steps))

pub returns-then-major-ne3 : goal.returns-then-major-ne3
returns-then-major-ne3 c =
    let first = c.in-Some.first.now in
    let rest = c.in-Some.rest.now in
    let head = c.in_ok-argument.ensures in
    let bytes = c.if-major-ne2.true in
    let text = c.if-major-ne3.true in
    let long : 1 + c.in_ok-argument.len ≡ item_len first rest =
    ap (λ (n : ℕ). 1 + n) head.1 ∙ head_only first rest bytes text in
    found_part c.args.levels c.args.is_key c.args.bytes.now first rest (to_part c.match-major.item) (1 + c.in_ok-argument.len) c.in-Some.ensures.cases.0 (sym c.in_default-first_fault.ensures) (
      no_fault first rest (omega (arith, head.1, head.2)) (omega (arith, head.0, head.3)) bytes text,
      elim c.match-major.branch [
        | in-0 w ↦ grind (arith, w.item-is, w.in-0.is)
        | in-1 w ↦ grind (arith, w.item-is, w.in-1.is)
        | in-4 w ↦ grind (arith, w.item-is, w.in-4.is)
        | in-5 w ↦ grind (arith, w.item-is, w.in-5.is)
        | in_default-major+in-20 w ↦ grind (arith, w.item-is, w.in-20.is)
        | in_default-major+in-21 w ↦ grind (arith, w.item-is, w.in-21.is)
        | in_default-major+in_default-2 w ↦ grind (arith, w.item-is)
      ],
      long,
      omega (arith, head.2),
    )
