use Rattle.std.proofs.Common.{◌≡◌, ℕ, ◌+◌, ◌≤◌, List, [], ◌∷◌, length, take, slice_set, refl, ap, ◌∙◌, arith}
use Rattle.std.proofs.lemmas.Slice.{take-put_mid}
use borrow.Rule.Slice.PartMut.{put_mid}
use Rattle.ctap_cbor.{specs.Grammar.head, proofs.Written.test_true, proofs.Written.test_false}
use Rattle.ctap_cbor.proofs.sink.head_into.Goals as goal

-- a first byte, and then an argument's bytes
front : (out part bytes : List ℕ) (x n k : ℕ) → 9 ≤ length out → part ≡ bytes → k ≡ 1 + length part
    → take k (put_mid 1 n (slice_set out 0 x) part) ≡ x ∷ bytes
front [] part bytes x n k levels same len = absurd (omega arith)
front (a ∷ out) part bytes x n k levels same len =
    take-put_mid 1 n (x ∷ out) part k len (omega arith) ∙ ap (λ b. x ∷ b) same

one_byte : (out : List ℕ) (x : ℕ) → 9 ≤ length out → take 1 (slice_set out 0 x) ≡ x ∷ []
one_byte [] x levels = absurd (omega arith)
one_byte (a ∷ out) x levels = refl

two_bytes : (out : List ℕ) (x y : ℕ) → 9 ≤ length out → take 2 (slice_set (slice_set out 0 x) 1 y) ≡ x ∷ y ∷ []
two_bytes [] x y levels = absurd (omega arith)
two_bytes (a ∷ []) x y levels = absurd (omega arith)
two_bytes (a ∷ b ∷ out) x y levels = refl

pub returns-then-argument-lt24-clause-front : goal.returns-then-argument-lt24-clause-front
unfolding head
returns-then-argument-lt24-clause-front c = rw (test_true _ 24 c.if-argument-lt24.true) (one_byte _ _ c.requires.space)

pub returns-then-argument-lt256-clause-front : goal.returns-then-argument-lt256-clause-front
unfolding head
returns-then-argument-lt256-clause-front c = grind (arith, two_bytes)

pub returns-then-argument-lt65536-clause-front : goal.returns-then-argument-lt65536-clause-front
unfolding head
returns-then-argument-lt65536-clause-front c =
    rw (test_false _ 24 c.if-argument-lt24.false, test_false _ 0x100 c.if-argument-lt256.false, test_true _ 0x1_0000 c.if-argument-lt65536.true)
    (front _ _ _ _ 2 3 c.requires.space (c.copy_from_slice.ensures.after ∙ c.to_be_bytes.ensures)
    (omega (arith, c.copy_from_slice.ensures.len)))

pub returns-then-argument-lt4294967296-clause-front : goal.returns-then-argument-lt4294967296-clause-front
unfolding head
returns-then-argument-lt4294967296-clause-front c =
    rw (test_false _ 24 c.if-argument-lt24.false, test_false _ 0x100 c.if-argument-lt256.false, test_false _ 0x1_0000 c.if-argument-lt65536.false, test_true _ 0x1_0000_0000 c.if-argument-lt4294967296.true)
    (front _ _ _ _ 4 5 c.requires.space (c.copy_from_slice-then-argument-lt4294967296.ensures.after
    ∙ c.to_be_bytes-then-argument-lt4294967296.ensures)
    (omega (arith, c.copy_from_slice-then-argument-lt4294967296.ensures.len)))

pub returns-clause-front : goal.returns-clause-front
unfolding head
returns-clause-front c =
    rw (test_false _ 24 c.if-argument-lt24.false, test_false _ 0x100 c.if-argument-lt256.false, test_false _ 0x1_0000 c.if-argument-lt65536.false, test_false _ 0x1_0000_0000 c.if-argument-lt4294967296.false)
    (front _ _ _ _ 8 9 c.requires.space (c.copy_from_slice-2.ensures.after ∙ c.to_be_bytes-2.ensures)
    (omega (arith, c.copy_from_slice-2.ensures.len)))
