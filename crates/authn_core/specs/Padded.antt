-- A signature of at most 72 bytes, stored in 72 bytes and padded with zeros.
use Rattle.std.specs.Prelude.{◌≡◌, ℕ, ◌-◌, ◌≤◌, List, ◌++◌, length, take, drop, replicate}
use Rattle.std.proofs.Common.{ap, ◌∙◌, sym, arith}
use Rattle.std.proofs.lemmas.List.{take-append-drop, length-take-le}

-- The bytes, padded with zeros to 72 bytes.
abbrev pub padded : List ℕ → List ℕ
padded v = v ++ replicate (72 - length v) 0

pub length-kept : (n : ℕ) (xs : List ℕ) → n ≤ 72 → length xs ≡ 72 → length (take n xs) ≡ n
length-kept n xs h e = let low : n ≤ length xs = omega arith in length-take-le n xs low

pub padded-take : (n : ℕ) (xs : List ℕ) → n ≤ 72 → length xs ≡ 72 → drop n xs ≡ replicate (72 - n) 0
    → padded (take n xs) ≡ xs
padded-take n xs h e z =
    ap (λ k. take n xs ++ replicate (72 - k) 0) (length-kept n xs h e) ∙ ap (λ r. take n xs ++ r) (sym z)
    ∙ take-append-drop n xs
