-- A session takes fewer bytes than 2^63, and so does each part of it that a call is handed. `search` finds the sizes by
-- these, where omega would work through every place of padding. The numbers are the sizes of fields as the prover lays
-- them out: where a field is added, the goal that a check prints has the new ones.
use Rattle.std.proofs.lemmas.Bool.Decides.{nat_tests}
use Prim.Native.Nat.{ℕ, ◌+◌, ◌*◌, ◌<◌, ◌≤◌, ◌^◌}
use native.Mathlib.Omega.{arith}
use prog.Memory.{up}

-- a table of credentials, and the authenticator that has it, by the size of a row and of an id
abbrev ids : ℕ → ℕ
ids n = up 8 (up 1 (up 8 (0 + up 1 (0 + n * 32)) + 8) + 0)

abbrev table : ℕ → ℕ
table n = up 8 (up 8 (0 + up 8 (up 2 (up 2 (up 2 (up 2 (0 + n * 296) + 128) + 4) + 4) + 4)) + 8)

abbrev core : ℕ → ℕ
core n = up 8 (up 8 (up 8 (up 8 (40 + table n) + up 8 (48 + ids n)) + 544) + ids n)

abbrev authenticator : ℕ → ℕ
authenticator n = up 8 (up 8 (up 8 (0 + core n) + 8) + 32)

abbrev session : ℕ → ℕ
session n = up 8 (7664 + authenticator n)

-- a session of so few
pub session_small : (n : ℕ) → n ≤ 256 → session n < 2 ^ 63
session_small n few = grind (arith, nat_tests)

-- what a session holds takes fewer bytes than it
within : (e m : ℕ) → up 8 (7664 + e) < m → e < m
within e m h = omega (arith, h)

held : (e m : ℕ) → up 8 (up 8 (up 8 (0 + e) + 8) + 32) < m → e < m
held e m h = omega (arith, h)

kept : (t x y m : ℕ) → up 8 (up 8 (up 8 (up 8 (40 + t) + x) + 544) + y) < m → t < m
kept t x y m h = omega (arith, h)

pub core_held : (n : ℕ) → authenticator n < 2 ^ 63 → core n < 2 ^ 63
core_held n h = held (core n) (2 ^ 63) h

pub table_held : (n : ℕ) → authenticator n < 2 ^ 63 → table n < 2 ^ 63
table_held n h = kept (table n) (up 8 (48 + ids n)) (ids n) (2 ^ 63) (core_held n h)

pub keeper_within : (n : ℕ) → session n < 2 ^ 63 → authenticator n < 2 ^ 63
keeper_within n h = within (authenticator n) (2 ^ 63) h

pub core_within : (n : ℕ) → session n < 2 ^ 63 → core n < 2 ^ 63
core_within n h = core_held n (keeper_within n h)

pub table_within : (n : ℕ) → session n < 2 ^ 63 → table n < 2 ^ 63
table_within n h = table_held n (keeper_within n h)
