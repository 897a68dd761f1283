-- How an encoder and a sink change their output.
use Rattle.std.specs.Prelude.{◌≡◌, ◌≢◌, ℕ, ◌+◌, ◌-◌, ◌<◌, ◌≤◌, List, ◌++◌, length, take, drop, Option, Some, None}
use Rattle.std.specs.Prelude.{pos, negsuc}
use Rattle.ctap_cbor.specs.declared.fault.Kind.{Kind}
use Rattle.ctap_cbor.specs.declared.fault.Kind.TheVariants.{Memory}
use Rattle.ctap_cbor.specs.declared.encode.Span.{Span}
use Rattle.ctap_cbor.specs.Grammar.{AreLawfulPairs, encode_tree, encode_trees, encode_pairs, encode_scalar, Fits}
use Rattle.ctap_cbor.specs.Grammar.{KeysAscend, IsKey, IsLawful, AreLawful, head_len}
use Rattle.ctap_cbor.specs.Tree.{Scalar, Tree, Trees, Pairs, depth, depth_all, depth_pairs, Int, Bytes, Text, Flag}
use Rattle.ctap_cbor.specs.Tree.{Null}
use Rattle.ctap_cbor.specs.Items.{refusal, refusal_all, refusal_pairs, own_refusal}
use Rattle.std.specs.Borrow.{MutBor}
use Rattle.ctap_cbor.specs.declared.sink.Sink.{Sink}
use Rattle.std.proofs.Common.{[], arith, refl, sym, ap, ◌∙◌, append_assoc, append-nil}
use Rattle.std.proofs.lemmas.List.{drop-drop}

-- ---- how an encoder changes its output vector

-- The second list begins with the first.
abbrev pub Extends : List ℕ → List ℕ → Type 0
Extends old new = (more : List ℕ) × (new ≡ old ++ more)

-- The vector's capacity is too small for these further bytes.
abbrev pub IsShort : (capacity : ℕ) (old more : List ℕ) → Type 0
IsShort capacity old more = capacity < length old + length more

-- A scalar was encoded and appended.
pub record WritesScalar (s : Scalar) (old new : List ℕ) : Type 0 where
  pub fits : Fits s
  pub appended : new ≡ old ++ encode_scalar s

-- A tree was encoded and appended.
pub record Writes (levels : ℕ) (t : Tree) (old new : List ℕ) : Type 0 where
  pub accepted : refusal levels t ≡ None
  pub lawful : IsLawful t
  pub flat : depth t ≤ levels
  pub appended : new ≡ old ++ encode_tree t

-- The items of an array were encoded and appended.
pub record WritesAll (levels : ℕ) (ts : Trees) (old new : List ℕ) : Type 0 where
  pub accepted : refusal_all levels ts ≡ None
  pub lawful : AreLawful ts
  pub flat : depth_all ts ≤ levels
  pub appended : new ≡ old ++ encode_trees ts

-- The pairs of a map were encoded and appended.
pub record WritesPairs (levels : ℕ) (ps : Pairs) (old new : List ℕ) : Type 0 where
  pub accepted : refusal_pairs levels None ps ≡ None
  pub rises : KeysAscend None ps
  pub lawful : AreLawfulPairs ps
  pub flat : depth_pairs ps ≤ levels
  pub appended : new ≡ old ++ encode_pairs ps

-- A map key was encoded and appended.
pub record WritesKey (t : Tree) (old new : List ℕ) : Type 0 where
  pub accepted : own_refusal t ≡ None
  pub is_key : IsKey t
  pub lawful : IsLawful t
  pub flat : depth t ≤ 0
  pub appended : new ≡ old ++ encode_tree t

-- Encoding failed with this error, or an allocation failed. The appended bytes are incomplete.
abbrev pub FailsWith : Kind → Option Kind → List ℕ → List ℕ → Type 0
FailsWith kind refusal old new = (kind ≢ Memory → refusal ≡ Some kind) × Extends old new

-- The bytes of this span of the vector.
abbrev pub encoding_at : List ℕ → Span → List ℕ
encoding_at out span = take (span.end - span.start) (drop span.start out)

-- The encoding of the previous key, if any, at its span of the vector.
abbrev pub previous_encoding : List ℕ → Option Span → Option (List ℕ)
previous_encoding out None = None
previous_encoding out (Some span) = Some (encoding_at out span)

-- ---- how a sink changes its borrowed buffer

-- The bytes that were written to the buffer so far.
abbrev pub contents : Sink → List ℕ
contents s = take s.len s.buffer.now

-- The rest of the buffer, after the bytes that were written.
abbrev pub unwritten_rest : Sink → List ℕ
unwritten_rest s = drop s.len s.buffer.now

-- The length of a scalar's encoding.
abbrev pub scalar_len : Scalar → ℕ
scalar_len (Int (pos n)) = head_len n
scalar_len (Int (negsuc n)) = head_len n
scalar_len (Bytes s) = head_len (length s) + length s
scalar_len (Text s) = head_len (length s) + length s
scalar_len (Flag b) = 1
scalar_len Null = 1

-- The number of bytes that can still be written.
abbrev pub space_of : Sink → ℕ
space_of s = length s.buffer.now - s.len

-- The sink appended exactly these bytes. The length of the buffer and the bytes after them are unchanged.
pub record Appends (old new : Sink) (bytes : List ℕ) (len : ℕ) : Type 0 where
  pub grows : contents new ≡ contents old ++ bytes
  pub len_is : length (contents new) ≡ length (contents old) + len
  pub space_is : space_of old ≡ space_of new + len
  pub keeps : unwritten_rest new ≡ drop len (unwritten_rest old)

-- The sink writes to this buffer.
abbrev pub IsOver : MutBor (List ℕ) → Sink → Type 0
IsOver buffer s = s.buffer.ghost_name ≡ buffer.ghost_name

-- Both sinks write to the same buffer.
abbrev pub SameBuffer : Sink → Sink → Type 0
SameBuffer old new = new.buffer.ghost_name ≡ old.buffer.ghost_name

-- ---- the bytes that several calls of a sink append, computed from the bytes of each call

-- If one call appends `x` and the next one appends `y`, both together append `x ++ y`.
pub then : {a b c : Sink} {x y : List ℕ} {m n : ℕ} → Appends a b x m → Appends b c y n → Appends a c (x ++ y) (m + n)
then {a = a} {x = x} {y = y} {m = m} {n = n} p q = record {
  grows = q.grows ∙ ap (λ w. w ++ y) p.grows ∙ append_assoc (contents a) x y;
  len_is = omega arith;
  space_is = omega arith;
  keeps = q.keeps ∙ ap (drop n) p.keeps ∙ drop-drop n m _;
}

-- Without a call, no bytes are appended.
pub done : {a : Sink} → Appends a a [] 0
done {a = a} = record {
  grows = sym (append-nil (contents a));
  len_is = omega arith;
  space_is = omega arith;
  keeps = refl;
}
