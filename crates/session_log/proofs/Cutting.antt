-- Bytes that are cut at line feeds, from the front.
use Rattle.std.proofs.Common.{◌≡◌, Bool, true, false, Option, Some, None, arith, ◌==◌, ℕ, ltb, cond, List, length}
use Rattle.std.proofs.Common.{position, suc, zero, ◌+◌, ◌<◌, [], ◌∷◌, ◌++◌, get_or, take, drop, refl, sym, ap, ◌∙◌}
use Rattle.std.proofs.Common.{add-one, length-append, length-take-le, ◌≤◌, take-append-drop, ◌^◌, append_assoc}
use Rattle.std.proofs.lemmas.List.Sums.{position_or_len_is, fails_before_first}
use Rattle.std.specs.List.{position_or_len, onto_first}
use Rattle.memchr.specs.Find.{IsFirstByte, is_byte}
use Rattle.std.proofs.Math.Seq.{take-suc}
use Rattle.std.proofs.lemmas.Bool.{eqb-true, ltb-false}
use Rattle.std.proofs.lemmas.Bool.Decides.{nat_tests}
use Rattle.std.proofs.lemmas.List.{take-take}
use Rattle.std.proofs.lemmas.List.Quantifiers.{position-Some}
use Rattle.std.proofs.lemmas.List.Splits.{slice_split_none, slice_split-cons_yes, slice_split-cons_no}
use Rattle.session_log.specs.Semantics.{with_line_feed}
use Rattle.session_log.specs.Lines.{is_line_feed, pieces, all_but_last, last_of, lines_of_pieces, lines}
use Rattle.std.specs.Io.KnownBytes.{Consumes}
use Rattle.std.proofs.KnownBytes.{Consumes-trans}

-- ---- cases that a fact rules out

pub refuted : (b : Bool) → (b ≡ true → ⊥) → b ≡ false
refuted b h = search arith

pub no_some : {A : Type 0} (o : Option A) → ((a : A) → o ≡ Some a → ⊥) → o ≡ None
no_some o h = search arith

-- ---- the first place of a byte is the position that a definition names

falsely : (b : Bool) → (b ≡ true → ⊥) → b ≡ false
falsely b h = search arith

placed : (byte : ℕ) (xs : List ℕ) (i : ℕ) (b : Bool) → position_or_len (λ x. x == byte) xs ≡ i → ltb i (length xs) ≡ b
    → cond b (Some i) None ≡ position (λ x. x == byte) xs
placed byte xs i b e t = search arith

pub first_is : (byte : ℕ) (xs : List ℕ) (r : Option ℕ) → IsFirstByte (is_byte byte) xs r
    → r ≡ position (λ x. x == byte) xs
first_is byte xs None h =
    placed byte xs (length xs) false
    (position_or_len_is (λ x. x == byte) xs (length xs) 0 (omega arith) (λ k l. falsely _ (h k (omega arith) l))
    (λ l. absurd (omega arith))) (grind arith)
first_is byte xs (Some i) h = search (arith, placed, position_or_len_is, falsely)

-- ---- bytes cut at line feeds, from the front

cut_at : (w : List ℕ) (end : ℕ) (tail : List ℕ) → end < length w → is_line_feed (get_or w end 0) ≡ true
    → ((k : ℕ) → k < end → is_line_feed (get_or w k 0) ≡ false) → pieces (take (suc end) w ++ tail)
    ≡ take end w ∷ pieces tail
cut_at [] end tail h p q = absurd (omega arith)
cut_at (x ∷ xs) zero tail h p q = slice_split-cons_yes is_line_feed x tail p
cut_at (x ∷ xs) (suc e) tail h p q =
    let later = cut_at xs e tail (omega arith) p (λ k l. q (suc k) (omega arith)) in
    search (arith, slice_split-cons_no, q 0)

-- a line and its line feed are cut off
pub first_piece : (w : List ℕ) (end : ℕ) (tail : List ℕ) → position is_line_feed w ≡ Some end
    → pieces (take (end + 1) w ++ tail) ≡ take end w ∷ pieces tail
first_piece w end tail e = search (arith, position-Some, add-one, cut_at)

-- it ends with its line feed
pub ends_in_feed : (w : List ℕ) (end : ℕ) → position is_line_feed w ≡ Some end → take (end + 1) w ≡ with_line_feed (take end w)
ends_in_feed w end e =
    let at = position-Some is_line_feed w end 0 e in
    rw add-one (take-suc w end 0 at.0 ∙ ap (λ (b : ℕ). take end w ++ b ∷ []) (eqb-true (get_or w end 0) 10 at.1))

-- what was ended is a line and its line feed
own_text : (w : List ℕ) → (take (length w) (with_line_feed w) ≡ w) × (take (suc (length w)) (with_line_feed w) ≡ with_line_feed w)
own_text [] = (refl, refl)
own_text (x ∷ xs) = (ap (λ (l : List ℕ). x ∷ l) (own_text xs).0, ap (λ (l : List ℕ). x ∷ l) (own_text xs).1)

pub last_text : (w w' : List ℕ) (end : ℕ) → w' ≡ with_line_feed w → end ≡ length w → length w < 256 → (take end w' ≡ w)
    × (take (end + 1) w' ≡ with_line_feed (take end w')) × (end < length w') × (length w' ≤ 256)
last_text w w' end is at short =
    let own = own_text w in
    let line : take end w' ≡ w = (λ i. take (at i) (is i)) ∙ own.0 in
    let long = ap length is ∙ length-append w (10 ∷ []) in
    let whole : take (end + 1) w' ≡ with_line_feed w = rw add-one ((λ i. take (suc (at i)) (is i)) ∙ own.1) in
    (line, whole ∙ ap with_line_feed (sym line), omega (arith, long), omega (arith, long))

pub short_front : (w line : List ℕ) (end : ℕ) → line ≡ take end w → end < length w → length w ≤ 256
    → length line < 256
short_front w line end is within short = search (arith, length-take-le)

-- a line and its line feed fit in what holds them
pub fits_in : (w held : List ℕ) (end : ℕ) → held ≡ w → end < length w → end + 1 ≤ length held
fits_in w held end is within = omega (arith, ap length is)

pub fits_in_text : (held text : List ℕ) (end : ℕ) → text ≡ take (end + 1) held → end + 1 ≤ length held
    → end ≤ length text
fits_in_text held text end is fits = search (arith, length-take-le)

-- what stands in a window was cut after a line feed, and before it
pub cut_twice : (w held text line : List ℕ) (end : ℕ) → held ≡ w → text ≡ take (end + 1) held → line ≡ take end text
    → (text ≡ take (end + 1) w) × (line ≡ take end w)
cut_twice w held text line end is whole front = search (arith, take-take)

-- what has no line feed is one piece
pub one_piece : (w : List ℕ) → position is_line_feed w ≡ None → pieces w ≡ w ∷ []
one_piece w e = search (arith, ltb-false, slice_split_none, fails_before_first)

-- there is a piece
pub pieces_some : (w : List ℕ) → (p : List ℕ) × (ps : List (List ℕ)) × (pieces w ≡ p ∷ ps)
pieces_some [] = ([], [], refl)
pieces_some (x ∷ xs) = go (pieces_some xs) (is_line_feed x) refl
  where
    go : ((p : List ℕ) × (ps : List (List ℕ)) × (pieces xs ≡ p ∷ ps)) → (b : Bool) → is_line_feed x ≡ b
        → (p : List ℕ) × (ps : List (List ℕ)) × (pieces (x ∷ xs) ≡ p ∷ ps)
    go more true e = ([], pieces xs, slice_split-cons_yes is_line_feed x xs e)
    go more false e = (x ∷ more.0, more.1, slice_split-cons_no is_line_feed x xs e ∙ ap (onto_first x) more.2)

-- lines before pieces
pub lines_beyond : (done : List (List ℕ)) (p : List ℕ) (ps : List (List ℕ))
    → lines_of_pieces (done ++ p ∷ ps) ≡ done ++ lines_of_pieces (p ∷ ps)
lines_beyond [] p ps = refl
lines_beyond (d ∷ []) p ps = refl
lines_beyond (d ∷ e ∷ ds) p ps = ap (λ (l : List (List ℕ)). d ∷ l) (lines_beyond (e ∷ ds) p ps)

pub front_of : (done : List (List ℕ)) (p : List ℕ) → all_but_last (done ++ p ∷ []) ≡ done
front_of [] p = refl
front_of (d ∷ []) p = refl
front_of (d ∷ e ∷ ds) p = ap (λ (l : List (List ℕ)). d ∷ l) (front_of (e ∷ ds) p)

pub last_is : (done : List (List ℕ)) (p : List ℕ) → last_of (done ++ p ∷ []) ≡ p
last_is [] p = refl
last_is (d ∷ []) p = refl
last_is (d ∷ e ∷ ds) p = last_is (e ∷ ds) p

-- the lines of a window
pub line_in_front : (w : List ℕ) (end : ℕ) → position is_line_feed w ≡ Some end
    → lines w ≡ take end w ∷ lines (drop (end + 1) w)
line_in_front w end e =
    let rest = drop (end + 1) w in
    let some = pieces_some rest in
    let cut = rw take-append-drop at (first_piece w end rest e) in
    search (arith, cut, some.2, lines_beyond)

not_zero : (n : ℕ) → (suc n == 0) ≡ false
not_zero n = grind (arith, nat_tests)

-- one last piece that isn't empty
pub one_line : (x : ℕ) (xs : List ℕ) → lines_of_pieces ((x ∷ xs) ∷ []) ≡ (x ∷ xs) ∷ []
one_line x xs = ap (λ (b : Bool). cond b [] ((x ∷ xs) ∷ [])) (not_zero (length xs))

pub last_line : (w : List ℕ) → position is_line_feed w ≡ None → 0 < length w → lines w ≡ w ∷ []
last_line w h k = search (arith, one_piece, one_line)

first_line : (x : ℕ) (p : List ℕ) (ps : List (List ℕ)) → (l : List ℕ) × (more : List (List ℕ))
    × (lines_of_pieces ((x ∷ p) ∷ ps) ≡ l ∷ more)
first_line x p [] = (x ∷ p, [], one_line x p)
first_line x p (q ∷ qs) = (x ∷ p, lines_of_pieces (q ∷ qs), refl)

pub some_line : (w : List ℕ) → 0 < length w → (l : List ℕ) × (more : List (List ℕ)) × (lines w ≡ l ∷ more)
some_line [] h = absurd (omega arith)
some_line (x ∷ xs) h = go (is_line_feed x) refl
  where
    rest : (p : List ℕ) × (ps : List (List ℕ)) × (pieces xs ≡ p ∷ ps)
    rest = pieces_some xs

    go : (b : Bool) → is_line_feed x ≡ b → (l : List ℕ) × (more : List (List ℕ)) × (lines (x ∷ xs) ≡ l ∷ more)
    go true e = ([], lines_of_pieces (rest.0 ∷ rest.1), search (arith, slice_split-cons_yes, rest.2))
    go false e = let first = first_line x rest.0 rest.1 in
        (first.0, first.1, search (slice_split-cons_no, rest.2, first.2))

-- ---- bytes that are read in several calls

-- what a reader gave is after what stood there
abbrev pub Gathers : List ℕ → List ℕ → Option (List ℕ) → Option (List ℕ) → Type 0
Gathers old new a b = (more : List ℕ) × (new ≡ old ++ more) × Consumes a b more

pub gathers : (x y z : List ℕ) (a b c : Option (List ℕ)) → Gathers x y a b → Gathers y z b c → Gathers x z a c
gathers x y z a b c p q = search (arith, append_assoc, Consumes-trans)

-- a line that has something in it is in the count
pub in_count : (n : ℕ) (w : List ℕ) → (2 ^ 32 ≤ n → w ≡ []) → 0 < length w → n < 2 ^ 32
in_count n w h k = search arith
