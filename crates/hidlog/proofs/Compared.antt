-- Several logs that are compared, one after the other, and their streams.
use Rattle.std.proofs.Common.{Option, ◌≡◌, ◌+◌, ◌≤◌, ℕ, List, [], ◌++◌, length, take, drop, sym, ap, ◌∙◌, arith}
use Rattle.std.proofs.Common.{take_at, length-take-le, take-append-drop, append_assoc, None, Some, Result, Ok, Err}
use Rattle.std.proofs.Common.{OnOk, is_err, false, ◌⊎◌, zero, suc, min, IfSome, refl, subst, inl, inr, append-nil}
use Rattle.std.proofs.Common.{length-append, ◌<◌, ◌∷◌, get_or, OnErr, true, rules}
use Rattle.std.proofs.lemmas.List.{drop-append-le, drop-take, drop-drop, take_all, length-drop, length-take, drop_all}
use Rattle.std.proofs.lemmas.List.{drop_at, map-append, take_more, append_cancel_right}
use Rattle.std.specs.Io.KnownBytes.{Appends, Consumes, Keeps, append_known, prepend_known}
use Rattle.hidlog.specs.Program.{overwritten_at}
use Rattle.std.specs.Borrow.{Bor}
use Rattle.session_log.specs.Command.{Status, start_with}
use native.Mathlib.Numerals.{unary_clauses}
use Rattle.session_log.specs.Check.{first_comparison, check_history}
use Rattle.session_log.specs.Replay.{fault_of, play_all}
use Rattle.session_log.specs.Replay.{Refused, ending_of_fault}
use Rattle.session_log.specs.declared.fault.LogFault.{LogFault}
use Rattle.hidlog.specs.CommandLine.{to_texts}
use Rattle.hidlog.specs.Program.{FaultText}
use Rattle.hidlog.specs.Program.{Model}
use Rattle.hidlog.specs.Commands.{AreSame, FailsAt, HasFailure, IsSameAt, EndsCheck, HasFault, IsSame}

-- ---- what is held of a stream, as some of it is handed on or more is read

-- the front of what is unread was handed on
pub handed_on : (at n : ℕ) (held out copied : List ℕ) → n ≤ length (drop at held) → copied ≡ take n (drop at held)
    → drop at held ≡ take n (copied ++ drop n out) ++ drop (at + n) held
handed_on at n held out copied fits same =
    sym (take-append-drop n (drop at held))
    ∙ ap (λ l. l ++ drop n (drop at held)) (sym (ap (λ l. take n (l ++ drop n out)) same
    ∙ take_at (take n (drop at held)) (drop n out) n (length-take-le n (drop at held) fits)))
    ∙ ap (λ l. take n (copied ++ drop n out) ++ l) (drop-drop n at held)

-- what was read behind all that was handed on is unread
pub read_after : (a b : Option (List ℕ)) (end n : ℕ) (held : List ℕ) → Consumes a b (take n (drop end held))
    → Keeps a (prepend_known (drop end (take (end + n) held)) b)
read_after None b end n held p = tt
read_after (Some x) None end n held p = absurd p
read_after (Some x) (Some y) end n held p = ap (λ l. l ++ y) (drop-take end n held) ∙ sym p

-- where nothing is unread, nothing was read
pub none_read : (end n : ℕ) (held : List ℕ) → end + n ≤ length held → drop end (take (end + n) held) ≡ [] → n ≡ 0
none_read end n held fits none =
    omega (arith, ap length none, length-drop end (take (end + n) held), length-take (end + n) held)

-- What a target holds back is the end of what it took.

-- some of it was handed on
pub handed : (a t u : Option (List ℕ)) (at n : ℕ) (held : List ℕ) → Keeps a (append_known t (drop at held)) →
    Appends t u (take n (drop at held))
    → Keeps a (append_known u (drop (at + n) held))
handed None t u at n held p q = tt
handed (Some x) None u at n held p q = absurd p
handed (Some x) (Some y) None at n held p q = absurd q
handed (Some x) (Some y) (Some z) at n held p q =
    ap (λ l. l ++ drop (at + n) held) q ∙ append_assoc y (take n (drop at held)) (drop (at + n) held)
    ∙ ap (λ l. y ++ (take n (drop at held) ++ l)) (sym (drop-drop n at held))
    ∙ ap (λ l. y ++ l) (take-append-drop n (drop at held)) ∙ p

-- a piece is held back, too
pub held_back : (t : Option (List ℕ)) (at : ℕ) (held more piece : List ℕ) → at ≤ length held → more ≡ held ++ piece
    → Appends (append_known t (drop at held)) (append_known t (drop at more)) (take (length piece) piece)
held_back None at held more piece p q = tt
held_back (Some x) at held more piece p q =
    ap (λ l. x ++ drop at l) q ∙ ap (λ l. x ++ l) (drop-append-le at held piece p)
    ∙ sym (append_assoc x (drop at held) piece)
    ∙ ap (λ l. (x ++ drop at held) ++ l) (sym (take_all (length piece) piece (omega arith)))

-- ---- a file that is written over

-- behind the end a piece is appended
at_end : (has piece : List ℕ) (old : ℕ) → length has ≡ old → overwritten_at has old piece ≡ has ++ piece
at_end has piece old e =
    ap (λ l. l ++ (piece ++ drop (old + length piece) has)) (take_all old has (omega (arith, e)))
    ∙ ap (λ l. has ++ (piece ++ l)) (drop_all (old + length piece) has (omega (arith, e)))
    ∙ ap (λ l. has ++ l) (append-nil piece)

next : (m n : ℕ) → (m ≤ n) ⊎ (n ≤ m) → (suc m ≤ suc n) ⊎ (suc n ≤ suc m)
next m n (inl p) = inl (omega (arith, p))
next m n (inr p) = inr (omega (arith, p))

either : (m n : ℕ) → (m ≤ n) ⊎ (n ≤ m)
either zero n = inl (omega arith)
either (suc m) zero = inr (omega arith)
either (suc m) (suc n) = next m n (either m n)

-- what the file is too short for was appended, and the others are written over its front
whole_by : (has bytes : List ℕ) (old shared : ℕ) → length has ≡ old → shared ≡ min old (length bytes)
    → (old ≤ length bytes) ⊎ (length bytes ≤ old)
    → take (length bytes) (take shared bytes ++ drop (0 + length (take shared bytes)) (has ++ drop shared bytes))
    ≡ bytes
whole_by has bytes old shared e s (inl p) =
    ap (λ l. take (length bytes) (take shared bytes ++ l))
    (drop_at has (drop shared bytes) (0 + length (take shared bytes))
    (omega (arith, e, s, p, length-take shared bytes)))
    ∙ ap (take (length bytes)) (take-append-drop shared bytes)
    ∙ take_all (length bytes) bytes (omega arith)
whole_by has bytes old shared e s (inr p) =
    ap (λ l. take (length bytes) (l ++ drop (0 + length (take shared bytes)) (has ++ drop shared bytes)))
    (take_all shared bytes (omega (arith, s, p)))
    ∙ take_at bytes (drop (0 + length (take shared bytes)) (has ++ drop shared bytes)) (length bytes) refl

-- its length then is at least that of the bytes
long_by : (has bytes : List ℕ) (old shared : ℕ) → length has ≡ old → shared ≡ min old (length bytes)
    → length bytes ≤ length (take shared bytes ++ drop (0 + length (take shared bytes)) (has ++ drop shared bytes))
long_by has bytes old shared e s =
    omega (
      arith,
      e,
      s,
      length-append (take shared bytes) (drop (0 + length (take shared bytes)) (has ++ drop shared bytes)),
      length-drop (0 + length (take shared bytes)) (has ++ drop shared bytes),
      length-append has (drop shared bytes),
      length-take shared bytes,
      length-drop shared bytes,
    )

written_whole : (a b c d : Option (List ℕ)) (bytes : List ℕ) (old shared : ℕ)
    → IfSome a (λ has. length has ≡ old) → shared ≡ min old (length bytes)
    → IfSome a (λ has. old ≤ length has → b ≡ Some (overwritten_at has old (drop shared bytes)))
    → IfSome b (λ has. 0 ≤ length has → c ≡ Some (overwritten_at has 0 (take shared bytes)))
    → IfSome c (λ has. length bytes ≤ length has → d ≡ Some (take (length bytes) has))
    → IfSome a (λ _. d ≡ Some bytes)
written_whole None b c d bytes old shared size s first second last = tt
written_whole (Some has) b c d bytes old shared size s first second last =
    let one : b ≡ Some (has ++ drop shared bytes) = first (omega (arith, size))
    ∙ ap Some (at_end has (drop shared bytes) old size) in
    let two : c ≡ Some (overwritten_at (has ++ drop shared bytes) 0 (take shared bytes)) = subst
    (λ k. IfSome k (λ has. 0 ≤ length has → c ≡ Some (overwritten_at has 0 (take shared bytes)))) one second (omega arith) in
    subst (λ k. IfSome k (λ has. length bytes ≤ length has → d ≡ Some (take (length bytes) has))) two last
    (long_by has bytes old shared size s)
    ∙ ap Some (whole_by has bytes old shared size s (either old (length bytes)))

pub written_over : {E F : Type 0} (r : Result (Unit {0}) E) (q : Result (Unit {0}) F) (a b c d : Option (List ℕ))
    (bytes front more : List ℕ)
    (old shared : ℕ) → front ≡ take shared bytes → more ≡ drop shared bytes
    → IfSome a (λ has. length has ≡ old) → shared ≡ min old (length bytes)
    → is_err q ≡ false → OnOk q (IfSome a (λ has. old ≤ length has → b ≡ Some (overwritten_at has old more)))
    → IfSome b (λ has. 0 ≤ length has → c ≡ Some (overwritten_at has 0 front))
    → OnOk r (IfSome c (λ has. length bytes ≤ length has → d ≡ Some (take (length bytes) has)))
    → OnOk r (IfSome a (λ _. d ≡ Some bytes))
written_over (Err x) q a b c d bytes front more old shared f m size s is first second last = tt
written_over (Ok x) (Err y) a b c d bytes front more old shared f m size s is first second last =
    absurd (grind (arith, is))
written_over (Ok x) (Ok y) a b c d bytes front more old shared f m size s is first second last =
    written_whole a b c d bytes old shared size s
    (subst (λ l. IfSome a (λ has. old ≤ length has → b ≡ Some (overwritten_at has old l))) m first)
    (subst (λ l. IfSome b (λ has. 0 ≤ length has → c ≡ Some (overwritten_at has 0 l))) f second)
    last

-- Where the length isn't known before, the size is a premise.
pub where_sized : {E : Type 0} (r : Result (Unit {0}) E) (a d : Option (List ℕ)) (bytes : List ℕ) (old : ℕ)
    → (IfSome a (λ has. length has ≡ old) → OnOk r (IfSome a (λ _. d ≡ Some bytes)))
    → OnOk r (IfSome a (λ has. length has ≡ old → d ≡ Some bytes))
where_sized (Err x) a d bytes old f = tt
where_sized (Ok x) None d bytes old f = tt
where_sized (Ok x) (Some has) d bytes old f = λ size. f size

-- ---- several logs that are compared, one after the other

pub on_ok : {P : Type 0} (r : Status) → P → OnOk r P
on_ok (Ok x) h = h
on_ok (Err code) h = tt

pub of_ok : {P : Type 0} (r : Status) → is_err r ≡ false → OnOk r P → P
of_ok (Ok x) none h = h
of_ok (Err code) some h = cc

pub on_err : {P : Type 0} (r : Status) → is_err r ≡ true → OnErr r P → P
on_err (Ok x) none h = cc
on_err (Err code) some h = h

-- the texts of one path more
next_texts : (paths : List (Bor (List ℕ))) (place : ℕ) (d : Bor (List ℕ)) → place < length paths →
    to_texts (take (place + 1) paths) ≡ to_texts (take place paths) ++ (get_or paths place d).now ∷ []
next_texts paths place d below =
    ap to_texts (take_more paths place d below)
    ∙ map-append (λ (w : Bor (List ℕ)). w.now) (take place paths) (get_or paths place d ∷ [])

-- the texts of some paths, and of the others
all_texts : (paths : List (Bor (List ℕ))) (place : ℕ) →
    to_texts paths ≡ to_texts (take place paths) ++ to_texts (drop place paths)
all_texts paths place =
    ap to_texts (sym (take-append-drop place paths)) ∙ map-append (λ (w : Bor (List ℕ)). w.now) (take place paths) (drop place paths)

module _ {D I O F : Type 0} (model : Model D I O F) where
  -- one after several others
  one_more_same : (load : Option (List ℕ)) (files : D) (logs : List (List ℕ)) (log : List ℕ) (input between after : I) →
      AreSame model load files logs (input, between)
      → IsSameAt model load files log (between, after) → AreSame model load files (logs ++ log ∷ []) (input, after)
  one_more_same load files [] log input between after are is =
      (after, subst (λ (i : I). IsSameAt model load files log (i, after)) are is, refl)
  one_more_same load files (first ∷ logs) log input between after are is =
      (are.0, are.1, one_more_same load files logs log are.0 between after are.2 is)

  -- the next of several, where it didn't fail
  pub next_same : (load : Option (List ℕ)) (files files' : D) (paths : List (Bor (List ℕ))) (place : ℕ)
      (d : Bor (List ℕ)) (r : Status) (input between after : I) → place < length paths → files' ≡ files
      → AreSame model load files (to_texts (take place paths)) (input, between) → is_err r ≡ false
      → OnOk r (IsSameAt model load files' (get_or paths place d).now (between, after)) →
      AreSame model load files (to_texts (take (place + 1) paths)) (input, after)
  next_same load files files' paths place d (Err code) input between after below same are none is = cc
  next_same load files files' paths place d (Ok x) input between after below same are none is =
      subst (λ (logs : List (List ℕ)). AreSame model load files logs (input, after)) (sym (next_texts paths place d below))
      (one_more_same load files (to_texts (take place paths)) (get_or paths place d).now input between after are
      (subst (λ (f : D). IsSameAt model load f (get_or paths place d).now (between, after)) same is))

  -- a failure stays one where more logs follow
  pub more_failures : (load : Option (List ℕ)) (files : D) (logs more : List (List ℕ)) (input : I) →
      HasFailure model load files logs input → HasFailure model load files (logs ++ more) input
  more_failures load files [] more input fails = elim fails [ ]
  more_failures load files (log ∷ logs) more input (inl fails) = inl fails
  more_failures load files (log ∷ logs) more input (inr later) =
      inr (later.0, later.1, more_failures load files logs more later.0 later.2)

  -- a failure after several that are the same
  pub first_failure : (load : Option (List ℕ)) (files : D) (logs : List (List ℕ)) (log : List ℕ) (told : FaultText)
      (input between after : I) → AreSame model load files logs (input, between)
      → FailsAt model load files log told (between, after) → HasFailure model load files (logs ++ log ∷ []) input
  first_failure load files [] log told input between after are fails =
      inl (told, after, subst (λ (i : I). FailsAt model load files log told (i, after)) are fails)
  first_failure load files (first ∷ logs) log told input between after are fails =
      inr (are.0, are.1, first_failure load files logs log told are.0 between after are.2 fails)

  -- a failure among the first stays one where the next follows
  still : (load : Option (List ℕ)) (files : D) (paths : List (Bor (List ℕ))) (place : ℕ) (input : I) →
      HasFailure model load files (to_texts (take place paths)) input →
      HasFailure model load files (to_texts (take (suc place) paths)) input
  still load files [] zero input fails = elim fails [ ]
  still load files [] (suc n) input fails = elim fails [ ]
  still load files (path ∷ paths) zero input fails = elim fails [ ]
  still load files (path ∷ paths) (suc n) input (inl fails) = inl fails
  still load files (path ∷ paths) (suc n) input (inr later) =
      inr (later.0, later.1, still load files paths n later.0 later.2)

  pub next_still : (load : Option (List ℕ)) (files : D) (paths : List (Bor (List ℕ))) (place : ℕ) (input : I) →
      HasFailure model load files (to_texts (take place paths)) input →
      HasFailure model load files (to_texts (take (place + 1) paths)) input
  next_still load files paths place input fails = simp unary_clauses (still load files paths place input fails)

  -- the next one fails where none has failed
  pub next_fails : (load : Option (List ℕ)) (files files' : D) (paths : List (Bor (List ℕ))) (place : ℕ)
      (d : Bor (List ℕ)) (told : FaultText) (input between after : I) → place < length paths → files' ≡ files
      → AreSame model load files (to_texts (take place paths)) (input, between)
      → FailsAt model load files' (get_or paths place d).now told (between, after) →
      HasFailure model load files (to_texts (take (place + 1) paths)) input
  next_fails load files files' paths place d told input between after below same are fails =
      subst (λ (logs : List (List ℕ)). HasFailure model load files logs input) (sym (next_texts paths place d below))
      (first_failure load files (to_texts (take place paths)) (get_or paths place d).now told input between after are
      (subst (λ (f : D). FailsAt model load f (get_or paths place d).now told (between, after)) same fails))

  -- a failure among the first is one among all
  pub all_fail : (load : Option (List ℕ)) (files : D) (paths : List (Bor (List ℕ))) (place : ℕ) (input : I) →
      HasFailure model load files (to_texts (take place paths)) input → HasFailure model load files (to_texts paths) input
  all_fail load files paths place input fails =
      subst (λ (logs : List (List ℕ)). HasFailure model load files logs input) (sym (all_texts paths place))
      (more_failures load files (to_texts (take place paths)) (to_texts (drop place paths)) input fails)

-- An error of a log excludes that the log has no difference: what a key sends for the bytes that were read decides.
module _ {D I O F : Type 0} (model : Model D I O F) where
  -- the bytes between two states of a source
  same_bytes : (old new : Option (List ℕ)) (text rest xs ys : List ℕ) → old ≡ Some text → new ≡ Some rest →
      Consumes old new xs → Consumes old new ys → xs ≡ ys
  same_bytes old new text rest xs ys from to one other =
      let one_is : text ≡ xs ++ rest = subst (λ n. Consumes (Some text) n xs) to (subst (λ o. Consumes o new xs) from one) in
      let other_is : text ≡ ys ++ rest = subst (λ n. Consumes (Some text) n ys) to (subst (λ o. Consumes o new ys) from other) in
      append_cancel_right xs ys rest (sym one_is ∙ other_is)

  pub same_has_no_fault : (files : D) (fault : LogFault) (input : I × I) (text rest : List ℕ)
      → model.left input.0 ≡ Some text → model.left input.1 ≡ Some rest → ending_of_fault fault ≡ Refused fault
      → IsSame model None files input → HasFault model None files fault input → ⊥
  same_has_no_fault files fault input text rest from to is_own same other =
      let rows : other.0 ≡ same.0 = other.2 ∙ sym same.2 in
      let bytes : other.1 ≡ same.1 = same_bytes _ _ text rest _ _ from to other.3 same.3 in
      let ends = subst (λ e. EndsCheck model other.0 e other.1 input) is_own other.4 in
      let found : fault_of (check_history (start_with same.0)) (play_all (check_history (start_with same.0)) (first_comparison []) same.1)
      ≡ Some fault = subst (λ r. fault_of (check_history (start_with r)) (play_all (check_history (start_with r)) (first_comparison []) same.1)
      ≡ Some fault) rows (subst (λ b. fault_of (check_history (start_with other.0)) (play_all (check_history (start_with other.0)) (first_comparison []) b)
      ≡ Some fault) bytes ends) in
      let none : None ≡ Some fault = sym same.4 ∙ found in
      search rules
