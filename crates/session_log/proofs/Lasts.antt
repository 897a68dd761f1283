-- How far was read where a line is faulty.
use Rattle.std.proofs.Common.{◌≡◌, ℕ, suc, ◌+◌, ◌≤◌, ◌^◌, List, [], ◌∷◌, ◌++◌, length, take, drop, Option, Some, Result}
use Rattle.std.proofs.Common.{Ok, Err, inl, inr, IfErr, refl, sym, ap, ◌∙◌, arith, append-nil, length-append}
use Rattle.std.{proofs.Common.take-append-drop, specs.Io.KnownBytes.Consumes}
use Rattle.session_log.specs.{declared.fault.LogFault.LogFault, Semantics.LineSemantics, Replay.line_fault, Lines.HasLine, Lines.Stops}
use Rattle.session_log.specs.declared.fault.LogFault.TheVariants.{TooLong, Read, Write, TooManyLines, Memory}
use Rattle.session_log.specs.Replay.{ending_of_fault, ending_of}
use Rattle.session_log.specs.Lines.{pieces, all_but_last, whole_lines, last_piece}
use Rattle.session_log.specs.Replay.{IsWithinLine, IsLineFault, IsFaultOfLinesRead, PlaysLine, ReadsTo}
use Rattle.session_log.proofs.Cutting.{first_piece, one_piece, pieces_some, front_of, last_is}
use Rattle.session_log.proofs.{Through.short_in_front, Through.Through, Through.played_faulty, Through.said_fault}

length-all_but_last : {A : Type 0} (x : A) (xs : List A) → length (all_but_last (x ∷ xs)) ≡ length xs
length-all_but_last x [] = refl
length-all_but_last x (y ∷ ys) = ap suc (length-all_but_last y ys)

after_some : (done : List (List ℕ)) (x y : List ℕ) (more : List (List ℕ))
    → length done + 1 ≤ length (all_but_last (done ++ x ∷ y ∷ more))
after_some [] x y more = omega (arith, length-all_but_last x (y ∷ more))
after_some (d ∷ ds) x y more = search (arith, length-all_but_last, length-append)

first_lines : (done : List (List ℕ)) (x y : List ℕ) (more : List (List ℕ))
    → take (suc (length done)) (all_but_last (done ++ x ∷ y ∷ more)) ≡ done ++ x ∷ []
first_lines [] x y more = refl
first_lines (d ∷ []) x y more = refl
first_lines (d ∷ e ∷ ds) x y more = ap (λ (l : List (List ℕ)). d ∷ l) (first_lines (e ∷ ds) x y more)

module _ {S : Type 0} {semantics : LineSemantics S} {s0 : S} {read text : List ℕ} {s : S} {n : ℕ}
    (t : Through semantics s0 read text s n) where
  -- line n is one of the whole lines, and up to it they have its fault
  shown : (w : List ℕ) (end : ℕ) (all : Type 0) (f : LogFault) → HasLine n w end
      → line_fault semantics n s (take end w) ≡ Some f → IsFaultOfLinesRead semantics s0 (read ++ w) all n f
  shown w end all f has bad =
      let line = take end w in
      let rest = pieces_some (drop (end + 1) w) in
      let cut : pieces w ≡ line ∷ rest.0 ∷ rest.1 =
      ap pieces (sym (take-append-drop (end + 1) w)) ∙ first_piece w end (drop (end + 1) w) has.feed
      ∙ ap (λ (l : List (List ℕ)). line ∷ l) rest.2 in
      let is : whole_lines (read ++ w) ≡ all_but_last (t.done ++ line ∷ rest.0 ∷ rest.1) = rw (t.cut w, cut) refl in
      let count : n ≡ suc (length t.done) = omega (arith, t.count) in
      let upto : take n (whole_lines (read ++ w)) ≡ t.done ++ line ∷ [] =
      (λ i. take (count i) (is i)) ∙ first_lines t.done line rest.0 rest.1 in
      let stop = played_faulty semantics n s line [] f bad in
      inl (
        omega (arith, t.count, ap length is, after_some t.done line rest.0 rest.1),
        rw (upto, t.plays (line ∷ []), stop) refl,
      )

  -- the lines that were played stand before the window
  near : (w : List ℕ) → length w ≤ 256 → IsWithinLine semantics s0 (read ++ w) n
  near w small =
      let cut : pieces read ≡ t.done ++ [] ∷ [] = cc (append-nil read, t.cut []) in
      grind (arith, front_of t.done [], last_is t.done [], append-nil t.done, t.plays [], t.count)

-- a line that was played was faulty
faulty_reaches : {S : Type 0} {semantics : LineSemantics S} {s0 : S} {bytes : List ℕ} {n : ℕ} (a b : Option (List ℕ)) (all : Type 0)
    (e : LogFault) → IsLineFault n e → Consumes a b bytes → IsWithinLine semantics s0 bytes n → IsFaultOfLinesRead semantics s0 bytes all n e
    → ReadsTo semantics s0 a b all (ending_of_fault e)
faulty_reaches a b all e is p near seen = search (arith, near)

module _ {S : Type 0} {semantics : LineSemantics S} {s0 s : S} {read text : List ℕ} {n : ℕ}
    (through : Through semantics s0 read text s n)
    (a b : Option (List ℕ)) (w : List ℕ) (p : Consumes a b (read ++ w)) (all : Type 0) where
  -- in front of the window
  pub faulty_in_front : {F : Type 0} (taken : F → Option (List ℕ)) (failed : F → ℕ) (target : F
      × F) (t : S) (end : ℕ) (e : LogFault) → IsLineFault n e → HasLine n w end
      → PlaysLine semantics taken failed n s t (take end w) target (ending_of_fault e) → ReadsTo semantics s0 a b all (ending_of_fault e)
  faulty_in_front taken failed target t end (Read m) is has h = tt
  faulty_in_front taken failed target t end Write is has h = tt
  faulty_in_front taken failed target t end (TooLong m) is has h = absurd is
  faulty_in_front taken failed target t end TooManyLines is has h = absurd is
  faulty_in_front taken failed target t end (Memory m) is has h = absurd is
  faulty_in_front taken failed target t end e is has h =
      let faulty = said_fault semantics n s (take end w) has.counted (short_in_front w n end has) ∙ h.0 in
      faulty_reaches a b all e is p (near through w has.short) (shown through w end all e has faulty)

  -- as all that there was
  pub faulty_last : {A : Type 0} (r : Result A LogFault) → IfErr r (IsLineFault n) → length w ≤ 256 → all
      → ReadsTo semantics s0 a b all (ending_of r)
  faulty_last (Ok x) is small last = tt
  faulty_last (Err e) is small last = faulty_reaches a b all e is p (near through w small) (inr last)

  -- no line could be read
  pub none_bad : (e : LogFault) → n ≤ 2 ^ 32 → Stops n w e → ReadsTo semantics s0 a b all (ending_of_fault e)
  none_bad Write most h = tt
  none_bad (Read m) most h = tt
  none_bad (TooLong m) most h =
      let cut : pieces (read ++ w) ≡ through.done ++ w ∷ [] = cc (through.cut w, one_piece w h.2) in
      let whole : whole_lines (read ++ w) ≡ through.done = cc (front_of through.done w) in
      let last : last_piece (read ++ w) ≡ w = cc (last_is through.done w) in
      (read ++ w, p, (rw h.0 (near through w (omega (arith, h.3))), cc (through.count, h.0), cc (h.3)))
  none_bad TooManyLines most h =
      let is : n ≡ 2 ^ 32 = omega (arith, h.0, most) in (read ++ w, p, rw is at (near through w h.2))
  none_bad e most h = absurd h
