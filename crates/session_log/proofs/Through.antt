-- Lines that are read and played one by one, and how that ends.
use Rattle.std.proofs.Common.{◌≡◌, ℕ, ◌+◌, ◌≤◌, ◌<◌, ◌^◌, nat_le, nat_lt, Bool, true, false, cond, List, [], ◌∷◌}
use Rattle.std.proofs.Common.{◌++◌, length, take, position, Option, Some, None, is_none, refl, sym, ap, ◌∙◌, arith}
use Rattle.std.proofs.Common.{append_assoc, append-nil, length-append, suc, ◌==◌, decimal, flat_map, ◌≢◌, OnOk}
use Rattle.std.proofs.Common.{Result, Err, Ok, drop, take-append-drop}
use Rattle.std.proofs.lemmas.Bool.{le-leb, le-ltb, lt-leb, lt-ltb, ne_eqb}
use Rattle.session_log.specs.declared.fault.LogFault.{LogFault}
use Rattle.session_log.specs.declared.fault.LogFault.TheVariants.{TooLong, TooManyLines, Read, Write}
use Rattle.session_log.specs.Grammar.{parsed}
use Rattle.session_log.specs.Semantics.{LineSemantics}
use Rattle.session_log.specs.Lines.{IsUnfinished, Stops, HasLine}
use Rattle.session_log.specs.Replay.{SendsPackets, AllSend}
use Rattle.session_log.specs.Lines.{is_line_feed, pieces, lines, lines_of_pieces}
use Rattle.session_log.specs.Replay.{line_text, last_text, state_after, Played, with_text_before, played, play_all}
use Rattle.session_log.specs.Replay.{output_of, first_fault, fault_of, parsed_line_fault, line_fault}
use Rattle.session_log.specs.Replay.{IsRefused, IsUnread, IsUnwritten, IsPlayed, PlaysLine, IsDone, Plays}
use Rattle.session_log.proofs.Cutting.{first_piece, one_piece, pieces_some, lines_beyond, front_of, last_is}
use Rattle.session_log.proofs.Cutting.{last_line, line_in_front, short_front, some_line}
use Rattle.std.proofs.lemmas.Fmt.{decimal_is_IsNumeral}
use Rattle.std.proofs.lemmas.List.Splits.{slice_split-cons_yes, slice_split-cons_no}
use Rattle.std.specs.Char.{digit_value}
use Rattle.std.specs.Str.Parse.{AllDigits}
use Rattle.std.specs.List.{AllPass, onto_first}
use Rattle.hex.specs.Hex.{is_hex_digit}
use Rattle.session_log.proofs.Cutting.{no_some}
use Rattle.session_log.specs.Semantics.{with_line_feed}
use Rattle.session_log.specs.Replay.{Ending, ending_of_fault, read_fails, write_fails, ending_of}
use Rattle.std.specs.Io.KnownBytes.{Consumes, Appends, Keeps}
use Rattle.std.proofs.KnownBytes.{Appends-trans, Appends-kept, Consumes-trans}
use Rattle.session_log.specs.Lines.{ReadsAndWrites, WritesAll, WriteFails}
use Rattle.session_log.proofs.Cutting.{in_count}

-- ---- what has been played when lines were read and played one by one

-- The bytes read are whole lines, none of them faulty: this text was written for them, and the session stands at s
-- before line n.
pub record Through {S : Type 0} (semantics : LineSemantics S) (s0 : S) (read text : List ℕ) (s : S) (n : ℕ) : Type 0 where
  pub done : List (List ℕ)
  pub cut : (tail : List ℕ) → pieces (read ++ tail) ≡ done ++ pieces tail
  pub count : n ≡ length done + 1
  pub plays : (more : List (List ℕ)) → played semantics 1 s0 (done ++ more) ≡ with_text_before text (played semantics n s more)
  pub sends : (more : List (List ℕ)) → AllSend semantics s more → AllSend semantics s0 (done ++ more)

pub through_none : {S : Type 0} (semantics : LineSemantics S) (s : S) → Through semantics s [] [] s 1
through_none semantics s = record { done = []; cut = λ tail. refl; count = refl; plays = λ more. refl; sends = λ more h. h }

module _ {S : Type 0} (semantics : LineSemantics S) (n : ℕ) (s : S) (line : List ℕ) (more : List (List ℕ)) where
  -- a line that isn't faulty is played
  pub played_sound : line_fault semantics n s line ≡ None → played semantics n s (line ∷ more)
      ≡ with_text_before (line_text semantics s line) (played semantics (n + 1) (state_after semantics s line) more)
  played_sound e = rw e refl

  -- a faulty one ends the log
  pub played_faulty : (f : LogFault) → line_fault semantics n s line ≡ Some f
      → played semantics n s (line ∷ more) ≡ record { text = []; fault = Some f; state = s }
  played_faulty f e = rw e refl

pub prefixed_twice : {S : Type 0} (a b : List ℕ) (p : Played S) → with_text_before a (with_text_before b p) ≡ with_text_before (a ++ b) p
prefixed_twice a b p = λ i. record { text = sym (append_assoc a b p.text) i; fault = p.fault; state = p.state }

module _ {S : Type 0} {semantics : LineSemantics S} {s0 : S} {read text : List ℕ} {s : S} {n : ℕ}
    (t : Through semantics s0 read text s n) where
  pub through_line : (w : List ℕ) (end : ℕ) → position is_line_feed w ≡ Some end → line_fault semantics n s (take end w) ≡ None
      → SendsPackets semantics s (parsed (take end w))
      → Through semantics s0 (read ++ take (end + 1) w) (text ++ line_text semantics s (take end w)) (state_after semantics s (take end w))
      (n + 1)
  through_line w end feed sound packets =
      let line = take end w in
      record {
        done = t.done ++ line ∷ [];
        cut = λ tail. simp (append_assoc, t.cut, first_piece w end tail feed);
        count = omega (arith, t.count, length-append t.done (line ∷ []));
        plays = λ more. rw (append_assoc, t.plays, played_sound semantics n s line more sound) (prefixed_twice text _ _);
        sends = λ more h. rw append_assoc (t.sends (line ∷ more) (packets, h));
      }

  -- the lines of all that was read
  pub lines_are : (w : List ℕ) → lines (read ++ w) ≡ t.done ++ lines w
  lines_are w = let some = pieces_some w in rw (t.cut w, some.2) (lines_beyond t.done some.0 some.1)

  pub playing_is : (w : List ℕ) → play_all semantics s0 (read ++ w) ≡ with_text_before text (played semantics n s (lines w))
  playing_is w = ap (played semantics 1 s0) (lines_are w) ∙ t.plays (lines w)

-- the fault of a line is the first, and what is wrong after the last line is where no line is faulty
pub first_is_line : (last : Option LogFault) (f : LogFault) → first_fault last (Some f) ≡ Some f
first_is_line last f = search arith

pub first_is_last : {S : Type 0} (semantics : LineSemantics S) (s0 s : S) (bytes text : List ℕ) (o : Option LogFault)
    → IsPlayed semantics s0 s bytes text → semantics.lacks s ≡ o → fault_of semantics (play_all semantics s0 bytes) ≡ o
first_is_last semantics s0 s bytes text o h k = search arith

module _ {S : Type 0} {semantics : LineSemantics S} {s0 : S} {read text : List ℕ} {s : S} {n : ℕ}
    (t : Through semantics s0 read text s n) where
  -- the first line of the window is faulty
  pub refused : (w line : List ℕ) (more : List (List ℕ)) (f : LogFault) → lines w ≡ line ∷ more
      → line_fault semantics n s line ≡ Some f → IsRefused semantics s0 s (read ++ w) text f
  refused w line more f e bad = search (arith, playing_is t, played_faulty, first_is_line, append-nil)

  -- reading failed in the window's line
  pub unread : (w : List ℕ) → IsUnfinished n w → IsUnread semantics s0 s (read ++ w) text n
  unread w u =
      grind (arith, one_piece w u.no_feed, front_of t.done w, last_is t.done w, append-nil t.done, append-nil text)

  -- the text of the window's first line broke off
  pub unwritten : (w line : List ℕ) (more : List (List ℕ)) (front rest : List ℕ) → lines w ≡ line ∷ more
      → line_fault semantics n s line ≡ None → line_text semantics s line ≡ front ++ rest → 0 < length rest
      → IsUnwritten semantics s0 (state_after semantics s line) (read ++ w) (text ++ front)
  unwritten w line more front rest e sound broken missing =
      let is : played semantics 1 s0 t.done ≡ with_text_before text (played semantics n s []) =
      ap (played semantics 1 s0) (sym (append-nil t.done)) ∙ t.plays [] in
      let stood : (played semantics 1 s0 t.done).state ≡ s = ap (λ (p : Played S). p.state) is in
      let others = played semantics (n + 1) (state_after semantics s line) more in
      let all : play_all semantics s0 (read ++ w) ≡ with_text_before text (with_text_before (line_text semantics s line) others) =
      playing_is t w ∙ rw (e, played_sound semantics n s line more sound) refl in
      let tail = cond (is_none others.fault) (last_text semantics others.state) [] in
      record {
        first = t.done;
        others = line ∷ more;
        front = front;
        rest = rest;
        cut = rw e at (lines_are t w);
        faultless = ap (λ (p : Played S). p.fault) is;
        written = search (arith, is, append-nil text);
        broken = rw stood broken;
        missing = missing;
        stands = rw stood refl;
        beginning = ((rest ++ others.text) ++ tail, ap (output_of semantics) all ∙ rw broken (simp append_assoc));
      }

pub log_is : {S : Type 0} (semantics : LineSemantics S) (q : Played S) (s : S) (text : List ℕ) → q.fault ≡ None → text ≡ q.text
    → s ≡ q.state → output_of semantics q ≡ text ++ last_text semantics s
log_is {S} semantics q s text faultless written stands = search arith

-- all was played, and the meters line broke off
pub unwritten_end : {S : Type 0} (semantics : LineSemantics S) (s0 s : S) (bytes text front rest : List ℕ)
    → IsPlayed semantics s0 s bytes text → last_text semantics s ≡ front ++ rest → 0 < length rest
    → IsUnwritten semantics s0 s bytes (text ++ front)
unwritten_end {S} semantics s0 s bytes text front rest p broken missing =
    grind (arith, append-nil (lines bytes), append_assoc text front rest)

module _ {S : Type 0} {semantics : LineSemantics S} {s0 : S} {read text : List ℕ} {s : S} {n : ℕ}
    (t : Through semantics s0 read text s n) where
  -- the last line was played
  pub played_last : (w : List ℕ) → lines w ≡ w ∷ [] → line_fault semantics n s w ≡ None → SendsPackets semantics s (parsed w)
      → IsPlayed semantics s0 (state_after semantics s w) (read ++ w) (text ++ line_text semantics s w)
  played_last w e sound packets =
      grind (arith, playing_is t w, played_sound semantics n s w, lines_are t w, append-nil (line_text semantics s w))

  -- nothing was left to play
  pub played_none : IsPlayed semantics s0 s (read ++ []) text
  played_none = grind (arith, playing_is t, lines_are t, append-nil text)

-- which fault a line has
abbrev chosen : ℕ → Bool → Bool → Option LogFault → Option LogFault
chosen n many long other = cond many (Some TooManyLines) (cond long (Some (TooLong n)) other)

module _ {S : Type 0} (semantics : LineSemantics S) (n : ℕ) (s : S) (line : List ℕ) where
  tests : (many long : Bool) → nat_le (2 ^ 32) n ≡ many → nat_lt 255 (length line) ≡ long
      → line_fault semantics n s line ≡ chosen n many long (parsed_line_fault semantics n s (parsed line))
  tests many long p q = λ i. chosen n (p i) (q i) (parsed_line_fault semantics n s (parsed line))

  -- a line that is in the count and short has the fault of what it says
  pub said_fault : n < 2 ^ 32 → length line < 256 → line_fault semantics n s line ≡ parsed_line_fault semantics n s (parsed line)
  said_fault few short = tests false false (lt-leb (2 ^ 32) n few) (le-ltb 255 (length line) (omega arith))

  pub too_long : n < 2 ^ 32 → 256 ≤ length line → line_fault semantics n s line ≡ Some (TooLong n)
  too_long few long = tests false true (lt-leb (2 ^ 32) n few) (lt-ltb 255 (length line) (omega arith))

  pub too_many : 2 ^ 32 ≤ n → line_fault semantics n s line ≡ Some TooManyLines
  too_many many = tests true (nat_lt 255 (length line)) (le-leb (2 ^ 32) n many) refl

-- ---- lines with no line feed in them: what they are joined to is cut into them again

abbrev pub feedless : List ℕ → Bool
feedless [] = true
feedless (x ∷ xs) = cond (is_line_feed x) false (feedless xs)

abbrev pub AreLines : List (List ℕ) → Type 0
AreLines [] = Unit {0}
AreLines (line ∷ more) = (feedless line ≡ true) × AreLines more

pub both : (b c : Bool) → cond b false c ≡ true → (b ≡ false) × (c ≡ true)
both b c h = search arith

pub joined : (b c : Bool) → b ≡ false → c ≡ true → cond b false c ≡ true
joined b c h k = λ i. cond (h i) false (k i)

pub feedless-append : (xs ys : List ℕ) → feedless xs ≡ true → feedless ys ≡ true → feedless (xs ++ ys) ≡ true
feedless-append [] ys h k = k
feedless-append (x ∷ xs) ys h k =
    let parts = both (is_line_feed x) (feedless xs) h in
    joined (is_line_feed x) (feedless (xs ++ ys)) parts.0 (feedless-append xs ys parts.1 k)

pub AreLines-append : (xs ys : List (List ℕ)) → AreLines xs → AreLines ys → AreLines (xs ++ ys)
AreLines-append [] ys h k = k
AreLines-append (x ∷ xs) ys h k = (h.0, AreLines-append xs ys h.1 k)

-- cutting what was joined

cut_line : (line tail : List ℕ) → feedless line ≡ true → pieces (line ++ 10 ∷ tail) ≡ line ∷ pieces tail
cut_line [] tail h = slice_split-cons_yes is_line_feed 10 tail refl
cut_line (x ∷ xs) tail h =
    let parts = both (is_line_feed x) (feedless xs) h in
    slice_split-cons_no is_line_feed x (xs ++ 10 ∷ tail) parts.0 ∙ ap (onto_first x) (cut_line xs tail parts.1)

pieces_joined : (ls : List (List ℕ)) → AreLines ls → pieces (flat_map with_line_feed ls) ≡ ls ++ [] ∷ []
pieces_joined [] h = refl
pieces_joined (line ∷ more) h = search (arith, append_assoc, cut_line, pieces_joined more h.1)

pub lines_joined : (ls : List (List ℕ)) → AreLines ls → lines (flat_map with_line_feed ls) ≡ ls
lines_joined ls h = ap lines_of_pieces (pieces_joined ls h) ∙ lines_beyond ls [] [] ∙ append-nil ls

-- the lines of any bytes have no line feed

pieces_are : (bytes : List ℕ) → AreLines (pieces bytes)
pieces_are [] = (refl, tt)
pieces_are (x ∷ xs) =
    let some = pieces_some xs in
    let h = pieces_are xs in
    search (arith, slice_split-cons_yes, slice_split-cons_no, joined)

last_are : (line : List ℕ) (b : Bool) → feedless line ≡ true → AreLines (cond b [] (line ∷ []))
last_are line b h = search arith

whole_are : (ps : List (List ℕ)) → AreLines ps → AreLines (lines_of_pieces ps)
whole_are [] h = tt
whole_are (p ∷ []) h = last_are p (length p == 0) h.0
whole_are (p ∷ q ∷ more) h = (h.0, whole_are (q ∷ more) h.1)

pub lines_are_lines : (bytes : List ℕ) → AreLines (lines bytes)
lines_are_lines bytes = whole_are (pieces bytes) (pieces_are bytes)

-- digits are no line feeds

digit_no_feed : (c : ℕ) → digit_value c < 10 → is_line_feed c ≡ false
digit_no_feed c h = search (arith, ne_eqb)

digits_feedless : (ds : List ℕ) → AllDigits 10 ds → feedless ds ≡ true
digits_feedless [] h = refl
digits_feedless (c ∷ cs) h = joined (is_line_feed c) (feedless cs) (digit_no_feed c h.0) (digits_feedless cs h.1)

pub decimal_feedless : (n : ℕ) → n < 2 ^ 64 → feedless (decimal n) ≡ true
decimal_feedless n fits = digits_feedless (decimal n) (decimal_is_IsNumeral n fits).0.1

hex_no_feed : (c : ℕ) → is_hex_digit c ≡ true → is_line_feed c ≡ false
hex_no_feed c h = search (arith, ne_eqb)

pub hex_feedless : (ds : List ℕ) → AllPass is_hex_digit ds → feedless ds ≡ true
hex_feedless [] h = refl
hex_feedless (c ∷ cs) h =
    joined (is_line_feed c) (feedless cs) (hex_no_feed c (h 0 0 (omega arith)))
    (hex_feedless cs (λ k d l. h (suc k) d (omega arith)))

-- Lines that aren't faulty.

pub record IsSound (line : List ℕ) : Type 0 where
  pub short : length line < 256
  pub says : parsed line ≢ None

pub sound_line : {S : Type 0} (semantics : LineSemantics S) (n : ℕ) (s : S) (line : List ℕ) → line_fault semantics n s line ≡ None
    → IsSound line
sound_line semantics n s line h = search arith

pub sound_first : {S : Type 0} (semantics : LineSemantics S) (n : ℕ) (s : S) (line : List ℕ) (more : List (List ℕ))
    → (played semantics n s (line ∷ more)).fault ≡ None → line_fault semantics n s line ≡ None
sound_first {S} semantics n s line more h = search (arith, no_some, played_faulty)

-- ---- of each way in which the playing of lines ends: what holds at Ok alone, and the failures that it counts

pub on_err : {A : Type 0} (X : Type 0) (r : Result A LogFault) (e : LogFault) → r ≡ Err e → OnOk r X
on_err X r e h = cc

pub on_any : {A X : Type 0} (r : Result A LogFault) → X → OnOk r X
on_any r h = search arith

pub on_ok : {A X Y : Type 0} (r : Result A LogFault) → (X → Y) → OnOk r X → OnOk r Y
on_ok r h k = search arith

-- a count of failures goes on from where it stood before
pub counts_on : (a b k : ℕ) (fails : Bool) → a ≡ b → k ≡ cond fails (a + 1) a → k ≡ cond fails (b + 1) b
counts_on a b k fails is h = rw (sym is) h

-- nothing failed, so the count stays
pub counts_none : (a b : ℕ) (fails : Bool) → fails ≡ false → b ≡ a → b ≡ cond fails (a + 1) a
counts_none a b fails none is = is ∙ ap (λ (f : Bool). cond f (a + 1) a) (sym none)

-- where no line can be read, no write failed
pub stops_unwritten : (n : ℕ) (w : List ℕ) (e : LogFault) → Stops n w e → write_fails (ending_of_fault e) ≡ false
stops_unwritten n w e h = search arith

-- where a line is played, no read fails, and a write fails exactly where its text breaks off
pub plays_unread : {S F : Type 0} (semantics : LineSemantics S) (taken : F → Option (List ℕ)) (failed : F
    → ℕ) (n : ℕ) (s t : S) (line : List ℕ) (target : F × F) (q : Ending)
    → PlaysLine semantics taken failed n s t line target q → read_fails q ≡ false
plays_unread semantics taken failed n s t line target q h = search arith

pub plays_counts : {S F : Type 0} (semantics : LineSemantics S) (taken : F → Option (List ℕ)) (failed : F
    → ℕ) (n : ℕ) (s t : S) (line : List ℕ) (target : F × F) (q : Ending)
    → PlaysLine semantics taken failed n s t line target q → failed target.1
    ≡ cond (write_fails q) (failed target.0 + 1) (failed target.0)
plays_counts semantics taken failed n s t line target q h = search arith

-- ---- each way in which the playing of lines ends

-- more was read into the window
pub read_on : (a b c : Option (List ℕ)) (read w w' : List ℕ) → Consumes a b (read ++ w)
    → ((more : List ℕ) × (w' ≡ w ++ more) × Consumes b c more) → Consumes a c (read ++ w')
read_on a b c read w w' p m = search (arith, append_assoc, Consumes-trans)

-- the line in front is short
pub short_in_front : (w : List ℕ) (n end : ℕ) → HasLine n w end → length (take end w) < 256
short_in_front w n end has = short_front w (take end w) end refl has.within has.short

-- What was read is played up to the window w, and this text for it is written.
module _ {S : Type 0} {semantics : LineSemantics S} {s0 s : S} {read text : List ℕ} {n : ℕ}
    (through : Through semantics s0 read text s n)
    (left left' start : Option (List ℕ)) (w : List ℕ) (p : Consumes left left' (read ++ w)) where
  -- no line could be read
  pub stops_reading : (taken : Option (List ℕ)) (e : LogFault) → Appends start taken text → Stops n w e
      → ReadsAndWrites left left' start taken (λ bytes text. Plays semantics s0 s bytes text (ending_of_fault e))
  stops_reading taken TooManyLines q h =
      let some = some_line w h.1 in
      (read ++ w, text, p, q, refused through w some.0 some.1 TooManyLines some.2 (too_many semantics n s some.0 h.0))
  stops_reading taken (TooLong m) q h =
      let bad = too_long semantics n s w h.1 (omega (arith, h.3)) in
      let found = refused through w w [] (TooLong n) (last_line w h.2 (omega (arith, h.3))) bad in
      (read ++ w, text, p, q, rw h.0 found)
  stops_reading taken (Read m) q h = let found = unread through w h.1 in (read ++ w, text, p, q, rw h.0 found)
  stops_reading taken e q h = absurd h

  module _ {F : Type 0} (taken : F → Option (List ℕ)) (failed : F → ℕ) (target : F × F) (t : S)
      (q : Appends start (taken target.0) text) where
    module _ (line : List ℕ) (more : List (List ℕ)) (first : lines w ≡ line ∷ more) (short : length line < 256)
        (few : n < 2 ^ 32) where
      -- the line was faulty, and nothing was written for it
      stops_faulty : (fault : LogFault) → parsed_line_fault semantics n s (parsed line) ≡ Some fault → t ≡ s
          → Keeps (taken target.0) (taken target.1)
          → ReadsAndWrites left left' start (taken target.1) (λ bytes text. IsRefused semantics s0 t bytes text fault)
      stops_faulty fault bad stays kept =
          let found = refused through w line more fault first (said_fault semantics n s line few short ∙ bad) in
          (read ++ w, text, p, Appends-kept start (taken target.0) (taken target.1) text q kept, rw stays found)

      -- the line was faulty, or its text broke off
      pub stops_at_line : (e : LogFault) → PlaysLine semantics taken failed n s t line target (ending_of_fault e)
          → ReadsAndWrites left left' start (taken target.1) (λ bytes text. Plays semantics s0 t bytes text (ending_of_fault e))
      stops_at_line (Read m) h = absurd h
      stops_at_line Write h =
          let broken = h.2.0 in
          let sound = said_fault semantics n s line few short ∙ h.0 in
          let found = unwritten through w line more broken.0 broken.1 first sound broken.2 broken.3 in
          let all = Appends-trans start (taken target.0) _ text broken.0 q broken.4 in
          (read ++ w, text ++ broken.0, p, all, rw h.1 found)
      stops_at_line fault h = stops_faulty fault h.0 h.1 h.2

    module _ (end : ℕ) (has : HasLine n w end) where
      -- the line in front was played
      pub goes_on : (rest : List ℕ) → rest ≡ drop (end + 1) w → parsed_line_fault semantics n s (parsed (take end w)) ≡ None
          → t ≡ state_after semantics s (take end w) → SendsPackets semantics s (parsed (take end w))
          → WritesAll taken failed target (line_text semantics s (take end w))
          → (read' : List ℕ) × (text' : List ℕ) × Consumes left left' (read' ++ rest)
          × Appends start (taken target.1) text' × Through semantics s0 read' text' t (n + 1)
      goes_on rest is_rest sound stood packets wrote =
          let line = take end w in
          let whole : read ++ w ≡ (read ++ take (end + 1) w) ++ rest = simp (is_rest, append_assoc, take-append-drop) in
          let faultless = said_fault semantics n s line has.counted (short_in_front w n end has) ∙ sound in
          let found = through_line through w end has.feed faultless packets in
          let text' = Appends-trans start (taken target.0) (taken target.1) text (line_text semantics s line) q wrote.0 in
          (read ++ take (end + 1) w, text ++ line_text semantics s line, rw whole at p, text', rw stood found)

      -- the line in front was faulty, or its text broke off
      pub stops_in_front : (e : LogFault) → PlaysLine semantics taken failed n s t (take end w) target (ending_of_fault e)
          → ReadsAndWrites left left' start (taken target.1) (λ bytes text. Plays semantics s0 t bytes text (ending_of_fault e))
      stops_in_front =
          stops_at_line (take end w) (lines (drop (end + 1) w)) (line_in_front w end has.feed)
          (short_in_front w n end has) has.counted

    -- the last piece was played, or wasn't
    pub ends : {A : Type 0} (r : Result A LogFault) → IsUnfinished n w → 0 < length w
        → PlaysLine semantics taken failed n s t w target (ending_of r)
        → ReadsAndWrites left left' start (taken target.1) (λ bytes text. Plays semantics s0 t bytes text (ending_of r))
    ends (Ok x) u more h =
        let sound = said_fault semantics n s w (in_count n w u.counted more) u.short ∙ h.0 in
        let found = played_last through w (last_line w u.no_feed more) sound h.2 in
        let all = Appends-trans start (taken target.0) (taken target.1) text (line_text semantics s w) q h.3.0 in
        (read ++ w, text ++ line_text semantics s w, p, all, rw h.1 found)
    ends (Err e) u more h = stops_at_line w [] (last_line w u.no_feed more) u.short (in_count n w u.counted more) e h

pub some_left : (n : ℕ) → (n ≡ 0 → ⊥) → 0 < n
some_left n h = search arith

-- All lines are played, and nothing is wrong after the last one.
module _ {S F : Type 0} {semantics : LineSemantics S} {s0 s : S} {bytes text : List ℕ} (taken : F → Option (List ℕ))
    (failed : F → ℕ) (left left' start : Option (List ℕ)) (target : F × F) (p : Consumes left left' bytes)
    (q : Appends start (taken target.0) text) (whole : IsPlayed semantics s0 s bytes text) (none : semantics.lacks s ≡ None)
  where
    last : last_text semantics s ≡ semantics.ending s
    last = ap (λ (o : Option LogFault). cond (is_none o) (semantics.ending s) []) none

    -- the text after the last line was written
    pub closes : WritesAll taken failed target (semantics.ending s)
        → ReadsAndWrites left left' start (taken target.1) (λ b t. IsDone semantics s0 s b t × AllSend semantics s0 (lines b))
    closes wrote = search (arith, Appends-trans, first_is_last, last)

    -- it broke off
    pub closes_not : WriteFails taken failed target (semantics.ending s)
        → ReadsAndWrites left left' start (taken target.1) (λ b t. IsUnwritten semantics s0 s b t)
    closes_not broken =
        let off = broken.0 in
        let found = unwritten_end semantics s0 s bytes text off.0 off.1 whole (last ∙ off.2) off.3 in
        (bytes, text ++ off.0, p, Appends-trans start (taken target.0) (taken target.1) text off.0 q off.4, found)
