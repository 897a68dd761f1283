-- The text of lines that are shown one after the other.
use Rattle.std.proofs.Common.{◌≡◌, ℕ, ◌+◌, List, None, Some, rules, ◌∷◌, ◌++◌, Option, Result, Ok, Err, ap, ◌∙◌}
use Rattle.std.proofs.Common.{subst, append_assoc, decimal, ◌≤◌, ◌<◌, ◌^◌, [], length, take, drop, flat_map, Bool}
use Rattle.std.proofs.Common.{true, false, cond, is_some, nat_le, nat_lt, inl, refl, sym, arith, append-nil}
use Rattle.std.proofs.Common.{length-append, take-append-drop}
use Rattle.session_log.specs.declared.line.Line.{Line}
use Rattle.session_log.specs.declared.fault.LogFault.TheVariants.{BadLine, Memory, TooLong, Differs, Read, Write}
use Rattle.session_log.specs.declared.fault.LogFault.TheVariants.{TooManyLines}
use Rattle.session_log.specs.Grammar.{parsed}
use Rattle.session_log.specs.Replay.{Done, Refused, Unwritten, Ending, Unread, ending_of_fault, ending_of, read_fails}
use Rattle.session_log.specs.Replay.{write_fails}
use Rattle.session_show.specs.Shown.{ShowsLine, AreLineTexts, IsShownText, LineTextRule, Shows, WritesEnd, WritesLine}
use Rattle.session_show.specs.Shown.{ShownLine, failures_of, read_only_semantics, rule_for_format, unknown_bytes}
use Rattle.std.proofs.KnownBytes.{Appends-trans, Appends-kept}
use Rattle.std.specs.Io.KnownBytes.{Appends, Consumes, Keeps}
use Rattle.session_log.specs.Lines.{WritesAll, WritesText, OnlyAppends}
use Rattle.session_log.specs.declared.fault.Failed.{Failed}
use Rattle.session_show.specs.Shown.{Writes, WritesNumbered}
use Rattle.std.proofs.lemmas.Grind.{flat_map-append}
use Rattle.session_log.specs.Replay.{ReadsTo, IsRefused, IsUnread, IsPlayed, IsUnwritten}
use Rattle.session_log.specs.Lines.{lines}
use Rattle.session_log.specs.Replay.{SendsPackets}
use Rattle.session_log.specs.Semantics.{with_line_feed}
use Rattle.session_log.specs.Replay.{Played, line_fault, parsed_line_fault, output_of, played, with_text_before}
use Rattle.session_log.specs.Replay.{parsed_line_text, line_text}
use Rattle.session_log.specs.Lines.{HasLine, IsUnfinished, Stops}
use Rattle.session_log.specs.declared.fault.LogFault.{LogFault}
use Rattle.session_log.proofs.Cutting.{last_line, some_line}
use Rattle.session_log.proofs.Through.{short_in_front, stops_at_line, unread, Through, lines_are, played_last}
use Rattle.session_log.proofs.Through.{played_sound, refused, said_fault, through_line, too_long, too_many, unwritten}
use Rattle.session_log.proofs.Cutting.{in_count}
use Rattle.session_show.specs.declared.detail.Detail.TheVariants.{Fixed, Explained}
use Rattle.session_show.specs.declared.log_writer.OutputFormat.{OutputFormat}
use Rattle.session_show.specs.declared.log_writer.OutputFormat.TheVariants.{Text, Page, Table, Summary, Objects}

-- ---- what was shown of one line

-- a line that is none: nothing was written
pub bad_line : (n : ℕ) (line : List ℕ) (failures : ℕ) → parsed line ≡ None →
    ShowsLine n line (failures, failures) (Refused (BadLine n))
bad_line n line failures none = rw none (search rules)

-- a line whose text was written
pub shown_line : (n : ℕ) (line : List ℕ) (before after : ℕ) (l : Line) → parsed line ≡ Some l → after ≡ before →
    ShowsLine n line (before, after) Done
shown_line n line before after l is same = rw is (search rules)

-- and one whose text broke off
pub broken_line : (n : ℕ) (line : List ℕ) (before after : ℕ) (l : Line) → parsed line ≡ Some l → after ≡ before + 1 →
    ShowsLine n line (before, after) Unwritten
broken_line n line before after l is more = rw is (search rules)

-- ---- a text that is handed over part by part

-- after the parts so far a part was appended, or broke off
pub puts_on : {F : Type 0} (taken : F → Option (List ℕ)) (failed : F → ℕ) (a b c : F) (part : List ℕ)
    (r : Result (Unit {0}) Failed) → ((text : List ℕ) × Appends (taken a) (taken b) text) → failed b ≡ failed a →
    WritesText taken failed (b, c) part r → Writes taken failed (a, c) r
puts_on taken failed a b c part (Ok x) before same h =
    ((before.0 ++ part, Appends-trans (taken a) (taken b) (taken c) before.0 part before.1 h.0), h.1 ∙ same)
puts_on taken failed a b c part (Err e) before same h =
    ((before.0 ++ h.0.0, Appends-trans (taken a) (taken b) (taken c) before.0 h.0.0 before.1 h.0.4), h.1 ∙ ap (λ (n : ℕ). n + 1) same)

pub grows_on : (a b c : Option (List ℕ)) → OnlyAppends a b → OnlyAppends b c → OnlyAppends a c
grows_on a b c first then = (first.0 ++ then.0, Appends-trans a b c first.0 then.0 first.1 then.1)

-- a number, a space and a part were written, and then a text
pub numbered_on : {F : Type 0} (taken : F → Option (List ℕ)) (failed : F → ℕ) (a b c : F) (number : ℕ) (part : List ℕ)
    (r : Result (Unit {0}) Failed) → WritesAll taken failed (a, b) (decimal number ++ 32 ∷ part)
    → Writes taken failed (b, c) r → WritesNumbered taken failed number (a, c) r
numbered_on taken failed a b c number part (Ok x) first then = (
  part ++ then.0.0,
  (
    subst (Appends (taken a) (taken c)) (append_assoc (decimal number) (32 ∷ part) then.0.0)
        (Appends-trans (taken a) (taken b) (taken c) (decimal number ++ 32 ∷ part) then.0.0 first.0 then.0.1),
    then.1 ∙ first.1,
  ),
)
numbered_on taken failed a b c number part (Err e) first then =
    (grows_on (taken a) (taken b) (taken c) (decimal number ++ 32 ∷ part, first.0) then.0, then.1 ∙ ap (λ (n : ℕ). n + 1) first.1)

-- ---- the text of lines that are shown one after the other

-- a fault that was passed on
pub as_err : {A : Type 0} (r : Result A LogFault) (e : LogFault) (P : Ending → Type 0) → r ≡ Err e → P (ending_of_fault e)
    → P (ending_of r)
as_err {A} r e P is h = rw is h

-- no line was shown
pub told_none : (shows : LineTextRule) → (t : IsShownText shows [] []) × (1 ≡ length t.told + 1)
told_none shows = (record { told = []; lines_are = refl; text_is = refl; each = tt }, refl)

one_told : (shows : LineTextRule) (m n : ℕ) (told : List ShownLine) (t : ShownLine) → n ≡ m + length told →
    AreLineTexts shows m told → shows n (Some t.line) t.text → AreLineTexts shows m (told ++ t ∷ [])
one_told shows m n [] t is all one = (subst (λ (k : ℕ). shows k (Some t.line) t.text) (omega (arith, is)) one, tt)
one_told shows m n (first ∷ more) t is all one = (all.0, one_told shows (m + 1) n more t (omega (arith, is)) all.1 one)

-- the text of a line that isn't faulty is the line
line_itself : (n : ℕ) (line : List ℕ) (o : Option Line) → parsed_line_fault read_only_semantics n tt o ≡ None →
    parsed_line_text read_only_semantics tt line o ≡ with_line_feed line
line_itself n line None sound = cc
line_itself n line (Some l) sound = refl

-- one more line was shown
pub told_line : (shows : LineTextRule) (shown text line piece : List ℕ) (n : ℕ) (t : IsShownText shows
    shown text) → n ≡ length t.told + 1 → parsed_line_fault read_only_semantics n tt (parsed line) ≡ None → shows n (Some line) piece
    → (u : IsShownText shows (shown ++ line_text read_only_semantics tt line) (text ++ piece)) × (n + 1 ≡ length u.told + 1)
told_line shows shown text line piece n t count sound one =
    let last : ShownLine = record { line = line; text = piece } in (
      record {
        told = t.told ++ last ∷ [];
        lines_are =
            ap (λ (l : List ℕ). l ++ line_text read_only_semantics tt line) t.lines_are
            ∙ ap (λ (l : List ℕ). flat_map (λ (u : ShownLine). with_line_feed u.line) t.told ++ l)
            (line_itself n line (parsed line) sound ∙ sym (append-nil (with_line_feed line)))
            ∙ sym (flat_map-append (λ (u : ShownLine). with_line_feed u.line) t.told (last ∷ []));
        text_is =
            ap (λ (l : List ℕ). l ++ piece) t.text_is
            ∙ ap (λ (l : List ℕ). flat_map (λ (u : ShownLine). u.text) t.told ++ l) (sym (append-nil piece))
            ∙ sym (flat_map-append (λ (u : ShownLine). u.text) t.told (last ∷ []));
        each = one_told shows 1 n t.told last (omega (arith, count)) t.each one;
      },
      omega (arith, count, length-append t.told (last ∷ [])),
    )

-- the line in front was shown
pub shown_on : (left left' : Option (List ℕ)) (read shown w rest line : List ℕ) (n end : ℕ) →
    Consumes left left' (read ++ w) → Through read_only_semantics tt read shown tt n → HasLine n w end → line ≡ take end w
    → rest ≡ drop (end + 1) w → parsed_line_fault read_only_semantics n tt (parsed line) ≡ None → SendsPackets read_only_semantics tt (parsed line)
    → Consumes left left' ((read ++ take (end + 1) w) ++ rest)
    × Through read_only_semantics tt (read ++ take (end + 1) w) (shown ++ line_text read_only_semantics tt line) tt (n + 1)
shown_on left left' read shown w rest line n end p through has is_line is_rest sound packets =
    let front = take (end + 1) w in
    let whole : read ++ w ≡ (read ++ front) ++ rest =
    ap (λ (l : List ℕ). read ++ l) (sym (take-append-drop (end + 1) w))
    ∙ sym (append_assoc read front (drop (end + 1) w)) ∙ ap (λ (l : List ℕ). (read ++ front) ++ l) (sym is_rest) in
    let faultless = said_fault read_only_semantics n tt line has.counted
    (omega (arith, ap length is_line, short_in_front w n end has)) ∙ sound in (
      subst (Consumes left left') whole p,
      subst (λ (l : List ℕ). Through read_only_semantics tt (read ++ front) (shown ++ line_text read_only_semantics tt l) tt (n + 1))
          (sym is_line)
          (through_line through w end has.feed (subst (λ (l : List ℕ). line_fault read_only_semantics n tt l ≡ None) is_line
          faultless)
          (subst (λ (l : List ℕ). SendsPackets read_only_semantics tt (parsed l)) is_line packets)),
    )

-- no line could be read
pub told_to_read : (shows : LineTextRule) (left left' start taken : Option (List ℕ))
    (read shown text w : List ℕ) (n : ℕ) (e : LogFault)
    → Consumes left left' (read ++ w) → Through read_only_semantics tt read shown tt n → Appends start taken text →
    IsShownText shows shown text → Stops n w e → Shows shows (left, left') (start, taken) (ending_of_fault e)
told_to_read shows left left' start taken read shown text w n TooManyLines p through q told h =
    let some = some_line w h.1 in
    (read ++ w, text, p, q, (shown, refused through w some.0 some.1 TooManyLines some.2 (too_many read_only_semantics n tt some.0 h.0), told))
told_to_read shows left left' start taken read shown text w n (TooLong k) p through q told h =
    let long : 256 ≤ length w = omega (arith, h.3) in
    let is = refused through w w [] (TooLong n) (last_line w h.2 (omega arith)) (too_long read_only_semantics n tt w h.1 long) in
    (read ++ w, text, p, q, (shown, subst (λ (k : ℕ). IsRefused read_only_semantics tt tt (read ++ w) shown (TooLong k)) (sym h.0) is, told))
told_to_read shows left left' start taken read shown text w n (Read k) p through q told h =
    (read ++ w, text, p, q, (shown, subst (λ (k : ℕ). IsUnread read_only_semantics tt tt (read ++ w) shown k) (sym h.0) (unread through w h.1), told))
told_to_read shows left left' start taken read shown text w n (BadLine k) p through q told h = absurd h
told_to_read shows left left' start taken read shown text w n (Differs l k) p through q told h = absurd h
told_to_read shows left left' start taken read shown text w n (Memory k) p through q told h = absurd h
told_to_read shows left left' start taken read shown text w n Write p through q told h = absurd h

-- a line was faulty, and nothing was written for it
told_to_fault : (shows : LineTextRule) (left left' start taken taken' : Option (List ℕ))
    (read shown text w line : List ℕ) (more : List (List ℕ)) (n : ℕ) (fault : LogFault)
    → Consumes left left' (read ++ w) → Through read_only_semantics tt read shown tt n → Appends start taken text →
    IsShownText shows shown text → lines w ≡ line ∷ more → length line < 256 → n < 2 ^ 32
    → parsed_line_fault read_only_semantics n tt (parsed line) ≡ Some fault → Keeps taken taken' →
    Shows shows (left, left') (start, taken') (Refused fault)
told_to_fault shows left left' start taken taken' read shown text w line more n fault p through q told first short few
    bad kept = (
      read ++ w,
      text,
      p,
      Appends-kept start taken taken' text q kept,
      (shown, refused through w line more fault first (said_fault read_only_semantics n tt line few short ∙ bad), told),
    )

-- a line was faulty, or its text broke off
pub told_to_line : (shows : LineTextRule) (left left' start taken taken' : Option (List ℕ))
    (failures : ℕ × ℕ) (read shown text w line : List ℕ) (more : List (List ℕ)) (n : ℕ) (e : LogFault)
    → Consumes left left' (read ++ w) → Through read_only_semantics tt read shown tt n → Appends start taken text →
    IsShownText shows shown text → lines w ≡ line ∷ more → length line < 256 → n < 2 ^ 32
    → ShowsLine n line failures (ending_of_fault e) → WritesLine shows n line (taken, taken') (ending_of_fault e) →
    Shows shows (left, left') (start, taken') (ending_of_fault e)
told_to_line shows left left' start taken taken' failures read shown text w line more n (BadLine k) p through q told
    first short few h tells =
    told_to_fault shows left left' start taken taken' read shown text w line more n (BadLine k) p through q told first
    short few h.0 tells
told_to_line shows left left' start taken taken' failures read shown text w line more n (TooLong k) p through q told
    first short few h tells =
    told_to_fault shows left left' start taken taken' read shown text w line more n (TooLong k) p through q told first
    short few h.0 tells
told_to_line shows left left' start taken taken' failures read shown text w line more n TooManyLines p through q told
    first short few h tells =
    told_to_fault shows left left' start taken taken' read shown text w line more n TooManyLines p through q told first
    short few h.0 tells
told_to_line shows left left' start taken taken' failures read shown text w line more n (Differs l k) p through q told
    first short few h tells =
    told_to_fault shows left left' start taken taken' read shown text w line more n (Differs l k) p through q told first
    short few h.0 tells
told_to_line shows left left' start taken taken' failures read shown text w line more n (Memory k) p through q told
    first short few h tells =
    told_to_fault shows left left' start taken taken' read shown text w line more n (Memory k) p through q told first
    short few h.0 tells
told_to_line shows left left' start taken taken' failures read shown text w line more n Write p through q told first
    short few h tells =
    let m = stops_at_line through left left' None w p unknown_bytes failures_of failures tt tt line more first short few Write
    h in
    (m.0, text ++ tells.0, m.2, Appends-trans start taken taken' text tells.0 q tells.1, (m.1, m.4, tt))
told_to_line shows left left' start taken taken' failures read shown text w line more n (Read k) p through q told first
    short few h tells = absurd h

-- behind the last line, which is line n: the text there was written, or broke off
pub told_behind : {F : Type 0} (shows : LineTextRule) (taken : F → Option (List ℕ)) (failed : F → ℕ)
    (r : Result (Unit {0}) LogFault) (left left' start : Option (List ℕ)) (target : F × F) (bytes shown text : List ℕ)
    (n : ℕ) → Consumes left left' bytes → IsPlayed read_only_semantics tt tt bytes shown → Appends start (taken target.0) text →
    (t : IsShownText shows shown text) → n ≡ length t.told
    → ((front : List ℕ) × IsUnwritten read_only_semantics tt tt bytes front) → WritesEnd shows taken failed n target (ending_of r) →
    Shows shows (left, left') (start, taken target.1) (ending_of r)
told_behind shows taken failed (Ok x) left left' start target bytes shown text n p played q told count off tells = (
  bytes,
  text ++ tells.0,
  p,
  Appends-trans start (taken target.0) (taken target.1) text tells.0 q tells.1.0,
  (
    shown,
    played,
    record {
      before = text;
      behind = tells.0;
      text_is = refl;
      shown = told;
      last = subst (λ (k : ℕ). shows k None tells.0) count tells.2;
    },
  ),
)
told_behind shows taken failed (Err Write) left left' start target bytes shown text n p played q told count off tells = (
  bytes,
  text ++ tells.0.0,
  p,
  Appends-trans start (taken target.0) (taken target.1) text tells.0.0 q tells.0.1,
  (off.0, off.1, tt),
)
told_behind shows taken failed (Err (BadLine k)) left left' start target bytes shown text n p played q told count off
    tells = absurd tells
told_behind shows taken failed (Err (TooLong k)) left left' start target bytes shown text n p played q told count off
    tells = absurd tells
told_behind shows taken failed (Err (Differs l k)) left left' start target bytes shown text n p played q told count off
    tells = absurd tells
told_behind shows taken failed (Err (Read k)) left left' start target bytes shown text n p played q told count off
    tells = absurd tells
told_behind shows taken failed (Err TooManyLines) left left' start target bytes shown text n p played q told count off
    tells = absurd tells
told_behind shows taken failed (Err (Memory k)) left left' start target bytes shown text n p played q told count off
    tells = absurd tells

-- a line feed stands behind a line
some_ended : (line : List ℕ) → 0 < length (with_line_feed line)
some_ended line = omega (arith, length-append line (10 ∷ []))

-- the last piece was shown
pub told_last : (shows : LineTextRule) (read shown text w piece : List ℕ) (n : ℕ) → Through read_only_semantics tt read shown tt n
    → (t : IsShownText shows shown text) → n ≡ length t.told + 1 → IsUnfinished n w → 0 < length w
    → parsed_line_fault read_only_semantics n tt (parsed w) ≡ None → SendsPackets read_only_semantics tt (parsed w) → shows n (Some w) piece
    → IsPlayed read_only_semantics tt tt (read ++ w) (shown ++ line_text read_only_semantics tt w)
    × ((u : IsShownText shows (shown ++ line_text read_only_semantics tt w) (text ++ piece)) × (n ≡ length u.told))
    × ((front : List ℕ) × IsUnwritten read_only_semantics tt tt (read ++ w) front)
told_last shows read shown text w piece n through told count u some sound packets one =
    let faultless = said_fault read_only_semantics n tt w (in_count n w u.counted some) u.short ∙ sound in
    let more = told_line shows shown text w piece n told count sound one in (
      played_last through w (last_line w u.no_feed some) faultless packets,
      (more.0, omega (arith, more.1)),
      (
        shown ++ [],
        unwritten through w w [] [] (with_line_feed w) (last_line w u.no_feed some) faultless
            (line_itself n w (parsed w) sound) (some_ended w),
      ),
    )

-- ---- the last of whole lines

is_sound : (o : Option LogFault) (rest : Played (Unit {0}))
    → (cond (is_some o) (record { text = []; fault = o; state = tt }) rest).fault ≡ None → o ≡ None
is_sound None rest h = refl
is_sound (Some f) rest h = cc h

first_sound : (n : ℕ) (line : List ℕ) (more : List (List ℕ)) → (played read_only_semantics n tt (line ∷ more)).fault ≡ None →
    line_fault read_only_semantics n tt line ≡ None
first_sound n line more h =
    is_sound (line_fault read_only_semantics n tt line) (with_text_before (line_text read_only_semantics tt line) (played read_only_semantics (n + 1) tt more)) h

is_parsed : (many long : Bool) (n : ℕ) (o : Option LogFault)
    → cond many (Some TooManyLines) (cond long (Some (TooLong n)) o) ≡ None → o ≡ None
is_parsed true long n o h = cc h
is_parsed false true n o h = cc h
is_parsed false false n o h = h

parsed_sound : (n : ℕ) (line : List ℕ) → line_fault read_only_semantics n tt line ≡ None → parsed_line_fault read_only_semantics n tt (parsed line) ≡ None
parsed_sound n line h =
    is_parsed (nat_le (2 ^ 32) n) (nat_lt 255 (length line)) n (parsed_line_fault read_only_semantics n tt (parsed line)) h

-- what lines come to, and those before the last one
played_front : (n : ℕ) (front : List (List ℕ)) (line : List ℕ)
    → (played read_only_semantics n tt (front ++ line ∷ [])).fault ≡ None
    → ((played read_only_semantics n tt front).fault ≡ None)
    × ((m : ℕ) × (parsed_line_fault read_only_semantics m tt (parsed line) ≡ None))
    × ((played read_only_semantics n tt (front ++ line ∷ [])).text ≡ (played read_only_semantics n tt front).text ++ line_text read_only_semantics tt line)
played_front n [] line h =
    let sound = first_sound n line [] h in (
      refl,
      (n, parsed_sound n line sound),
      ap (λ (p : Played (Unit {0})). p.text) (played_sound read_only_semantics n tt line [] sound)
          ∙ append-nil (line_text read_only_semantics tt line),
    )
played_front n (x ∷ xs) line h =
    let sound = first_sound n x (xs ++ line ∷ []) h in
    let all = played_sound read_only_semantics n tt x (xs ++ line ∷ []) sound in
    let front = played_sound read_only_semantics n tt x xs sound in
    let more = played_front (n + 1) xs line (sym (ap (λ (p : Played (Unit {0})). p.fault) all) ∙ h) in (
      ap (λ (p : Played (Unit {0})). p.fault) front ∙ more.0,
      more.1,
      ap (λ (p : Played (Unit {0})). p.text) all
          ∙ ap (λ (l : List ℕ). line_text read_only_semantics tt x ++ l) more.2
          ∙ sym (append_assoc (line_text read_only_semantics tt x) (played read_only_semantics (n + 1) tt xs).text (line_text read_only_semantics tt line))
          ∙ ap (λ (p : Played (Unit {0})). p.text ++ line_text read_only_semantics tt line) (sym front),
    )

last_of : (x : List ℕ) (xs : List (List ℕ)) →
    (front : List (List ℕ)) × (line : List ℕ) × (x ∷ xs ≡ front ++ line ∷ [])
last_of x [] = ([], x, refl)
last_of x (y ∷ ys) =
    let more = last_of y ys in (x ∷ more.0, more.1, ap (λ (l : List (List ℕ)). x ∷ l) more.2)

some_last : (done : List (List ℕ)) → 0 < length done →
    (front : List (List ℕ)) × (line : List ℕ) × (done ≡ front ++ line ∷ [])
some_last [] some = absurd (omega (arith, some))
some_last (x ∷ xs) some = last_of x xs

-- of whole lines that were shown the last one's text may have broken off
pub unwritten_back : {read shown : List ℕ} {n : ℕ} → Through read_only_semantics tt read shown tt n → 1 < n →
    (front : List ℕ) × IsUnwritten read_only_semantics tt tt (read ++ []) front
unwritten_back {read} {shown} {n} t more =
    let split = some_last t.done (omega (arith, t.count, more)) in
    let all : played read_only_semantics 1 tt (split.0 ++ split.1 ∷ []) ≡ with_text_before shown (played read_only_semantics n tt []) =
    ap (played read_only_semantics 1 tt) (sym split.2 ∙ sym (append-nil t.done)) ∙ t.plays [] in
    let found = played_front 1 split.0 split.1 (ap (λ (p : Played (Unit {0})). p.fault) all) in
    let front = (played read_only_semantics 1 tt split.0).text in
    let are : lines (read ++ []) ≡ split.0 ++ split.1 ∷ [] = lines_are t [] ∙ append-nil t.done ∙ split.2 in
    let itself = line_itself found.1.0 split.1 (parsed split.1) found.1.1 in (
      front ++ [],
      record {
        first = split.0;
        others = split.1 ∷ [];
        front = [];
        rest = with_line_feed split.1;
        cut = are;
        faultless = found.0;
        written = refl;
        broken = itself;
        missing = some_ended split.1;
        stands = refl;
        beginning = (
          with_line_feed split.1,
          ap (λ (l : List (List ℕ)). output_of read_only_semantics (played read_only_semantics 1 tt l)) are
              ∙ ap (output_of read_only_semantics) all
              ∙ append-nil (shown ++ [])
              ∙ sym (ap (λ (p : Played (Unit {0})). p.text) all)
              ∙ found.2
              ∙ ap (λ (l : List ℕ). front ++ l) itself
              ∙ ap (λ (l : List ℕ). l ++ with_line_feed split.1) (sym (append-nil front)),
        );
      },
    )

-- in each form there may be nothing behind the last line
pub behind_nothing : (format : OutputFormat) (n : ℕ) → rule_for_format format n None []
behind_nothing (Text Fixed) n = refl
behind_nothing (Text Explained) n = inl refl
behind_nothing Page n = refl
behind_nothing Table n = tt
behind_nothing Summary n = tt
behind_nothing Objects n = tt

-- of the end of what is shown: no read failed, and no line was faulty
module _ {F : Type 0} (shows : LineTextRule) (taken : F → Option (List ℕ)) (failed : F → ℕ) (n : ℕ) (target : F × F) where
  pub behind_reach : (q : Ending) (a b : Option (List ℕ)) (all : Type 0) → WritesEnd shows taken failed n target q →
      ReadsTo read_only_semantics tt a b all q
  behind_reach Done a b all h = tt
  behind_reach (Refused fault) a b all h = absurd h
  behind_reach (Unread m) a b all h = tt
  behind_reach Unwritten a b all h = tt

  pub behind_reads : (q : Ending) → WritesEnd shows taken failed n target q → read_fails q ≡ false
  behind_reads Done h = refl
  behind_reads (Refused fault) h = refl
  behind_reads (Unread m) h = absurd h
  behind_reads Unwritten h = refl

  pub behind_writes : (q : Ending) → WritesEnd shows taken failed n target q → failed target.1
      ≡ cond (write_fails q) (failed target.0 + 1) (failed target.0)
  behind_writes Done h = h.1.1
  behind_writes (Refused fault) h = absurd h
  behind_writes (Unread m) h = absurd h
  behind_writes Unwritten h = h.1
