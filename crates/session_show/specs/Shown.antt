-- Which lines of a log are shown, and the text for each line.
use Rattle.std.specs.Prelude.{◌≡◌, ℕ, ◌+◌, List, ◌∷◌, ◌++◌, decimal, Option, Result, MatchResult, Bool, true, false}
use Rattle.std.specs.Prelude.{not, ◌==◌, [], length, flat_map, Some, None, ◌⊎◌}
use Rattle.session_log.specs.Lines.{OnlyAppends, WritesAll, ReadsAndWrites}
use Rattle.std.specs.Bool.{MatchBool}
use Rattle.std.specs.Io.KnownBytes.{Appends, Keeps}
use Rattle.session_log.specs.Replay.{Done, Ending, Refused, Unread, Unwritten, Plays, PlaysLine}
use Rattle.session_log.specs.Grammar.{parsed}
use Rattle.session_log.specs.Semantics.{with_line_feed, LineSemantics}
use Rattle.session_log.specs.declared.line.Line.{Line}
use Rattle.session_log.specs.declared.line.Line.TheVariants.{Input, Sent, Comment, Count}
use Rattle.session_show.specs.declared.detail.Detail.{Detail}
use Rattle.session_show.specs.declared.detail.Detail.TheVariants.{Fixed, Explained}
use Rattle.session_show.specs.declared.log_writer.OutputFormat.{OutputFormat}
use Rattle.session_show.specs.declared.log_writer.OutputFormat.TheVariants.{Text, Page}

-- ---- the effect of a writing call on its target

-- The target's old bytes are unchanged, bytes may have been appended, and if the result is an error, exactly one more
-- call of the target failed. A pair is the target before and after.
abbrev pub Writes : {F A E : Type 0} → (F → Option (List ℕ)) → (F → ℕ) → (F × F) → Result A E → Type 0
Writes taken failed target r = OnlyAppends (taken target.0) (taken target.1)
    × MatchResult r (λ x. failed target.1 ≡ failed target.0) (λ e. failed target.1 ≡ failed target.0 + 1)

-- On success, a number, a space and further bytes were written. On an error, exactly one more call of the target
-- failed. A pair is the target before and after.
abbrev pub WritesNumbered : {F A E : Type 0} → (F → Option (List ℕ)) → (F → ℕ) → ℕ → (F × F) → Result A E → Type 0
WritesNumbered taken failed number target r =
    MatchResult r (λ x. (more : List ℕ) × WritesAll taken failed target (decimal number ++ 32 ∷ more))
    (λ e. OnlyAppends (taken target.0) (taken target.1) × (failed target.1 ≡ failed target.0 + 1))

-- ---- the text for a line

-- Whether there is text for a line. Packets, ticks and replies have text; comments have text only with explanations.
abbrev pub has_text : Detail → List ℕ → Line → Bool
has_text detail line (Input timed) = true
has_text detail line (Sent packet) = true
has_text Explained line Comment = not (length line == 0)
has_text Fixed line Comment = false
has_text detail line Count = false

-- The text begins with the line's number and a space.
abbrev pub IsNumbered : ℕ → List ℕ → Type 0
IsNumbered n text = (more : List ℕ) × (text ≡ decimal n ++ 32 ∷ more)

-- The text belongs to line `n`, given the bytes of the line and its parsed form.
abbrev pub IsTextOfParsed : Detail → ℕ → List ℕ → Option Line → List ℕ → Type 0
IsTextOfParsed detail n line None text = ⊥
IsTextOfParsed detail n line (Some l) text = MatchBool (has_text detail line l) (IsNumbered n text) (text ≡ [])

-- A condition on a text. The arguments are a line number and a line, or the number of the last line and None for the
-- text after the last line.
abbrev pub LineTextRule : Type 1
LineTextRule = ℕ → Option (List ℕ) → List ℕ → Type 0

-- The condition on the text for line `n`: it begins with the line's number and a space, or it is empty if nothing is
-- shown. The text after the last line is empty, or with explanations it may begin with the number of the last line and
-- a space.
abbrev pub IsLineText : Detail → LineTextRule
IsLineText detail n (Some line) text = IsTextOfParsed detail n line (parsed line) text
IsLineText Fixed n None text = text ≡ []
IsLineText Explained n None text = (text ≡ []) ⊎ IsNumbered n text

-- The condition that every text meets.
abbrev pub Unspecified : LineTextRule
Unspecified n line text = Unit {0}

-- The level of detail of a format with text for each line, or None for other formats.
abbrev pub detail_of : OutputFormat → Option Detail
detail_of (Text detail) = Some detail
detail_of Page = Some Fixed
detail_of _ = None

-- The condition on the texts at a level of detail. For None, the texts are unspecified.
abbrev pub rule_for_detail : Option Detail → LineTextRule
rule_for_detail (Some detail) = IsLineText detail
rule_for_detail None = Unspecified

-- The condition on the texts of a format.
abbrev pub rule_for_format : OutputFormat → LineTextRule
rule_for_format format = rule_for_detail (detail_of format)

-- ---- the lines

-- The semantics of a log that is only read: each log line is accepted, and the text for a line is the line itself.
abbrev pub read_only_semantics : LineSemantics (Unit {0})
read_only_semantics = record {
  stops = λ s l. None;
  moves = λ s l. s;
  sound = λ s l. Unit {0};
  writes = λ s line l. with_line_feed line;
  lacks = λ s. None;
  ending = λ s. [];
  counts = λ s. record { held = 0; rows = 0; pending = 0; requests = 0; bytes = 0; steps = 0 };
}

-- A line and its text.
pub record ShownLine : Type 0 where
  pub line : List ℕ
  pub text : List ℕ

-- The condition is true for the text of each line. The first line has the number `n`.
abbrev pub AreLineTexts : LineTextRule → ℕ → List ShownLine → Type 0
AreLineTexts shows n [] = Unit {0}
AreLineTexts shows n (t ∷ more) = shows n (Some t.line) t.text × AreLineTexts shows (n + 1) more

-- The text consists of the texts of these lines. Each line ends with a line feed.
pub record IsShownText (shows : LineTextRule) (lines text : List ℕ) : Type 0 where
  pub told : List ShownLine
  pub lines_are : lines ≡ flat_map (λ t. with_line_feed t.line) told
  pub text_is : text ≡ flat_map (λ t. t.text) told
  pub each : AreLineTexts shows 1 told

-- The text consists of the texts of these lines, followed by a text after the last line.
pub record IsWholeText (shows : LineTextRule) (lines text : List ℕ) : Type 0 where
  pub before : List ℕ
  pub behind : List ℕ
  pub text_is : text ≡ before ++ behind
  pub shown : IsShownText shows lines before
  pub last : shows (length shown.told) None behind

-- The text consists of the texts of these lines. At the end of the log, the text after the last line follows. After a
-- failed write, nothing is stated.
abbrev pub IsTextUpTo : LineTextRule → (lines text : List ℕ) → Ending → Type 0
IsTextUpTo shows lines text Done = IsWholeText shows lines text
IsTextUpTo shows lines text Unwritten = Unit {0}
IsTextUpTo shows lines text _ = IsShownText shows lines text

-- The lines that were read are shown in the text that was written. A pair is the unread bytes of a source, or the bytes
-- written to a target, before and after.
abbrev pub Shows : LineTextRule → (Option (List ℕ) × Option (List ℕ))
    → (Option (List ℕ) × Option (List ℕ)) → Ending → Type 0
Shows shows left taken ending = ReadsAndWrites left.0 left.1 taken.0 taken.1
    (λ bytes text. (lines : List ℕ) × Plays read_only_semantics tt tt bytes lines ending × IsTextUpTo shows lines text ending)

-- ---- one line

-- The bytes written to a target, which this definition leaves unspecified.
abbrev pub unknown_bytes : ℕ → Option (List ℕ)
unknown_bytes failures = None

-- The number of failures of a target. Here the target is represented by that number.
abbrev pub failures_of : ℕ → ℕ
failures_of failures = failures

-- Line `n` was shown; or the line is invalid, and nothing was written; or writing its text failed. A pair is the number
-- of the target's failures before and after.
abbrev pub ShowsLine : ℕ → List ℕ → (ℕ × ℕ) → Ending → Type 0
ShowsLine n line failures ending = PlaysLine read_only_semantics unknown_bytes failures_of n tt tt line failures ending

-- The text for line `n` was written; or the line is invalid, and nothing was written; or writing failed.
abbrev pub WritesLine : LineTextRule → ℕ → List ℕ → (Option (List ℕ) × Option (List ℕ)) → Ending → Type 0
WritesLine shows n line taken Done = (text : List ℕ) × Appends taken.0 taken.1 text × shows n (Some line) text
WritesLine shows n line taken (Refused fault) = Keeps taken.0 taken.1
WritesLine shows n line taken (Unread m) = Unit {0}
WritesLine shows n line taken Unwritten = OnlyAppends taken.0 taken.1

-- The text after the last line, which has the number `n`, was written, or writing failed. A pair is a target before and
-- after.
abbrev pub WritesEnd : {F : Type 0} → LineTextRule → (F → Option (List ℕ)) → (F → ℕ) → ℕ → (F × F) → Ending → Type 0
WritesEnd shows taken failed n target Done = (text : List ℕ) × WritesAll taken failed target text × shows n None text
WritesEnd shows taken failed n target (Refused fault) = ⊥
WritesEnd shows taken failed n target (Unread m) = ⊥
WritesEnd shows taken failed n target Unwritten =
    OnlyAppends (taken target.0) (taken target.1) × (failed target.1 ≡ failed target.0 + 1)
