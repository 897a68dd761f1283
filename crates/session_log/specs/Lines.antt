-- Reading the lines of a log, and writing to targets.
use Rattle.std.specs.Prelude.{ℕ, ◌==◌, Bool, List, [], ◌∷◌, length, if◌then◌else◌, ◌≡◌, ◌<◌, ◌≤◌, ◌^◌, position, Some}
use Rattle.std.specs.Prelude.{None, ◌+◌, ◌&&◌, nat_lt, true, false, ◌++◌, Option, Result, Ok, Err, MatchResult}
use Rattle.std.specs.List.{slice_split}
use Rattle.session_log.specs.declared.fault.LogFault.{LogFault}
use Rattle.session_log.specs.declared.fault.LogFault.TheVariants.{Memory, BadLine, TooLong, Differs, Read, Write}
use Rattle.session_log.specs.declared.fault.LogFault.TheVariants.{TooManyLines}
use Rattle.std.specs.Io.KnownBytes.{Consumes, Appends, IsAtEnd}

-- ---- splitting bytes into lines at line feeds

-- Whether the byte is a line feed.
abbrev pub is_line_feed : ℕ → Bool
is_line_feed b = b == 10

-- The pieces of the bytes between line feeds, including the piece after the last line feed.
abbrev pub pieces : List ℕ → List (List ℕ)
pieces bytes = slice_split is_line_feed bytes

-- The list without its last element.
abbrev pub all_but_last : {A : Type 0} → List A → List A
all_but_last [] = []
all_but_last (x ∷ []) = []
all_but_last (x ∷ y ∷ more) = x ∷ all_but_last (y ∷ more)

-- The last piece, or the empty list if there are no pieces.
abbrev pub last_of : List (List ℕ) → List ℕ
last_of [] = []
last_of (x ∷ []) = x
last_of (x ∷ y ∷ more) = last_of (y ∷ more)

-- The lines that end with a line feed.
abbrev pub whole_lines : List ℕ → List (List ℕ)
whole_lines bytes = all_but_last (pieces bytes)

-- The bytes after the last line feed.
abbrev pub last_piece : List ℕ → List ℕ
last_piece bytes = last_of (pieces bytes)

-- The pieces, except the last one if it is empty.
abbrev pub lines_of_pieces : List (List ℕ) → List (List ℕ)
lines_of_pieces [] = []
lines_of_pieces (x ∷ []) = if length x == 0 then [] else x ∷ []
lines_of_pieces (x ∷ y ∷ more) = x ∷ lines_of_pieces (y ∷ more)

-- The lines of the bytes. If bytes follow the last line feed, they are a line, too.
abbrev pub lines : List ℕ → List (List ℕ)
lines bytes = lines_of_pieces (pieces bytes)

-- ---- whether a window of the log begins with the complete line `n`, and if not, why

-- The window contains no line feed, and is short enough to be the beginning of a line. It is empty if `n` is above the
-- maximum number of lines.
pub record IsUnfinished (n : ℕ) (window : List ℕ) : Type 0 where
  pub no_feed : position is_line_feed window ≡ None
  pub short : length window < 256
  pub counted : 2 ^ 32 ≤ n → window ≡ []

-- The window begins with a line of `end` bytes and its line feed, and `n` is at most the maximum number of lines.
pub record HasLine (n : ℕ) (window : List ℕ) (end : ℕ) : Type 0 where
  pub feed : position is_line_feed window ≡ Some end
  pub within : end < length window
  pub short : length window ≤ 256
  pub counted : n < 2 ^ 32

-- Line `n` can't be read from the window because of this error.
abbrev pub Stops : ℕ → List ℕ → LogFault → Type 0
Stops n window TooManyLines = (2 ^ 32 ≤ n) × (0 < length window) × (length window ≤ 256)
Stops n window (TooLong m) = (m ≡ n) × (n < 2 ^ 32) × (position is_line_feed window ≡ None) × (length window ≡ 256)
Stops n window (Read m) = (m ≡ n) × IsUnfinished n window
Stops n window (BadLine m) = ⊥
Stops n window (Differs line packet) = ⊥
Stops n window (Memory m) = ⊥
Stops n window Write = ⊥

-- ---- reading from sources and writing to targets. A pair is a source or a target before and after a call

-- Whether a read returned 0 bytes although the buffer is not empty.
abbrev pub is_empty_read : {E : Type 0} → Result ℕ E → ℕ → Bool
is_empty_read (Ok n) space = (n == 0) && nat_lt 0 space
is_empty_read (Err e) space = false

-- The source is at its end: no bytes are left, and a read into a non-empty buffer has returned 0.
abbrev pub IsAtEndOfInput : {I : Type 0} → (I → Option (List ℕ)) → (I → Bool) → I → Type 0
IsAtEndOfInput left ended source = (ended source ≡ true) × IsAtEnd (left source)

-- The count of failures increases by one if the call fails.
abbrev pub Counts : {F : Type 0} → (F → ℕ) → (F × F) → Bool → Type 0
Counts failed stream fails = failed stream.1 ≡ (if fails then failed stream.0 + 1 else failed stream.0)

-- The target accepted a proper prefix of the text.
abbrev pub WritesPrefixOnly : Option (List ℕ) → Option (List ℕ) → List ℕ → Type 0
WritesPrefixOnly old new text = (front : List ℕ) × (rest : List ℕ) × (text ≡ front ++ rest) × (0 < length rest)
    × Appends old new front

-- The target accepted the whole text.
abbrev pub WritesAll : {F : Type 0} → (F → Option (List ℕ)) → (F → ℕ) → (F × F) → List ℕ → Type 0
WritesAll taken failed target text = Appends (taken target.0) (taken target.1) text × (failed target.1 ≡ failed target.0)

-- A call of the target failed after the target accepted a proper prefix of the text.
abbrev pub WriteFails : {F : Type 0} → (F → Option (List ℕ)) → (F → ℕ) → (F × F) → List ℕ → Type 0
WriteFails taken failed target text = WritesPrefixOnly (taken target.0) (taken target.1) text
    × (failed target.1 ≡ failed target.0 + 1)

-- The result of writing a text: on success the target accepted the whole text, on an error only a proper prefix.
abbrev pub WritesText : {F A E : Type 0} → (F → Option (List ℕ)) → (F → ℕ) → (F × F) → List ℕ → Result A E → Type 0
WritesText taken failed target text r = MatchResult r (λ x. WritesAll taken failed target text)
    (λ e. WriteFails taken failed target text)

-- Like `WritesText`. The error, if any, is `Write`.
abbrev pub WritesLogLine : {F A : Type 0} → (F → Option (List ℕ)) → (F → ℕ) → (F × F) → List ℕ → Result A LogFault → Type 0
WritesLogLine taken failed target text r = MatchResult r (λ x. WritesAll taken failed target text)
    (λ e. (e ≡ Write) × WriteFails taken failed target text)

-- `P` holds for the bytes that were read from a source and for the text that was appended to a target.
abbrev pub ReadsAndWrites : Option (List ℕ) → Option (List ℕ) → Option (List ℕ) → Option (List ℕ) → (List ℕ → List ℕ → Type 0)
    → Type 0
ReadsAndWrites left left' taken taken' P = (bytes : List ℕ) × (text : List ℕ) × Consumes left left' bytes
    × Appends taken taken' text × P bytes text

-- A text was appended to the bytes that the target had accepted before.
abbrev pub OnlyAppends : Option (List ℕ) → Option (List ℕ) → Type 0
OnlyAppends old new = (text : List ℕ) × Appends old new text
