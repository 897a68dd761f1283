-- The grammar of log lines, and a function that parses a line (docs/use/LOG_FORMAT.md).
use Rattle.std.specs.Prelude.{ℕ, List, codes, ◌≡◌, ◌<◌, ◌≤◌, ◌^◌, [], ◌++◌, length, decimal, Some, None, Ok, ◌⊎◌}
use Rattle.std.specs.Prelude.{slice_index, ◌+◌, ◌/◌, ◌==◌, ◌&&◌, nat_le, nat_lt, Bool, ◌∷◌, take, drop, position}
use Rattle.std.specs.Prelude.{Option, if◌then◌else◌}
use Rattle.authn_core.specs.declared.replies.Presence.{Presence}
use Rattle.authn_core.specs.declared.replies.Presence.TheVariants.{Granted, Denied, TimedOut}
use Rattle.session_log.specs.declared.fault.LogFault.{LogFault}
use Rattle.session_log.specs.declared.fault.LogFault.TheVariants.{Memory, BadLine, TooLong, Differs, Read, Write}
use Rattle.session_log.specs.declared.fault.LogFault.TheVariants.{TooManyLines}
use Rattle.hex.specs.Hex.{decode_sized, hex_digit_value}
use Rattle.token_session.specs.declared.input.Input.{Input as AnyInput}
use Rattle.token_session.specs.declared.input.Input.TheVariants.{Packet, Tick, Presence as PresenceInput, Key}
use Rattle.token_session.specs.declared.input.Input.TheVariants.{Signature}
use Rattle.session_log.specs.declared.line.Line.{Line}
use Rattle.session_log.specs.declared.line.Line.TheVariants.{Input, Sent, Comment, Count}
use Rattle.std.specs.Option.{option_and_then, option_map}
use Rattle.std.specs.Result.{result_ok}
use Rattle.std.specs.Cmp.Lexicographic.{pointwise}
use Rattle.std.specs.Str.Parse.{digits_value}
use Rattle.authn_core.specs.declared.replies.NewKey.{NewKey}
use Rattle.session_log.specs.declared.line.LineKind.{LineKind}
use Rattle.session_log.specs.declared.line.LineKind.TheVariants as kind

-- ---- the first byte of a log line, which determines the kind of the line

-- `>`: a packet from the host.
abbrev pub host_letter : ℕ
host_letter = 62

-- `<`: a packet that the key sent.
abbrev pub key_letter : ℕ
key_letter = 60

-- `t`: a tick.
abbrev pub tick_letter : ℕ
tick_letter = 116

-- `p`: a user presence reply.
abbrev pub presence_letter : ℕ
presence_letter = 112

-- `k`: a new key pair.
abbrev pub new_key_letter : ℕ
new_key_letter = 107

-- `s`: a signature.
abbrev pub signature_letter : ℕ
signature_letter = 115

-- `#`: a comment.
abbrev pub comment_letter : ℕ
comment_letter = 35

-- `=`: the meters.
abbrev pub count_letter : ℕ
count_letter = 61

-- The space between two fields.
abbrev pub space : ℕ
space = 32

-- ---- the words in log lines with the caller's replies

-- The word for a user presence reply.
abbrev pub presence_word : Presence → List ℕ
presence_word Granted = codes "granted"
presence_word Denied = codes "denied"
presence_word TimedOut = codes "timeout"

-- The word `no`: the caller refuses a key pair or a signature.
abbrev pub refusal_word : List ℕ
refusal_word = codes "no"

-- ---- the numbers of the log errors

-- The number of a log error, as the programs print it.
abbrev pub fault_number : LogFault → ℕ
fault_number (BadLine n) = 1
fault_number (TooLong n) = 2
fault_number (Differs line packet) = 3
fault_number (Read n) = 4
fault_number Write = 5
fault_number TooManyLines = 6
fault_number (Memory n) = 7

-- ---- the grammar of log lines (docs/use/LOG_FORMAT.md): the bytes of an input, a packet, the meters and a comment

-- The digits are `n` bytes in hexadecimal: two digits for each byte, in upper or lower case.
abbrev pub IsHexOf : List ℕ → ℕ → List ℕ → Type 0
IsHexOf digits n bytes = decode_sized digits n ≡ Ok bytes

-- The text is the field after an input's timestamp: a packet of 64 bytes; the word of a user presence reply; the ID and
-- the coordinates X and Y of a new key, 32 bytes each; a signature of 1 to 72 bytes; or `no`.
abbrev pub IsFieldText : List ℕ → AnyInput → Type 0
IsFieldText field (Packet packet) = IsHexOf field 64 packet.0
IsFieldText field Tick = ⊥
IsFieldText field (PresenceInput answer) = field ≡ presence_word answer
IsFieldText field (Key None) = field ≡ refusal_word
IsFieldText field (Key (Some key)) =
    (id : List ℕ) × (x : List ℕ) × (y : List ℕ) × (field ≡ id ++ (codes " " ++ (x ++ (codes " " ++ y))))
    × IsHexOf id 32 key.id × IsHexOf x 32 key.x × IsHexOf y 32 key.y
IsFieldText field (Signature None) = field ≡ refusal_word
IsFieldText field (Signature (Some bytes)) = IsHexOf field (length bytes) bytes × (1 ≤ length bytes)
    × (length bytes ≤ 72)

-- The letter of an input, and the space before the timestamp.
abbrev pub letter_and_space : AnyInput → List ℕ
letter_and_space (Packet packet) = codes "> "
letter_and_space Tick = codes "t "
letter_and_space (PresenceInput answer) = codes "p "
letter_and_space (Key key) = codes "k "
letter_and_space (Signature signature) = codes "s "

-- The line is this input with timestamp `at`: `t M` is a tick at time M, `> M P` is a packet, and `p M granted`, `k M
-- ID X Y`, `s M S` and the other forms are replies of the caller.
abbrev pub IsInputText : List ℕ → ℕ → AnyInput → Type 0
IsInputText line at Tick = line ≡ codes "t " ++ decimal at
IsInputText line at input = (field : List ℕ) × (line ≡ letter_and_space input ++ (decimal at ++ (codes " " ++ field)))
    × IsFieldText field input

-- The bytes are this line: an input, a packet that was sent (`< P`), the meters (`=..`), or a comment (`#..` or an
-- empty line).
abbrev pub IsLogLineText : List ℕ → Line → Type 0
IsLogLineText line (Input timed) = (timed.at < 2 ^ 64) × IsInputText line timed.at timed.input
IsLogLineText line (Sent packet) = (digits : List ℕ) × (line ≡ codes "< " ++ digits) × IsHexOf digits 64 packet.0
IsLogLineText line Comment = (line ≡ []) ⊎ ((rest : List ℕ) × (line ≡ codes "#" ++ rest))
IsLogLineText line Count = (rest : List ℕ) × (line ≡ codes "=" ++ rest)

-- ---- a function that parses a log line. By the law `parsing_follows_the_grammar`, it agrees with the grammar above

-- Applies the function to the value, if any.
infixl 10 ◌>>=◌
abbrev pub ◌>>=◌ : {A B : Type 0} → Option A → (A → Option B) → Option B
o >>= f = option_and_then f o

-- The bytes before and after the first space, or None without a space.
abbrev pub first_field : List ℕ → Option (List ℕ × List ℕ)
first_field fields = option_map (λ end. (take end fields, drop (end + 1) fields)) (position (λ b. b == space) fields)

-- The number below 2^64 with this decimal text, or None.
unfoldable pub moment : List ℕ → Option ℕ
moment digits =
    let n = digits_value 10 digits in
    if nat_lt n (2 ^ 64) && pointwise ◌==◌ (decimal n) digits then Some n else None

-- The bytes in `n` pairs of hexadecimal digits, in upper or lower case, or None.
abbrev pub decoded_bytes : ℕ → List ℕ → Option (List ℕ)
decoded_bytes n digits = result_ok (decode_sized digits n)

-- The value of a hexadecimal digit, or None if it is 16 or more.
abbrev pub value_below_16 : ℕ → Option ℕ
value_below_16 v = if nat_lt v 16 then Some v else None

-- The values are those of the hexadecimal digits. For a byte that isn't a digit, the value is at least 16.
abbrev pub AreValues : List ℕ → List ℕ → Type 0
AreValues digits values = (i : ℕ) → i < length digits
    → hex_digit_value (slice_index digits i) ≡ value_below_16 (slice_index values i)

-- Whether the field is this word.
abbrev pub is_word : List ℕ → List ℕ → Bool
is_word word field = pointwise ◌==◌ field word

-- A packet, `P`.
abbrev pub parsed_packet : List ℕ → Option AnyInput
parsed_packet field = do
  packet ← decoded_bytes 64 field
  Some (Packet (record { 0 = packet }))

-- A user presence reply: `granted`, `denied` or `timeout`.
abbrev pub parsed_presence : List ℕ → Option AnyInput
parsed_presence field =
    if is_word (codes "granted") field then Some (PresenceInput Granted)
    else if is_word (codes "denied") field then Some (PresenceInput Denied)
    else if is_word (codes "timeout") field then Some (PresenceInput TimedOut)
    else None

-- A credential ID and coordinates, `ID X Y`.
abbrev pub parsed_key_pair : List ℕ → Option NewKey
parsed_key_pair field = do
  first ← first_field field
  second ← first_field first.1
  id ← decoded_bytes 32 first.0
  x ← decoded_bytes 32 second.0
  y ← decoded_bytes 32 second.1
  Some (record { id = id; x = x; y = y })

-- A new key pair, `ID X Y`, or `no`.
abbrev pub parsed_new_key : List ℕ → Option AnyInput
parsed_new_key field = if is_word refusal_word field then Some (Key None)
    else (parsed_key_pair field >>= (λ key. Some (Key (Some key))))

-- A signature of 1 to 72 bytes.
abbrev pub parsed_signature_bytes : List ℕ → Option (List ℕ)
parsed_signature_bytes digits =
    let n = length digits / 2 in
    if nat_le 1 n && nat_le n 72 then decoded_bytes n digits else None

-- A signature, `S`, or `no`.
abbrev pub parsed_signature : List ℕ → Option AnyInput
parsed_signature field = if is_word refusal_word field then Some (Signature None)
    else (parsed_signature_bytes field >>= (λ bytes. Some (Signature (Some bytes))))

-- An input other than a tick, from the line's letter and its last field.
abbrev pub parsed_input : ℕ → List ℕ → Option AnyInput
parsed_input letter field =
    if letter == host_letter then parsed_packet field
    else if letter == presence_letter then parsed_presence field
    else if letter == new_key_letter then parsed_new_key field
    else if letter == signature_letter then parsed_signature field
    else None

-- An input other than a tick: its timestamp `M` and a field.
abbrev pub input_line : ℕ → List ℕ → Option Line
input_line letter fields = do
  parts ← first_field fields
  at ← moment parts.0
  input ← parsed_input letter parts.1
  Some (Input (record { at = at; input = input }))

-- A tick: its timestamp `M`.
abbrev pub tick_line : List ℕ → Option Line
tick_line fields = do
  at ← moment fields
  Some (Input (record { at = at; input = Tick }))

-- A packet that was sent, `P`.
abbrev pub sent_line : List ℕ → Option Line
sent_line fields = do
  packet ← decoded_bytes 64 fields
  Some (Sent (record { 0 = packet }))

-- An input and its timestamp, from the line's letter and its other fields.
abbrev pub timed_line : ℕ → List ℕ → Option Line
timed_line letter fields = if letter == tick_letter then tick_line fields else input_line letter fields

-- A line other than a comment or the meters, from its letter and its other fields.
abbrev pub parsed_by_letter : ℕ → List ℕ → Option Line
parsed_by_letter letter fields = if letter == key_letter then sent_line fields else timed_line letter fields

-- The parsed line, or None if the bytes are not a log line.
abbrev pub parsed : List ℕ → Option Line
parsed [] = Some Comment
parsed (first ∷ []) = if first == comment_letter then Some Comment else if first == count_letter then Some Count else None
parsed (first ∷ second ∷ fields) =
    if first == comment_letter then Some Comment
    else if first == count_letter then Some Count
    else if second == space then parsed_by_letter first fields
    else None

-- The parsed line of this kind, from its unparsed fields.
abbrev pub line_of_kind : LineKind → Option Line
line_of_kind (kind.Input letter fields) = timed_line letter fields.now
line_of_kind (kind.Sent field) = sent_line field.now
line_of_kind kind.Comment = Some Comment
line_of_kind kind.Count = Some Count
