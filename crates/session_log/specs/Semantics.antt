-- What a command does for each line of a log: the effect on a state, and the output.
use Rattle.std.specs.Prelude.{◌≡◌, ℕ, List, [], ◌∷◌, ◌++◌, length, codes, decimal, ◌+◌, ◌/◌, ◌==◌, ◌||◌, Bool, map}
use Rattle.std.specs.Prelude.{flat_map, Option, None, if◌then◌else◌}
use Rattle.hex.specs.Hex.{IsBytes, encode_lower}
use Rattle.token_session.specs.declared.input.Meters.{Meters}
use Rattle.std.specs.List.{starts_with}
use Rattle.std.specs.Simd.{first_chunks}
use Rattle.authn_core.specs.Views.{Needed, nothing, presence, key, sign, IsValidNeed}
use Rattle.token_session.specs.declared.input.Timed.{Timed}
use Rattle.session_log.specs.declared.fault.LogFault.{LogFault}
use Rattle.session_log.specs.declared.line.Line.{Line}
use Rattle.session_log.specs.declared.line.Line.TheVariants.{Input, Sent, Comment, Count}

-- ---- the lines of the output

-- The bytes of a line, followed by a line feed.
abbrev pub with_line_feed : List ℕ → List ℕ
with_line_feed line = line ++ 10 ∷ []

-- The bytes of a tick's line, without the line feed.
abbrev pub tick_text : ℕ → List ℕ
tick_text at = codes "t " ++ decimal at

-- The packet consists of 64 bytes.
abbrev pub IsPacket : List ℕ → Type 0
IsPacket packet = (length packet ≡ 64) × IsBytes packet

-- Each packet has 64 bytes.
abbrev pub ArePackets : List (List ℕ) → Type 0
ArePackets [] = Unit {0}
ArePackets (packet ∷ more) = IsPacket packet × ArePackets more

-- The line for a packet that was sent, with its line feed.
abbrev pub sent_text : List ℕ → List ℕ
sent_text packet = codes "< " ++ encode_lower packet ++ 10 ∷ []

-- The line with the meters at the end of a log, with its line feed.
abbrev pub meters_line : Meters → List ℕ
meters_line m =
    codes "= held " ++ decimal m.held ++ codes " rows " ++ decimal m.rows ++ codes " pending " ++ decimal m.pending
    ++ codes " requests " ++ decimal m.requests ++ codes " bytes " ++ decimal m.bytes ++ codes " steps "
    ++ decimal m.steps ++ codes "\n"

-- The line `same I inputs P packets`, with its line feed.
abbrev pub same_line : (inputs packets : ℕ) → List ℕ
same_line inputs packets = codes "same " ++ decimal inputs ++ codes " inputs " ++ decimal packets ++ codes " packets\n"

-- ---- the comments with which `live` reports what the key needs from its caller (docs/use/LOG_FORMAT.md)

-- The bytes in pieces of 96 bytes. The last piece may be shorter.
abbrev pub pieces_of : List ℕ → List (List ℕ)
pieces_of bytes = first_chunks 96 ((length bytes + 95) / 96) bytes

-- The line with one piece of the bytes to sign.
abbrev pub signed_line : List ℕ → List ℕ
signed_line bytes = codes "# signed " ++ encode_lower bytes

-- The line with the ID of the credential that has to sign.
abbrev pub signature_need_line : List ℕ → List ℕ
signature_need_line id = codes "# need signature " ++ encode_lower id

-- The lines about what the key needs. For a signature, lines with the bytes to sign, 96 bytes per line, come before the
-- line that states the need.
abbrev pub need_lines : Needed → List (List ℕ)
need_lines nothing = codes "# need nothing" ∷ []
need_lines presence = codes "# need presence" ∷ []
need_lines key = codes "# need key" ∷ []
need_lines (sign id signed) = map signed_line (pieces_of signed) ++ signature_need_line id ∷ []

-- Whether a comment is the line that states what the key needs.
abbrev pub reports_need : List ℕ → Bool
reports_need line = starts_with ◌==◌ line (codes "# need ")

-- Whether a comment is a line about what the key needs, including a line with bytes to sign.
abbrev pub is_need_line : List ℕ → Bool
is_need_line line = reports_need line || starts_with ◌==◌ line (codes "# signed ")

-- ---- what a command does

-- The effect of an input on a state: the new state, the packets that are sent, and the meters.
pub record InputSemantics (S : Type 0) : Type 0 where
  pub turned : S → Timed → S
  pub sends : S → Timed → List (List ℕ)
  pub counts : S → Meters

-- What a command does for a parsed line in a state: the error, if any; the next state; a condition on the packets that
-- are sent; and the text that is written. At the end of the log: the error, if any; the text that is written; and the
-- meters.
pub record LineSemantics (S : Type 0) : Type 1 where
  pub stops : S → Line → Option LogFault
  pub moves : S → Line → S
  pub sound : S → Line → Type 0
  pub writes : S → List ℕ → Line → List ℕ
  pub lacks : S → Option LogFault
  pub ending : S → List ℕ
  pub counts : S → Meters

-- `replay` writes each input line and each comment again, the packets that are sent after each input line, and the
-- meters at the end. It accepts each log line.

-- The state after a line. Only an input changes the state.
abbrev pub state_after_line : {S : Type 0} → InputSemantics S → S → Line → S
state_after_line course s (Input timed) = course.turned s timed
state_after_line course s (Sent packet) = s
state_after_line course s Comment = s
state_after_line course s Count = s

-- Each packet that is sent for an input line has 64 bytes.
abbrev pub sends_packets : {S : Type 0} → InputSemantics S → S → Line → Type 0
sends_packets course s (Input timed) = ArePackets (course.sends s timed)
sends_packets course s (Sent packet) = Unit {0}
sends_packets course s Comment = Unit {0}
sends_packets course s Count = Unit {0}

-- The text that `replay` writes for a line.
abbrev pub replay_text : {S : Type 0} → InputSemantics S → S → List ℕ → Line → List ℕ
replay_text course s line (Input timed) = with_line_feed line ++ flat_map sent_text (course.sends s timed)
replay_text course s line (Sent packet) = []
replay_text course s line Comment = with_line_feed line
replay_text course s line Count = []

-- The semantics of `replay`.
abbrev pub replay_semantics : {S : Type 0} → InputSemantics S → LineSemantics S
replay_semantics course = record {
  stops = λ s l. None;
  moves = state_after_line course;
  sound = sends_packets course;
  writes = replay_text course;
  lacks = λ s. None;
  ending = λ s. meters_line (course.counts s);
  counts = course.counts;
}

-- `quiet` writes each input line and each comment again, with a tick in place of each ignored input, and nothing else.

-- The text that `quiet` writes for a line.
abbrev pub quiet_text : {S : Type 0} → (S → Timed → Bool) → S → List ℕ → Line → List ℕ
quiet_text noises s line (Input timed) = with_line_feed (if noises s timed then tick_text timed.at else line)
quiet_text noises s line (Sent packet) = []
quiet_text noises s line Comment = with_line_feed line
quiet_text noises s line Count = []

-- The semantics of `quiet`.
abbrev pub quiet_semantics : {S : Type 0} → InputSemantics S → (S → Timed → Bool) → LineSemantics S
quiet_semantics course noises = record {
  stops = λ s l. None;
  moves = state_after_line course;
  sound = λ s l. Unit {0};
  writes = quiet_text noises;
  lacks = λ s. None;
  ending = λ s. [];
  counts = course.counts;
}

-- `live` writes the same as `replay` and, after the packets of an input line, comments that state what the key needs.
-- Comments of this kind in the input are dropped.

-- Each packet that is sent for an input line has 64 bytes, and what the key needs after the line is well-formed.
abbrev pub sends_needs : {S : Type 0} → InputSemantics S → (S → Needed) → S → Line → Type 0
sends_needs course needs s (Input timed) = ArePackets (course.sends s timed) × IsValidNeed (needs (course.turned s timed))
sends_needs course needs s (Sent packet) = Unit {0}
sends_needs course needs s Comment = Unit {0}
sends_needs course needs s Count = Unit {0}

-- The text that `live` writes for a line.
abbrev pub live_text : {S : Type 0} → InputSemantics S → (S → Needed) → S → List ℕ → Line → List ℕ
live_text course needs s line (Input timed) =
    with_line_feed line ++ flat_map sent_text (course.sends s timed)
    ++ flat_map with_line_feed (need_lines (needs (course.turned s timed)))
live_text course needs s line (Sent packet) = []
live_text course needs s line Comment = if is_need_line line then [] else with_line_feed line
live_text course needs s line Count = []

-- The semantics of `live`.
abbrev pub live_semantics : {S : Type 0} → InputSemantics S → (S → Needed) → LineSemantics S
live_semantics course needs = record {
  stops = λ s l. None;
  moves = state_after_line course;
  sound = sends_needs course needs;
  writes = live_text course needs;
  lacks = λ s. None;
  ending = λ s. meters_line (course.counts s);
  counts = course.counts;
}
