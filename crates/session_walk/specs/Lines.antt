-- How a line of a log changes the messages that are kept, and the messages that are shown with a line.
use Rattle.std.specs.Prelude.{◌≡◌, ◌==◌, ℕ, Some, option_map, if◌then◌else◌, ⊤, List, Option, None, []}
use Rattle.hid_packet.specs.Packet.{CBOR, Fields, command_of, continuation, data_of, fields, initialization}
use Rattle.hid_packet.specs.Packet.{length_of}
use Rattle.token_session.specs.declared.input.Input.TheVariants.{Packet, Tick, Presence, Key, Signature}
use Rattle.token_session.specs.declared.input.Input.{Input as AnyInput}
use Rattle.session_log.specs.declared.line.Line.{Line}
use Rattle.session_log.specs.declared.line.Line.TheVariants.{Input, Sent, Comment, Count}
use Rattle.session_walk.specs.Messages.{KeptMessages, AddsData, CanBeKept, KeepsOnly, new_message, continued, kept_at}
use Rattle.session_walk.specs.Messages.{complete_bytes_at}
use Rattle.session_walk.specs.declared.ambiguous.ResolvedPacket.{ResolvedPacket}
use Rattle.session_walk.specs.declared.ambiguous.CompletedMessage.{CompletedMessage}
use Rattle.session_walk.specs.declared.entry.CborMessage.{CborMessage}
use Rattle.session_walk.specs.declared.entry.LineEntry.{LineEntry}
use Rattle.session_walk.specs.declared.tracker.TransactionTracker.{TransactionTracker}

-- ---- how a line changes the stored messages (CTAP 2.1, section 11.2.4, "Message and packet structure")

-- A packet on line `number` adds its data to the message that began at line `transaction`.
abbrev pub PacketAddsData : (number : ℕ) → Fields → (transaction : ℕ) → (before after : KeptMessages) → Type 0
PacketAddsData number packet transaction = AddsData number (length_of packet) (data_of packet) transaction

-- An input on line `number` adds its packet's data to the message that began at line `transaction`.
abbrev pub InputAddsData : (number : ℕ) → AnyInput → (transaction : ℕ) → (before after : KeptMessages) → Type 0
InputAddsData number (Packet packet) transaction = PacketAddsData number (fields packet.0) transaction
InputAddsData number Tick transaction = KeepsOnly
InputAddsData number (Presence reply) transaction = KeepsOnly
InputAddsData number (Key reply) transaction = KeepsOnly
InputAddsData number (Signature reply) transaction = KeepsOnly

-- Line `number` adds its packet's data to the message that began at line `transaction`.
abbrev pub LineAddsData : (number : ℕ) → Line → (transaction : ℕ) → (before after : KeptMessages) → Type 0
LineAddsData number (Input timed) transaction = InputAddsData number timed.input transaction
LineAddsData number (Sent packet) transaction = PacketAddsData number (fields packet.0) transaction
LineAddsData number Comment transaction = KeepsOnly
LineAddsData number Count transaction = KeepsOnly

-- An initialization packet on line `number` begins a stored CBOR message, if its length is allowed.
abbrev pub PacketBeginsKept : (number : ℕ) → Fields → (after : KeptMessages) → Type 0
PacketBeginsKept number packet after = command_of packet ≡ CBOR → CanBeKept (length_of packet)
    → kept_at after number ≡ Some (new_message number (length_of packet) (data_of packet))

-- An input on line `number` whose packet begins a CBOR message stores it, if its length is allowed.
abbrev pub InputKeeps : (number : ℕ) → AnyInput → (after : KeptMessages) → Type 0
InputKeeps number (Packet packet) after = PacketBeginsKept number (fields packet.0) after
InputKeeps number Tick after = ⊤
InputKeeps number (Presence reply) after = ⊤
InputKeeps number (Key reply) after = ⊤
InputKeeps number (Signature reply) after = ⊤

-- A line whose packet begins a CBOR message stores it, if its length is allowed.
abbrev pub LineKeeps : (number : ℕ) → Line → (after : KeptMessages) → Type 0
LineKeeps number (Input timed) after = InputKeeps number timed.input after
LineKeeps number (Sent packet) after = PacketBeginsKept number (fields packet.0) after
LineKeeps number Comment after = ⊤
LineKeeps number Count after = ⊤

-- Each message stored before is stored after.
abbrev pub KeepsAll : (before after : KeptMessages) → Type 0
KeepsAll before after = (line : ℕ) → kept_at after line ≡ kept_at before line

-- A continuation packet continues the message that began at line `transaction`, and no other.
abbrev pub PacketContinues : Fields → (transaction : ℕ) → (before after : KeptMessages) → Type 0
PacketContinues (initialization channel command size part) transaction before after = ⊤
PacketContinues (continuation channel number part) transaction before after = (line : ℕ) → kept_at after line
    ≡ (if line == transaction then option_map (continued part) (kept_at before transaction) else kept_at before line)

-- An input whose packet is a continuation packet continues the message that began at line `transaction`, and no other.
abbrev pub InputContinues : AnyInput → (transaction : ℕ) → (before after : KeptMessages) → Type 0
InputContinues (Packet packet) transaction = PacketContinues (fields packet.0) transaction
InputContinues Tick transaction = KeepsAll
InputContinues (Presence reply) transaction = KeepsAll
InputContinues (Key reply) transaction = KeepsAll
InputContinues (Signature reply) transaction = KeepsAll

-- A line whose packet is a continuation packet continues the message that began at line `transaction`, and no other.
abbrev pub LineContinues : Line → (transaction : ℕ) → (before after : KeptMessages) → Type 0
LineContinues (Input timed) transaction = InputContinues timed.input transaction
LineContinues (Sent packet) transaction = PacketContinues (fields packet.0) transaction
LineContinues Comment transaction = KeepsAll
LineContinues Count transaction = KeepsAll

-- ---- the CBOR messages that are shown with a line

-- The bytes of a message that is shown, or None if they weren't kept.
abbrev pub message_bytes : Option CborMessage → Option (Option (List ℕ))
message_bytes = option_map (λ message. option_map (λ bytes. bytes.now) message.bytes)

-- The bytes of the completed message, or None if they weren't kept.
abbrev pub completed_bytes : KeptMessages → Option CompletedMessage → Option (Option (List ℕ))
completed_bytes kept = option_map (λ completed. complete_bytes_at kept completed.line)

-- The line with an ambiguous packet, which is shown when its transaction is known.
pub record ShowsResolved (kept : KeptMessages) (resolved : Option ResolvedPacket) (deferred : Option LineEntry) : Type 0 where
  pub line : option_map (λ own. own.number) deferred ≡ option_map (λ resolved. resolved.line) resolved
  pub parsed : option_map (λ own. own.parsed.now) deferred ≡ option_map (λ resolved. resolved.parsed) resolved
  pub transaction : option_map (λ own. own.transaction) deferred ≡ option_map (λ resolved. resolved.transaction) resolved
  pub data_len : option_map (λ own. own.data_len) deferred ≡ option_map (λ resolved. resolved.data_len) resolved
  pub message : option_map (λ own. message_bytes own.message) deferred
      ≡ option_map (λ resolved. completed_bytes kept resolved.completed) resolved

-- The previous line completed no message and ended no transaction.
pub record EndsNothing (walk : TransactionTracker) : Type 0 where
  pub completed : walk.completed ≡ None
  pub resolved : walk.resolved ≡ None
  pub ended : walk.ended.0.items ≡ []
