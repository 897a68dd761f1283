-- The definitions on worked examples, by computation.
use Rattle.std.proofs.Common.{◌≡◌, ℕ, ◌+◌, ◌-◌, ◌*◌, ◌^◌, List, [], ◌∷◌, ◌++◌, map, ◌==◌, codes, replicate, Option}
use Rattle.std.proofs.Common.{Some, None, refl, if◌then◌else◌, nat_lt}
use Rattle.std.specs.Fmt.{digits}
use Rattle.hex.proofs.OnLiterals.{hex_on_literals}
use Rattle.token_session.specs.declared.input.Input.{Input as AnyInput}
use Rattle.authn_core.specs.declared.replies.Presence.TheVariants.{Granted, Denied, TimedOut}
use Rattle.token_session.specs.declared.input.Input.TheVariants.{Packet, Tick, Presence, Key, Signature}
use Rattle.session_log.specs.declared.{fault.LogFault.LogFault, line.Line.Line}
use Rattle.session_log.specs.declared.fault.LogFault.TheVariants.{BadLine, TooLong, Differs, TooManyLines}
use Rattle.session_log.specs.{Check.Compared, Check.first_comparison, Check.check_semantics, Grammar.moment, Grammar.parsed, Semantics.need_lines}
use Rattle.session_log.specs.declared.line.Line.TheVariants.{Input, Sent, Comment, Count}
use Rattle.session_log.specs.Lines.{lines, whole_lines, last_piece}
use Rattle.session_log.specs.Replay.{line_fault, fault_of, play_all, log}
use Rattle.session_log.specs.Semantics.{InputSemantics, LineSemantics, replay_semantics, quiet_semantics, live_semantics}
use Rattle.authn_core.specs.Views.{nothing, presence, sign}
use Rattle.hex.specs.Hex.{encode_with}

-- the bytes that hexadecimal digits write, in lower case
hex_bytes : List ℕ → List ℕ
hex_bytes (high ∷ low ∷ rest) = (16 * digit high + digit low) ∷ hex_bytes rest
  where
    digit : ℕ → ℕ
    digit c = if nat_lt c 97 then c - 48 else c - 87
hex_bytes _ = []

-- n zeros, as digits
zeros : ℕ → List ℕ
zeros n = replicate n 48

-- what lines say; none of the refused ones is a log line
abbrev says : List ℕ → Line → Type 0
says line l = parsed line ≡ Some l

abbrev at_5 : AnyInput → Line
at_5 input = Input (record { at = 5; input = input })

abbrev AreRefused : List (List ℕ) → Type 0
AreRefused refused = map parsed refused ≡ map (λ line. None) refused

-- lines, with and without a last line feed
row-lines : (lines (codes "a\nb") ≡ codes "a" ∷ codes "b" ∷ []) × (lines (codes "a\n\n") ≡ codes "a" ∷ [] ∷ [])
    × (lines [] ≡ [])
row-lines = (refl, refl, refl)

row-whole : (whole_lines (codes "a\nb") ≡ codes "a" ∷ []) × (last_piece (codes "a\nb") ≡ codes "b")
row-whole = (refl, refl)

-- comments and counts
row-comments : says [] Comment × says (codes "# any") Comment × says (codes "=") Count
row-comments = (refl, refl, refl)

-- a carriage return, a space, a byte order mark
row-no_line : AreRefused (codes "\r" ∷ codes " " ∷ (hex_bytes (codes "efbbbf") ++ codes "t 5") ∷ codes " #" ∷ [])
unfolding hex_bytes
row-no_line = refl

-- times
row-ticks : says (codes "t 5") (at_5 Tick) × says (codes "t 0") (Input (record { at = 0; input = Tick }))
    × says (codes "t 18446744073709551615") (Input (record { at = 2 ^ 64 - 1; input = Tick }))
unfolding moment digits
row-ticks = (refl, refl, refl)

row-no_moment : AreRefused
    (codes "t 18446744073709551616" ∷ codes "t 05" ∷ codes "t +5" ∷ codes "t " ∷ codes "t  5" ∷ [])
unfolding moment digits
row-no_moment = refl

-- packets: 128 digits, in either case
row-packets : says (codes "> 5 aB" ++ zeros 126)
    (at_5 (Packet (record { 0 = hex_bytes (codes "ab") ++ replicate 63 0 })))
    × says (codes "< Fe" ++ zeros 126) (Sent (record { 0 = hex_bytes (codes "fe") ++ replicate 63 0 }))
unfolding moment digits hex_on_literals hex_bytes zeros
row-packets = (refl, refl)

row-no_packet : AreRefused (codes "> 5 0000" ∷ (codes "< " ++ zeros 127 ++ codes "g") ∷ (codes "> " ++ zeros 128) ∷ [])
unfolding moment digits hex_on_literals zeros
row-no_packet = refl

-- replies
row-presence : says (codes "p 5 granted") (at_5 (Presence Granted)) × says (codes "p 5 denied") (at_5 (Presence Denied))
    × says (codes "p 5 timeout") (at_5 (Presence TimedOut)) × AreRefused (codes "p 5 Granted" ∷ [])
unfolding moment digits
row-presence = (refl, refl, refl, refl)

row-keys : says (codes "k 5 no") (at_5 (Key None))
    × says (codes "k 5 aB" ++ zeros 62 ++ codes " 0c" ++ zeros 62 ++ codes " 0D" ++ zeros 62) (at_5 (Key (Some (record {
      id = hex_bytes (codes "ab") ++ replicate 31 0;
      x = hex_bytes (codes "0c") ++ replicate 31 0;
      y = hex_bytes (codes "0d") ++ replicate 31 0;
    }))))
    × AreRefused ((codes "k 5 " ++ zeros 64 ++ codes " " ++ zeros 64) ∷ [])
unfolding moment digits hex_on_literals hex_bytes zeros
row-keys = (refl, refl, refl)

row-signatures : says (codes "s 5 no") (at_5 (Signature None))
    × says (codes "s 5 aB") (at_5 (Signature (Some (hex_bytes (codes "ab")))))
    × says (codes "s 5 " ++ zeros 144) (at_5 (Signature (Some (replicate 72 0))))
    × AreRefused ((codes "s 5 " ++ zeros 146) ∷ codes "s 5 abc" ∷ codes "s 5 " ∷ [])
unfolding moment digits hex_on_literals hex_bytes zeros
row-signatures = (refl, refl, refl, refl)

-- a semantics that sends each packet back and counts its inputs as requests
came_back : AnyInput → List (List ℕ)
came_back (Packet packet) = packet.0 ∷ []
came_back _ = []

abbrev echoes : InputSemantics ℕ
echoes =
    record {
      turned = λ s x. s + 1;
      sends = λ s x. came_back x.input;
      counts = λ s. record { held = 0; rows = 0; pending = 0; requests = s; bytes = 0; steps = 0 };
    }

abbrev echo : LineSemantics ℕ
echo = replay_semantics echoes

-- faults: a line of 256 bytes is too long before it is read, and line 2^32 is one too many before that
row-faults : (line_fault echo 7 0 (codes "#" ++ zeros 254) ≡ None) × (line_fault echo 7 0 (zeros 256) ≡ Some (TooLong 7))
    × (line_fault echo 7 0 (zeros 255) ≡ Some (BadLine 7)) × (line_fault echo (2 ^ 32 - 1) 0 [] ≡ None)
    × (line_fault echo (2 ^ 32) 0 (zeros 256) ≡ Some TooManyLines)
unfolding zeros
row-faults = (refl, refl, refl, refl, refl)

-- the log of a log: inputs and comments again, with what was sent, and the meters line in place of the old one
row-log : log echo 0 (codes "#\nt 5\n= held 9\n")
    ≡ codes "#\nt 5\n= held 0 rows 0 pending 0 requests 1 bytes 0 steps 0\n"
unfolding moment digits came_back
row-log = refl

row-echo : log echo 0 (codes "> 0 AB" ++ zeros 126) ≡ codes "> 0 AB" ++ zeros 126 ++ codes "\n< ab" ++ zeros 126
    ++ codes "\n= held 0 rows 0 pending 0 requests 1 bytes 0 steps 0\n"
unfolding moment digits came_back hex_on_literals zeros
row-echo = refl

-- the first faulty line ends it
row-faulty : play_all echo 0 (codes "t 5\nt 05\nt 6\n")
    ≡ record { text = codes "t 5\n"; fault = Some (BadLine 2); state = 1 }
unfolding moment digits came_back
row-faulty = refl

-- made quiet, where just the first input is noise
row-quiet : log (quiet_semantics echoes (λ s x. s == 0)) 0
    (codes "> 3 AB" ++ zeros 126 ++ codes "\n< ab" ++ zeros 126 ++ codes "\n#\n= held 9\np 2 denied")
    ≡ codes "t 3\n#\np 2 denied\n"
unfolding moment digits came_back hex_on_literals zeros
row-quiet = refl

-- what is needed: the bytes to sign, 96 a line, and the credential
row-to_sign : (need_lines (sign (hex_bytes (codes "ab")) (replicate 97 0))
    ≡ (codes "# signed " ++ zeros 192) ∷ codes "# signed 00" ∷ codes "# need signature ab" ∷ [])
    × (need_lines (sign (hex_bytes (codes "ab")) []) ≡ codes "# need signature ab" ∷ [])
unfolding encode_with zeros hex_bytes
row-to_sign = (refl, refl)

-- it is what is needed after the input that is told; what an earlier run told is dropped
row-live : log (live_semantics echoes (λ s. if s == 1 then presence else nothing)) 0
    (codes "# need key\n# need\nt 5\n# signed 00\n= held 9\np 6 denied") ≡ codes
    "# need\nt 5\n# need presence\np 6 denied\n# need nothing\n= held 0 rows 0 pending 0 requests 2 bytes 0 steps 0\n"
unfolding moment digits came_back
row-live = refl

-- compared: the packets that are sent stand after their input
abbrev check_echo : LineSemantics (Compared ℕ)
check_echo = check_semantics echoes

abbrev checked : List ℕ → Option LogFault
checked bytes = fault_of check_echo (play_all check_echo (first_comparison 0) bytes)

packet_line : (first : List ℕ) → List ℕ
packet_line first = first ++ zeros 126

row-same : log check_echo (first_comparison 0)
    (packet_line (codes "> 0 AB") ++ codes "\n#\n" ++ packet_line (codes "< aB") ++ codes "\n= held 9\nt 5\n")
    ≡ codes "same 2 inputs 1 packets\n"
unfolding moment digits came_back hex_on_literals packet_line zeros
row-same = refl

row-missing : (checked (codes "#\n" ++ packet_line (codes "> 0 ab")) ≡ Some (Differs 2 1))
    × (checked (codes "#\n" ++ packet_line (codes "> 0 ab") ++ codes "\n\nt 5\nt 05\n") ≡ Some (Differs 2 1))
    × (checked (packet_line (codes "> 0 ab") ++ codes "\nt 05\n") ≡ Some (BadLine 2))
unfolding moment digits came_back hex_on_literals packet_line zeros
row-missing = (refl, refl, refl)

-- another packet, one too many, and one before any input
row-others : (checked (packet_line (codes "> 0 ab") ++ codes "\n" ++ packet_line (codes "< ac") ++ codes "\nt 05\n")
    ≡ Some (Differs 1 1))
    × (checked (packet_line (codes "> 0 ab") ++ codes "\n" ++ packet_line (codes "< ab") ++ codes "\n"
    ++ packet_line (codes "< ab")) ≡ Some (Differs 1 2))
    × (checked (codes "#\n" ++ packet_line (codes "< ab")) ≡ Some (Differs 0 1))
unfolding moment digits came_back hex_on_literals packet_line zeros
row-others = (refl, refl, refl)
