-- A log that is played again gives the same bytes.
use Rattle.std.proofs.Common.{◌≡◌, ℕ, suc, ◌+◌, ◌≤◌, ◌<◌, ◌^◌, true, List, [], ◌∷◌, ◌++◌, length, map, flat_map, codes}
use Rattle.std.proofs.Common.{decimal, Option, Some, None, Ok, IsOk, refl, sym, ap, ◌∙◌, arith, append_assoc}
use Rattle.std.proofs.Common.{append-nil, length-append, Bool, false, cond, subst}
use Rattle.std.proofs.lemmas.{Fmt.length-decimal-le, Grind.flat_map-append, List.length-map}
use Rattle.hex.specs.Hex.{decode_sized, encode_lower}
use Rattle.hex.proofs.HexLemmas.{decode_sized-encode_lower, length-encode_with, IsOk-decode_sized}
use Rattle.hid_packet.specs.declared.packet.Packet.{Packet}
use Rattle.token_session.specs.{declared.input.Meters.Meters, Meters.SessionState}
use Rattle.session_log.specs.{declared.line.Line.Line, Lines.lines, Grammar.parsed, Replay.IsDone, Replay.RepeatsIn}
use Rattle.session_log.specs.declared.line.Line.TheVariants.{Sent, Count, Input, Comment}
use Rattle.session_log.specs.Replay.{Played, with_text_before, played, play_all, output_of, log, last_text, parsed_line_text, state_after, state_after_parsed}
use Rattle.session_log.specs.{Replay.SendsPackets, Replay.AllSend, Replay.FitsMeters, Semantics.need_lines, Semantics.is_need_line}
use Rattle.session_log.specs.Semantics.{IsPacket, ArePackets, with_line_feed, sent_text, meters_line}
use Rattle.session_log.specs.Semantics.{LineSemantics, InputSemantics, replay_semantics, live_semantics}
use Rattle.session_log.proofs.Through.{feedless, AreLines, feedless-append, AreLines-append, lines_joined}
use Rattle.session_log.proofs.Through.{lines_are_lines, decimal_feedless, hex_feedless, IsSound, sound_line, sound_first}
use Rattle.session_log.proofs.Spelled.{count_rest, spelled_is_read}
use Rattle.session_log.proofs.Through.{played_sound, prefixed_twice, said_fault, log_is}
use Rattle.authn_core.specs.Views.{Needed}
use Rattle.session_log.proofs.Spelled.{AreTold, needs_told, told_are}
use Rattle.std.specs.Io.KnownBytes.{Appends}

-- A semantics in which no line is faulty but for its text. What was sent and counted in an earlier run is dropped, and at
-- the end
-- stand the meters.
pub record IsLogging {S : Type 0} (w : LineSemantics S) (counts : S → Meters) : Type 0 where
  pub stops : (s : S) (l : Line) → w.stops s l ≡ None
  pub drops_sent : (s : S) (line : List ℕ) (packet : Packet) → w.writes s line (Sent packet) ≡ []
  pub stays_at_sent : (s : S) (packet : Packet) → w.moves s (Sent packet) ≡ s
  pub drops_count : (s : S) (line : List ℕ) → w.writes s line Count ≡ []
  pub stays_at_count : (s : S) → w.moves s Count ≡ s
  pub ends : (s : S) → last_text w s ≡ meters_line (counts s)

-- the line of a packet, without its line feed
abbrev pub sent_line : List ℕ → List ℕ
sent_line packet = codes "< " ++ encode_lower packet

pub sents_text : (packets : List (List ℕ)) → flat_map sent_text packets ≡ flat_map with_line_feed (map sent_line packets)
sents_text [] = refl
sents_text (packet ∷ more) = ap (λ (t : List ℕ). sent_text packet ++ t) (sents_text more)

-- the meters line, without its line feed
abbrev counts_of : Meters → List ℕ
counts_of m =
    codes " held " ++ decimal m.held ++ codes " rows " ++ decimal m.rows ++ codes " pending " ++ decimal m.pending
    ++ codes " requests " ++ decimal m.requests ++ codes " bytes " ++ decimal m.bytes ++ codes " steps " ++ decimal
    m.steps

-- A line that sends is read as one that was sent.

sent_digits : (packet : List ℕ) → IsPacket packet → decode_sized (encode_lower packet) 64 ≡ Ok packet
sent_digits packet h = decode_sized-encode_lower packet 64 h.0 h.1

sent_said : (packet : List ℕ) → IsPacket packet → parsed (sent_line packet) ≡ Some (Sent (record { 0 = packet }))
sent_said packet h = search (arith, spelled_is_read, sent_digits)

sent_sound : (packet : List ℕ) → IsPacket packet → IsSound (sent_line packet)
sent_sound packet h = search (arith, length-append, length-encode_with, sent_said)

sent_feedless : (packet : List ℕ) → IsPacket packet → feedless (sent_line packet) ≡ true
sent_feedless packet h = let ok : IsOk (decode_sized (encode_lower packet) 64) = rw (sent_digits packet h) refl in
    search (hex_feedless, ((IsOk-decode_sized (encode_lower packet) 64).0 ok).1)

pub sents_are : (packets : List (List ℕ)) → ArePackets packets → AreLines (map sent_line packets)
sents_are [] h = tt
sents_are (packet ∷ more) h = (sent_feedless packet h.0, sents_are more h.1)

-- Playing again what was written.

pub add_zero : (n : ℕ) → n ≡ n + 0
add_zero n = omega arith

module _ {S : Type 0} {w : LineSemantics S} {counts : S → Meters} (is : IsLogging w counts) where
  pub sound_step : (m : ℕ) (s : S) (line : List ℕ) (more : List (List ℕ)) (l : Option Line) → m < 2 ^ 32 → IsSound line
      → parsed line ≡ l → played w m s (line ∷ more)
      ≡ with_text_before (parsed_line_text w s line l) (played w (m + 1) (state_after_parsed w s l) more)
  sound_step m s line more l few sound e = search (arith, played_sound, said_fault)

  pub sents_again : (m : ℕ) (s : S) (packets rest : List (List ℕ)) → ArePackets packets → m + length packets ≤ 2 ^ 32
      → played w m s (map sent_line packets ++ rest) ≡ played w (m + length packets) s rest
  sents_again m s [] rest h few = search (arith, add_zero)
  sents_again m s (packet ∷ more) rest h few =
      let later = sents_again (m + 1) s more rest h.1 (omega (arith, few)) in
      search (arith, sound_step, sent_sound, sent_said, is.drops_sent, is.stays_at_sent)

-- the lines that v writes for a line, without their line feeds
pub record WritesLines {S : Type 0} (v : LineSemantics S) (wrote : S → List ℕ → Option Line → List (List ℕ)) : Type 0 where
  pub texts : (s : S) (line : List ℕ) (l : Option Line) → parsed_line_text v s line l ≡ flat_map with_line_feed (wrote s line l)
  pub are : (s : S) (line : List ℕ) (l : Option Line) → parsed line ≡ l → feedless line ≡ true → SendsPackets v s l
      → AreLines (wrote s line l)

abbrev pub written : {S : Type 0} (v : LineSemantics S) → (S → List ℕ → Option Line → List (List ℕ)) → S → List (List ℕ)
    → List (List ℕ)
written v wrote s [] = []
written v wrote s (line ∷ more) = wrote s line (parsed line) ++ written v wrote (state_after v s line) more

module _ {S : Type 0} {v : LineSemantics S} {wrote : S → List ℕ → Option Line → List (List ℕ)} (g : WritesLines v wrote) where
  pub written_text : (n : ℕ) (s : S) (ls : List (List ℕ)) → (played v n s ls).fault ≡ None
      → (played v n s ls).text ≡ flat_map with_line_feed (written v wrote s ls)
  written_text n s [] h = refl
  written_text n s (line ∷ more) h =
      let later = written_text (n + 1) (state_after v s line) more in
      search (arith, played_sound, sound_first, g.texts, flat_map-append)

  pub written_are : (s : S) (ls : List (List ℕ)) → AreLines ls → AllSend v s ls → AreLines (written v wrote s ls)
  written_are s [] h sends = tt
  written_are s (line ∷ more) h sends =
      search (arith, AreLines-append, written, written_are (state_after v s line) more h.1 sends.1)

-- what v writes for a line, w gives again
abbrev pub Repeats : {S : Type 0} (v w : LineSemantics S) → (S → List ℕ → Option Line → List (List ℕ)) → Type 0
Repeats {S} v w wrote = (m : ℕ) (s : S) (line : List ℕ) (l : Option Line) (rest : List (List ℕ)) → IsSound line
    → parsed line ≡ l → SendsPackets v s l → m + length (wrote s line l) ≤ 2 ^ 32
    → played w m s (wrote s line l ++ rest)
    ≡ with_text_before (parsed_line_text v s line l) (played w (m + length (wrote s line l)) (state_after_parsed v s l) rest)

pub record GivesAgain {S : Type 0} (v w : LineSemantics S) (wrote : S → List ℕ → Option Line → List (List ℕ)) : Type 0 where
  pub writes : WritesLines v wrote
  pub again : Repeats v w wrote

module _ {S : Type 0} {v w : LineSemantics S} {wrote : S → List ℕ → Option Line → List (List ℕ)} (g : GivesAgain v w wrote)
  where
    lines_again : (n m : ℕ) (s : S) (ls rest : List (List ℕ)) → (played v n s ls).fault ≡ None → AllSend v s ls
        → m + length (written v wrote s ls) ≤ 2 ^ 32 → played w m s (written v wrote s ls ++ rest)
        ≡ with_text_before (played v n s ls).text (played w (m + length (written v wrote s ls)) (played v n s ls).state rest)
    lines_again n m s [] rest h sends few = ap (λ (k : ℕ). played w k s rest) (add_zero m)
    lines_again n m s (line ∷ more) rest h sends few =
        let t = state_after v s line in
        let first = wrote s line (parsed line) in
        let others = written v wrote t more in
        let both = length-append first others in
        let sound = sound_first v n s line more h in
        let step = played_sound v n s line more sound in
        let later : (played v (n + 1) t more).fault ≡ None = search (arith, step) in
        let here = sound_line v n s line sound in
        let on = g.again m s line (parsed line) (others ++ rest) here refl sends.0 (omega (arith, few, both)) in
        let next = lines_again (n + 1) (m + length first) t more rest later sends.1 (omega (arith, few, both)) in
        search (arith, append_assoc first others rest, on, next, step, both, prefixed_twice)

-- one more word, and the number after it
number_more : (front word : List ℕ) (n : ℕ) → feedless front ≡ true → feedless word ≡ true → n < 2 ^ 64
    → feedless (front ++ word ++ decimal n) ≡ true
number_more front word n is_front is_word fits = search (arith, feedless-append, decimal_feedless)

counts_feedless : (m : Meters) → FitsMeters m → feedless (61 ∷ counts_of m) ≡ true
counts_feedless m h =
    let held = codes "= held " ++ decimal m.held in
    let rows = held ++ codes " rows " ++ decimal m.rows in
    let pending = rows ++ codes " pending " ++ decimal m.pending in
    let requests = pending ++ codes " requests " ++ decimal m.requests in
    let bytes = requests ++ codes " bytes " ++ decimal m.bytes in
    let first = (number_more [] (codes "= held ") m.held refl refl h.held) in
    search (arith, number_more bytes, number_more requests, number_more pending, number_more rows, number_more held)

counts_short : (m : Meters) → FitsMeters m → length (61 ∷ counts_of m) < 256
counts_short m h =
    let short = λ (n : ℕ) (fits : n < 2 ^ 64). length-decimal-le 20 n (omega arith) (omega (arith, fits)) fits in
    simp length-append (omega (
      arith,
      short m.held h.held,
      short m.rows h.rows,
      short m.pending h.pending,
      short m.requests h.requests,
      short m.bytes h.bytes,
      short m.steps h.steps,
    ))

-- Where no line is faulty, the log that v writes is its own log in w.
pub log_again : {S : Type 0} {v w : LineSemantics S} {counts : S → Meters} {wrote : S → List ℕ → Option Line → List (List ℕ)}
    → (writes : IsLogging v counts) → (gives : IsLogging w counts) → (g : GivesAgain v w wrote)
    → (s : S) (bytes : List ℕ) → (play_all v s bytes).fault ≡ None → AllSend v s (lines bytes)
    → FitsMeters (counts (play_all v s bytes).state) → length (lines (log v s bytes)) < 2 ^ 32
    → log w s (log v s bytes) ≡ log v s bytes
log_again {S = S} {v = v} {w = w} {counts = counts} {wrote = wrote} writes gives g s bytes h sends fits few =
    let p = play_all v s bytes in
    let m = counts p.state in
    let last = 61 ∷ counts_of m in
    let first = written v wrote s (lines bytes) in
    let whole : log v s bytes ≡ p.text ++ meters_line m = search (arith, log_is, writes.ends) in
    let text : log v s bytes ≡ flat_map with_line_feed (first ++ last ∷ []) =
    whole ∙ ap (λ (t : List ℕ). t ++ meters_line m) (written_text g.writes 1 s (lines bytes) h)
    ∙ ap (λ (t : List ℕ). flat_map with_line_feed first ++ t) (sym (append-nil (with_line_feed last)))
    ∙ sym (flat_map-append with_line_feed first (last ∷ [])) in
    let are : AreLines (first ++ last ∷ []) =
    AreLines-append first (last ∷ []) (written_are g.writes s (lines bytes) (lines_are_lines bytes) sends)
    (counts_feedless m fits, tt) in
    let cut : lines (log v s bytes) ≡ first ++ last ∷ [] = ap lines text ∙ lines_joined (first ++ last ∷ []) are in
    let space : length first + 1 < 2 ^ 32 = omega (arith, few, ap length cut, length-append first (last ∷ [])) in
    let is = count_rest (counts_of m) in
    let sound : IsSound last = record { short = counts_short m fits; says = λ e. cc (sym e ∙ is) } in
    let end : Played S = record { text = []; fault = None; state = p.state } in
    let ends : played w (1 + length first) p.state (last ∷ []) ≡ end =
    sound_step gives (1 + length first) p.state last [] (Some Count) (omega (arith, space)) sound is
    ∙ search (gives.drops_count p.state last, gives.stays_at_count p.state) in
    let plays : play_all w s (log v s bytes) ≡ with_text_before p.text end =
    ap (played w 1 s) cut ∙ lines_again g 1 1 s (lines bytes) (last ∷ []) h sends (omega (arith, space))
    ∙ ap (with_text_before p.text) ends in
    ap (output_of w) plays ∙ search (append-nil p.text, gives.ends p.state, whole)

-- What a replay writes, a replay gives again.

module _ {S : Type 0} (course : InputSemantics S) where
  abbrev replays : LineSemantics S
  replays = replay_semantics course

  abbrev pub lines_by : S → List ℕ → Option Line → List (List ℕ)
  lines_by s line (Some Comment) = line ∷ []
  lines_by s line (Some (Input timed)) = line ∷ map sent_line (course.sends s timed)
  lines_by s line l = []

  pub replay_logs : IsLogging replays course.counts
  replay_logs = search arith

  text_lines : (s : S) (line : List ℕ) (l : Option Line) → parsed_line_text replays s line l ≡ flat_map with_line_feed (lines_by s line l)
  text_lines s line l = search (arith, append-nil, sents_text)

  line_are : (s : S) (line : List ℕ) (l : Option Line) → parsed line ≡ l → feedless line ≡ true → SendsPackets replays s l
      → AreLines (lines_by s line l)
  line_are s line l e h sends = search (arith, sents_are)

  line_again : Repeats replays replays lines_by
  line_again m s line l rest sound e h few = search (arith, sound_step, replay_logs, length-map, sents_again, add_zero)

  pub replay_again : GivesAgain replays replays lines_by
  replay_again = record { writes = record { texts = text_lines; are = line_are }; again = line_again }

-- What is written with what is needed is its own log: replayed, and with what is needed again.

comment_are : (line : List ℕ) (b : Bool) → feedless line ≡ true → AreLines (cond b [] (line ∷ []))
comment_are line b h = search arith

comment_kept : {S : Type 0} (w : LineSemantics S) (m : ℕ) (s : S) (line : List ℕ) (rest : List (List ℕ)) (b : Bool)
    → (b ≡ false → m < 2 ^ 32 → played w m s (line ∷ rest) ≡ with_text_before (with_line_feed line) (played w (m + 1) s rest))
    → m + length (cond b [] (line ∷ [])) ≤ 2 ^ 32 → played w m s (cond b [] (line ∷ []) ++ rest)
    ≡ with_text_before (cond b [] (with_line_feed line)) (played w (m + length (cond b [] (line ∷ []))) s rest)
comment_kept w m s line rest b h k = search (arith, add_zero)

counted : (m : ℕ) (packets told : List (List ℕ)) → m + 1 + length packets + length told
    ≡ m + suc (length (map sent_line packets ++ told))
counted m packets told = search (arith, length-map, length-append)

module _ {S : Type 0} (course : InputSemantics S) (needs : S → Needed) where
  abbrev lives : LineSemantics S
  lives = live_semantics course needs

  abbrev copies : LineSemantics S
  copies = replay_semantics course

  pub live_logs : IsLogging lives course.counts
  live_logs = search arith

  abbrev pub needs_of : S → List ℕ → Option Line → List (List ℕ)
  needs_of s line (Some Comment) = cond (is_need_line line) [] (line ∷ [])
  needs_of s line (Some (Input timed)) =
      line ∷ map sent_line (course.sends s timed) ++ need_lines (needs (course.turned s timed))
  needs_of s line l = []

  lived_lines : (s : S) (line : List ℕ) (l : Option Line) → parsed_line_text lives s line l ≡ flat_map with_line_feed (needs_of s line l)
  lived_lines s line l = search (arith, append_assoc, sents_text, flat_map-append, append-nil)

  lived_are : (s : S) (line : List ℕ) (l : Option Line) → parsed line ≡ l → feedless line ≡ true → SendsPackets lives s l
      → AreLines (needs_of s line l)
  lived_are s line l e h sends = search (arith, comment_are, AreLines-append, sents_are, told_are, needs_told)

  -- the lines that tell what is needed are dropped, or replayed as they are

  told_dropped : (m : ℕ) (s : S) (ls rest : List (List ℕ)) → AreTold ls → m + length ls ≤ 2 ^ 32
      → played lives m s (ls ++ rest) ≡ played lives (m + length ls) s rest
  told_dropped m s [] rest h few = search (arith, add_zero)
  told_dropped m s (line ∷ more) rest h few =
      let next : m + 1 + length more ≡ m + suc (length more) = omega arith in
      let later = told_dropped (m + 1) s more rest h.1 (omega (arith, few, next)) in
      search (arith, sound_step live_logs m s line, h.0.sound, h.0.parsed, h.0.tells)

  needs_copied : (m : ℕ) (s : S) (ls rest : List (List ℕ)) → AreTold ls → m + length ls ≤ 2 ^ 32
      → played copies m s (ls ++ rest) ≡ with_text_before (flat_map with_line_feed ls) (played copies (m + length ls) s rest)
  needs_copied m s [] rest h few = search (arith, add_zero)
  needs_copied m s (line ∷ more) rest h few =
      let next : m + 1 + length more ≡ m + suc (length more) = omega arith in
      let later = needs_copied (m + 1) s more rest h.1 (omega (arith, few, next)) in
      search (arith, sound_step (replay_logs course) m s line, h.0.sound, h.0.parsed, prefixed_twice)

  lived_again : Repeats lives lives needs_of
  lived_again m s line None rest sound e h few = absurd (sound.says e)
  lived_again m s line (Some Comment) rest sound e h few =
      comment_kept lives m s line rest (is_need_line line)
      (λ keeps space. sound_step live_logs m s line rest (Some Comment) space sound e
      ∙ ap (λ (b : Bool). with_text_before (cond b [] (with_line_feed line)) (played lives (m + 1) s rest)) keeps) few
  lived_again m s line (Some (Input timed)) rest sound e h few =
      let packets = course.sends s timed in
      let told = need_lines (needs (course.turned s timed)) in
      let count = counted m packets told in
      let both = append_assoc (map sent_line packets) told rest in
      search (arith, sound_step live_logs, sents_again live_logs, told_dropped, needs_told)
  lived_again m s line l rest sound e h few = search (arith, add_zero)

  replayed_again : Repeats lives copies needs_of
  replayed_again m s line None rest sound e h few = absurd (sound.says e)
  replayed_again m s line (Some Comment) rest sound e h few =
      search (arith, comment_kept copies m s line rest (is_need_line line), sound_step (replay_logs course))
  replayed_again m s line (Some (Input timed)) rest sound e h few =
      let packets = course.sends s timed in
      let told = need_lines (needs (course.turned s timed)) in
      let count = counted m packets told in
      let both = append_assoc (map sent_line packets) told rest in
      let logs = replay_logs course in
      search (arith, sound_step logs, sents_again logs, needs_copied, needs_told, prefixed_twice)
  replayed_again m s line l rest sound e h few = search (arith, add_zero)

  pub live_again : GivesAgain lives lives needs_of
  live_again = record { writes = record { texts = lived_lines; are = lived_are }; again = lived_again }

  pub live_replayed : GivesAgain lives copies needs_of
  live_replayed = record { writes = record { texts = lived_lines; are = lived_are }; again = replayed_again }

-- What was written is its own log.

-- what v wrote, w gives again
pub repeats_in : {v w : LineSemantics SessionState} {wrote : SessionState → List ℕ → Option Line → List (List ℕ)}
    → (writes : IsLogging v (λ s. s.meters)) → (gives : IsLogging w (λ s. s.meters)) → (again : GivesAgain v w wrote)
    → (taken taken' : Option (List ℕ)) (s0 s : SessionState) (bytes text : List ℕ) → Appends taken taken' text
    → IsDone v s0 s bytes text → (play_all v s0 bytes).fault ≡ None → AllSend v s0 (lines bytes) → FitsMeters s.meters
    → RepeatsIn w taken taken' s0
repeats_in {w = w} writes gives again taken taken' s0 s bytes text q whole faultless sends fits = (
  text,
  q,
  λ few. rw whole.written
      (log_again writes gives again s0 bytes faultless sends
      (subst (λ (z : SessionState). FitsMeters z.meters) whole.stands fits)
      (subst (λ (t : List ℕ). length (lines t) < 2 ^ 32) whole.written few)),
)
