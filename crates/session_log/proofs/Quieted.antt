-- What a log that was made quiet says.
use Rattle.std.proofs.Common.{◌≡◌, ◌≢◌, ℕ, ◌+◌, ◌≤◌, ◌<◌, ◌^◌, nat_le, Bool, true, false, cond, List, [], ◌∷◌, ◌++◌}
use Rattle.std.proofs.Common.{length, flat_map, codes, decimal, Option, Some, None, inl, refl, sym, ap, ◌∙◌, arith}
use Rattle.std.proofs.Common.{append-nil, length-append}
use Rattle.std.proofs.lemmas.{Bool.Decides.nat_tests, Fmt.length-decimal-le}
use Rattle.authn_core.specs.Turn.{Start}
use Rattle.token_session.specs.{declared.input.Timed.Timed, History.state_of, History.append_inputs, Meters.SessionState, Meters.session_of}
use Rattle.token_session.specs.History.{receive, received}
use Rattle.token_session.specs.Noise.{HasTicksForNoise, IsSameOrTick, is_noise_after, tick_at}
use Rattle.token_session.proofs.Metering.{noise_is_named, quiet_alike}
use Rattle.session_log.specs.declared.line.Line.{Line, TheVariants.Input, TheVariants.Comment}
use Rattle.session_log.specs.{Check.inputs, Check.line_inputs, Replay.history_semantics, Replay.quiet_history}
use Rattle.session_log.specs.{Lines.lines, Grammar.parsed, Semantics.with_line_feed, Semantics.tick_text, Replay.AllSend, Replay.SendsPackets}
use Rattle.session_log.specs.Replay.{played, play_all, parsed_line_text, state_after, state_after_parsed, parsed_line_fault, line_fault}
use Rattle.session_log.specs.Semantics.{InputSemantics, LineSemantics, quiet_semantics}
use Rattle.session_log.proofs.Again.{WritesLines, written, written_are, written_text}
use Rattle.session_log.proofs.Through.{IsSound, sound_first, sound_line, feedless, AreLines, feedless-append}
use Rattle.session_log.proofs.Through.{lines_joined, lines_are_lines, decimal_feedless}
use Rattle.session_log.proofs.Spelled.{read_is_spelled, spelled_is_read}
use Rattle.session_log.proofs.Through.{played_sound, said_fault}

tick_feedless : (at : ℕ) → at < 2 ^ 64 → feedless (tick_text at) ≡ true
tick_feedless at fits = feedless-append (codes "t ") (decimal at) refl (decimal_feedless at fits)

either_feedless : (b : Bool) (a line : List ℕ) → feedless a ≡ true → feedless line ≡ true
    → feedless (cond b a line) ≡ true
either_feedless b a line h k = search arith

tick_said : (at : ℕ) → at < 2 ^ 64 → parsed (tick_text at) ≡ Some (Input (tick_at at))
tick_said at fits = spelled_is_read (tick_text at) (Input (tick_at at)) (fits, refl)

either_said : (b : Bool) (line : List ℕ) (x : Timed) → parsed line ≡ Some (Input x)
    → parsed (cond b (tick_text x.at) line) ≡ Some (Input (cond b (tick_at x.at) x))
either_said true line x e = tick_said x.at (read_is_spelled line (Input x) e).0
either_said false line x e = e

abbrev AreSound : List (List ℕ) → Type 0
AreSound [] = Unit {0}
AreSound (line ∷ more) = IsSound line × AreSound more

AreSound-append : (xs ys : List (List ℕ)) → AreSound xs → AreSound ys → AreSound (xs ++ ys)
AreSound-append [] ys h k = k
AreSound-append (x ∷ xs) ys h k = (h.0, AreSound-append xs ys h.1 k)

few_lines : (n : ℕ) → nat_le (2 ^ 32) n ≡ false → n < 2 ^ 32
few_lines n h = grind (arith, nat_tests)

few_before : {S : Type 0} (semantics : LineSemantics S) (n : ℕ) (s : S) (line : List ℕ) → line_fault semantics n s line ≡ None
    → n < 2 ^ 32
few_before semantics n s line h = search (arith, few_lines)

tick_sound : (at : ℕ) → at < 2 ^ 64 → IsSound (tick_text at)
tick_sound at fits = search (arith, length-append, length-decimal-le, tick_said)

either_sound : (b : Bool) (a line : List ℕ) → IsSound a → IsSound line → IsSound (cond b a line)
either_sound b a line h k = search arith

-- The lines that are written, without their line feeds: each of them is one, and none is faulty.
module _ {S : Type 0} (course : InputSemantics S) (noises : S → Timed → Bool) where
  abbrev quiets : LineSemantics S
  quiets = quiet_semantics course noises

  abbrev kept_by : S → List ℕ → Option Line → List (List ℕ)
  kept_by s line (Some Comment) = line ∷ []
  kept_by s line (Some (Input x)) = cond (noises s x) (tick_text x.at) line ∷ []
  kept_by s line l = []

  abbrev kept : S → List (List ℕ) → List (List ℕ)
  kept = written quiets kept_by

  kept_text_by : (s : S) (line : List ℕ) (l : Option Line) → parsed_line_text quiets s line l ≡ flat_map with_line_feed (kept_by s line l)
  kept_text_by s line l = search (arith, append-nil)

  line_kept : (s : S) (line : List ℕ) (l : Option Line) → parsed line ≡ l → feedless line ≡ true → SendsPackets quiets s l
      → AreLines (kept_by s line l)
  line_kept s line (Some (Input x)) e h sends =
      let spells = read_is_spelled line (Input x) e in search (arith, either_feedless, tick_feedless)
  line_kept s line l e h sends = search arith

  lines_kept : WritesLines quiets kept_by
  lines_kept = record { texts = kept_text_by; are = line_kept }

  all_send : (s : S) (ls : List (List ℕ)) → AllSend quiets s ls
  all_send s [] = tt
  all_send s (line ∷ more) = search (arith, all_send (state_after quiets s line) more)

  read_is_sound : (n : ℕ) (s : S) (l : Option Line) → l ≢ None → parsed_line_fault quiets n s l ≡ None
  read_is_sound n s l h = search arith

  sound_is_played : (n : ℕ) (s : S) (ls : List (List ℕ)) → AreSound ls → n + length ls ≤ 2 ^ 32
      → (played quiets n s ls).fault ≡ None
  sound_is_played n s [] h few = refl
  sound_is_played n s (line ∷ more) h few =
      let later = sound_is_played (n + 1) (state_after quiets s line) more h.1 (omega (arith, few)) in
      search (arith, said_fault, read_is_sound, played_sound, h.0.short, h.0.says)

  line_sound : (s : S) (line : List ℕ) (l : Option Line) → parsed line ≡ l → IsSound line
      → AreSound (kept_by s line l) × (length (kept_by s line l) ≤ 1)
  line_sound s line (Some (Input x)) e h =
      let spells = read_is_spelled line (Input x) e in search (arith, either_sound, tick_sound)
  line_sound s line l e h = search arith

  kept_sound : (n : ℕ) (s : S) (ls : List (List ℕ)) → n ≤ 2 ^ 32 → (played quiets n s ls).fault ≡ None
      → AreSound (kept s ls) × (n + length (kept s ls) ≤ 2 ^ 32)
  kept_sound n s [] few h = (tt, omega arith)
  kept_sound n s (line ∷ more) few h =
      let sound = sound_first quiets n s line more h in
      let step = played_sound quiets n s line more sound in
      let under = few_before quiets n s line sound in
      let here = line_sound s line (parsed line) refl (sound_line quiets n s line sound) in
      let rest = kept_sound (n + 1) (state_after quiets s line) more (omega (arith, under)) (search (arith, step)) in
      search (arith, AreSound-append, length-append)

module _ (start : Start) where
  either_quiet : (h : List Timed) (x : Timed) (b : Bool)
      → is_noise_after start (receive start x (received start h)) (received start h) ≡ b
      → IsSameOrTick start h x (cond b (tick_at x.at) x)
  either_quiet h x b k = search arith

  abbrev is_noise : List Timed → Timed → Bool
  is_noise h x = is_noise_after start (receive start x (received start h)) (received start h)

  abbrev quiet : LineSemantics (List Timed)
  quiet = quiet_history start

  abbrev kept_of : List Timed → List ℕ → Option Line → List (List ℕ)
  kept_of = kept_by (history_semantics start) is_noise

  abbrev kept_lines : List Timed → List (List ℕ) → List (List ℕ)
  kept_lines = kept (history_semantics start) is_noise

  -- lines whose inputs go on with quiet histories
  abbrev GoesOn : List (List ℕ) → Type 0
  GoesOn ls = (h g : List Timed) → HasTicksForNoise start h g
      → HasTicksForNoise start (append_inputs (inputs ls) h) (append_inputs (inputs (kept_lines h ls)) g)

  line_goes_on : (line : List ℕ) (more : List (List ℕ)) (l : Option Line) → parsed line ≡ l → GoesOn more
      → (h g : List Timed) → HasTicksForNoise start h g
      → HasTicksForNoise start (append_inputs (line_inputs l ++ inputs more) h)
      (append_inputs (inputs (kept_of h line l ++ kept_lines (state_after_parsed quiet h l) more)) g)
  line_goes_on line more l e on h g q = search (arith, either_said, either_quiet)

  goes_on : (ls : List (List ℕ)) → GoesOn ls
  goes_on [] h g q = q
  goes_on (line ∷ more) h g q = line_goes_on line more (parsed line) refl (goes_on more) h g q

  -- the lines of the text that is written
  kept_are : (h : List Timed) (bytes : List ℕ) → (play_all quiet h bytes).fault ≡ None
      → lines (play_all quiet h bytes).text ≡ kept_lines h (lines bytes)
  kept_are h bytes sound =
      let kept_is = lines_kept (history_semantics start) is_noise in
      let sends = all_send (history_semantics start) is_noise h (lines bytes) in
      ap lines (written_text kept_is 1 h (lines bytes) sound)
      ∙ lines_joined _ (written_are kept_is h (lines bytes) (lines_are_lines bytes) sends)

  -- The inputs of a log and those of the log made quiet make quiet histories of quiet histories.
  pub quiet_text_is_quiet : (h g : List Timed) (bytes : List ℕ) → (play_all quiet h bytes).fault ≡ None → HasTicksForNoise start h g
      → HasTicksForNoise start (append_inputs (inputs (lines bytes)) h) (append_inputs (inputs (lines (play_all quiet h bytes).text)) g)
  quiet_text_is_quiet h g bytes sound q = rw (kept_are h bytes sound) (goes_on (lines bytes) h g q)

  pub noise_alike : (h g : List Timed) (x : Timed) → HasTicksForNoise start h g → is_noise h x ≡ is_noise g x
  unfolding session_of
  noise_alike h g x q =
      let s = state_of start (received start h) in
      sym (noise_is_named s start h x refl)
      ∙ noise_is_named s start g x (ap (λ (v : SessionState). v.machine) (quiet_alike start h g q))

  either_again : (h g : List Timed) (x : Timed) (line : List ℕ) (b : Bool) → HasTicksForNoise start h g → is_noise h x ≡ b
      → cond (is_noise g (cond b (tick_at x.at) x)) (tick_text (cond b (tick_at x.at) x).at)
      (cond b (tick_text x.at) line) ≡ cond b (tick_text x.at) line
  either_again h g x line b k l = search (arith, noise_alike)

  abbrev StaysKept : List (List ℕ) → Type 0
  StaysKept ls = (h g : List Timed) → HasTicksForNoise start h g → kept_lines g (kept_lines h ls) ≡ kept_lines h ls

  line_stays : (line : List ℕ) (more : List (List ℕ)) (l : Option Line) → parsed line ≡ l → StaysKept more
      → (h g : List Timed) → HasTicksForNoise start h g → kept_lines g (kept_of h line l ++ kept_lines (state_after_parsed quiet h l) more)
      ≡ kept_of h line l ++ kept_lines (state_after_parsed quiet h l) more
  line_stays line more l e on h g q = search (arith, either_said, either_again, either_quiet)

  stays_kept : (ls : List (List ℕ)) → StaysKept ls
  stays_kept [] h g q = refl
  stays_kept (line ∷ more) h g q = line_stays line more (parsed line) refl (stays_kept more) h g q

  quiet_self : (h : List Timed) → HasTicksForNoise start h h
  quiet_self [] = tt
  quiet_self (x ∷ h) = (quiet_self h, inl refl)

  -- The text that is written for a log, made quiet, is written again.
  pub quiet_again : (h : List Timed) (bytes : List ℕ) → (play_all quiet h bytes).fault ≡ None
      → ((play_all quiet h (play_all quiet h bytes).text).fault ≡ None)
      × ((play_all quiet h (play_all quiet h bytes).text).text ≡ (play_all quiet h bytes).text)
  quiet_again h bytes sound =
      let first = kept_lines h (lines bytes) in
      let all = λ (ls : List (List ℕ)). written_text (lines_kept (history_semantics start) is_noise) 1 h ls in
      let well = kept_sound (history_semantics start) is_noise 1 h (lines bytes) (omega arith) sound in
      let none = sound_is_played (history_semantics start) is_noise 1 h first well.0 well.1 in
      let stays = ap (λ (ls : List (List ℕ)). flat_map with_line_feed ls) (stays_kept (lines bytes) h h (quiet_self h)) in
      rw (kept_are h bytes sound) (none, all first none ∙ stays ∙ sym (all (lines bytes) sound))
