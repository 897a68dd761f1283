-- The promises of every history, together.
use Rattle.std.proofs.lemmas.{Grind.common_steps, List.map-append, List.reverse-append}
use Rattle.std.proofs.Common.{◌≡◌, ℕ, ◌+◌, ◌-◌, ◌*◌, ◌≤◌, List, [], ◌∷◌, ◌++◌, length, map, reverse, Result, IfOk, take}
use Rattle.std.proofs.Common.{refl, ◌∙◌, ap, subst, append-nil, append_assoc, arith}
use Rattle.std.specs.List.{AllByRecursion}
use Rattle.ctap_message.specs.Requests.{steps_of}
use Rattle.authn_core.specs.Turn.{Start}
use Rattle.token_session.specs.declared.input.{Sent.Sent, Timed.Timed, Meters.Meters}
use Rattle.token_session.specs.{Carried.ArriveWithFullPackets, declared.driver.DriveFault.DriveFault, Inputs.ReceivedInput}
use Rattle.token_session.specs.Meters.{numbered_packet, inputs_done, packet_of}
use Rattle.token_session.specs.{History.received, History.sent, Answered.AllReceivedInPackets, Answered.IsAnswered}
use Rattle.token_session.specs.History.{with_input_number, append_inputs, sent_from, sent_now, turns_send}
use Rattle.token_session.specs.Meters.{requests, meters_of, session_of, SessionState, IsStateAfter}
use Rattle.token_session.proofs.{Carrying.finished_is_carried, Follows.machine_follows, Follows.step_sends}

pub turns_send_sent : (start : Start) (h : List Timed) → turns_send start h ≡ sent start (received start h)
unfolding turns_send sent received sent_now
turns_send_sent start [] = refl
turns_send_sent start (x ∷ h) = grind (arith, machine_follows, step_sends, turns_send_sent start h)

pub all_carried : (start : Start) (h : List Timed) → ArriveWithFullPackets h → AllReceivedInPackets (received start h)
unfolding received
all_carried start [] w = tt
all_carried start (x ∷ h) w = (λ m fin. finished_is_carried start h x m w fin, all_carried start h w.1)

pub all_few : (each : (m : List ℕ) → steps_of m ≤ 4 * (length m - 1) + 2) (start : Start) (h : List ReceivedInput)
    → AllByRecursion (λ m. steps_of m ≤ 4 * (length m - 1) + 2) (requests start h)
unfolding requests
all_few each start [] = tt
all_few each start (e ∷ past) = grind (arith, each, all_few each start past)

-- ---- the packets of a list of inputs, without their numbers

packets_numbered : (n : ℕ) (ps : List (List ℕ)) → map (λ (p : ℕ × List ℕ). p.1) (with_input_number n ps) ≡ ps
packets_numbered n [] = refl
packets_numbered n (p ∷ ps) = ap (λ qs. p ∷ qs) (packets_numbered n ps)

sent_along : (xs : List Timed) (n : ℕ) (start : Start) (h : List Timed) →
    sent start (received start h) ++ map (λ (p : ℕ × List ℕ). p.1) (sent_from n start h xs)
    ≡ sent start (received start (append_inputs xs h))
unfolding sent received sent_now
sent_along [] n start h = append-nil _
sent_along (x ∷ xs) n start h =
    simp (map-append, packets_numbered, ← append_assoc) (sent_along xs (n + 1) start (x ∷ h))

onto_reverse : (xs h : List Timed) → append_inputs xs h ≡ reverse xs ++ h
onto_reverse [] h = refl
onto_reverse (x ∷ xs) h = grind (arith, common_steps, append_assoc, reverse-append, onto_reverse xs (x ∷ h))

-- the packets of a start's inputs are those of the history, which has the newest first
sent_reverse : (xs : List Timed) (start : Start)
    → map (λ (p : ℕ × List ℕ). p.1) (sent_from 0 start [] xs) ≡ sent start (received start (reverse xs))
unfolding sent received
sent_reverse xs start = sent_along xs 0 start [] ∙ ap (λ h. sent start (received start h))
    (onto_reverse xs [] ∙ append-nil (reverse xs))

whole_onto : (xs h : List Timed) → ArriveWithFullPackets xs → ArriveWithFullPackets h → ArriveWithFullPackets (append_inputs xs h)
whole_onto [] h ws w = w
whole_onto (x ∷ xs) h ws w = whole_onto xs (x ∷ h) ws.1 (ws.0, w)

pub whole_reverse : (xs : List Timed) → ArriveWithFullPackets xs → ArriveWithFullPackets (reverse xs)
whole_reverse xs w = subst ArriveWithFullPackets (onto_reverse xs [] ∙ append-nil (reverse xs)) (whole_onto xs [] w tt)

packets_pairs : (sent : List Sent) → map packet_of sent ≡ map (λ (p : ℕ × List ℕ). p.1) (map numbered_packet sent)
packets_pairs [] = refl
packets_pairs (s ∷ sent) = ap (λ ps. packet_of s ∷ ps) (packets_pairs sent)

-- A list of sent packets that are those of a start's inputs answers the history of these inputs.
pub run_answered : (start : Start) (xs : List Timed) (out : List Sent)
    → map numbered_packet out ≡ sent_from 0 start [] xs
    → IsAnswered start (reverse xs) (turns_send start (reverse xs))
    → IsAnswered start (reverse xs) (map packet_of out)
run_answered start xs out is answers = grind (arith, packets_pairs, sent_reverse, turns_send_sent)

-- A drive of a new session that stepped all inputs returns the meters that their history names.
pub meters_named : (start : Start) (xs : List Timed) (result : Result Meters DriveFault) (s : SessionState)
    → IsStateAfter s start (append_inputs (take (inputs_done (length xs) result) xs) []) → IfOk result (λ meters. meters ≡ s.meters)
    → IfOk result (λ meters. meters ≡ meters_of start (received start (reverse xs)))
unfolding session_of
meters_named start xs x2 s after is = grind (arith, common_steps, append-nil, onto_reverse)
