-- Which messages are kept, and channels that make way no sooner than others.
use Rattle.std.proofs.Common.{◌≡◌, ℕ, List, Option, Some, None, IfSome, ◌⊎◌, inl, inr, refl, rules, arith, ◌<◌, ◌≤◌}
use Rattle.std.proofs.Common.{◌+◌, Bool, true, false, length, get_or, slice_get}
use Rattle.std.proofs.lemmas.Grind.{common_steps}
use Rattle.session_walk.specs.Messages.{KeptMessage, KeptMessages, AddsData, Begins, Continues, KeepsOnly, kept_at}
use Rattle.std.proofs.lemmas.Bool.{cases_lt}
use Rattle.std.proofs.lemmas.Option.{slice_get_read, slice_get_past}
use Rattle.session_walk.specs.Channels.{is_evicted_sooner, is_evicted_before, yields}
use Rattle.session_walk.specs.Whole.{is_idle}
use Rattle.session_walk.specs.declared.channel.Channel.{Channel}

-- ---- what a packet brings to the messages that are kept, where some of those before it were let go first

-- one message, by what is kept in its place: at first, when some were let go, and after the packet
abbrev OwnBrought : (number size : ℕ) (part : List ℕ) (before after : Option KeptMessage) → Type 0
OwnBrought number size part before after =
    IfSome after (λ m. Continues part before m ⊎ Begins number size part m)

own : (number size : ℕ) (part : List ℕ) (first before after : Option KeptMessage)
    → IfSome before (λ m. first ≡ Some m) → OwnBrought number size part before after
    → OwnBrought number size part first after
own number size part first before None only brought = tt
own number size part first None (Some m) only (inl e) = grind (arith, common_steps)
own number size part first (Some k) (Some m) only (inl e) = inl (search rules)
own number size part first before (Some m) only (inr begins) = inr begins

other : (first before after : Option KeptMessage)
    → IfSome before (λ m. first ≡ Some m) → IfSome after (λ m. before ≡ Some m) → IfSome after (λ m. first ≡ Some m)
other first before None only kept = tt
other first None (Some m) only kept = grind (arith, common_steps)
other first (Some k) (Some m) only kept = search rules

none : (first before : Option KeptMessage) → IfSome before (λ m. first ≡ Some m) → first ≡ None → before ≡ None
none first None only empty = refl
none first (Some m) only empty = grind (arith, common_steps)

-- Where none is kept, none is after some were let go.
none_after : (first before : KeptMessages) (line : ℕ) → KeepsOnly first before
    → kept_at first line ≡ None → kept_at before line ≡ None
none_after first before line only empty = none (kept_at first line) (kept_at before line) (only line) empty

brings_after : (number size : ℕ) (part : List ℕ) (transaction : ℕ) (first before after : KeptMessages)
    → KeepsOnly first before → AddsData number size part transaction before after → AddsData number size part transaction first after
brings_after number size part transaction first before after only brought = record {
  own = own number size part (kept_at first transaction) (kept_at before transaction) (kept_at after transaction) (only transaction) brought.own;
  others = λ line differs. other (kept_at first line) (kept_at before line) (kept_at after line) (only line)
      (brought.others line differs);
}

-- So from the messages before a line, where the packet finds those that are kept after some were let go.
pub brings_past : (number size : ℕ) (part : List ℕ) (transaction : ℕ) (first left before after : KeptMessages)
    → KeepsOnly first left → before ≡ left
    → (kept_at before number ≡ None → AddsData number size part transaction before after)
    → kept_at first number ≡ None → AddsData number size part transaction first after
brings_past number size part transaction first left before after only same brought empty =
    let kept : KeepsOnly first before = rw same only in
    brings_after number size part transaction first before after kept (brought (none_after first before number kept empty))

-- ---- a channel that makes way no sooner than one makes way no sooner than a channel that makes way before that one

later : (a : Bool) (u : ℕ) (b : Bool) (v : ℕ) (c : Bool) (w : ℕ) → is_evicted_sooner b v c w ≡ true → is_evicted_sooner a u c w ≡ false
    → is_evicted_sooner a u b v ≡ false
later true u true v true w sooner not_sooner = grind (arith, common_steps)
later true u true v false w sooner not_sooner = grind (arith, common_steps)
later true u false v true w sooner not_sooner = grind (arith, common_steps)
later true u false v false w sooner not_sooner = grind (arith, common_steps)
later false u true v c w sooner not_sooner = refl
later false u false v true w sooner not_sooner = grind (arith, common_steps)
later false u false v false w sooner not_sooner = grind (arith, common_steps)

keeps_none : (a b c : Option Channel) → yields b c ≡ true → yields a c ≡ false → yields a b ≡ false
keeps_none None b c sooner not_sooner = refl
keeps_none (Some a) None c sooner not_sooner = refl
keeps_none (Some a) (Some b) None sooner not_sooner = grind (arith, common_steps)
keeps_none (Some a) (Some b) (Some c) sooner not_sooner =
    later (is_idle a) a.used (is_idle b) b.used (is_idle c) c.used sooner not_sooner

not_itself : (a : Bool) (u : ℕ) → is_evicted_sooner a u a u ≡ false
not_itself true u = grind (arith, common_steps)
not_itself false u = grind (arith, common_steps)

same : (i place : ℕ) → place ≤ i → i < place + 1 → i ≡ place
same i place ge less = omega (arith, ge, less)

no_second : (a : Option Channel) → yields a None ≡ false
no_second None = refl
no_second (Some a) = refl

within_taken : (channels : List Channel) (found place : ℕ) (c other : Channel) → slice_get channels place ≡ Some c
    → slice_get channels found ≡ Some other → is_evicted_before c other ≡ true
    → ((i : ℕ) → i < place → yields (slice_get channels i) (slice_get channels found) ≡ false)
    → (i : ℕ) → i < place + 1 → yields (slice_get channels i) (slice_get channels place) ≡ false
within_taken channels found place c other at at_found sooner before i less = elim (cases_lt i place) [
  | inl lt ↦ keeps_none (slice_get channels i) (slice_get channels place) (slice_get channels found)
      (rw at (rw at_found sooner)) (before i lt)
  | inr ge ↦ rw (same i place ge less) (rw at (not_itself (is_idle c) c.used))
]

-- No channel up to an index makes way sooner than the one at the index, if that one makes way sooner than the one found
-- before.
pub taken : (channels : List Channel) (found place : ℕ) (c other : Channel) → c ≡ get_or channels place c
    → other ≡ get_or channels found other → found ≤ place → is_evicted_before c other ≡ true
    → ((i : ℕ) → i < place → yields (slice_get channels i) (slice_get channels found) ≡ false)
    → (i : ℕ) → i < place + 1 → yields (slice_get channels i) (slice_get channels place) ≡ false
taken channels found place c other is is_found order sooner before i less = elim (cases_lt place (length channels)) [
  | inl lt ↦ within_taken channels found place c other (slice_get_read channels (length channels) place c refl lt is)
      (slice_get_read channels (length channels) found other refl (omega (arith, order, lt)) is_found)
      sooner before i less
  | inr ge ↦ rw (slice_get_past channels place ge) (no_second (slice_get channels i))
]

within_kept : (channels : List Channel) (found place : ℕ) (other : Channel) (at : Option Channel)
    → slice_get channels place ≡ at → slice_get channels found ≡ Some other → yields at (Some other) ≡ false
    → ((i : ℕ) → i < place → yields (slice_get channels i) (slice_get channels found) ≡ false)
    → (i : ℕ) → i < place + 1 → yields (slice_get channels i) (slice_get channels found) ≡ false
within_kept channels found place other at is is_found not_sooner before i less = elim (cases_lt i place) [
  | inl lt ↦ before i lt
  | inr ge ↦ rw (same i place ge less) (rw is (rw is_found not_sooner))
]

-- Nor sooner than the one found before, if the one at the index doesn't.
pub kept : (channels : List Channel) (found place : ℕ) (c other : Channel) → c ≡ get_or channels place c
    → other ≡ get_or channels found other → is_evicted_before c other ≡ false
    → ((i : ℕ) → i < place → yields (slice_get channels i) (slice_get channels found) ≡ false)
    → (i : ℕ) → i < place + 1 → yields (slice_get channels i) (slice_get channels found) ≡ false
kept channels found place c other is is_found not_sooner before i less = elim (cases_lt found (length channels)) [
  | inl lt ↦ elim (cases_lt place (length channels)) [
    | inl lt_place ↦ within_kept channels found place other (Some c)
        (slice_get_read channels (length channels) place c refl lt_place is)
        (slice_get_read channels (length channels) found other refl lt is_found) not_sooner before i less
    | inr ge_place ↦ within_kept channels found place other None (slice_get_past channels place ge_place)
        (slice_get_read channels (length channels) found other refl lt is_found) refl before i less
  ]
  | inr ge ↦ rw (slice_get_past channels found ge) (no_second (slice_get channels i))
]
