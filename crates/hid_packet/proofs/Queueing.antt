-- The packets that wait in an outbox, and the ring of bytes that holds them.
use Rattle.std.proofs.Common.{◌≡◌, ℕ, ◌+◌, ◌-◌, ◌%◌, ◌<◌, ◌≤◌, ◌⊎◌, List, length, get_or, ap, ◌∙◌, inl, inr}
use Rattle.std.proofs.Common.{mod-eq_of_lt, arith, length-append, length-drop, length-take-le, get_or-drop}
use Rattle.std.proofs.Common.{get_or-take, ◌++◌, take, drop, min, refl, sym, ap₂, ◌∷◌, replicate, subst, append_assoc}
use Rattle.std.proofs.Common.{rules, ◌*◌, suc, zero, [], set, sum_by, append-nil}
use native.Mathlib.Nat.{mod-eq-sub-mod, mod-add-mod}
use Rattle.std.proofs.lemmas.List.{get_or_append_left, get_or-append_right, same_lists, drop-drop, drop-take}
use Rattle.std.proofs.lemmas.List.{take-take, take-append-le, drop-append-le, take_all, drop_all}
use Rattle.std.proofs.lemmas.Bool.{cases_lt}
use Rattle.hid_packet.specs.Queue.{window, with_overwritten, HasPacketLeft, entry_len, entry_packets, queued_packets}
use Rattle.hid_packet.specs.Queue.{HasEntryPacket, AreEntriesOf, IsQueued}
use Rattle.std.proofs.Math.Seq.{take-length, drop-length, take-append_seam}
use borrow.Rule.Slice.PartMut.{put_mid}
use Rattle.std.proofs.lemmas.Slice.{drop-append-drop}
use Rattle.hid_packet.specs.Message.{padded_packet, initialization_packet, continuation_packet, continuation_packets}
use Rattle.hid_packet.specs.Message.{message_packets}
use Rattle.hid_packet.specs.declared.fragments.NextPacket.{NextPacket}
use Rattle.hid_packet.specs.Message.{packets_left, CanCarry}
use Rattle.hid_packet.specs.declared.fragments.NextPacket.TheVariants.{Initialization, Continuation}
use Rattle.hid_packet.proofs.MessagePackets.{filled, first_taken, next_taken, fewest_written}
use Rattle.std.proofs.lemmas.Grind.{common_steps}
use Rattle.std.proofs.lemmas.List.Sums.{sum_by-append, sum_by-cons}
use Rattle.std.specs.List.{AllByRecursion, refill, remove}
use Rattle.hid_packet.specs.declared.queued.Queued.{Queued}
use Rattle.hid_packet.specs.declared.queued.Queued.TheVariants.{Whole, Part}

-- ---- the part of a ring of slots that holds the waiting items

-- an index below 2 * size wraps once at most
pub wraps_once : (size j : ℕ) → j < size + size → ((j < size) × (j % size ≡ j)) ⊎ ((size ≤ j) × (j % size ≡ j - size))
wraps_once size j below = elim (cases_lt j size) [
  | inl low ↦ inl (low, mod-eq_of_lt low)
  | inr high ↦ inr (high, mod-eq-sub-mod high ∙ mod-eq_of_lt (omega arith))
]

module _ {X : Type 0} (size first n : ℕ) (xs : List X) (in_range : first < size) (fits : n ≤ size)
    (length_xs : length xs ≡ size) where
  pub length-window : length (window first n xs) ≡ n
  length-window = length-take-le n _ (simp (length-append, length-drop)
      (omega (arith, length-take-le first xs (omega arith))))

  -- item i is in slot (first + i) % size
  pub get_or-window : (i : ℕ) (d : X) → i < n → get_or (window first n xs) i d ≡ get_or xs ((first + i) % size) d
  get_or-window i d below =
      let tail = length-drop first xs in
      get_or-take n _ i d below ∙ elim (wraps_once size (first + i) (omega arith)) [
        | inl before ↦ get_or_append_left _ _ d i (omega arith) ∙ get_or-drop first xs i d
            ∙ ap (λ j. get_or xs j d) (omega arith)
        | inr beyond ↦ get_or-append_right _ _ (size - first) i d (omega arith) (omega arith)
            ∙ get_or-take first xs _ d (omega arith) ∙ ap (λ j. get_or xs j d) (omega arith)
      ]

-- ---- what is written after the bytes that wait in a ring, and what is read at their front

module _ (e : ℕ) (front back xs : List ℕ) (fits : e + length front ≤ length xs) where
  inner : List ℕ
  inner = take e xs ++ (front ++ drop (e + length front) xs)

  length-inner : length inner ≡ length xs
  unfolding inner
  length-inner = simp (length-append, length-drop) (omega (arith, length-take-le e xs (omega arith)))

  pub length-with_overwritten : length back ≤ length xs → length (with_overwritten e front back xs) ≡ length xs
  unfolding inner
  length-with_overwritten le = simp (length-append, length-drop) (omega (arith, length-take-le e xs (omega arith)))

  at_back : (j d : ℕ) → j < length back → get_or (with_overwritten e front back xs) j d ≡ get_or back j d
  at_back j d lt = get_or_append_left back _ d j lt

  past_back : (j d : ℕ) → length back ≤ j → get_or (with_overwritten e front back xs) j d ≡ get_or inner j d
  unfolding inner
  past_back j d le =
      get_or-append_right back _ (length back) j d refl le ∙ get_or-drop (length back) inner (j - length back) d
      ∙ ap (λ k. get_or inner k d) (omega arith)

  before : (j d : ℕ) → j < e → get_or inner j d ≡ get_or xs j d
  unfolding inner
  before j d lt = get_or_append_left (take e xs) _ d j (omega (arith, length-take-le e xs (omega arith)))
      ∙ get_or-take e xs j d lt

  at_front : (j d : ℕ) → e ≤ j → j < e + length front → get_or inner j d ≡ get_or front (j - e) d
  unfolding inner
  at_front j d le lt = get_or-append_right (take e xs) _ e j d (length-take-le e xs (omega arith)) le
      ∙ get_or_append_left front _ d (j - e) (omega arith)

  after : (j d : ℕ) → e + length front ≤ j → get_or inner j d ≡ get_or xs j d
  unfolding inner
  after j d le =
      get_or-append_right (take e xs) _ e j d (length-take-le e xs (omega arith)) (omega arith)
      ∙ get_or-append_right front _ (length front) (j - e) d refl (omega arith)
      ∙ get_or-drop (e + length front) xs (j - e - length front) d
      ∙ ap (λ k. get_or xs k d) (omega arith)

  -- what is in no place that was written stays
  pub kept_at : (j d : ℕ) → length back ≤ j → (j < e) ⊎ (e + length front ≤ j) →
      get_or (with_overwritten e front back xs) j d ≡ get_or xs j d
  kept_at j d le (inl lt) = past_back j d le ∙ before j d lt
  kept_at j d le (inr ge) = past_back j d le ∙ after j d ge

  pub front_at : (j d : ℕ) → length back ≤ j → e ≤ j → j < e + length front →
      get_or (with_overwritten e front back xs) j d ≡ get_or front (j - e) d
  front_at j d le ge lt = past_back j d le ∙ at_front j d ge lt

  pub back_at : (j d : ℕ) → j < length back → get_or (with_overwritten e front back xs) j d ≡ get_or back j d
  back_at = at_back

-- bytes that are copied to index `a` of a list
pub part_put : (a k : ℕ) (xs ys part : List ℕ) → part ≡ ys → k ≡ length ys →
    put_mid a k xs part ≡ take a xs ++ (ys ++ drop (a + length ys) xs)
part_put a k xs ys part same len = ap₂ (λ p l. take a xs ++ (p ++ l)) same (drop-drop k a xs ∙ ap (λ m. drop (a + m) xs) len)

-- all bytes fit before the end
pub straight_put : (e : ℕ) (ys xs out : List ℕ) → out ≡ take e xs ++ (ys ++ drop (e + length ys) xs) →
    out ≡ with_overwritten e (take (length ys) ys) (drop (length ys) ys) xs
straight_put e ys xs out is = rw (take-length, drop-length) is

-- the back is written at the first places
pub round_put : (e : ℕ) (front back xs inner out : List ℕ) → inner ≡ take e xs ++ (front ++ drop (e + length front) xs)
    → out ≡ take 0 inner ++ (back ++ drop (0 + length back) inner) → out ≡ with_overwritten e front back xs
round_put e front back xs inner out i o = o ∙ ap₂ (λ k l. back ++ drop k l) (omega arith) i

module _ (size first n m e : ℕ) (xs ys : List ℕ) (in_range : first < size) (fits : n + length ys ≤ size)
    (length_xs : length xs ≡ size) (end_is : e ≡ (first + n) % size) (part : m ≡ min (length ys) (size - e)) where
  abbrev overwritten : List ℕ
  overwritten = with_overwritten e (take m ys) (drop m ys) xs

  end_at : ((first + n < size) × (e ≡ first + n)) ⊎ ((size ≤ first + n) × (e ≡ first + n - size))
  end_at = elim (wraps_once size (first + n) (omega arith)) [
    | inl low ↦ inl (low.0, end_is ∙ low.1)
    | inr high ↦ inr (high.0, end_is ∙ high.1)
  ]

  old_item : (i d : ℕ) → i < n → get_or overwritten ((first + i) % size) d ≡ get_or xs ((first + i) % size) d
  old_item i d lt =
      let f : length (take m ys) ≡ m = length-take-le m ys (omega arith) in
      let b = length-drop m ys in
      elim end_at [
        | inl low ↦ elim (wraps_once size (first + i) (omega arith)) [
          | inl p ↦ kept_at e (take m ys) (drop m ys) xs (omega (arith, low.0, low.1)) _ d
              (omega (arith, low.0, low.1, p.1)) (inl (omega (arith, low.1, p.1)))
          | inr p ↦ absurd (omega (arith, low.0, p.0))
        ]
        | inr high ↦ elim (wraps_once size (first + i) (omega arith)) [
          | inl p ↦ kept_at e (take m ys) (drop m ys) xs (omega (arith, high.0, high.1)) _ d
              (omega (arith, high.0, high.1, p.1)) (inr (omega (arith, high.0, high.1, p.1)))
          | inr p ↦ kept_at e (take m ys) (drop m ys) xs (omega (arith, high.0, high.1)) _ d
              (omega (arith, high.0, high.1, p.1)) (inl (omega (arith, high.0, high.1, p.0, p.1)))
        ]
      ]

  new_item : (i d : ℕ) → n ≤ i → i < n + length ys → get_or overwritten ((first + i) % size) d ≡ get_or ys (i - n) d
  new_item i d le lt =
      let f : length (take m ys) ≡ m = length-take-le m ys (omega arith) in
      let b = length-drop m ys in
      let e_below : e < size = elim end_at [
        | inl low ↦ omega (arith, low.0, low.1)
        | inr high ↦ omega
            (arith, high.0, high.1)
      ] in
      let at : (j : ℕ) → ((e + (i - n) < size) × (j ≡ e + (i - n))) ⊎ ((size ≤ e + (i - n)) × (j ≡ e + (i - n) - size))
      → get_or overwritten j d ≡ get_or ys (i - n) d =
      λ j which. elim which [
        | inl p ↦ front_at e (take m ys) (drop m ys) xs (omega arith) j d (omega (arith, p.0, p.1)) (omega (arith, p.1))
            (omega (arith, p.0, p.1)) ∙ get_or-take m ys (j - e) d (omega (arith, p.0, p.1))
            ∙ ap (λ k. get_or ys k d) (omega (arith, p.1))
        | inr p ↦ back_at e (take m ys) (drop m ys) xs (omega arith) j d (omega (arith, p.0, p.1))
            ∙ get_or-drop m ys j d ∙ ap (λ k. get_or ys k d) (omega (arith, p.0, p.1))
      ] in
      at ((first + i) % size) (elim end_at [
        | inl low ↦ elim (wraps_once size (first + i) (omega arith)) [
          | inl p ↦ inl (omega (arith, low.1, p.0), omega (arith, low.1, p.1))
          | inr p ↦ inr (omega (arith, low.1, p.0), omega (arith, low.1, p.1))
        ]
        | inr high ↦ elim (wraps_once size (first + i) (omega arith)) [
          | inl p ↦ absurd (omega (arith, high.0, p.0))
          | inr p ↦ inl (omega (arith, high.0, high.1, p.0), omega (arith, high.0, high.1, p.0, p.1))
        ]
      ])

  -- bytes that are written after those that wait, around the end, wait after them
  pub window-put : window first (n + length ys) overwritten ≡ window first n xs ++ ys
  window-put =
      let e_below : e < size = elim end_at [
        | inl low ↦ omega (arith, low.0, low.1)
        | inr high ↦ omega
            (arith, high.0, high.1)
      ] in
      let f : length (take m ys) ≡ m = length-take-le m ys (omega arith) in
      let b = length-drop m ys in
      let length_filled : length overwritten ≡ size = length-with_overwritten e (take m ys) (drop m ys) xs (omega arith)
      (omega arith) ∙ length_xs in
      let old = length-window size first n xs in_range (omega arith) length_xs in
      let new = length-window size first (n + length ys) overwritten in_range fits length_filled in
      same_lists _ _ (simp length-append (omega arith)) (λ i d below. elim (cases_lt i n) [
        | inl lt ↦ get_or-window size first (n + length ys) overwritten in_range fits length_filled i d (omega arith)
            ∙ old_item i d lt
            ∙ sym (get_or-window size first n xs in_range (omega arith) length_xs i d lt)
            ∙ sym (get_or_append_left _ ys d i (omega arith))
        | inr ge ↦ get_or-window size first (n + length ys) overwritten in_range fits length_filled i d (omega arith)
            ∙ new_item i d ge (omega arith)
            ∙ sym (get_or-append_right _ ys n i d old ge)
      ])

-- the same of the bytes that wait as clauses see them, however they were written
pub put_around : (size first n m e : ℕ) (xs ys now out : List ℕ) → first < size → n ≤ size → length xs ≡ size →
    window first n xs ≡ now → length now + length ys ≤ size → e ≡ (first + n) % size
    → m ≡ min (length ys) (size - e) → out ≡ with_overwritten e (take m ys) (drop m ys) xs →
    window first (n + length ys) out ≡ now ++ ys
put_around size first n m e xs ys now out in_range fits length_xs view space end_is part is =
    let waiting = length-window size first n xs in_range fits length_xs in
    let same = ap length view in
    ap (window first (n + length ys)) is ∙ window-put size first n m e xs ys in_range (omega (arith, space)) length_xs
    end_is part ∙ ap (λ w. w ++ ys) view

module _ (size first n k : ℕ) (xs now : List ℕ) (in_range : first < size) (fits : n ≤ size)
    (length_xs : length xs ≡ size) (view : window first n xs ≡ now) (enough : k ≤ length now) where
  some : k ≤ n
  some = omega (arith, length-window size first n xs in_range fits length_xs, ap length view)

  -- the first bytes that wait, as they are read around the end
  pub window-front : (m : ℕ) → m ≡ min k (size - first) → take m (drop first xs) ++ take (k - m) xs ≡ take k now
  window-front m part =
      let le = some in
      let whole = length-window size first n xs in_range fits length_xs in
      let f : length (take m (drop first xs)) ≡ m = length-take-le m (drop first xs)
      (omega (arith, length-drop first xs)) in
      let b : length (take (k - m) xs) ≡ k - m = length-take-le (k - m) xs (omega arith) in
      let t : length (take k (window first n xs)) ≡ k = length-take-le k (window first n xs) (omega arith) in
      same_lists _ _ (length-append (take m (drop first xs)) (take (k - m) xs) ∙ omega arith) (λ i d below.
      let lt : i < k = omega (arith, length-append (take m (drop first xs)) (take (k - m) xs)) in
      elim (cases_lt i m) [
        | inl low ↦ get_or_append_left _ _ d i (omega arith) ∙ get_or-take m (drop first xs) i d low
            ∙ get_or-drop first xs i d
            ∙ elim (wraps_once size (first + i) (omega arith)) [
              | inl p ↦ ap (λ j. get_or xs j d) (sym (p.1))
              | inr p ↦ absurd (omega (arith, p.0))
            ]
            ∙ sym (get_or-window size first n xs in_range fits length_xs i d (omega arith))
            ∙ sym (get_or-take k _ i d lt)
        | inr high ↦ get_or-append_right _ _ m i d f high ∙ get_or-take (k - m) xs (i - m) d (omega arith)
            ∙ elim (wraps_once size (first + i) (omega arith)) [
              | inl p ↦ absurd (omega (arith, p.0))
              | inr p ↦ ap (λ j. get_or xs j d) (omega (arith, p.1))
            ]
            ∙ sym (get_or-window size first n xs in_range fits length_xs i d (omega arith))
            ∙ sym (get_or-take k _ i d lt)
      ]) ∙ ap (take k) view

  -- what waits when they are taken
  pub window-rest : window ((first + k) % size) (n - k) xs ≡ drop k now
  window-rest =
      let le = some in
      let next : (first + k) % size < size = elim (wraps_once size (first + k) (omega arith))
      [ inl p ↦ omega (arith, p.0, p.1) | inr p ↦ omega (arith, p.0, p.1) ] in
      let whole = length-window size first n xs in_range fits length_xs in
      let left = length-window size ((first + k) % size) (n - k) xs next (omega arith) length_xs in
      same_lists _ _ (left ∙ omega (arith, length-drop k (window first n xs))) (λ i d below.
      get_or-window size ((first + k) % size) (n - k) xs next (omega arith) length_xs i d (omega arith)
      ∙ ap (λ j. get_or xs j d) (mod-add-mod (first + k) size i ∙ ap (λ j. j % size) (omega arith))
      ∙ sym (get_or-window size first n xs in_range fits length_xs (k + i) d (omega arith))
      ∙ sym (get_or-drop k (window first n xs) i d)) ∙ ap (drop k) view

-- ---- a packet whose header is written first and whose data bytes come from a ring

-- bytes that are written after a header in what is left of 64 zeros
pub placed : (header out bytes packet : List ℕ) (h n : ℕ) → length header ≡ h → length bytes ≡ n →
    out ≡ header ++ drop h (replicate 64 0)
    → packet ≡ take h out ++ (bytes ++ drop (h + n) out) → packet ≡ padded_packet (header ++ bytes)
placed header out bytes packet h n hs ns o p =
    grind (arith, append_assoc, drop-append-drop, filled, length-append, take-append_seam)

-- the bytes of a message that are taken, and those that are left
back_is : (left n : ℕ) (ring after : List ℕ) → n ≤ left → after ≡ drop n ring →
    drop n (take left ring) ≡ take (left - n) after
back_is left n ring after le e =
    let sum : left ≡ n + (left - n) = omega arith in
    ap (λ k. drop n (take k ring)) sum ∙ drop-take n (left - n) ring ∙ ap (take (left - n)) (sym e)

-- the initialization packet of a message was made, and the rest is to come
pub first_made : (cid cmd left n : ℕ) (due : NextPacket) (ring after packet : List ℕ) → due ≡ Initialization cmd →
    left ≤ length ring → n ≡ min 57 left
    → packet ≡ initialization_packet cid cmd left (take n ring) → after ≡ drop n ring
    → packets_left cid due (take left ring) ≡ packet ∷ continuation_packets 128 cid 0 (take (left - n) after)
first_made cid cmd left n due ring after packet is there least p e =
    let len : length (take left ring) ≡ left = length-take-le left ring there in
    let le : n ≤ left = omega arith in
    first_taken cid cmd n due (take left ring) (take n (take left ring)) (drop n (take left ring)) packet _ refl is
    (least ∙ ap (min 57) (sym len)) refl refl
    (p ∙ ap₂ (initialization_packet cid cmd) (sym len) (sym (take-take n left ring le)))
    ∙ ap (λ x. packet ∷ continuation_packets 128 cid 0 x) (back_is left n ring after le e)

-- a continuation packet was made
pub next_made : (cid number left n : ℕ) (due : NextPacket) (ring after packet : List ℕ) → due ≡ Continuation number →
    left ≤ length ring → HasPacketLeft due left → n ≡ min 59 left
    → packet ≡ continuation_packet cid number (take n ring) → after ≡ drop n ring
    → packets_left cid due (take left ring) ≡ packet ∷ continuation_packets (128 - (number + 1)) cid (number + 1)
    (take (left - n) after)
next_made cid number left n due ring after packet is there may least p e =
    let len : length (take left ring) ≡ left = length-take-le left ring there in
    let le : n ≤ left = omega arith in
    let come = subst (λ d. HasPacketLeft d left) is may in
    let fits = subst (λ d. CanCarry d (take left ring)) (sym is) (omega (arith, come.1)) in
    next_taken cid number n due (take left ring) (take n (take left ring)) (drop n (take left ring)) packet _ refl is
    fits (omega (arith, come.0)) (least ∙ ap (min 59) (sym len)) refl refl
    (p ∙ ap (continuation_packet cid number) (sym (take-take n left ring le)))
    ∙ ap (λ x. packet ∷ continuation_packets (128 - (number + 1)) cid (number + 1) x) (back_is left n ring after le e)

-- ---- the packets that wait in an outbox, as entries come and go

-- a short message has its initialization packet alone
pub short_written : (cid cmd : ℕ) (bytes : List ℕ) → length bytes ≤ 57 →
    message_packets cid cmd bytes ≡ initialization_packet cid cmd (length bytes) bytes ∷ []
unfolding message_packets continuation_packets
short_written cid cmd bytes short = search (rules, arith, drop_all, take_all)

-- continuation packets hold their bytes, 59 each
continuations_hold : (most cid number : ℕ) (bytes : List ℕ) → length bytes ≤ 59 * most →
    length bytes ≤ 59 * length (continuation_packets most cid number bytes)
unfolding continuation_packets
continuations_hold zero cid number bytes fits = fits
continuations_hold (suc most) cid number [] fits = omega arith
continuations_hold (suc most) cid number (b ∷ bytes) fits =
    let cut = length-drop 59 (b ∷ bytes) in
    let more = continuations_hold most cid (number + 1) (drop 59 (b ∷ bytes)) (omega arith) in
    omega arith

-- an entry has a packet, and at most 64 bytes for each
pub record Fills (e : Queued) (bytes : List ℕ) : Type 0 where
  pub some : 1 ≤ length (entry_packets e bytes)
  pub enough : entry_len e ≤ 64 * length (entry_packets e bytes)

pub first_written : (cid cmd : ℕ) (bytes : List ℕ) → 1 ≤ length (message_packets cid cmd bytes)
unfolding message_packets
first_written cid cmd bytes = omega arith

pub entry_fills : (e : Queued) (bytes : List ℕ) → HasEntryPacket e → length bytes ≡ entry_len e → Fills e bytes
entry_fills Whole bytes due len = record { some = omega arith; enough = omega arith }
entry_fills (Part message) bytes due len = go message.due refl due
  where
    go : (d : NextPacket) → message.due ≡ d → HasPacketLeft d message.left → Fills (Part message) bytes
    go (Initialization cmd) is may =
        let one = first_written message.cid cmd bytes in
        let least = fewest_written message.cid cmd bytes (omega (arith, may.1)) in
        let bound : length bytes ≤ 64 * length (message_packets message.cid cmd bytes) =
        elim least [ inl a ↦ omega (arith, a.0) | inr b ↦ omega (arith, b.0) ] in
        record { some = rw is one; enough = rw is (omega (arith, bound)) }
    go (Continuation number) is may = search (rules, arith, continuations_hold)

-- a full ring has no byte more than 64 for each packet, and there are no more entries than packets
pub record Bounds (es : List Queued) (bytes : List ℕ) : Type 0 where
  pub entries : length es ≤ length (queued_packets es bytes)
  pub enough : length bytes ≤ 64 * length (queued_packets es bytes)

pub bounds : (es : List Queued) (bytes : List ℕ) → AreEntriesOf es bytes → Bounds es bytes
unfolding queued_packets
bounds [] bytes held = search (rules, arith)
bounds (e ∷ es) bytes held = grind (arith, common_steps, entry_fills, length-append, length-drop, length-take-le, sum_by-cons, bounds es (drop (entry_len e) bytes))

-- one entry more, at the end
pub queued_packets-push : (es : List Queued) (bytes more : List ℕ) (e : Queued) → sum_by entry_len es ≡ length bytes →
    length more ≡ entry_len e
    → queued_packets (es ++ e ∷ []) (bytes ++ more) ≡ queued_packets es bytes ++ entry_packets e more
unfolding queued_packets
queued_packets-push [] [] more e sum len = grind (arith, append-nil, take-length)
queued_packets-push [] (b ∷ bytes) more e sum len = absurd (let none : sum_by entry_len [] ≡ 0 = refl in omega arith)
queued_packets-push (x ∷ es) bytes more e sum len = grind (arith, common_steps, append_assoc, drop-append-le, length-drop, sum_by-cons, take-append-le, queued_packets-push es (drop (entry_len x) bytes) more e)

all-push : (es : List Queued) (e : Queued) → AllByRecursion HasEntryPacket es → HasEntryPacket e → AllByRecursion HasEntryPacket (es ++ e ∷ [])
all-push [] e all one = (one, tt)
all-push (x ∷ es) e all one = (all.0, all-push es e all.1 one)

pub held-push : (es : List Queued) (bytes more : List ℕ) (e : Queued) → AreEntriesOf es bytes → HasEntryPacket e →
    length more ≡ entry_len e → AreEntriesOf (es ++ e ∷ []) (bytes ++ more)
held-push es bytes more e held due len = grind (arith, all-push, length-append, sum_by-append, sum_by-cons)

-- the first entry is gone, with its packet
pub held-pop : (es more : List Queued) (e : Queued) (bytes : List ℕ) → es ≡ e ∷ more → AreEntriesOf es bytes →
    AreEntriesOf (remove es 0) (drop (entry_len e) bytes)
held-pop es more e bytes is held = grind (arith, common_steps, length-drop, sum_by-cons)

pub queued_packets-pop : (es more : List Queued) (e : Queued) (bytes : List ℕ) → es ≡ e ∷ more →
    queued_packets es bytes ≡ entry_packets e (take (entry_len e) bytes) ++ queued_packets (remove es 0) (drop (entry_len e) bytes)
unfolding queued_packets
queued_packets-pop es more e bytes is = search (rules, arith)

-- An entry was put, with its packets.
pub queued-push : (es : List Queued) (bytes more : List ℕ) (e : Queued) (len count : ℕ) → IsQueued es bytes len →
    HasEntryPacket e → length more ≡ entry_len e → count ≡ length (entry_packets e more) → len + count ≤ 130
    → IsQueued (es ++ e ∷ []) (bytes ++ more) (len + count)
queued-push es bytes more e len count q due fits counts few =
    grind (arith, common_steps, held-push, length-append, queued_packets-push)

-- a new outbox
pub queued_none : IsQueued [] [] 0
unfolding queued_packets
queued_none = record { held = record { due = tt; sum = refl }; counted = refl; few = omega arith }

-- where a packet has room, its entry and its bytes have
pub record HasSpace (es : List Queued) (bytes : List ℕ) (len count : ℕ) : Type 0 where
  pub entry : length es < 130
  pub bytes_left : length bytes + 64 * count ≤ 8320

pub space : (es : List Queued) (bytes : List ℕ) (len count : ℕ) → IsQueued es bytes len → 1 ≤ count →
    len + count ≤ 130 → HasSpace es bytes len count
space es bytes len count q some few = search (rules, arith, bounds)

-- an outbox without an entry has no packet
pub none_wait : (es : List Queued) (bytes : List ℕ) (now : List (List ℕ)) → queued_packets es bytes ≡ now → es ≡ [] → now ≡ []
unfolding queued_packets
none_wait es bytes now is none = sym is ∙ ap (λ l. queued_packets l bytes) none

-- the first entry gave a packet and stays with what is left of it
pub part_more : (es others more : List Queued) (e f : Queued) (ring after p : List ℕ) → es ≡ e ∷ more →
    others ≡ f ∷ more
    → entry_packets e (take (entry_len e) ring) ≡ p ∷ entry_packets f (take (entry_len f) after) →
    drop (entry_len f) after ≡ drop (entry_len e) ring
    → queued_packets es ring ≡ p ∷ queued_packets others after
unfolding queued_packets
part_more es others more e f ring after p is others_are made rest = search (rules, arith)

-- it gave its last packet and is gone
pub part_last : (es others more : List Queued) (e : Queued) (ring after p : List ℕ) (left : ℕ)
    (rest : List ℕ → List (List ℕ)) → es ≡ e ∷ more → others ≡ remove es 0
    → entry_packets e (take (entry_len e) ring) ≡ p ∷ rest (take left after) → drop left after ≡ drop (entry_len e) ring →
    left ≡ 0 → rest [] ≡ []
    → queued_packets es ring ≡ p ∷ queued_packets others after
unfolding queued_packets
part_last es others more e ring after p left rest is others_are made back none last = search (rules, arith)

-- the first of several was written over
pub first_set : (es ds more : List Queued) (e f : Queued) → es ≡ e ∷ more → ds ≡ es →
    refill (length es) es (set ds 0 f) ≡ f ∷ more
first_set es ds more e f is same = grind (arith, append-nil, drop-length, take-length)

pub no_entry : (es ds : List Queued) → ds ≡ es → length ds < 1 → es ≡ []
no_entry es x1 same lt = grind (arith, common_steps)

pub first_of : (es ds : List Queued) → ds ≡ es → 1 ≤ length ds → (more : List Queued) × (es ≡ get_or ds 0 Whole ∷ more)
first_of es [] same some = absurd (omega arith)
first_of es (d ∷ ds) same some = (ds, sym same)

-- the first entry stays with fewer bytes, or is gone with its last one
pub held-more : (es more : List Queued) (e f : Queued) (bytes after : List ℕ) → es ≡ e ∷ more → AreEntriesOf es bytes →
    HasEntryPacket f → length after + entry_len e ≡ length bytes + entry_len f → AreEntriesOf (f ∷ more) after
held-more es more e f bytes after is held due there = grind (arith, common_steps, sum_by-cons)

pub held-last : (es more : List Queued) (e : Queued) (bytes after : List ℕ) → es ≡ e ∷ more → AreEntriesOf es bytes →
    length after + entry_len e ≡ length bytes → AreEntriesOf (remove es 0) after
held-last es more e bytes after is held there = grind (arith, common_steps, sum_by-cons)

-- a packet was taken, and what is left stays queued
pub queued-pop : (es others : List Queued) (bytes after p : List ℕ) (len : ℕ) → IsQueued es bytes len →
    queued_packets es bytes ≡ p ∷ queued_packets others after → AreEntriesOf others after →
    IsQueued others after (len - 1)
queued-pop es others bytes after p len q is held = record {
  held = held;
  counted = omega (arith, q.counted, ap length is);
  few = omega (arith, q.few);
}
