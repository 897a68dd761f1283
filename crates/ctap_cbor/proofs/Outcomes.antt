-- The outcome of checking and decoding bytes.
use Rattle.std.proofs.Common.{rules, ◌≡◌, ℕ, ◌+◌, ◌-◌, ◌<◌, ◌≤◌, true, List, Option, Some, None, refl, arith, sym, ap}
use Rattle.std.proofs.Common.{◌∙◌, ◌++◌, length, drop, Result, Ok, Err, subst, inl, inr, ◌*◌, Bool, [], ◌∷◌, ◌≢◌, map}
use Rattle.std.proofs.lemmas.Bool.{ne_eqb}
use Rattle.std.specs.Prelude.{if◌then◌else◌, nat_lt, nat_eq, MatchResult, ◌⊎◌, IsOk, ◌↔◌, ◌&&◌}
use Rattle.ctap_cbor.specs.declared.fault.Kind.{Kind}
use Rattle.ctap_cbor.specs.declared.fault.Kind.TheVariants.{TooDeep, Trailing, Reserved, Memory}
use Rattle.ctap_cbor.specs.Tree.{Scalar, Tree, Plain, Array, Map, Trees, no_trees, tree, Pairs, no_pairs, pair, depth}
use Rattle.ctap_cbor.specs.Tree.{depth_all, depth_pairs, count, push, push_pair}
use Rattle.ctap_cbor.specs.Laws.{RejectedHasNoEncoding, BytesDetermineTree, TreesAreComputed, CheckStepsAreBounded}
use Rattle.ctap_cbor.specs.Laws.{ItemsAreDecoded, ReadsTree, ReadsNoTree, CursorAgreesWithCheck}
use Rattle.ctap_cbor.specs.Items.{refusal_pairs, range_refusal, own_refusal, order_refusal, or_else, refusal}
use Rattle.ctap_cbor.specs.Items.{refusal_all}
use Rattle.ctap_cbor.specs.Grammar.{encode_tree, Fits, IsKey, IsAbove, KeysAscend, IsLawful, AreLawful}
use Rattle.ctap_cbor.specs.Grammar.{AreLawfulPairs, IsCanonical, encode_trees}
use Rattle.std.proofs.lemmas.List.{append-nil, drop_at, map_push}
use Rattle.ctap_cbor.specs.declared.fault.Fault.{Fault}
use Rattle.ctap_cbor.specs.Grammar.{AreBytes}
use Rattle.ctap_cbor.specs.Items.{fault_steps, passed as passed_len, Expected, first_faults, body_faults, fault}
use Rattle.ctap_cbor.proofs.Parsing.{encodings_are_unique, parse_sound, items_again, all_ran, outcome_sound}
use Rattle.ctap_cbor.proofs.Parsing.{outcome_only}
use Rattle.ctap_cbor.specs.Outcome.{open_encodings, Outcome, Whole, Longer, Stopped, IsOutcome, IsCheckResult}
use Rattle.ctap_cbor.specs.Outcome.{result_of, steps}
use Rattle.ctap_cbor.specs.Reading.{Reading, rest_of, PassesOne, Fails, HasNoByteLeft, HasTrailingBytes, TakesItem}
use Rattle.ctap_cbor.specs.Reading.{HasItemError, Passes, PassesAll, PassesPairs, GivesKey, cursor_at_start}
use Rattle.ctap_cbor.specs.Reading.{add_steps}
use Rattle.ctap_cbor.specs.Outcome.{items, parse, outcome_of_parse, parsed_items}
use Rattle.ctap_cbor.specs.Outcome.{are_bytes, outcome_of, whole_tree, items_at}
use Rattle.ctap_cbor.proofs.Cursors.{steps_bound}
use Rattle.ctap_cbor.specs.declared.item.Item.{Item}
use Rattle.ctap_cbor.specs.declared.value.Value.{Value}
use Rattle.ctap_cbor.specs.Items.{Part}
use Rattle.ctap_cbor.specs.Views.{to_part}
use Rattle.ctap_cbor.specs.Values.{trees, pairs, to_tree, to_tree_pair, to_trees, to_pairs, IsScalarOf, UnlessMemory}
use Rattle.ctap_cbor.proofs.Moves.{passes_more, given_more, one_passes, at}
use Rattle.ctap_cbor.specs.declared.item.Item.TheVariants as item

-- ---- what has a canonical text isn't refused

pub below : (n m : ℕ) → n < m → nat_lt n m ≡ true
below n m h = grind arith

in_range : (s : Scalar) → Fits s → range_refusal s ≡ None
in_range s h = grind arith

key_accepted : (k : Tree) → IsKey k → IsLawful k → own_refusal k ≡ None
key_accepted k key h = grind arith

order_accepted : (last : Option (List ℕ)) (key : List ℕ) → IsAbove last key → order_refusal last key ≡ None
order_accepted last key h = search (rules, arith)

opens : (levels : ℕ) (d : ℕ) (k : Option Kind) → 1 + d ≤ levels → (if nat_eq levels 0 then Some TooDeep else k) ≡ k
opens levels d k h = ap (λ b. if b then Some TooDeep else k) (ne_eqb levels 0 (λ e. omega arith))

mutual
  accepted : (levels : ℕ) (t : Tree) → IsLawful t → depth t ≤ levels → refusal levels t ≡ None
  accepted levels (Plain s) h d = in_range s h
  accepted levels (Array ts) h d = opens levels (depth_all ts) (refusal_all (levels - 1) ts) d
      ∙ accepted_all (levels - 1) ts h.1 (omega arith)
  accepted levels (Map ps) h d = opens levels (depth_pairs ps) (refusal_pairs (levels - 1) None ps) d
      ∙ accepted_pairs (levels - 1) None ps h.1 h.2 (omega arith)

  accepted_all : (levels : ℕ) (ts : Trees) → AreLawful ts → depth_all ts ≤ levels → refusal_all levels ts ≡ None
  accepted_all levels no_trees h d = refl
  accepted_all levels (tree t ts) h d = ap (λ x. or_else x (refusal_all levels ts))
      (accepted levels t h.0 (omega arith))
      ∙ accepted_all levels ts h.1 (omega arith)

  accepted_pairs : (levels : ℕ) (last : Option (List ℕ)) (ps : Pairs) → KeysAscend last ps → AreLawfulPairs ps →
      depth_pairs ps ≤ levels → refusal_pairs levels last ps ≡ None
  accepted_pairs levels last no_pairs r h d = refl
  accepted_pairs levels last (pair k v ps) r h d =
      ap (λ x. or_else x (or_else (order_refusal last (encode_tree k))
      (or_else (refusal levels v) (refusal_pairs levels (Some (encode_tree k)) ps)))) (key_accepted k r.0 h.0)
      ∙ ap (λ x. or_else x (or_else (refusal levels v) (refusal_pairs levels (Some (encode_tree k)) ps)))
      (order_accepted last (encode_tree k) r.1)
      ∙ ap (λ x. or_else x (refusal_pairs levels (Some (encode_tree k)) ps)) (accepted levels v h.1 (omega arith))
      ∙ accepted_pairs levels (Some (encode_tree k)) ps r.2 h.2 (omega arith)

pub rejected_has_no_encoding : RejectedHasNoEncoding
rejected_has_no_encoding t kind e b c = absurd (let f : ◌≡◌ {A = Option Kind} (Some kind) None = sym e
    ∙ accepted 4 t c.enc.lawful c.flat in cc)

-- ---- from a cursor at the first byte to what the text is

abbrev pub start : List ℕ → Reading
start b = record { bytes = b; place = 0; steps = 0 }

abbrev steps_at : Reading → ℕ
steps_at r = r.steps

abbrev place_at : Reading → ℕ
place_at r = r.place

abbrev pub Found : List ℕ → Result (Unit {0}) Fault → ℕ → Type 0
Found b r n = (o : Outcome) × IsOutcome b o × IsCheckResult b o r n

pub found_whole : (b : List ℕ) (middle new : Reading) (u : Unit {0}) → PassesOne 4 (start b) middle → HasNoByteLeft middle new →
    Found b (Ok u) new.steps
found_whole b middle new u p e =
    let t : Tree = p.0 in
    let spelled : b ≡ encode_tree t = p.1.spelled ∙ ap (λ x. encode_tree t ++ x) e.at_end ∙ append-nil (encode_tree t) in
    (Whole t, record { enc = record { lawful = p.1.lawful; spelled = spelled }; flat = p.1.flat }, (refl, omega (arith, ap length spelled, ap steps_at e.moved, ap steps_at p.1.moved)))

pub found_longer : (b : List ℕ) (middle new : Reading) (f : Fault) → PassesOne 4 (start b) middle →
    HasTrailingBytes middle new f.at f.kind → Found b (Err f) new.steps
found_longer b middle new f p e =
    let t : Tree = p.0 in
    let at : length (encode_tree t) ≡ f.at = omega (arith, e.place, ap place_at p.1.moved) in (
      Longer t,
      (encode_tree t, rest_of middle, record { enc = record { lawful = p.1.lawful; spelled = refl }; flat = p.1.flat }, e.left, p.1.spelled),
      (ap (λ x. Some (x, Trailing)) at ∙ ap (λ x. Some (f.at, x)) (sym e.is_trailing), omega (arith, ap steps_at e.moved, ap steps_at p.1.moved)),
    )

pub found_stopped : (b : List ℕ) (new : Reading) (f : Fault) → Fails 4 (start b) new f.at f.kind →
    Found b (Err f) new.steps
found_stopped b new f h =
    let at : length (open_encodings h.os) ≡ f.at = omega (arith, h.place) in
    let tail : drop (length (open_encodings h.os)) b ≡ h.tail = ap (drop (length (open_encodings h.os))) h.spelled
    ∙ drop_at (open_encodings h.os) h.tail (length (open_encodings h.os)) refl in (
      Stopped h.os f.kind,
      (h.tail, h.halts, h.spelled),
      (ap (λ x. Some (x, f.kind)) at, omega (arith, ap steps_at h.moved, ap (fault_steps f.kind) tail)),
    )

abbrev Whole-read : Reading → Reading → Result (Unit {0}) Fault → Type 0
Whole-read old new r = MatchResult r (λ _. (middle : Reading) × PassesOne 4 old middle × HasNoByteLeft middle new)
    (λ f. Fails 4 old new f.at f.kind ⊎ ((middle : Reading) × PassesOne 4 old middle × HasTrailingBytes middle new f.at f.kind))

found_from : (b : List ℕ) (new : Reading) (r : Result (Unit {0}) Fault) → Whole-read (start b) new r →
    Found b r new.steps
found_from b new (Ok u) h = found_whole b h.0 new u h.1 h.2
found_from b new (Err f) (inl h) = found_stopped b new f h
found_from b new (Err f) (inr h) = found_longer b h.0 new f h.1 h.2

pub found : (b : List ℕ) (old new : Reading) (r : Result (Unit {0}) Fault) (n : ℕ) → old ≡ start b →
    Whole-read old new r → n ≡ new.steps → Found b r n
found b old new r n e h len = subst (Found b r) (sym len) (found_from b new r (subst (λ x. Whole-read x new r) e h))

-- a text is one outcome, so the answer is that of every outcome that it is
pub only : (b : List ℕ) (r : Result (Unit {0}) Fault) (n : ℕ) → AreBytes b → Found b r n → (o : Outcome) →
    IsOutcome b o → IsCheckResult b o r n
only b r n fits h o is = search (rules, arith, encodings_are_unique)

whole_of : (b : List ℕ) (o : Outcome) → IsOutcome b o → result_of o ≡ None → (t : Tree) × IsCanonical t b
whole_of b o h e = search (rules, arith)

pub ok_iff : (b : List ℕ) (r : Result (Unit {0}) Fault) (n : ℕ) → AreBytes b → Found b r n →
    IsOk r ↔ ((t : Tree) × IsCanonical t b)
ok_iff b (Ok u) n fits h = (λ _. whole_of b h.0 h.1 h.2.0, λ _. refl)
ok_iff b (Err f) n fits h =
    (λ (e : IsOk {T = Unit {0}} (Err f)). absurd cc, λ c. absurd (let k = (only b (Err f) n fits h (Whole c.0) c.1).0 in cc))

-- ---- what bytes are, as a function of them

pub are_bytes_true : (b : List ℕ) → AreBytes b → are_bytes b ≡ true
are_bytes_true [] h = refl
are_bytes_true (x ∷ bs) h = ap (λ c. c && are_bytes bs) (below x 256 h.0) ∙ are_bytes_true bs h.1

pub bytes_of_test : (b : List ℕ) → are_bytes b ≡ true → AreBytes b
bytes_of_test [] e = tt
bytes_of_test (x ∷ bs) e = grind (arith, bytes_of_test bs)

outcome_parsed : (b : List ℕ) → AreBytes b → outcome_of b ≡ outcome_of_parse (parse 4 b)
unfolding outcome_of
outcome_parsed b fits = ap (λ c. if c then outcome_of_parse (parse 4 b) else Stopped [] Reserved) (are_bytes_true b fits)

pub told : (b : List ℕ) → AreBytes b → IsOutcome b (outcome_of b)
told b fits = rw (outcome_parsed b fits) (outcome_sound b (parse 4 b) (parse_sound 4 b fits))

pub outcomes_are_computed : BytesDetermineTree
outcomes_are_computed = record { told = told; only = λ b o fits is. outcome_parsed b fits ∙ outcome_only b o is }

tree_of : (b : List ℕ) (t : Tree) (o : Outcome) → IsOutcome b o → whole_tree o ≡ Some t → IsCanonical t b
tree_of b t o is e = grind arith

pub trees_are_computed : TreesAreComputed
trees_are_computed b t fits =
    (λ e. tree_of b t (outcome_of b) (told b fits) e, λ c. ap whole_tree (outcomes_are_computed.only b (Whole t) fits c))

-- a list with a number that is no byte
no_bytes : (b : List ℕ) → steps b (Stopped [] Reserved) ≤ 2 * length b + 1
unfolding fault_steps passed_len
no_bytes b = search (rules, arith)

bounded_by : (b : List ℕ) (c : Bool) → are_bytes b ≡ c →
    steps b (if c then outcome_of_parse (parse 4 b) else Stopped [] Reserved) ≤ 2 * length b + 1
bounded_by b c e = grind (arith, bytes_of_test, no_bytes, outcome_sound, parse_sound, steps_bound)

pub check_steps_bounded : CheckStepsAreBounded
unfolding outcome_of
check_steps_bounded b = bounded_by b (are_bytes b) refl

pub items_are_decoded : ItemsAreDecoded
unfolding items_at
items_are_decoded levels ts lawful flat =
    ap (λ x. parsed_items (items (parse levels) (count ts) x)) (sym (append-nil (encode_trees ts)))
    ∙ ap (λ n. parsed_items (items (parse levels) n (encode_trees ts ++ []))) (let e : count ts ≡ count ts + 0 = omega arith in e)
    ∙ ap parsed_items (items_again ts levels 0 [] lawful flat)
    ∙ ap parsed_items (all_ran ts [])

-- ---- values that grow by one at the end, and refusals that aren't for want of memory

-- ---- one more at the end

pub trees_push : (ts : List Tree) (t : Tree) → trees (ts ++ t ∷ []) ≡ push (trees ts) t
unfolding push
trees_push [] t = refl
trees_push (u ∷ ts) t = ap (λ x. Rattle.ctap_cbor.specs.Tree.tree u x) (trees_push ts t)

pub pairs_push : (ps : List (Tree × Tree)) (k v : Tree) → pairs (ps ++ (k, v) ∷ []) ≡ push_pair (pairs ps) k v
unfolding push_pair
pairs_push [] k v = refl
pairs_push (p ∷ ps) k v = ap (λ x. Rattle.ctap_cbor.specs.Tree.pair p.0 p.1 x) (pairs_push ps k v)

pub item_more : (levels n : ℕ) (vs : List Value) (v : Value) (a b c : Reading) → PassesAll levels n (to_trees vs) a b →
    Passes levels (to_tree v) b c → PassesAll levels (n + 1) (to_trees (vs ++ v ∷ [])) a c
item_more levels n vs v a b c h k = search (rules, arith, map_push, passes_more, trees_push)

pub pair_more : (levels n : ℕ) (vs : List (Value × Value)) (name value : Value) (last : Option (List ℕ))
    (a b c d : Reading) (part : Part) (bytes : List ℕ) → PassesPairs levels n (to_pairs vs) last a b →
    GivesKey last b c part bytes → IsScalarOf part (to_tree name) → Passes levels (to_tree value) c d →
    PassesPairs levels (n + 1) (to_pairs (vs ++ (name, value) ∷ [])) (Some bytes) a d
pair_more levels n vs name value last a b c d part bytes h k is p =
    let key : to_tree name ≡ Plain k.key = is k.key k.part_is k.takes.suits.0 in
    let e : to_pairs (vs ++ (name, value) ∷ []) ≡ push_pair (to_pairs vs) (Plain k.key) (to_tree value) =
    ap pairs (map_push to_tree_pair vs (name, value)) ∙ pairs_push (map to_tree_pair vs) (to_tree name) (to_tree value)
    ∙ ap (λ x. push_pair (to_pairs vs) x (to_tree value)) key in
    subst (λ x. PassesPairs levels (n + 1) x (Some bytes) a d) (sym e)
    (given_more levels n (to_pairs vs) (to_tree value) last a b c d part bytes h k p)

-- what opens no array or map was passed whole
pub scalar_passes : (levels : ℕ) (a b : Reading) (i : Item) (t : Tree) → ((n : ℕ) → i ≡ item.Array n → ⊥) →
    ((n : ℕ) → i ≡ item.Map n → ⊥) → TakesItem levels a b (to_part i) → IsScalarOf (to_part i) t → Passes levels t a b
scalar_passes levels a b (item.Array n) t no-array no-map k is = absurd (no-array n refl)
scalar_passes levels a b (item.Map n) t no-array no-map k is = absurd (no-map n refl)
scalar_passes levels a b (item.Int i) t no-array no-map k is =
    subst (λ x. Passes levels x a b) (sym (is _ refl k.suits))
    (one_passes levels a b _ k)
scalar_passes levels a b (item.Bytes s) t no-array no-map k is =
    subst (λ x. Passes levels x a b) (sym (is _ refl k.suits))
    (one_passes levels a b _ k)
scalar_passes levels a b (item.Text s) t no-array no-map k is =
    subst (λ x. Passes levels x a b) (sym (is _ refl k.suits))
    (one_passes levels a b _ k)
scalar_passes levels a b (item.Bool f) t no-array no-map k is =
    subst (λ x. Passes levels x a b) (sym (is _ refl k.suits))
    (one_passes levels a b _ k)
scalar_passes levels a b item.Null t no-array no-map k is = subst (λ x. Passes levels x a b) (sym (is _ refl k.suits))
    (one_passes levels a b _ k)

-- ---- no item's fault is want of memory

fault_not_memory : (levels : ℕ) (due : Expected) (bytes : List ℕ) (kind : Kind) → fault levels due bytes ≡ Some kind →
    kind ≢ Memory
unfolding first_faults body_faults
fault_not_memory levels due bytes kind e = search (rules, arith)

pub refuses_not_memory : (levels : ℕ) (due : Expected) (a b : Reading) (at : ℕ) (kind : Kind) →
    HasItemError levels due a b at kind →
    kind ≢ Memory
refuses_not_memory levels due a b at kind h = fault_not_memory levels due _ kind h.is

-- what the text tells
pub unless_memory : (f : Fault) (p : Type 0) → f.kind ≢ Memory → p → UnlessMemory f p
unless_memory f p differs h = (λ _. h, λ e. absurd (differs e))

-- what holds of a refusal holds of what follows from it
pub unless_memory_by : (f : Fault) (p q : Type 0) → (p → q) → UnlessMemory f p → UnlessMemory f q
unless_memory_by f p q go h = (λ differs. go (h.0 differs), h.1)

-- ---- what a decoder's refusal says of the text

pub stopped_outcome : (b : List ℕ) (old new : Reading) (f : Fault) → old ≡ start b → Fails 4 old new f.at f.kind →
    (o : Outcome) × IsOutcome b o × (result_of o ≡ Some (f.at, f.kind))
stopped_outcome b old new f e h =
    let k = found_stopped b new f (subst (λ r. Fails 4 r new f.at f.kind) e h) in
    (k.0, k.1, k.2.0)

pub longer_outcome : (b : List ℕ) (old middle new : Reading) (f : Fault) (t : Tree) → old ≡ start b →
    Passes 4 t old middle → HasTrailingBytes middle new f.at f.kind →
    UnlessMemory f ((o : Outcome) × IsOutcome b o × (result_of o ≡ Some (f.at, f.kind)))
longer_outcome b old middle new f t e p g =
    let k = found_longer b middle new f (t, subst (λ r. Passes 4 t r middle) e p) g in
    unless_memory f _ (subst (λ k. k ≢ Memory) (sym g.is_trailing) (λ (h : Trailing ≡ Memory). cc)) (k.0, k.1, k.2.0)

-- ---- what reading bytes whole tells of them

-- the outcome is this one
is : (b : List ℕ) (o : Outcome) → AreBytes b → IsOutcome b o → outcome_of b ≡ o
is b o fits h = outcomes_are_computed.only b o fits h

passed : (b : List ℕ) (t : Tree) (s : ℕ) (middle new : Reading) → AreBytes b → Passes 4 t (cursor_at_start b s) middle →
    HasNoByteLeft middle new → ReadsTree b s t new
passed b t s middle new fits p e =
    let spelled : b ≡ encode_tree t = p.spelled ∙ ap (λ x. encode_tree t ++ x) e.at_end ∙ append-nil (encode_tree t) in
    let told : outcome_of b ≡ Whole t =
    is b (Whole t) fits record { enc = record { lawful = p.lawful; spelled = spelled }; flat = p.flat } in
    let cost : steps b (outcome_of b) ≡ steps b (Whole t) = ap (steps b) told in
    let place : new.place ≡ length b =
    omega (arith, ap length spelled, ap (λ (r : Reading). r.place) e.moved, ap (λ (r : Reading). r.place) p.moved)
    in
    let count : new.steps ≡ add_steps s (steps b (outcome_of b)) =
    omega (arith, cost, ap length spelled, ap (λ (r : Reading). r.steps) e.moved, ap (λ (r : Reading). r.steps) p.moved)
    in
    record {
      tree_is = ap whole_tree told;
      moved = ap (λ x. at x new.place new.steps) (ap (λ (r : Reading). r.bytes) e.moved
          ∙ ap (λ (r : Reading). r.bytes) p.moved) ∙ ap (λ x. at b x new.steps) place ∙ ap (at b (length b)) count;
    }

longer : (b : List ℕ) (t : Tree) (s : ℕ) (middle new : Reading) (place : ℕ) (kind : Kind) → AreBytes b →
    Passes 4 t (cursor_at_start b s) middle → HasTrailingBytes middle new place kind → ReadsNoTree b s new place kind
longer b t s middle new place kind fits p e =
    let told : outcome_of b ≡ Longer t = is b (Longer t) fits
    (encode_tree t, rest_of middle, record { enc = record { lawful = p.lawful; spelled = refl }; flat = p.flat }, e.left, p.spelled) in
    let place_is : place ≡ length (encode_tree t) = omega (arith, e.place, ap (λ (r : Reading). r.place) p.moved) in
    record {
      none = ap whole_tree told;
      fault_is = ap result_of told ∙ ap (λ n. Some (n, Trailing)) (sym place_is)
          ∙ ap (λ k. Some (place, k)) (sym e.is_trailing);
      bytes_stay = ap (λ (r : Reading). r.bytes) e.moved ∙ ap (λ (r : Reading). r.bytes) p.moved;
      steps_are = omega
          (arith, ap (steps b) told, ap (λ (r : Reading). r.steps) e.moved, ap (λ (r : Reading). r.steps) p.moved);
    }

stopped : (b : List ℕ) (s : ℕ) (new : Reading) (place : ℕ) (kind : Kind) → AreBytes b →
    Fails 4 (cursor_at_start b s) new place kind → ReadsNoTree b s new place kind
stopped b s new place kind fits h =
    let told : outcome_of b ≡ Stopped h.os kind = is b (Stopped h.os kind) fits (h.tail, h.halts, h.spelled) in
    let tail : drop (length (open_encodings h.os)) b ≡ h.tail = ap (drop (length (open_encodings h.os))) h.spelled
    ∙ drop_at (open_encodings h.os) h.tail (length (open_encodings h.os)) refl in
    let place_is : place ≡ length (open_encodings h.os) = omega (arith, h.place) in
    record {
      none = ap whole_tree told;
      fault_is = ap result_of told ∙ ap (λ n. Some (n, kind)) (sym place_is);
      bytes_stay = ap (λ (r : Reading). r.bytes) h.moved;
      steps_are = omega (arith, ap (steps b) told, ap (fault_steps kind) tail, ap (λ (r : Reading). r.steps) h.moved);
    }

pub cursor_agrees_with_check : (b : List ℕ) → AreBytes b → CursorAgreesWithCheck b
cursor_agrees_with_check b fits = search (rules, arith, longer, passed, stopped)
