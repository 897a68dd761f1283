-- From the walks over the parameters to the request or the status.
use Rattle.std.proofs.Common.{rules, ◌≡◌, ℕ, ◌+◌, ◌-◌, ◌<◌, Bool, true, false, List, [], ◌++◌, length, Option, Some}
use Rattle.std.proofs.Common.{None, Ok, Err, Bor, refl, sym, ap, subst, ◌∙◌, arith, length-append, take, drop, ◌*◌}
use Rattle.std.proofs.Common.{◌≤◌, inl, inr, Result, ◌∷◌}
use Rattle.std.specs.Prelude.{is_some, if◌then◌else◌, ◌&&◌, min, ◌⊎◌, ◌==◌, nat_le, not, is_none, unwrap_or}
use Rattle.std.specs.Option.{option_copied}
use Rattle.ctap_cbor.specs.declared.fault.Kind.{Kind}
use Rattle.ctap_cbor.specs.declared.fault.Fault.{Fault}
use Rattle.ctap_cbor.specs.declared.item.Item.{Item}
use Rattle.ctap_cbor.specs.Tree.{Tree, Array, Trees, no_trees, tree, count, push}
use Rattle.ctap_cbor.specs.Grammar.{AreBytes, head}
use Rattle.ctap_cbor.specs.Items.{AnItem}
use Rattle.ctap_cbor.specs.Outcome.{parse}
use Rattle.ctap_cbor.specs.Views.{to_part, ReadsItem}
use Rattle.ctap_cbor.specs.Grammar.{encode_tree, encode_trees, IsCanonical}
use Rattle.ctap_cbor.specs.Outcome.{Whole, later_keys, result_of, Outcome, Longer, Stopped}
use Rattle.ctap_cbor.specs.Items.{Part, OpensArray, IsAllowed, read}
use Rattle.ctap_cbor.specs.Laws.{CursorReadsOneTree, CanonicalIsAccepted, BytesDetermineTree, ItemsAreDecoded}
use Rattle.ctap_cbor.specs.Laws.{StepsAreBounded, CheckStepsAreBounded, ReadsTree, ReadsNoTree, CursorAgreesWithCheck}
use Rattle.ctap_cbor.specs.Reading.{Reading, cursor_at_start, rest_of, Fails, Passes, TakesItem, PassesOne}
use Rattle.ctap_cbor.specs.Reading.{HasNoByteLeft, HasTrailingBytes}
use Rattle.ctap_cbor.specs.Outcome.{outcome_of, canonical_tree, whole_tree, items_at, check_steps}
use Rattle.ctap_message.specs.Members.{has_entries, entries_of, map_of, array_of, all_entries}
use Rattle.ctap_message.specs.Members.{ids_of, descriptor_types}
use Rattle.ctap_message.specs.Collected.{Reads, typed}
use Rattle.ctap_message.specs.Fields.{Descriptor, descriptor_in, id_of_public_key, is_complete_descriptor}
use Rattle.ctap_message.specs.Fields.{DescriptorList}
use Rattle.std.specs.List.{cons_option}
use Rattle.ctap_message.specs.DescriptorWalk.{DescriptorWalk, IsAtFirst, list_steps, entry_steps, after_first}
use Rattle.ctap_message.specs.DescriptorWalk.{HasEntriesLeft, MovesPast, YieldsId, IsList, IsValidWalk, list_of}
use Rattle.ctap_message.specs.DescriptorWalk.{left_of, walked_steps}
use Rattle.std.proofs.lemmas.Grind.{common_steps}
use Rattle.ctap_message.specs.Collected.{listing_in, list_in}
use Rattle.ctap_message.proofs.Collecting.{entries_push}
use Rattle.ctap_message.specs.Requests.{MAX_STEPS, steps_of, reading_steps}
use Rattle.ctap_message.specs.declared.fault.RequestFault.{RequestFault}
use Rattle.ctap_message.specs.Requests.{ParsedRequest, MakeCredential, GetAssertion}
use Rattle.ctap_message.specs.Requests.{if_all_hold}
use Rattle.ctap_message.specs.Fields.{MakeParameters, validated_make, AssertionParameters, validated_assertion}
use Rattle.ctap_message.specs.RequestFaults.{status_of, or_first, make_fault, assertion_fault, fault_of}
use Rattle.ctap_cbor.specs.declared.item.Item.TheVariants as item
use Rattle.ctap_message.specs.declared.fault.RequestFault.TheVariants as because

-- ---- from one entry of a list to the next, and the head of a list

-- as many ids are left as there were
abbrev pub Sofar : Reading → ℕ → Reading → ℕ → Type 0
Sofar r n s m = (ts : Trees) → HasEntriesLeft r n ts → (us : Trees) × (more : ℕ) × MovesPast r s m ts us more
    × (ids_of ts ≡ ids_of us) × (after_first ts ≡ after_first us)

Onward : Reading → Reading → ℕ → Trees → Trees → Descriptor → Type 0
Onward r s m ts us d =
    (vs : Trees) × (more : ℕ) × MovesPast r s m ts vs more × (ids_of us ≡ cons_option (id_of_public_key d) (ids_of vs))
    × (after_first us ≡ (if is_some (id_of_public_key d) then vs else after_first vs))

onward : CursorReadsOneTree → (r s s' : Reading) (m : ℕ) (ts us : Trees) (more : ℕ) (d : Bool × Descriptor) →
    MovesPast r s m ts us more → 0 < m → Reads (typed (map_of descriptor_types) descriptor_in) 3 d s s' →
    Onward r s' (m - 1) ts us d.1
unfolding Onward
onward law r s s' m ts no_trees more d h lt k = absurd (omega (arith, h.left.number))
onward law r s s' m ts (tree u us) more d h lt k =
    let t : Tree = k.0 in
    let p : Passes 3 t s s' = k.1 in
    let only = law 3 u t (encode_trees us) s s' h.left.lawful.0 (omega (arith, h.left.flat)) h.left.spelled p in
    let len : length (encode_tree t) ≡ length (encode_tree u) = ap (λ t. length (encode_tree t)) only.0 in
    let later = ap later_keys only.0 in (
      us,
      more + (length (encode_tree u) + later_keys u),
      record {
        left = record { spelled = only.1; number = omega (arith, h.left.number); lawful = h.left.lawful.1; flat = omega (arith, h.left.flat) };
        same = ap (λ (r : Reading). r.bytes) p.moved ∙ h.same;
        cost = omega (arith, h.cost, length-append (encode_tree u) (encode_trees us));
        steps = omega (arith, h.steps, ap (λ (r : Reading). r.steps) p.moved, len, later);
      },
      ap (λ t. cons_option (id_of_public_key (descriptor_in (Some t))) (ids_of us)) (sym only.0)
          ∙ ap (λ x. cons_option (id_of_public_key x.1) (ids_of us)) (sym k.2),
      ap (λ t. if is_some (id_of_public_key (descriptor_in (Some t))) then us else after_first us) (sym only.0)
          ∙ ap (λ x. if is_some (id_of_public_key x.1) then us else after_first us) (sym k.2),
    )

pub entry_never : CanonicalIsAccepted → (r s s' : Reading) (m : ℕ) (ts us : Trees) (more : ℕ) (at : ℕ) (kind : Kind) →
    MovesPast r s m ts us more → 0 < m → Fails 3 s s' at kind → ⊥
entry_never law r s s' m ts no_trees more at kind h lt k = omega (arith, h.left.number)
entry_never law r s s' m ts (tree u us) more at kind h lt k = law 3 u (encode_trees us) s s' at kind h.left.lawful.0
    (omega (arith, h.left.flat)) h.left.spelled k

pub sofar_more : CursorReadsOneTree → (r s s' : Reading) (n m : ℕ) (d : Bool × Descriptor) → Sofar r n s m → 0 < m →
    Reads (typed (map_of descriptor_types) descriptor_in) 3 d s s' → id_of_public_key d.1 ≡ None → Sofar r n s' (m - 1)
unfolding Onward
sofar_more law r s s' n m d h lt k e = λ ts l.
    let g = h ts l in
    let o = onward law r s s' m ts g.0 g.1 d g.2 lt k in
    (o.0, o.1, o.2, g.3 ∙ o.3 ∙ ap (λ x. cons_option x (ids_of o.0)) e, g.4 ∙ o.4 ∙ ap (λ x. if is_some x then o.0 else after_first o.0) e)

pub gives_some : CursorReadsOneTree → (r s s' : Reading) (n m : ℕ) (d : Bool × Descriptor) (id : Option (List ℕ)) →
    Sofar r n s m → 0 < m → Reads (typed (map_of descriptor_types) descriptor_in) 3 d s s' → id ≡ id_of_public_key d.1 →
    is_some id ≡ true → YieldsId r n s' (m - 1) id
unfolding Onward
gives_some law r s s' n m d id h lt k e there = λ ts l.
    let g = h ts l in
    let o = onward law r s s' m ts g.0 g.1 d g.2 lt k in (
      o.0,
      o.1,
      o.2,
      g.3 ∙ o.3 ∙ ap (λ x. cons_option x (ids_of o.0)) (sym e),
      λ (none : id ≡ None). absurd (let f : true ≡ false = sym there ∙ ap is_some none in cc),
      sym (g.4 ∙ o.4 ∙ ap (λ b. if b then o.0 else after_first o.0) (ap is_some (sym e) ∙ there)),
    )

empty : (us : Trees) → count us ≡ 0 → us ≡ no_trees
empty no_trees e = refl
empty (tree u us) e = absurd (omega arith)

pub gives_none : (r s : Reading) (n m : ℕ) → Sofar r n s m → m ≡ 0 → YieldsId r n s m None
gives_none r s n m h e = search (rules, arith, empty)

pub copied_some : (o : Option (Bor (List ℕ))) → is_some (option_copied o) ≡ is_some o
copied_some o = search (rules, arith)

pub none_is : (o : Option (List ℕ)) → is_some o ≡ false → o ≡ None
none_is o e = search (rules, arith)

-- ---- walks

abbrev pub walk_at : Reading → ℕ → DescriptorWalk
walk_at r n = record { cursor = r; count = n }

abbrev entries_in : Reading → Trees
entries_in r = entries_of (canonical_tree r.bytes)

abbrev left_at : Reading → ℕ → Trees
left_at r n = items_at 3 n (rest_of r)

left_found : ItemsAreDecoded → (r : Reading) (n : ℕ) (ts : Trees) → HasEntriesLeft r n ts → left_at r n ≡ ts
left_found law r n ts h = search (rules, arith)

-- ---- the head of a list

-- the list's head stands at the first byte
abbrev pub HeadStands : Reading → Trees → Type 0
HeadStands r ts = IsAllowed 4 AnItem (OpensArray (count ts)) × (rest_of r ≡ head 4 (count ts) ++ encode_trees ts)

pub head_stands : (l : List ℕ) (ts : Trees) (r : Reading) → IsList l ts → r ≡ cursor_at_start l 0 → HeadStands r ts
head_stands l ts r h e = ((omega arith, h.lawful.0), ap rest_of e ∙ h.spelled)

abbrev size_of : Part → ℕ
size_of (OpensArray n) = n
size_of _ = 0

list_tree : BytesDetermineTree → (l : List ℕ) (ts : Trees) → AreBytes l → IsList l ts → canonical_tree l ≡ Some (Array ts)
list_tree law l ts fits h =
    ap whole_tree (law.only l (Whole (Array ts)) fits
    (record { enc = record { lawful = h.lawful; spelled = h.spelled }; flat = omega (arith, h.flat) }))

list_costs : (ts : Trees) → has_entries ts ≡ true → list_steps ts ≡ length (head 4 (count ts)) + entry_steps ts
list_costs no_trees e = absurd cc
list_costs (tree t ts) e = omega (arith, length-append (head 4 (count (tree t ts))) (encode_trees (tree t ts)))

-- after its head a list's walk begins
pub begins : BytesDetermineTree → ItemsAreDecoded → (l : List ℕ) (ts : Trees) (r s : Reading) (n : ℕ) → AreBytes l → IsList l ts →
    r ≡ cursor_at_start l 0 → ReadsItem 4 r s (Ok (item.Array n)) → TakesItem 4 r s (OpensArray n)
    → IsValidWalk (walk_at s n) true × IsAtFirst (walk_at s n) ts
begins tell found_law l ts r s n fits h e only t =
    let there = head_stands l ts r h e in
    let same = only (OpensArray (count ts)) (encode_trees ts) there.0 there.1 in
    let size : n ≡ count ts = ap size_of same.0 in
    let stands : HasEntriesLeft s n ts = record { spelled = same.1; number = sym size; lawful = h.lawful.1; flat = h.flat } in
    let found : left_at s n ≡ ts = left_found found_law s n ts stands in
    let bytes : s.bytes ≡ l = ap (λ (r : Reading). r.bytes) t.moved ∙ ap (λ (r : Reading). r.bytes) e in
    let entries : entries_in s ≡ ts = ap (λ b. entries_of (canonical_tree b)) bytes
    ∙ ap entries_of (list_tree tell l ts fits h) in
    let headed : length (head 4 n) ≡ length (head 4 (count ts)) = ap (λ n. length (head 4 n)) size in
    let costs = list_costs ts h.given in
    let left_cost : entry_steps (left_at s n) ≡ entry_steps ts = ap entry_steps found in
    let whole_cost : list_steps (entries_in s) ≡ list_steps ts = ap list_steps entries in (
      record {
        stands = subst (HasEntriesLeft s n) (sym found) stands;
        given_is = sym h.given ∙ ap has_entries (sym entries);
        within = omega (arith, costs, left_cost, whole_cost);
        steps_are = omega (arith, ap (λ (r : Reading). r.steps) t.moved, ap (λ (r : Reading). r.steps) e, headed, costs, left_cost, whole_cost);
      },
      (entries, found),
    )

pub no_fault : (l : List ℕ) (ts : Trees) (r s : Reading) (f : Fault) → IsList l ts → r ≡ cursor_at_start l 0 →
    ReadsItem 4 r s (Err f) → ⊥
no_fault l ts r s f h e only = let there = head_stands l ts r h e in
    only (OpensArray (count ts)) (encode_trees ts) there.0 there.1

no_part : (i : Item) (n : ℕ) → ((n : ℕ) → i ≡ item.Array n → ⊥) → to_part i ≡ OpensArray n → ⊥
no_part i n other e = search (rules, arith)

pub no_other : (l : List ℕ) (ts : Trees) (r s : Reading) (i : Item) → IsList l ts → r ≡ cursor_at_start l 0 →
    ReadsItem 4 r s (Ok i) → ((n : ℕ) → i ≡ item.Array n → ⊥) → ⊥
no_other l ts r s i h e only other =
    let there = head_stands l ts r h e in
    no_part i (count ts) other (only (OpensArray (count ts)) (encode_trees ts) there.0 there.1).0

-- ---- no list

no_tree : canonical_tree [] ≡ None
unfolding outcome_of parse read
no_tree = refl

none_left : (r : Reading) → left_at r 0 ≡ no_trees
unfolding items_at
none_left r = refl

pub no_list : (r : Reading) (l : List ℕ) → l ≡ [] → r ≡ cursor_at_start l 0 → IsValidWalk (walk_at r 0) false
    × IsAtFirst (walk_at r 0) no_trees
no_list r l nothing e = grind (arith, no_tree, none_left)

-- ---- what is collected of lists of descriptors, of one entry more; and the bytes of a list that was passed

given_push : (ts : Trees) (t : Tree) → has_entries (push ts t) ≡ true
unfolding push
given_push no_trees t = refl
given_push (tree u ts) t = refl

pub listing_start : ◌≡◌ {A = Bool × Bool} (true, false) (listing_in (Some (Array no_trees)))
unfolding all_entries
listing_start = refl

pub listing_more : (old : Bool × Bool) (d : Bool × Descriptor) (w whole : Bool) (t : Tree) →
    w ≡ is_complete_descriptor d.1 → whole ≡ (old.0 && w) → d ≡ typed (map_of descriptor_types) descriptor_in t
    → (ts : Trees) → old ≡ listing_in (Some (Array ts)) →
    ◌≡◌ {A = Bool × Bool} (whole, true) (listing_in (Some (Array (push ts t))))
listing_more old d w whole t f g is ts eq = grind (arith, entries_push, given_push)

pub is_list : (level from : ℕ) (t : Tree) (a c : Reading) (l : List ℕ) → 0 < level → from ≡ a.place →
    l ≡ take (c.place - from) (drop from c.bytes) → Passes (5 - level) t a c → has_entries (entries_of (Some t)) ≡ true
    → IsList l (entries_of (Some t))
is_list level from t a c l low start e p given = grind (arith, common_steps)

-- a list and a walk over it
pub list_read : (t : Tree) (r whole given : Bool) (w : DescriptorWalk) →
    ◌≡◌ {A = Bool × (Bool × Bool)} (r, (whole, given)) (typed (array_of (map_of descriptor_types)) listing_in t) →
    IsAtFirst w (entries_of (Some t))
    → ◌≡◌ {A = Bool × (DescriptorList × Trees)} (r, (record { is_whole = whole; entries = left_of w }, list_of w))
    (typed (array_of (map_of descriptor_types)) list_in t)
list_read t r whole given w told walk = grind arith

pub no_walk : (t : Tree) (r whole given : Bool) (w : DescriptorWalk) →
    ◌≡◌ {A = Bool × (Bool × Bool)} (r, (whole, given)) (typed (array_of (map_of descriptor_types)) listing_in t) →
    given ≡ false → IsAtFirst w no_trees
    → IsAtFirst w (entries_of (Some t))
no_walk t r whole given w told none e = grind arith

pub given_walk : (t : Tree) (r whole given : Bool) →
    ◌≡◌ {A = Bool × (Bool × Bool)} (r, (whole, given)) (typed (array_of (map_of descriptor_types)) listing_in t) →
    given ≡ true → has_entries (entries_of (Some t)) ≡ true
given_walk t r whole given told e = sym (ap (λ x. x.1.1) told) ∙ e

-- ---- the steps of a walk over a list of descriptors

pub bounded : StepsAreBounded → (ts : Trees) (l : List ℕ) → IsCanonical (Array ts) l → list_steps ts ≤ 2 * length l
bounded law no_trees l h = omega arith
bounded law (tree t ts) l h = omega (arith, law l (Whole (Array (tree t ts))) h, ap length h.enc.spelled)

pub ended : (w : DescriptorWalk) → left_of w ≡ no_trees → walked_steps w ≡ min (list_steps (list_of w)) MAX_STEPS
ended w e = omega (arith, ap entry_steps e)

-- ---- the steps of reading a message

pub steps_bounded : CheckStepsAreBounded → (message : List ℕ) → steps_of message ≤ 4 * (length message - 1) + 2
unfolding steps_of
steps_bounded law message = grind arith

-- ---- from two walks over the parameters to what they ask, and the steps

abbrev steps_at : Reading → ℕ
steps_at r = r.steps

abbrev bytes_at : Reading → List ℕ
bytes_at r = r.bytes

-- where a walk over all bytes stops
abbrev pub Stops : Reading → Reading → Fault → Type 0
Stops old new f = Fails 4 old new f.at f.kind ⊎ ((middle : Reading) × PassesOne 4 old middle
    × HasTrailingBytes middle new f.at f.kind)

-- where it passes them
abbrev pub Ended : Reading → Reading → Type 0
Ended old new = (middle : Reading) × PassesOne 4 old middle × HasNoByteLeft middle new

stops : (b : List ℕ) (s : ℕ) (new : Reading) (f : Fault) → CursorAgreesWithCheck b → Stops (cursor_at_start b s) new f →
    ReadsNoTree b s new f.at f.kind
stops b s new f w (inl h) = w.stopped s new f.at f.kind h
stops b s new f w (inr h) = w.longer h.1.0 s h.0 new f.at f.kind h.1.1 h.2

-- ---- the first walk

-- these bytes were refused, for this fault
pub record Refused (b : List ℕ) (new : Reading) (f : Fault) : Type 0 where
  pub none : canonical_tree b ≡ None
  pub fault_is : result_of (outcome_of b) ≡ Some (f.at, f.kind)
  pub steps_are : new.steps ≡ min (reading_steps b) MAX_STEPS

pub refused : (b : List ℕ) (old new : Reading) (f : Fault) → CursorAgreesWithCheck b → old ≡ cursor_at_start b 0 → Stops old new f →
    Refused b new f
refused b old new f w start h =
    let t : ReadsNoTree b 0 new f.at f.kind = stops b 0 new f w (subst (λ x. Stops x new f) start h) in
    record {
      none = t.none;
      fault_is = t.fault_is;
      steps_are = grind (arith, t.none, t.steps_are);
    }

-- these bytes were accepted, and the cursor goes back
pub record Accepted (b : List ℕ) (new : Reading) : Type 0 where
  pub tree : Tree
  pub tree_is : canonical_tree b ≡ Some tree
  pub back : record { bytes = new.bytes; place = 0; steps = new.steps } ≡ cursor_at_start b new.steps
  pub steps_are : new.steps ≡ min (check_steps b) MAX_STEPS

pub accepted : (b : List ℕ) (old new : Reading) → CursorAgreesWithCheck b → old ≡ cursor_at_start b 0 → Ended old new → Accepted b new
accepted b old new w start h =
    let k = subst (λ x. Ended x new) start h in
    let t : ReadsTree b 0 k.1.0 new = w.passed k.1.0 0 k.0 new k.1.1 k.2 in
    record {
      tree = k.1.0;
      tree_is = t.tree_is;
      back = ap (λ x. cursor_at_start x new.steps) (ap bytes_at t.moved);
      steps_are = omega (arith, ap steps_at t.moved);
    }

-- ---- the second walk

-- over what the first accepted it doesn't stop
pub never : (b : List ℕ) (first start new : Reading) (f : Fault) → CursorAgreesWithCheck b → Accepted b first →
    start ≡ cursor_at_start b first.steps → Stops start new f → ⊥
never b first start new f w a from h =
    let t = stops b first.steps new f w (subst (λ x. Stops x new f) from h) in
    let no : ◌≡◌ {A = Option Tree} (Some a.tree) None = sym a.tree_is ∙ t.none in cc

-- and it tells of the tree of these bytes, in as many steps
pub record Told {V : Type 0} (f : Tree → V) (b : List ℕ) (value : V) (n : ℕ) : Type 0 where
  pub tree : Tree
  pub tree_is : canonical_tree b ≡ Some tree
  pub value_is : value ≡ f tree
  pub steps_are : n ≡ min (reading_steps b) MAX_STEPS

twice : (b : List ℕ) (t : Tree) (n : ℕ) → canonical_tree b ≡ Some t → n ≡ min (2 * check_steps b) MAX_STEPS →
    n ≡ min (reading_steps b) MAX_STEPS
twice b t n is h = rw is h

pub told : {V : Type 0} (f : Tree → V) (b : List ℕ) (m : V) (first start middle new : Reading) → CursorAgreesWithCheck b →
    Accepted b first → start ≡ cursor_at_start b first.steps → Reads f 4 m start middle → HasNoByteLeft middle new →
    Told f b m new.steps
told f b m first start middle new w a from h e =
    let k = subst (λ x. Reads f 4 m x middle) from h in
    let t : ReadsTree b first.steps k.0 new = w.passed k.0 first.steps middle new k.1 e in
    record {
      tree = k.0;
      tree_is = t.tree_is;
      value_is = k.2;
      steps_are = twice b k.0 new.steps t.tree_is (omega (arith, a.steps_are, ap steps_at t.moved));
    }

-- ---- a message is refused with the status of its fault

abbrev pub refused_by : {A : Type 0} → Option RequestFault → A → Result A ℕ
refused_by None asked = Ok asked
refused_by (Some fault) asked = Err (status_of fault)

make_tests : {A : Type 0} (asked : A) (h u : ℕ)
    (typed hash rp user given whole listed len user_len pin es256 uv up enterprise : Bool) →
    if_all_hold
    ((true, 0x12) ∷ (typed, 0x11) ∷ (hash && rp && user && given && whole && listed, 0x14) ∷ (len && user_len, 0x03)
    ∷ (pin, 0x02) ∷ (es256, 0x26) ∷ (uv && up, 0x2c) ∷ (enterprise, 0x02) ∷ []) asked
    ≡ refused_by
    (or_first
    ((typed, because.WrongType) ∷ (hash, because.Missing 0x01 0x01) ∷ (rp, because.Missing 0x01 0x02)
    ∷ (user, because.Missing 0x01 0x03) ∷ [])
    (or_first
    ((given, because.Missing 0x01 0x04) ∷ (whole, because.EntryNotWhole 0x01 0x04) ∷ (listed, because.EntryNotWhole 0x01 0x05)
    ∷ (len, because.HashLength h) ∷ (user_len, because.UserIdLength u) ∷ (pin, because.PinUvAuthParam)
    ∷ (es256, because.NoAlgorithm) ∷ (uv, because.UvOption) ∷ (up, because.UpOption)
    ∷ (enterprise, because.EnterpriseAttestation) ∷ []) None)) asked
make_tests asked h u false _ _ _ _ _ _ _ _ _ _ _ _ _ = refl
make_tests asked h u true false _ _ _ _ _ _ _ _ _ _ _ _ = refl
make_tests asked h u true true false _ _ _ _ _ _ _ _ _ _ _ = refl
make_tests asked h u true true true false _ _ _ _ _ _ _ _ _ _ = refl
make_tests asked h u true true true true false _ _ _ _ _ _ _ _ _ = refl
make_tests asked h u true true true true true false _ _ _ _ _ _ _ _ = refl
make_tests asked h u true true true true true true false _ _ _ _ _ _ _ = refl
make_tests asked h u true true true true true true true false _ _ _ _ _ _ = refl
make_tests asked h u true true true true true true true true false _ _ _ _ _ = refl
make_tests asked h u true true true true true true true true true false _ _ _ _ = refl
make_tests asked h u true true true true true true true true true true false _ _ _ = refl
make_tests asked h u true true true true true true true true true true true false _ _ = refl
make_tests asked h u true true true true true true true true true true true true false _ = refl
make_tests asked h u true true true true true true true true true true true true true false = refl
make_tests asked h u true true true true true true true true true true true true true true = refl

assertion_tests : {A : Type 0} (asked : A) (h : ℕ) (typed rp hash listed len pin uv rk : Bool) →
    if_all_hold
    ((true, 0x12) ∷ (typed, 0x11) ∷ (rp && hash && listed, 0x14) ∷ (len, 0x03) ∷ (pin, 0x02) ∷ (uv, 0x2c)
    ∷ (rk, 0x2b) ∷ []) asked
    ≡ refused_by
    (or_first
    ((typed, because.WrongType) ∷ (rp, because.Missing 0x02 0x01) ∷ (hash, because.Missing 0x02 0x02)
    ∷ (listed, because.EntryNotWhole 0x02 0x03) ∷ (len, because.HashLength h) ∷ (pin, because.PinUvAuthParam)
    ∷ (uv, because.UvOption) ∷ (rk, because.RkOption) ∷ []) None) asked
assertion_tests asked h false _ _ _ _ _ _ _ = refl
assertion_tests asked h true false _ _ _ _ _ _ = refl
assertion_tests asked h true true false _ _ _ _ _ = refl
assertion_tests asked h true true true false _ _ _ _ = refl
assertion_tests asked h true true true true false _ _ _ = refl
assertion_tests asked h true true true true true false _ _ = refl
assertion_tests asked h true true true true true true false _ = refl
assertion_tests asked h true true true true true true true false = refl
assertion_tests asked h true true true true true true true true = refl

abbrev make_asked : MakeParameters → ParsedRequest
make_asked m = MakeCredential (unwrap_or m.client_data_hash []) (unwrap_or m.rp_id []) (unwrap_or m.user.id [])
    (unwrap_or m.user.name []) (unwrap_or m.options.rk false) m.exclude_list.entries

abbrev assertion_asked : AssertionParameters → ParsedRequest
assertion_asked a = GetAssertion (unwrap_or a.client_data_hash []) (unwrap_or a.rp_id []) a.allow_list.entries
    (unwrap_or a.options.up true)

pub make_refused : (typed : Bool) (m : MakeParameters) (fault : RequestFault) → make_fault typed m ≡ Some fault →
    validated_make true typed m ≡ Err (status_of fault)
make_refused typed m fault is =
    make_tests (make_asked m)
    (length (unwrap_or m.client_data_hash [])) (length (unwrap_or m.user.id [])) typed (is_some m.client_data_hash)
    (is_some m.rp_id) (is_some m.user.id) m.has_parameters m.parameters.is_whole m.exclude_list.is_whole
    (length (unwrap_or m.client_data_hash []) == 32) (nat_le (length (unwrap_or m.user.id [])) 64)
    (is_none m.pin_uv_auth_param) m.parameters.has_es256 (not (unwrap_or m.options.uv false))
    (unwrap_or m.options.up true) (is_none m.enterprise_attestation) ∙ ap (λ f. refused_by f (make_asked m)) is

pub assertion_refused : (typed : Bool) (a : AssertionParameters) (fault : RequestFault) →
    assertion_fault typed a ≡ Some fault → validated_assertion true typed a ≡ Err (status_of fault)
assertion_refused typed a fault is =
    assertion_tests (assertion_asked a) (length (unwrap_or a.client_data_hash [])) typed (is_some a.rp_id)
    (is_some a.client_data_hash) a.allow_list.is_whole (length (unwrap_or a.client_data_hash []) == 32)
    (is_none a.pin_uv_auth_param) (not (unwrap_or a.options.uv false)) (is_none a.options.rk)
    ∙ ap (λ f. refused_by f (assertion_asked a)) is

-- Of a whole tree it is the first check that it fails.
pub checked_whole : (o : Outcome) (top : Tree) (checked : Option Tree → Option RequestFault) →
    whole_tree o ≡ Some top → fault_of o checked ≡ checked (Some top)
checked_whole (Whole t) top checked is = ap checked is
checked_whole (Longer t) top checked is = absurd cc
checked_whole (Stopped os kind) top checked is = absurd cc
