-- From one call of a cursor to the next: skipping items, and collecting maps and arrays.
use Rattle.std.proofs.lemmas.Bool.Decides.{nat_tests}
use Rattle.std.proofs.Common.{rules, ◌≡◌, ℕ, suc, ◌+◌, max, List, [], ◌∷◌, ◌++◌, length, Option, Some, None, refl}
use Rattle.std.proofs.Common.{arith, sym, ap, subst, ◌∙◌, append_assoc, length-append, ◌-◌, ◌<◌, Bool, true}
use Rattle.ctap_cbor.specs.declared.fault.Kind.{Kind}
use Rattle.ctap_cbor.specs.Grammar.{head}
use Rattle.ctap_cbor.specs.Grammar.{AreLawfulPairs, encode_tree, encode_trees, encode_pairs, encode_scalar, IsKey}
use Rattle.ctap_cbor.specs.Grammar.{IsAbove, KeysAscend, IsLawful, AreLawful}
use Rattle.ctap_cbor.specs.Tree.{push, push_pair, Tree, Plain, Trees, no_trees, tree, Pairs, no_pairs, pair, Scalar}
use Rattle.ctap_cbor.specs.Tree.{depth, depth_all, depth_pairs, count, count_pairs, Array, Map}
use Rattle.ctap_cbor.specs.Items.{AKey, first_faults, fault, AnItem}
use Rattle.ctap_cbor.specs.Items.{OpensArray, OpensMap, Part, One}
use Rattle.ctap_cbor.specs.Outcome.{later_in_pairs, later_key, InArray, AtKey, AtValue, open_encodings, last_key}
use Rattle.ctap_cbor.specs.Outcome.{later_keys, later_in_all, later_in_map}
use Rattle.ctap_cbor.specs.Reading.{Reading, rest_of, advance, comparison_steps, TakesItem, TakesKey, Passes, Fails}
use Rattle.ctap_cbor.specs.Reading.{PassesAll, FailsInArray, PassesPairs, FailsAtKey, FailsAtValue, HasItemError}
use Rattle.ctap_cbor.specs.Reading.{PassesHead, FailsInPairs, GivesKey}
use Rattle.std.proofs.lemmas.Grind.{common_steps}
use Rattle.ctap_cbor.specs.declared.item.Item.{Item}
use Rattle.ctap_cbor.specs.Views.{to_part}
use Rattle.std.specs.Prelude.{◌&&◌}
use Rattle.ctap_cbor.specs.Reading.{AddsPair, AddsEntry, AddsPairs, AddsEntries, ReadsMap, ReadsArray}
use Rattle.ctap_cbor.specs.declared.item.Item.TheVariants as item

-- ---- from one call of a cursor to the next, and from the items of an array or the pairs of a map to the whole

abbrev pub at : List ℕ → ℕ → ℕ → Reading
at b p s = record { bytes = b; place = p; steps = s }

pub advance_zero : (r : Reading) → r ≡ advance r 0 0
advance_zero r = search (rules, arith)

-- two moves are one
pub moves : (a b c : Reading) (n s m t k u : ℕ) → b ≡ advance a n s → c ≡ advance b m t → n + m ≡ k → s + t ≡ u →
    c ≡ advance a k u
moves a b c n s m t k u e f len sum = search (rules, arith)

-- ---- one more at the end

record Pushed (ts : Trees) (u : Tree) (vs : Trees) : Type 0 where
  spelled : encode_trees vs ≡ encode_trees ts ++ encode_tree u
  number : count vs ≡ count ts + 1
  flat : depth_all vs ≡ max (depth_all ts) (depth u)
  lawful : AreLawful ts → IsLawful u → AreLawful vs
  later : later_in_all vs ≡ later_in_all ts + later_keys u

pushed : (ts : Trees) (u : Tree) → Pushed ts u (push ts u)
unfolding push
pushed no_trees u = search (rules, arith)
pushed (tree t ts) u = search (rules, arith, append_assoc, pushed ts u)

record PushedPair (last : Option (List ℕ)) (ps : Pairs) (k v : Tree) (qs : Pairs) : Type 0 where
  spelled : encode_pairs qs ≡ encode_pairs ps ++ (encode_tree k ++ encode_tree v)
  number : count_pairs qs ≡ count_pairs ps + 1
  flat : depth_pairs qs ≡ max (depth_pairs ps) (max (depth k) (depth v))
  lawful : AreLawfulPairs ps → IsLawful k → IsLawful v → AreLawfulPairs qs
  rises : KeysAscend last ps → IsKey k → IsAbove (last_key last ps) (encode_tree k) → KeysAscend last qs
  last_is : last_key last qs ≡ Some (encode_tree k)
  later : later_in_pairs qs ≡ later_in_pairs ps + (length (encode_tree k) + later_keys v)

pushed_pair : (last : Option (List ℕ)) (ps : Pairs) (k v : Tree) → PushedPair last ps k v (push_pair ps k v)
unfolding push_pair
pushed_pair last no_pairs k v = search (rules, arith)
pushed_pair last (pair j u ps) k v = search (rules, arith, append_assoc, pushed_pair (Some (encode_tree j)) ps k v)

-- the first key of a map isn't counted
later_pushed : (ps : Pairs) (k v : Tree) →
    later_in_map (push_pair ps k v) ≡ later_in_map ps + later_key ps k + later_keys v
unfolding push_pair
later_pushed no_pairs k v = omega arith
later_pushed (pair j u ps) k v = omega (arith, (pushed_pair None ps k v).later)

-- a map has a last key unless it is empty
compared_some : (x : List ℕ) (ps : Pairs) (n : ℕ) → comparison_steps (last_key (Some x) ps) n ≡ n
compared_some x no_pairs n = refl
compared_some x (pair k v ps) n = compared_some (encode_tree k) ps n

compared_is : (ps : Pairs) (k : Tree) → comparison_steps (last_key None ps) (length (encode_tree k)) ≡ later_key ps k
compared_is no_pairs k = refl
compared_is (pair j u ps) k = compared_some (encode_tree j) ps (length (encode_tree k))

-- ---- arrays

pub passes_none : (levels : ℕ) (r : Reading) → PassesAll levels 0 no_trees r r
passes_none levels r = record { lawful = tt; flat = omega arith; number = refl; spelled = refl; moved = advance_zero r }

pub passes_more : (levels n : ℕ) (ts : Trees) (u : Tree) (a b c : Reading) → PassesAll levels n ts a b →
    Passes levels u b c →
    PassesAll levels (n + 1) (push ts u) a c
passes_more levels n ts u a b c h k =
    let p = pushed ts u in
    record {
      lawful = p.lawful h.lawful k.lawful;
      flat = omega (arith, p.flat, h.flat, k.flat);
      number = omega (arith, p.number, h.number);
      spelled = h.spelled ∙ ap (λ x. encode_trees ts ++ x) k.spelled ∙ sym (append_assoc (encode_trees ts) (encode_tree u) (rest_of c))
          ∙ ap (λ x. x ++ rest_of c) (sym p.spelled);
      moved = moves a b c _ _ _ _ _ _ h.moved k.moved
          (sym (length-append (encode_trees ts) (encode_tree u)) ∙ ap length (sym p.spelled))
          (omega (arith, ap length p.spelled, length-append (encode_trees ts) (encode_tree u), p.later));
    }

pub array_halts : (levels n : ℕ) (a b c : Reading) (at : ℕ) (kind : Kind) → TakesItem (suc levels) a b (OpensArray n) →
    FailsInArray levels n b c at kind → Fails (suc levels) a c at kind
array_halts levels n a b c at kind t h =
    let ts : Trees = h.done in
    let hh = h.halts in
    let len : length (head 4 n ++ encode_trees ts ++ open_encodings hh.os) ≡ length (head 4 n) + length (encode_trees ts) + length
    (open_encodings hh.os) = omega
    (arith, length-append (head 4 n ++ encode_trees ts) (open_encodings hh.os), length-append (head 4 n) (encode_trees ts)) in
    record {
      os = InArray n ts ∷ hh.os;
      tail = hh.tail;
      halts = ((t.suits.1, omega (arith, h.fewer, h.passes.number), h.passes.lawful, h.passes.flat), tt, hh.halts);
      spelled = t.spelled ∙ ap (λ x. head 4 n ++ x) (h.passes.spelled ∙ ap (λ x. encode_trees ts ++ x) hh.spelled)
          ∙ sym (append_assoc (head 4 n) (encode_trees ts) (open_encodings hh.os ++ hh.tail))
          ∙ sym (append_assoc (head 4 n ++ encode_trees ts) (open_encodings hh.os) hh.tail);
      place = omega
          (arith, len, hh.place, ap (λ (r : Reading). r.place) h.passes.moved, ap (λ (r : Reading). r.place) t.moved);
      moved = moves a h.between c _ _ _ _ _ _ (moves a b h.between _ _ _ _ _ _ t.moved h.passes.moved refl refl)
          hh.moved (omega (arith, len)) (omega (arith, len));
    }

-- ---- maps

pub key_levels : (last : Option (List ℕ)) (levels : ℕ) (bytes : List ℕ) →
    fault levels (AKey last) bytes ≡ fault 0 (AKey last) bytes
unfolding first_faults
key_levels last levels bytes = grind (arith, nat_tests)

pub pairs_none : (levels : ℕ) (r : Reading) → PassesPairs levels 0 no_pairs None r r
pairs_none levels r = grind arith

pub pairs_more : (levels n : ℕ) (ps : Pairs) (u : Tree) (last : Option (List ℕ)) (a b c d : Reading) (s : Scalar) →
    PassesPairs levels n ps last a b → TakesKey last b c s → Passes levels u c d →
    PassesPairs levels (n + 1) (push_pair ps (Plain s) u) (Some (encode_scalar s)) a d
pairs_more levels n ps u last a b c d s h t k =
    let p = pushed_pair None ps (Plain s) u in
    let len : length (encode_pairs (push_pair ps (Plain s) u)) ≡ length (encode_pairs ps) +
    (length (encode_scalar s) + length (encode_tree u)) =
    omega (arith, ap length p.spelled, length-append (encode_pairs ps) (encode_scalar s ++ encode_tree u), length-append (encode_scalar s) (encode_tree u)) in
    let one : comparison_steps last (length (encode_scalar s)) ≡ later_key ps (Plain s) =
    ap (λ x. comparison_steps x (length (encode_scalar s))) h.last_is ∙ compared_is ps (Plain s) in
    record {
      rises = p.rises h.rises t.suits.1 (subst (λ x. IsAbove x (encode_scalar s)) h.last_is t.suits.2);
      lawful = p.lawful h.lawful t.suits.0 k.lawful;
      flat = omega (arith, p.flat, h.flat, k.flat);
      number = omega (arith, p.number, h.number);
      last_is = sym p.last_is;
      spelled = h.spelled ∙ ap (λ x. encode_pairs ps ++ x) (t.spelled ∙ ap (λ x. encode_scalar s ++ x) k.spelled
          ∙ sym (append_assoc (encode_scalar s) (encode_tree u) (rest_of d)))
          ∙ sym (append_assoc (encode_pairs ps) (encode_scalar s ++ encode_tree u) (rest_of d))
          ∙ ap (λ x. x ++ rest_of d) (sym p.spelled);
      moved = moves a c d _ _ _ _ _ _ (moves a b c _ _ _ _ _ _ h.moved t.moved refl refl) k.moved (omega (arith, len))
          (omega (arith, len, later_pushed ps (Plain s) u, one));
    }

pub key_halts : (levels n : ℕ) (a b c : Reading) (at : ℕ) (kind : Kind) → TakesItem (suc levels) a b (OpensMap n) →
    FailsAtKey levels n b c at kind → Fails (suc levels) a c at kind
key_halts levels n a b c at kind t h =
    let ps : Pairs = h.done in
    let len : length (head 5 n ++ encode_pairs ps ++ []) ≡ length (head 5 n) + length (encode_pairs ps) =
    omega (arith, length-append (head 5 n ++ encode_pairs ps) [], length-append (head 5 n) (encode_pairs ps)) in
    record {
      os = AtKey n ps ∷ [];
      tail = rest_of h.between;
      halts = ((t.suits.1, omega (arith, h.fewer, h.passes.number), h.passes.rises, h.passes.lawful, h.passes.flat), tt, key_levels (last_key None ps) levels (rest_of h.between) ∙ ap (λ x. fault 0 (AKey x) (rest_of h.between)) (sym h.passes.last_is) ∙ h.refuses.is);
      spelled = t.spelled ∙ ap (λ x. head 5 n ++ x) h.passes.spelled
          ∙ sym (append_assoc (head 5 n) (encode_pairs ps) (rest_of h.between))
          ∙ sym (append_assoc (head 5 n ++ encode_pairs ps) [] (rest_of h.between));
      place = omega (arith, len, h.refuses.place, ap (λ (r : Reading). r.place) h.passes.moved, ap (λ (r : Reading). r.place) t.moved);
      moved = moves a h.between c _ _ _ _ _ _ (moves a b h.between _ _ _ _ _ _ t.moved h.passes.moved refl refl)
          h.refuses.moved (omega (arith, len)) (omega (arith, len));
    }

pub value_halts : (levels n : ℕ) (a b c : Reading) (at : ℕ) (kind : Kind) → TakesItem (suc levels) a b (OpensMap n) →
    FailsAtValue levels n b c at kind → Fails (suc levels) a c at kind
value_halts levels n a b c at kind t h =
    let ps : Pairs = h.done in
    let s : Scalar = h.key in
    let hh = h.halts in
    let k = h.takes in
    let len : length (head 5 n ++ (encode_pairs ps ++ encode_scalar s) ++ open_encodings hh.os) ≡ length (head 5 n) + length
    (encode_pairs ps) + length (encode_scalar s) + length (open_encodings hh.os) =
    omega (arith, length-append (head 5 n ++ (encode_pairs ps ++ encode_scalar s)) (open_encodings hh.os), length-append (head 5 n) (encode_pairs ps ++ encode_scalar s), length-append (encode_pairs ps) (encode_scalar s)) in
    let one : comparison_steps h.last (length (encode_scalar s)) ≡ later_key ps (Plain s) =
    ap (λ x. comparison_steps x (length (encode_scalar s))) h.passes.last_is ∙ compared_is ps (Plain s) in
    record {
      os = AtValue n ps (Plain s) ∷ hh.os;
      tail = hh.tail;
      halts = ((t.suits.1, omega (arith, h.fewer, h.passes.number), h.passes.rises, h.passes.lawful, h.passes.flat, k.suits.1, k.suits.0, subst (λ x. IsAbove x (encode_scalar s)) h.passes.last_is k.suits.2), tt, hh.halts);
      spelled = t.spelled
          ∙ ap (λ x. head 5 n ++ x) (h.passes.spelled
          ∙ ap (λ x. encode_pairs ps ++ x) (k.spelled ∙ ap (λ x. encode_scalar s ++ x) hh.spelled)
          ∙ sym (append_assoc (encode_pairs ps) (encode_scalar s) (open_encodings hh.os ++ hh.tail)))
          ∙ sym (append_assoc (head 5 n) (encode_pairs ps ++ encode_scalar s) (open_encodings hh.os ++ hh.tail))
          ∙ sym (append_assoc (head 5 n ++ (encode_pairs ps ++ encode_scalar s)) (open_encodings hh.os) hh.tail);
      place = omega (arith, len, hh.place, ap (λ (r : Reading). r.place) k.moved, ap (λ (r : Reading). r.place) h.passes.moved, ap (λ (r : Reading). r.place) t.moved);
      moved = moves a h.at_value c _ _ _ _ _ _
          (moves a h.between h.at_value _ _ _ _ _ _ (moves a b h.between _ _ _ _ _ _ t.moved h.passes.moved refl refl)
          k.moved refl refl) hh.moved (omega (arith, len)) (omega (arith, len, one));
    }

-- ---- skipping, by the level at which an item stands

deeper : (level : ℕ) → 0 < 5 - level → 5 - level ≡ suc (5 - (level + 1))
deeper level h = omega arith

pub array_then : (level n : ℕ) (ts : Trees) (a b c : Reading) → TakesItem (5 - level) a b (OpensArray n) →
    PassesAll (5 - (level + 1)) n ts b c → Passes (5 - level) (Array ts) a c
array_then level n ts a b c t h = grind (arith, common_steps)

pub array_stops : (level n : ℕ) (a b c : Reading) (at : ℕ) (kind : Kind) → TakesItem (5 - level) a b (OpensArray n) →
    FailsInArray (5 - (level + 1)) n b c at kind → Fails (5 - level) a c at kind
array_stops level n a b c at kind t h = grind (arith, array_halts, deeper)

pub map_then : (level n : ℕ) (ps : Pairs) (last : Option (List ℕ)) (a b c : Reading) →
    TakesItem (5 - level) a b (OpensMap n) → PassesPairs (5 - (level + 1)) n ps last b c → Passes (5 - level) (Map ps) a c
map_then level n ps last a b c t h = grind (arith, common_steps)

pub map_stops : (level n : ℕ) (a b c : Reading) (at : ℕ) (kind : Kind) → TakesItem (5 - level) a b (OpensMap n) →
    FailsInPairs (5 - (level + 1)) n b c at kind → Fails (5 - level) a c at kind
map_stops level n a b c at kind t h = grind (arith, deeper, key_halts, value_halts)

pub one_passes : (levels : ℕ) (a b : Reading) (s : Scalar) → TakesItem levels a b (One s) → Passes levels (Plain s) a b
one_passes levels a b s t = search (rules, arith)

-- what is no array and no map was passed whole
pub plain_passes : (levels : ℕ) (a b : Reading) (i : Item) → ((n : ℕ) → i ≡ item.Array n → ⊥) →
    ((n : ℕ) → i ≡ item.Map n → ⊥) → TakesItem levels a b (to_part i) → PassesHead levels (to_part i) a b
plain_passes levels a b (item.Array n) no-array no-map t = absurd (no-array n refl)
plain_passes levels a b (item.Map n) no-array no-map t = absurd (no-map n refl)
plain_passes levels a b (item.Int i) no-array no-map t = (_, one_passes levels a b _ t, refl)
plain_passes levels a b (item.Bytes s) no-array no-map t = (_, one_passes levels a b _ t, refl)
plain_passes levels a b (item.Text s) no-array no-map t = (_, one_passes levels a b _ t, refl)
plain_passes levels a b (item.Bool f) no-array no-map t = (_, one_passes levels a b _ t, refl)
plain_passes levels a b item.Null no-array no-map t = (_, one_passes levels a b _ t, refl)

pub array_whole : (level n : ℕ) (ts : Trees) (a b c : Reading) → TakesItem (5 - level) a b (OpensArray n) →
    PassesAll (5 - (level + 1)) n ts b c → PassesHead (5 - level) (OpensArray n) a c
array_whole level n ts a b c t h = (Array ts, array_then level n ts a b c t h, ap OpensArray (sym h.number))

pub map_whole : (level n : ℕ) (ps : Pairs) (last : Option (List ℕ)) (a b c : Reading) → TakesItem (5 - level) a b (OpensMap n) →
    PassesPairs (5 - (level + 1)) n ps last b c → PassesHead (5 - level) (OpensMap n) a c
map_whole level n ps last a b c t h = (Map ps, map_then level n ps last a b c t h, ap OpensMap (sym h.number))

-- an item that is refused at once
pub refused_halts : (levels : ℕ) (a b : Reading) (at : ℕ) (kind : Kind) → HasItemError levels AnItem a b at kind →
    Fails levels a b at kind
refused_halts levels a b at kind h = search (rules, arith)

-- one more pair, by the key that was given
pub given_more : (levels n : ℕ) (ps : Pairs) (u : Tree) (last : Option (List ℕ)) (a b c d : Reading) (part : Part)
    (bytes : List ℕ) → PassesPairs levels n ps last a b → (k : GivesKey last b c part bytes) → Passes levels u c d →
    PassesPairs levels (n + 1) (push_pair ps (Plain k.key) u) (Some bytes) a d
given_more levels n ps u last a b c d part bytes h k p =
    subst (λ x. PassesPairs levels (n + 1) (push_pair ps (Plain k.key) u) (Some x) a d) (sym k.bytes_is)
    (pairs_more levels n ps u last a b c d k.key h k.takes p)

pub value_stops : (levels n i : ℕ) (ps : Pairs) (last : Option (List ℕ)) (a b c d : Reading) (part : Part)
    (bytes : List ℕ) (at : ℕ) (kind : Kind) → i < n → PassesPairs levels i ps last a b → GivesKey last b c part bytes →
    Fails levels c d at kind → FailsInPairs levels n a d at kind
value_stops levels n i ps last a b c d part bytes at kind lt h k p = search (rules, arith)

pub key_stops : (levels n i : ℕ) (ps : Pairs) (last : Option (List ℕ)) (a b c : Reading) (at : ℕ) (kind : Kind) →
    i < n →
    PassesPairs levels i ps last a b → HasItemError 0 (AKey last) b c at kind → FailsInPairs levels n a c at kind
key_stops levels n i ps last a b c at kind lt h k = search (rules, arith)

pub item_stops : (levels n i : ℕ) (ts : Trees) (a b c : Reading) (at : ℕ) (kind : Kind) → i < n →
    PassesAll levels i ts a b → Fails levels b c at kind → FailsInArray levels n a c at kind
item_stops levels n i ts a b c at kind lt h k = search (rules, arith)

-- ---- what is collected: one pair or one entry more, and from these to the map or the array

pub adds_none : {M : Type 0} (H : M → Bool → Pairs → Type 0) (levels : ℕ) (m : M) (r : Reading) →
    AddsPairs H levels 0 None true m m r r
adds_none H levels m r = (no_pairs, pairs_none levels r, λ h. h)

pub adds_more : {M : Type 0} (H : M → Bool → Pairs → Type 0) (levels n : ℕ) (last : Option (List ℕ))
    (ok taken both : Bool) (x y z : M) (a b c d : Reading) (part : Part) (bytes : List ℕ)
    → AddsPairs H levels n last ok x y a b → GivesKey last b c part bytes → AddsPair H levels part taken y z c d →
    both ≡ (ok && taken) → AddsPairs H levels (n + 1) (Some bytes) both x z a d
adds_more H levels n last ok taken both x y z a b c d part bytes h k s is =
    (push_pair h.0 (Plain k.key) s.0, given_more levels n h.0 s.0 last a b c d part bytes h.1 k s.1, λ e. subst (λ r. H z r (push_pair h.0 (Plain k.key) s.0)) (sym is) (s.2 ok h.0 k.key k.part_is (h.2 e)))

pub value_ends : {M : Type 0} (H : M → Bool → Pairs → Type 0) (levels n i : ℕ) (last : Option (List ℕ)) (ok : Bool)
    (x y : M) (a b c d : Reading) (part : Part) (bytes : List ℕ) (at : ℕ) (kind : Kind)
    → i < n → AddsPairs H levels i last ok x y a b → GivesKey last b c part bytes → Fails levels c d at kind →
    FailsInPairs levels n a d at kind
value_ends H levels n i last ok x y a b c d part bytes at kind lt h k p = grind arith

pub all_none : {M : Type 0} (H : M → Bool → Trees → Type 0) (levels : ℕ) (m : M) (r : Reading) →
    AddsEntries H levels 0 true m m r r
all_none H levels m r = (no_trees, passes_none levels r, λ h. h)

pub all_more : {M : Type 0} (H : M → Bool → Trees → Type 0) (levels n : ℕ) (ok taken both : Bool) (x y z : M)
    (a b c : Reading)
    → AddsEntries H levels n ok x y a b → AddsEntry H levels taken y z b c → both ≡ (ok && taken) →
    AddsEntries H levels (n + 1) both x z a c
all_more H levels n ok taken both x y z a b c h s is =
    (push h.0 s.0, passes_more levels n h.0 s.0 a b c h.1 s.1, λ e. subst (λ r. H z r (push h.0 s.0)) (sym is) (s.2 ok h.0 (h.2 e)))

pub map_read : {M : Type 0} (H : M → Bool → Pairs → Type 0) (level n : ℕ) (last : Option (List ℕ)) (ok : Bool) (x y : M)
    (a b c : Reading)
    → TakesItem (5 - level) a b (OpensMap n) → AddsPairs H (5 - (level + 1)) n last ok x y b c →
    ReadsMap H (5 - level) ok x y a c
map_read H level n last ok x y a b c t h = (Map h.0, map_then level n h.0 last a b c t h.1, h.2)

pub array_read : {M : Type 0} (H : M → Bool → Trees → Type 0) (level n : ℕ) (ok : Bool) (x y : M) (a b c : Reading)
    → TakesItem (5 - level) a b (OpensArray n) → AddsEntries H (5 - (level + 1)) n ok x y b c →
    ReadsArray H (5 - level) ok x y a c
array_read H level n ok x y a b c t h = (Array h.0, array_then level n h.0 a b c t h.1, h.2)
