-- From one item or pair that is written to the next, by what is left to be written.
use Rattle.std.proofs.lemmas.Grind.{common_steps}
use Rattle.std.proofs.lemmas.Slice.{drop-put_mid}
use Rattle.std.proofs.lemmas.List.{drop-drop, length-take-le, at_drop_more, drop_at, take-append-le, drop-append-le}
use Rattle.std.proofs.lemmas.List.{drop_all}
use Rattle.std.proofs.Common.{◌≡◌, ℕ, ◌+◌, ◌≤◌, ◌<◌, nat_lt, true, false, List, ◌++◌, length, take, drop, arith}
use Rattle.std.proofs.Common.{length-drop, rules, ◌-◌, ◌^◌, [], ◌∷◌, get_or, Option, Some, None, Result, refl, sym}
use Rattle.std.proofs.Common.{ap, ◌∙◌, append_assoc, length-append}
use borrow.Rule.Slice.PartMut.{put_mid}
use Rattle.ctap_cbor.specs.declared.sink.Sink.{Sink}
use Rattle.ctap_cbor.specs.Writing.{space_of, Appends}
use Rattle.std.proofs.lemmas.Bool.{ne_eqb}
use Rattle.std.specs.Prelude.{IfErr}
use Rattle.std.specs.Option.{ForSome}
use Rattle.ctap_cbor.specs.declared.encode.Span.{Span}
use Rattle.ctap_cbor.specs.declared.value.Value.{Value}
use Rattle.ctap_cbor.specs.declared.fault.Kind.{Kind}
use Rattle.ctap_cbor.specs.declared.fault.Kind.TheVariants.{Memory}
use Rattle.ctap_cbor.specs.Tree.{Tree, Array, Map, Trees, no_trees, tree, Pairs, pair, depth_all, depth_pairs, count}
use Rattle.ctap_cbor.specs.Tree.{count_pairs}
use Rattle.ctap_cbor.specs.Grammar.{head}
use Rattle.ctap_cbor.specs.Writing.{previous_encoding, Extends, Writes, WritesAll, WritesPairs, WritesKey, FailsWith}
use Rattle.ctap_cbor.specs.Writing.{IsShort, encoding_at}
use Rattle.ctap_cbor.specs.Items.{AKey, is_above}
use Rattle.ctap_cbor.specs.Grammar.{encode_tree, encode_trees, encode_pairs, KeysAscend, AreLawful, AreLawfulPairs}
use Rattle.ctap_cbor.specs.Items.{own_refusal, refusal, refusal_all, refusal_pairs}
use Rattle.ctap_cbor.specs.Values.{to_tree, to_trees, to_pairs}

-- ---- bytes that are written after what a sink holds

pub appended : (old new : Sink) (bytes : List ℕ) → new.len ≡ old.len + length bytes →
    length new.buffer.now ≡ length old.buffer.now → old.len + length bytes ≤ length old.buffer.now →
    take new.len new.buffer.now ≡ take old.len old.buffer.now ++ bytes →
    drop new.len new.buffer.now ≡ drop new.len old.buffer.now → Appends old new bytes (length bytes)
appended old new bytes len size levels front rear = grind (arith, drop-drop, length-take-le)

-- the same, by the part of the buffer that they were copied into
pub spliced : (old new : Sink) (bytes part : List ℕ) (k : ℕ) → part ≡ bytes → k ≡ length bytes →
    new.len ≡ old.len + length bytes → new.buffer.now ≡ put_mid old.len k old.buffer.now part →
    length bytes ≤ space_of old → Appends old new bytes (length bytes)
spliced old new bytes part k same size len is levels = grind (arith, common_steps, drop-put_mid)

-- ---- tests of a head's argument

pub test_true : (a b : ℕ) → a < b → nat_lt a b ≡ true
test_true a b h = grind arith

pub test_false : (a b : ℕ) → b ≤ a → nat_lt a b ≡ false
test_false a b h = grind arith

-- ---- from one item or pair that is written to the next, by what is left to be written

pub goes_on : (a b c : List ℕ) → Extends a b → Extends b c → Extends a c
goes_on a b c h k = (h.0 ++ k.0, k.1 ∙ ap (λ x. x ++ k.0) h.1 ∙ append_assoc a h.0 k.0)

-- ---- arrays

-- these items are left of all
pub record ItemsLeft (levels : ℕ) (all rest : Trees) (start now : List ℕ) : Type 0 where
  pub spelled : now ++ encode_trees rest ≡ start ++ encode_trees all
  pub refused : refusal_all levels rest ≡ refusal_all levels all
  pub lawful : AreLawful rest → AreLawful all
  pub flat : depth_all rest ≤ levels → depth_all all ≤ levels
  pub extends : Extends start now

items_end : (levels : ℕ) (all : Trees) (start now : List ℕ) → ItemsLeft levels all no_trees start now →
    WritesAll levels all start now
items_end levels all start now h = search (rules, arith)

-- ---- maps

-- these pairs are left of all, after the last key
pub record PairsLeft (levels : ℕ) (all rest : Pairs) (last : Option (List ℕ)) (start now : List ℕ) : Type 0 where
  pub spelled : now ++ encode_pairs rest ≡ start ++ encode_pairs all
  pub refused : refusal_pairs levels last rest ≡ refusal_pairs levels None all
  pub rises : KeysAscend last rest → KeysAscend None all
  pub lawful : AreLawfulPairs rest → AreLawfulPairs all
  pub flat : depth_pairs rest ≤ levels → depth_pairs all ≤ levels
  pub extends : Extends start now

pub value_gives_up : (levels : ℕ) (all rest : Pairs) (k v : Tree) (last : Option (List ℕ)) (start a b c : List ℕ)
    (kind : Kind) → PairsLeft levels all (pair k v rest) last start a → WritesKey k a b →
    is_above (AKey last) (encode_tree k) ≡ true → FailsWith kind (refusal levels v) b c →
    FailsWith kind (refusal_pairs levels None all) start c
value_gives_up levels all rest k v last start a b c kind h w above g = grind (arith, common_steps)

-- ---- at one place of a list of values

drop_item : {X : Type 0} (xs : List X) (i : ℕ) (x : X) → i < length xs → x ≡ get_or xs i x →
    drop i xs ≡ x ∷ drop (i + 1) xs
drop_item xs i x lt is = at_drop_more (λ l. l) xs i x lt ∙ ap (λ y. y ∷ drop (i + 1) xs) (sym is)

items_here : (levels : ℕ) (vs : List Value) (i : ℕ) (v : Value) (start a : List ℕ) → i < length vs → v ≡ get_or vs i v →
    ItemsLeft levels (to_trees vs) (to_trees (drop i vs)) start a →
    ItemsLeft levels (to_trees vs) (tree (to_tree v) (to_trees (drop (i + 1) vs))) start a
items_here levels vs i v start a lt is h = search (rules, arith, drop_item)

pub items_done : (levels : ℕ) (vs : List Value) (i : ℕ) (start now : List ℕ) → length vs ≤ i →
    ItemsLeft levels (to_trees vs) (to_trees (drop i vs)) start now → WritesAll levels (to_trees vs) start now
items_done levels vs i start now all h = grind (arith, drop_all, items_end)

pub item_stops_here : (levels : ℕ) (vs : List Value) (i : ℕ) (v : Value) (start a b : List ℕ) (kind : Kind) →
    i < length vs → v ≡ get_or vs i v → ItemsLeft levels (to_trees vs) (to_trees (drop i vs)) start a →
    FailsWith kind (refusal levels (to_tree v)) a b → FailsWith kind (refusal_all levels (to_trees vs)) start b
item_stops_here levels vs i v start a b kind lt is h g = grind (arith, common_steps)

-- what a span of a list shows stays as the list goes on
last_stays : (out more : List ℕ) (previous : Option Span) →
    ForSome previous (λ s. (s.start ≤ s.end) × (s.end ≤ length out)) →
    previous_encoding (out ++ more) previous ≡ previous_encoding out previous
last_stays out more previous h = grind (arith, drop-append-le, length-drop, take-append-le)

-- the order that was asked is that of the two texts
pub above_here : (a b key : List ℕ) (previous : Option Span) (n : ℕ) →
    ForSome previous (λ s. (s.start ≤ s.end) × (s.end ≤ length a)) → b ≡ a ++ key → n ≡ length a →
    is_above (AKey (previous_encoding b previous)) (drop n b) ≡ is_above (AKey (previous_encoding a previous)) key
above_here a b key previous n h e len = grind (arith, drop_at, last_stays)

pub start_within : (a b out key : List ℕ) (n : ℕ) → n ≡ length a → b ≡ a ++ key → out ≡ b → n ≤ length out
start_within a b out key n first e f = omega (arith, ap length f, ap length e, length-append a key)

-- the span of a key that was written
pub key_span : (a b c key more : List ℕ) (s : Span) → b ≡ a ++ key → c ≡ b ++ more → s.start ≡ length a →
    s.end ≡ length b → encoding_at c s ≡ key
key_span a b c key more s e f first last = grind (arith, common_steps)

-- the span stays within what is written
pub span_within : (a b c key more : List ℕ) (s : Span) → b ≡ a ++ key → c ≡ b ++ more → s.start ≡ length a →
    s.end ≡ length b → ForSome (Some s) (λ x. (x.start ≤ x.end) × (x.end ≤ length c))
span_within a b c key more s e f first last = search (rules, arith, length-append)

pairs_here : (levels : ℕ) (vs : List (Value × Value)) (i : ℕ) (v : Value × Value) (last : Option (List ℕ))
    (start a : List ℕ) → i < length vs → v ≡ get_or vs i v →
    PairsLeft levels (to_pairs vs) (to_pairs (drop i vs)) last start a →
    PairsLeft levels (to_pairs vs) (pair (to_tree v.0) (to_tree v.1) (to_pairs (drop (i + 1) vs))) last start a
pairs_here levels vs i v last start a lt is h = search (rules, arith, drop_item)

pub pairs_done : (levels : ℕ) (vs : List (Value × Value)) (i : ℕ) (last : Option (List ℕ)) (start now : List ℕ) →
    length vs ≤ i → PairsLeft levels (to_pairs vs) (to_pairs (drop i vs)) last start now →
    WritesPairs levels (to_pairs vs) start now
pairs_done levels vs i last start now all h = search (rules, arith, drop_all)

pub key_stops_here : (levels : ℕ) (vs : List (Value × Value)) (i : ℕ) (v : Value × Value) (last : Option (List ℕ))
    (start a b : List ℕ) (kind : Kind) → i < length vs → v ≡ get_or vs i v →
    PairsLeft levels (to_pairs vs) (to_pairs (drop i vs)) last start a →
    FailsWith kind (own_refusal (to_tree v.0)) a b →
    FailsWith kind (refusal_pairs levels None (to_pairs vs)) start b
key_stops_here levels vs i v last start a b kind lt is h g = grind (arith, common_steps)

pub value_stops_here : (levels : ℕ) (vs : List (Value × Value)) (i : ℕ) (v : Value × Value) (last : Option (List ℕ))
    (start a b c : List ℕ) (kind : Kind) → i < length vs → v ≡ get_or vs i v →
    PairsLeft levels (to_pairs vs) (to_pairs (drop i vs)) last start a → WritesKey (to_tree v.0) a b →
    is_above (AKey last) (encode_tree (to_tree v.0)) ≡ true → FailsWith kind (refusal levels (to_tree v.1)) b c →
    FailsWith kind (refusal_pairs levels None (to_pairs vs)) start c
value_stops_here levels vs i v last start a b c kind lt is h w above g = value_gives_up levels (to_pairs vs)
    (to_pairs (drop (i + 1) vs)) (to_tree v.0) (to_tree v.1) last start a b c kind
    (pairs_here levels vs i v last start a lt is h) w above g

pub pair_here : (levels : ℕ) (vs : List (Value × Value)) (i : ℕ) (v : Value × Value) (last : Option (List ℕ))
    (start a b c : List ℕ) (s : Span) → i < length vs → v ≡ get_or vs i v →
    PairsLeft levels (to_pairs vs) (to_pairs (drop i vs)) last start a → WritesKey (to_tree v.0) a b →
    is_above (AKey last) (encode_tree (to_tree v.0)) ≡ true → Writes levels (to_tree v.1) b c → s.start ≡ length a →
    s.end ≡ length b → PairsLeft levels (to_pairs vs) (to_pairs (drop (i + 1) vs)) (previous_encoding c (Some s)) start c
pair_here levels vs i v last start a b c s lt is h w above u first end = grind (arith, common_steps, key_span)

-- ---- after the head of an array or a map

pub count_trees : (vs : List Value) → count (to_trees vs) ≡ length vs
count_trees [] = refl
count_trees (v ∷ vs) = omega (arith, count_trees vs)

pub count_both : (vs : List (Value × Value)) → count_pairs (to_pairs vs) ≡ length vs
count_both [] = refl
count_both (v ∷ vs) = omega (arith, count_both vs)

-- an array was written, or what is inside it wasn't
pub array_written : (levels n : ℕ) (vs : List Value) (old middle new : List ℕ) → (levels ≡ 0 → ⊥) → n ≡ length vs →
    n < 2 ^ 64 → middle ≡ old ++ head 4 n → WritesAll (levels - 1) (to_trees vs) middle new →
    Writes levels (Array (to_trees vs)) old new
array_written levels n vs old middle new some len fits e w = grind (arith, append_assoc, count_trees)

pub array_fails : (levels n : ℕ) (vs : List Value) (old middle new : List ℕ) (kind : Kind) → (levels ≡ 0 → ⊥) →
    middle ≡ old ++ head 4 n → FailsWith kind (refusal_all (levels - 1) (to_trees vs)) middle new →
    FailsWith kind (refusal levels (Array (to_trees vs))) old new
array_fails levels n vs old middle new kind some e g = search (rules, arith, goes_on, ne_eqb)

pub map_written : (levels n : ℕ) (vs : List (Value × Value)) (old middle new : List ℕ) → (levels ≡ 0 → ⊥) →
    n ≡ length vs →
    n < 2 ^ 64 → middle ≡ old ++ head 5 n → WritesPairs (levels - 1) (to_pairs vs) middle new →
    Writes levels (Map (to_pairs vs)) old new
map_written levels n vs old middle new some len fits e w = grind (arith, append_assoc, count_both)

pub map_fails : (levels n : ℕ) (vs : List (Value × Value)) (old middle new : List ℕ) (kind : Kind) → (levels ≡ 0 → ⊥) →
    middle ≡ old ++ head 5 n → FailsWith kind (refusal_pairs (levels - 1) None (to_pairs vs)) middle new →
    FailsWith kind (refusal levels (Map (to_pairs vs))) old new
map_fails levels n vs old middle new kind some e g = search (rules, arith, goes_on, ne_eqb)

-- ---- where the capacity was short

-- of a piece, and so of all that was to be written
item_short : (levels : ℕ) (all rest : Trees) (t : Tree) (start a : List ℕ) (c d : ℕ) →
    ItemsLeft levels all (tree t rest) start a → c ≤ d → IsShort d a (encode_tree t) → IsShort c start (encode_trees all)
item_short levels all rest t start a c d h le short =
    omega (arith, ap length h.spelled, length-append a (encode_tree t ++ encode_trees rest), length-append (encode_tree t) (encode_trees rest), length-append start (encode_trees all))

pub item_short_here : (levels : ℕ) (vs : List Value) (i : ℕ) (v : Value) (start a : List ℕ) (c d : ℕ) → i < length vs →
    v ≡ get_or vs i v → ItemsLeft levels (to_trees vs) (to_trees (drop i vs)) start a → c ≤ d →
    IsShort d a (encode_tree (to_tree v)) → IsShort c start (encode_trees (to_trees vs))
item_short_here levels vs i v start a c d lt is h le short =
    item_short levels (to_trees vs) (to_trees (drop (i + 1) vs))
    (to_tree v) start a c d (items_here levels vs i v start a lt is h) le short

key_short : (levels : ℕ) (all rest : Pairs) (k v : Tree) (last : Option (List ℕ)) (start a : List ℕ) (c d : ℕ) →
    PairsLeft levels all (pair k v rest) last start a → c ≤ d → IsShort d a (encode_tree k) → IsShort c start (encode_pairs all)
key_short levels all rest k v last start a c d h le short =
    omega (arith, ap length h.spelled, length-append a (encode_tree k ++ (encode_tree v ++ encode_pairs rest)), length-append (encode_tree k) (encode_tree v ++ encode_pairs rest), length-append start (encode_pairs all))

pub key_short_here : (levels : ℕ) (vs : List (Value × Value)) (i : ℕ) (v : Value × Value) (last : Option (List ℕ))
    (start a : List ℕ) (c d : ℕ) → i < length vs → v ≡ get_or vs i v →
    PairsLeft levels (to_pairs vs) (to_pairs (drop i vs)) last start a → c ≤ d → IsShort d a (encode_tree (to_tree v.0)) →
    IsShort c start (encode_pairs (to_pairs vs))
key_short_here levels vs i v last start a c d lt is h le short =
    key_short levels (to_pairs vs) (to_pairs (drop (i + 1) vs))
    (to_tree v.0) (to_tree v.1) last start a c d (pairs_here levels vs i v last start a lt is h) le short

value_short : (levels : ℕ) (all rest : Pairs) (k v : Tree) (last : Option (List ℕ)) (start a b : List ℕ) (c d : ℕ) →
    PairsLeft levels all (pair k v rest) last start a → b ≡ a ++ encode_tree k → c ≤ d → IsShort d b (encode_tree v) →
    IsShort c start (encode_pairs all)
value_short levels all rest k v last start a b c d h e le short =
    omega (arith, ap length e, length-append a (encode_tree k), ap length h.spelled, length-append a (encode_tree k ++ (encode_tree v ++ encode_pairs rest)), length-append (encode_tree k) (encode_tree v ++ encode_pairs rest), length-append (encode_tree v) (encode_pairs rest), length-append start (encode_pairs all))

pub value_short_here : (levels : ℕ) (vs : List (Value × Value)) (i : ℕ) (v : Value × Value) (last : Option (List ℕ))
    (start a b : List ℕ) (c d : ℕ) → i < length vs → v ≡ get_or vs i v →
    PairsLeft levels (to_pairs vs) (to_pairs (drop i vs)) last start a → b ≡ a ++ encode_tree (to_tree v.0) → c ≤ d →
    IsShort d b (encode_tree (to_tree v.1)) → IsShort c start (encode_pairs (to_pairs vs))
value_short_here levels vs i v last start a b c d lt is h e le short = value_short levels (to_pairs vs)
    (to_pairs (drop (i + 1) vs)) (to_tree v.0) (to_tree v.1) last start a b c d
    (pairs_here levels vs i v last start a lt is h) e le short

-- of a head, and after it
pub front_short : (c : ℕ) (old head rest : List ℕ) → IsShort c old head → IsShort c old (head ++ rest)
front_short c old head rest short = omega (arith, length-append head rest)

pub short_beyond : (c d : ℕ) (old middle head rest : List ℕ) → middle ≡ old ++ head → c ≤ d → IsShort d middle rest →
    IsShort c old (head ++ rest)
short_beyond c d old middle head rest e le short = search (rules, arith, length-append)

pub array_short : (c n : ℕ) (vs : List Value) (old : List ℕ) → n ≡ length vs →
    IsShort c old (head 4 n ++ encode_trees (to_trees vs)) → IsShort c old (encode_tree (Array (to_trees vs)))
array_short c n vs old e short = search (rules, arith, count_trees)

pub map_short : (c n : ℕ) (vs : List (Value × Value)) (old : List ℕ) → n ≡ length vs →
    IsShort c old (head 5 n ++ encode_pairs (to_pairs vs)) → IsShort c old (encode_tree (Map (to_pairs vs)))
map_short c n vs old e short = search (rules, arith, count_both)

-- whatever the refusal is
pub if_memory : (r : Result (Unit {0}) Kind) (Q : Type 0) → Q → IfErr r (λ k. k ≡ Memory → Q)
if_memory r Q q = search (rules, arith)
