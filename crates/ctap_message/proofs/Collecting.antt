-- What a map or an array says, of one pair or entry more.
use Rattle.std.proofs.Common.{arith, rules, ◌≡◌, Bool, true, false, Option, Some, refl, ap, ◌∙◌, ℕ, List, sym, subst}
use Rattle.std.proofs.Common.{None}
use Rattle.std.specs.Prelude.{◌&&◌, ◌||◌, if◌then◌else◌, Result, Ok, Err, MatchResult, ℤ, is_some, codes}
use Rattle.ctap_cbor.specs.Tree.{Tree, Trees, no_trees, tree, Pairs, no_pairs, pair, push, push_pair, Scalar, Plain}
use Rattle.ctap_cbor.specs.Tree.{Array, Map, Text, as_bytes, as_text, as_int, as_uint, as_flag}
use Rattle.ctap_message.specs.Members.{MemberKey, is_key, value_at, all_entries, some_entry, all_pairs, pairs_of}
use Rattle.ctap_message.specs.Members.{entries_of, has_listed_type, map_of, array_of, Number, Name, is_text}
use Rattle.ctap_cbor.specs.Items.{Part, One}
use Rattle.ctap_cbor.specs.Views.{head_tree}
use Rattle.ctap_cbor.specs.declared.fault.Fault.{Fault}
use Rattle.ctap_cbor.specs.Reading.{Reading, Passes, PassesHead, part_of_tree, Fails}
use Rattle.ctap_cbor.specs.Reading.{AddsPair, AddsEntry, ReadsMap, ReadsArray, InArray}
use Rattle.ctap_message.specs.Collected.{Reads, HasPairs, HasEntries, typed}
use Rattle.std.specs.Option.{option_and_then}
use Rattle.ctap_message.specs.declared.descriptor.Descriptor.{Descriptor as DescriptorFields}
use Rattle.ctap_message.specs.declared.make_credential.Make.{Make}
use Rattle.ctap_message.specs.declared.options.Options.{Options as OptionsFields}
use Rattle.ctap_message.specs.declared.parameters.Parameter.{Parameter as ParameterFields}
use Rattle.ctap_message.specs.declared.rp.Rp.{Rp as RpFields}
use Rattle.ctap_message.specs.declared.user.User.{User as UserFields}
use Rattle.ctap_message.specs.declared.get_assertion.Assert.{Assert}
use Rattle.ctap_message.specs.Requests.{assertion_types}
use Rattle.ctap_message.specs.Requests.{rp_types, user_types, make_types}
use Rattle.ctap_message.specs.Members.{option_types, parameter_types, descriptor_types}
use Rattle.ctap_message.specs.Fields.{Descriptor, descriptor_in, DescriptorList, descriptors_in, Options, options_in}
use Rattle.ctap_message.specs.Fields.{Parameter, parameter_in, is_whole_parameter, is_for_es256, Parameters}
use Rattle.ctap_message.specs.Fields.{parameters_in, rp_in, User, user_in}
use Rattle.ctap_message.specs.Fields.{MakeParameters, AssertionParameters}
use Rattle.ctap_message.specs.Collected.{rp_next, user_next, options_next, parameter_next, descriptor_next}
use Rattle.ctap_message.specs.Collected.{IsPlainName, to_rp, to_user, to_options, to_parameter, to_descriptor}
use Rattle.ctap_message.specs.Collected.{make_in, make_next, to_make_parameters, IsUnknownMakeKey}
use Rattle.ctap_message.specs.Collected.{assertion_in, assert_next, to_assertion_parameters, IsPlainAssert}
use Rattle.ctap_message.specs.Collected.{IsUnknownAssertKey}
use Rattle.ctap_message.specs.DescriptorWalk.{DescriptorWalk, list_of, left_of, IsAtFirst}

-- ---- lookups and tests, of one pair or one entry more; and what a value's head decides

pub ap2 : {A B C : Type 0} (f : A → B → C) {a c : A} {b d : B} → a ≡ c → b ≡ d → f a b ≡ f c d
ap2 f e h = cc

pub ap3 : {A B C D : Type 0} (f : A → B → C → D) {a d : A} {b e : B} {c g : C} → a ≡ d → b ≡ e → c ≡ g →
    f a b c ≡ f d e g
ap3 f x y z = cc

and_assoc : (a b c : Bool) → (a && (b && c)) ≡ ((a && b) && c)
and_assoc a b c = search (rules, arith)

pub and_true : (b : Bool) → (b && true) ≡ b
and_true b = search (rules, arith)

or_assoc : (a b c : Bool) → (a || (b || c)) ≡ ((a || b) || c)
or_assoc a b c = search (rules, arith)

or_false : (b : Bool) → (b || false) ≡ b
or_false b = search (rules, arith)

pub value_push : (key : MemberKey) (ps : Pairs) (k v : Tree) →
    value_at key (push_pair ps k v) ≡ (if is_key key k then Some v else value_at key ps)
unfolding value_at push_pair
value_push key no_pairs k v = refl
value_push key (pair j u ps) k v = grind (arith, value_push key ps k v)

pub all_push : (p : Tree → Tree → Bool) (ps : Pairs) (k v : Tree) →
    all_pairs p (push_pair ps k v) ≡ (all_pairs p ps && p k v)
unfolding all_pairs push_pair
all_push p no_pairs k v = and_true (p k v)
all_push p (pair j u ps) k v = ap (λ x. p j u && x) (all_push p ps k v) ∙ and_assoc (p j u) (all_pairs p ps) (p k v)

pub entries_push : (p : Tree → Bool) (ts : Trees) (t : Tree) → all_entries p (push ts t) ≡ (all_entries p ts && p t)
unfolding all_entries push
entries_push p no_trees t = and_true (p t)
entries_push p (tree u ts) t = ap (λ x. p u && x) (entries_push p ts t) ∙ and_assoc (p u) (all_entries p ts) (p t)

pub some_push : (p : Tree → Bool) (ts : Trees) (t : Tree) → some_entry p (push ts t) ≡ (some_entry p ts || p t)
unfolding some_entry push
some_push p no_trees t = or_false (p t)
some_push p (tree u ts) t = ap (λ x. p u || x) (some_push p ts t) ∙ or_assoc (p u) (some_entry p ts) (p t)

if_some : {A : Type 0} (g : Option Tree → A) (b : Bool) (v : Tree) (x : Option Tree) →
    g (if b then Some v else x) ≡ (if b then g (Some v) else g x)
if_some g b v x = search (rules, arith)

-- what is made of a member
pub field_push : {A : Type 0} (g : Option Tree → A) (key : MemberKey) (ps : Pairs) (k v : Tree) →
    g (value_at key (push_pair ps k v)) ≡ (if is_key key k then g (Some v) else g (value_at key ps))
field_push g key ps k v = ap g (value_push key ps k v) ∙ if_some g (is_key key k) v (value_at key ps)

-- ---- a head decides what a tree is

-- ---- from pairs and entries that are taken one by one to what the whole map or array says

-- ---- one pair more

-- one pair more is what `next` says
abbrev pub Grows : {V : Type 0} → (Option Tree → V) → (Tree → Tree → V → V) → Type 0
Grows {V} view next = (ps : Pairs) (k v : Tree) → view (Some (Map (push_pair ps k v))) ≡ next k v (view (Some (Map ps)))

-- after this key a value's head decides
abbrev pub HeadDecides : {V : Type 0} → List (MemberKey × (Tree → Bool)) → (Tree → Tree → V → V) → Tree → Type 0
HeadDecides {V} types next k = (v : Tree) → (has_listed_type types k v ≡ has_listed_type types k (head_tree (part_of_tree v)))
    × ((z : V) → next k v z ≡ next k (head_tree (part_of_tree v)) z)

pub adds_tree : {M V : Type 0} (shown : M → V) (types : List (MemberKey × (Tree → Bool))) (view : Option Tree →
    V) (next : Tree → Tree → V → V) (levels : ℕ) (key : Part) (j : Scalar) (taken : Bool) (x y : M) (a c : Reading)
    → Grows view next → key ≡ One j → (v : Tree) × Passes levels v a c × (taken ≡ has_listed_type types (Plain j) v)
    × (shown y ≡ next (Plain j) v (shown x))
    → AddsPair (λ m ok ps. HasPairs types view (shown m) ok ps) levels key taken x y a c
adds_tree shown types view next levels key j taken x y a c grows is h = grind (arith, all_push)

-- a value whose head was put under its key
pub adds_head : {M V : Type 0} (shown : M → V) (types : List (MemberKey × (Tree → Bool))) (view : Option Tree →
    V) (next : Tree → Tree → V → V) (levels : ℕ) (key part : Part) (taken : Bool) (x y : M) (a c : Reading)
    → Grows view next → HeadDecides types next (head_tree key) → PassesHead levels part a c
    → taken ≡ has_listed_type types (head_tree key) (head_tree part) → shown y ≡ next (head_tree key) (head_tree part) (shown x)
    → AddsPair (λ m ok ps. HasPairs types view (shown m) ok ps) levels key taken x y a c
adds_head shown types view next levels key part taken x y a c grows head h is put = grind (arith, all_push)

-- the same under a key that is known
pub adds_put : {M V : Type 0} (shown : M → V) (types : List (MemberKey × (Tree → Bool))) (view : Option Tree →
    V) (next : Tree → Tree → V → V) (levels : ℕ) (key : Part) (j : Scalar) (part : Part) (taken : Bool) (x y : M)
    (a c : Reading) → Grows view next → key ≡ One j → HeadDecides types next (Plain j) → PassesHead levels part a c
    → taken ≡ has_listed_type types (Plain j) (head_tree part) → shown y ≡ next (Plain j) (head_tree part) (shown x)
    → AddsPair (λ m ok ps. HasPairs types view (shown m) ok ps) levels key taken x y a c
adds_put shown types view next levels key j part taken x y a c grows e head h is put =
    subst (λ k. AddsPair (λ m ok ps. HasPairs types view (shown m) ok ps) levels k taken x y a c) (sym e)
    (adds_head shown types view next levels (One j) part taken x y a c grows head h is put)

-- ---- one entry more

pub adds_entry : {M V : Type 0} (shown : M → V) (type : Tree → Bool) (view : Option Tree → V) (levels : ℕ)
    (taken : Bool)
    (x y : M) (t : Tree) (a c : Reading)
    → Passes levels t a c → taken ≡ type t → ((ts : Trees) → shown x ≡ view (Some (Array ts)) →
    shown y ≡ view (Some (Array (push ts t))))
    → AddsEntry (λ m ok ts. HasEntries type view (shown m) ok ts) levels taken x y a c
adds_entry shown type view levels taken x y t a c passes is more = grind (arith, entries_push)

-- ---- from what was collected to what the tree says

pub map_read : {M V : Type 0} (shown : M → V) (types : List (MemberKey × (Tree → Bool))) (view : Option Tree →
    V) (levels : ℕ) (b : Bool) (x y : M) (a c : Reading)
    → ReadsMap (λ m ok ps. HasPairs types view (shown m) ok ps) levels b x y a c
    → shown x ≡ view (Some (Map no_pairs))
    → Reads {V = Bool × V} (λ t. (map_of types t, view (Some (Map (pairs_of (Some t)))))) levels (b, shown y) a c
unfolding all_pairs
map_read {V = V} shown types view levels b x y a c h start = grind arith

pub array_read : {M V : Type 0} (shown : M → V) (type : Tree → Bool) (view : Option Tree →
    V) (levels : ℕ) (b : Bool) (x y : M) (a c : Reading)
    → ReadsArray (λ m ok ts. HasEntries type view (shown m) ok ts) levels b x y a c →
    shown x ≡ view (Some (Array no_trees))
    → Reads {V = Bool × V} (λ t. (array_of type t, view (Some (Array (entries_of (Some t)))))) levels (b, shown y) a c
unfolding all_entries
array_read {V = V} shown type view levels b x y a c h start = grind arith

pub maps_read : {M V : Type 0} (shown : M → V) (types : List (MemberKey × (Tree → Bool))) (view : Option Tree →
    V) (levels : ℕ) (r : Result Bool Fault) (x y : M) (a c : Reading)
    → MatchResult r (λ taken. ReadsMap (λ m ok ps. HasPairs types view (shown m) ok ps) levels taken x y a c)
    (λ f. Fails levels a c f.at f.kind) → shown x ≡ view (Some (Map no_pairs))
    → MatchResult r (λ taken. Reads {V = Bool × V} (λ t. (map_of types t, view (Some (Map (pairs_of (Some t)))))) levels
    (taken, shown y) a c) (λ f. Fails levels a c f.at f.kind)
maps_read shown types view levels (Ok taken) x y a c h start = map_read shown types view levels taken x y a c h start
maps_read shown types view levels (Err f) x y a c h start = h

pub arrays_read : {M V : Type 0} (shown : M → V) (type : Tree → Bool) (view : Option Tree →
    V) (levels : ℕ) (r : Result Bool Fault) (x y : M) (a c : Reading)
    → MatchResult r (λ taken. ReadsArray (λ m ok ts. HasEntries type view (shown m) ok ts) levels taken x y a c)
    (λ f. Fails levels a c f.at f.kind) → shown x ≡ view (Some (Array no_trees))
    → MatchResult r (λ taken. Reads {V = Bool × V} (λ t. (array_of type t, view (Some (Array (entries_of (Some t)))))) levels
    (taken, shown y) a c) (λ f. Fails levels a c f.at f.kind)
arrays_read shown type view levels (Ok taken) x y a c h start = array_read shown type view levels taken x y a c h start
arrays_read shown type view levels (Err f) x y a c h start = h

-- a value that was read under a key is put into a field
pub adds_read : {M V W : Type 0} (shown : M → V) (types : List (MemberKey × (Tree → Bool))) (view : Option Tree →
    V) (next : Tree → Tree → V → V) (told : Tree → Bool × W) (value : W) (levels : ℕ) (key : Part) (j : Scalar)
    (x y : M) (a c : Reading) (r : Result Bool Fault) → Grows view next → key ≡ One j
    → ((v : Tree) → (told v).0 ≡ has_listed_type types (Plain j) v)
    → ((v : Tree) → value ≡ (told v).1 → shown y ≡ next (Plain j) v (shown x))
    → MatchResult r (λ taken. Reads told levels (taken, value) a c) (λ f. Fails levels a c f.at f.kind)
    → MatchResult r (λ taken. AddsPair (λ m ok ps. HasPairs types view (shown m) ok ps) levels key taken x y a c)
    (λ f. Fails levels a c f.at f.kind)
adds_read shown types view next told value levels key j x y a c (Ok taken) grows is suit put h =
    adds_tree shown types view next levels key j taken x y a c grows is
    (h.0, h.1, ap (λ p. p.0) h.2 ∙ suit h.0, put h.0 (ap (λ p. p.1) h.2))
adds_read shown types view next told value levels key j x y a c (Err f) grows is suit put h = h

-- ---- what each map says, of one pair more, and which keys' values a head decides

-- ---- rp

rp_grows : Grows rp_in rp_next
rp_grows ps k v = field_push (option_and_then as_text) (Name "id") ps k v

rp_heads : (k : Tree) → HeadDecides rp_types rp_next k
rp_heads k v = grind arith

pub rp_adds : (levels : ℕ) (key part : Part) (taken : Bool) (x y : RpFields) (a c : Reading) →
    PassesHead levels part a c →
    taken ≡ has_listed_type rp_types (head_tree key) (head_tree part) → to_rp y ≡ rp_next (head_tree key) (head_tree part) (to_rp x)
    → AddsPair (λ m ok ps. HasPairs rp_types rp_in (to_rp m) ok ps) levels key taken x y a c
rp_adds levels key part taken x y a c = adds_head to_rp rp_types rp_in rp_next levels key part taken x y a c rp_grows
    (rp_heads (head_tree key))

pub rp_start : ◌≡◌ {A = Option (List ℕ)} None (rp_in (Some (Map no_pairs)))
unfolding value_at
rp_start = refl

-- ---- user

abbrev make_user : Option (List ℕ) → Option (List ℕ) → User
make_user a b = record { id = a; name = b }

user_grows : Grows user_in user_next
user_grows ps k v = ap2 make_user (field_push (option_and_then as_bytes) (Name "id") ps k v)
    (field_push (option_and_then as_text) (Name "name") ps k v)

user_heads : (k : Tree) → HeadDecides user_types user_next k
user_heads k v = grind arith

pub user_adds : (levels : ℕ) (key part : Part) (taken : Bool) (x y : UserFields) (a c : Reading) →
    PassesHead levels part a c → taken ≡ has_listed_type user_types (head_tree key) (head_tree part) →
    to_user y ≡ user_next (head_tree key) (head_tree part) (to_user x)
    → AddsPair (λ m ok ps. HasPairs user_types user_in (to_user m) ok ps) levels key taken x y a c
user_adds levels key part taken x y a c = adds_head to_user user_types user_in user_next levels key part taken x y a
    c user_grows (user_heads (head_tree key))

pub user_start : make_user None None ≡ user_in (Some (Map no_pairs))
unfolding value_at
user_start = refl

-- ---- options

abbrev make_options : Option Bool → Option Bool → Option Bool → Options
make_options a b c = record { rk = a; up = b; uv = c }

options_grows : Grows options_in options_next
options_grows ps k v =
    ap3 make_options (field_push (option_and_then as_flag) (Name "rk") ps k v)
    (field_push (option_and_then as_flag) (Name "up") ps k v)
    (field_push (option_and_then as_flag) (Name "uv") ps k v)

options_heads : (k : Tree) → HeadDecides option_types options_next k
options_heads k v = grind arith

pub options_adds : (levels : ℕ) (key part : Part) (taken : Bool) (x y : OptionsFields) (a c : Reading) →
    PassesHead levels part a c → taken ≡ has_listed_type option_types (head_tree key) (head_tree part) →
    to_options y ≡ options_next (head_tree key) (head_tree part) (to_options x)
    → AddsPair (λ m ok ps. HasPairs option_types options_in (to_options m) ok ps) levels key taken x y a c
options_adds levels key part taken x y a c = adds_head to_options option_types options_in options_next levels key
    part taken x y a c options_grows (options_heads (head_tree key))

pub options_start : make_options None None None ≡ options_in (Some (Map no_pairs))
unfolding value_at
options_start = refl

-- ---- credential parameters

abbrev make_parameter : Option ℤ → Option (List ℕ) → Parameter
make_parameter a b = record { alg = a; credential_type = b }

parameter_grows : Grows parameter_in parameter_next
parameter_grows ps k v = ap2 make_parameter (field_push (option_and_then as_int) (Name "alg") ps k v)
    (field_push (option_and_then as_text) (Name "type") ps k v)

parameter_heads : (k : Tree) → HeadDecides parameter_types parameter_next k
parameter_heads k v = grind arith

pub parameter_adds : (levels : ℕ) (key part : Part) (taken : Bool) (x y : ParameterFields) (a c : Reading) →
    PassesHead levels part a c → taken ≡ has_listed_type parameter_types (head_tree key) (head_tree part) →
    to_parameter y ≡ parameter_next (head_tree key) (head_tree part) (to_parameter x)
    → AddsPair (λ m ok ps. HasPairs parameter_types parameter_in (to_parameter m) ok ps) levels key taken x y a c
parameter_adds levels key part taken x y a c = adds_head to_parameter parameter_types parameter_in parameter_next
    levels key part taken x y a c parameter_grows (parameter_heads (head_tree key))

pub parameter_start : make_parameter None None ≡ parameter_in (Some (Map no_pairs))
unfolding value_at
parameter_start = refl

abbrev make_parameters : Bool → Bool → Parameters
make_parameters a b = record { is_whole = a; has_es256 = b }

pub parameters_start : make_parameters true false ≡ parameters_in (Some (Array no_trees))
unfolding all_entries some_entry
parameters_start = refl

pub parameters_more : (old : Parameters) (p : Bool × Parameter) (w whole s es256 : Bool) (t : Tree) →
    w ≡ is_whole_parameter p.1 → whole ≡ (old.is_whole && w) → s ≡ is_for_es256 p.1 → es256 ≡ (old.has_es256 || s)
    → p ≡ typed (map_of parameter_types) parameter_in t → (ts : Trees) → old ≡ parameters_in (Some (Array ts)) →
    make_parameters whole es256 ≡ parameters_in (Some (Array (push ts t)))
parameters_more old p w whole s es256 t f g h i is ts eq = grind (arith, entries_push, some_push)

-- ---- descriptors

abbrev make_descriptor : Option (List ℕ) → Option (List ℕ) → Descriptor
make_descriptor a b = record { id = a; credential_type = b }

pub descriptor_grows : Grows descriptor_in descriptor_next
descriptor_grows ps k v = ap2 make_descriptor (field_push (option_and_then as_bytes) (Name "id") ps k v)
    (field_push (option_and_then as_text) (Name "type") ps k v)

pub descriptor_heads : (k : Tree) → IsPlainName k → HeadDecides descriptor_types descriptor_next k
descriptor_heads k plain v = grind arith

pub descriptor_start : make_descriptor None None ≡ descriptor_in (Some (Map no_pairs))
unfolding value_at
descriptor_start = refl

pub transports_arm : (levels : ℕ) (key : Part) (x : DescriptorFields) (a c : Reading) (r : Result Bool Fault) →
    key ≡ One (Text (codes "transports"))
    → MatchResult r (λ is. Reads (array_of is_text) levels is a c) (λ f. Fails levels a c f.at f.kind)
    → MatchResult r (λ taken. AddsPair (λ m ok ps. HasPairs descriptor_types descriptor_in (to_descriptor m) ok ps)
    levels
    key taken x x a c) (λ f. Fails levels a c f.at f.kind)
transports_arm levels key x a c (Ok is) e h =
    adds_tree to_descriptor descriptor_types descriptor_in descriptor_next levels key (Text (codes "transports")) is
    x
    x a c descriptor_grows e (h.0, h.1, h.2, refl)
transports_arm levels key x a c (Err f) e h = h

-- ---- arrays of texts

pub texts_more : {M : Type 0} (levels : ℕ) (part : Part) (taken : Bool) (x y : M) (a c : Reading) →
    PassesHead levels part a c → taken ≡ is_text (head_tree part) →
    AddsEntry {M = M} (λ _ ok ts. ok ≡ all_entries is_text ts) levels taken x y a c
texts_more levels part taken x y a c h is = grind (arith, entries_push)

texts_say : {M : Type 0} (t : Tree) (b : Bool) (x y : M) →
    InArray {M = M} (λ _ ok ts. ok ≡ all_entries is_text ts) b x y t → b ≡ array_of is_text t
unfolding all_entries
texts_say t b x y h = search (rules, arith)

pub texts_read : {M : Type 0} (levels : ℕ) (r : Result Bool Fault) (x y : M) (a c : Reading) →
    MatchResult r (λ b. ReadsArray {M = M} (λ _ ok ts. ok ≡ all_entries is_text ts) levels b x y a c)
    (λ f. Fails levels a c f.at f.kind) →
    MatchResult r (λ b. Reads (array_of is_text) levels b a c) (λ f. Fails levels a c f.at f.kind)
texts_read levels (Ok b) x y a c h = (h.0, h.1, texts_say h.0 b x y h.2)
texts_read levels (Err f) x y a c h = h

-- ---- makeCredential

ap9 : {A B C D E F G H J I : Type 0} (f : A → B → C → D → E → F → G → H → J →
    I) {a a' : A} {b b' : B} {c c' : C} {d d' : D} {e e' : E} {g g' : F} {h h' : G} {i i' : H} {j j' : J} → a ≡ a' →
    b ≡ b' → c ≡ c' → d ≡ d' → e ≡ e' → g ≡ g' → h ≡ h' → i ≡ i' → j ≡ j' →
    f a b c d e g h i j ≡ f a' b' c' d' e' g' h' i' j'
ap9 f p q r s t u v w x = cc

abbrev make_all : Option (List ℕ) → Option (List ℕ) → User → Bool → Parameters → DescriptorList → Options →
    Option (List ℕ) → Option ℕ → MakeParameters
make_all a b c d e f g h i =
    record {
      client_data_hash = a;
      rp_id = b;
      user = c;
      has_parameters = d;
      parameters = e;
      exclude_list = f;
      options = g;
      pin_uv_auth_param = h;
      enterprise_attestation = i;
    }

pub make_grows : Grows make_in make_next
make_grows ps k v =
    ap2 (λ (a : MakeParameters) (b : Trees). (a, b))
    (ap9 make_all
    (field_push (option_and_then as_bytes) (Number 0x01) ps k v)
    (field_push rp_in (Number 0x02) ps k v)
    (field_push user_in (Number 0x03) ps k v)
    (field_push is_some (Number 0x04) ps k v)
    (field_push parameters_in (Number 0x04) ps k v)
    (field_push descriptors_in (Number 0x05) ps k v)
    (field_push options_in (Number 0x07) ps k v)
    (field_push (option_and_then as_bytes) (Number 0x08) ps k v)
    (field_push (option_and_then as_uint) (Number 0x0a) ps k v))
    (field_push entries_of (Number 0x05) ps k v)

pub make_heads : (k : Tree) → is_key (Number 0x02) k ≡ false → is_key (Number 0x03) k ≡ false →
    is_key (Number 0x04) k ≡ false → is_key (Number 0x05) k ≡ false → is_key (Number 0x07) k ≡ false →
    HeadDecides make_types make_next k
make_heads k a b c d e v = grind arith

pub make_other : (levels : ℕ) (key part : Part) (x : Make) (a c : Reading) → IsUnknownMakeKey (head_tree key) →
    PassesHead levels part a c
    → AddsPair (λ m ok ps. HasPairs make_types make_in (to_make_parameters m) ok ps) levels key true x x a c
make_other levels key part x a c h passes =
    let o = h.others in
    adds_head to_make_parameters make_types make_in make_next levels key part true x x a c make_grows
    (make_heads (head_tree key) o.rp o.user o.parameters o.exclude_list o.options) passes
    (rw (h.hash, o.rp, o.user, o.parameters, o.exclude_list, h.extensions, o.options, h.pin_uv_auth_param, h.pin_uv_auth_protocol, h.enterprise_attestation) refl)
    (rw (h.hash, o.rp, o.user, o.parameters, o.exclude_list, o.options, h.pin_uv_auth_param, h.enterprise_attestation)
    refl)

abbrev make_none : DescriptorList → Trees → MakeParameters × Trees
make_none list entries =
    let m = make_all None None (make_user None None) false (make_parameters true false) list
    (make_options None None None) None None in (m, entries)

-- with these entries, and these left
abbrev make_with : Trees → Trees → MakeParameters × Trees
make_with x y = make_none (record { is_whole = true; entries = y }) x

make_start : make_with no_trees no_trees ≡ make_in (Some (Map no_pairs))
unfolding value_at all_entries some_entry
make_start = refl

pub make_begins : (w : DescriptorWalk) → IsAtFirst w no_trees →
    make_with (list_of w) (left_of w) ≡ make_in (Some (Map no_pairs))
make_begins w h = ap2 make_with h.0 h.1 ∙ make_start

-- ---- getAssertion

ap5 : {A B C D E I : Type 0} (f : A → B → C → D → E → I) {a a' : A} {b b' : B} {c c' : C} {d d' : D} {e e' : E} →
    a ≡ a' → b ≡ b' → c ≡ c' → d ≡ d' → e ≡ e' → f a b c d e ≡ f a' b' c' d' e'
ap5 f p q r s t = cc

abbrev assert_all : Option (List ℕ) → Option (List ℕ) → DescriptorList → Options → Option (List ℕ) → AssertionParameters
assert_all a b c d e = record { rp_id = a; client_data_hash = b; allow_list = c; options = d; pin_uv_auth_param = e }

pub assert_grows : Grows assertion_in assert_next
assert_grows ps k v =
    ap2 (λ (a : AssertionParameters) (b : Trees). (a, b))
    (ap5 assert_all
    (field_push (option_and_then as_text) (Number 0x01) ps k v)
    (field_push (option_and_then as_bytes) (Number 0x02) ps k v)
    (field_push descriptors_in (Number 0x03) ps k v)
    (field_push options_in (Number 0x05) ps k v)
    (field_push (option_and_then as_bytes) (Number 0x06) ps k v))
    (field_push entries_of (Number 0x03) ps k v)

pub assert_heads : (k : Tree) → IsPlainAssert k → HeadDecides assertion_types assert_next k
assert_heads k h v = grind arith

pub assert_other : (levels : ℕ) (key part : Part) (x : Assert) (a c : Reading) → IsUnknownAssertKey (head_tree key) →
    PassesHead levels part a c
    → AddsPair (λ m ok ps. HasPairs assertion_types assertion_in (to_assertion_parameters m) ok ps) levels key true x x a c
assert_other levels key part x a c h passes =
    let o = h.others in
    adds_head to_assertion_parameters assertion_types assertion_in assert_next levels key part true x x a c assert_grows
    (assert_heads (head_tree key) o) passes
    (rw (h.rp_id, h.hash, o.allow_list, h.extensions, o.options, h.pin_uv_auth_param, h.pin_uv_auth_protocol) refl)
    (rw (h.rp_id, h.hash, o.allow_list, o.options, h.pin_uv_auth_param) refl)

abbrev assert_with : Trees → Trees → AssertionParameters × Trees
assert_with x y = (assert_all None None (record { is_whole = true; entries = y }) (make_options None None None) None, x)

assert_start : assert_with no_trees no_trees ≡ assertion_in (Some (Map no_pairs))
unfolding value_at all_entries
assert_start = refl

pub assert_begins : (w : DescriptorWalk) → IsAtFirst w no_trees →
    assert_with (list_of w) (left_of w) ≡ assertion_in (Some (Map no_pairs))
assert_begins w h = ap2 assert_with h.0 h.1 ∙ assert_start
