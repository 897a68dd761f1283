-- The types of parameters, those that have to be there, and the order of the checks, by computation: a request that is
-- taken, and
-- the same request with other parameters.
use Rattle.std.proofs.Common.{◌≡◌, ℕ, true, false, Bool, List, [], Option, Some, None, Result, Ok, Err, replicate}
use Rattle.std.proofs.Common.{refl, ◌∷◌}
use Rattle.std.specs.Prelude.{pos, negsuc, codes}
use Rattle.ctap_cbor.specs.Tree.{Int, Bytes, Text, Flag, Null, Tree, Plain, Array, Map, Trees, no_trees, tree, Pairs}
use Rattle.ctap_cbor.specs.Tree.{no_pairs, pair}
use Rattle.ctap_message.specs.Requests.{ParsedRequest, MakeCredential, GetAssertion}
use Rattle.ctap_message.specs.Members.{value_at, all_entries, some_entry, all_pairs}
use Rattle.ctap_message.specs.Requests.{make_request}
use Rattle.ctap_message.specs.Requests.{assertion_request}
use Rattle.ctap_message.specs.declared.fault.RequestFault.{RequestFault}
use Rattle.ctap_message.specs.RequestFaults.{assertion_fault_in, make_fault_in, fault_in}
use Rattle.ctap_message.specs.declared.fault.RequestFault.TheVariants as because

-- ---- trees

abbrev pub int : ℕ → Tree
int n = Plain (Int (pos n))

-- -1 - n
abbrev pub minus : ℕ → Tree
minus n = Plain (Int (negsuc n))

abbrev pub bytes : ℕ → Tree
bytes n = Plain (Bytes (replicate n 0x11))

abbrev pub text : List ℕ → Tree
text s = Plain (Text s)

abbrev pub flag : Bool → Tree
flag b = Plain (Flag b)

-- a map of one member, and of two
abbrev pub one : List ℕ → Tree → Tree
one name value = Map (pair (text name) value no_pairs)

abbrev pub two : List ℕ → Tree → List ℕ → Tree → Tree
two name value other more = Map (pair (text name) value (pair (text other) more no_pairs))

abbrev pub only : Tree → Tree
only t = Array (tree t no_trees)

abbrev pub empty : Tree
empty = Array no_trees

abbrev pub public_key : Tree
public_key = text (codes "public-key")

abbrev pub es256 : Tree
es256 = two (codes "alg") (minus 6) (codes "type") public_key

-- a list of one descriptor, with these transports
abbrev pub listing : Tree → Tree
listing transports = only
    (Map (pair (text (codes "id")) (bytes 4)
    (pair (text (codes "type")) public_key (pair (text (codes "transports")) transports no_pairs))))

-- with the parameter, if given
abbrev pub with : ℕ → Option Tree → Pairs → Pairs
with n None ps = ps
with n (Some v) ps = pair (int n) v ps

-- ---- authenticatorMakeCredential

pub record Make : Type 0 where
  pub client_data_hash : Option Tree
  pub rp : Option Tree
  pub user : Option Tree
  pub parameters : Option Tree
  pub exclude_list : Option Tree
  pub extensions : Option Tree
  pub options : Option Tree
  pub pin_uv_auth_param : Option Tree
  pub pin_uv_auth_protocol : Option Tree
  pub enterprise_attestation : Option Tree

abbrev pub make_tree : Make → Option Tree
make_tree m =
    Some (Map
    (with 0x01 m.client_data_hash
    (with 0x02 m.rp (with 0x03 m.user (with 0x04 m.parameters (with 0x05 m.exclude_list
    (with 0x06 m.extensions
    (with 0x07 m.options (with 0x08 m.pin_uv_auth_param
    (with 0x09 m.pin_uv_auth_protocol (with 0x0a m.enterprise_attestation no_pairs)))))))))))

abbrev make : Make → Result ParsedRequest ℕ
make m = make_request (make_tree m)

abbrev pub base : Make
base =
    record {
      client_data_hash = Some (bytes 32);
      rp = Some (one (codes "id") (text (codes "b")));
      user = Some (one (codes "id") (bytes 1));
      parameters = Some (only es256);
      exclude_list = None;
      extensions = None;
      options = None;
      pin_uv_auth_param = None;
      pin_uv_auth_protocol = None;
      enterprise_attestation = None;
    }

-- what this request asks, with these descriptors
abbrev taken_with : Trees → Result ParsedRequest ℕ
taken_with listed = Ok (MakeCredential (replicate 32 0x11) (codes "b") (replicate 1 0x11) [] false listed)

-- what is taken: as it stands; with all that may be given; a user id of 64 bytes; keys that aren't known
make_taken :
    (make base ≡ taken_with no_trees)
    × (make (record base { user = Some (Map (pair (text (codes "id")) (bytes 64) (pair (text (codes "name")) (text (codes "n")) (pair (text (codes "displayName")) (text (codes "d")) no_pairs)))); rp = Some (two (codes "id") (text (codes "b")) (codes "name") (text (codes "r"))); exclude_list = Some empty; extensions = Some (Map no_pairs); options = Some (Map (pair (text (codes "rk")) (flag true) (pair (text (codes "up")) (flag true) (pair (text (codes "uv")) (flag false) no_pairs)))); pin_uv_auth_protocol = Some (int 2) }) ≡ Ok (MakeCredential (replicate 32 0x11) (codes "b") (replicate 64 0x11) (codes "n") true no_trees))
    × (make (record base { options = Some (one (codes "rk") (flag false)); rp = Some (two (codes "id") (text (codes "b")) (codes "icon") (int 0)) }) ≡ taken_with no_trees)
    × (make (record base {
      parameters =
          Some (Array (tree (two (codes "alg") (minus 256) (codes "type") public_key) (tree es256 no_trees)));
    }) ≡ taken_with
    no_trees)
unfolding value_at all_entries some_entry all_pairs
make_taken = (refl, refl, refl, refl)

-- an excludeList of one descriptor
make_listed :
    (make (record base { exclude_list = Some (listing (only (text (codes "usb")))) }) ≡ taken_with
    (tree (Map (pair (text (codes "id")) (bytes 4)
    (pair (text (codes "type")) public_key
    (pair (text (codes "transports")) (only (text (codes "usb"))) no_pairs)))) no_trees))
unfolding value_at all_entries some_entry all_pairs
make_listed = refl

-- parameters that aren't canonical, and those that are no map
make_no_map : (make_request None ≡ Err 0x12) × (make_request (Some (int 0)) ≡ Err 0x11)
    × (make_request (Some empty) ≡ Err 0x11)
unfolding value_at all_entries some_entry all_pairs
make_no_map = (refl, refl, refl)

-- each parameter of another type
make_types :
    (make (record base { client_data_hash = Some (text (codes "h")) }) ≡ Err 0x11)
    × (make (record base { rp = Some (text (codes "b")) }) ≡ Err 0x11)
    × (make (record base { user = Some (bytes 1) }) ≡ Err 0x11)
    × (make (record base { parameters = Some es256 }) ≡ Err 0x11)
    × (make (record base { exclude_list = Some (Map no_pairs) }) ≡ Err 0x11)
    × (make (record base { extensions = Some empty }) ≡ Err 0x11)
    × (make (record base { options = Some (flag true) }) ≡ Err 0x11)
    × (make (record base { pin_uv_auth_param = Some (text []) }) ≡ Err 0x11)
    × (make (record base { pin_uv_auth_protocol = Some (minus 0) }) ≡ Err 0x11)
    × (make (record base { enterprise_attestation = Some (minus 0) }) ≡ Err 0x11)
unfolding value_at all_entries some_entry all_pairs
make_types = (refl, refl, refl, refl, refl, refl, refl, refl, refl, refl)

-- each member inside of another type
make_types_inside :
    (make (record base { rp = Some (one (codes "id") (bytes 1)) }) ≡ Err 0x11)
    × (make (record base { rp = Some (two (codes "id") (text (codes "b")) (codes "name") (int 0)) }) ≡ Err 0x11)
    × (make (record base { user = Some (one (codes "id") (text (codes "u"))) }) ≡ Err 0x11)
    × (make (record base { user = Some (two (codes "id") (bytes 1) (codes "name") (bytes 1)) }) ≡ Err 0x11)
    × (make (record base { user = Some (two (codes "id") (bytes 1) (codes "displayName") (bytes 1)) }) ≡ Err 0x11)
    × (make (record base { parameters = Some (only (int 0)) }) ≡ Err 0x11)
    × (make (record base { parameters = Some (only (two (codes "alg") (text (codes "a")) (codes "type") public_key)) })
    ≡ Err 0x11)
    × (make (record base { parameters = Some (only (two (codes "alg") (minus 6) (codes "type") (bytes 1))) }) ≡ Err
    0x11)
    × (make (record base { exclude_list = Some (only (bytes 1)) }) ≡ Err 0x11)
    × (make (record base { exclude_list = Some (only (two (codes "id") (text []) (codes "type") public_key)) }) ≡ Err
    0x11)
    × (make (record base { exclude_list = Some (only (two (codes "id") (bytes 1) (codes "type") (int 0))) }) ≡ Err 0x11)
    × (make (record base { exclude_list = Some (listing (text (codes "usb"))) }) ≡ Err 0x11)
    × (make (record base { exclude_list = Some (listing (only (int 0))) }) ≡ Err 0x11)
    × (make (record base { options = Some (one (codes "rk") (int 1)) }) ≡ Err 0x11)
    × (make (record base { options = Some (one (codes "up") (Plain Null)) }) ≡ Err 0x11)
    × (make (record base { options = Some (one (codes "uv") (text [])) }) ≡ Err 0x11)
unfolding value_at all_entries some_entry all_pairs
make_types_inside = (refl, refl, refl, refl, refl, refl, refl, refl, refl, refl, refl, refl, refl, refl, refl, refl)

-- each parameter that has to be there, left out, inside too
make_missing :
    (make (record base { client_data_hash = None }) ≡ Err 0x14)
    × (make (record base { rp = None }) ≡ Err 0x14)
    × (make (record base { user = None }) ≡ Err 0x14)
    × (make (record base { parameters = None }) ≡ Err 0x14)
    × (make (record base { rp = Some (Map no_pairs) }) ≡ Err 0x14)
    × (make (record base { user = Some (Map no_pairs) }) ≡ Err 0x14)
    × (make (record base { parameters = Some (only (one (codes "type") public_key)) }) ≡ Err 0x14)
    × (make (record base { parameters = Some (only (one (codes "alg") (minus 6))) }) ≡ Err 0x14)
    × (make (record base { exclude_list = Some (only (one (codes "type") public_key)) }) ≡ Err 0x14)
    × (make (record base { exclude_list = Some (only (one (codes "id") (bytes 1))) }) ≡ Err 0x14)
unfolding value_at all_entries some_entry all_pairs
make_missing = (refl, refl, refl, refl, refl, refl, refl, refl, refl, refl)

-- the other checks, each alone
make_refused :
    (make (record base { client_data_hash = Some (bytes 31) }) ≡ Err 0x03)
    × (make (record base { client_data_hash = Some (bytes 33) }) ≡ Err 0x03)
    × (make (record base { user = Some (one (codes "id") (bytes 65)) }) ≡ Err 0x03)
    × (make (record base { pin_uv_auth_param = Some (bytes 0) }) ≡ Err 0x02)
    × (make (record base { parameters = Some empty }) ≡ Err 0x26)
    × (make (record base {
      parameters =
          Some (only (two (codes "alg") (minus 6) (codes "type") (text (codes "private"))));
    }) ≡ Err 0x26)
    × (make (record base { parameters = Some (only (two (codes "alg") (minus 7) (codes "type") public_key)) }) ≡ Err
    0x26)
    × (make (record base { options = Some (one (codes "uv") (flag true)) }) ≡ Err 0x2c)
    × (make (record base { options = Some (one (codes "up") (flag false)) }) ≡ Err 0x2c)
    × (make (record base { enterprise_attestation = Some (int 1) }) ≡ Err 0x02)
unfolding value_at all_entries some_entry all_pairs
make_refused = (refl, refl, refl, refl, refl, refl, refl, refl, refl, refl)

-- each check with the next one: the first decides
make_order :
    (make (record base { enterprise_attestation = Some (text []); rp = None }) ≡ Err 0x11)
    × (make (record base { rp = None; client_data_hash = Some (bytes 1) }) ≡ Err 0x14)
    × (make (record base { client_data_hash = Some (bytes 1); pin_uv_auth_param = Some (bytes 0) }) ≡ Err 0x03)
    × (make (record base { pin_uv_auth_param = Some (bytes 0); parameters = Some empty }) ≡ Err 0x02)
    × (make (record base { parameters = Some empty; options = Some (one (codes "uv") (flag true)) }) ≡ Err 0x26)
    × (make (record base { options = Some (one (codes "up") (flag false)); enterprise_attestation = Some (int 1) }) ≡
    Err 0x2c)
unfolding value_at all_entries some_entry all_pairs
make_order = (refl, refl, refl, refl, refl, refl)

-- ---- authenticatorGetAssertion

pub record Assertion : Type 0 where
  pub rp_id : Option Tree
  pub client_data_hash : Option Tree
  pub allow_list : Option Tree
  pub extensions : Option Tree
  pub options : Option Tree
  pub pin_uv_auth_param : Option Tree
  pub pin_uv_auth_protocol : Option Tree

abbrev pub assertion_tree : Assertion → Option Tree
assertion_tree a =
    Some
    (Map (with 0x01 a.rp_id (with 0x02 a.client_data_hash (with 0x03 a.allow_list (with 0x04 a.extensions
    (with 0x05 a.options (with 0x06 a.pin_uv_auth_param (with 0x07 a.pin_uv_auth_protocol no_pairs))))))))

abbrev assertion : Assertion → Result ParsedRequest ℕ
assertion a = assertion_request (assertion_tree a)

abbrev pub asking : Assertion
asking =
    record {
      rp_id = Some (text (codes "b"));
      client_data_hash = Some (bytes 32);
      allow_list = None;
      extensions = None;
      options = None;
      pin_uv_auth_param = None;
      pin_uv_auth_protocol = None;
    }

-- what is taken: as it stands; with all that may be given; without the user's presence
assertion_taken :
    (assertion asking ≡ Ok (GetAssertion (replicate 32 0x11) (codes "b") no_trees true))
    × (assertion (record asking
    { allow_list = Some empty; extensions = Some (Map no_pairs); options = Some (two (codes "up") (flag true) (codes "uv") (flag false)); pin_uv_auth_protocol = Some (int 2) }) ≡ Ok (GetAssertion (replicate 32 0x11) (codes "b") no_trees true))
    × (assertion (record asking { options = Some (one (codes "up") (flag false)) }) ≡ Ok
    (GetAssertion (replicate 32 0x11) (codes "b") no_trees false))
unfolding value_at all_entries some_entry all_pairs
assertion_taken = (refl, refl, refl)

-- parameters that aren't canonical, and those that are no map
assertion_no_map : (assertion_request None ≡ Err 0x12) × (assertion_request (Some (int 0)) ≡ Err 0x11)
    × (assertion_request (Some empty) ≡ Err 0x11)
unfolding value_at all_entries some_entry all_pairs
assertion_no_map = (refl, refl, refl)

-- each parameter of another type, and each member inside
assertion_types :
    (assertion (record asking { rp_id = Some (bytes 1) }) ≡ Err 0x11)
    × (assertion (record asking { client_data_hash = Some (text (codes "h")) }) ≡ Err 0x11)
    × (assertion (record asking { allow_list = Some (Map no_pairs) }) ≡ Err 0x11)
    × (assertion (record asking { allow_list = Some (only (bytes 1)) }) ≡ Err 0x11)
    × (assertion (record asking { allow_list = Some (only (two (codes "id") (text []) (codes "type") public_key)) }) ≡
    Err 0x11)
    × (assertion (record asking { allow_list = Some (only (two (codes "id") (bytes 1) (codes "type") (int 0))) }) ≡ Err
    0x11)
    × (assertion (record asking { allow_list = Some (listing (only (int 0))) }) ≡ Err 0x11)
    × (assertion (record asking { extensions = Some empty }) ≡ Err 0x11)
    × (assertion (record asking { options = Some (flag true) }) ≡ Err 0x11)
    × (assertion (record asking { options = Some (one (codes "rk") (int 1)) }) ≡ Err 0x11)
    × (assertion (record asking { options = Some (one (codes "up") (int 1)) }) ≡ Err 0x11)
    × (assertion (record asking { options = Some (one (codes "uv") (int 1)) }) ≡ Err 0x11)
    × (assertion (record asking { pin_uv_auth_param = Some (text []) }) ≡ Err 0x11)
    × (assertion (record asking { pin_uv_auth_protocol = Some (minus 0) }) ≡ Err 0x11)
unfolding value_at all_entries some_entry all_pairs
assertion_types = (refl, refl, refl, refl, refl, refl, refl, refl, refl, refl, refl, refl, refl, refl)

-- each parameter that has to be there, left out, inside too
assertion_missing :
    (assertion (record asking { rp_id = None }) ≡ Err 0x14)
    × (assertion (record asking { client_data_hash = None }) ≡ Err 0x14)
    × (assertion (record asking { allow_list = Some (only (one (codes "type") public_key)) }) ≡ Err 0x14)
    × (assertion (record asking { allow_list = Some (only (one (codes "id") (bytes 1))) }) ≡ Err 0x14)
unfolding value_at all_entries some_entry all_pairs
assertion_missing = (refl, refl, refl, refl)

-- the other checks, each alone
assertion_refused :
    (assertion (record asking { client_data_hash = Some (bytes 31) }) ≡ Err 0x03)
    × (assertion (record asking { client_data_hash = Some (bytes 33) }) ≡ Err 0x03)
    × (assertion (record asking { pin_uv_auth_param = Some (bytes 0) }) ≡ Err 0x02)
    × (assertion (record asking { options = Some (one (codes "uv") (flag true)) }) ≡ Err 0x2c)
    × (assertion (record asking { options = Some (one (codes "rk") (flag false)) }) ≡ Err 0x2b)
unfolding value_at all_entries some_entry all_pairs
assertion_refused = (refl, refl, refl, refl, refl)

-- each check with the next one: the first decides
assertion_order :
    (assertion (record asking { pin_uv_auth_protocol = Some (text []); rp_id = None }) ≡ Err 0x11)
    × (assertion (record asking { rp_id = None; client_data_hash = Some (bytes 1) }) ≡ Err 0x14)
    × (assertion (record asking { client_data_hash = Some (bytes 1); pin_uv_auth_param = Some (bytes 0) }) ≡ Err 0x03)
    × (assertion (record asking { pin_uv_auth_param = Some (bytes 0); options = Some (one (codes "uv") (flag true)) }) ≡
    Err 0x02)
    × (assertion (record asking { options = Some (two (codes "rk") (flag true) (codes "uv") (flag true)) }) ≡ Err 0x2c)
unfolding value_at all_entries some_entry all_pairs
assertion_order = (refl, refl, refl, refl, refl)

-- ---- why a request is refused, by computation: each check alone, with what it compared, and the order of the checks

-- the command byte alone, and what is behind it
messages :
    (fault_in [] ≡ Some because.Empty)
    × (fault_in (0x05 ∷ 0xa0 ∷ []) ≡ Some (because.NoSuchCommand 0x05))
    × (fault_in (0x04 ∷ []) ≡ None)
    × (fault_in (0x07 ∷ 0xa0 ∷ []) ≡ Some (because.Trailing 1))
    × (fault_in (0x08 ∷ 0xa0 ∷ 0x00 ∷ []) ≡ Some (because.Trailing 2))
    × (fault_in (0x0b ∷ 0x00 ∷ 0x00 ∷ 0x00 ∷ []) ≡ Some (because.Trailing 3))
unfolding fault_in
messages = (refl, refl, refl, refl, refl, refl)

abbrev make_fault : Make → Option RequestFault
make_fault m = make_fault_in (make_tree m)

-- each parameter that has to be there, left out, inside too
make_faults_missing :
    (make_fault base ≡ None)
    × (make_fault (record base { rp = Some (text (codes "b")) }) ≡ Some because.WrongType)
    × (make_fault (record base { client_data_hash = None }) ≡ Some (because.Missing 0x01 0x01))
    × (make_fault (record base { rp = None }) ≡ Some (because.Missing 0x01 0x02))
    × (make_fault (record base { rp = Some (Map no_pairs) }) ≡ Some (because.Missing 0x01 0x02))
    × (make_fault (record base { user = None }) ≡ Some (because.Missing 0x01 0x03))
    × (make_fault (record base { user = Some (Map no_pairs) }) ≡ Some (because.Missing 0x01 0x03))
    × (make_fault (record base { parameters = None }) ≡ Some (because.Missing 0x01 0x04))
    × (make_fault (record base { parameters = Some (only (one (codes "type") public_key)) }) ≡ Some
    (because.EntryNotWhole 0x01 0x04))
    × (make_fault (record base { exclude_list = Some (only (one (codes "id") (bytes 1))) }) ≡ Some
    (because.EntryNotWhole 0x01 0x05))
unfolding value_at all_entries some_entry all_pairs
make_faults_missing = (refl, refl, refl, refl, refl, refl, refl, refl, refl, refl)

-- the other checks, each alone
make_faults_refused :
    (make_fault (record base { client_data_hash = Some (bytes 31) }) ≡ Some (because.HashLength 31))
    × (make_fault (record base { client_data_hash = Some (bytes 33) }) ≡ Some (because.HashLength 33))
    × (make_fault (record base { user = Some (one (codes "id") (bytes 65)) }) ≡ Some (because.UserIdLength 65))
    × (make_fault (record base { pin_uv_auth_param = Some (bytes 0) }) ≡ Some because.PinUvAuthParam)
    × (make_fault (record base { parameters = Some empty }) ≡ Some because.NoAlgorithm)
    × (make_fault (record base { options = Some (one (codes "uv") (flag true)) }) ≡ Some because.UvOption)
    × (make_fault (record base { options = Some (one (codes "up") (flag false)) }) ≡ Some because.UpOption)
    × (make_fault (record base { enterprise_attestation = Some (int 1) }) ≡ Some because.EnterpriseAttestation)
unfolding value_at all_entries some_entry all_pairs
make_faults_refused = (refl, refl, refl, refl, refl, refl, refl, refl)

-- checks that share a status: the first decides
make_faults_order :
    (make_fault (record base { client_data_hash = None; rp = None }) ≡ Some (because.Missing 0x01 0x01))
    × (make_fault (record base { parameters = None; exclude_list = Some (only (one (codes "id") (bytes 1))) }) ≡ Some
    (because.Missing 0x01 0x04))
    × (make_fault (record base { client_data_hash = Some (bytes 1); user = Some (one (codes "id") (bytes 65)) }) ≡ Some
    (because.HashLength 1))
    × (make_fault (record base { options = Some (two (codes "up") (flag false) (codes "uv") (flag true)) }) ≡ Some
    because.UvOption)
unfolding value_at all_entries some_entry all_pairs
make_faults_order = (refl, refl, refl, refl)

abbrev assertion_fault : Assertion → Option RequestFault
assertion_fault a = assertion_fault_in (assertion_tree a)

assertion_faults_refused :
    (assertion_fault asking ≡ None)
    × (assertion_fault (record asking { rp_id = Some (bytes 1) }) ≡ Some because.WrongType)
    × (assertion_fault (record asking { rp_id = None; client_data_hash = None }) ≡ Some (because.Missing 0x02 0x01))
    × (assertion_fault (record asking { client_data_hash = None }) ≡ Some (because.Missing 0x02 0x02))
    × (assertion_fault (record asking { allow_list = Some (only (one (codes "type") public_key)) }) ≡ Some
    (because.EntryNotWhole 0x02 0x03))
    × (assertion_fault (record asking { client_data_hash = Some (bytes 31) }) ≡ Some (because.HashLength 31))
    × (assertion_fault (record asking { pin_uv_auth_param = Some (bytes 0) }) ≡ Some because.PinUvAuthParam)
    × (assertion_fault (record asking { options = Some (one (codes "uv") (flag true)) }) ≡ Some because.UvOption)
    × (assertion_fault (record asking { options = Some (one (codes "rk") (flag false)) }) ≡ Some because.RkOption)
unfolding value_at all_entries some_entry all_pairs
assertion_faults_refused = (refl, refl, refl, refl, refl, refl, refl, refl, refl)
