use Rattle.std.proofs.Common.{◌-◌, true, refl, sym, ap, ◌∙◌, arith, rules}
use Rattle.std.specs.Prelude.{is_some, pos}
use Rattle.ctap_cbor.specs.{Tree.Int, Views.to_part}
use Rattle.ctap_message.specs.{Collected.typed, Members.map_of, Members.array_of}
use Rattle.ctap_message.specs.Requests.{rp_types, user_types, make_types}
use Rattle.ctap_message.specs.Members.{parameter_types, descriptor_types, option_types}
use Rattle.ctap_message.specs.Fields.{rp_in, user_in, parameters_in, options_in}
use Rattle.ctap_message.specs.Collected.{to_rp, to_user, to_parameters, to_options, to_descriptor_list, list_in}
use Rattle.ctap_message.specs.Collected.{parameter_key, to_make_parameters, make_in, make_next}
use Rattle.ctap_message.proofs.{Requests.copied_some, Collecting.maps_read, Collecting.arrays_read, Collecting.adds_read}
use Rattle.ctap_message.proofs.{Collecting.adds_put, Collecting.rp_start, Collecting.user_start, Collecting.options_start}
use Rattle.ctap_message.proofs.Collecting.{parameters_start, make_grows, make_heads, make_other}
use Rattle.ctap_message.proofs.make_credential.MakeMembers.member.Goals as goal

pub returns-in-Int-eq2 : goal.returns-in-Int-eq2
returns-in-Int-eq2 c =
    let x = to_make_parameters c.args.self.now in
    adds_read to_make_parameters make_types make_in make_next (typed (map_of rp_types) rp_in)
    (to_rp c.read_map.new.members) (5 - c.args.level) (to_part c.args.key) (Int (pos 2)) c.args.self.now
    (record c.args.self.now { rp = c.read_map.new.members }) c.args.cursor.now c.read_map.new.cursor
    c.read_map.result make_grows (search rules) (λ v. refl) (λ v e. ap (λ w. (record x.0 { rp_id = w }, x.1)) e)
    (maps_read to_rp rp_types rp_in (5 - c.args.level) c.read_map.result _ c.read_map.new.members
    c.args.cursor.now c.read_map.new.cursor c.read_map.ensures rp_start)

pub returns-in-Int-eq3 : goal.returns-in-Int-eq3
returns-in-Int-eq3 c =
    let x = to_make_parameters c.args.self.now in
    adds_read to_make_parameters make_types make_in make_next (typed (map_of user_types) user_in)
    (to_user c.read_map-in-Int-eq3.new.members) (5 - c.args.level) (to_part c.args.key) (Int (pos 3))
    c.args.self.now (record c.args.self.now { user = c.read_map-in-Int-eq3.new.members }) c.args.cursor.now
    c.read_map-in-Int-eq3.new.cursor c.read_map-in-Int-eq3.result make_grows (search rules) (λ v. refl)
    (λ v e. ap (λ w. (record x.0 { user = w }, x.1)) e)
    (maps_read to_user user_types user_in (5 - c.args.level) c.read_map-in-Int-eq3.result _
    c.read_map-in-Int-eq3.new.members c.args.cursor.now c.read_map-in-Int-eq3.new.cursor
    c.read_map-in-Int-eq3.ensures user_start)

pub returns-in-Int-eq4 : goal.returns-in-Int-eq4
returns-in-Int-eq4 c =
    let x = to_make_parameters c.args.self.now in
    adds_read to_make_parameters make_types make_in make_next (typed (array_of (map_of parameter_types)) parameters_in)
    (to_parameters c.read_array.new.entries) (5 - c.args.level) (to_part c.args.key) (Int (pos 4)) c.args.self.now
    (record c.args.self.now { has_parameters = true; parameters = c.read_array.new.entries }) c.args.cursor.now
    c.read_array.new.cursor c.read_array.result make_grows (search rules) (λ v. refl)
    (λ v e. ap (λ w. (record x.0 { has_parameters = true; parameters = w }, x.1)) e)
    (arrays_read to_parameters (map_of parameter_types) parameters_in (5 - c.args.level) c.read_array.result _
    c.read_array.new.entries c.args.cursor.now c.read_array.new.cursor c.read_array.ensures parameters_start)

pub returns-in-Int-eq5 : goal.returns-in-Int-eq5
returns-in-Int-eq5 c =
    let x = to_make_parameters c.args.self.now in
    adds_read to_make_parameters make_types make_in make_next (typed (array_of (map_of descriptor_types)) list_in)
    (to_descriptor_list c.read_list.new.list) (5 - c.args.level) (to_part c.args.key) (Int (pos 5)) c.args.self.now
    (record c.args.self.now { exclude = c.read_list.new.list }) c.args.cursor.now c.read_list.new.cursor
    c.read_list.result make_grows (search rules) (λ v. refl)
    (λ v e. ap (λ w. (record x.0 { exclude_list = w.0 }, w.1)) e) c.read_list.ensures

pub returns-in-Int-eq7 : goal.returns-in-Int-eq7
returns-in-Int-eq7 c =
    let x = to_make_parameters c.args.self.now in
    adds_read to_make_parameters make_types make_in make_next (typed (map_of option_types) options_in)
    (to_options c.read_map-in-Int-eq7.new.members) (5 - c.args.level) (to_part c.args.key) (Int (pos 7))
    c.args.self.now (record c.args.self.now { options = c.read_map-in-Int-eq7.new.members }) c.args.cursor.now
    c.read_map-in-Int-eq7.new.cursor c.read_map-in-Int-eq7.result make_grows (search rules) (λ v. refl)
    (λ v e. ap (λ w. (record x.0 { options = w }, x.1)) e)
    (maps_read to_options option_types options_in (5 - c.args.level) c.read_map-in-Int-eq7.result _
    c.read_map-in-Int-eq7.new.members c.args.cursor.now c.read_map-in-Int-eq7.new.cursor
    c.read_map-in-Int-eq7.ensures options_start)

pub returns-in-Int-eq1 : goal.returns-in-Int-eq1
returns-in-Int-eq1 c =
    let x = to_make_parameters c.args.self.now in
    adds_put to_make_parameters make_types make_in make_next (5 - c.args.level) (to_part c.args.key) (Int (pos 1))
    (to_part c.in_ok-value-in_default.value) c.is_some.result c.args.self.now
    (record c.args.self.now { hash = c.as_bytes-self.result }) c.args.cursor.now c.read_whole_item.new.self make_grows
    (search rules) (make_heads (parameter_key 1) refl refl refl refl refl) c.in_ok-value-in_default.ensures
    (c.is_some.ensures ∙ sym (copied_some c.as_bytes-self.result) ∙ ap is_some c.as_bytes-self.ensures)
    (ap (λ w. (record x.0 { client_data_hash = w }, x.1)) c.as_bytes-self.ensures)

pub returns-in-Int-eq6 : goal.returns-in-Int-eq6
returns-in-Int-eq6 c =
    adds_put to_make_parameters make_types make_in make_next (5 - c.args.level) (to_part c.args.key) (Int (pos 6))
    (to_part c.in_ok-value-in_default.value) c.is_map_item.result c.args.self.now c.args.self.now c.args.cursor.now
    c.read_whole_item.new.self make_grows (search rules) (make_heads (parameter_key 6) refl refl refl refl refl)
    c.in_ok-value-in_default.ensures (c.is_map_item.ensures) refl

pub returns-in-Int-eq8 : goal.returns-in-Int-eq8
returns-in-Int-eq8 c =
    let x = to_make_parameters c.args.self.now in
    adds_put to_make_parameters make_types make_in make_next (5 - c.args.level) (to_part c.args.key) (Int (pos 8))
    (to_part c.in_ok-value-in_default.value) c.is_some-in-Int-eq8.result c.args.self.now
    (record c.args.self.now { pin_uv_auth_param = c.as_bytes-self-in-Int-eq8.result }) c.args.cursor.now
    c.read_whole_item.new.self make_grows (search rules) (make_heads (parameter_key 8) refl refl refl refl refl)
    c.in_ok-value-in_default.ensures
    (c.is_some-in-Int-eq8.ensures ∙ sym (copied_some c.as_bytes-self-in-Int-eq8.result) ∙ ap is_some
    c.as_bytes-self-in-Int-eq8.ensures)
    (ap (λ w. (record x.0 { pin_uv_auth_param = w }, x.1)) c.as_bytes-self-in-Int-eq8.ensures)

pub returns-in-Int-eq9 : goal.returns-in-Int-eq9
returns-in-Int-eq9 c =
    adds_put to_make_parameters make_types make_in make_next (5 - c.args.level) (to_part c.args.key) (Int (pos 9))
    (to_part c.in_ok-value-in_default.value) c.is_some-in-Int-eq9.result c.args.self.now c.args.self.now
    c.args.cursor.now c.read_whole_item.new.self make_grows (search rules) (make_heads (parameter_key 9) refl refl refl refl refl)
    c.in_ok-value-in_default.ensures (c.is_some-in-Int-eq9.ensures ∙ ap is_some c.as_uint.ensures) refl

pub returns-in-Int-eq10 : goal.returns-in-Int-eq10
returns-in-Int-eq10 c =
    let x = to_make_parameters c.args.self.now in
    adds_put to_make_parameters make_types make_in make_next (5 - c.args.level) (to_part c.args.key) (Int (pos 10))
    (to_part c.in_ok-value-in_default.value) c.is_some-in-Int-eq10.result c.args.self.now
    (record c.args.self.now { enterprise_attestation = c.as_uint-self.result }) c.args.cursor.now c.read_whole_item.new.self
    make_grows (search rules) (make_heads (parameter_key 10) refl refl refl refl refl) c.in_ok-value-in_default.ensures
    (c.is_some-in-Int-eq10.ensures ∙ ap is_some c.as_uint-self.ensures)
    (ap (λ w. (record x.0 { enterprise_attestation = w }, x.1)) c.as_uint-self.ensures)

pub returns-in_default-key : goal.returns-in_default-key
returns-in_default-key c =
    make_other (5 - c.args.level) (to_part c.args.key) (to_part c.in_ok-value-in_default.value) c.args.self.now
    c.args.cursor.now c.read_whole_item.new.self (grind arith) c.in_ok-value-in_default.ensures

pub returns-in_default-key-4 : goal.returns-in_default-key-4
returns-in_default-key-4 c =
    make_other (5 - c.args.level) (to_part c.args.key) (to_part c.in_ok-value-in_default.value) c.args.self.now
    c.args.cursor.now c.read_whole_item.new.self (grind arith) c.in_ok-value-in_default.ensures

pub returns-in_default-key-5 : goal.returns-in_default-key-5
returns-in_default-key-5 c =
    make_other (5 - c.args.level) (to_part c.args.key) (to_part c.in_ok-value-in_default.value) c.args.self.now
    c.args.cursor.now c.read_whole_item.new.self (grind arith) c.in_ok-value-in_default.ensures
