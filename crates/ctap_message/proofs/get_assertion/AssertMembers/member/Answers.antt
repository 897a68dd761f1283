use Rattle.std.proofs.Common.{◌-◌, refl, sym, ap, ◌∙◌, arith, rules}
use Rattle.std.specs.Prelude.{is_some, pos}
use Rattle.ctap_cbor.specs.{Tree.Int, Views.to_part}
use Rattle.ctap_message.specs.{Collected.typed, Members.map_of, Members.array_of, Requests.assertion_types}
use Rattle.ctap_message.specs.{Members.descriptor_types, Members.option_types, Fields.options_in}
use Rattle.ctap_message.specs.Collected.{to_options, to_descriptor_list, list_in}
use Rattle.ctap_message.specs.Collected.{parameter_key, to_assertion_parameters, assertion_in, assert_next}
use Rattle.ctap_message.proofs.{Requests.copied_some, Collecting.maps_read, Collecting.adds_read, Collecting.adds_put}
use Rattle.ctap_message.proofs.Collecting.{options_start, assert_grows, assert_heads, assert_other}
use Rattle.ctap_message.proofs.get_assertion.AssertMembers.member.Goals as goal

pub returns-in-Int-eq3 : goal.returns-in-Int-eq3
returns-in-Int-eq3 c =
    let x = to_assertion_parameters c.args.self.now in
    adds_read to_assertion_parameters assertion_types assertion_in assert_next
    (typed (array_of (map_of descriptor_types)) list_in) (to_descriptor_list c.read_list.new.list) (5 - c.args.level)
    (to_part c.args.key) (Int (pos 3)) c.args.self.now (record c.args.self.now { allow = c.read_list.new.list })
    c.args.cursor.now c.read_list.new.cursor c.read_list.result assert_grows (search rules) (λ v. refl)
    (λ v e. ap (λ w. (record x.0 { allow_list = w.0 }, w.1)) e) c.read_list.ensures

pub returns-in-Int-eq5 : goal.returns-in-Int-eq5
returns-in-Int-eq5 c =
    let x = to_assertion_parameters c.args.self.now in
    adds_read to_assertion_parameters assertion_types assertion_in assert_next (typed (map_of option_types) options_in)
    (to_options c.read_map.new.members) (5 - c.args.level) (to_part c.args.key) (Int (pos 5)) c.args.self.now
    (record c.args.self.now { options = c.read_map.new.members }) c.args.cursor.now c.read_map.new.cursor
    c.read_map.result assert_grows (search rules) (λ v. refl)
    (λ v e. ap (λ w. (record x.0 { options = w }, x.1)) e)
    (maps_read to_options option_types options_in (5 - c.args.level) c.read_map.result _
    c.read_map.new.members c.args.cursor.now c.read_map.new.cursor c.read_map.ensures options_start)

pub returns-in-Int-eq1 : goal.returns-in-Int-eq1
returns-in-Int-eq1 c =
    let x = to_assertion_parameters c.args.self.now in
    adds_put to_assertion_parameters assertion_types assertion_in assert_next (5 - c.args.level) (to_part c.args.key)
    (Int (pos 1)) (to_part c.in_ok-value-in_default.value) c.is_some.result c.args.self.now
    (record c.args.self.now { rp_id = c.as_text-self.result }) c.args.cursor.now c.read_whole_item.new.self assert_grows
    (search rules) (assert_heads (parameter_key 1) (record { allow_list = refl; options = refl }))
    c.in_ok-value-in_default.ensures
    (c.is_some.ensures ∙ sym (copied_some c.as_text-self.result) ∙ ap is_some c.as_text-self.ensures)
    (ap (λ w. (record x.0 { rp_id = w }, x.1)) c.as_text-self.ensures)

pub returns-in-Int-eq2 : goal.returns-in-Int-eq2
returns-in-Int-eq2 c =
    let x = to_assertion_parameters c.args.self.now in
    adds_put to_assertion_parameters assertion_types assertion_in assert_next (5 - c.args.level) (to_part c.args.key)
    (Int (pos 2)) (to_part c.in_ok-value-in_default.value) c.is_some-in-Int-eq2.result c.args.self.now
    (record c.args.self.now { hash = c.as_bytes-self.result }) c.args.cursor.now c.read_whole_item.new.self assert_grows
    (search rules) (assert_heads (parameter_key 2) (record { allow_list = refl; options = refl }))
    c.in_ok-value-in_default.ensures
    (c.is_some-in-Int-eq2.ensures ∙ sym (copied_some c.as_bytes-self.result) ∙ ap is_some c.as_bytes-self.ensures)
    (ap (λ w. (record x.0 { client_data_hash = w }, x.1)) c.as_bytes-self.ensures)

pub returns-in-Int-eq4 : goal.returns-in-Int-eq4
returns-in-Int-eq4 c =
    adds_put to_assertion_parameters assertion_types assertion_in assert_next (5 - c.args.level) (to_part c.args.key)
    (Int (pos 4)) (to_part c.in_ok-value-in_default.value) c.is_map_item.result c.args.self.now c.args.self.now
    c.args.cursor.now c.read_whole_item.new.self assert_grows (search rules)
    (assert_heads (parameter_key 4) (record { allow_list = refl; options = refl })) c.in_ok-value-in_default.ensures
    (c.is_map_item.ensures) refl

pub returns-in-Int-eq6 : goal.returns-in-Int-eq6
returns-in-Int-eq6 c =
    let x = to_assertion_parameters c.args.self.now in
    adds_put to_assertion_parameters assertion_types assertion_in assert_next (5 - c.args.level) (to_part c.args.key)
    (Int (pos 6)) (to_part c.in_ok-value-in_default.value) c.is_some-in-Int-eq6.result c.args.self.now
    (record c.args.self.now { pin_uv_auth_param = c.as_bytes-self-in-Int-eq6.result }) c.args.cursor.now
    c.read_whole_item.new.self assert_grows (search rules)
    (assert_heads (parameter_key 6) (record { allow_list = refl; options = refl })) c.in_ok-value-in_default.ensures
    (c.is_some-in-Int-eq6.ensures ∙ sym (copied_some c.as_bytes-self-in-Int-eq6.result) ∙ ap is_some
    c.as_bytes-self-in-Int-eq6.ensures)
    (ap (λ w. (record x.0 { pin_uv_auth_param = w }, x.1)) c.as_bytes-self-in-Int-eq6.ensures)

pub returns-in-Int-eq7 : goal.returns-in-Int-eq7
returns-in-Int-eq7 c =
    adds_put to_assertion_parameters assertion_types assertion_in assert_next (5 - c.args.level) (to_part c.args.key)
    (Int (pos 7)) (to_part c.in_ok-value-in_default.value) c.is_some-in-Int-eq7.result c.args.self.now c.args.self.now
    c.args.cursor.now c.read_whole_item.new.self assert_grows (search rules)
    (assert_heads (parameter_key 7) (record { allow_list = refl; options = refl })) c.in_ok-value-in_default.ensures
    (c.is_some-in-Int-eq7.ensures ∙ ap is_some c.as_uint.ensures) refl

pub returns-in_default-key : goal.returns-in_default-key
returns-in_default-key c =
    assert_other (5 - c.args.level) (to_part c.args.key) (to_part c.in_ok-value-in_default.value) c.args.self.now
    c.args.cursor.now c.read_whole_item.new.self (grind arith) c.in_ok-value-in_default.ensures

pub returns-in_default-key-4 : goal.returns-in_default-key-4
returns-in_default-key-4 c =
    assert_other (5 - c.args.level) (to_part c.args.key) (to_part c.in_ok-value-in_default.value) c.args.self.now
    c.args.cursor.now c.read_whole_item.new.self (grind arith) c.in_ok-value-in_default.ensures

pub returns-in_default-key-5 : goal.returns-in_default-key-5
returns-in_default-key-5 c =
    assert_other (5 - c.args.level) (to_part c.args.key) (to_part c.in_ok-value-in_default.value) c.args.self.now
    c.args.cursor.now c.read_whole_item.new.self (grind arith) c.in_ok-value-in_default.ensures
