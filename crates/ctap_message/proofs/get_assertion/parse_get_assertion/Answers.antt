use Rattle.ctap_message.{specs.Requests.assertion_types, proofs.Collecting.map_read, proofs.Collecting.assert_begins}
use Rattle.ctap_message.specs.Collected.{assertion_in, to_assertion_parameters}
use Rattle.ctap_message.proofs.get_assertion.parse_get_assertion.Goals as goal

pub returns : goal.returns
returns c =
    let h = map_read to_assertion_parameters assertion_types assertion_in 4 c.in_ok-typed.typed _ c.read_map.new.members
    c.args.cursor.now c.read_map.new.cursor c.in_ok-typed.ensures (assert_begins c.none.result c.none.ensures) in
    (c.read_map.new.cursor, h, c.in_ok-end.ensures)
