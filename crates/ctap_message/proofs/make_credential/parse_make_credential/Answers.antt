use Rattle.ctap_message.{specs.Requests.make_types, proofs.Collecting.map_read, proofs.Collecting.make_begins}
use Rattle.ctap_message.specs.Collected.{make_in, to_make_parameters}
use Rattle.ctap_message.proofs.make_credential.parse_make_credential.Goals as goal

pub returns : goal.returns
returns c =
    let h = map_read to_make_parameters make_types make_in 4 c.in_ok-typed.typed _ c.read_map.new.members
    c.args.cursor.now c.read_map.new.cursor c.in_ok-typed.ensures (make_begins c.none.result c.none.ensures) in
    (c.read_map.new.cursor, h, c.in_ok-end.ensures)
