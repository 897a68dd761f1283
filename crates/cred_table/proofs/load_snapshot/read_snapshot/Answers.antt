use Rattle.std.proofs.Common.{arith, sym, ap, ◌∙◌}
use Rattle.ctap_cbor.specs.Reading.{rest_of}
use Rattle.cred_table.proofs.OneSnapshot.{no_heads, too_many, rows_load}
use Rattle.cred_table.proofs.load_snapshot.read_snapshot.Goals as goal

pub returns-in-None : goal.returns-in-None
returns-in-None g c = no_heads g.row.C c.args.bytes.now c.new-cursor.result c.read_header.new.cursor c.new-cursor.ensures
    c.in-None.ensures

pub returns-in-Some : goal.returns-in-Some
returns-in-Some g c =
    let canonical = c.check.ensures.ok.0 c.if-is_err.ensures.negation in
    too_many (record { trees = c.no_encoding_is_a_prefix.ensures; items = c.no_head_is_a_prefix.ensures })
    c.in-Some.field-0-0 g.row.C c.in-Some.count canonical.0 c.args.bytes.now (rest_of c.read_header.new.cursor)
    c.in-Some.ensures.took.0 c.if-count.true canonical.1
    (sym (ap rest_of c.new-cursor.ensures) ∙ c.in-Some.ensures.took.1)

pub returns-in-Some-2 : goal.returns-in-Some-2
returns-in-Some-2 g c = grind (arith, rows_load)
