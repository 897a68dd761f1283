use Rattle.std.proofs.Common.{arith}
use Rattle.ctap_cbor.specs.Writing.{then}
use Rattle.cred_table.proofs.SavedRows.{exactly, at_most, head_short}
use Rattle.cred_table.proofs.save_snapshot.put_header.Goals as goal

pub returns-clause-appends : goal.returns-clause-appends
returns-clause-appends c =
    at_most (let k = head_short c.args.count in omega arith) (exactly (then c.map.ensures.appends (then (then
    c.uint.ensures.appends c.uint-2.ensures.appends) (then c.uint-3.ensures.appends c.array.ensures.appends))))
