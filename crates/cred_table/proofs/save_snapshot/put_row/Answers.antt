use Rattle.std.proofs.Common.{ap, arith}
use Rattle.ctap_cbor.specs.{Tree.Bytes, Tree.Text, Grammar.encode_scalar}
use Rattle.cred_table.proofs.SavedRows.{exactly, up_to, ended, at_most, respelled}
use Rattle.cred_table.proofs.save_snapshot.put_row.Goals as goal

pub returns-clause-appends : goal.returns-clause-appends
returns-clause-appends c =
    at_most (omega arith) (up_to (exactly c.map.ensures.appends)
    (up_to (exactly c.uint.ensures.appends)
    (up_to (exactly c.put_hash.ensures.appends) (up_to (exactly c.uint-2.ensures.appends)
    (up_to (exactly c.put_hash-2.ensures.appends) (up_to (exactly c.uint-3.ensures.appends) (up_to (exactly
    c.put_hash-3.ensures.appends)
    (up_to (exactly c.uint-4.ensures.appends) (up_to (exactly c.put_hash-4.ensures.appends)
    (up_to (exactly c.uint-5.ensures.appends)
    (up_to (respelled (ap (λ s. encode_scalar (Bytes s)) c.deref.ensures.0) c.put_handle.ensures.appends)
    (up_to (exactly c.uint-6.ensures.appends) (up_to (exactly c.flag.ensures.appends) (up_to (exactly
    c.uint-7.ensures.appends)
    (up_to c.put_counter.ensures.appends (up_to (exactly c.uint-8.ensures.appends) (up_to (respelled
    (ap (λ s. encode_scalar (Text s)) c.as_str.ensures.text) c.put_name.ensures.appends) ended)))))))))))))))))
