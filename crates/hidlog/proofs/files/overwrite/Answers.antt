use Rattle.std.proofs.Common.{rules, ◌≡◌, min, length}
use Rattle.hidlog.proofs.Compared.{where_sized, written_over}
use Rattle.hidlog.proofs.files.overwrite.Goals as goal

pub returns-clause-bytes : goal.returns-clause-bytes
returns-clause-bytes g c =
    let shared : c.min-shared.result ≡ min c.args.old (length c.args.bytes.now) = search rules in
    where_sized c.cut-2.result (g.F.OpenFile.bytes c.args.file.now) (g.F.OpenFile.bytes c.cut-2.new.self) c.args.bytes.now c.args.old
    (λ size. written_over c.cut-2.result c.write_at_offset-written.result _ _ _ _ c.args.bytes.now _ _ c.args.old c.min-shared.result
    c.split_at.ensures.front
    c.split_at.ensures.back size shared (search rules) c.write_at_offset-written.ensures.bytes
    c.in_ok-write_at_offset.ensures.bytes c.cut-2.ensures.bytes)
