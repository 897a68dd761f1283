use Rattle.std.proofs.Common.{subst, sym}
use Rattle.hid_assemble.{specs.Assembly.IsValidAssembly, proofs.Rows.stays_lawful}
use Rattle.hid_assemble.proofs.assembler.Assembler.accept.Goals as goal

pub returns-in-Start-clause-lawful : goal.returns-in-Start-clause-lawful
returns-in-Start-clause-lawful c =
    subst IsValidAssembly (sym c.accept_initialization.ensures.state) (stays_lawful _ c.args.at c.args.working _ c.in-Start.ensures.data
    c.clear_finished.ensures.lawful)

pub returns-in-More-clause-lawful : goal.returns-in-More-clause-lawful
returns-in-More-clause-lawful c =
    subst IsValidAssembly (sym (c.accept_continuation.ensures.state c.args.working))
    (stays_lawful _ c.args.at c.args.working _ c.in-More.ensures.data c.clear_finished.ensures.lawful)
