use Rattle.std.proofs.Common.{◌≡◌, Some, arith, sym}
use Rattle.ctap_message.specs.Collected.{to_make_parameters}
use Rattle.ctap_message.specs.RequestFaults.{make_fault}
use Rattle.ctap_message.proofs.Requests.{make_refused}
use Rattle.ctap_message.proofs.validate.validate_make_credential.Goals as goal

pub returns-in-Some-fault_of_make-clause-request : goal.returns-in-Some-fault_of_make-clause-request
returns-in-Some-fault_of_make-clause-request c =
    let m = (to_make_parameters c.args.make).0 in
    let is : make_fault c.args.typed m ≡ Some c.in-Some-fault_of_make.fault
    = grind (
      arith,
      c.if-not-typed.false,
      c.in-Some.is,
      c.in-Some-id.is,
      c.in-Some-id-2.is,
      c.fault_of_make.ensures,
      c.in-Some-fault_of_make.is,
    ) in
    sym (make_refused c.args.typed m c.in-Some-fault_of_make.fault is)
