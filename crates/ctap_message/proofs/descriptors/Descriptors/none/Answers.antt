use Rattle.std.proofs.Common.{refl, []}
use Rattle.ctap_message.proofs.Requests.{no_list}
use Rattle.ctap_message.proofs.descriptors.Descriptors.none.Goals as goal

pub invariant_of-result : goal.invariant_of-result
invariant_of-result c = (no_list c.new.result [] refl c.new.ensures).0

pub returns : goal.returns
returns c = (no_list c.new.result [] refl c.new.ensures).1
