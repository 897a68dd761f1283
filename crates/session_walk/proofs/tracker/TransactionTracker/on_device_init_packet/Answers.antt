use Rattle.std.proofs.Common.{subst}
use Rattle.session_walk.specs.Messages.{KeepsOnly}
use Rattle.session_walk.proofs.Keeps.{brings_past}
use Rattle.session_walk.proofs.tracker.TransactionTracker.on_device_init_packet.Goals as goal

pub returns-then-answer-eq-CBOR-clause-bytes : goal.returns-then-answer-eq-CBOR-clause-bytes
returns-then-answer-eq-CBOR-clause-bytes c = brings_past _ _ _ _ _ _ _ _
    (subst (λ first. KeepsOnly first c.release.new.self) c.resolve_before_response.ensures.pool c.release.ensures.only)
    c.resolve.ensures.pool c.begin.ensures.brings
