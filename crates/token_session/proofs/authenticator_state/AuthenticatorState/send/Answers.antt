use Rattle.std.proofs.Common.{arith}
use Rattle.token_session.specs.{Machine.response_sends_keepalive, Machine.answer_packets}
use Rattle.token_session.proofs.authenticator_state.AuthenticatorState.send.Goals as goal

pub put_message-requires-clause-space : goal.put_message-requires-clause-space
unfolding answer_packets
put_message-requires-clause-space g c = grind (arith, c.requires, c.in-Answer.is, c.as_slice.ensures.value)

pub returns-in-Answer-clause-keepalive : goal.returns-in-Answer-clause-keepalive
unfolding response_sends_keepalive
returns-in-Answer-clause-keepalive g c = grind (arith, c.in-Answer.is)

pub put_message-requires-then-not-matches-clause-space : goal.put_message-requires-then-not-matches-clause-space
unfolding answer_packets
put_message-requires-then-not-matches-clause-space g c =
    grind (arith, c.requires, c.in-Waits.is, c.if-not-matches.true, c.match-matches.branch, c.number.ensures)

pub returns-then-not-matches-clause-keepalive : goal.returns-then-not-matches-clause-keepalive
unfolding response_sends_keepalive
returns-then-not-matches-clause-keepalive g c =
    grind (arith, c.in-Waits.is, c.if-not-matches.true, c.match-matches.branch)

pub returns-else-not-matches-clause-keepalive : goal.returns-else-not-matches-clause-keepalive
unfolding response_sends_keepalive
returns-else-not-matches-clause-keepalive g c =
    grind (arith, c.in-Waits.is, c.if-not-matches.false, c.match-matches.branch)
