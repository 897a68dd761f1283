use Rattle.token_session.specs.{Answered.steps, History.receive, History.received}
use Rattle.token_session.proofs.Answered.{core_is, orderly, signature_at}
use Rattle.token_session.proofs.laws.signed_bytes_are_in_the_response.Goals as goal

pub returns : goal.returns
unfolding receive
returns c = record {
  signed = λ start h l. rw (core_is start (received start h)) (c.signed_bytes_are_in_the_response.ensures.signed start
      (steps start (received start h)) l (orderly start h));
  answered = λ start h x id signed sig l is need.
      let k = core_is start (received start h) in
      signature_at start _ (received start h) id signed sig is need
      (rw k (c.signed_bytes_are_in_the_response.ensures.answered start (steps start (received start h)) _ id signed sig l
      (orderly start h) (rw k at need)));
}
