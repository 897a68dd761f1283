use Rattle.std.proofs.Common.{refl}
use Rattle.token_session.specs.History.{received}
use Rattle.token_session.proofs.Answered.{core_is, first_ready, orderly}
use Rattle.token_session.proofs.laws.credentials_follow_history.Goals as goal

pub returns : goal.returns
returns c = record {
  rows = λ start h. rw (core_is start (received start h)) (c.rows_follow_history.ensures.rows _ _ (orderly start h));
  lawful = λ start h l. rw (core_is start (received start h)) (c.rows_follow_history.ensures.lawful _ _
      (first_ready start) l);
  signed_assertions = λ start h l. c.signed_bytes_differ.ensures.differ _ _ (first_ready start) l (orderly start h);
  rise = λ start h l. c.signed_bytes_differ.ensures.rise _ _ (first_ready start) l (orderly start h);
  newest = λ start h id l e.
      let k = core_is start (received start h) in
      rw k (c.signed_bytes_differ.ensures.newest _ _ id refl (first_ready start) l (orderly start h) (rw k at e));
}
