use Rattle.authn_core.specs.{Answers.exchanges, Answers.pending_request, Turn.first_state, Marks.Orderly, Marks.core_at}
use Rattle.authn_core.proofs.Kept.{told_at, turn_at, waits_told}
use Rattle.authn_core.proofs.laws.answers_follow_history.Goals as goal

pub returns : goal.returns
returns c = record {
  answers = λ start h x l o. (turn_at start h x l o (told_at start h l (unfold Orderly in o.1))).answer;
  rows = λ start h l o. (told_at start h l o).rows;
  waits = λ start h l o.
      waits_told start (exchanges start h) (core_at (first_state start) h).state (pending_request (exchanges start h))
      (told_at start h l o).work;
}
