use Rattle.std.proofs.Common.{ap, ◌∙◌}
use Rattle.token_session.specs.{Answered.packets_sent, Answered.steps, History.receive, History.received}
use Rattle.cred_table.specs.Rows.{ValidRows}
use Rattle.authn_core.specs.Turn.{Start}
use Rattle.token_session.proofs.Answered.{core_is, orderly}
use Rattle.token_session.proofs.Answered.{Law, judged_told_so, happened_steps, waits_told, sent_told_so}
use Rattle.token_session.proofs.laws.answers_follow_history.Goals as goal

pub returns : goal.returns
unfolding receive
returns c =
    let law : (start : Start) → ValidRows start.capacity start.rows → Law start = λ start l. record {
      answers = λ h x o. c.answers_follow_history.ensures.answers start h x l o;
      waits = λ h o. c.answers_follow_history.ensures.waits start h l o;
    } in
    record {
      told = λ start h l.
          let k = judged_told_so start (law start l) h in
          record {
            inputs = k;
            packets = sent_told_so start (law start l) h ∙ ap (packets_sent start) k;
            rows = rw (← k) (rw (core_is start (received start h), happened_steps start (law start l) h)
                (c.answers_follow_history.ensures.rows start (steps start (received start h)) l (orderly start h)));
          };
      waits = λ start h l. waits_told start (law start l) h;
    }
