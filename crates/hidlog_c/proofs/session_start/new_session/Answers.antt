use Rattle.hidlog_c.proofs.session_start.new_session.Goals as goal

pub returns : goal.returns
returns c = c.new.ensures.follows
