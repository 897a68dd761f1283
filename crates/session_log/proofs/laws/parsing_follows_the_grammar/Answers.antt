use Rattle.session_log.proofs.Spelled.{spelled_is_read, read_is_spelled, spells_nothing, reads_nothing}
use Rattle.session_log.proofs.laws.parsing_follows_the_grammar.Goals as goal

pub returns-clause-read : goal.returns-clause-read
returns-clause-read c = λ line l. (read_is_spelled line l, spelled_is_read line l)

pub returns-clause-refused : goal.returns-clause-refused
returns-clause-refused c = λ line. (λ e l h. reads_nothing line l e h, λ h. spells_nothing line h)
