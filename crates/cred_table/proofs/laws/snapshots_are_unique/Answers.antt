use Rattle.cred_table.proofs.OneSnapshot as lemmas
use Rattle.cred_table.proofs.laws.snapshots_are_unique.Goals as goal

pub returns : goal.returns
returns c = lemmas.snapshots_are_unique c.no_encoding_is_a_prefix.ensures
