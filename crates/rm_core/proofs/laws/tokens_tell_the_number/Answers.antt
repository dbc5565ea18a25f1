use Rattle.rm_core.proofs.OneRun.{token_known, refusal_newer, refused_in_run}
use Rattle.rm_core.proofs.laws.tokens_tell_the_number.Goals as goal

pub returns-clause-held : goal.returns-clause-held
returns-clause-held c = token_known

pub returns-clause-revoked : goal.returns-clause-revoked
returns-clause-revoked c = refusal_newer

pub returns-clause-refused : goal.returns-clause-refused
returns-clause-refused c = refused_in_run
