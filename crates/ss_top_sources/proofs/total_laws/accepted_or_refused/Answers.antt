use Rattle.ss_top_sources.proofs.Sources.{accepted_or_refused}
use Rattle.ss_top_sources.proofs.total_laws.accepted_or_refused.Goals as goal

pub returns : goal.returns
returns c = accepted_or_refused
