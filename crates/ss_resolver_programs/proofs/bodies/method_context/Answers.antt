use Rattle.ss_resolver_programs.proofs.Bodied.{result_is}
use Rattle.ss_resolver_programs.proofs.bodies.method_context.Goals as goal

pub returns : goal.returns
returns c = λ a. result_is c.args.context.now c.outcome_of.result _ a c.outcome_of.ensures
