use Rattle.ss_core.specs.View.{classes, exprs}
use Rattle.ss_vcgen_express.specs.Contexts.{context_at}
use Rattle.ss_rules_instances.proofs.Said.{each_so}
use Rattle.ss_rules_instances.proofs.instances.each_said.Goals as goal

pub returns-clause-at : goal.returns-clause-at
returns-clause-at c =
    each_so (classes c.args.classes.now) c.args.store c.args.object c.args.class c.conditions.result c.conditions.new.bank (λ b. context_at b c.in_ok-context.context) (exprs c.invariants_of.result.now)
    c.invariants_of.ensures c.in_ok-context.ensures.says c.conditions.ensures.at
