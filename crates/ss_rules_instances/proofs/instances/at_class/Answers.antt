use Rattle.ss_core.specs.View.{classes}
use Rattle.ss_rules_instances.proofs.Said.{instance_so}
use Rattle.ss_rules_instances.proofs.instances.at_class.Goals as goal

pub returns-clause-at : goal.returns-clause-at
returns-clause-at c =
    rw c.in-Some.is
    (instance_so (classes c.args.classes.now) c.args.store c.args.object c.in-Some.class c.args.bank.now c.packed.new.bank c.in_ok-f.f c.packed.ensures.grown c.requires.store c.requires.object
    c.in_ok-f.ensures.at)
