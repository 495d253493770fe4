use Rattle.std.proofs.Common.{◌<◌, List, length, arith, subst}
use Rattle.ss_core.specs.declared.class.Class.{Class}
use Rattle.ss_rules_asked_first.proofs.Declaring.{names_next}
use Rattle.ss_rules_asked_first.proofs.names.class_names.Goals as goal

pub loop-class-preserved : goal.loop-class-preserved
loop-class-preserved c =
    let within = subst (λ (xs : List Class). c.loop-class.class-index < length xs) c.deref-class-items.ensures.value c.loop-class-test.true in
    record {
      number = omega (arith, c.loop-class.invariant.number);
      names = names_next c.args.bank.now c.args.classes.now.list.items c.loop-class.class-index c.class-item.result c.loop-class.names.items c.push.new.self.items c.loop-class.t within c.loop-class.invariant.number c.loop-class.invariant.names c.in_ok-push.ensures.items;
    }
