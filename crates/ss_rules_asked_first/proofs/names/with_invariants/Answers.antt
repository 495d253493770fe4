use Rattle.std.proofs.Common.{◌<◌, ◌++◌, List, length, get_or, arith, subst, ◌∙◌, ap}
use Rattle.ss_core.specs.View as view
use Rattle.ss_core.specs.declared.class.Class.{Class}
use Rattle.ss_rules_asked.specs.Numbers.{arguments_at}
use Rattle.ss_rules_asked_first.specs.Named.{AreArguments}
use Rattle.ss_rules_asked_first.proofs.Declaring.{invariants_next, one_class}
use Rattle.ss_rules_asked_first.proofs.names.with_invariants.Goals as goal

pub loop-class-preserved : goal.loop-class-preserved
loop-class-preserved c =
    let within = subst (λ (xs : List Class). c.loop-class.class-index < length xs) c.deref-class-items.ensures.value c.loop-class-test.true in
    let here = c.class-item.is ∙ ap (λ (xs : List Class). get_or xs c.loop-class.class-index c.class-item.result) c.deref-class-items.ensures.value in
    record {
      number = omega (arith, c.loop-class.invariant.number);
      names = invariants_next c.args.bank.now c.args.classes.now.list.items c.loop-class.class-index c.class-item.result c.loop-class.names.items c.add_with_invariants.new.names.items c.loop-class.t within c.loop-class.invariant.number c.loop-class.invariant.names
          (subst (λ k. AreArguments c.args.bank.now c.add_with_invariants.new.names.items (arguments_at c.args.bank.now c.loop-class.names.items ++ one_class c.loop-class.t (view.class_of k))) here c.in_ok-add_with_invariants.ensures);
    }
