use Rattle.std.proofs.Common.{subst}
use Rattle.ss_core.specs.View as view
use Rattle.ss_rules.specs.AreMade.{AreNumbers}
use Rattle.ss_rules.proofs.Again.{HasAsked-grown}
use Rattle.ss_rules.proofs.made.Made.add_said.Goals as goal

pub returns-clause-made : goal.returns-clause-made
returns-clause-made c = record {
  has = HasAsked-grown c.args.bank.now c.add_each.new.bank c.add_each.ensures.grown c.args.asked.items c.requires.asked;
  are = subst (λ xs. AreNumbers (view.classes c.args.classes.now) c.add_each.new.bank xs c.in_ok-found.found.items) c.deref.ensures.value c.in_ok-found.ensures.numbers;
}
