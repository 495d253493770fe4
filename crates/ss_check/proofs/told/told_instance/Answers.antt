use Rattle.std.proofs.Common.{◌∙◌}
use Rattle.ss_core.specs.View as view
use Rattle.ss_terms.specs.Forms.{terms_at, formulas_at}
use Rattle.ss_check.proofs.Meant.{instance_same, formed_told}
use Rattle.ss_check.proofs.told.told_instance.Goals as goal

pub returns-in_default-clause-at : goal.returns-in_default-clause-at
returns-in_default-clause-at c = instance_same (view.classes c.args.classes.now) (terms_at c.args.bank.now c.args.ts.now) (formulas_at c.args.bank.now c.args.known.now) c.args.i

pub returns-clause-at : goal.returns-clause-at
returns-clause-at c =
    let told = rw c.in-Some.is at c.in_ok-g.ensures.at in
    (told.0, formed_told (view.classes c.args.classes.now) _ _ (instance_same (view.classes c.args.classes.now) (terms_at c.args.bank.now c.args.ts.now) (formulas_at c.args.bank.now c.args.known.now) c.args.i ∙ told.1) told.2)
