use Rattle.std.proofs.Common.{[], ◌∷◌}
use Rattle.ss_core.specs.View as view
use Rattle.ss_terms.specs.Forms.{term_at, formula_at}
use Rattle.ss_check.proofs.Meant.{instance_formed}
use Rattle.ss_check.proofs.delayed.delay_formed.Goals as goal

pub returns-clause-at : goal.returns-clause-at
returns-clause-at c =
    let told = rw c.in-Some.is at c.in_ok-g.ensures.at in
    (told.0, told.1, instance_formed (view.classes c.args.classes.now) (term_at c.args.bank.now c.args.t ∷ []) (formula_at c.args.bank.now c.args.f) _ c.requires.formed told.1)
