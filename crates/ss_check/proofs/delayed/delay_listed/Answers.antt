use Rattle.std.proofs.Common.{[], ◌∷◌, map, ap, ◌∙◌}
use Rattle.ss_core.specs.View as view
use Rattle.ss_logic.specs.Formulas.{Or, put, formulas_from}
use Rattle.ss_terms.specs.Forms.{term_at, formulas_at}
use Rattle.ss_check.specs.Delayed.{meant}
use Rattle.ss_check.proofs.Meant.{or_listed}
use Rattle.ss_check.proofs.delayed.delay_listed.Goals as goal

pub or-requires : goal.or-requires
or-requires c =
    let told = rw c.in-Some.is at c.in_ok-made.ensures.at in
    rw c.deref.ensures.value told.0

pub returns-clause-at : goal.returns-clause-at
returns-clause-at c =
    let cs = view.classes c.args.classes.now in
    let told = rw c.in-Some.is at c.in_ok-made.ensures.at in (
      c.in_ok-g.ensures.at.0,
      ap (meant cs) c.in_ok-g.ensures.at.1
          ∙ ap (λ xs. meant cs (Or (formulas_from (formulas_at c.delay_parts.new.bank xs)))) c.deref.ensures.value
          ∙ or_listed cs c.delay_parts.new.bank c.in-Some.made.items (map (put (term_at c.args.bank.now c.args.t ∷ [])) (formulas_at c.args.bank.now c.args.fs.now)) told.1,
    )
