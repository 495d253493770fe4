use Rattle.ss_terms.specs.Forms.{formulas_at}
use Rattle.ss_search_models.proofs.Models.{countered}
use Rattle.ss_search_models.proofs.checking.model.Goals as goal

pub returns-in_ok-model : goal.returns-in_ok-model
returns-in_ok-model c = λ cs of.
    countered c.args.bank.now c.args.candidate.now (formulas_at c.args.bank.now c.args.formulas.now) c.requires.candidate cs c.in_ok-model.field-0
    c.in_ok-model.ensures.classes c.in_ok-model.ensures.truth (c.in_ok-refutes.ensures cs of c.if-branch.true)
