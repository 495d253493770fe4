use Rattle.std.proofs.Common.{List, [], ◌∷◌, ◌++◌}
use Rattle.ss_terms.specs.declared.forms.FormulaId.{FormulaId}
use Rattle.ss_terms.specs.Forms.{Forms, HasFormulas}
use Rattle.ss_check.proofs.choices.are_choices.Goals as goal

HasFormulas-joined : (b : Forms) (fs gs : List FormulaId) → HasFormulas b fs → HasFormulas b gs → HasFormulas b (fs ++ gs)
HasFormulas-joined b [] gs h k = k
HasFormulas-joined b (f ∷ fs) gs h k = (h.0, HasFormulas-joined b fs gs h.1 k)

pub are_new-requires-clause-formulas : goal.are_new-requires-clause-formulas
are_new-requires-clause-formulas c =
    rw (c.deref.ensures.value, c.in_ok-used.ensures)
    (c.requires.body, (c.requires.goal, HasFormulas-joined c.args.bank.now c.args.context.now.premises.now c.args.known.now c.requires.premises c.requires.known))
