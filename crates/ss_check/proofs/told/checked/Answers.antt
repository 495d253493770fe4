use Rattle.std.proofs.Common.{sym, ◌∙◌}
use Rattle.ss_core.specs.View as view
use Rattle.ss_terms.specs.Forms.{formula_at}
use Rattle.ss_check.proofs.Meant.{formed_some, formed_none}
use Rattle.ss_check.proofs.told.checked.Goals as goal

pub returns-then-is_well_formed : goal.returns-then-is_well_formed
returns-then-is_well_formed c = λ plain.
    (c.requires.formula, formed_some (view.classes c.args.classes.now) (formula_at c.args.bank.now c.args.f) (sym (c.is_well_formed.ensures (view.classes c.args.classes.now) c.requires.bank) ∙ c.if-is_well_formed.true))

pub returns : goal.returns
returns c = λ plain. formed_none (view.classes c.args.classes.now) (formula_at c.args.bank.now c.args.f) (sym (c.is_well_formed.ensures (view.classes c.args.classes.now) c.requires.bank) ∙ c.if-is_well_formed.false)
