use Rattle.std.proofs.Common.{ap, sym}
use Rattle.std.specs.Prelude.{option_and_then}
use Rattle.ss_core.specs.View as view
use Rattle.ss_logic_means.specs.Steps.{part_of}
use Rattle.ss_terms.specs.Forms.{formula_at, formulas_at}
use Rattle.ss_check.proofs.Meant.{look_meant, told_equal}
use Rattle.ss_check.proofs.told.told_part.Goals as goal

pub returns-clause-at : goal.returns-clause-at
returns-clause-at c =
    told_equal c.part_told.result (view.classes c.args.classes.now) c.part_told.new.bank _ _ _ _
    (sym (look_meant (view.classes c.args.classes.now) (part_of c.args.j) (formula_at c.args.bank.now c.in-Some.f) (formulas_at c.args.bank.now c.args.known.now) c.args.i c.in-Some.ensures.1))
    (sym (ap (option_and_then (part_of c.args.j)) c.in-Some.ensures.1))
    c.part_told.ensures.at
