use Rattle.std.proofs.Common.{refl, sym}
use Rattle.ss_core.specs.View as view
use Rattle.ss_logic_means.specs.Steps.{part_of}
use Rattle.ss_terms.specs.Forms.{term_at, formula_at}
use Rattle.ss_check.proofs.Meant.{part_delayed, told_equal}
use Rattle.ss_check.proofs.told.part_told.Goals as goal

pub returns-clause-at : goal.returns-clause-at
returns-clause-at c =
    let f = formula_at c.args.bank.now c.args.f in
    told_equal c.piece.result (view.classes c.args.classes.now) c.piece.new.bank _ _ _ _
    (sym (part_delayed (view.classes c.args.classes.now) c.args.j f (formula_at c.args.bank.now c.in-Some.p, term_at c.args.bank.now c.in-Some.t) c.in-Some.ensures.2)) refl
    (c.piece.ensures.at (part_of c.args.j f))
