use Rattle.std.proofs.Common.{sym, ◌∙◌}
use Rattle.ss_core.specs.View as view
use Rattle.ss_terms.specs.Forms.{formula_at}
use Rattle.ss_terms.proofs.Grown.{IsBankOf-grown}
use Rattle.ss_check.proofs.Meant.{meant_formed}
use Rattle.ss_check.proofs.delayed.delay_part.Goals as goal

pub returns-clause-at : goal.returns-clause-at
returns-clause-at c =
    let cs = view.classes c.args.classes.now in
    let of = IsBankOf-grown cs c.args.bank.now c.put.new.bank c.put.ensures.grown c.requires.bank in
    (c.in_ok-g.ensures.at.0, meant_formed cs (formula_at c.put.new.bank c.in_ok-g.g) (sym (c.if-not-is_well_formed.ensures cs of)) ∙ c.in_ok-g.ensures.at.1)
