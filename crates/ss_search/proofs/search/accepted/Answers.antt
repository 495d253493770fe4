use Rattle.std.proofs.Common.{◌≡◌, arith}
use Rattle.ss_core.specs.View.{classes}
use Rattle.ss_terms.specs.Forms.{formula_at, formulas_at, IsGrown}
use Rattle.ss_search.proofs.Kept.{lines_kept}
use Rattle.ss_search.proofs.search.accepted.Goals as goal

pub returns-in-Ok-clause-derives : goal.returns-in-Ok-clause-derives
returns-in-Ok-clause-derives c =
    let premises = formulas_at c.args.bank.now c.args.obligation.now.premises.now in
    let wanted = formula_at c.args.bank.now c.args.obligation.now.goal in
    let grown : IsGrown c.args.bank.now c.forget.new.self = c.forget.ensures.grown c.args.bank.now c.check-checked.ensures.grown (omega (arith, c.mark-mark.ensures.terms)) (omega (arith, c.mark-mark.ensures.formulas)) in
    rw (lines_kept (classes c.args.program.now.classes) premises wanted c.args.bank.now c.forget.new.self grown c.args.derivation c.in-Ok.ensures.derives) c.in-Ok.ensures.derives
