use Rattle.std.proofs.Common.{sym, ◌∙◌}
use Rattle.ss_terms.specs.Forms.{formulas_at, symbol_of}
use Rattle.ss_check_steps.proofs.Exchanged.{congruence}
use Rattle.ss_check_steps.proofs.reads.is_congruent_apps.Goals as goal

pub returns-then-is_same_function : goal.returns-then-is_same_function
returns-then-is_same_function c =
    c.are_exchanged_at.ensures
    ∙ congruence c.args.bank.now (formulas_at c.args.bank.now c.args.known.now) c.args.js.now (symbol_of c.args.left.now.function) (symbol_of c.args.right.now.function) c.args.left.now.arguments.now c.args.right.now.arguments.now c.in-len1-up.len_at_least
    (sym c.is_same_function.ensures ∙ c.if-is_same_function.true)
