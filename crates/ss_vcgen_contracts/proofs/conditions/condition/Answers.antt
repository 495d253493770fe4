use Rattle.std.proofs.Common.{[], ◌∷◌, refl, sym, ap, ◌∙◌}
use Rattle.ss_core.specs.Tree.{ConsistentArgument}
use Rattle.ss_core.specs.View as view
use Rattle.ss_logic.specs.Express.{and_of, default_said, holds_formula}
use Rattle.ss_vcgen_express.specs.Contexts.{context_at}
use Rattle.ss_vcgen_express.proofs.Grown.{formula_so}
use Rattle.ss_vcgen_contracts.specs.Seen.{is_at_level, condition_of}
use Rattle.ss_vcgen_contracts.proofs.Seeing.{level_is, condition_is}
use Rattle.ss_vcgen_contracts.proofs.conditions.condition.Goals as goal

pub returns-then-replaced-clause-at : goal.returns-then-replaced-clause-at
returns-then-replaced-clause-at c =
    let t = view.expr c.args.e.now in
    let s = c.args.context.now in
    formula_so c.consistent_this.result c.consistent_this.new.bank (λ b. and_of (default_said (context_at b s) (ConsistentArgument 0) ∷ [])) (λ b. holds_formula (condition_of c.args.seen t) (context_at b s))
    (λ b k. sym (level_is c.args.seen t (context_at b s) (sym c.is_replaced-replaced.ensures ∙ c.if-replaced.true))) c.consistent_this.ensures.at

pub returns-else-replaced-clause-at : goal.returns-else-replaced-clause-at
returns-else-replaced-clause-at c =
    let t = view.expr c.args.e.now in
    let s = c.args.context.now in
    formula_so c.holds.result c.holds.new.bank (λ b. holds_formula t (context_at b s)) (λ b. holds_formula (condition_of c.args.seen t) (context_at b s))
    (λ b k. ap (λ u. holds_formula u (context_at b s)) (sym (condition_is c.args.seen (is_at_level t) t refl (sym c.is_replaced-replaced.ensures ∙ c.if-replaced.false)))) c.holds.ensures.at
