use Rattle.std.proofs.Common.{ap}
use Rattle.ss_core.specs.View.{expr}
use Rattle.ss_logic.specs.Express as spec
use Rattle.ss_terms.proofs.Grown.{IsGrown-then}
use Rattle.ss_vcgen_heaps.specs.Positions as positions
use Rattle.ss_vcgen_express.specs.Contexts.{context_at}
use Rattle.ss_vcgen_express.proofs.Grown.{formula_so}
use Rattle.ss_vcgen_builder.specs.Builder.{position_at, walk_at}
use Rattle.ss_vcgen_builder.proofs.Builds.{becomes_bank, becomes_then, if_ok}
use Rattle.ss_vcgen_statements.proofs.expressions.holds_at.Goals as goal

pub returns-clause-at : goal.returns-clause-at
returns-clause-at c =
    let s = c.args.builder.now in
    let w = c.args.walk.now in
    let x = expr c.args.e.now in
    formula_so c.holds.result c.holds.new.bank (λ b. spec.holds_formula x (context_at b c.in_ok-context.context)) (λ b. positions.holds_at (walk_at b w) (position_at b s) x)
    (λ b k. ap (spec.holds_formula x) (c.in_ok-context.ensures.at.is b (IsGrown-then c.context.new.builder.bank c.holds.new.bank b c.holds.ensures.grown k)))
    c.holds.ensures.at

pub returns-clause-stays : goal.returns-clause-stays
returns-clause-stays c =
    let s = c.args.builder.now in
    let t = c.context.new.builder in
    let p = c.in_ok-context.ensures.stays in
    if_ok c.holds.result (λ f _. becomes_then s t (record t { bank = c.holds.new.bank }) (λ b. position_at b s) (λ b k. k) p (becomes_bank t c.holds.new.bank p.fine c.holds.ensures.grown)) c.holds.ensures.at
