use Rattle.std.proofs.Common.{Bool, [], true, sym, ap}
use Rattle.ss_terms.specs.Forms.{Forms, term_at}
use Rattle.ss_vcgen_builder.proofs.Builds.{if_ok}
use Rattle.ss_vcgen_statements.proofs.Steps.{formulas_are}
use Rattle.ss_vcgen_bodies.specs.Words.{not_lost}
use Rattle.ss_vcgen_bodies.proofs.types.not_lost.Goals as goal

pub returns-then-non_null-clause-at : goal.returns-then-non_null-clause-at
returns-then-non_null-clause-at c =
    let at = λ (v : Bool) (b : Forms). not_lost v (term_at b c.args.before) (term_at b c.args.now) in
    if_ok c.stays_alone.result (λ v h. formulas_are c.stays_alone.new.builder.bank v.items (at true) (at c.args.non_null) (λ b k. ap (λ (v : Bool). at v b) (sym c.if-non_null.true)) h) c.stays_alone.ensures.at

pub returns-else-non_null-clause-at : goal.returns-else-non_null-clause-at
returns-else-non_null-clause-at c =
    let at = λ (v : Bool) (b : Forms). not_lost v (term_at b c.args.before) (term_at b c.args.now) in
    if_ok c.no_formulas.result (λ v h. formulas_are c.no_formulas.new.builder.bank v.items (λ (b : Forms). []) (at c.args.non_null) (λ b k. ap (λ (v : Bool). at v b) (sym c.if-non_null.false)) h) c.no_formulas.ensures.at
