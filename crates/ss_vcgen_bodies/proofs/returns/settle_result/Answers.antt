use Rattle.std.proofs.Common.{Option, Some, sym, ap, ◌∙◌}
use Rattle.std.specs.Prelude.{option_map}
use Rattle.ss_core.specs.declared.expr.Expr.{Expr}
use Rattle.ss_core.specs.View.{expr}
use Rattle.ss_terms.specs.Forms.{Forms}
use Rattle.ss_vcgen_builder.specs.Builder.{position_at, walk_at}
use Rattle.ss_vcgen_builder.proofs.Builds.{if_ok}
use Rattle.ss_vcgen_statements.proofs.Steps.{so}
use Rattle.ss_vcgen_bodies.specs.Words.{reached_result, result_reached}
use Rattle.ss_vcgen_bodies.proofs.returns.settle_result.Goals as goal

pub returns-in-Some-clause-at : goal.returns-in-Some-clause-at
returns-in-Some-clause-at c =
    let s = c.args.builder.now in
    if_ok c.settle_there.result (λ v h. record { has = h.has; are = λ b k. h.are b k ∙ ap (λ (o : Option Expr). result_reached (walk_at b c.args.walk.now) (option_map expr o) (position_at b s)) (sym c.in-Some.is) }) c.settle_there.ensures.at

pub returns-in-Some-clause-becomes : goal.returns-in-Some-clause-becomes
returns-in-Some-clause-becomes c =
    let s = c.args.builder.now in
    let word = λ (o : Option Expr) (b : Forms). reached_result (walk_at b c.args.walk.now) (option_map expr o) (position_at b s) in
    if_ok c.settle_there.result (λ v h. so s c.settle_there.new.builder (word (Some c.in-Some.e)) (word c.args.e.now) (λ b k. ap (λ (o : Option Expr). word o b) (sym c.in-Some.is)) h) c.settle_there.ensures.becomes

pub returns-in-None-clause-at : goal.returns-in-None-clause-at
returns-in-None-clause-at c =
    let s = c.args.builder.now in
    if_ok c.no_terms.result (λ v h. record { has = h.has; are = λ b k. h.are b k ∙ ap (λ (o : Option Expr). result_reached (walk_at b c.args.walk.now) (option_map expr o) (position_at b s)) (sym c.in-None.is) }) c.no_terms.ensures.at

pub returns-in-None-clause-becomes : goal.returns-in-None-clause-becomes
returns-in-None-clause-becomes c =
    let s = c.args.builder.now in
    let word = λ (o : Option Expr) (b : Forms). reached_result (walk_at b c.args.walk.now) (option_map expr o) (position_at b s) in
    if_ok c.no_terms.result (λ v h. so s c.no_terms.new.builder (λ b. position_at b s) (word c.args.e.now) (λ b k. ap (λ (o : Option Expr). word o b) (sym c.in-None.is)) h) c.no_terms.ensures.stays
