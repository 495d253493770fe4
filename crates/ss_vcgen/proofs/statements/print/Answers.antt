use Rattle.std.proofs.Common.{Option, sym, ap}
use Rattle.std.specs.Prelude.{option_map}
use Rattle.ss_core.specs.declared.expr.Expr.{Expr}
use Rattle.ss_core.specs.View.{expr}
use Rattle.ss_terms.specs.Forms.{Forms}
use Rattle.ss_vcgen_heaps.specs.Positions.{evaluate}
use Rattle.ss_vcgen_heaps.specs.Obligations.{evaluate_result}
use Rattle.ss_vcgen_builder.specs.Builder.{position_at, walk_at}
use Rattle.ss_vcgen_statements.proofs.Steps.{so, stays}
use Rattle.ss_vcgen_bodies.proofs.Arms.{arm}
use Rattle.ss_vcgen.proofs.statements.print.Goals as goal

pub returns-in-Some : goal.returns-in-Some
returns-in-Some c =
    let s = c.args.builder.now in
    let word = λ (o : Option Expr) (b : Forms). evaluate_result (walk_at b c.args.walk.now) (option_map expr o) (position_at b s) in
    arm c.print_value.result s c.print_value.new.builder (λ b. evaluate (walk_at b c.args.walk.now) (expr c.in-Some.e) (position_at b s)) (word c.args.e.now) (λ b. ap (λ (o : Option Expr). word o b) (sym c.in-Some.is)) c.print_value.ensures

pub returns-in-None : goal.returns-in-None
returns-in-None c =
    let s = c.args.builder.now in
    let word = λ (o : Option Expr) (b : Forms). evaluate_result (walk_at b c.args.walk.now) (option_map expr o) (position_at b s) in
    so s s (λ b. position_at b s) (word c.args.e.now) (λ b k. ap (λ (o : Option Expr). word o b) (sym c.in-None.is)) (stays s c.requires.fine)
