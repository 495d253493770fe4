use Rattle.std.proofs.Common.{List, [], ◌∷◌, ◌++◌, Option, None, sym, ap, ◌∙◌}
use Rattle.std.proofs.lemmas.List.{append-nil}
use Rattle.ss_core.specs.declared.names.Ty.{Ty}
use Rattle.ss_logic.specs.Terms.{Term}
use Rattle.ss_terms.specs.Forms.{Forms}
use Rattle.ss_vcgen_builder.specs.Builder.{position_at}
use Rattle.ss_vcgen_statements.proofs.Steps.{so, stays}
use Rattle.ss_vcgen.specs.Bodies.{result_entered}
use Rattle.ss_vcgen_bodies.proofs.Arms.{arm}
use Rattle.ss_vcgen.proofs.bodies.enter_result.Goals as goal

pub returns-in-Some : goal.returns-in-Some
returns-in-Some c =
    let s = c.args.builder.now in
    arm c.add_local.result s c.add_local.new.self (λ (b : Forms). record (position_at b s) { locals = (position_at b s).locals ++ None ∷ [] }) (λ b. result_entered c.args.result_type (position_at b s))
    (λ b. ap (λ (r : Option Ty). result_entered r (position_at b s)) (sym c.in-Some.is)) c.add_local.ensures

pub returns-in-None : goal.returns-in-None
returns-in-None c =
    let s = c.args.builder.now in
    so s s (λ (b : Forms). position_at b s) (λ b. result_entered c.args.result_type (position_at b s))
    (λ b k. ap (λ (ts : List (Option Term)). record (position_at b s) { locals = ts }) (sym (append-nil (position_at b s).locals)) ∙ ap (λ (r : Option Ty). result_entered r (position_at b s)) (sym c.in-None.is))
    (stays s c.requires)
