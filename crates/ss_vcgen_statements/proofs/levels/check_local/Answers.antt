use Rattle.std.proofs.Common.{ap, ◌∙◌}
use Rattle.std.specs.Prelude.{slice_get, ◌||◌}
use Rattle.ss_core.specs.declared.names.Kind.TheVariants as kind
use Rattle.ss_store_rules.specs.NonNull.{is_non_null_type}
use Rattle.ss_logic.specs.Shapes.{null_term, differ}
use Rattle.ss_terms.specs.Forms.{Forms}
use Rattle.ss_vcgen_heaps.specs.Positions.{check_unless, local_term}
use Rattle.ss_vcgen_heaps.specs.Obligations.{check_local}
use Rattle.ss_vcgen_known.specs.Views.{known_of}
use Rattle.ss_vcgen_builder.specs.Builder.{position_at, walk_at}
use Rattle.ss_vcgen_statements.proofs.Steps.{so, then_formula}
use Rattle.ss_vcgen_statements.proofs.levels.check_local.Goals as goal

pub returns : goal.returns
returns c =
    let s = c.args.builder.now in
    let w = λ (b : Forms). walk_at b c.args.walk.now in
    let F0 = λ (b : Forms). position_at b s in
    let t1 = c.say_local.new.builder in
    let t2 = c.check_unless.new.self in
    let says = λ (b : Forms). differ (local_term c.args.x (F0 b)) null_term in
    let known = c.is_known_local-known.result in
    let F2 = λ (b : Forms). check_unless known (w b) kind.Null c.args.at (says b) (F0 b) in
    let p2 = then_formula s t1 t2 F0 c.in_ok-f.ensures.stays c.in_ok-f.f says (λ b f k. check_unless known (w b) kind.Null c.args.at f k) c.in_ok-f.ensures.at c.in_ok-check_unless.ensures in
    so s t2 F2 (λ b. check_local (w b) c.args.at c.args.x (F0 b))
    (λ b k. ap (λ x. check_unless x (w b) kind.Null c.args.at (says b) (F0 b)) (c.is_known_local-known.ensures ∙ ap (λ ts. is_non_null_type (slice_get ts c.args.x) || (known_of s.known).facts c.args.x) c.requires.walk.types)) p2
