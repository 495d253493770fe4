use Rattle.std.proofs.Common.{false, ap, ◌∙◌}
use Rattle.ss_core.specs.declared.names.Kind.TheVariants as kind
use Rattle.ss_core.specs.View.{classes, body, expr}
use Rattle.ss_store_rules.specs.NonNull.{is_never_null}
use Rattle.ss_logic.specs.Shapes.{null_term, differ}
use Rattle.ss_terms.specs.Forms.{Forms, term_at}
use Rattle.ss_vcgen_heaps.specs.Positions.{check_unless, site}
use Rattle.ss_vcgen_heaps.specs.Obligations.{check_not_null}
use Rattle.ss_vcgen_known.specs.declared.tests.Tests.TheVariants as tests
use Rattle.ss_vcgen_known.specs.Views.{known_of, tested}
use Rattle.ss_vcgen_builder.specs.Builder.{position_at, walk_at}
use Rattle.ss_vcgen_statements.proofs.Evaluated.{site_from, tested_nothing}
use Rattle.ss_vcgen_statements.proofs.Steps.{so, then_formula}
use Rattle.ss_vcgen_statements.proofs.writes.check_not_null.Goals as goal

pub returns : goal.returns
returns c =
    let s = c.args.builder.now in
    let w = λ (b : Forms). walk_at b c.args.walk.now in
    let e = expr c.args.e.now in
    let F0 = λ (b : Forms). position_at b s in
    let t1 = c.say.new.builder in
    let p1 = c.in_ok-f.ensures.stays in
    let t2 = c.check_unless.new.self in
    let e2 = c.in_ok-check_unless.ensures in
    let says = λ (b : Forms). differ (term_at b c.args.o) null_term in
    let known = c.is_never_null-known.result in
    let F2 = λ (b : Forms). check_unless known (w b) kind.Null c.args.at (says b) (F0 b) in
    let p2 = then_formula s t1 t2 F0 p1 c.in_ok-f.f says (λ b f k. check_unless known (w b) kind.Null c.args.at f k) c.in_ok-f.ensures.at e2 in
    so s t2 F2 (λ b. check_not_null (w b) c.args.at e (term_at b c.args.o) (F0 b))
    (λ b k.
    ap (λ x. check_unless x (w b) kind.Null c.args.at (says b) (F0 b))
    (c.is_never_null-known.ensures
    ∙ ap (λ ts. is_never_null (site_from (classes c.args.walk.now.core.now.classes) ts (body c.args.walk.now.body.now).flags.ctor) (tested tests.Nothing (known_of s.known)) false e) c.requires.walk.types
    ∙ ap (λ x. is_never_null (site (w b)) x false e) (tested_nothing (known_of s.known)))) p2
