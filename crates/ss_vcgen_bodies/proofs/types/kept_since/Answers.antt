use Rattle.std.proofs.Common.{Bool, Option, [], Some, sym, ap, ◌∙◌}
use Rattle.ss_terms.specs.declared.forms.TermId.{TermId}
use Rattle.ss_terms.specs.Forms.{Forms, term_at}
use Rattle.ss_vcgen_heaps.specs.Obligations as spec
use Rattle.ss_vcgen_builder.specs.Builder.{local_at, walk_at}
use Rattle.ss_vcgen_builder.proofs.Builds.{if_ok}
use Rattle.ss_vcgen_statements.proofs.Steps.{formulas_are}
use Rattle.ss_vcgen_bodies.specs.Words.{kept_type}
use Rattle.ss_vcgen_bodies.proofs.types.kept_since.Goals as goal

pub returns-in-Some-clause-at : goal.returns-in-Some-clause-at
returns-in-Some-clause-at c =
    let S = λ (b : Forms). term_at b c.args.store in
    let B = λ (b : Forms). term_at b c.args.before in
    let kept = λ (o : Option TermId) (b : Forms). kept_type (walk_at b c.args.walk.now) (S b) c.args.local.number c.args.local.ty (Some (B b)) (local_at b o) in
    let stays = λ (v : Bool) (b : Forms). spec.stays_of_type v (S b) c.args.local.ty (B b) (term_at b c.in-Some.new) in
    if_ok c.stays_of_type.result
    (λ v h. formulas_are c.stays_of_type.new.builder.bank v.items (stays c.is_asked_ready-asks_ready.result) (kept c.args.local.term)
    (λ b k. ap (λ (v : Bool). stays v b) (c.is_asked_ready-asks_ready.ensures b) ∙ ap (λ (o : Option TermId). kept o b) (sym c.in-Some.is)) h) c.stays_of_type.ensures.at

pub returns-in-None-clause-at : goal.returns-in-None-clause-at
returns-in-None-clause-at c =
    let S = λ (b : Forms). term_at b c.args.store in
    let B = λ (b : Forms). term_at b c.args.before in
    let kept = λ (o : Option TermId) (b : Forms). kept_type (walk_at b c.args.walk.now) (S b) c.args.local.number c.args.local.ty (Some (B b)) (local_at b o) in
    if_ok c.no_formulas.result (λ v h. formulas_are c.no_formulas.new.builder.bank v.items (λ (b : Forms). []) (kept c.args.local.term) (λ b k. ap (λ (o : Option TermId). kept o b) (sym c.in-None.is)) h) c.no_formulas.ensures.at
