use Rattle.std.proofs.Common.{Option, [], Some, sym, ap}
use Rattle.ss_terms.specs.declared.forms.TermId.{TermId}
use Rattle.ss_terms.specs.Forms.{Forms, term_at}
use Rattle.ss_vcgen_builder.specs.Builder.{local_at, walk_at}
use Rattle.ss_vcgen_builder.proofs.Builds.{if_ok}
use Rattle.ss_vcgen_statements.proofs.Steps.{formulas_are}
use Rattle.ss_vcgen_bodies.specs.Words.{kept_type}
use Rattle.ss_vcgen_bodies.proofs.types.kept_type.Goals as goal

pub returns-in-Some-clause-at : goal.returns-in-Some-clause-at
returns-in-Some-clause-at c =
    let kept = λ (o : Option TermId) (b : Forms). kept_type (walk_at b c.args.walk.now) (term_at b c.args.store) c.args.local.number c.args.local.ty (local_at b o) (local_at b c.args.local.term) in
    if_ok c.kept_since.result (λ v h. formulas_are c.kept_since.new.builder.bank v.items (kept (Some c.in-Some.old)) (kept c.args.before) (λ b k. ap (λ (o : Option TermId). kept o b) (sym c.in-Some.is)) h) c.kept_since.ensures.at

pub returns-in-None-clause-at : goal.returns-in-None-clause-at
returns-in-None-clause-at c =
    let kept = λ (o : Option TermId) (b : Forms). kept_type (walk_at b c.args.walk.now) (term_at b c.args.store) c.args.local.number c.args.local.ty (local_at b o) (local_at b c.args.local.term) in
    if_ok c.no_formulas.result (λ v h. formulas_are c.no_formulas.new.builder.bank v.items (λ (b : Forms). []) (kept c.args.before) (λ b k. ap (λ (o : Option TermId). kept o b) (sym c.in-None.is)) h) c.no_formulas.ensures.at
