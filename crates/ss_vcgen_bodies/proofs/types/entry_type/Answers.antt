use Rattle.std.proofs.Common.{Bool, Option, [], sym, ap, ◌∙◌}
use Rattle.ss_terms.specs.declared.forms.TermId.{TermId}
use Rattle.ss_terms.specs.Forms.{Forms, term_at}
use Rattle.ss_vcgen_heaps.specs.Contracts.{is_of_type}
use Rattle.ss_vcgen_builder.specs.Builder.{local_at, walk_at}
use Rattle.ss_vcgen_builder.proofs.Builds.{if_ok}
use Rattle.ss_vcgen_statements.proofs.Steps.{formulas_are}
use Rattle.ss_vcgen_bodies.specs.Words.{entry_type}
use Rattle.ss_vcgen_bodies.proofs.types.entry_type.Goals as goal

pub returns-in-Some-clause-at : goal.returns-in-Some-clause-at
returns-in-Some-clause-at c =
    let S = λ (b : Forms). term_at b c.args.store in
    let entry = λ (o : Option TermId) (b : Forms). entry_type (walk_at b c.args.walk.now) (S b) c.args.local.number c.args.local.ty (local_at b o) in
    let typed = λ (v : Bool) (b : Forms). is_of_type v (S b) c.args.local.ty (term_at b c.in-Some.new) in
    if_ok c.type_said.result
    (λ v h. formulas_are c.type_said.new.builder.bank v.items (typed c.is_asked_ready-asks_ready.result) (entry c.args.local.term)
    (λ b k. ap (λ (v : Bool). typed v b) (c.is_asked_ready-asks_ready.ensures b) ∙ ap (λ (o : Option TermId). entry o b) (sym c.in-Some.is)) h) c.type_said.ensures.at

pub returns-in-None-clause-at : goal.returns-in-None-clause-at
returns-in-None-clause-at c =
    let entry = λ (o : Option TermId) (b : Forms). entry_type (walk_at b c.args.walk.now) (term_at b c.args.store) c.args.local.number c.args.local.ty (local_at b o) in
    if_ok c.no_formulas.result (λ v h. formulas_are c.no_formulas.new.builder.bank v.items (λ (b : Forms). []) (entry c.args.local.term) (λ b k. ap (λ (o : Option TermId). entry o b) (sym c.in-None.is)) h) c.no_formulas.ensures.at
