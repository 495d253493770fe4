use Rattle.std.proofs.Common.{Bool, ◌++◌, ap, ◌∙◌}
use Rattle.ss_core.specs.declared.names.Ty.{Ty}
use Rattle.ss_core.specs.Types.{nullable}
use Rattle.ss_terms.specs.Forms.{Forms, term_at}
use Rattle.ss_terms.proofs.Grown.{HasTerm-grown}
use Rattle.ss_vcgen_heaps.specs.Contracts.{is_of_type}
use Rattle.ss_vcgen_heaps.specs.Obligations as spec
use Rattle.ss_vcgen_statements.proofs.Steps.{stays_then, formulas_later, formulas_are}
use Rattle.ss_vcgen_bodies.specs.Words.{not_lost}
use Rattle.ss_vcgen_bodies.proofs.Keeping.{stays_is}
use Rattle.ss_vcgen_bodies.proofs.Making.{formulas_joined}
use Rattle.ss_vcgen_bodies.proofs.types.stays_of_type.Goals as goal

pub not_lost-requires-clause-before : goal.not_lost-requires-clause-before
not_lost-requires-clause-before c = HasTerm-grown c.args.builder.now.bank c.type_said.new.builder.bank c.in_ok-said.ensures.stays.grown c.args.before c.requires.before

pub not_lost-requires-clause-now : goal.not_lost-requires-clause-now
not_lost-requires-clause-now c = HasTerm-grown c.args.builder.now.bank c.type_said.new.builder.bank c.in_ok-said.ensures.stays.grown c.args.now c.requires.now

pub returns-clause-stays : goal.returns-clause-stays
returns-clause-stays c = stays_then c.args.builder.now c.type_said.new.builder c.not_lost.new.builder c.in_ok-said.ensures.stays c.in_ok-more.ensures.stays

pub returns-clause-at : goal.returns-clause-at
returns-clause-at c =
    let t1 = c.type_said.new.builder in
    let t2 = c.not_lost.new.builder in
    let S = λ (b : Forms). term_at b c.args.store in
    let B = λ (b : Forms). term_at b c.args.before in
    let N = λ (b : Forms). term_at b c.args.now in
    let said = λ (b : Forms). is_of_type c.args.asks_ready (S b) c.nullable.result (N b) in
    let more = λ (b : Forms). not_lost c.is_non_null-lost.result (B b) (N b) in
    formulas_are t2.bank c.extend_from_slice.new.self.items (λ b. said b ++ more b) (λ b. spec.stays_of_type c.args.asks_ready (S b) c.args.ty (B b) (N b))
    (λ b k.
    ap (λ (t : Ty). is_of_type c.args.asks_ready (S b) t (N b) ++ more b) c.nullable.ensures
    ∙ ap (λ (v : Bool). is_of_type c.args.asks_ready (S b) (nullable c.args.ty) (N b) ++ not_lost v (B b) (N b)) c.is_non_null-lost.ensures
    ∙ stays_is c.args.asks_ready (S b) c.args.ty (B b) (N b))
    (formulas_joined t2.bank c.in_ok-said.said.items c.in_ok-more.more.items c.extend_from_slice.new.self.items said more
    (formulas_later t1.bank t2.bank c.in_ok-more.ensures.stays.grown c.in_ok-said.said.items said c.in_ok-said.ensures.at) c.in_ok-more.ensures.at
    (c.in_ok-extend_from_slice.ensures.items ∙ ap (λ fs. c.in_ok-said.said.items ++ fs) c.deref.ensures.value))
