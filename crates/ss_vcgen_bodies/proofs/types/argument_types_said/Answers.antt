use Rattle.std.proofs.Common.{◌≡◌, ◌+◌, ◌++◌, List, Option, drop, get_or, sym, ap, subst, ◌∙◌}
use Rattle.std.proofs.lemmas.List.{drop_all, drop_more}
use Rattle.std.specs.Prelude.{slice_get}
use Rattle.ss_core.specs.declared.names.Ty.{Ty}
use Rattle.ss_core.specs.declared.names.Ty.TheVariants as ty
use Rattle.ss_logic.specs.Terms.{Term}
use Rattle.ss_terms.specs.declared.forms.TermId.{TermId}
use Rattle.ss_terms.specs.Forms.{Forms, term_at}
use Rattle.ss_terms.proofs.Grown.{IsGrown-then, HasTerm-grown}
use Rattle.ss_vcgen_heaps.specs.Positions.{Position}
use Rattle.ss_vcgen_heaps.specs.Obligations as spec
use Rattle.ss_vcgen_builder.specs.Builder.{local_at, position_at, walk_at}
use Rattle.ss_terms.specs.Numbered.{HasTermOf}
use Rattle.ss_vcgen_statements.proofs.Steps.{formulas_are}
use Rattle.ss_vcgen_bodies.specs.Words.{flat, entry_type}
use Rattle.ss_vcgen_bodies.proofs.Keeping.{local_found, HasTermOf-found, entry_next}
use Rattle.ss_vcgen_bodies.proofs.Making.{no_formula_made, formulas_on, formulas_made}
use Rattle.ss_vcgen_bodies.proofs.types.argument_types_said.Goals as goal

pub loop-x-init : goal.loop-x-init
loop-x-init c = no_formula_made c.args.builder.now c.new-made.result.items c.requires c.new-made.ensures.items (λ b. spec.argument_types_from (walk_at b c.args.walk.now) (term_at b c.args.builder.now.store) 0 c.args.types.now (position_at b c.args.builder.now).locals)

pub entry_type-requires-clause-store : goal.entry_type-requires-clause-store
entry_type-requires-clause-store c = HasTerm-grown c.args.builder.now.bank c.loop-x.builder.bank c.loop-x.invariant.stays.grown c.args.builder.now.store c.requires.store

pub entry_type-requires-clause-now : goal.entry_type-requires-clause-now
entry_type-requires-clause-now c =
    let t = c.loop-x.builder in
    subst (λ (o : Option TermId). HasTermOf t.bank o) (sym (c.local_in-now.ensures ∙ ap (λ (ls : List (Option TermId)). flat (slice_get ls c.loop-x.x)) c.deref.ensures.value))
    (HasTermOf-found t.bank t.locals.items c.loop-x.x c.loop-x.invariant.stays.fine.locals)

pub loop-x-preserved : goal.loop-x-preserved
loop-x-preserved c =
    let s = c.args.builder.now in
    let t = c.loop-x.builder in
    let u = c.entry_type.new.builder in
    let ts = c.args.types.now in
    let x = c.loop-x.x in
    let a = get_or ts x ty.Int in
    let m = c.loop-x.invariant in
    let q = c.in_ok-typed.ensures.stays in
    let w = λ (b : Forms). walk_at b c.args.walk.now in
    let S = λ (b : Forms). term_at b s.store in
    let us = λ (b : Forms). (position_at b s).locals in
    let said = λ (b : Forms). entry_type (w b) (S b) x a (flat (slice_get (us b) x)) in
    let typed = formulas_are u.bank c.in_ok-typed.typed.items (λ b. entry_type (w b) (S b) x a (local_at b c.local_in-now.result)) said
    (λ b k.
    ap (λ (o : Option Term). entry_type (w b) (S b) x a o)
    (ap (local_at b) (c.local_in-now.ensures ∙ ap (λ (ls : List (Option TermId)). flat (slice_get ls x)) c.deref.ensures.value) ∙ local_found b t.locals.items x
    ∙ ap (λ (l : Position). flat (slice_get l.locals x)) (m.stays.is b (IsGrown-then t.bank u.bank b q.grown k))))
    c.in_ok-typed.ensures.at in
    formulas_on s t u c.loop-x.made.items c.in_ok-typed.typed.items c.extend_from_slice.new.self.items (λ b. spec.argument_types_from (w b) (S b) x (drop x ts) (drop x (us b))) said
    (λ b. spec.argument_types_from (w b) (S b) (x + 1) (drop (x + 1) ts) (drop (x + 1) (us b))) (λ b. spec.argument_types_from (w b) (S b) 0 ts (us b))
    m q typed (c.in_ok-extend_from_slice.ensures.items ∙ ap (λ fs. c.loop-x.made.items ++ fs) c.deref-in-loop-x.ensures.value)
    (λ b k. entry_next (w b) (S b) x a ts (us b) (drop_more ts x ty.Int c.loop-x-test.true))

pub returns-clause-at : goal.returns-clause-at
returns-clause-at c =
    let s = c.args.builder.now in
    let ts = c.args.types.now in
    let x = c.loop-x.x in
    let w = λ (b : Forms). walk_at b c.args.walk.now in
    let S = λ (b : Forms). term_at b s.store in
    let us = λ (b : Forms). (position_at b s).locals in
    formulas_made s c.loop-x.builder c.loop-x.made.items (λ b. spec.argument_types_from (w b) (S b) x (drop x ts) (drop x (us b))) (λ b. spec.argument_types_from (w b) (S b) 0 ts (us b)) c.loop-x.invariant
    (λ b. ap (λ (vs : List Ty). spec.argument_types_from (w b) (S b) x vs (drop x (us b))) (drop_all x ts c.loop-x-test.false))

pub returns-clause-stays : goal.returns-clause-stays
returns-clause-stays c = c.loop-x.invariant.stays
