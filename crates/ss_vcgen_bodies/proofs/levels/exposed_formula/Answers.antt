use Rattle.std.proofs.Common.{List, [], ◌∷◌, ◌++◌, map, refl, ap, ◌∙◌}
use Rattle.ss_logic.specs.Shapes.{null_term, class_term, level_of, equal}
use Rattle.ss_logic.specs.Express.{or_of}
use Rattle.ss_terms.specs.declared.forms.FormulaId.{FormulaId}
use Rattle.ss_terms.specs.Forms.{Forms, term_at, terms_at}
use Rattle.ss_terms.proofs.Grown.{IsGrown-then, HasTerm-grown, HasTerms-grown}
use Rattle.ss_vcgen_builder.specs.Builder.{position_at}
use Rattle.ss_vcgen_statements.proofs.Steps.{stays_then, formula_later, formulas_later, formula_more, formula_of}
use Rattle.ss_vcgen_bodies.proofs.Making.{formulas_joined, formula_alone, formulas_so}
use Rattle.ss_vcgen_bodies.proofs.levels.exposed_formula.Goals as goal

pub equal_each-requires-clause-others : goal.equal_each-requires-clause-others
equal_each-requires-clause-others c = HasTerms-grown c.args.builder.now.bank c.is_null.new.builder.bank c.in_ok-null.ensures.stays.grown c.args.inner.now c.requires.inner

pub equal_each-requires-clause-object : goal.equal_each-requires-clause-object
equal_each-requires-clause-object c = HasTerm-grown c.args.builder.now.bank c.is_null.new.builder.bank c.in_ok-null.ensures.stays.grown c.args.o c.requires.object

pub say-requires-clause-saying : goal.say-requires-clause-saying
say-requires-clause-saying c =
    let s = c.args.builder.now in
    let t1 = c.is_null.new.builder in
    let t2 = c.equal_each.new.builder in
    HasTerm-grown s.bank t2.bank (IsGrown-then s.bank t1.bank t2.bank c.in_ok-null.ensures.stays.grown c.in_ok-same.ensures.stays.grown) c.args.store c.requires.store

pub say-requires-clause-value : goal.say-requires-clause-value
say-requires-clause-value c =
    let s = c.args.builder.now in
    let t1 = c.is_null.new.builder in
    let t2 = c.equal_each.new.builder in
    HasTerm-grown s.bank t2.bank (IsGrown-then s.bank t1.bank t2.bank c.in_ok-null.ensures.stays.grown c.in_ok-same.ensures.stays.grown) c.args.o c.requires.object

pub one_of-requires-clause-formulas : goal.one_of-requires-clause-formulas
one_of-requires-clause-formulas c =
    let s = c.args.builder.now in
    let S = λ (b : Forms). term_at b c.args.store in
    let O = λ (b : Forms). term_at b c.args.o in
    let t1 = c.is_null.new.builder in
    let g1 = c.in_ok-null.ensures.stays.grown in
    let t2 = c.equal_each.new.builder in
    let g2 = c.in_ok-same.ensures.stays.grown in
    let t3 = c.say.new.builder in
    let g3 = c.in_ok-at_level.ensures.stays.grown in
    let N = λ (b : Forms). equal (O b) null_term in
    let E = λ (b : Forms). map (λ x. equal x (O b)) (terms_at b c.args.inner.now) in
    let L = λ (b : Forms). equal (level_of (S b) (O b)) (class_term c.args.level.0) in
    let say = λ (b : Forms). N b ∷ E b ++ L b ∷ [] in
    let null = formula_later t1.bank t3.bank (IsGrown-then t1.bank t2.bank t3.bank g2 g3) c.in_ok-null.null N c.in_ok-null.ensures.at in
    let same = formulas_later t2.bank t3.bank g3 c.in_ok-same.same.items E c.in_ok-same.ensures.at in
    let last = formula_alone t3.bank c.in_ok-at_level.at_level L c.in_ok-at_level.ensures.at in
    let both = formulas_joined t3.bank c.in_ok-same.same.items (c.in_ok-at_level.at_level ∷ []) (c.in_ok-same.same.items ++ c.in_ok-at_level.at_level ∷ []) E (λ b. L b ∷ []) same last refl in
    let all = formula_more t3.bank c.in_ok-null.null (c.in_ok-same.same.items ++ c.in_ok-at_level.at_level ∷ []) N (λ b. E b ++ L b ∷ []) null both in
    let are = formulas_so t3.bank c.deref-2.result.now (c.in_ok-null.null ∷ c.in_ok-same.same.items ++ c.in_ok-at_level.at_level ∷ []) say
    (c.deref-2.ensures.value ∙ c.in_ok-parts.ensures ∙ ap (λ (fs : List FormulaId). c.in_ok-null.null ∷ fs ++ c.in_ok-at_level.at_level ∷ []) c.deref.ensures.value) all in
    are.has

pub returns-clause-at : goal.returns-clause-at
returns-clause-at c =
    let s = c.args.builder.now in
    let S = λ (b : Forms). term_at b c.args.store in
    let O = λ (b : Forms). term_at b c.args.o in
    let t1 = c.is_null.new.builder in
    let g1 = c.in_ok-null.ensures.stays.grown in
    let t2 = c.equal_each.new.builder in
    let g2 = c.in_ok-same.ensures.stays.grown in
    let t3 = c.say.new.builder in
    let g3 = c.in_ok-at_level.ensures.stays.grown in
    let N = λ (b : Forms). equal (O b) null_term in
    let E = λ (b : Forms). map (λ x. equal x (O b)) (terms_at b c.args.inner.now) in
    let L = λ (b : Forms). equal (level_of (S b) (O b)) (class_term c.args.level.0) in
    let say = λ (b : Forms). N b ∷ E b ++ L b ∷ [] in
    let null = formula_later t1.bank t3.bank (IsGrown-then t1.bank t2.bank t3.bank g2 g3) c.in_ok-null.null N c.in_ok-null.ensures.at in
    let same = formulas_later t2.bank t3.bank g3 c.in_ok-same.same.items E c.in_ok-same.ensures.at in
    let last = formula_alone t3.bank c.in_ok-at_level.at_level L c.in_ok-at_level.ensures.at in
    let both = formulas_joined t3.bank c.in_ok-same.same.items (c.in_ok-at_level.at_level ∷ []) (c.in_ok-same.same.items ++ c.in_ok-at_level.at_level ∷ []) E (λ b. L b ∷ []) same last refl in
    let all = formula_more t3.bank c.in_ok-null.null (c.in_ok-same.same.items ++ c.in_ok-at_level.at_level ∷ []) N (λ b. E b ++ L b ∷ []) null both in
    let are = formulas_so t3.bank c.deref-2.result.now (c.in_ok-null.null ∷ c.in_ok-same.same.items ++ c.in_ok-at_level.at_level ∷ []) say
    (c.deref-2.ensures.value ∙ c.in_ok-parts.ensures ∙ ap (λ (fs : List FormulaId). c.in_ok-null.null ∷ fs ++ c.in_ok-at_level.at_level ∷ []) c.deref.ensures.value) all in
    formula_of t3.bank c.one_of.new.builder.bank c.in_ok-f.f c.deref-2.result.now or_of say c.in_ok-f.ensures.stays.grown are c.in_ok-f.ensures.at

pub returns-clause-stays : goal.returns-clause-stays
returns-clause-stays c =
    let s = c.args.builder.now in
    let t1 = c.is_null.new.builder in
    let t2 = c.equal_each.new.builder in
    let t3 = c.say.new.builder in
    stays_then s t3 c.one_of.new.builder (stays_then s t2 t3 (stays_then s t1 t2 c.in_ok-null.ensures.stays c.in_ok-same.ensures.stays) c.in_ok-at_level.ensures.stays) c.in_ok-f.ensures.stays
