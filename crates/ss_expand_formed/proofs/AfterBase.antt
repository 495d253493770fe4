-- After `base(..)` the `this` of a constructor that isn't delayed has all its fields.
use Rattle.std.proofs.Common.{◌≡◌, ℕ, List, [], ◌∷◌, ◌++◌, Bool, true, false, Option, Some, None, refl, sym, ◌∙◌, ap, subst}
use Rattle.std.specs.Prelude.{not, ◌==◌, if◌then◌else◌}
use Rattle.std.proofs.lemmas.Bool.{or_left, or_right, eqb-true, false≢true}
use Rattle.ss_core.specs.declared.names.Place.{Place}
use Rattle.ss_core.specs.declared.names.Ty.{Ty}
use Rattle.ss_core.specs.Tree as core
use Rattle.ss_core.specs.Tree.{CallStmt, BaseConstructor, ReadyStmt}
use Rattle.ss_core.specs.View.{code_of}
use Rattle.ss_typed.specs.Tree.{Arguments, BaseCallOf, SimpleOf, StmtTrees, Before, BodyTree, TypedTree}
use Rattle.ss_nonnull_rules.specs.NonNull as source
use Rattle.ss_nonnull_rules.specs.Faults.{handed_to_base}
use Rattle.ss_expand_rules.specs.Program.{above_of, Constructor, number_of}
use Rattle.ss_typed.specs.Lookups.{constructor_of, param_types_in}
use Rattle.ss_expand_rules.specs.Lifting.{ElaborationContext, arguments_of}
use Rattle.ss_expand_rules.specs.Code.{Coded}
use Rattle.ss_expand_rules.specs.Simple.{has_delayed_constructor, ready_after, base_with, base_of}
use Rattle.ss_expand_rules.specs.Statements.{stmts}
use Rattle.ss_store_rules.specs.Paths.{at_end, where_reached}
use Rattle.ss_store_rules.specs.NonNull.{Known}
use Rattle.ss_expand_formed.proofs.Shape.{Code}
use Rattle.ss_expand_formed.proofs.Along.{at_end-append}
use Rattle.ss_expand_formed.proofs.Choices.{where_chosen}
use Rattle.ss_expand_formed.proofs.Kept.{fields_kept}
use Rattle.ss_expand_formed.specs.Fitting.{Frame, elaboration_context, base_fits, Agrees, Builds, Covers}
use Rattle.ss_expand_formed.specs.Bodies.{body_frame, method_frame}
use Rattle.ss_expand_formed.proofs.Growth.{stmts_begin}
use Rattle.ss_expand_formed.proofs.Putting.{flow}
use Rattle.ss_expand_formed.proofs.Lifted.{made_before}
use Rattle.ss_expand_formed.proofs.NullsSimple.{base_known}
use Rattle.ss_expand_formed.proofs.Seams.{HoldFrom, then_hold}

module _ (z : Frame) where
  -- where this is reached, `this` has all its fields
  abbrev HasAll : Option Known → Type 0
  HasAll o = (f : ℕ) → where_reached (λ (l : Known). l.fields f) o ≡ true

  abbrev Behind : Code → Option Known → Type 0
  Behind xs l = HasAll (at_end (flow z) (code_of xs) l)

  kept : (xs ys : Code) (l : Option Known) → Behind xs l → Behind (xs ++ ys) l
  kept xs ys l h f = subst (λ o. where_reached (λ (m : Known). m.fields f) o ≡ true) (sym (at_end-append (flow z) xs ys l)) (fields_kept z.program z.body f (code_of ys) (at_end (flow z) (code_of xs) l) (h f))

  later : (xs ys : Code) (l : Option Known) → Behind ys (at_end (flow z) (code_of xs) l) → Behind (xs ++ ys) l
  later xs ys l h f = subst (λ o. where_reached (λ (m : Known). m.fields f) o ≡ true) (sym (at_end-append (flow z) xs ys l)) (h f)

  readied : (p : Place) (l : Option Known) → Behind (ReadyStmt p ∷ []) l
  readied p None f = refl
  readied p (Some l) f = refl

  module _ (early : z.body.flags.delayed ≡ false) where
    called : (p : Place) (n : ℕ) (vs : List core.ExprTree) (l : Option Known) → Behind (CallStmt p None (BaseConstructor n) vs ∷ []) l
    called p n vs None f = refl
    called p n vs (Some l) f = or_left _ _ (or_right (l.fields f) _ (ap not early))

    -- `object` has nothing to call, but then `this` is made ready
    base_gives_all : (s : ElaborationContext) → s.body.flags.delayed ≡ false → has_delayed_constructor s.program 0 ≡ true → (p : Place) (es : Arguments) (t : ℕ) (made : List Ty) (l : Option Known) → Behind (base_of s p es t made).code l
    base_gives_all s same object p es t made l =
        let given = arguments_of s (param_types_in (constructor_of s.program t)) es made in
        let call = CallStmt p None (BaseConstructor (number_of s.program (Constructor t))) given.values in
        where_chosen (λ (c : Coded). Behind c.code l) (t == 0) (record { code = ready_after s p t; made = made }) (base_with s p t given)
        (λ yes.
        let top : t ≡ 0 = eqb-true t 0 yes in
        let delayed : has_delayed_constructor s.program t ≡ true = ap (has_delayed_constructor s.program) top ∙ object in
        let is : ready_after s p t ≡ ReadyStmt p ∷ [] = ap (λ (v : Bool). if v then [] else if has_delayed_constructor s.program t then ReadyStmt p ∷ [] else []) same ∙ ap (λ (v : Bool). if v then ReadyStmt p ∷ [] else []) delayed in
        subst (λ (xs : Code). Behind xs l) (sym is) (readied p l))
        (λ no. later given.code (call ∷ ready_after s p t) l (kept (call ∷ []) (ready_after s p t) (at_end (flow z) (code_of given.code) l) (called p (number_of s.program (Constructor t)) given.values (at_end (flow z) (code_of given.code) l))))

module _ (c : core.CoreTree) (p : TypedTree) (b : BodyTree) (bs : List BodyTree) (fields : ℕ → Bool) (early : b.flags.delayed ≡ false) (object : has_delayed_constructor p 0 ≡ true) where
  -- before it, and after it, where it is as in a method
  abbrev z : Frame
  z = body_frame c p b bs fields false

  abbrev w : Frame
  w = method_frame c p b bs

  pub after_base : Agrees z → Builds z → (k m : source.Known) (q : Place) (es : Arguments) (more : StmtTrees) → base_fits z es ≡ true → handed_to_base z.context (Some k) es ≡ [] → ((x : ℕ) → m.facts x ≡ true → k.facts x ≡ true) → HoldFrom w m more → HoldFrom z k (Before (SimpleOf (BaseCallOf q es)) more)
  after_base agrees builds k m q es more fit clean less rest made l known has =
      let s = elaboration_context z [] in
      let one = base_of s q es (above_of p b.class) made in
      let first = base_known z agrees builds [] k l q es made known fit clean (made_before z agrees one.made (stmts s more one.made).made (stmts_begin s more one.made) has) in
      let all : (f : ℕ) → first.now.fields f ≡ true = λ f. subst (λ o. where_reached (λ (n : Known). n.fields f) o ≡ true) first.runs.at (base_gives_all z early s early object q es (above_of p b.class) made (Some l) f) in
      let now : Covers w m first.now = record { facts = λ x i. first.covers.facts x (less x i); mine = λ x i. first.covers.mine x (less x i); fields = λ f o i. absurd (false≢true o); free = λ i f. all f } in
      then_hold z agrees builds l (record k { fields = record k.fields { above = true } }) one.code (stmts s more one.made).code first (rest one.made first.now now has)
