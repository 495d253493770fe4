-- The fields that the `this` of a constructor has, those of its class and of the classes above it.
use Rattle.std.proofs.Common.{◌≡◌, ◌≢◌, ℕ, ◌+◌, ◌*◌, List, [], ◌∷◌, ◌++◌, map, Bool, true, false, Some, refl, sym, ◌∙◌, ap, subst, arith, ⊎_elim}
use Rattle.std.specs.Prelude.{not, ◌==◌, ◌&&◌, ◌||◌, slice_get, if◌then◌else◌}
use Rattle.std.proofs.lemmas.Bool.{cases_Bool, and_parts, and_from, or_left, or_right, eq-eqb, ne_eqb, false≢true}
use Rattle.std.proofs.lemmas.Option.{same_Some, slice_get_within}
use Rattle.ss_core.specs.Tree as core
use Rattle.ss_core.specs.Chain as chain
use Rattle.ss_core.specs.Chain.{below, DeclaredField, all_fields}
use Rattle.ss_core.proofs.Chains.{below_up, object_below}
use Rattle.ss_core.proofs.Declared.{declared_place}
use Rattle.ss_core.proofs.Fields.{field_declared}
use Rattle.ss_ast.specs.Programs.{ClassTree, ProgramTree}
use Rattle.ss_typed.specs.Tree.{BodyTree, TypedTree}
use Rattle.ss_typed.specs.Types.{class_type}
use Rattle.ss_paths.specs.Fields.{is_among, field_numbers}
use Rattle.ss_nonnull_rules.specs.Faults.{class_of}
use Rattle.ss_delayed_rules.specs.Escapes.{ForFields}
use Rattle.ss_resolver_names_rules.specs.Programs.{program_faults}
use Rattle.ss_resolver_rules.specs.Programs.{resolved}
use Rattle.ss_expand_rules.specs.Program.{above_of, field_at}
use Rattle.ss_expand_rules.specs.Bodies.{written_body}
use Rattle.ss_store_rules.specs.Changes.{class_of_field}
use Rattle.ss_store_rules.specs.NonNull.{is_field_above}
use Rattle.ss_expand_formed.proofs.AdmissibleClasses as classes
use Rattle.ss_expand_formed.specs.Laws.{core_of}
use Rattle.ss_expand_formed.proofs.Facts.{not_true}
use Rattle.ss_expand_formed.proofs.Resolved.{number_declared}
use Rattle.ss_expand_formed.proofs.ChainLaw.{size, has_chain}
use Rattle.ss_expand_formed.proofs.Delayed.{is_above}
use Rattle.ss_expand_formed.proofs.Numbering.{is_declared_in, same_fields}
use Rattle.ss_expand_formed.proofs.Fit.{IsRead}
use Rattle.ss_expand_formed.proofs.Environments.{param_types, context_of}
use Rattle.ss_expand_formed.specs.Fitting.{Builds}
use Rattle.ss_expand_formed.specs.Bodies.{body_frame}
use Rattle.ss_expand_formed.proofs.Refit.{Owns}

-- the class of `this`
class_same : (t u : ℕ) → Some (class_type t true) ≡ Some (class_type u true) → t ≡ u
class_same t u h = same_Some _ _ (ap class_of h)

right_of : (a d : Bool) → (a || d) ≡ true → a ≡ false → d ≡ true
right_of a d h e = rw e at h

module _ (p : ProgramTree) (faultless : program_faults p ≡ []) (k : ℕ) (c : ClassTree) (at : slice_get p.classes k ≡ Some c) (b : BodyTree) (is : b.class ≡ 4 + 2 * k) (static : b.flags.is_static ≡ false) (bs : List BodyTree) where
  abbrev q : TypedTree
  q = resolved p

  abbrev y : core.BodyTree
  y = written_body q b bs

  abbrev cs : List core.ClassTree
  cs = (core_of p).classes

  abbrev pub owned : ℕ → Bool
  owned f = is_among (field_numbers q b.class) f || (not (above_of q b.class == 0) && is_field_above (core_of p) y f)

  pub builds_owned : Builds (body_frame (core_of p) q b bs owned false)
  builds_owned = record {
    delayed = refl;
    above = λ f h g. not_true (above_of q b.class == 0) (and_parts (not (above_of q b.class == 0)) (is_field_above (core_of p) y f) (right_of (is_among (field_numbers q b.class) f) (not (above_of q b.class == 0) && is_field_above (core_of p) y f) h g)).0;
    inherited = λ f h g. (and_parts (not (above_of q b.class == 0)) (is_field_above (core_of p) y f) (right_of (is_among (field_numbers q b.class) f) (not (above_of q b.class == 0) && is_field_above (core_of p) y f) h g)).1;
  }

  -- a field of the class itself
  pub own_among : (f : ℕ) → is_declared_in b.class (field_at q f) ≡ true → is_among (field_numbers q b.class) f ≡ true
  own_among f h = subst (λ t. is_declared_in t (field_at q f) ≡ true → is_among (field_numbers q t) f ≡ true) (sym is) (λ i. sym (same_fields q k f) ∙ i) h

  pub own_owned : (f : ℕ) → is_declared_in b.class (field_at q f) ≡ true → owned f ≡ true
  own_owned f h = or_left (is_among (field_numbers q b.class) f) _ (own_among f h)

  declared : chain.is_declared cs b.class ≡ true
  declared =
      let l = slice_get_within p.classes k c at in
      let all = size p in
      subst (λ t. chain.is_declared cs t ≡ true) (sym is) (number_declared cs k (omega arith))

  -- one of a class above
  above_owned : (f : ℕ) (d : DeclaredField) → slice_get (all_fields cs) f ≡ Some d → below cs b.class d.class ≡ true → (d.class == b.class) ≡ false → owned f ≡ true
  above_owned f d there lower other =
      let over = (is_above p faultless b.class declared).above in
      let by = field_declared cs f d there in
      let place = declared_place cs d.class by.by by.is_class in
      let number = place.1 in
      let some : b.class ≢ 0 = λ e. omega arith in
      let apart : (b.class == d.class) ≡ false = ne_eqb b.class d.class (λ e. absurd (false≢true (sym other ∙ eq-eqb d.class b.class (sym e)))) in
      let up : below cs (chain.above cs b.class) d.class ≡ true = right_of (b.class == d.class) (below cs (chain.above cs b.class) d.class) (sym (below_up cs (has_chain p faultless) b.class d.class some) ∙ lower) apart in
      let not_top : (above_of q b.class == 0) ≡ false = ne_eqb (above_of q b.class) 0 (λ top. let none = object_below cs d.class (subst (λ u. below cs u d.class ≡ true) (over ∙ top) up) in omega arith) in
      let class : class_of_field (slice_get (all_fields cs) f) ≡ d.class = ap class_of_field there in
      let above : is_field_above (core_of p) y f ≡ true = subst (λ u. (below cs b.class u && not (u == b.class)) ≡ true) (sym class) (and_from _ _ lower (ap not other)) in
      or_right (is_among (field_numbers q b.class) f) _ (and_from _ _ (ap not not_top) above)

  -- a field that is read of `this` is one of them
  pub owns : Owns (core_of p) q b bs owned static ForFields cs (context_of b)
  owns a r t f v m fit =
      let read : IsRead cs (Some (class_type t true)) f v = fit.1 in
      let this : Some (class_type b.class true) ≡ Some (class_type t true) = sym (first static) ∙ fit.0 in
      let class = class_same b.class t this in
      let lower : below cs b.class read.field.class ≡ true = subst (λ u. below cs u read.field.class ≡ true) (sym class) read.has in
      ⊎_elim
      (λ mine.
      let found : field_at q f ≡ Some read.field = ap (λ fs. slice_get fs f) (sym (classes.fields_stay p)) ∙ read.there in
      own_owned f (ap (is_declared_in b.class) found ∙ mine))
      (λ other. above_owned f read.field read.there lower other)
      (cases_Bool (read.field.class == b.class))
    where
      first : b.flags.is_static ≡ false → slice_get (context_of b).locals 0 ≡ Some (class_type b.class true)
      first e = ap (λ (w : Bool). slice_get ((if w then [] else class_type b.class true ∷ []) ++ param_types b ++ map (λ (l : core.LocalTree). l.ty) b.locals) 0) e
