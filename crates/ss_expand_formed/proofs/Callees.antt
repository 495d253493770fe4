-- What the calls of elaborated code name: the constructors of the classes of a program.
use Rattle.std.proofs.Common.{◌≡◌, ℕ, zero, suc, ◌+◌, ◌*◌, ◌<◌, List, [], ◌∷◌, ◌++◌, length, true, false, Option, Some, None, refl, sym, ◌∙◌, ap, subst, arith}
use Rattle.std.specs.Prelude.{not, ◌==◌, ◌&&◌, ◌||◌, slice_get, is_none, option_map, if◌then◌else◌}
use Rattle.std.proofs.lemmas.Bool.{and_parts, and_from, eq-eqb, false≢true}
use Rattle.std.proofs.lemmas.Option.{same_Some}
use Rattle.std.proofs.lemmas.List.Folds.{find_at}
use Rattle.ss_core.specs.declared.names.Ty.{Ty}
use Rattle.ss_core.specs.Tree as core
use Rattle.ss_core.specs.Tree.{BaseConstructor}
use Rattle.ss_core.specs.Chain.{is_declared, declared, above, fields_of_class, fields_from, all_fields}
use Rattle.ss_ast.specs.Programs.{ClassTree, ProgramTree}
use Rattle.ss_typed.specs.Tree.{BodyTree, MembersTree, TypedTree}
use Rattle.ss_resolver_rules.specs.Programs.{resolved}
use Rattle.ss_expand_rules.specs.Program.{bodies, Constructor, same_origin, number_of}
use Rattle.ss_typed.specs.Lookups.{constructor_of, param_types_in}
use Rattle.ss_expand_rules.specs.Elaborated.{constructor_alone, implicit_in, or_implicit, body_of, classes_from, elaborated}
use Rattle.ss_store_rules.specs.Locals.{types_of}
use Rattle.ss_store_rules.specs.Typed.{is_constructor_of}
use Rattle.ss_store_rules.specs.Typed as store
use Rattle.ss_store_rules.specs.Formed.{has_flags}
use Rattle.ss_expand_formed.specs.Laws.{core_of}
use Rattle.ss_expand_formed.proofs.Searching.{any_at, find_some, place_found}
use Rattle.ss_expand_formed.proofs.Bodies.{of_filter_map}
use Rattle.ss_expand_formed.proofs.Places.{class_at}
use Rattle.ss_expand_formed.proofs.Numbered.{IsOrigin, OfClass, listed, same_is, numbered}
use Rattle.ss_expand_formed.proofs.ClassConstructors.{each_kind, place_of_declared}
use Rattle.ss_expand_formed.proofs.ChainLaw.{size}
use Rattle.ss_expand_formed.proofs.Heads.{have_flags}
use Rattle.ss_expand_formed.proofs.Numbers.{params_types}
use Rattle.ss_expand_formed.proofs.Values.{Takes}

-- ---- fields

fields_kept : (p : TypedTree) (t : ℕ) (cs : List core.ClassTree) → fields_from t (classes_from p t cs) ≡ fields_from t cs
fields_kept p t [] = refl
fields_kept p t (c ∷ cs) = ap (λ ds. fields_of_class t c.fields ++ ds) (fields_kept p (t + 2) cs)

-- the elaboration has the fields of the resolved program
pub same_fields : (p : TypedTree) → all_fields (elaborated p).classes ≡ all_fields p.classes
same_fields p = fields_kept p 4 p.classes

-- ---- constructors

pub tree_at : (cs : List ClassTree) (k : ℕ) → k < length cs → (c : ClassTree) × (slice_get cs k ≡ Some c)
tree_at [] k l = absurd (omega arith)
tree_at (c ∷ cs) zero l = (c, refl)
tree_at (c ∷ cs) (suc k) l = tree_at cs k (omega arith)

module _ (p : TypedTree) (t : ℕ) (x : core.BodyTree) where
  implied_params : (c : Option core.ClassTree) (m : Option MembersTree) → option_map (constructor_alone p) (implicit_in t c m) ≡ Some x → types_of x.params ≡ []
  implied_params None m h = absurd (let z : ⊥ = cc in z)
  implied_params (Some c) None h = absurd (let z : ⊥ = cc in z)
  implied_params (Some c) (Some m) h = ap (λ (y : core.BodyTree). types_of y.params) (sym (same_Some _ _ h))

  params_by : (b : Option BodyTree) → option_map (constructor_alone p) (or_implicit p t b) ≡ Some x → types_of x.params ≡ param_types_in b
  params_by (Some b) h = ap (λ (y : core.BodyTree). types_of y.params) (sym (same_Some _ _ h)) ∙ params_types b.params
  params_by None h = implied_params (declared p.classes t) _ h

no_result : (x : core.BodyTree) → has_flags x ≡ true → x.flags.ctor ≡ true → x.result ≡ None
no_result x h ctor = by x.result refl
  where
    by : (r : Option Ty) → x.result ≡ r → r ≡ None
    by None e = refl
    by (Some u) e = absurd (let f : (not x.flags.is_static && false) ≡ true = rw (ctor, e) at (and_parts (not x.flags.ctor || not x.flags.is_static && is_none x.result) (not x.flags.delayed || x.flags.ctor) h).0 in false≢true (and_parts (not x.flags.is_static) false f).1)

module _ (p : ProgramTree) where
  abbrev P : TypedTree
  P = resolved p

  -- the constructor of this class
  pub record HasConstructor (t : ℕ) : Type 0 where
    pub body : core.BodyTree
    pub made : body_of P (Constructor t) ≡ Some body
    pub stands : store.body_at (core_of p) (number_of P (Constructor t)) ≡ Some body
    pub kind : is_constructor_of t body ≡ true

  pub has_constructor : (k : ℕ) (c : ClassTree) → slice_get p.classes k ≡ Some c → HasConstructor (4 + 2 * k)
  has_constructor k c at =
      let t = 4 + 2 * k in
      let o = Constructor t in
      let origin : IsOrigin P o = OfClass (class_at p k c at) in
      let f = place_found (same_origin o) (bodies P) (listed P o origin) in
      let same = same_is o f.it f.passes in
      let r = each_kind p t _ o (f.there ∙ ap Some same) in
      record { body = r.0; made = r.1; stands = numbered p o origin ∙ r.1; kind = r.2 ∙ eq-eqb t t refl }

  -- it is the only one
  made_by_class : (t n : ℕ) (x : core.BodyTree) → slice_get (core_of p).bodies n ≡ Some x → is_constructor_of t x ≡ true → body_of P (Constructor t) ≡ Some x
  made_by_class t n x h is =
      let w = of_filter_map (body_of P) (bodies P) n x h in
      let r = each_kind p t w.place w.was w.there in
      let same : r.0 ≡ x = same_Some _ _ (sym r.1 ∙ w.becomes) in
      let mine = same_is (Constructor t) w.was (sym r.2 ∙ ap (is_constructor_of t) same ∙ is) in
      ap (body_of P) (sym mine) ∙ w.becomes

  takes_by : (t n : ℕ) (o : Option core.BodyTree) (x : core.BodyTree) → o ≡ Some x → slice_get (core_of p).bodies n ≡ Some x → is_constructor_of t x ≡ true → Takes o (param_types_in (constructor_of P t)) None
  takes_by t n o x is h kind =
      let made = made_by_class t n x h kind in
      record {
        body = x;
        is = is;
        params = params_by P t x (constructor_of P t) made;
        result = no_result x (have_flags p n x h) (and_parts x.flags.ctor (x.class == t) kind).0;
        no_null = λ e. (let z : ⊥ = cc in z);
      }

  -- a `new` enters the constructor of the class
  pub constructor_takes : (t : ℕ) → is_declared (core_of p).classes t ≡ true → Takes (store.constructor_of (core_of p) t) (param_types_in (constructor_of P t)) None
  constructor_takes t there =
      let at = place_of_declared (core_of p).classes t there in
      let s = size p in
      let l = at.2 in
      let c = tree_at p.classes at.0 (omega arith) in
      let h = has_constructor at.0 c.0 c.1 in
      let stands : is_constructor_of t h.body ≡ true = subst (λ u. is_constructor_of u h.body ≡ true) (sym at.1) h.kind in
      let f = find_some (is_constructor_of t) (core_of p).bodies (any_at (is_constructor_of t) (core_of p).bodies _ h.body h.stands stands) in
      takes_by t _ (store.constructor_of (core_of p) t) f.0 f.1 (sym (find_at (is_constructor_of t) (core_of p).bodies) ∙ f.1) f.2

  -- a `base(..)` enters the constructor of the class above
  pub base_constructor_takes : (y : core.BodyTree) (j : ℕ) (c : ClassTree) → slice_get p.classes j ≡ Some c → above (core_of p).classes y.class ≡ 4 + 2 * j → y.flags.ctor ≡ true →
      Takes (store.callee_of (core_of p) y (BaseConstructor (number_of P (Constructor (4 + 2 * j))))) (param_types_in (constructor_of P (4 + 2 * j))) None
  base_constructor_takes y j c at over ctor =
      let h = has_constructor j c at in
      let whole : (is_constructor_of (above (core_of p).classes y.class) h.body && y.flags.ctor) ≡ true = and_from _ _ (ap (λ u. is_constructor_of u h.body) over ∙ h.kind) ctor in
      takes_by (4 + 2 * j) (number_of P (Constructor (4 + 2 * j))) (store.callee_of (core_of p) y (BaseConstructor (number_of P (Constructor (4 + 2 * j))))) h.body
      (ap (store.where_body (λ (z : core.BodyTree). is_constructor_of (above (core_of p).classes y.class) z && y.flags.ctor)) h.stands ∙ ap (λ b. if b then Some h.body else None) whole) h.stands h.kind
