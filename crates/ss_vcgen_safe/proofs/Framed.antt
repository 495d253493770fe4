-- The frame condition at a position at which the run is: its formula is true exactly where the stores keep to it.
use Rattle.std.proofs.Common.{◌≡◌, ℕ, zero, suc, ◌<◌, List, [], ◌∷◌, ◌++◌, map, length, take, Bool, true, refl, sym, ◌∙◌, ap, subst, length-append, arith}
use Rattle.std.specs.Prelude.{Option, Some, None, unwrap_or, slice_get, slice_set, option_to_list}
use Rattle.std.specs.List.{list_all}
use Rattle.std.proofs.lemmas.Bool.{false≢true, and_parts, lt-ltb}
use Rattle.ss_core.specs.declared.names.Ty.{Ty}
use Rattle.ss_core.specs.declared.names.Ty.TheVariants as ty
use Rattle.ss_core.specs.Tree.{ClassTree, ExposedTree, BodyTree}
use Rattle.ss_core.specs.Chain.{is_declared, below}
use Rattle.ss_store_rules.specs.declared.Value.{Value as ObjectValue}
use Rattle.ss_store_rules.specs.declared.Value.TheVariants as value
use Rattle.ss_store_rules.specs.Store.{Object}
use Rattle.ss_store_rules.specs.Good.{has_type, IsGood}
use Rattle.ss_store_rules.specs.Admissible.{invariants_hold}
use Rattle.ss_store_rules.specs.Locals.{types_of, argument_types, local_types, argument_count, is_argument}
use Rattle.ss_store_rules.specs.Types.{has_class}
use Rattle.ss_store_rules.specs.Typed.{is_exposable}
use Rattle.ss_store_rules.specs.Values.{local_value}
use Rattle.ss_machine_rules.specs.Frame.{Span, is_kept}
use Rattle.ss_machine_rules.specs.States.{span, put, locals_at_entry}
use Rattle.ss_machine_rules.specs.Steps.{held_by, result_local}
use Rattle.ss_machine_typed.specs.Older.{IsOlder}
use Rattle.ss_machine_typed.specs.Settings.{AreGoodArguments}
use Rattle.ss_logic.specs.declared.Sort.TheVariants as sort
use Rattle.ss_logic.specs.Values.{Heap, Table, Structure}
use Rattle.ss_logic.specs.Terms.{Term, sort_of_type, value_of}
use Rattle.ss_logic.specs.Formulas.{True}
use Rattle.ss_logic.specs.Objects.{objects_of}
use Rattle.ss_logic.specs.Express.{One, element_sort}
use Rattle.ss_logic.specs.Frames.{grown}
use Rattle.ss_logic.proofs.Kept.{kept_from, kept_to, grown_to}
use Rattle.ss_logic_means.specs.Means.{standing}
use Rattle.ss_logic_means.specs.Sorts.{HasSort}
use Rattle.ss_logic_means.proofs.Classes.{IsReferenceOf}
use Rattle.ss_logic_means.proofs.Typed.{reference_value}
use Rattle.ss_logic_tables.specs.Elsewhere.{SameElsewhere}
use Rattle.ss_logic_tables.specs.Spans.{IsArgument, AreArguments, AreReferences, SpanTerms, SpanValues, IsSpan, span_of, terms_of}
use Rattle.ss_logic_tables.proofs.Contexts.{term_argument}
use Rattle.ss_logic_tables.proofs.Bodies.{formed_typed}
use Rattle.ss_logic_tables.proofs.Sorting.{terms_sorted}
use Rattle.ss_logic_tables.proofs.Keeping.{objects_kept, heaps_kept}
use Rattle.ss_logic_tables.proofs.Growing.{heaps_grown, heaps_of_terms, two_stores}
use Rattle.ss_vcgen_heaps.specs.Positions.{Position, Walk, meant_of, term_or_null, local_term}
use Rattle.ss_vcgen_heaps.specs.Obligations.{local_sort, arguments_at, frame_formula, exposed_terms}
use Rattle.ss_sound_runs.proofs.Locals.{get_left}
use Rattle.ss_sound_runs.proofs.Spans.{frames_read}
use Rattle.ss_sound_outcomes.specs.Points.{Activation, Point, frame_at, scene, HasGrown}
use Rattle.ss_vcgen_safe.specs.At.{IsAlike, activation}
use Rattle.ss_vcgen_safe.proofs.PositionsJoins.{get_below}
use Rattle.ss_vcgen_safe.specs.Goes.{IsEntered, IsHere}
use Rattle.ss_vcgen_safe.proofs.LoopsLevels.{AllHeld}

-- ---- lists

set_same : {A : Type 0} (xs : List A) (x : ℕ) (d : A) → slice_set xs x (unwrap_or (slice_get xs x) d) ≡ xs
set_same [] x d = refl
set_same (y ∷ xs) zero d = refl
set_same (y ∷ xs) (suc x) d = ap (λ zs. y ∷ zs) (set_same xs x d)

put_same : (x : Option ℕ) (locals : List ObjectValue) → (v : ObjectValue) × (put x v locals ≡ locals)
put_same None locals = (value.Null, refl)
put_same (Some x) locals = (unwrap_or (slice_get locals x) value.Null, set_same locals x value.Null)

-- terms for the arguments, in front of the locals
front_arguments : (cs : List ClassTree) (m : Structure) (ts : List Ty) (ls : List (Option Term)) (vs : List ObjectValue) → length vs ≡ length ts →
    ((i : ℕ) (t : Ty) (v : ObjectValue) → slice_get ts i ≡ Some t → slice_get vs i ≡ Some v → (u : Term) × (slice_get ls i ≡ Some (Some u)) × HasSort cs [] (sort_of_type t) u × (value_of cs m [] u ≡ standing v)) →
    AreArguments cs m ts (map meant_of (take (length ts) ls)) vs
front_arguments cs m [] [] [] c f = tt
front_arguments cs m [] (l ∷ ls) [] c f = tt
front_arguments cs m [] ls (v ∷ vs) c f = absurd (omega (arith, c))
front_arguments cs m (t ∷ ts) ls [] c f = absurd (omega (arith, c))
front_arguments cs m (t ∷ ts) [] (v ∷ vs) c f = let z = f zero t v refl refl in let e = z.1 in let no : ⊥ = cc in absurd no
front_arguments cs m (t ∷ ts) (None ∷ ls) (v ∷ vs) c f = let z = f zero t v refl refl in let e = z.1 in let no : ⊥ = cc in absurd no
front_arguments cs m (t ∷ ts) (Some u ∷ ls) (v ∷ vs) c f =
    let z = f zero t v refl refl in
    let e = z.1 in
    let same : z.0 ≡ u = cc in
    (subst (λ y. IsArgument cs m t (One y) v) same (term_argument cs m t z.0 v z.2 z.3), front_arguments cs m ts ls vs (omega (arith, c)) (λ i. f (suc i)))

argument_type : (b : BodyTree) (x : ℕ) → x < argument_count b → slice_get (local_types b) x ≡ slice_get (argument_types b) x
argument_type b x h =
    let l = length-append (argument_types b) (types_of b.locals) in
    get_left (argument_types b ++ types_of b.locals) (option_to_list b.result) x (omega (arith, h, l)) ∙ get_left (argument_types b) (types_of b.locals) x h

class_sort : (o : Option Ty) (test : ℕ → Bool) → has_class test o ≡ true → element_sort o ≡ sort.Rest
class_sort None test h = absurd (false≢true h)
class_sort (Some ty.Int) test h = absurd (false≢true h)
class_sort (Some ty.Bool) test h = absurd (false≢true h)
class_sort (Some ty.Null) test h = absurd (false≢true h)
class_sort (Some (ty.Ref t n)) test h = refl

-- ---- at a position

module _ (w : Walk) (before : List Object) (table : Table) (arguments : List ObjectValue) (entered : IsEntered w before arguments) (xs : ℕ → Bool) (m : Structure) (k : Position) (p : Point) (here : IsHere w before table arguments xs m k p)
    (m' : Structure) (alike : IsAlike k.next m m') where
  abbrev cs : List ClassTree
  cs = w.program.classes

  abbrev a : Activation
  a = activation w before table

  abbrev now : Heap
  now = here.at.agrees.store_is.heap

  abbrev former : Heap
  former = here.at.agrees.entry.heap

  pub now_is : objects_of cs m'.table now ≡ p.store
  now_is = ap (λ t. objects_of cs t now) (alike.table ∙ here.at.agrees.table_is) ∙ here.at.agrees.store_is.objects

  pub former_is : objects_of cs m'.table former ≡ before
  former_is = ap (λ t. objects_of cs t former) (alike.table ∙ here.at.agrees.table_is) ∙ here.at.agrees.entry.objects

  good_now : IsGood cs (invariants_hold cs) (objects_of cs m'.table now)
  good_now = subst (λ s. IsGood cs (invariants_hold cs) s) (sym now_is) here.at.sound.store

  good_former : IsGood cs (invariants_hold cs) (objects_of cs m'.table former)
  good_former = subst (λ s. IsGood cs (invariants_hold cs) s) (sym former_is) (subst (λ s. IsGood cs (invariants_hold cs) s) here.at.agrees.entry.objects here.at.agrees.entry.good.objects)

  argument_means : (i : ℕ) (t : Ty) (v : ObjectValue) → slice_get (argument_types w.body) i ≡ Some t → slice_get arguments i ≡ Some v →
      (u : Term) × (slice_get k.locals i ≡ Some (Some u)) × HasSort cs [] (sort_of_type t) u × (value_of cs m' [] u ≡ standing v)
  argument_means i t v typed there =
      let low = get_below (argument_types w.body) i t typed in
      let is : is_argument w.body i ≡ true = lt-ltb i (argument_count w.body) low in
      let u = here.at.terms i (here.assigned i is) in
      let local = here.at.agrees.locals i u.0 u.1 in (
        u.0,
        u.1,
        subst (λ o. HasSort cs [] (element_sort o) u.0) (argument_type w.body i low ∙ typed) local.sorted,
        local.is m' alike [] ∙ ap (λ o. standing (unwrap_or o value.Null)) (here.same i is ∙ there),
      )

  -- ---- what is exposed

  held_one : (x : ℕ) (t : ℕ) → xs x ≡ true → is_exposable cs w.body x t ≡ true →
      HasSort cs [] sort.Rest (local_term x k) × (value_of cs m' [] (local_term x k) ≡ standing (local_value (scene a p) x)) × IsReferenceOf now (local_value (scene a p) x)
  held_one x t is exposable =
      let typed = (and_parts (is_declared cs t) (has_class (λ c. below cs c t) (slice_get (local_types w.body) x)) exposable).1 in
      let u = here.at.terms x is in
      let local = here.at.agrees.locals x u.0 u.1 in
      let same : local_term x k ≡ u.0 = ap term_or_null u.1 in (
        (subst (λ s. HasSort cs [] s (local_term x k)) (class_sort (slice_get (local_types w.body) x) (λ c. below cs c t) typed) (subst (λ y. HasSort cs [] (local_sort w x) y) (sym same) local.sorted)),
        ap (value_of cs m' []) same ∙ local.is m' alike [],
        by_type (slice_get (local_types w.body) x) refl typed (slice_get p.locals x) refl,
      )
    where
      by_type : (o : Option Ty) → slice_get (local_types w.body) x ≡ o → has_class (λ c. below cs c t) o ≡ true → (v : Option ObjectValue) → slice_get p.locals x ≡ v → IsReferenceOf now (unwrap_or v value.Null)
      by_type o e h None there = tt
      by_type None e h (Some v) there = absurd (false≢true h)
      by_type (Some ty.Int) e h (Some v) there = absurd (false≢true h)
      by_type (Some ty.Bool) e h (Some v) there = absurd (false≢true h)
      by_type (Some ty.Null) e h (Some v) there = absurd (false≢true h)
      by_type (Some (ty.Ref c n)) e h (Some v) there =
          reference_value cs m'.table now (ty.Ref c n) refl v (subst (λ s. has_type cs s (ty.Ref c n) v ≡ true) (sym now_is) (here.at.sound.locals.types x (ty.Ref c n) v e there))

  pub all_held : (exposes : List ExposedTree) → list_all xs (map (λ (x : ExposedTree). x.local) exposes) ≡ true → list_all (λ (x : ExposedTree). is_exposable cs w.body x.local x.class) exposes ≡ true →
      AllHeld cs m' k (frame_at a p) now (here.at.agrees.store_is.is m' alike []) exposes
  all_held [] is exposable = tt
  all_held (x ∷ exposes) is exposable =
      let r = and_parts (xs x.local) (list_all xs (map (λ (y : ExposedTree). y.local) exposes)) is in
      let t = and_parts (is_exposable cs w.body x.local x.class) (list_all (λ (y : ExposedTree). is_exposable cs w.body y.local y.class) exposes) exposable in
      let z = held_one x.local x.class r.0 t.0 in
      ((z.1, z.2), all_held exposes r.1 t.1)

  pub all_references : (exposes : List ExposedTree) → list_all xs (map (λ (x : ExposedTree). x.local) exposes) ≡ true → list_all (λ (x : ExposedTree). is_exposable cs w.body x.local x.class) exposes ≡ true →
      AreReferences cs m' (exposed_terms exposes k) (map (held_by (frame_at a p)) exposes)
  all_references [] is exposable = tt
  all_references (x ∷ exposes) is exposable =
      let r = and_parts (xs x.local) (list_all xs (map (λ (y : ExposedTree). y.local) exposes)) is in
      let t = and_parts (is_exposable cs w.body x.local x.class) (list_all (λ (y : ExposedTree). is_exposable cs w.body y.local y.class) exposes) exposable in
      let z = held_one x.local x.class r.0 t.0 in
      (z.0, z.1, all_references exposes r.1 t.1)

  -- ---- the frame condition

  module _ (outs : List Term) (values : List ObjectValue) (outside : AreReferences cs m' outs values) where
    abbrev terms : SpanTerms
    terms = record { before = w.entry; after = k.store; arguments = arguments_at w k; outside = outs }

    abbrev meant : SpanValues
    meant = record { before = former; after = now; arguments = arguments; outside = values }

    is_span : IsSpan cs m' w.body terms meant
    is_span = record {
      chain = entered.program.chain;
      beside = entered.program.beside;
      body = formed_typed w.program w.body entered.body;
      before = (here.at.agrees.entry.sorted.1, here.at.agrees.entry.is m' alike []);
      after = (here.at.agrees.store_is.sorted.1, here.at.agrees.store_is.is m' alike []);
      good_before = good_former;
      good_after = good_now;
      older = subst (λ s. IsOlder s (objects_of cs m'.table now)) (sym former_is) (subst (λ s. IsOlder before s) (sym now_is) here.at.sound.grown.older);
      passed = subst (λ s. AreGoodArguments cs s w.body arguments) (sym former_is) entered.passed.good;
      arguments = front_arguments cs m' (argument_types w.body) k.locals arguments entered.passed.good.count argument_means;
      outside = outside;
    }

    abbrev spanned : List Object → List Object → List ObjectValue → Span
    spanned s z locals = record { classes = cs; body = w.body; locals = locals; entry = s; now = z; outside = values }

    same_span : is_kept (span_of cs m' w.body meant) ≡ is_kept (span a.program (frame_at a p) p.store values)
    same_span =
        let v = put_same (result_local w.body) p.locals in
        ap (λ s. is_kept (spanned s (objects_of cs m'.table now) (locals_at_entry w.body arguments))) former_is
        ∙ ap (λ z. is_kept (spanned before z (locals_at_entry w.body arguments))) now_is
        ∙ sym (frames_read w.program w.body entered.body before p.store values arguments p.locals v.0 (record { passed = entered.passed.good.count; count = here.at.sound.locals.count; same = here.same }))
        ∙ ap (λ ls. is_kept (spanned before p.store ls)) v.1

    pub frame_kept : True cs m' [] (frame_formula w outs k) → is_kept (span a.program (frame_at a p) p.store values) ≡ true
    frame_kept t = sym same_span ∙ objects_kept cs m' w.body terms meant is_span (kept_from cs m' (terms_of cs w.body terms) (terms_sorted cs m' w.body terms meant is_span) t)

    pub frame_true : SameElsewhere cs m'.table former now → is_kept (span a.program (frame_at a p) p.store values) ≡ true → True cs m' [] (frame_formula w outs k)
    frame_true elsewhere is = kept_to cs m' (terms_of cs w.body terms) (terms_sorted cs m' w.body terms meant is_span) (heaps_kept cs m' w.body terms meant is_span elsewhere (same_span ∙ is))

  -- ---- growth

  pub growth_true : True cs m' [] (grown w.entry k.store)
  growth_true =
      let s = here.at.agrees.entry in
      let z = here.at.agrees.store_is in
      grown_to cs m' w.entry k.store (two_stores cs m' w.entry k.store former now (s.sorted.1, s.is m' alike []) (z.sorted.1, z.is m' alike []))
      (heaps_of_terms cs m' w.entry k.store former now (s.sorted.1, s.is m' alike []) (z.sorted.1, z.is m' alike [])
      (heaps_grown cs m'.table former now good_former good_now (subst (λ u. HasGrown u (objects_of cs m'.table now)) (sym former_is) (subst (λ u. HasGrown before u) (sym now_is) here.at.sound.grown))))
