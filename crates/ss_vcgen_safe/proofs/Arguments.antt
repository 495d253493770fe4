-- The arguments of a body at a position of it: their terms, and the frame condition and the contract of the body there.
use Rattle.std.proofs.Common.{◌≡◌, ℕ, zero, suc, List, [], ◌∷◌, ◌++◌, map, length, Bool, true, refl, sym, ◌∙◌, ap, subst, arith}
use Rattle.std.specs.Prelude.{Option, Some, slice_get, take, unwrap_or}
use Rattle.std.specs.List.{list_all}
use Rattle.std.proofs.lemmas.Bool.{and_parts, lt-ltb}
use Rattle.std.proofs.lemmas.Option.{slice_get_within}
use Rattle.ss_core.specs.declared.names.Ty.{Ty}
use Rattle.ss_core.specs.Tree.{ClassTree, ExprTree, BodyTree}
use Rattle.ss_store_rules.specs.declared.Value.{Value as ObjectValue}
use Rattle.ss_store_rules.specs.declared.Value.TheVariants as value
use Rattle.ss_store_rules.specs.Store.{Object}
use Rattle.ss_store_rules.specs.Admissible.{invariants_hold}
use Rattle.ss_store_rules.specs.Good.{IsGood}
use Rattle.ss_store_rules.specs.Locals.{argument_types, argument_count, local_types, is_argument, types_of}
use Rattle.ss_store_rules.specs.States.{AreGoodLocals}
use Rattle.ss_store_rules.specs.Typed.{is_exit}
use Rattle.ss_store_rules.specs.Types.{in_ensures}
use Rattle.ss_store_rules.specs.Values.{setting}
use Rattle.ss_machine_rules.specs.Frame.{is_kept}
use Rattle.ss_machine_rules.specs.States.{locals_at_entry}
use Rattle.ss_machine_typed.specs.Settings.{AreGoodArguments}
use Rattle.ss_logic.specs.Values.{Heap, Table, Structure}
use Rattle.ss_logic.specs.Terms.{Term}
use Rattle.ss_logic.specs.Formulas.{True}
use Rattle.ss_logic.specs.Objects.{objects_of}
use Rattle.ss_logic.specs.Express.{Meant, One, element_sort}
use Rattle.ss_logic.proofs.Kept.{kept_from}
use Rattle.ss_logic_means.specs.Means.{standing}
use Rattle.ss_logic_means.specs.Scenes.{IsStoreTerm}
use Rattle.ss_logic_means.specs.Sorts.{HasSort}
use Rattle.ss_logic_means.proofs.Contracts.{contract_stated}
use Rattle.ss_logic_tables.specs.Spans.{IsArgument, AreArguments, AreReferences, SpanTerms, SpanValues, terms_of, IsSpan}
use Rattle.ss_logic_tables.specs.Conditions.{ContractTerms, ContractValues, IsContract}
use Rattle.ss_logic_tables.proofs.Bodies.{formed_typed}
use Rattle.ss_logic_tables.proofs.Keeping.{objects_kept}
use Rattle.ss_logic_tables.proofs.Contexts.{term_argument, contract_means}
use Rattle.ss_logic_tables.proofs.Sorting.{terms_sorted}
use Rattle.ss_sound_runs.specs.Served.{HasArguments}
use Rattle.ss_vcgen_heaps.specs.Positions.{Position, Walk, meant_of}
use Rattle.ss_vcgen_heaps.specs.Contracts.{defaults_meant, contract_context}
use Rattle.ss_vcgen_heaps.specs.Obligations.{arguments_at, frame_formula}
use Rattle.ss_sound_outcomes.specs.Points.{Point}
use Rattle.ss_sound_outcomes.specs.Outcomes.{locals_at_exit}
use Rattle.ss_vcgen_safe.specs.At.{IsAlike, Agrees}
use Rattle.ss_vcgen_safe.proofs.Keeps.{AllMean}
use Rattle.ss_vcgen_safe.specs.Goes.{IsEntered, IsHere}

-- ---- lists

get_front : {A : Type 0} (xs ys : List A) (i : ℕ) (x : A) → slice_get xs i ≡ Some x → slice_get (xs ++ ys) i ≡ Some x
get_front [] ys i x h = absurd (let no : ⊥ = cc in no)
get_front (y ∷ xs) ys zero x h = h
get_front (y ∷ xs) ys (suc i) x h = get_front xs ys i x h

-- an argument has the type that it has among the locals
pub argument_local : (b : BodyTree) (i : ℕ) (t : Ty) → slice_get (argument_types b) i ≡ Some t → slice_get (local_types b) i ≡ Some t
argument_local b i t h = get_front (argument_types b ++ types_of b.locals) _ i t (get_front (argument_types b) (types_of b.locals) i t h)

pub argument_among : (b : BodyTree) (i : ℕ) (t : Ty) → slice_get (argument_types b) i ≡ Some t → is_argument b i ≡ true
argument_among b i t h = lt-ltb i (argument_count b) (slice_get_within (argument_types b) i t h)

-- the first terms are arguments where each is
first_terms : (cs : List ClassTree) (m : Structure) (ts : List Ty) (ls : List (Option Term)) (vs : List ObjectValue) → length vs ≡ length ts →
    ((i : ℕ) (t : Ty) (v : ObjectValue) → slice_get ts i ≡ Some t → slice_get vs i ≡ Some v → (u : Term) × (slice_get ls i ≡ Some (Some u)) × IsArgument cs m t (One u) v) → AreArguments cs m ts (map meant_of (take (length ts) ls)) vs
first_terms cs m [] [] [] count h = tt
first_terms cs m [] (l ∷ ls) [] count h = tt
first_terms cs m [] ls (v ∷ vs) count h = absurd (omega (arith, count))
first_terms cs m (t ∷ ts) ls [] count h = absurd (omega (arith, count))
first_terms cs m (t ∷ ts) [] (v ∷ vs) count h = let z = h 0 t v refl refl in let is = z.1 in absurd (let no : ⊥ = cc in no)
first_terms cs m (t ∷ ts) (l ∷ ls) (v ∷ vs) count h =
    let z = h 0 t v refl refl in
    let is = z.1 in
    let same : l ≡ Some z.0 = cc in
    (subst (λ o. IsArgument cs m t (meant_of o) v) (sym same) z.2, first_terms cs m ts ls vs (omega (arith, count)) (λ i r y a b. h (suc i) r y a b))

-- ---- stores

module _ (w : Walk) (before : List Object) (table : Table) (m : Structure) (k : Position) (p : Point) (g : Agrees w before table m k p) (m' : Structure) (alike : IsAlike k.next m m') where
  pub now_objects : objects_of w.program.classes m'.table g.store_is.heap ≡ p.store
  now_objects = ap (λ t. objects_of w.program.classes t g.store_is.heap) (alike.table ∙ g.table_is) ∙ g.store_is.objects

  pub entry_objects : objects_of w.program.classes m'.table g.entry.heap ≡ before
  entry_objects = ap (λ t. objects_of w.program.classes t g.entry.heap) (alike.table ∙ g.table_is) ∙ g.entry.objects

  pub now_term : IsStoreTerm w.program.classes m' k.store g.store_is.heap
  now_term = (g.store_is.sorted.1, g.store_is.is m' alike [])

  pub entry_term : IsStoreTerm w.program.classes m' w.entry g.entry.heap
  entry_term = (g.entry.sorted.1, g.entry.is m' alike [])

-- ---- at a position

module _ (w : Walk) (before : List Object) (table : Table) (arguments : List ObjectValue) (entered : IsEntered w before arguments) (xs : ℕ → Bool) (m : Structure) (k : Position) (p : Point)
    (here : IsHere w before table arguments xs m k p) where
  abbrev cs : List ClassTree
  cs = w.program.classes

  abbrev b : BodyTree
  b = w.body

  pub has_arguments : HasArguments b arguments p.locals
  has_arguments = record { passed = entered.passed.good.count; count = here.at.sound.locals.count; same = here.same }

  -- they are of their types in the store now too
  pub arguments_good : AreGoodArguments cs p.store b arguments
  arguments_good = record {
    count = entered.passed.good.count;
    types = λ i t v typed there. here.at.sound.locals.types i t v (argument_local b i t typed) (here.same i (argument_among b i t typed) ∙ there);
    ready = λ i v none there.
        here.at.sound.locals.ready i v none (here.same i (lt-ltb i (argument_count b) (let l = slice_get_within arguments i v there in let c = entered.passed.good.count in omega (arith, l, c))) ∙ there);
  }

  module _ (m' : Structure) (alike : IsAlike k.next m m') where
    one_argument : (i : ℕ) (t : Ty) (v : ObjectValue) → slice_get (argument_types b) i ≡ Some t → slice_get arguments i ≡ Some v → (u : Term) × (slice_get k.locals i ≡ Some (Some u)) × IsArgument cs m' t (One u) v
    one_argument i t v typed there =
        let among = argument_among b i t typed in
        let u = here.at.terms i (here.assigned i among) in
        let l = here.at.agrees.locals i u.0 u.1 in (
          u.0,
          u.1,
          term_argument cs m' t u.0 v (subst (λ o. HasSort cs [] (element_sort o) u.0) (argument_local b i t typed) l.sorted)
              (l.is m' alike [] ∙ ap (λ o. standing (unwrap_or o value.Null)) (here.same i among ∙ there)),
        )

    -- what the arguments mean at the position has the values with which the body was entered
    pub arguments_are : AreArguments cs m' (argument_types b) (arguments_at w k) arguments
    arguments_are = first_terms cs m' (argument_types b) k.locals arguments entered.passed.good.count one_argument

    abbrev former : Heap
    former = here.at.agrees.entry.heap

    abbrev now : Heap
    now = here.at.agrees.store_is.heap

    good_now : IsGood cs (invariants_hold cs) (objects_of cs m'.table now)
    good_now = subst (IsGood cs (invariants_hold cs)) (sym (now_objects w before table m k p here.at.agrees m' alike)) here.at.sound.store

    good_former : IsGood cs (invariants_hold cs) (objects_of cs m'.table former)
    good_former = subst (IsGood cs (invariants_hold cs)) (sym (entry_objects w before table m k p here.at.agrees m' alike)) (subst (IsGood cs (invariants_hold cs)) here.at.agrees.entry.objects here.at.agrees.entry.good.objects)

    -- ---- the frame condition

    abbrev pub span_terms : List Term → SpanTerms
    span_terms us = record { before = w.entry; after = k.store; arguments = arguments_at w k; outside = us }

    abbrev pub span_values : List ObjectValue → SpanValues
    span_values ys = record { before = former; after = now; arguments = arguments; outside = ys }

    pub span_at : (us : List Term) (ys : List ObjectValue) → AreReferences cs m' us ys → IsSpan cs m' b (span_terms us) (span_values ys)
    span_at us ys outside =
        let now_is = now_objects w before table m k p here.at.agrees m' alike in
        let entry_is = entry_objects w before table m k p here.at.agrees m' alike in
        record {
          chain = entered.program.chain;
          beside = entered.program.beside;
          body = formed_typed w.program b entered.body;
          before = entry_term w before table m k p here.at.agrees m' alike;
          after = now_term w before table m k p here.at.agrees m' alike;
          good_before = good_former;
          good_after = good_now;
          older = rw (now_is, entry_is) here.at.sound.grown.older;
          passed = subst (λ s. AreGoodArguments cs s b arguments) (sym entry_is) entered.passed.good;
          arguments = arguments_are;
          outside = outside;
        }

    -- where its formula is true, the frame condition holds
    pub frame_holds : (us : List Term) (ys : List ObjectValue) → AreReferences cs m' us ys → True cs m' [] (frame_formula w us k) →
        is_kept (record { classes = cs; body = b; locals = locals_at_entry b arguments; entry = before; now = p.store; outside = ys }) ≡ true
    frame_holds us ys outside true_ =
        let sp = span_at us ys outside in
        let held = objects_kept cs m' b (span_terms us) (span_values ys) sp (kept_from cs m' (terms_of cs b (span_terms us)) (terms_sorted cs m' b (span_terms us) (span_values ys) sp) true_) in
        subst (λ s. is_kept (record { classes = cs; body = b; locals = locals_at_entry b arguments; entry = before; now = s; outside = ys }) ≡ true) (now_objects w before table m k p here.at.agrees m' alike)
        (subst (λ s. is_kept (record { classes = cs; body = b; locals = locals_at_entry b arguments; entry = s; now = objects_of cs m'.table now; outside = ys }) ≡ true) (entry_objects w before table m k p here.at.agrees m' alike) held)

    -- ---- the conditions at exit

    module _ (ms : List Meant) (v : ObjectValue) (good : AreGoodLocals cs p.store b (locals_at_exit b arguments v)) (meant : AreArguments cs m' (local_types b) (arguments_at w k ++ defaults_meant (types_of b.locals) ++ ms) (locals_at_exit b arguments v)) where
      abbrev contract_terms : ContractTerms
      contract_terms = record { now = k.store; entry = w.entry; arguments = arguments_at w k; result = ms }

      abbrev contract_values : ContractValues
      contract_values = record { now = now; entry = former; locals = locals_at_exit b arguments v }

      contract_at : IsContract cs m' b contract_terms contract_values
      contract_at =
          let now_is = now_objects w before table m k p here.at.agrees m' alike in
          let entry_is = entry_objects w before table m k p here.at.agrees m' alike in
          record {
            chain = entered.program.chain;
            beside = entered.program.beside;
            now = now_term w before table m k p here.at.agrees m' alike;
            entry = entry_term w before table m k p here.at.agrees m' alike;
            good_now = good_now;
            good_entry = good_former;
            older = rw (now_is, entry_is) here.at.sound.grown.older;
            locals = subst (λ s. AreGoodLocals cs s b (locals_at_exit b arguments v)) (sym now_is) good;
            meant = meant;
          }

      each_means : (es : List ExprTree) → list_all (is_exit cs b) es ≡ true → AllMean cs m' es (contract_context cs b k.store w.entry (arguments_at w k) ms) (setting cs p.store before (locals_at_exit b arguments v))
      each_means [] h = tt
      each_means (e ∷ es) h =
          let q = and_parts (is_exit cs b e) (list_all (is_exit cs b) es) h in
          let means = contract_means cs m' b contract_terms contract_values contract_at e (contract_stated cs b in_ensures _ e q.0) in
          let now_is = now_objects w before table m k p here.at.agrees m' alike in
          let entry_is = entry_objects w before table m k p here.at.agrees m' alike in
          (rw (sym now_is, sym entry_is) means, each_means es q.1)

      -- each condition at exit is true exactly where it holds
      pub exit_means : AllMean cs m' b.exit (contract_context cs b k.store w.entry (arguments_at w k) ms) (setting cs p.store before (locals_at_exit b arguments v))
      exit_means = each_means b.exit entered.body.exit
