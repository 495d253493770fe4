-- After a call: what its contract allows makes true what is assumed of the new store and of the result.
use Rattle.std.proofs.Common.{◌≡◌, ℕ, suc, List, [], ◌∷◌, ◌++◌, length, map, true, Some, refl, sym, ◌∙◌, ap, subst, arith}
use Rattle.std.specs.Prelude.{slice_get, option_to_list, Option, None, is_some, if◌then◌else◌}
use Rattle.std.specs.List.{list_all}
use Rattle.std.proofs.lemmas.Bool.{and_parts}
use Rattle.std.proofs.lemmas.List.{length-append, length-map}
use Rattle.ss_core.specs.declared.names.Kind.TheVariants as kind
use Rattle.ss_core.specs.declared.names.Place.{Place}
use Rattle.ss_core.specs.declared.names.Ty.{Ty}
use Rattle.ss_core.specs.Tree.{ClassTree, ExprTree, LocalTree, BodyTree}
use Rattle.ss_core.specs.Chain.{IsChain, NoAlso}
use Rattle.ss_store_rules.specs.declared.Value.{Value as ObjectValue}
use Rattle.ss_store_rules.specs.Store.{Object}
use Rattle.ss_store_rules.specs.Good.{has_type, IsReady, IsGood}
use Rattle.ss_store_rules.specs.Admissible.{invariants_hold}
use Rattle.ss_store_rules.specs.States.{AreGoodLocals}
use Rattle.ss_store_rules.specs.Values.{Setting, setting, holds}
use Rattle.ss_store_rules.specs.Locals.{types_of, argument_types, local_types, result_number}
use Rattle.ss_machine_rules.specs.Frame.{Span, is_kept}
use Rattle.ss_store_rules.specs.NonNull.{is_non_null_type}
use Rattle.ss_machine_rules.specs.States.{ToCall, locals_at_entry, put}
use Rattle.ss_machine_rules.specs.Steps.{result_local}
use Rattle.ss_machine_rules.specs.Good as machine
use Rattle.ss_machine_typed.specs.Older.{IsOlder}
use Rattle.ss_machine_typed.specs.Settings.{AreGoodArguments}
use Rattle.ss_machine_typed.proofs.Older.{older_self, locals-older}
use Rattle.ss_machine_typed.proofs.First.{entered_locals, put_locals}
use Rattle.ss_logic.specs.declared.Sort.TheVariants as sort
use Rattle.ss_logic.specs.Values.{Heap, Table, Value, store, sort_of_value, Structure}
use Rattle.ss_logic.specs.Terms.{Term, sort_of_type, sort_of, value_of}
use Rattle.ss_logic.specs.Formulas.{True, Hold}
use Rattle.ss_logic.specs.Objects.{objects_of, IsGoodStore}
use Rattle.ss_logic.proofs.Truth.{value_sorted}
use Rattle.ss_logic.specs.Express.{Meant, One, element_sort}
use Rattle.ss_logic.specs.Frames.{kept, grown}
use Rattle.ss_logic.proofs.Kept.{kept_to, grown_to}
use Rattle.ss_logic_means.specs.Means.{standing}
use Rattle.ss_logic_means.specs.Scenes.{IsStoreTerm, is_stated}
use Rattle.ss_logic_means.specs.Sorts.{HasSort}
use Rattle.ss_logic_means.proofs.Standing.{get_at}
use Rattle.ss_logic_tables.specs.Tabled.{tabled, IsStoreOf}
use Rattle.ss_logic_tables.specs.Elsewhere.{SameElsewhere}
use Rattle.ss_logic_tables.proofs.Tabling.{list_has_its_heap, heap_is_as_before}
use Rattle.ss_logic_tables.specs.Spans.{AreArguments, SpanTerms, SpanValues, IsSpan, terms_of, span_of}
use Rattle.ss_logic_tables.specs.Conditions.{ContractTerms, ContractValues, IsContract, contract_of, contract_setting_of}
use Rattle.ss_logic_tables.proofs.Keeping.{heaps_kept}
use Rattle.ss_logic_tables.proofs.Sorting.{terms_sorted}
use Rattle.ss_logic_tables.proofs.Growing.{heaps_grown, heaps_of_terms, two_stores}
use Rattle.ss_logic_tables.proofs.Standing.{entry_arguments}
use Rattle.ss_logic_tables.proofs.Contexts.{term_argument, plain_exit_arguments, exit_arguments, contract_means}
use Rattle.ss_vcgen_heaps.specs.Positions.{Counters, Position, Walk, good, assume, assume_all, new_term, with_new, set_store}
use Rattle.ss_vcgen_heaps.specs.Contracts.{is_of_type, defaults_meant, no_result, contract_context, conditions, frame_terms}
use Rattle.ss_vcgen_heaps.specs.Obligations.{check_entry, result_term, with_result, assume_result, AreValid}
use Rattle.ss_vcgen_safe.proofs.Standing.{has_objects, is_good}
use Rattle.ss_sound_outcomes.specs.Points.{Point, HasGrown, Fits, ArePassed}
use Rattle.ss_sound_outcomes.specs.Outcomes.{with_store, locals_at_exit, IsReturn, Enters}
use Rattle.ss_vcgen_safe.specs.At.{IsAlike, Stays, HasValue, activation, Agrees, Rises}
use Rattle.ss_vcgen_safe.proofs.Alike.{rises_twice, rises_new, alike_twice, alike_lower, stays_on, new_agrees}
use Rattle.ss_vcgen_safe.proofs.PositionsJoins.{typed_sort}
use Rattle.ss_vcgen_safe.proofs.Keeps.{AllMean, assumed, assumed_all, conditions_checked, conditions_assumed}
use Rattle.ss_vcgen_safe.proofs.Same.{same_assume_all}
use Rattle.ss_vcgen_safe.proofs.PositionsTerms.{standing_numbered}
use Rattle.ss_vcgen_safe.specs.Stated.{IsStatedBody, IsTermFor, AreTermsFor, IsResult}
use Rattle.ss_vcgen_safe.proofs.Types.{type_true}

-- ---- arguments

-- terms for values of these types
terms_arguments : (cs : List ClassTree) (s : List Object) (next : Counters) (m m' : Structure) → IsAlike next m m' → (tys : List Ty) (ts : List Term) (vs : List ObjectValue) → length vs ≡ length tys →
    ((x : ℕ) (a : Ty) (v : ObjectValue) → slice_get tys x ≡ Some a → slice_get vs x ≡ Some v → has_type cs s a v ≡ true) → AreTermsFor cs next m ts vs → AreArguments cs m' tys (map One ts) vs
terms_arguments cs s next m m' alike [] [] [] count types h = tt
terms_arguments cs s next m m' alike (a ∷ tys) [] [] count types h = absurd (let no : ⊥ = cc in no)
terms_arguments cs s next m m' alike [] (t ∷ ts) (v ∷ vs) count types h = absurd (let no : ⊥ = cc in no)
terms_arguments cs s next m m' alike (a ∷ tys) (t ∷ ts) (v ∷ vs) count types h =
    let is = h.0.is m' alike [] in
    let of : sort_of cs [] t ≡ sort_of_type a = sym (value_sorted cs m' t h.0.sorted) ∙ ap sort_of_value is ∙ typed_sort cs s a v (types 0 a v refl refl) in
    (term_argument cs m' a t v (of, h.0.sorted) is, terms_arguments cs s next m m' alike tys ts vs (let n : suc (length vs) ≡ suc (length tys) = count in cc) (λ x b u. types (suc x) b u) h.1)
terms_arguments cs s next m m' alike tys [] (v ∷ vs) count types h = absurd h
terms_arguments cs s next m m' alike tys (t ∷ ts) [] count types h = absurd h

-- ---- conditions

all_mean : (cs : List ClassTree) (m : Structure) (b : BodyTree) (t : ContractTerms) (v : ContractValues) → IsContract cs m b t v → (s : Setting) → contract_setting_of cs m v ≡ s → (es : List ExprTree) → list_all (is_stated cs (local_types b)) es ≡ true →
    AllMean cs m es (contract_of cs b t) s
all_mean cs m b t v k s same [] h = tt
all_mean cs m b t v k s same (e ∷ es) h =
    let p = and_parts (is_stated cs (local_types b) e) (list_all (is_stated cs (local_types b)) es) h in
    let read = contract_means cs m b t v k e p.0 in
    let at : holds e (contract_setting_of cs m v) ≡ holds e s = ap (holds e) same in
    ((λ q. sym at ∙ read.0 q, λ q. read.1 (at ∙ q)), all_mean cs m b t v k s same es p.1)

-- ---- where a body is left

result_type : (b : BodyTree) (t : Ty) → b.result ≡ Some t → slice_get (local_types b) (result_number b) ≡ Some t
result_type b t e =
    let before = argument_types b ++ types_of b.locals in
    let n = length-append (argument_types b) (types_of b.locals) in
    let l = length-map b.locals (λ (z : LocalTree). z.ty) in
    let number : result_number b ≡ length before = omega (arith, n, l) in
    ap (λ r. slice_get (before ++ option_to_list r) (result_number b)) e ∙ ap (slice_get (before ++ t ∷ [])) number ∙ get_at before t []

exit_locals : (cs : List ClassTree) (z : List Object) (b : BodyTree) (locals : List ObjectValue) (v : ObjectValue) → AreGoodLocals cs z b locals → ((t : Ty) → b.result ≡ Some t → has_type cs z t v ≡ true) → IsReady z v → AreGoodLocals cs z b (put (result_local b) v locals)
exit_locals cs z b locals v are typed ready = with_result_of b.result refl
  where
    with_result_of : (r : Option Ty) → b.result ≡ r → AreGoodLocals cs z b (put (if is_some r then Some (result_number b) else None) v locals)
    with_result_of None e = are
    with_result_of (Some t) e = put_locals cs z b locals (result_number b) t v are (result_type b t e) (typed t e) ready

-- ---- a call

module _ (w : Walk) (before : List Object) (table : Table) (chain : IsChain w.program.classes) (beside : NoAlso w.program.classes) (p : Point) (sound : machine.IsGoodStore w.program p.store)
    (b : BodyTree) (stated : IsStatedBody w.program.classes b) (ts : List Term) (vs : List ObjectValue) (passed : ArePassed w.program b p.store vs) where
  abbrev cs : List ClassTree
  cs = w.program.classes

  abbrev ms : List Meant
  ms = map One ts

  -- the frame condition of the body over two stores
  abbrev Span_of : BodyTree → List Object → List Object → Span
  Span_of c s z = record { classes = cs; body = c; locals = locals_at_entry c vs; entry = s; now = z; outside = [] }

  module _ (k : Position) (m : Structure) (g : Agrees w before table m k p) (are : AreTermsFor cs k.next m ts vs) where
    abbrev h : Heap
    h = g.store_is.heap

    objects_now : (m' : Structure) → IsAlike k.next m m' → objects_of cs m'.table h ≡ p.store
    objects_now m' a = ap (λ t. objects_of cs t h) (a.table ∙ g.table_is) ∙ g.store_is.objects

    store_term : (m' : Structure) → IsAlike k.next m m' → IsStoreTerm cs m' k.store h
    store_term m' a = (g.store_is.sorted.1, g.store_is.is m' a [])

    arguments_at : (m' : Structure) → IsAlike k.next m m' → AreArguments cs m' (argument_types b) ms vs
    arguments_at m' a = terms_arguments cs p.store k.next m m' a (argument_types b) ts vs passed.good.count passed.good.types are

    good_now : (m' : Structure) → IsAlike k.next m m' → IsGood cs (invariants_hold cs) (objects_of cs m'.table h)
    good_now m' a = subst (IsGood cs (invariants_hold cs)) (sym (objects_now m' a)) sound

    -- ---- its entry

    abbrev EntryTerms : ContractTerms
    EntryTerms = record { now = k.store; entry = k.store; arguments = ms; result = no_result b }

    abbrev EntryValues : ContractValues
    EntryValues = record { now = h; entry = h; locals = locals_at_entry b vs }

    entry_contract : (m' : Structure) → IsAlike k.next m m' → IsContract cs m' b EntryTerms EntryValues
    entry_contract m' a = record {
      chain = chain;
      beside = beside;
      now = store_term m' a;
      entry = store_term m' a;
      good_now = good_now m' a;
      good_entry = good_now m' a;
      older = older_self (objects_of cs m'.table h);
      locals = subst (λ s. AreGoodLocals cs s b (locals_at_entry b vs)) (sym (objects_now m' a)) (entered_locals cs p.store b vs passed.good);
      meant = entry_arguments cs m' b ms vs (arguments_at m' a);
    }

    -- where the obligations are valid the conditions at its entry hold
    pub entered : (at : Place) → AreValid cs (check_entry w at b ms k).listed → Enters (activation w before table) b vs p.store × Agrees w before table m (check_entry w at b ms k) p
    entered at valid =
        conditions_checked w before table m p kind.Precondition at b.entry (contract_of cs b EntryTerms) (setting cs p.store p.store (locals_at_entry b vs)) k
        (λ m' a. all_mean cs m' b EntryTerms EntryValues (entry_contract m' a) _ (ap (λ s. setting cs s s (locals_at_entry b vs)) (objects_now m' a)) b.entry stated.entry) valid g

    -- ---- after it

    module _ (into : Option ℕ) (z : List Object) (v : ObjectValue) (fits : Fits cs table z) (r : IsReturn (activation w before table) b (ToCall into) vs p.store z v) where
      abbrev hz : Heap
      hz = tabled h z

      store_of : IsStoreOf cs table hz z
      store_of = list_has_its_heap cs chain table h z r.good fits (subst (λ s. IsOlder s z) (sym g.store_is.objects) r.grown.older) g.store_is.good

      abbrev zt : Term
      zt = new_term sort.Store k

      abbrev zs_sorted : HasSort cs [] sort.Store zt
      zs_sorted = (refl, refl)

      -- a structure like m in which the new constant has the new heap
      module _ (m' : Structure) (a : IsAlike k.next m m') (is : (e : List Value) → value_of cs m' e zt ≡ store hz) where
        table_same : m'.table ≡ table
        table_same = a.table ∙ g.table_is

        objects_new : objects_of cs m'.table hz ≡ z
        objects_new = ap (λ t. objects_of cs t hz) table_same ∙ store_of.objects

        new_store : IsStoreTerm cs m' zt hz
        new_store = (refl, is [])

        good_new : IsGood cs (invariants_hold cs) (objects_of cs m'.table hz)
        good_new = subst (IsGood cs (invariants_hold cs)) (sym objects_new) r.good

        older_new : IsOlder (objects_of cs m'.table h) (objects_of cs m'.table hz)
        older_new = subst (λ s. IsOlder s (objects_of cs m'.table hz)) (sym (objects_now m' a)) (subst (λ s. IsOlder p.store s) (sym objects_new) r.grown.older)

        abbrev Terms : SpanTerms
        Terms = record { before = k.store; after = zt; arguments = ms; outside = [] }

        abbrev Values : SpanValues
        Values = record { before = h; after = hz; arguments = vs; outside = [] }

        span_is : IsSpan cs m' b Terms Values
        span_is = record {
          chain = chain;
          beside = beside;
          body = stated.typed;
          before = store_term m' a;
          after = new_store;
          good_before = good_now m' a;
          good_after = good_new;
          older = older_new;
          passed = subst (λ s. AreGoodArguments cs s b vs) (sym (objects_now m' a)) passed.good;
          arguments = arguments_at m' a;
          outside = tt;
        }

        same_elsewhere : SameElsewhere cs m'.table h hz
        same_elsewhere = subst (λ t. SameElsewhere cs t h hz) (sym table_same) (heap_is_as_before cs chain table h z r.good fits (subst (λ s. IsOlder s z) (sym g.store_is.objects) r.grown.older))

        span_same : span_of cs m' b Values ≡ record { classes = cs; body = b; locals = locals_at_entry b vs; entry = p.store; now = z; outside = [] }
        span_same =
            ap (λ s. Span_of b s (objects_of cs m'.table hz)) (objects_now m' a) ∙ ap (Span_of b p.store) objects_new

        kept_true : True cs m' [] (kept cs (frame_terms cs b k.store zt ms []))
        kept_true = kept_to cs m' (terms_of cs b Terms) (terms_sorted cs m' b Terms Values span_is) (heaps_kept cs m' b Terms Values span_is same_elsewhere (ap is_kept span_same ∙ r.kept))

        grown_true : True cs m' [] (grown k.store zt)
        grown_true =
            grown_to cs m' k.store zt (two_stores cs m' k.store zt h hz (store_term m' a) new_store) (heaps_of_terms cs m' k.store zt h hz (store_term m' a) new_store
            (heaps_grown cs m'.table h hz (good_now m' a) good_new (subst (λ s. HasGrown s (objects_of cs m'.table hz)) (sym (objects_now m' a)) (subst (λ s. HasGrown p.store s) (sym objects_new) r.grown))))

        good_true : True cs m' [] (good zt)
        good_true = is_good cs m' zt z (has_objects cs m' zt hz z is (subst (λ t. IsGoodStore cs t hz) (sym table_same) store_of.good) objects_new)

        type_is_true : (t : Ty) → b.result ≡ Some t → (x : Term) → value_of cs m' [] x ≡ standing v → Hold cs m' (is_of_type true zt t x)
        type_is_true t e x there =
            type_true cs m' zt x hz (is []) true t v there (subst (λ s. has_type cs s t v ≡ true) (sym objects_new) (r.answer.types t e)) (λ _. subst (λ s. IsReady s v) (sym objects_new) r.answer.ready)
            (λ nn. r.answer.non_null (ap is_non_null_type e ∙ nn))

        abbrev ExitTerms : List Term → ContractTerms
        ExitTerms rs = record { now = zt; entry = k.store; arguments = ms; result = map One rs }

        abbrev ExitValues : ContractValues
        ExitValues = record { now = hz; entry = h; locals = locals_at_exit b vs v }

        exits_mean : (rs : List Term) → AreArguments cs m' (local_types b) (ms ++ defaults_meant (types_of b.locals) ++ map One rs) (locals_at_exit b vs v) → AllMean cs m' b.exit (contract_of cs b (ExitTerms rs)) (setting cs z p.store (locals_at_exit b vs v))
        exits_mean rs meant =
            all_mean cs m' b (ExitTerms rs) ExitValues
            (record {
              chain = chain;
              beside = beside;
              now = new_store;
              entry = store_term m' a;
              good_now = good_new;
              good_entry = good_now m' a;
              older = older_new;
              locals = subst (λ s. AreGoodLocals cs s b (locals_at_exit b vs v)) (sym objects_new)
                  (exit_locals cs z b (locals_at_entry b vs) v (locals-older cs p.store z r.grown.older b (locals_at_entry b vs) (entered_locals cs p.store b vs passed.good)) (λ t e. r.answer.types t e) r.answer.ready);
              meant = meant;
            })
            (setting cs z p.store (locals_at_exit b vs v))
            (ap (λ s. setting cs s (objects_of cs m'.table h) (locals_at_exit b vs v)) objects_new ∙ ap (λ s. setting cs z s (locals_at_exit b vs v)) (objects_now m' a)) b.exit stated.exit

      -- at a position with the new store, all that is assumed but the type of the result
      module _ (j : Position) (m2 : Structure) (rises : Rises k.next j.next) (alike : IsAlike k.next m m2) (zs : Stays j.next m2 (HasValue cs zt (store hz))) (there : Agrees w before table m2 j (with_store z p)) (rs : List Term)
          (meant : Stays j.next m2 (λ m'. AreArguments cs m' (local_types b) (ms ++ defaults_meant (types_of b.locals) ++ map One rs) (locals_at_exit b vs v))) where
        abbrev j1 : Position
        j1 = assume_all (kept cs (frame_terms cs b k.store zt ms []) ∷ grown k.store zt ∷ []) j

        abbrev j2 : Position
        j2 = assume (good zt) j1

        abbrev j3 : Position
        j3 = assume_all (conditions b.exit (contract_context cs b zt k.store ms (map One rs))) j2

        up : (m' : Structure) → IsAlike j.next m2 m' → IsAlike k.next m m'
        up m' a = alike_twice k.next m m2 m' alike (alike_lower k.next j.next m2 m' rises a)

        conditions_agree : Agrees w before table m2 j3 (with_store z p)
        conditions_agree =
            let g1 = assumed_all w before table m2 (with_store z p) (kept cs (frame_terms cs b k.store zt ms []) ∷ grown k.store zt ∷ []) j
            (λ m' a. (kept_true m' (up m' a) (zs m' a), (grown_true m' (up m' a) (zs m' a), tt))) there in
            let g2 = assumed w before table m2 (with_store z p) (good zt) j1 (λ m' a. good_true m' (up m' a) (zs m' a)) g1 in
            conditions_assumed w before table m2 (with_store z p) b.exit (contract_context cs b zt k.store ms (map One rs)) (setting cs z p.store (locals_at_exit b vs v)) j2
            (λ m' a. exits_mean m' (up m' a) (zs m' a) rs (meant m' a)) r.exit g2

        type_agrees : (t : Ty) → b.result ≡ Some t → (x : Term) → Stays j.next m2 (HasValue cs x (standing v)) → j.store ≡ zt → Agrees w before table m2 (assume_all (is_of_type true j3.store t x) j3) (with_store z p)
        type_agrees t e x is store_is =
            let like = same_assume_all (conditions b.exit (contract_context cs b zt k.store ms (map One rs))) j2 in
            assumed_all w before table m2 (with_store z p) (is_of_type true j3.store t x) j3
            (λ m' a.
            let here : IsAlike j.next m2 m' = subst (λ (n : Counters). IsAlike n m2 m') like.next a in
            subst (λ (s : Term). Hold cs m' (is_of_type true s t x)) (sym (like.like.store ∙ store_is)) (type_is_true m' (up m' here) (zs m' here) t e x (is m' here []))) conditions_agree

      -- what is known after the call, where this is the type of the result
      abbrev returned_as : Option Ty → Position
      returned_as o =
          let result = result_term o (with_new sort.Store k) in
          let called = assume_all (kept cs (frame_terms cs b k.store zt ms []) ∷ grown k.store zt ∷ []) (set_store zt (with_result o (with_new sort.Store k))) in
          assume_result o result (assume_all (conditions b.exit (contract_context cs b zt k.store ms (map One result))) (assume (good zt) called))

      -- in some structure that is alike the position after the call agrees, and the result has its value there
      pub record HasReturned (o : Option Ty) : Type 0 where
        pub m' : Structure
        pub alike : IsAlike k.next m m'
        pub agrees : Agrees w before table m' (returned_as o) (with_store z p)
        pub result : IsResult cs (returned_as o).next m' o (result_term o (with_new sort.Store k)) v

      -- where the new constant has the new heap
      at_new_store : (j : Position) (m2 : Structure) → Agrees w before table m2 j p → Stays j.next m2 (HasValue cs zt (store hz)) → Agrees w before table m2 (set_store zt j) (with_store z p)
      at_new_store j m2 a zs = record {
        table_is = a.table_is;
        entry = a.entry;
        store_is = record { heap = hz; is = zs; sorted = zs_sorted; good = store_of.good; objects = store_of.objects };
        count = a.count;
        locals = λ x t there. let l = a.locals x t there in record { is = l.is; sorted = l.sorted };
        guard = a.guard;
        premises = a.premises;
      }

      has_returned : (o : Option Ty) → b.result ≡ o → HasReturned o
      has_returned None e =
          let n1 = new_agrees w before table m sort.Store k (store hz) p store_of.numbered refl g in
          let k1 = with_new sort.Store k in
          let j = set_store zt k1 in
          record {
            m' = n1.m';
            alike = n1.alike;
            agrees = conditions_agree j n1.m' (rises_new sort.Store k.next) n1.alike n1.is (at_new_store k1 n1.m' n1.agrees n1.is) []
                (λ m' a. plain_exit_arguments cs m' b ms vs (arguments_at m' (alike_twice k.next m n1.m' m' n1.alike (alike_lower k.next k1.next n1.m' m' (rises_new sort.Store k.next) a))) e v);
            result = tt;
          }
      has_returned (Some t) e =
          let s = element_sort (Some t) in
          let n1 = new_agrees w before table m sort.Store k (store hz) p store_of.numbered refl g in
          let k1 = with_new sort.Store k in
          let n2 = new_agrees w before table n1.m' s k1 (standing v) p (standing_numbered v) (typed_sort cs z t v (r.answer.types t e)) n1.agrees in
          let k2 = with_new s k1 in
          let j = set_store zt k2 in
          let x = new_term s k1 in
          let rises = rises_twice k.next k1.next k2.next (rises_new sort.Store k.next) (rises_new s k1.next) in
          let alike = alike_twice k.next m n1.m' n2.m' n1.alike (alike_lower k.next k1.next n1.m' n2.m' (rises_new sort.Store k.next) n2.alike) in
          let zs : Stays k2.next n2.m' (HasValue cs zt (store hz)) = stays_on (HasValue cs zt (store hz)) k1.next k2.next n1.m' n2.m' (rises_new s k1.next) n2.alike n1.is in
          let there = at_new_store k2 n2.m' n2.agrees zs in
          let meant = λ (m' : Structure) (a : IsAlike k2.next n2.m' m').
          exit_arguments cs m' b ms vs (arguments_at m' (alike_twice k.next m n2.m' m' alike (alike_lower k.next k2.next n2.m' m' rises a))) t e (One x) v (term_argument cs m' t x v (refl, refl) (n2.is m' a [])) in
          let i = assume (good zt) (assume_all (kept cs (frame_terms cs b k.store zt ms []) ∷ grown k.store zt ∷ []) j) in
          let c = assume_all (conditions b.exit (contract_context cs b zt k.store ms (One x ∷ []))) i in
          let same = (same_assume_all (is_of_type true c.store t x) c).next ∙ (same_assume_all (conditions b.exit (contract_context cs b zt k.store ms (One x ∷ []))) i).next in
          record {
            m' = n2.m';
            alike = alike;
            agrees = type_agrees j n2.m' rises alike zs there (x ∷ []) meant t e x n2.is refl;
            result = (subst (λ (n : Counters). IsTermFor cs n n2.m' x v) (sym same) (record { sorted = refl; is = n2.is }), (refl, refl));
          }

      -- after a call that its contract allows the position agrees
      pub call_returned : HasReturned b.result
      call_returned = has_returned b.result refl
