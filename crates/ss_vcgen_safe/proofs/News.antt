-- New objects: a `new` goes on safely from a position at which the run is.
use Rattle.std.proofs.Common.{◌≡◌, ℕ, suc, ◌+◌, List, [], ◌∷◌, length, map, Bool, true, false, ◌&&◌, ◌||◌, ◌==◌, refl, sym, ◌∙◌, ap, subst, arith}
use Rattle.std.specs.Prelude.{Option, Some, None, slice_get}
use Rattle.std.specs.List.{list_all}
use Rattle.std.proofs.lemmas.Bool.{false≢true, and_parts, eqb-true}
use Rattle.ss_core.specs.declared.names.Place.{Place}
use Rattle.ss_core.specs.Tree.{ClassTree, ExprTree, NewStmt, StmtTree, BodyTree}
use Rattle.ss_core.specs.Chain.{is_declared}
use Rattle.ss_store_rules.specs.declared.Value.{Value as ObjectValue}
use Rattle.ss_store_rules.specs.declared.Value.TheVariants as value
use Rattle.ss_store_rules.specs.Assigned.{assigned_flow, reads_assigned}
use Rattle.ss_store_rules.specs.Admissible.{invariants_hold}
use Rattle.ss_store_rules.specs.Changes.{changed_from, made_ready, new_object, new_object_of, ready_of}
use Rattle.ss_store_rules.specs.Good.{IsGood, IsReady}
use Rattle.ss_store_rules.specs.Locals.{is_target, types_of}
use Rattle.ss_store_rules.specs.Paths as paths
use Rattle.ss_store_rules.specs.Store.{Object}
use Rattle.ss_store_rules.specs.Typed.{is_constructor_of, constructor_of, fits_kept, is_call_of}
use Rattle.ss_store_rules.specs.Types.{class_type}
use Rattle.ss_machine_rules.specs.Good as machine
use Rattle.ss_machine_rules.specs.Steps.{values_of, with_ready}
use Rattle.ss_machine_good.proofs.Constructions.{found_passes}
use Rattle.ss_logic.specs.declared.Sort.TheVariants as sort
use Rattle.ss_logic.specs.Values.{reference, class_name, Table, thing, store, as_thing, as_store, IsNumbered, Structure}
use Rattle.ss_logic.specs.Changes as changes
use Rattle.ss_logic.specs.Terms.{New, Next, MakeReady, Term, app, applied, value_of}
use Rattle.ss_logic.specs.Objects.{IsGoodStore, objects_of}
use Rattle.ss_logic.proofs.Numbered.{store_numbered}
use Rattle.ss_logic.specs.Shapes.{class_term, equal, next_of}
use Rattle.ss_logic.specs.Shapes as shape
use Rattle.ss_logic.specs.Express.{Meant, One}
use Rattle.ss_logic_means.specs.Means.{standing}
use Rattle.ss_logic_means.specs.Sorts.{HasSort}
use Rattle.ss_logic_means.proofs.Standing.{get_at}
use Rattle.ss_logic_tables.specs.Tabled.{IsStoreOf}
use Rattle.ss_logic_tables.proofs.Adding.{new_store}
use Rattle.ss_logic_tables.proofs.Reading.{next_is}
use Rattle.ss_logic_tables.proofs.Writing.{made_ready_store}
use Rattle.ss_vcgen_heaps.specs.Positions.{Counters, Position, Walk, good, assume, set_store, evaluate_all}
use Rattle.ss_vcgen_heaps.specs.Positions as positions
use Rattle.ss_vcgen_heaps.specs.Obligations.{settle_all, arguments_settled, check_entry, returned, result_term, keep, constructed, behind, AreValid}
use Rattle.ss_vcgen_heaps.specs.Obligations as obligations
use Rattle.ss_vcgen_safe.proofs.Standing.{has_objects, is_good}
use Rattle.ss_sound_outcomes.specs.Points.{Activation, Point, scene, Fits, entry_size}
use Rattle.ss_sound_outcomes.specs.Outcomes.{with_local, with_store, ConstructsSafely}
use Rattle.ss_vcgen_safe.specs.At.{IsAlike, Stays, HasValue, IsTrueIn, IsStore, activation, Agrees, Rises}
use Rattle.ss_vcgen_safe.proofs.Alike.{rises_twice, alike_self, alike_twice, alike_lower, stays_on}
use Rattle.ss_vcgen_safe.proofs.Keeps.{assumed}
use Rattle.ss_vcgen_safe.proofs.Leads.{leads_evaluate_all, leads_assume, leads_with_store}
use Rattle.ss_vcgen_safe.proofs.PositionsStatements.{leads_settle_all, leads_keep, leads_ready, leads_constructed, leads_entry, leads_returned}
use Rattle.ss_vcgen_safe.specs.Goes.{IsCoded, IsEntered, IsHere, EndsIn, Goes}
use Rattle.ss_vcgen_safe.proofs.Puts.{put_arguments, known_agrees}
use Rattle.ss_vcgen_safe.proofs.Behind.{later_known, here_after}
use Rattle.ss_vcgen_safe.specs.Stated.{IsStatedBody, IsTermFor, AreTermsFor}
use Rattle.ss_vcgen_safe.proofs.Stated.{formed_stated}
use Rattle.ss_vcgen_safe.proofs.Called.{kept_agrees, called_at}
use Rattle.ss_vcgen_safe.proofs.CallsKnown.{kept_true}
use Rattle.ss_vcgen_safe.proofs.CallsOperands.{have_some, operands_given}
use Rattle.ss_vcgen_safe.proofs.Calls.{has_values, call_fits, callee_there}

-- ---- what is ready already

or_same : (a b : Bool) → (b ≡ true → a ≡ true) → (a || b) ≡ a
or_same true b h = refl
or_same false true h = absurd (false≢true (h refl))
or_same false false h = refl

ready_from : (o n : ℕ) (s : List Object) → ((i : ℕ) (x : Object) → slice_get s i ≡ Some x → n + i ≡ o → x.ready ≡ true) → changed_from n (made_ready o) s ≡ s
ready_from o n [] h = refl
ready_from o n (x ∷ s) h =
    let one : x.ready || n == o ≡ x.ready = or_same x.ready (n == o) (λ e. let same = eqb-true n o e in h 0 x refl (omega (arith, same))) in
    ap (λ r. record x { ready = r } ∷ changed_from (n + 1) (made_ready o) s) one ∙ ap (λ ys. x ∷ ys) (ready_from o (n + 1) s (λ i y at e. h (suc i) y at (omega (arith, e))))

-- a ready object is made ready in vain
ready_stays : (o : ℕ) (s : List Object) → IsReady s (value.Obj o) → ready_of s o ≡ s
ready_stays o s r = ready_from o 0 s (λ i x at e. r i x (let same : i ≡ o = omega (arith, e) in ap value.Obj (sym same)) at)

-- ---- stores

-- the position with the new store agrees with the point with the new store
store_agrees : (w : Walk) (before : List Object) (table : Table) (m : Structure) (j : Position) (p : Point) (t : Term) (z : List Object) → IsStore w.program.classes table j.next m t z → Agrees w before table m j p → Agrees w before table m (positions.with_store t j) (with_store z p)
store_agrees w before table m j p t z is g =
    let cs = w.program.classes in
    assumed w before table m (with_store z p) (good t) (set_store t j)
    (λ m' a.
    let same : m'.table ≡ table = a.table ∙ g.table_is in
    is_good cs m' t z (has_objects cs m' t is.heap z (is.is m' a) (subst (λ u. IsGoodStore cs u is.heap) (sym same) is.good) (subst (λ u. objects_of cs u is.heap ≡ z) (sym same) is.objects)))
    (record {
      table_is = g.table_is;
      entry = g.entry;
      store_is = is;
      count = g.count;
      locals = λ x u there. let l = g.locals x u there in record { is = l.is; sorted = l.sorted };
      guard = g.guard;
      premises = g.premises;
    })

module _ (cs : List ClassTree) (table : Table) (next : Counters) (m : Structure) (s : Term) (l : List Object) (is : IsStore cs table next m s l) where
  heap_is : IsStoreOf cs table is.heap l
  heap_is = record { objects = is.objects; good = is.good; numbered = subst IsNumbered (ap as_store (is.is m (alike_self next m) [])) (store_numbered cs m s) }

  -- with a new object
  new_is : (t : ℕ) → Fits cs table (new_object_of cs l t) → IsGood cs (invariants_hold cs) (new_object_of cs l t) → IsStore cs table next m (app (New t) (s ∷ [])) (new_object_of cs l t)
  new_is t fits good_z =
      let so = new_store cs table is.heap l heap_is t fits good_z in
      record {
        heap = changes.with_new (changes.new_object is.heap.next) is.heap;
        is = λ m' a e. ap (λ v. applied cs m' (New t) (v ∷ [])) (is.is m' a e);
        sorted = (refl, rw (is.sorted.0, is.sorted.1) refl);
        good = so.good;
        objects = so.objects;
      }

  -- where an object is made ready
  ready_is : (o : Term) (v : ObjectValue) → IsTermFor cs next m o v → HasSort cs [] sort.Rest o → IsGood cs (invariants_hold cs) (with_ready l v) → IsStore cs table next m (app MakeReady (s ∷ o ∷ [])) (with_ready l v)
  ready_is o v there sorted good_z =
      let so = made_ready_store cs table is.heap l heap_is v good_z in
      record {
        heap = changes.changed (changes.made_ready (as_thing (standing v))) is.heap;
        is = λ m' a e. ap (λ u. applied cs m' MakeReady (u ∷ value_of cs m' e o ∷ [])) (is.is m' a e) ∙ ap (λ u. applied cs m' MakeReady (store is.heap ∷ u ∷ [])) (there.is m' a e);
        sorted = (refl, rw (is.sorted.0, is.sorted.1, sorted.0, sorted.1) refl);
        good = so.good;
        objects = so.objects;
      }

  -- the next reference is that of the new object
  next_term : IsTermFor cs next m (next_of s) (value.Obj (length l))
  next_term = record {
    sorted = rw (is.sorted.0, is.sorted.1) refl;
    is = λ m' a e. ap (λ v. applied cs m' Next (v ∷ [])) (is.is m' a e) ∙ ap (λ n. thing (reference n)) (next_is cs table is.heap l heap_is);
  }

term_on : (cs : List ClassTree) (n n' : Counters) (m m' : Structure) (t : Term) (v : ObjectValue) → Rises n n' → IsAlike n m m' → IsTermFor cs n m t v → IsTermFor cs n' m' t v
term_on cs n n' m m' t v r a h = record { sorted = h.sorted; is = stays_on (HasValue cs t (standing v)) n n' m m' r a h.is }

-- ---- `new`

module _ (w : Walk) (before : List Object) (table : Table) (arguments : List ObjectValue) (entry : IsEntered w before arguments) where
  abbrev cs : List ClassTree
  cs = w.program.classes

  abbrev a : Activation
  a = activation w before table

  module _ (at : Place) (x : Option ℕ) (t : ℕ) (es : List ExprTree) (xs : ℕ → Bool) (m : Structure) (k : Position) (p : Point) (coded : IsCoded w xs k.known (NewStmt at x t es)) (here : IsHere w before table arguments xs m k p)
      (valid : AreValid cs (behind w (NewStmt at x t es) k).listed) where
    abbrev st : StmtTree
    st = NewStmt at x t es

    abbrev settled : Position
    settled = settle_all w es (evaluate_all w es k)

    abbrev o : Term
    o = next_of settled.store

    abbrev typed : Position
    typed = assume (equal (shape.type_of o) (class_term t)) settled

    abbrev there : Position
    there = positions.with_store (app (New t) (settled.store ∷ [])) typed

    abbrev after_new : List Meant → Option BodyTree → Position
    after_new ms c = keep x (o ∷ []) (constructed w at o c ms there)

    abbrev object : ObjectValue
    object = value.Obj (length p.store)

    abbrev l : List Object
    l = new_object_of cs p.store t

    abbrev point : Point
    point = with_store l p

    valid_settled : (ms : List Meant) (c : Option BodyTree) → AreValid cs (after_new ms c).listed → AreValid cs settled.listed
    valid_settled ms c v =
        (leads_assume w (equal (shape.type_of o) (class_term t)) settled).listed ((leads_with_store w (app (New t) (settled.store ∷ [])) typed).listed ((leads_constructed w at o c ms there).listed ((leads_keep w x (o ∷ []) (constructed w at o c ms there)).listed v)))

    -- after the constructor, the object ready
    ready_agrees : (delayed : Bool) (j : Position) (m' : Structure) (z : List Object) → Agrees w before table m' j (with_store z p) → IsTermFor cs j.next m' o object → HasSort cs [] sort.Rest o → machine.IsGoodStore w.program (with_ready z object) → (delayed ≡ false → IsReady z object) →
        Agrees w before table m' (obligations.with_ready delayed o j) (with_store (with_ready z object) p)
    ready_agrees true j m' z g term sorted good_z whole =
        store_agrees w before table m' j (with_store z p) (app MakeReady (j.store ∷ o ∷ [])) (with_ready z object) (ready_is cs table j.next m' j.store z g.store_is o object term sorted good_z) g
    ready_agrees false j m' z g term sorted good_z whole = subst (λ y. Agrees w before table m' j (with_store y p)) (sym (ready_stays (length p.store) z (whole refl))) g

    ready_same : (delayed : Bool) (u : Term) (j : Position) → (obligations.with_ready delayed u j).next ≡ j.next
    ready_same true u j = refl
    ready_same false u j = refl

    pub new_goes_on : (terms : List Term) (vs : List ObjectValue) (m1 : Structure) → arguments_settled w es (evaluate_all w es k) ≡ map One terms → IsAlike k.next m m1 → Agrees w before table m1 settled p → AreTermsFor cs settled.next m1 terms vs →
        (b : BodyTree) → constructor_of w.program t ≡ Some b → IsStatedBody cs b → b.flags.ctor ≡ true → fits_kept cs w.body x (Some (class_type t)) ≡ true → machine.IsGoodStore w.program l → Fits cs table l →
        (Q : Point → Type 0) → EndsIn w before table arguments (paths.behind assigned_flow st xs) m k (behind w st k) Q → ConstructsSafely a st Q p x (constructor_of w.program t) object vs l
    new_goes_on terms vs m1 are alike g stand b is stated ctor fits good_l fits_l Q ends =
        let valid1 = subst (λ ms. AreValid cs (after_new ms (constructor_of w.program t)).listed) are valid in
        let valid2 = subst (λ c. AreValid cs (after_new (map One terms) c).listed) is valid1 in
        let first = next_term cs table settled.next m1 settled.store p.store g.store_is in
        let o_sorted : HasSort cs [] sort.Rest o = (refl, first.sorted) in
        let new_there = get_at p.store (new_object cs t (length p.store)) [] in
        let class_is : IsAlike settled.next m1 m1 → Stays settled.next m1 (IsTrueIn cs (equal (shape.type_of o) (class_term t))) = λ _ m' b'.
        ap (λ v. thing (class_name (m'.table.class_of (as_thing v)))) (first.is m' b' [])
        ∙ ap (λ (u : Table). thing (class_name (u.class_of (reference (length p.store))))) (b'.table ∙ g.table_is)
        ∙ ap (λ n. thing (class_name n)) (fits_l.class (length p.store) (new_object cs t (length p.store)) new_there) in
        let g1 = assumed w before table m1 p (equal (shape.type_of o) (class_term t)) settled (class_is (alike_self settled.next m1)) g in
        let g2 = store_agrees w before table m1 typed p (app (New t) (settled.store ∷ [])) l (new_is cs table settled.next m1 settled.store p.store g.store_is t fits_l good_l) g1 in
        let ts = o ∷ terms in
        let made = check_entry w at b (map One ts) there in
        let back = returned w b (map One ts) made in
        let whole = obligations.with_ready b.flags.delayed o back in
        let ready_listed = (leads_ready w b.flags.delayed o back).listed ((leads_keep w x (o ∷ []) whole).listed valid2) in
        subst (λ c. ConstructsSafely a st Q p x c object vs l) (sym is)
        (λ passed.
        let call = called_at w before table entry.program.chain entry.program.beside point good_l here.at.sound.locals.count b stated ts (object ∷ vs) at x there m1 g2 (first, stand) ready_listed passed in (
          call.0,
          λ z v fits_z r sound b_hind.
              let h = call.1 z v fits_z r in
              let m2 = h.0 in
              let z1 = with_ready z object in
              let q = with_local x object (with_store z1 p) in
              let rises = rises_twice there.next made.next back.next (leads_entry w at b (map One ts) there).rises (leads_returned w b (map One ts) made).rises in
              let term = term_on cs there.next back.next m1 m2 o object rises h.1 first in
              let g3 = ready_agrees b.flags.delayed back m2 z h.2 term o_sorted sound.store (λ undelayed. r.answer.whole ctor undelayed) in
              let last = subst (λ (n : Counters). IsTermFor cs n m2 o object) (sym (ready_same b.flags.delayed o back)) term in
              let g4 = kept_agrees w before table m2 whole (with_store z1 p) x object (Some (class_type t)) fits here.at.sound.locals.count (o ∷ []) (last, o_sorted) g3 in
              let g5 = subst (λ c. Agrees w before table m2 (after_new (map One terms) c) q) (sym is) g4 in
              let g6 = subst (λ ms. Agrees w before table m2 (after_new ms (constructor_of w.program t)) q) (sym are) g5 in
              let up = rises_twice k.next (evaluate_all w es k).next settled.next (leads_evaluate_all w es k).rises (leads_settle_all w es (evaluate_all w es k)).rises in
              ends (λ y. is_target st y || xs y) m2 q refl (alike_twice k.next m m1 m2 alike (alike_lower k.next settled.next m1 m2 up h.1))
              (here_after w before table arguments xs m k p st refl coded here m2 q sound b_hind (put_arguments w.body x object p.locals coded.targets)
              (known_agrees w before table m2 (after_new (arguments_settled w es (evaluate_all w es k)) (constructor_of w.program t)) q (behind w st k).known g6)
              (kept_true a p z1 entry.body.flags here.at.sound.locals.count x object (Some (class_type t)) fits coded.targets true (λ _ is_null. let no : ⊥ = cc in no) k.known
              (later_known a (entry_size a) p z1 entry.body.flags here.at.sound b_hind.reached.later k.known here.at.known))),
        ))

  -- Each `new` of a class goes on safely.
  pub new_goes : (at : Place) (x : Option ℕ) (t : ℕ) (es : List ExprTree) (Q : Point → Type 0) → Goes w before table arguments (NewStmt at x t es) Q
  new_goes at x t es Q xs m k p coded here valid ends =
      let c = w.program in
      let typed = and_parts (is_declared cs t && fits_kept cs w.body x (Some (class_type t))) (is_call_of cs w.body None es (constructor_of c t)) coded.typed in
      let fits = (and_parts (is_declared cs t) (fits_kept cs w.body x (Some (class_type t))) typed.0).1 in
      let found = callee_there cs w.body None es (constructor_of c t) typed.1 in
      let b = found.0 in
      let types = (call_fits cs w.body None es (constructor_of c t) b found.1 typed.1).0 in
      let passes = found_passes (is_constructor_of t) c.bodies b found.1 in
      let ctor = (and_parts b.flags.ctor (b.class == t) passes.2).0 in
      let stated = formed_stated c b (entry.program.bodies passes.0 b passes.1) in
      let reads = (and_parts (list_all (reads_assigned w.body xs) es) true coded.assigned).0 in
      let given = operands_given w before table entry.program xs m k p es here.at reads (have_some cs w.body es (types_of b.params) types)
      (valid_settled at x t es xs m k p coded here valid (arguments_settled w es (evaluate_all w es k)) (constructor_of c t) valid) in
      has_values (values_of es (scene a p)) given.values
      (λ vs. machine.IsGoodStore c (new_object_of cs p.store t) → Fits cs table (new_object_of cs p.store t) → ConstructsSafely a (NewStmt at x t es) Q p x (constructor_of c t) (value.Obj (length p.store)) vs (new_object_of cs p.store t)) given.are
      (λ good_l fits_l. new_goes_on at x t es xs m k p coded here valid given.have.terms given.values given.m' given.have.are given.alike given.at.agrees given.have.stand b found.1 stated ctor fits good_l fits_l Q ends)
