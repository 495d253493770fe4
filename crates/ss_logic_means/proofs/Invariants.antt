-- The rule on invariants: in a good store the invariants of an object are true at each class at which it is packed.
use Rattle.std.proofs.Common.{◌≡◌, ℕ, zero, suc, List, [], ◌∷◌, ◌++◌, length, Bool, true, false, ◌&&◌, map, eqb, Option, Some, None, Ok, Err, refl, sym, ◌∙◌, ap, subst, ⊎_elim}
use Rattle.std.specs.Prelude.{slice_get, nat_lt, if◌then◌else◌}
use Rattle.std.specs.List.{list_all}
use Rattle.std.proofs.lemmas.Bool.{false≢true, and_parts, and_from, or_cases}
use Rattle.ss_core.specs.declared.names.Ty.{Ty}
use Rattle.ss_core.specs.declared.names.Ty.TheVariants as ty
use Rattle.ss_core.specs.Tree.{ClassTree, ExprTree, IntExpr, BoolExpr, NullExpr, LocalExpr, FieldExpr, ElementExpr, LengthExpr, NegateExpr, NotExpr, BinaryExpr, ImpliesExpr, IffExpr, IsExpr, AsExpr, CastExpr, OldExpr, QuantifiedExpr, StateExpr, OwnersExpr, DefaultExpr}
use Rattle.ss_core.specs.Chain.{sub, below, IsChain, NoAlso}
use Rattle.ss_core.proofs.Chains.{sub-below, sub_if_below, below_trans}
use Rattle.ss_store_rules.specs.declared.Value.{Value as ObjectValue}
use Rattle.ss_store_rules.specs.declared.Value.TheVariants as value
use Rattle.ss_store_rules.specs.Store.{Object}
use Rattle.ss_store_rules.specs.Numbers.{Outcome}
use Rattle.ss_store_rules.specs.Changes.{field_class, field_mark}
use Rattle.ss_store_rules.specs.Types.{is_bool, type_of}
use Rattle.ss_store_rules.specs.Typed.{invariant_types, is_invariant}
use Rattle.ss_store_rules.specs.Good.{has_type, is_of_class, IsReady}
use Rattle.ss_store_rules.specs.Admissible.{is_this, is_own_field, is_owned_path, is_admissible, invariants}
use Rattle.ss_core.specs.Marks.{is_rep, is_rep_or_peer}
use Rattle.ss_store_rules.specs.Values as run
use Rattle.ss_logic.specs.declared.Sort.TheVariants as sort
use Rattle.ss_logic.specs.Values.{reference, class_name, Thing, Heap, Value, whole, truth, thing, store, sort_of_value, as_thing, as_store, is_allocated, Structure}
use Rattle.ss_logic.specs.Terms.{Term, sort_of, is_well_sorted, same_sort, have_sorts, value_of}
use Rattle.ss_logic.specs.Formulas.{Formula, Good, atom, True, AllTrue, formulas_from, is_below}
use Rattle.ss_logic.specs.Objects.{objects_of, IsGoodStore}
use Rattle.ss_logic.proofs.Tabled.{there}
use Rattle.ss_logic.proofs.Truth.{AreOf-values, closed_value, formula_stable}
use Rattle.ss_logic.specs.Shapes.{class_term, level_of, sub_atom, allocated, class_of_term}
use Rattle.ss_logic.proofs.Sentences.{given_true}
use Rattle.ss_logic.specs.Express.{and_of, Meant, One, said, Context, local_meant, meant, defined, holds_formula}
use Rattle.ss_logic.specs.Invariants.{invariant_context, invariants_said, packed_invariants, invariants_at, invariants_of}
use Rattle.ss_machine_typed.specs.Settings.{IsGoodSetting}
use Rattle.ss_machine_typed.proofs.Older.{older_self}
use Rattle.ss_logic_means.specs.Means.{standing, Means}
use Rattle.ss_logic_means.specs.Scenes.{setting_of, Stands, StandsAmong, has_no_default, AreInvariants}
use Rattle.ss_logic_means.proofs.Denoting.{M, D, R, one_denotes, All-append, All-parts}
use Rattle.ss_logic_means.proofs.Operations.{IsBool, Gives, truth_denotes}
use Rattle.ss_logic_means.proofs.Operands.{bool_some}
use Rattle.ss_logic_means.proofs.Typed.{fine, gives_bool}
use Rattle.ss_logic_means.proofs.Everywhere.{reads_plainly, all_locals, plainly_all}
use Rattle.ss_logic_means.proofs.Standing.{stands_among}
use Rattle.ss_logic_means.proofs.Translating.{translated}

-- ---- conditions

-- a condition is defined and true exactly where it holds
holds_from : (cs : List ClassTree) (m : Structure) (e : List Value) (ps : List Formula) (x : Meant) (r : Outcome) → Gives IsBool r → R cs m e ps x r → M cs m e (and_of (ps ++ said x ∷ [])) (run.is_true r)
holds_from cs m e ps x (Ok v) g h =
    let says = truth_denotes cs m e x (Ok v) g v refl h.1 in
    (λ t. says.0 (All-parts cs m e ps (said x ∷ []) t).1.0, λ y. All-append cs m e ps (said x ∷ []) h.0 (says.1 y, tt))
holds_from cs m e ps x (Err u) g h = (λ t. absurd (h (All-parts cs m e ps (said x ∷ []) t).0), λ y. absurd (false≢true y))

pub condition_means : (among : ℕ → Bool) (m : Structure) (now entry : Heap) (x : ExprTree) (c : Context) (locals : List ObjectValue) (k : Bool) → IsGoodSetting (setting_of m c now entry locals) c.types k → (e : List Value) → StandsAmong among m c now entry locals e →
    reads_plainly among x ≡ true → is_bool (type_of c.classes c.types x) ≡ true → length e ≡ c.bound → Means c.classes m e (holds_formula x c) (run.holds x (setting_of m c now entry locals))
condition_means among m now entry x c locals k good e st none is at =
    holds_from c.classes m e (defined x c) (meant x c) (run.value_of x (setting_of m c now entry locals)) (gives_bool m (setting_of m c now entry locals) now refl c.types k good x is)
    (translated among m now entry x c locals k good e st none (bool_some (type_of c.classes c.types x) is) (λ _. at))

-- ---- an admissible invariant has no default condition

this_no_default : (x : ExprTree) → is_this x ≡ true → has_no_default x ≡ true
this_no_default (LocalExpr p x) h = refl
this_no_default x h = absurd (false≢true h)

path_no_default : (cs : List ClassTree) (t : ℕ) (x : ExprTree) → is_owned_path cs t x ≡ true → has_no_default x ≡ true
path_no_default cs t (FieldExpr p x f) h =
    ⊎_elim
    (λ own. this_no_default x (and_parts (is_this x) (below cs t (field_class cs f)) (and_parts (is_own_field cs t x f) (is_rep (field_mark cs f)) own).0).0)
    (λ owned. path_no_default cs t x (and_parts (is_owned_path cs t x) (is_rep_or_peer (field_mark cs f)) owned).0)
    (or_cases (is_own_field cs t x f && is_rep (field_mark cs f)) (is_owned_path cs t x && is_rep_or_peer (field_mark cs f)) h)
path_no_default cs t x h = absurd (false≢true h)

both : (cs : List ClassTree) (t : ℕ) (x y : ExprTree) → (is_admissible cs t x ≡ true → has_no_default x ≡ true) → (is_admissible cs t y ≡ true → has_no_default y ≡ true) → (is_admissible cs t x && is_admissible cs t y) ≡ true → (has_no_default x && has_no_default y) ≡ true
both cs t x y one other h = let p = and_parts (is_admissible cs t x) (is_admissible cs t y) h in and_from (has_no_default x) (has_no_default y) (one p.0) (other p.1)

pub admissible_no_default : (cs : List ClassTree) (t : ℕ) (x : ExprTree) → is_admissible cs t x ≡ true → has_no_default x ≡ true
admissible_no_default cs t (IntExpr p n) h = refl
admissible_no_default cs t (BoolExpr p b) h = refl
admissible_no_default cs t (NullExpr p) h = refl
admissible_no_default cs t (LocalExpr p x) h = refl
admissible_no_default cs t (FieldExpr p x f) h =
    ⊎_elim
    (λ own. this_no_default x (and_parts (is_this x) (below cs t (field_class cs f)) own).0)
    (λ owned. path_no_default cs t x owned)
    (or_cases (is_own_field cs t x f) (is_owned_path cs t x) h)
admissible_no_default cs t (ElementExpr p x i) h =
    let q = and_parts (is_owned_path cs t x) (is_admissible cs t i) h in
    and_from (has_no_default x) (has_no_default i) (path_no_default cs t x q.0) (admissible_no_default cs t i q.1)
admissible_no_default cs t (LengthExpr p x) h = admissible_no_default cs t x h
admissible_no_default cs t (NegateExpr p x) h = admissible_no_default cs t x h
admissible_no_default cs t (NotExpr p x) h = admissible_no_default cs t x h
admissible_no_default cs t (BinaryExpr p o x y) h = both cs t x y (admissible_no_default cs t x) (admissible_no_default cs t y) h
admissible_no_default cs t (ImpliesExpr p x y) h = both cs t x y (admissible_no_default cs t x) (admissible_no_default cs t y) h
admissible_no_default cs t (IffExpr p x y) h = both cs t x y (admissible_no_default cs t x) (admissible_no_default cs t y) h
admissible_no_default cs t (IsExpr p x u) h = admissible_no_default cs t x h
admissible_no_default cs t (AsExpr p x u) h = admissible_no_default cs t x h
admissible_no_default cs t (CastExpr p u n x) h = admissible_no_default cs t x h
admissible_no_default cs t (OldExpr p x) h = absurd (false≢true h)
admissible_no_default cs t (QuantifiedExpr p q name low high x) h =
    let one = and_parts (is_admissible cs t low) (is_admissible cs t high && is_admissible cs t x) h in
    let two = and_parts (is_admissible cs t high) (is_admissible cs t x) one.1 in
    and_from (has_no_default low && has_no_default high) (has_no_default x)
    (and_from (has_no_default low) (has_no_default high) (admissible_no_default cs t low one.0) (admissible_no_default cs t high two.0)) (admissible_no_default cs t x two.1)
admissible_no_default cs t (StateExpr p w x) h = absurd (false≢true h)
admissible_no_default cs t (OwnersExpr p w x y) h = absurd (false≢true h)
admissible_no_default cs t (DefaultExpr p d) h = absurd (false≢true h)

-- ---- the rule

store_value : (v : Value) → sort_of_value v ≡ sort.Store → v ≡ store (as_store v)
store_value (store h) e = refl
store_value (whole n) e = absurd (let no : ⊥ = cc in no)
store_value (truth b) e = absurd (let no : ⊥ = cc in no)
store_value (thing w) e = absurd (let no : ⊥ = cc in no)

thing_value : (v : Value) → sort_of_value v ≡ sort.Rest → v ≡ thing (as_thing v)
thing_value (thing w) e = refl
thing_value (whole n) e = absurd (let no : ⊥ = cc in no)
thing_value (truth b) e = absurd (let no : ⊥ = cc in no)
thing_value (store h) e = absurd (let no : ⊥ = cc in no)

closed : (cs : List ClassTree) (s o : Term) → have_sorts cs (sort.Store ∷ sort.Rest ∷ []) (s ∷ o ∷ []) ≡ true → (is_well_sorted cs [] s ≡ true) × (is_well_sorted cs [] o ≡ true)
closed cs s o h =
    let p = and_parts (same_sort (sort_of cs [] s) sort.Store && is_well_sorted cs [] s) (have_sorts cs (sort.Rest ∷ []) (o ∷ [])) h in
    let q = and_parts (same_sort (sort_of cs [] o) sort.Rest && is_well_sorted cs [] o) (have_sorts cs [] []) p.1 in
    ((and_parts (same_sort (sort_of cs [] s) sort.Store) (is_well_sorted cs [] s) p.0).1, (and_parts (same_sort (sort_of cs [] o) sort.Rest) (is_well_sorted cs [] o) q.0).1)

module _ (cs : List ClassTree) (chain : IsChain cs) (beside : NoAlso cs) (are : AreInvariants cs) (m : Structure) (s o : Term) (sorts : have_sorts cs (sort.Store ∷ sort.Rest ∷ []) (s ∷ o ∷ []) ≡ true) where
  abbrev H : Heap
  H = as_store (value_of cs m [] s)

  abbrev Objects : List Object
  Objects = objects_of cs m.table H

  is_store : value_of cs m [] s ≡ store H
  is_store = store_value (value_of cs m [] s) (AreOf-values cs m (sort.Store ∷ sort.Rest ∷ []) (s ∷ o ∷ []) sorts).0

  is_thing : value_of cs m [] o ≡ thing (as_thing (value_of cs m [] o))
  is_thing = thing_value (value_of cs m [] o) (AreOf-values cs m (sort.Store ∷ sort.Rest ∷ []) (s ∷ o ∷ []) sorts).1.0

  module _ (good : IsGoodStore cs m.table H) (t q : ℕ) (is : value_of cs m [] o ≡ thing (reference q)) (l : nat_lt q H.next ≡ true) (packed : sub cs (H.at (reference q)).level t ≡ true) where
    abbrev C : Context
    C = invariant_context cs s o t

    abbrev This : List ObjectValue
    This = value.Obj q ∷ []

    this_stands : (x : ℕ) (v : ObjectValue) → slice_get This x ≡ Some v → (vs : List Value) → D cs m ([] ++ vs) (local_meant C x) (standing v)
    this_stands zero v e vs =
        let same : value.Obj q ≡ v = cc in
        subst (λ u. D cs m vs (One o) (standing u)) same (one_denotes cs m vs o (thing (reference q)) (closed_value cs m vs o (closed cs s o sorts).1 ∙ is))
    this_stands (suc x) v e vs = absurd (let no : ⊥ = cc in no)

    stands : Stands m C H H This []
    stands = record {
      now = λ vs. closed_value cs m vs s (closed cs s o sorts).0 ∙ is_store;
      entry = λ vs. closed_value cs m vs s (closed cs s o sorts).0 ∙ is_store;
      count = refl;
      locals = this_stands;
    }

    of_class : sub cs (m.table.class_of (reference q)) t ≡ true
    of_class =
        let c = m.table.class_of (reference q) in
        let level = (H.at (reference q)).level in
        sub_if_below cs c t (below_trans cs chain c level t (fine cs m.table H good.objects q l).level (sym (sub-below cs beside level t) ∙ packed))

    this_type : (x : ℕ) (u : Ty) (v : ObjectValue) → slice_get (invariant_types t) x ≡ Some u → slice_get This x ≡ Some v → has_type cs Objects u v ≡ true
    this_type zero u v e f =
        let type : ty.Ref (record { 0 = t }) true ≡ u = cc in
        let same : value.Obj q ≡ v = cc in
        subst (λ w. has_type cs Objects u w ≡ true) same (subst (λ y. has_type cs Objects y (value.Obj q) ≡ true) type (ap (is_of_class cs t) (there cs m.table H q l) ∙ of_class))
    this_type (suc x) u v e f = absurd (let no : ⊥ = cc in no)

    -- `this` need not be ready
    others_ready : (x : ℕ) (v : ObjectValue) → (true && eqb x 0) ≡ false → slice_get This x ≡ Some v → IsReady Objects v
    others_ready zero v apart f = absurd (false≢true (sym apart))
    others_ready (suc x) v apart f = absurd (let no : ⊥ = cc in no)

    good_setting : IsGoodSetting (setting_of m C H H This) (invariant_types t) true
    good_setting = record {
      chain = chain;
      beside = beside;
      store = good.objects;
      entry = good.objects;
      older = older_self Objects;
      count = refl;
      types = this_type;
      ready = others_ready;
    }

    one_true : (x : ExprTree) → is_invariant cs t x ≡ true → is_admissible cs t x ≡ true → run.holds x (run.setting cs Objects Objects This) ≡ true → True cs m [] (holds_formula x C)
    one_true x is_typed may holds = (condition_means all_locals m H H x C This true good_setting [] (stands_among all_locals m C H H This [] stands) (plainly_all x (admissible_no_default cs t x may)) is_typed refl).1 holds

    all_true : (xs : List ExprTree) → list_all (is_invariant cs t) xs ≡ true → list_all (is_admissible cs t) xs ≡ true → list_all (λ x. run.holds x (run.setting cs Objects Objects This)) xs ≡ true →
        AllTrue cs m [] (formulas_from (map (λ x. holds_formula x C) xs))
    all_true [] a b c = tt
    all_true (x ∷ xs) a b c =
        let p = and_parts (is_invariant cs t x) (list_all (is_invariant cs t) xs) a in
        let q = and_parts (is_admissible cs t x) (list_all (is_admissible cs t) xs) b in
        let r = and_parts (run.holds x (run.setting cs Objects Objects This)) (list_all (λ y. run.holds y (run.setting cs Objects Objects This)) xs) c in
        (one_true x p.0 q.0 r.0, all_true xs p.1 q.1 r.1)

    said_true : True cs m [] (invariants_said cs s o t)
    said_true = all_true (invariants cs t) (are.typed t) (are.admissible t) ((fine cs m.table H good.objects q l).invariants t (sym (sub-below cs beside (H.at (reference q)).level t) ∙ packed))

  packed_at : IsGoodStore cs m.table H → (t : ℕ) (w : Thing) → value_of cs m [] o ≡ thing w → is_allocated H w ≡ true → is_below cs (class_name (H.at w).level) (class_name t) ≡ true → True cs m [] (invariants_said cs s o t)
  packed_at good t (reference q) is l packed = said_true good t q is l packed
  packed_at good t w is l packed = absurd (false≢true l)

  pub packed_true : IsGoodStore cs m.table H → (t : ℕ) → True cs m [] (packed_invariants cs s o t)
  packed_true good t =
      given_true cs m (allocated s o ∷ sub_atom (level_of s o) (class_term t) ∷ []) (invariants_said cs s o t) (λ h. packed_at good t (as_thing (value_of cs m [] o)) is_thing h.0 h.1.0)

-- each instance is true where its store is good
module _ (cs : List ClassTree) (chain : IsChain cs) (beside : NoAlso cs) (are : AreInvariants cs) (m : Structure) (s : Term) (f : Formula) where
  at_class : (o : Term) → have_sorts cs (sort.Store ∷ sort.Rest ∷ []) (s ∷ o ∷ []) ≡ true → (t : Option ℕ) → invariants_at cs s o t ≡ Some f → True cs m [] (atom Good (s ∷ [])) → True cs m [] f
  at_class o sorts None e good = absurd (let no : ⊥ = cc in no)
  at_class o sorts (Some t) e good =
      let same : packed_invariants cs s o t ≡ f = cc in
      subst (λ g. True cs m [] g) same (formula_stable cs m [] (packed_invariants cs s o t) (λ n. good (λ g. n (packed_true cs chain beside are m s o sorts g t))))

  of_terms : (b : Bool) (o t : Term) → have_sorts cs (sort.Store ∷ sort.Rest ∷ []) (s ∷ o ∷ []) ≡ b → (if b then invariants_at cs s o (class_of_term t) else None) ≡ Some f → True cs m [] (atom Good (s ∷ [])) → True cs m [] f
  of_terms true o t sorts e good = at_class o sorts (class_of_term t) e good
  of_terms false o t sorts e good = absurd (let no : ⊥ = cc in no)

  pub invariants_true : (ts : List Term) → invariants_of cs s ts ≡ Some f → True cs m [] (atom Good (s ∷ [])) → True cs m [] f
  invariants_true (o ∷ t ∷ []) e good = of_terms (have_sorts cs (sort.Store ∷ sort.Rest ∷ []) (s ∷ o ∷ [])) o t refl e good
  invariants_true [] e good = absurd (let no : ⊥ = cc in no)
  invariants_true (o ∷ []) e good = absurd (let no : ⊥ = cc in no)
  invariants_true (o ∷ t ∷ u ∷ ts) e good = absurd (let no : ⊥ = cc in no)
