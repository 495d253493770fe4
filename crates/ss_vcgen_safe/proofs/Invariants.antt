-- The invariants of an object at a position.
use Rattle.std.proofs.Common.{◌≡◌, ℕ, zero, suc, List, [], ◌∷◌, true, false, ◌&&◌, refl, sym, ap, subst}
use Rattle.std.specs.Prelude.{Some, slice_get, ◌==◌}
use Rattle.std.specs.List.{list_all}
use Rattle.std.proofs.lemmas.Bool.{true≢false, and_parts}
use Rattle.ss_core.specs.declared.names.Ty.{Ty}
use Rattle.ss_core.specs.declared.names.Ty.TheVariants as ty
use Rattle.ss_core.specs.Tree.{ClassTree, ExprTree}
use Rattle.ss_core.specs.Chain.{IsChain, NoAlso}
use Rattle.ss_store_rules.specs.declared.Value.{Value as ObjectValue}
use Rattle.ss_store_rules.specs.declared.Value.TheVariants as value
use Rattle.ss_store_rules.specs.Store.{Object}
use Rattle.ss_store_rules.specs.Admissible.{is_admissible, invariants, invariants_hold}
use Rattle.ss_store_rules.specs.Good.{has_type, IsReady, IsGood}
use Rattle.ss_store_rules.specs.Typed.{invariant_types, is_invariant}
use Rattle.ss_store_rules.specs.Values as run
use Rattle.ss_machine_typed.specs.Settings.{IsGoodSetting}
use Rattle.ss_machine_typed.proofs.Older.{older_self}
use Rattle.ss_logic.specs.Values.{reference, thing, Value, Structure}
use Rattle.ss_logic.specs.Terms.{Term}
use Rattle.ss_logic.specs.Express.{One, Context, local_meant, holds_formula}
use Rattle.ss_logic.specs.Invariants.{invariant_context}
use Rattle.ss_logic_means.specs.Means.{standing, Denotes, Means}
use Rattle.ss_logic_means.specs.Scenes.{setting_of, StandsAmong}
use Rattle.ss_logic_means.proofs.Denoting.{one_denotes}
use Rattle.ss_logic_means.proofs.Everywhere.{all_locals, plainly_all}
use Rattle.ss_logic_means.proofs.Invariants.{condition_means, admissible_no_default}
use Rattle.ss_vcgen_safe.specs.Done.{StandsFor, HasStore}
use Rattle.ss_vcgen_safe.proofs.Keeps.{AllMean}

module _ (cs : List ClassTree) (chain : IsChain cs) (beside : NoAlso cs) (l : List Object) (good : IsGood cs (invariants_hold cs) l) (q t : ℕ) (typed : has_type cs l (ty.Ref (record { 0 = t }) true) (value.Obj q) ≡ true) where
  abbrev This : List ObjectValue
  This = value.Obj q ∷ []

  this_type : (x : ℕ) (u : Ty) (v : ObjectValue) → slice_get (invariant_types t) x ≡ Some u → slice_get This x ≡ Some v → has_type cs l u v ≡ true
  this_type zero u v e f =
      let type : ty.Ref (record { 0 = t }) true ≡ u = cc in
      let same : value.Obj q ≡ v = cc in
      subst (λ w. has_type cs l u w ≡ true) same (subst (λ y. has_type cs l y (value.Obj q) ≡ true) type typed)
  this_type (suc x) u v e f = absurd (let no : ⊥ = cc in no)

  -- an invariant may rely on this of the object
  setting_good : IsGoodSetting (run.setting cs l l This) (invariant_types t) true
  setting_good = record {
    chain = chain;
    beside = beside;
    store = good;
    entry = good;
    older = older_self l;
    count = refl;
    types = this_type;
    ready = others_ready;
  }
    where
      others_ready : (x : ℕ) (v : ObjectValue) → (true && x == 0) ≡ false → slice_get This x ≡ Some v → IsReady l v
      others_ready zero v apart f = absurd (true≢false apart)
      others_ready (suc x) v apart f = absurd (let no : ⊥ = cc in no)

  module _ (m : Structure) (s o : Term) (has : HasStore cs m s l) (stands : StandsFor cs m o (standing (value.Obj q))) where
    abbrev C : Context
    C = invariant_context cs s o t

    this_stands : (x : ℕ) (v : ObjectValue) → all_locals x ≡ true → slice_get This x ≡ Some v → (vs : List Value) → Denotes cs m vs (local_meant C x) (standing v)
    this_stands zero v a e vs = let same : value.Obj q ≡ v = cc in subst (λ u. Denotes cs m vs (One o) (standing u)) same (one_denotes cs m vs o (thing (reference q)) (stands vs))
    this_stands (suc x) v a e vs = absurd (let no : ⊥ = cc in no)

    all_stand : StandsAmong all_locals m C has.heap has.heap This []
    all_stand = record { now = λ vs. has.stands vs; entry = λ vs. has.stands vs; count = refl; locals = this_stands }

    same_setting : setting_of m C has.heap has.heap This ≡ run.setting cs l l This
    same_setting = ap (λ u. run.setting cs u u This) has.is.objects

    one_means : (x : ExprTree) → is_invariant cs t x ≡ true → is_admissible cs t x ≡ true → Means cs m [] (holds_formula x C) (run.holds x (run.setting cs l l This))
    one_means x is_typed may =
        subst (λ y. Means cs m [] (holds_formula x C) (run.holds x y)) same_setting
        (condition_means all_locals m has.heap has.heap x C This true (subst (λ y. IsGoodSetting y (invariant_types t) true) (sym same_setting) setting_good) [] all_stand (plainly_all x (admissible_no_default cs t x may)) is_typed refl)

    all_mean : (xs : List ExprTree) → list_all (is_invariant cs t) xs ≡ true → list_all (is_admissible cs t) xs ≡ true → AllMean cs m xs C (run.setting cs l l This)
    all_mean [] a b = tt
    all_mean (x ∷ xs) a b =
        let p = and_parts (is_invariant cs t x) (list_all (is_invariant cs t) xs) a in
        let r = and_parts (is_admissible cs t x) (list_all (is_admissible cs t) xs) b in
        (one_means x p.0 r.0, all_mean xs p.1 r.1)

    -- the formula of each invariant of the class is true exactly where the invariant holds
    pub invariants_mean : list_all (is_invariant cs t) (invariants cs t) ≡ true → list_all (is_admissible cs t) (invariants cs t) ≡ true → AllMean cs m (invariants cs t) C (run.setting cs l l This)
    invariants_mean a b = all_mean (invariants cs t) a b
