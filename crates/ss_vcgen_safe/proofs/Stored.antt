-- A position after a change of the store, where the term of the change stands for the store of the point after.
use Rattle.std.proofs.Common.{◌≡◌, ℕ, List, [], ◌∷◌, Bool, true, ◌||◌, refl, sym, ◌∙◌, ap, subst}
use Rattle.std.specs.Prelude.{Some, Result, Ok, Err}
use Rattle.ss_core.specs.declared.names.Kind.{Kind}
use Rattle.ss_core.specs.Tree.{ClassTree, StmtTree}
use Rattle.ss_store_rules.specs.declared.Value.{Value as ObjectValue}
use Rattle.ss_store_rules.specs.Store.{Object}
use Rattle.ss_store_rules.specs.Locals.{is_target}
use Rattle.ss_machine_good.specs.Flows.{is_simple}
use Rattle.ss_machine_good.specs.Known.{IsTrueOf}
use Rattle.ss_logic.specs.declared.Sort.TheVariants as sort
use Rattle.ss_logic.specs.Values.{Table, Value, Structure}
use Rattle.ss_logic.specs.Terms.{Symbol, Term, app, applied, value_of}
use Rattle.ss_logic.specs.Objects.{IsGoodStore, objects_of}
use Rattle.ss_logic_means.specs.Sorts.{HasSort}
use Rattle.ss_vcgen_heaps.specs.Positions.{Counters, Position, Walk, good, assume, set_store}
use Rattle.ss_vcgen_heaps.specs.Positions as positions
use Rattle.ss_vcgen_heaps.specs.Obligations.{behind}
use Rattle.ss_vcgen_safe.specs.Done.{HasStore, IsDone}
use Rattle.ss_vcgen_safe.proofs.Standing.{has_objects, is_good}
use Rattle.ss_sound_outcomes.specs.Points.{Point, scene, IsSound, IsAfter}
use Rattle.ss_sound_outcomes.specs.Outcomes.{Has, GoesOn, Changes, with_store}
use Rattle.ss_vcgen_safe.specs.At.{IsAlike, Stays, HasValue, IsStore, activation, Agrees}
use Rattle.ss_vcgen_safe.proofs.Alike.{alike_self}
use Rattle.ss_vcgen_safe.proofs.Keeps.{assumed}
use Rattle.ss_vcgen_safe.specs.Goes.{IsCoded, IsHere, EndsIn}
use Rattle.ss_vcgen_safe.proofs.Behind.{here_after}

-- ---- outcomes

-- what is done has a store
pub has_done : {E : Type 0} (r : Result (List Object) E) (P : List Object → Type 0) (z : List Object) → r ≡ Ok z → P z → Has r P
has_done (Ok s) P z e h = let same : s ≡ z = cc in subst P (sym same) h
has_done (Err k) P z e h = absurd (let no : ⊥ = cc in no)

-- ---- terms whose value stays

-- the term has one value in each structure that is alike
abbrev pub IsSteady : List ClassTree → Counters → Structure → Term → Type 0
IsSteady cs next m t = Stays next m (λ m'. (e : List Value) → value_of cs m' e t ≡ value_of cs m e t)

-- what the function gives rests on its arguments alone
abbrev pub IsPlain : List ClassTree → Symbol → Type 0
IsPlain cs f = (m m' : Structure) (vs : List Value) → applied cs m' f vs ≡ applied cs m f vs

module _ (cs : List ClassTree) (next : Counters) (m : Structure) where
  pub steady_value : (t : Term) (v : Value) → Stays next m (HasValue cs t v) → IsSteady cs next m t
  steady_value t v h m' a e = h m' a e ∙ sym (h m (alike_self next m) e)

  pub steady_one : (f : Symbol) (s : Term) → IsPlain cs f → IsSteady cs next m s → IsSteady cs next m (app f (s ∷ []))
  steady_one f s plain h m' a e = plain m m' (value_of cs m' e s ∷ []) ∙ ap (λ v. applied cs m f (v ∷ [])) (h m' a e)

  pub steady_two : (f : Symbol) (s o : Term) → IsPlain cs f → IsSteady cs next m s → IsSteady cs next m o → IsSteady cs next m (app f (s ∷ o ∷ []))
  steady_two f s o plain h i m' a e =
      plain m m' (value_of cs m' e s ∷ value_of cs m' e o ∷ [])
      ∙ ap (λ v. applied cs m f (v ∷ value_of cs m' e o ∷ [])) (h m' a e)
      ∙ ap (λ v. applied cs m f (value_of cs m e s ∷ v ∷ [])) (i m' a e)

  pub steady_three : (f : Symbol) (s o t : Term) → IsPlain cs f → IsSteady cs next m s → IsSteady cs next m o → IsSteady cs next m t → IsSteady cs next m (app f (s ∷ o ∷ t ∷ []))
  steady_three f s o t plain h i j m' a e =
      plain m m' (value_of cs m' e s ∷ value_of cs m' e o ∷ value_of cs m' e t ∷ [])
      ∙ ap (λ v. applied cs m f (v ∷ value_of cs m' e o ∷ value_of cs m' e t ∷ [])) (h m' a e)
      ∙ ap (λ v. applied cs m f (value_of cs m e s ∷ v ∷ value_of cs m' e t ∷ [])) (i m' a e)
      ∙ ap (λ v. applied cs m f (value_of cs m e s ∷ value_of cs m e o ∷ v ∷ [])) (j m' a e)

  pub steady_four : (f : Symbol) (s o t u : Term) → IsPlain cs f → IsSteady cs next m s → IsSteady cs next m o → IsSteady cs next m t → IsSteady cs next m u → IsSteady cs next m (app f (s ∷ o ∷ t ∷ u ∷ []))
  steady_four f s o t u plain h i j l m' a e =
      plain m m' (value_of cs m' e s ∷ value_of cs m' e o ∷ value_of cs m' e t ∷ value_of cs m' e u ∷ [])
      ∙ ap (λ v. applied cs m f (v ∷ value_of cs m' e o ∷ value_of cs m' e t ∷ value_of cs m' e u ∷ [])) (h m' a e)
      ∙ ap (λ v. applied cs m f (value_of cs m e s ∷ v ∷ value_of cs m' e t ∷ value_of cs m' e u ∷ [])) (i m' a e)
      ∙ ap (λ v. applied cs m f (value_of cs m e s ∷ value_of cs m e o ∷ v ∷ value_of cs m' e u ∷ [])) (j m' a e)
      ∙ ap (λ v. applied cs m f (value_of cs m e s ∷ value_of cs m e o ∷ value_of cs m e t ∷ v ∷ [])) (l m' a e)

-- ---- stores at positions

-- the store of the position, in each structure that is alike
pub store_there : (cs : List ClassTree) (table : Table) (next : Counters) (m : Structure) (t : Term) (s : List Object) → m.table ≡ table → IsStore cs table next m t s → Stays next m (λ m'. HasStore cs m' t s)
store_there cs table next m t s same is m' a =
    let same' : table ≡ m'.table = sym (a.table ∙ same) in
    has_objects cs m' t is.heap s (is.is m' a) (subst (λ u. IsGoodStore cs u is.heap) same' is.good) (subst (λ u. objects_of cs u is.heap ≡ s) same' is.objects)

-- a steady term for a store
pub store_from : (cs : List ClassTree) (table : Table) (next : Counters) (m : Structure) (t : Term) (s : List Object) → m.table ≡ table → IsSteady cs next m t → HasSort cs [] sort.Store t → HasStore cs m t s → IsStore cs table next m t s
store_from cs table next m t s same steady sorted has = record {
  heap = has.heap;
  is = λ m' a e. steady m' a e ∙ has.stands e;
  sorted = sorted;
  good = subst (λ u. IsGoodStore cs u has.heap) same has.is.good;
  objects = subst (λ u. objects_of cs u has.heap ≡ s) same has.is.objects;
}

module _ (w : Walk) (before : List Object) (table : Table) (m : Structure) (k : Position) (p : Point) where
  -- The position with the new store agrees with the point with the new store, whose term is good.
  pub stored : (t : Term) (z : List Object) → IsSteady w.program.classes k.next m t → HasSort w.program.classes [] sort.Store t → HasStore w.program.classes m t z → Agrees w before table m k p →
      Agrees w before table m (positions.with_store t k) (with_store z p)
  stored t z steady sorted has g =
      let cs = w.program.classes in
      let is = store_from cs table k.next m t z g.table_is steady sorted has in
      assumed w before table m (with_store z p) (good t) (set_store t k) (λ m' a. is_good cs m' t z (store_there cs table k.next m t z g.table_is is m' a))
      (record {
        table_is = g.table_is;
        entry = g.entry;
        store_is = is;
        count = g.count;
        locals = λ x u there. let l = g.locals x u there in record { is = l.is; sorted = l.sorted };
        guard = g.guard;
        premises = g.premises;
      })

-- ---- where the run is

module _ (w : Walk) (before : List Object) (table : Table) (arguments : List ObjectValue) (xs : ℕ → Bool) (m : Structure) (k : Position) (p : Point) (s : StmtTree) (simple : is_simple s ≡ true) (coded : IsCoded w xs k.known s)
    (here : IsHere w before table arguments xs m k p) where
  -- A statement that changes the store, and assigns nothing: k' is after its checks.
  pub store_goes : (m' : Structure) (k' : Position) (t : Term) (r : Result (List Object) Kind) (Q : Point → Type 0) → IsAlike k.next m m' → Agrees w before table m' k' p → IsSteady w.program.classes k'.next m' t → HasSort w.program.classes [] sort.Store t → IsDone r →
      ((z : List Object) → r ≡ Ok z → IsSound (activation w before table) (with_store z p) → HasStore w.program.classes m' t z) →
      ((z : List Object) → Agrees w before table m' (positions.with_store t k') (with_store z p) → Agrees w before table m' (behind w s k) (with_store z p)) →
      ((z : List Object) → r ≡ Ok z → IsSound (activation w before table) (with_store z p) → IsAfter (activation w before table) s p (with_store z p) → IsTrueOf w.body.flags.ctor (behind w s k).known (scene (activation w before table) (with_store z p))) →
      EndsIn w before table arguments (Some (λ x. is_target s x || xs x)) m k (behind w s k) Q → Changes (activation w before table) s Q p r
  store_goes m' k' t r Q alike agrees steady sorted done has rebuilt known ends =
      has_done r (λ z. GoesOn (activation w before table) s Q p (with_store z p)) done.0 done.1
      (λ sound b.
      let z = done.0 in
      let g = rebuilt z (stored w before table m' k' p t z steady sorted (has z done.1 sound) agrees) in
      ends (λ x. is_target s x || xs x) m' (with_store z p) refl alike (here_after w before table arguments xs m k p s simple coded here m' (with_store z p) sound b (λ x h. refl) g (known z done.1 sound b)))
