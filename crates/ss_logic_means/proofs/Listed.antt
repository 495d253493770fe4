-- Formulas over each object of a store, and over each term of a local.
use Rattle.std.proofs.Common.{◌≡◌, ℕ, zero, suc, ◌+◌, ◌<◌, List, [], ◌∷◌, ◌++◌, length, Bool, true, false, ◌&&◌, ◌||◌, map, refl, sym, ◌∙◌, ap, subst, arith}
use Rattle.std.specs.Prelude.{nat_lt}
use Rattle.std.specs.List.{list_all}
use Rattle.std.proofs.lemmas.Bool.{false≢true, and_from, lt-ltb}
use Rattle.ss_core.specs.Tree.{ClassTree}
use Rattle.ss_store_rules.specs.Store.{Object}
use Rattle.ss_logic.specs.declared.Sort.TheVariants as sort
use Rattle.ss_logic.specs.Values.{null, reference, class_name, group_number, owner_pair, Thing, Heap, Table, Value, whole, truth, thing, store, as_thing, as_store, is_allocated, Structure}
use Rattle.ss_logic.specs.Terms.{Term, Bound}
use Rattle.ss_logic.specs.Formulas.{Formula, Forall, NoneTrue, formulas_from, neg}
use Rattle.ss_logic.specs.Objects.{object_in, objects_from, objects_of}
use Rattle.ss_logic.proofs.Stable.{bool_stable}
use Rattle.ss_logic.proofs.Tabled.{there}
use Rattle.ss_logic.specs.Shapes.{allocated}
use Rattle.ss_logic.specs.Express.{and_of, or_of, Choice, Meant, One, Either, Says, choices, over}
use Rattle.ss_machine_typed.proofs.Slots.{all_at}
use Rattle.ss_logic_means.specs.Means.{Agree, NoneOf}
use Rattle.ss_logic_means.specs.Scenes.{Stay}
use Rattle.ss_logic_means.proofs.Denoting.{T, V, M, D}
use Rattle.ss_logic_means.proofs.Standing.{argument_at}

-- ---- lists of objects

module _ (cs : List ClassTree) (table : Table) (h : Heap) (p : Object → Bool) where
  all_from : (o n : ℕ) → ((k : ℕ) → k < n → p (object_in cs table h (o + k)) ≡ true) → list_all p (objects_from cs table h o n) ≡ true
  all_from o zero each = refl
  all_from o (suc n) each =
      let first : o + 0 ≡ o = omega arith in
      and_from (p (object_in cs table h o)) (list_all p (objects_from cs table h (o + 1) n))
      (subst (λ i. p (object_in cs table h i) ≡ true) first (each 0 (omega arith)))
      (all_from (o + 1) n (λ k l. let next : o + suc k ≡ o + 1 + k = omega arith in subst (λ i. p (object_in cs table h i) ≡ true) next (each (suc k) (omega (arith, l)))))

  pub objects_all : ((q : ℕ) → nat_lt q h.next ≡ true → p (object_in cs table h q) ≡ true) → list_all p (objects_of cs table h) ≡ true
  unfolding objects_of
  objects_all each = all_from 0 h.next (λ k l. let number : 0 + k ≡ k = omega arith in subst (λ i. p (object_in cs table h i) ≡ true) (sym number) (each k (lt-ltb k h.next l)))

  pub objects_each : list_all p (objects_of cs table h) ≡ true → (q : ℕ) → nat_lt q h.next ≡ true → p (object_in cs table h q) ≡ true
  objects_each all q l = all_at p (objects_of cs table h) q (object_in cs table h q) all (there cs table h q l)

module _ (cs : List ClassTree) (m : Structure) (e : List Value) where
  -- ---- lists of formulas

  pub and_more : (f : Formula) (fs : List Formula) (a b : Bool) → M cs m e f a → M cs m e (and_of fs) b → M cs m e (and_of (f ∷ fs)) (a && b)
  and_more f fs true b x y = (λ t. y.0 t.1, λ z. (x.1 refl, y.1 z))
  and_more f fs false b x y = (λ t. x.0 t.0, λ z. absurd (false≢true z))

  pub and_one : (f : Formula) (a : Bool) → M cs m e f a → M cs m e (and_of (f ∷ [])) a
  and_one f a x = (λ t. x.0 t.0, λ z. (x.1 z, tt))

  pub and_none : M cs m e (and_of []) true
  and_none = (λ _. refl, λ _. tt)

  pub and_all : {A : Type 0} (f : A → Formula) (p : A → Bool) → ((u : A) → M cs m e (f u) (p u)) → (us : List A) → M cs m e (and_of (map f us)) (list_all p us)
  and_all f p each [] = and_none
  and_all f p each (u ∷ us) = and_more (f u) (map f us) (p u) (list_all p us) (each u) (and_all f p each us)

  pub or_more : (f : Formula) (fs : List Formula) (a b : Bool) → M cs m e f a → M cs m e (or_of fs) b → M cs m e (or_of (f ∷ fs)) (a || b)
  or_more f fs true b x y = (λ _. refl, λ _ n. n.0 (x.1 refl))
  or_more f fs false b x y = (λ t. y.0 (λ n. t ((λ k. false≢true (x.0 k)), n)), λ z n. y.1 z n.1)

  -- ---- terms whose value doesn't rest on the names bound after

  none_staying : (f : Term → Formula) (v : Value) (b : Bool) → ((t : Term) → ((vs : List Value) → V cs m (e ++ vs) t ≡ v) → M cs m e (f t) b) → (b ≡ true → ⊥) → (xs : List Choice) → Agree cs m e xs v → Stay cs m e xs →
      NoneTrue cs m e (formulas_from (map (λ c. and_of (c.condition ∷ f c.value ∷ [])) xs))
  none_staying f v b h n [] a s = tt
  none_staying f v b h n (c ∷ xs) a s = (λ t. n ((h c.value (λ vs. s.0 vs ∙ a.0 t.0)).0 t.1.0), none_staying f v b h n xs a.1 s.1)

  none_stays : (f : Term → Formula) (v : Value) (b : Bool) → ((t : Term) → ((vs : List Value) → V cs m (e ++ vs) t ≡ v) → M cs m e (f t) b) → b ≡ true → (xs : List Choice) → Agree cs m e xs v → Stay cs m e xs →
      NoneTrue cs m e (formulas_from (map (λ c. and_of (c.condition ∷ f c.value ∷ [])) xs)) → NoneOf cs m e xs
  none_stays f v b h y [] a s n = tt
  none_stays f v b h y (c ∷ xs) a s n = (λ t. n.0 (t, ((h c.value (λ vs. s.0 vs ∙ a.0 t)).1 y, tt)), none_stays f v b h y xs a.1 s.1 n.1)

  pub staying_means : (x : Meant) (f : Term → Formula) (v : Value) (b : Bool) → D cs m e x v → Stay cs m e (choices x) → ((t : Term) → ((vs : List Value) → V cs m (e ++ vs) t ≡ v) → M cs m e (f t) b) → M cs m e (over x f) b
  staying_means (One t) f v b d s h = h t (λ vs. s.0 vs ∙ d.agree.0 tt)
  staying_means (Either xs) f v b d s h = (λ t. bool_stable b true (λ n. t (none_staying f v b h n xs d.agree s)), λ y n. d.some (none_stays f v b h y xs d.agree s n))
  staying_means (Says g) f v b d s h = (
    λ t. bool_stable b true (λ n. t (none_staying f v b h n (choices (Says g)) d.agree s)),
    λ y n. d.some (none_stays f v b h y (choices (Says g)) d.agree s n),
  )

  -- ---- each object

  things_true : (f : Formula) → ((w : Thing) → T cs m (e ++ thing w ∷ []) f) → T cs m e (Forall (sort.Rest ∷ []) f)
  things_true f each (thing w ∷ []) are = each w
  things_true f each [] are = absurd are
  things_true f each (thing w ∷ v ∷ vs) are = absurd are.1
  things_true f each (whole n ∷ vs) are = absurd (let w = are.0 in let no : ⊥ = cc in no)
  things_true f each (truth b ∷ vs) are = absurd (let w = are.0 in let no : ⊥ = cc in no)
  things_true f each (store h ∷ vs) are = absurd (let w = are.0 in let no : ⊥ = cc in no)

  module _ (h : Heap) (s : Term) (is_store : (vs : List Value) → V cs m (e ++ vs) s ≡ store h) (n : ℕ) (at : length e ≡ n) where
    pub bound_thing : (w : Thing) → V cs m (e ++ thing w ∷ []) (Bound n) ≡ thing w
    bound_thing w = argument_at e (thing w) [] n at

    -- what isn't allocated counts for nothing
    not_counted : (w : Thing) (fs : List Formula) → is_allocated h w ≡ false → T cs m (e ++ thing w ∷ []) (or_of (neg (allocated s (Bound n)) ∷ fs))
    not_counted w fs off none =
        none.0 (λ a. false≢true (sym off ∙ sym (ap (λ v. is_allocated (as_store v) (as_thing (V cs m (e ++ thing w ∷ []) (Bound n)))) (is_store (thing w ∷ [])) ∙ ap (λ v. is_allocated h (as_thing v)) (bound_thing w)) ∙ a))

    pub objects_mean : (fs : List Formula) (p : Object → Bool) → ((q : ℕ) → nat_lt q h.next ≡ true → M cs m (e ++ thing (reference q) ∷ []) (or_of (neg (allocated s (Bound n)) ∷ fs)) (p (object_in cs m.table h q))) →
        M cs m e (Forall (sort.Rest ∷ []) (or_of (neg (allocated s (Bound n)) ∷ fs))) (list_all p (objects_of cs m.table h))
    objects_mean fs p each = (
      λ t. objects_all cs m.table h p (λ q l. (each q l).0 (t (thing (reference q) ∷ []) (refl, tt))),
      λ y. things_true (or_of (neg (allocated s (Bound n)) ∷ fs)) (λ w. of_thing y w),
    )
      where
        of_reference : list_all p (objects_of cs m.table h) ≡ true → (q : ℕ) (b : Bool) → nat_lt q h.next ≡ b → T cs m (e ++ thing (reference q) ∷ []) (or_of (neg (allocated s (Bound n)) ∷ fs))
        of_reference y q true l = (each q l).1 (objects_each cs m.table h p y q l)
        of_reference y q false l = not_counted (reference q) fs l

        of_thing : list_all p (objects_of cs m.table h) ≡ true → (w : Thing) → T cs m (e ++ thing w ∷ []) (or_of (neg (allocated s (Bound n)) ∷ fs))
        of_thing y (reference q) = of_reference y q (nat_lt q h.next) refl
        of_thing y null = not_counted null fs refl
        of_thing y (class_name t) = not_counted (class_name t) fs refl
        of_thing y (group_number g) = not_counted (group_number g) fs refl
        of_thing y (owner_pair v w) = not_counted (owner_pair v w) fs refl
