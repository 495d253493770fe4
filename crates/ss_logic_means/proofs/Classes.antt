-- Questions on classes, casts and lengths: they are read of the objects that a store of the structure tables.
use Rattle.std.proofs.Common.{◌≡◌, ℕ, List, [], ◌∷◌, Bool, true, false, not, Ok, refl, sym, ◌∙◌, ap}
use Rattle.std.specs.Prelude.{nat_lt, unwrap_or, flat_map, if◌then◌else◌}
use Rattle.std.proofs.lemmas.Bool.{false≢true}
use Rattle.ss_core.specs.Tree.{ClassTree}
use Rattle.ss_core.specs.Chain.{sub}
use Rattle.ss_store_rules.specs.declared.Value.{Value as ObjectValue}
use Rattle.ss_store_rules.specs.declared.Value.TheVariants as value
use Rattle.ss_store_rules.specs.Store.{Object}
use Rattle.ss_store_rules.specs.Numbers.{Outcome}
use Rattle.ss_store_rules.specs.Reads.{object_at, no_object, is_object_with}
use Rattle.ss_store_rules.specs.Values as run
use Rattle.ss_logic.specs.Values.{null, reference, Heap, Value, thing, as_thing, Structure}
use Rattle.ss_logic.specs.Terms.{Term}
use Rattle.ss_logic.specs.Formulas.{Formula, neg}
use Rattle.ss_logic.specs.Objects.{object_in, objects_of}
use Rattle.ss_logic.proofs.Tabled.{there}
use Rattle.ss_logic.proofs.Truth.{neg_true, not_both}
use Rattle.ss_logic.specs.Shapes.{null_term, class_term, equal, differ, sub_atom}
use Rattle.ss_logic.specs.Shapes as shape
use Rattle.ss_logic.specs.Express.{Choice, Meant, Either, Says, choices, over, is_of, as_class, not_null}
use Rattle.ss_logic_means.specs.Means.{standing, Agree, NoneOf}
use Rattle.ss_logic_means.proofs.Denoting.{T, V, M, D, R, and_means, neg_means, says_denotes, over_means, reads_map}
use Rattle.ss_logic_means.proofs.Operations.{Gives, equal_means}

-- null, or a reference that the store has allocated
abbrev pub IsReferenceOf : Heap → ObjectValue → Type 0
IsReferenceOf h (value.Obj o) = nat_lt o h.next ≡ true
IsReferenceOf h value.Null = Unit {0}
IsReferenceOf h u = ⊥

abbrev pub is_null : ObjectValue → Bool
is_null (value.Obj o) = false
is_null u = true

module _ (cs : List ClassTree) (m : Structure) (e : List Value) (h : Heap) where
  abbrev Store : List Object
  Store = objects_of cs m.table h

  -- the object at an allocated reference
  pub object_known : (o : ℕ) → nat_lt o h.next ≡ true → object_at Store o ≡ object_in cs m.table h o
  object_known o l = ap (λ r. unwrap_or r no_object) (there cs m.table h o l)

  -- ---- null

  pub null_means : (t : Term) (u : ObjectValue) → IsReferenceOf h u → V cs m e t ≡ standing u → M cs m e (equal t null_term) (is_null u)
  null_means t (value.Obj o) l p = equal_means cs m e t null_term (value.Obj o) value.Null p refl
  null_means t value.Null l p = equal_means cs m e t null_term value.Null value.Null p refl
  null_means t (value.Int n) l p = absurd l
  null_means t (value.Bool b) l p = absurd l

  pub not_null_means : (x : Meant) (u : ObjectValue) → IsReferenceOf h u → D cs m e x (standing u) → M cs m e (not_null x) (not (is_null u))
  not_null_means x u l d = over_means cs m e x (λ t. differ t null_term) (standing u) (not (is_null u)) d (λ t p. neg_means cs m e (equal t null_term) (is_null u) (null_means t u l p))

  -- ---- classes

  pub sub_means : (t : Term) (k o : ℕ) → nat_lt o h.next ≡ true → V cs m e t ≡ thing (reference o) → M cs m e (sub_atom (shape.type_of t) (class_term k)) (sub cs (object_at Store o).class k)
  sub_means t k o l p =
      let same : sub cs (m.table.class_of (as_thing (V cs m e t))) k ≡ sub cs (object_at Store o).class k = ap (λ v. sub cs (m.table.class_of (as_thing v)) k) p ∙ ap (λ x. sub cs x.class k) (sym (object_known o l)) in
      (λ q. sym same ∙ q, λ q. same ∙ q)

  pub is_of_means : (k : ℕ) (t : Term) (u : ObjectValue) → IsReferenceOf h u → V cs m e t ≡ standing u → M cs m e (is_of k t) (is_object_with u (λ o. sub cs (object_at Store o).class k))
  is_of_means k t (value.Obj o) l p =
      and_means cs m e (differ t null_term) (sub_atom (shape.type_of t) (class_term k)) true (sub cs (object_at Store o).class k)
      (neg_means cs m e (equal t null_term) false (null_means t (value.Obj o) l p)) (sub_means t k o l p)
  is_of_means k t value.Null l p = (λ q. absurd (q.0 p), λ q. absurd (false≢true q))
  is_of_means k t (value.Int n) l p = absurd l
  is_of_means k t (value.Bool b) l p = absurd l

  module _ (ps : List Formula) (x : Meant) (r : Outcome) (g : Gives (IsReferenceOf h) r) (rx : R cs m e ps x r) (k : ℕ) where
    abbrev is_class : ObjectValue → Bool
    is_class u = is_object_with u (λ o. sub cs (object_at Store o).class k)

    pub is_reads : R cs m e ps (Says (over x (is_of k))) (run.and_then r (λ v. run.truth (is_class v)))
    is_reads = reads_map cs m e ps x (Says (over x (is_of k))) r (λ v. value.Bool (is_class v)) rx (λ u is d.
        says_denotes cs m e (over x (is_of k)) (is_class u) (over_means cs m e x (is_of k) (standing u) (is_class u) d (λ t p. is_of_means k t u (g u is) p)))

    abbrev as_value : ObjectValue → ObjectValue
    as_value u = if is_class u then u else value.Null

    kept_as : (b : Bool) (u : ObjectValue) → b ≡ true → standing (if b then u else value.Null) ≡ standing u
    kept_as true u q = refl
    kept_as false u q = absurd (false≢true q)

    none_as : (b : Bool) (u : ObjectValue) (f : Formula) → M cs m e f b → T cs m e (neg f) → standing (if b then u else value.Null) ≡ thing null
    none_as true u f q n = absurd (not_both cs m e f (q.1 refl) n)
    none_as false u f q n = refl

    agree_as : (u : ObjectValue) → IsReferenceOf h u → (xs : List Choice) → Agree cs m e xs (standing u) → Agree cs m e (flat_map (as_class k) xs) (standing (as_value u))
    agree_as u l [] a = tt
    agree_as u l (c ∷ xs) a = (
      λ t. a.0 t.0 ∙ sym (kept_as (is_class u) u ((is_of_means k c.value u l (a.0 t.0)).0 t.1.0)),
      (
        λ t. sym (none_as (is_class u) u (is_of k c.value) (is_of_means k c.value u l (a.0 t.0)) t.1.0),
        agree_as u l xs a.1,
      ),
    )

    none_back : (xs : List Choice) → NoneOf cs m e (flat_map (as_class k) xs) → NoneOf cs m e xs
    none_back [] n = tt
    none_back (c ∷ xs) n = (
      λ t. n.1.0 (t, (neg_true cs m e (is_of k c.value) (λ q. n.0 (t, (q, tt))), tt)),
      none_back xs n.1.1,
    )

    pub as_reads : R cs m e ps (Either (flat_map (as_class k) (choices x))) (run.and_then r (λ v. Ok (as_value v)))
    as_reads = reads_map cs m e ps x (Either (flat_map (as_class k) (choices x))) r as_value rx (λ u is d. record {
      agree = agree_as u (g u is) (choices x) d.agree;
      some = λ n. d.some (none_back (choices x) n);
    })
