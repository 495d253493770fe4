-- What formulas over a meant value say, and what functions of it give.
use Rattle.std.proofs.Common.{◌≡◌, List, [], ◌∷◌, ◌++◌, Bool, true, false, not, ◌&&◌, ◌||◌, map, Ok, Err, refl, sym, ◌∙◌, ap}
use Rattle.std.specs.Prelude.{flat_map}
use Rattle.std.specs.Bool.{beq}
use Rattle.std.proofs.lemmas.Bool.{false≢true}
use Rattle.ss_core.specs.Tree.{ClassTree}
use Rattle.ss_store_rules.specs.declared.Value.{Value as ObjectValue}
use Rattle.ss_store_rules.specs.Numbers.{Outcome}
use Rattle.ss_store_rules.specs.Values as run
use Rattle.ss_logic.specs.Values.{Value, truth, as_truth, Structure}
use Rattle.ss_logic.specs.Terms.{Term, value_of}
use Rattle.ss_logic.specs.Formulas.{Formula, Formulas, Literal, And, Or, Forall, Exists, no_formulas, formula_then, formula_list, True, AllTrue, NoneTrue, formulas_from, neg}
use Rattle.ss_logic.proofs.Stable.{bool_stable}
use Rattle.ss_logic.proofs.Truth.{not_both, neg_true, formula_stable}
use Rattle.ss_logic.specs.Shapes.{equal}
use Rattle.ss_logic.specs.Express.{and_of, or_of, iff, and_more, or_more, truth_term, Choice, Meant, One, Either, Says, choice, choices, over, over_two, mapped, both, paired, said, under}
use Rattle.ss_logic_means.specs.Means.{standing, Means, Agree, NoneOf, Denotes, Reads}

module _ (cs : List ClassTree) (m : Structure) (e : List Value) where
  abbrev pub T : Formula → Type 0
  T f = True cs m e f

  abbrev pub V : Term → Value
  V t = value_of cs m e t

  abbrev pub M : Formula → Bool → Type 0
  M f b = Means cs m e f b

  abbrev pub D : Meant → Value → Type 0
  D x v = Denotes cs m e x v

  abbrev pub All : List Formula → Type 0
  All ps = AllTrue cs m e (formulas_from ps)

  abbrev pub R : List Formula → Meant → Outcome → Type 0
  R ps x r = Reads cs m e ps x r

  -- ---- formulas

  pub and_means : (f g : Formula) (a b : Bool) → M f a → M g b → M (and_of (f ∷ g ∷ [])) (a && b)
  and_means f g true true x y = (λ _. refl, λ _. (x.1 refl, (y.1 refl, tt)))
  and_means f g true false x y = (λ t. y.0 t.1.0, λ h. absurd (false≢true h))
  and_means f g false b x y = (λ t. x.0 t.0, λ h. absurd (false≢true h))

  pub or_means : (f g : Formula) (a b : Bool) → M f a → M g b → M (or_of (f ∷ g ∷ [])) (a || b)
  or_means f g true b x y = (λ _. refl, λ _ n. n.0 (x.1 refl))
  or_means f g false true x y = (λ _. refl, λ _ n. n.1.0 (y.1 refl))
  or_means f g false false x y = (λ t. absurd (t (λ k. false≢true (x.0 k), (λ k. false≢true (y.0 k), tt))), λ h. absurd (false≢true h))

  pub neg_means : (f : Formula) (b : Bool) → M f b → M (neg f) (not b)
  neg_means f true x = (λ n. absurd (not_both cs m e f (x.1 refl) n), λ h. absurd (false≢true h))
  neg_means f false x = (λ _. refl, λ _. neg_true cs m e f (λ t. false≢true (x.0 t)))

  pub iff_means : (f g : Formula) (a b : Bool) → M f a → M g b → M (iff f g) (beq a b)
  iff_means f g true true x y = and_means (or_of (neg f ∷ g ∷ [])) (or_of (f ∷ neg g ∷ [])) true true (or_means (neg f) g false true (neg_means f true x) y) (or_means f (neg g) true false x (neg_means g true y))
  iff_means f g true false x y = and_means (or_of (neg f ∷ g ∷ [])) (or_of (f ∷ neg g ∷ [])) false true (or_means (neg f) g false false (neg_means f true x) y) (or_means f (neg g) true true x (neg_means g false y))
  iff_means f g false true x y = and_means (or_of (neg f ∷ g ∷ [])) (or_of (f ∷ neg g ∷ [])) true false (or_means (neg f) g true true (neg_means f false x) y) (or_means f (neg g) false false x (neg_means g true y))
  iff_means f g false false x y = and_means (or_of (neg f ∷ g ∷ [])) (or_of (f ∷ neg g ∷ [])) true true (or_means (neg f) g true false (neg_means f false x) y) (or_means f (neg g) false true x (neg_means g false y))

  -- ---- chains

  all_with : (fs : Formulas) (g : Formula) → AllTrue cs m e fs → T g → AllTrue cs m e (formulas_from (formula_list fs ++ g ∷ []))
  all_with no_formulas g h k = (k, tt)
  all_with (formula_then f fs) g h k = (h.0, all_with fs g h.1 k)

  all_without : (fs : Formulas) (g : Formula) → AllTrue cs m e (formulas_from (formula_list fs ++ g ∷ [])) → AllTrue cs m e fs × T g
  all_without no_formulas g h = (tt, h.0)
  all_without (formula_then f fs) g h = let z = all_without fs g h.1 in ((h.0, z.0), z.1)

  none_with : (fs : Formulas) (g : Formula) → NoneTrue cs m e fs → (T g → ⊥) → NoneTrue cs m e (formulas_from (formula_list fs ++ g ∷ []))
  none_with no_formulas g h k = (k, tt)
  none_with (formula_then f fs) g h k = (h.0, none_with fs g h.1 k)

  none_without : (fs : Formulas) (g : Formula) → NoneTrue cs m e (formulas_from (formula_list fs ++ g ∷ [])) → NoneTrue cs m e fs × (T g → ⊥)
  none_without no_formulas g h = (tt, h.0)
  none_without (formula_then f fs) g h = let z = none_without fs g h.1 in ((h.0, z.0), z.1)

  -- a longer chain says what an `and` or `or` of two says
  pub and_more_is : (f g : Formula) → (T (and_more f g) → T f × T g) × (T f → T g → T (and_more f g))
  and_more_is (And fs) g = (λ h. all_without fs g h, λ h k. all_with fs g h k)
  and_more_is (Literal sign p ts) g = (λ h. (h.0, h.1.0), λ h k. (h, (k, tt)))
  and_more_is (Or fs) g = (λ h. (h.0, h.1.0), λ h k. (h, (k, tt)))
  and_more_is (Forall ss f) g = (λ h. (h.0, h.1.0), λ h k. (h, (k, tt)))
  and_more_is (Exists ss f) g = (λ h. (h.0, h.1.0), λ h k. (h, (k, tt)))

  pub or_more_is : (f g : Formula) → (T (or_more f g) → (T f → ⊥) → (T g → ⊥) → ⊥) × (((T f → ⊥) → (T g → ⊥) → ⊥) → T (or_more f g))
  or_more_is (Or fs) g = (λ h x y. x (λ n. h (none_with fs g n y)), λ h n. let z = none_without fs g n in h (λ t. t z.0) z.1)
  or_more_is (Literal sign p ts) g = (λ h x y. h (x, (y, tt)), λ h n. h n.0 n.1.0)
  or_more_is (And fs) g = (λ h x y. h (x, (y, tt)), λ h n. h n.0 n.1.0)
  or_more_is (Forall ss f) g = (λ h x y. h (x, (y, tt)), λ h n. h n.0 n.1.0)
  or_more_is (Exists ss f) g = (λ h x y. h (x, (y, tt)), λ h n. h n.0 n.1.0)

  pub and_more_fails : (f g : Formula) → M f false → M (and_more f g) false
  and_more_fails f g x = (λ t. x.0 ((and_more_is f g).0 t).0, λ h. absurd (false≢true h))

  pub and_more_means : (f g : Formula) (a b : Bool) → M f a → M g b → M (and_more f g) (a && b)
  and_more_means f g true true x y = (λ _. refl, λ _. (and_more_is f g).1 (x.1 refl) (y.1 refl))
  and_more_means f g true false x y = (λ t. y.0 ((and_more_is f g).0 t).1, λ h. absurd (false≢true h))
  and_more_means f g false b x y = and_more_fails f g x

  pub or_more_holds : (f g : Formula) → M f true → M (or_more f g) true
  or_more_holds f g x = (λ _. refl, λ _. (or_more_is f g).1 (λ n k. n (x.1 refl)))

  pub or_more_means : (f g : Formula) (a b : Bool) → M f a → M g b → M (or_more f g) (a || b)
  or_more_means f g true b x y = or_more_holds f g x
  or_more_means f g false true x y = (λ _. refl, λ _. (or_more_is f g).1 (λ n k. k (y.1 refl)))
  or_more_means f g false false x y = (λ t. absurd ((or_more_is f g).0 t (λ k. false≢true (x.0 k)) (λ k. false≢true (y.0 k))), λ h. absurd (false≢true h))

  -- ---- what is meant

  pub one_denotes : (t : Term) (v : Value) → V t ≡ v → D (One t) v
  one_denotes t v h = record { agree = (λ _. h, tt); some = λ n. n.0 tt }

  truths_equal : (a b : Bool) → truth a ≡ truth b → a ≡ b
  truths_equal a b h = ap as_truth h

  pub says_denotes : (f : Formula) (b : Bool) → M f b → D (Says f) (truth b)
  says_denotes f b x = record {
    agree = (λ t. ap truth (sym (x.0 t)), (λ n. ap truth (sym (no b x n)), tt));
    some = λ n. n.1.0 (neg_true cs m e f n.0);
  }
    where
      no : (b : Bool) → M f b → T (neg f) → b ≡ false
      no true x n = absurd (not_both cs m e f (x.1 refl) n)
      no false x n = refl

  -- this is so of each term with the value, exactly where the test says so
  abbrev pub Of : (Term → Formula) → Value → Bool → Type 0
  Of f v b = (t : Term) → V t ≡ v → M (f t) b

  abbrev parts_over : (Term → Formula) → List Choice → List Formula
  parts_over f xs = map (λ c. and_of (c.condition ∷ f c.value ∷ [])) xs

  none_over : (f : Term → Formula) (v : Value) (b : Bool) → Of f v b → (b ≡ true → ⊥) → (xs : List Choice) → Agree cs m e xs v → NoneTrue cs m e (formulas_from (parts_over f xs))
  none_over f v b h n [] a = tt
  none_over f v b h n (c ∷ xs) a = (λ t. n ((h c.value (a.0 t.0)).0 t.1.0), none_over f v b h n xs a.1)

  none_back : (f : Term → Formula) (v : Value) (b : Bool) → Of f v b → b ≡ true → (xs : List Choice) → Agree cs m e xs v → NoneTrue cs m e (formulas_from (parts_over f xs)) → NoneOf cs m e xs
  none_back f v b h y [] a n = tt
  none_back f v b h y (c ∷ xs) a n = (λ t. n.0 (t, ((h c.value (a.0 t)).1 y, tt)), none_back f v b h y xs a.1 n.1)

  list_means : (f : Term → Formula) (v : Value) (b : Bool) → Of f v b → (xs : List Choice) → Agree cs m e xs v → (NoneOf cs m e xs → ⊥) → M (or_of (parts_over f xs)) b
  list_means f v b h xs a s = (λ t. bool_stable b true (λ n. t (none_over f v b h n xs a)), λ y n. s (none_back f v b h y xs a n))

  pub over_means : (x : Meant) (f : Term → Formula) (v : Value) (b : Bool) → D x v → Of f v b → M (over x f) b
  over_means (One t) f v b d h = h t (d.agree.0 tt)
  over_means (Either xs) f v b d h = list_means f v b h xs d.agree d.some
  over_means (Says g) f v b d h = list_means f v b h (choices (Says g)) d.agree d.some

  pub over_two_means : (x y : Meant) (f : Term → Term → Formula) (v w : Value) (b : Bool) → D x v → D y w → ((t u : Term) → V t ≡ v → V u ≡ w → M (f t u) b) → M (over_two x y f) b
  over_two_means x y f v w b d k h = over_means x (λ t. over y (λ u. f t u)) v b d (λ t p. over_means y (λ u. f t u) w b k (λ u q. h t u p q))

  is_truth : (b : Bool) → Of (λ t. equal t (truth_term true)) (truth b) b
  is_truth b t h = (λ k. truths_equal b true (sym h ∙ k), λ y. h ∙ ap truth y)

  pub said_means : (x : Meant) (b : Bool) → D x (truth b) → M (said x) b
  said_means (One t) b d = over_means (One t) (λ u. equal u (truth_term true)) (truth b) b d (is_truth b)
  said_means (Either xs) b d = over_means (Either xs) (λ u. equal u (truth_term true)) (truth b) b d (is_truth b)
  said_means (Says f) b d = (
    λ t. sym (truths_equal true b (d.agree.0 t)),
    λ y. formula_stable cs m e f (λ n. false≢true (truths_equal false b (d.agree.1.0 (neg_true cs m e f n)) ∙ y)),
  )

  -- ---- functions of what is meant

  agree_map : (g : Term → Term) (v w : Value) → ((t : Term) → V t ≡ v → V (g t) ≡ w) → (xs : List Choice) → Agree cs m e xs v → Agree cs m e (map (λ c. choice c.condition (g c.value)) xs) w
  agree_map g v w h [] a = tt
  agree_map g v w h (c ∷ xs) a = (λ t. h c.value (a.0 t), agree_map g v w h xs a.1)

  none_map : (g : Term → Term) (xs : List Choice) → NoneOf cs m e (map (λ c. choice c.condition (g c.value)) xs) → NoneOf cs m e xs
  none_map g [] n = tt
  none_map g (c ∷ xs) n = (n.0, none_map g xs n.1)

  pub mapped_denotes : (g : Term → Term) (x : Meant) (v w : Value) → D x v → ((t : Term) → V t ≡ v → V (g t) ≡ w) → D (mapped g x) w
  mapped_denotes g (One t) v w d h = one_denotes (g t) w (h t (d.agree.0 tt))
  mapped_denotes g (Either xs) v w d h = record { agree = agree_map g v w h xs d.agree; some = λ n. d.some (none_map g xs n) }
  mapped_denotes g (Says f) v w d h = record { agree = agree_map g v w h (choices (Says f)) d.agree; some = λ n. d.some (none_map g (choices (Says f)) n) }

  pub Agree-append : (xs ys : List Choice) (v : Value) → Agree cs m e xs v → Agree cs m e ys v → Agree cs m e (xs ++ ys) v
  Agree-append [] ys v a b = b
  Agree-append (c ∷ xs) ys v a b = (a.0, Agree-append xs ys v a.1 b)

  pub NoneOf-parts : (xs ys : List Choice) → NoneOf cs m e (xs ++ ys) → NoneOf cs m e xs × NoneOf cs m e ys
  NoneOf-parts [] ys n = (tt, n)
  NoneOf-parts (c ∷ xs) ys n = let p = NoneOf-parts xs ys n.1 in ((n.0, p.0), p.1)

  module _ (g : Term → Term → Term) (v w z : Value) (h : (t u : Term) → V t ≡ v → V u ≡ w → V (g t u) ≡ z) where
    agree_both : (c : Choice) → (T c.condition → V c.value ≡ v) → (ys : List Choice) → Agree cs m e ys w → Agree cs m e (map (both g c) ys) z
    agree_both c a [] b = tt
    agree_both c a (y ∷ ys) b = (λ t. h c.value y.value (a t.0) (b.0 t.1.0), agree_both c a ys b.1)

    agree_pairs : (xs ys : List Choice) → Agree cs m e xs v → Agree cs m e ys w → Agree cs m e (flat_map (λ x. map (both g x) ys) xs) z
    agree_pairs [] ys a b = tt
    agree_pairs (x ∷ xs) ys a b = Agree-append (map (both g x) ys) (flat_map (λ x. map (both g x) ys) xs) z (agree_both x a.0 ys b) (agree_pairs xs ys a.1 b)

    none_both : (c : Choice) → T c.condition → (ys : List Choice) → NoneOf cs m e (map (both g c) ys) → NoneOf cs m e ys
    none_both c t [] n = tt
    none_both c t (y ∷ ys) n = (λ k. n.0 (t, (k, tt)), none_both c t ys n.1)

    none_pairs : (xs ys : List Choice) → (NoneOf cs m e ys → ⊥) → NoneOf cs m e (flat_map (λ x. map (both g x) ys) xs) → NoneOf cs m e xs
    none_pairs [] ys s n = tt
    none_pairs (x ∷ xs) ys s n =
        let p = NoneOf-parts (map (both g x) ys) (flat_map (λ x. map (both g x) ys) xs) n in
        (λ t. s (none_both x t ys p.0), none_pairs xs ys s p.1)

    pairs_denote : (xs ys : List Choice) → Agree cs m e xs v → (NoneOf cs m e xs → ⊥) → Agree cs m e ys w → (NoneOf cs m e ys → ⊥) → D (Either (flat_map (λ x. map (both g x) ys) xs)) z
    pairs_denote xs ys a s b r = record { agree = agree_pairs xs ys a b; some = λ n. s (none_pairs xs ys r n) }

    pub paired_denotes : (x y : Meant) → D x v → D y w → D (paired g x y) z
    paired_denotes (One a) (One b) d k = one_denotes (g a b) z (h a b (d.agree.0 tt) (k.agree.0 tt))
    paired_denotes (One a) (Either ys) d k = pairs_denote (choices (One a)) ys d.agree d.some k.agree k.some
    paired_denotes (One a) (Says f) d k = pairs_denote (choices (One a)) (choices (Says f)) d.agree d.some k.agree k.some
    paired_denotes (Either xs) y d k = pairs_denote xs (choices y) d.agree d.some k.agree k.some
    paired_denotes (Says f) y d k = pairs_denote (choices (Says f)) (choices y) d.agree d.some k.agree k.some

  -- ---- parts

  pub All-append : (xs ys : List Formula) → All xs → All ys → All (xs ++ ys)
  All-append [] ys a b = b
  All-append (f ∷ xs) ys a b = (a.0, All-append xs ys a.1 b)

  pub All-parts : (xs ys : List Formula) → All (xs ++ ys) → All xs × All ys
  All-parts [] ys a = (tt, a)
  All-parts (f ∷ xs) ys a = let p = All-parts xs ys a.1 in ((a.0, p.0), p.1)

  pub under_all : (f : Formula) (qs : List Formula) → All qs → All (under f qs)
  under_all f [] a = tt
  under_all f (q ∷ qs) a = (λ n. n.1.0 a.0, under_all f qs a.1)

  pub under_back : (f : Formula) → T f → (qs : List Formula) → All (under f qs) → All qs
  under_back f t [] a = tt
  under_back f t (q ∷ qs) a = (formula_stable cs m e q (λ n. a.0 ((λ k. not_both cs m e f t k), (n, tt))), under_back f t qs a.1)

  pub under_off : (f : Formula) → (T f → ⊥) → (qs : List Formula) → All (under f qs)
  under_off f n [] = tt
  under_off f n (q ∷ qs) = (λ k. k.0 (neg_true cs m e f n), under_off f n qs)

  pub under_on : (f : Formula) → T f → (qs : List Formula) (x : Meant) (r : Outcome) → R qs x r → R (under f qs) x r
  under_on f t qs x (Ok u) h = (under_all f qs h.0, h.1)
  under_on f t qs x (Err u) h = λ a. h (under_back f t qs a)

  pub reads_append : (ps qs : List Formula) (x : Meant) (r : Outcome) → All ps → R qs x r → R (ps ++ qs) x r
  reads_append ps qs x (Ok u) a h = (All-append ps qs a h.0, h.1)
  reads_append ps qs x (Err u) a h = λ k. h (All-parts ps qs k).1

  pub reads_then : (ps qs : List Formula) (x y : Meant) (r : Outcome) (k : ObjectValue → Outcome) → R ps x r → ((u : ObjectValue) → r ≡ Ok u → D x (standing u) → R qs y (k u)) → R (ps ++ qs) y (run.and_then r k)
  reads_then ps qs x y (Ok u) k h next = reads_append ps qs y (k u) h.0 (next u refl h.1)
  reads_then ps qs x y (Err u) k h next = λ a. h (All-parts ps qs a).0

  pub reads_map : (ps : List Formula) (x y : Meant) (r : Outcome) (k : ObjectValue → ObjectValue) → R ps x r → ((u : ObjectValue) → r ≡ Ok u → D x (standing u) → D y (standing (k u))) → R ps y (run.and_then r (λ v. Ok (k v)))
  reads_map ps x y (Ok u) k h next = (h.0, next u refl h.1)
  reads_map ps x y (Err u) k h next = h
