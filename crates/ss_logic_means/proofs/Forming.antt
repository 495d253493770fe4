-- Sorts of what is meant, and formulas over it that are well formed.
use Rattle.std.proofs.Common.{◌≡◌, List, [], ◌∷◌, ◌++◌, true, map, refl}
use Rattle.std.specs.Prelude.{flat_map}
use Rattle.std.proofs.lemmas.Bool.{and_parts, and_from}
use Rattle.ss_core.specs.Tree.{ClassTree}
use Rattle.ss_logic.specs.declared.Sort.{Sort}
use Rattle.ss_logic.specs.declared.Sort.TheVariants as sort
use Rattle.ss_logic.specs.Terms.{Term}
use Rattle.ss_logic.specs.Formulas.{Formula, Formulas, Literal, And, Or, Forall, Exists, no_formulas, formula_then, formula_list, formulas_from, is_well_formed, are_well_formed, neg}
use Rattle.ss_logic.specs.Express.{and_of, or_of, iff, and_more, or_more, truth_term, Choice, choice, Meant, One, Either, Says, choices, over, over_two, mapped, both, paired, said, same_truths, under}
use Rattle.ss_logic_means.specs.Sorts.{HasSort, AreWellFormed, HaveSort}
use Rattle.ss_logic_means.proofs.Sorting.{equal_formed, all_formed, each_formed, neg_formed}

module _ (cs : List ClassTree) (bound : List Sort) where
  -- the formula is well formed
  abbrev pub F : Formula → Type 0
  F f = is_well_formed cs bound f ≡ true

  abbrev pub S : Sort → Term → Type 0
  S s t = HasSort cs bound s t

  -- what is meant has the sort
  abbrev pub C : Sort → Meant → Type 0
  C s m = HaveSort cs bound s (choices m)

  -- ---- formulas of two

  pub and_two : (f g : Formula) → F f → F g → F (and_of (f ∷ g ∷ []))
  and_two f g h k = all_formed cs bound (f ∷ g ∷ []) (h, (k, tt))

  pub or_two : (f g : Formula) → F f → F g → F (or_of (f ∷ g ∷ []))
  or_two f g h k = all_formed cs bound (f ∷ g ∷ []) (h, (k, tt))

  pub negation : (f : Formula) → F f → F (neg f)
  negation f h = neg_formed cs bound f h

  pub iff_formed : (f g : Formula) → F f → F g → F (iff f g)
  iff_formed f g h k = and_two (or_of (neg f ∷ g ∷ [])) (or_of (f ∷ neg g ∷ [])) (or_two (neg f) g (negation f h) k) (or_two f (neg g) h (negation g k))

  with_formed : (fs : Formulas) (g : Formula) → are_well_formed cs bound fs ≡ true → F g → are_well_formed cs bound (formulas_from (formula_list fs ++ g ∷ [])) ≡ true
  with_formed no_formulas g h k = and_from _ _ k refl
  with_formed (formula_then f fs) g h k = let p = and_parts (is_well_formed cs bound f) (are_well_formed cs bound fs) h in and_from _ _ p.0 (with_formed fs g p.1 k)

  pub and_more_formed : (f g : Formula) → F f → F g → F (and_more f g)
  and_more_formed (And fs) g h k = with_formed fs g h k
  and_more_formed (Literal sign p ts) g h k = and_two (Literal sign p ts) g h k
  and_more_formed (Or fs) g h k = and_two (Or fs) g h k
  and_more_formed (Forall ss f) g h k = and_two (Forall ss f) g h k
  and_more_formed (Exists ss f) g h k = and_two (Exists ss f) g h k

  pub or_more_formed : (f g : Formula) → F f → F g → F (or_more f g)
  or_more_formed (Or fs) g h k = with_formed fs g h k
  or_more_formed (Literal sign p ts) g h k = or_two (Literal sign p ts) g h k
  or_more_formed (And fs) g h k = or_two (And fs) g h k
  or_more_formed (Forall ss f) g h k = or_two (Forall ss f) g h k
  or_more_formed (Exists ss f) g h k = or_two (Exists ss f) g h k

  pub under_formed : (f : Formula) (parts : List Formula) → F f → AreWellFormed cs bound parts → AreWellFormed cs bound (under f parts)
  under_formed f parts h k = each_formed cs bound (λ p. or_of (neg f ∷ p ∷ [])) parts (λ p q. or_two (neg f) p (negation f h) q) k

  -- ---- what is meant

  pub one_sorted : (s : Sort) (t : Term) → S s t → C s (One t)
  one_sorted s t h = (refl, h, tt)

  pub says_sorted : (f : Formula) → F f → C sort.Truth (Says f)
  says_sorted f h = (h, (refl, refl), (negation f h, (refl, refl), tt))

  more_sorted : (s : Sort) (xs ys : List Choice) → HaveSort cs bound s xs → HaveSort cs bound s ys → HaveSort cs bound s (xs ++ ys)
  more_sorted s [] ys h k = k
  more_sorted s (x ∷ xs) ys h k = (h.0, h.1, more_sorted s xs ys h.2 k)

  pub flat_sorted : (s r : Sort) (g : Choice → List Choice) (xs : List Choice) → ((x : Choice) → F x.condition → S s x.value → HaveSort cs bound r (g x)) → HaveSort cs bound s xs → HaveSort cs bound r (flat_map g xs)
  flat_sorted s r g [] h k = tt
  flat_sorted s r g (x ∷ xs) h k = more_sorted r (g x) (flat_map g xs) (h x k.0 k.1) (flat_sorted s r g xs h k.2)

  -- ---- formulas over it

  module _ (s : Sort) (f : Term → Formula) (each : (t : Term) → S s t → F (f t)) where
    any_formed : (xs : List Choice) → HaveSort cs bound s xs → AreWellFormed cs bound (map (λ x. and_of (x.condition ∷ f x.value ∷ [])) xs)
    any_formed [] h = tt
    any_formed (x ∷ xs) h = (and_two x.condition (f x.value) h.0 (each x.value h.1), any_formed xs h.2)

    pub over_formed : (m : Meant) → C s m → F (over m f)
    over_formed (One t) h = each t h.1
    over_formed (Either xs) h = all_formed cs bound (map (λ x. and_of (x.condition ∷ f x.value ∷ [])) xs) (any_formed xs h)
    over_formed (Says g) h = all_formed cs bound (map (λ x. and_of (x.condition ∷ f x.value ∷ [])) (choices (Says g))) (any_formed (choices (Says g)) h)

  pub over_two_formed : (s r : Sort) (f : Term → Term → Formula) → ((x y : Term) → S s x → S r y → F (f x y)) → (a b : Meant) → C s a → C r b → F (over_two a b f)
  over_two_formed s r f each a b h k = over_formed s (λ x. over b (λ y. f x y)) (λ x i. over_formed r (λ y. f x y) (λ y j. each x y i j) b k) a h

  pub said_formed : (m : Meant) → C sort.Truth m → F (said m)
  said_formed (Says f) h = h.0
  said_formed (One t) h = equal_formed cs bound true sort.Truth t (truth_term true) h.1 (refl, refl)
  said_formed (Either xs) h = over_formed sort.Truth _ (λ t k. equal_formed cs bound true sort.Truth t (truth_term true) k (refl, refl)) (Either xs) h

  pub same_formed : (a b : Meant) → C sort.Truth a → C sort.Truth b → F (same_truths a b)
  same_formed (One x) (One y) h k = equal_formed cs bound true sort.Truth x y h.1 k.1
  same_formed a b h k = iff_formed (said a) (said b) (said_formed a h) (said_formed b k)

  -- ---- functions of it

  module _ (s r : Sort) (g : Term → Term) (each : (t : Term) → S s t → S r (g t)) where
    all_mapped : (xs : List Choice) → HaveSort cs bound s xs → HaveSort cs bound r (map (λ x. choice x.condition (g x.value)) xs)
    all_mapped [] h = tt
    all_mapped (x ∷ xs) h = (h.0, each x.value h.1, all_mapped xs h.2)

    pub mapped_sorted : (m : Meant) → C s m → C r (mapped g m)
    mapped_sorted (One t) h = (refl, each t h.1, tt)
    mapped_sorted (Either xs) h = all_mapped xs h
    mapped_sorted (Says f) h = all_mapped (choices (Says f)) h

  module _ (s r q : Sort) (g : Term → Term → Term) (each : (x y : Term) → S s x → S r y → S q (g x y)) where
    all_both : (a : Choice) → F a.condition → S s a.value → (ys : List Choice) → HaveSort cs bound r ys → HaveSort cs bound q (map (both g a) ys)
    all_both a h k [] l = tt
    all_both a h k (y ∷ ys) l = (and_two a.condition y.condition h l.0, each a.value y.value k l.1, all_both a h k ys l.2)

    pairs : (a b : Meant) → C s a → C r b → HaveSort cs bound q (flat_map (λ x. map (both g x) (choices b)) (choices a))
    pairs a b h k = flat_sorted s q (λ x. map (both g x) (choices b)) (choices a) (λ x i j. all_both x i j (choices b) k) h

    pub paired_sorted : (a b : Meant) → C s a → C r b → C q (paired g a b)
    paired_sorted (One x) (One y) h k = (refl, each x y h.1 k.1, tt)
    paired_sorted a b h k = pairs a b h k
