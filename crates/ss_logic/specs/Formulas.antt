-- Formulas, and when they are true in a structure.
use Rattle.std.specs.Prelude.{◌≡◌, ℕ, zero, suc, List, [], ◌∷◌, ◌++◌, Bool, true, false, not, ◌&&◌, ◌||◌, ◌==◌, int_le}
use Rattle.ss_core.specs.Tree.{ClassTree}
use Rattle.ss_core.specs.Chain.{sub}
use Rattle.ss_logic.specs.declared.Sort.{Sort}
use Rattle.ss_logic.specs.declared.Sort.TheVariants as sort
use Rattle.ss_logic.specs.Values.{Thing, class_name, is_group, is_allocated, Value, sort_of_value, Structure}
use Rattle.ss_logic.specs.Terms.{Symbol, Constant, Term, Bound, App, Terms, no_terms, term_then, terms_from, same_sort, same_sorts, sorts_of, are_well_sorted, argument, whole_at, thing_at, store_at, entry_at, values_of}
use Rattle.ss_logic.specs.Objects.{IsGoodStore}

-- what an atom says of its arguments
pub data Predicate : Type 0 where
  Equal : Predicate
  AtMost : Predicate
  -- the first class counts as the second
  Sub : Predicate
  Allocated : Predicate
  Committed : Predicate
  Ready : Predicate
  IsGroup : Predicate
  Good : Predicate
  deriving Discrete as Predicate-discrete

-- `Literal true p ts` is an atom, and `Literal false p ts` its negation. A quantifier binds names of these sorts.
mutual
  pub data Formula : Type 0 where
    Literal : Bool → Predicate → Terms → Formula
    And : Formulas → Formula
    Or : Formulas → Formula
    Forall : List Sort → Formula → Formula
    Exists : List Sort → Formula → Formula
    deriving Discrete as Formula-discrete

  pub data Formulas : Type 0 where
    no_formulas : Formulas
    formula_then : Formula → Formulas → Formulas

abbrev pub formulas_from : List Formula → Formulas
formulas_from [] = no_formulas
formulas_from (f ∷ fs) = formula_then f (formulas_from fs)

abbrev pub formula_list : Formulas → List Formula
formula_list no_formulas = []
formula_list (formula_then f fs) = f ∷ formula_list fs

-- an atom of these terms, and its negation
abbrev pub atom : Predicate → List Term → Formula
atom p ts = Literal true p (terms_from ts)

abbrev pub no_atom : Predicate → List Term → Formula
no_atom p ts = Literal false p (terms_from ts)

-- ---- well sorted

abbrev pub takes_sorts : Predicate → List Sort → Bool
takes_sorts Equal (s ∷ r ∷ []) = same_sort s r
takes_sorts Equal ss = false
takes_sorts AtMost ss = same_sorts ss (sort.Whole ∷ sort.Whole ∷ [])
takes_sorts Sub ss = same_sorts ss (sort.Rest ∷ sort.Rest ∷ [])
takes_sorts Allocated ss = same_sorts ss (sort.Store ∷ sort.Rest ∷ [])
takes_sorts Committed ss = same_sorts ss (sort.Store ∷ sort.Rest ∷ [])
takes_sorts Ready ss = same_sorts ss (sort.Store ∷ sort.Rest ∷ [])
takes_sorts IsGroup ss = same_sorts ss (sort.Rest ∷ [])
takes_sorts Good ss = same_sorts ss (sort.Store ∷ [])

-- objects, or whole numbers
abbrev pub is_bound_sort : Sort → Bool
is_bound_sort s = same_sort s sort.Rest || same_sort s sort.Whole

abbrev pub are_bound_sorts : List Sort → Bool
are_bound_sorts [] = true
are_bound_sorts (s ∷ ss) = is_bound_sort s && are_bound_sorts ss

-- each part has the sort that its place asks for, where the bound names have these
abbrev mutual
  pub is_well_formed : List ClassTree → List Sort → Formula → Bool
  is_well_formed cs bound (Literal sign p ts) = takes_sorts p (sorts_of cs bound ts) && are_well_sorted cs bound ts
  is_well_formed cs bound (And fs) = are_well_formed cs bound fs
  is_well_formed cs bound (Or fs) = are_well_formed cs bound fs
  is_well_formed cs bound (Forall ss f) = are_bound_sorts ss && is_well_formed cs (bound ++ ss) f
  is_well_formed cs bound (Exists ss f) = are_bound_sorts ss && is_well_formed cs (bound ++ ss) f

  pub are_well_formed : List ClassTree → List Sort → Formulas → Bool
  are_well_formed cs bound no_formulas = true
  are_well_formed cs bound (formula_then f fs) = is_well_formed cs bound f && are_well_formed cs bound fs

-- ---- truth

abbrev pub is_below : List ClassTree → Thing → Thing → Bool
is_below cs (class_name c) (class_name t) = sub cs c t
is_below cs v w = false

-- What an atom says. Equal terms mean the same; of stores that is the same table. `good` is stated by a double negation, so that it is
-- true where it isn't false, as the other atoms are.
abbrev pub Holds : List ClassTree → Structure → Predicate → List Value → Type 0
Holds cs m Equal vs = argument vs 0 ≡ argument vs 1
Holds cs m AtMost vs = int_le (whole_at vs 0) (whole_at vs 1) ≡ true
Holds cs m Sub vs = is_below cs (thing_at vs 0) (thing_at vs 1) ≡ true
Holds cs m Allocated vs = is_allocated (store_at vs 0) (thing_at vs 1) ≡ true
Holds cs m Committed vs = (entry_at vs).committed ≡ true
Holds cs m Ready vs = (entry_at vs).ready ≡ true
Holds cs m IsGroup vs = is_group (thing_at vs 0) ≡ true
Holds cs m Good vs = (IsGoodStore cs m.table (store_at vs 0) → ⊥) → ⊥

abbrev pub Signed : Bool → Type 0 → Type 0
Signed true P = P
Signed false P = P → ⊥

-- the values have the sorts, one by one
abbrev pub AreOf : List Sort → List Value → Type 0
AreOf [] [] = Unit {0}
AreOf [] (v ∷ vs) = ⊥
AreOf (s ∷ ss) [] = ⊥
AreOf (s ∷ ss) (v ∷ vs) = (sort_of_value v ≡ s) × AreOf ss vs

-- Truth, at these values of the bound names. `or` and `exists` say that not every part or value fails, so that truth is two-valued
-- without an axiom.
abbrev mutual
  pub True : List ClassTree → Structure → List Value → Formula → Type 0
  True cs m e (Literal sign p ts) = Signed sign (Holds cs m p (values_of cs m e ts))
  True cs m e (And fs) = AllTrue cs m e fs
  True cs m e (Or fs) = NoneTrue cs m e fs → ⊥
  True cs m e (Forall ss f) = (vs : List Value) → AreOf ss vs → True cs m (e ++ vs) f
  True cs m e (Exists ss f) = ((vs : List Value) → AreOf ss vs → True cs m (e ++ vs) f → ⊥) → ⊥

  pub AllTrue : List ClassTree → Structure → List Value → Formulas → Type 0
  AllTrue cs m e no_formulas = Unit {0}
  AllTrue cs m e (formula_then f fs) = True cs m e f × AllTrue cs m e fs

  pub NoneTrue : List ClassTree → Structure → List Value → Formulas → Type 0
  NoneTrue cs m e no_formulas = Unit {0}
  NoneTrue cs m e (formula_then f fs) = (True cs m e f → ⊥) × NoneTrue cs m e fs

-- all of them are true
abbrev pub Hold : List ClassTree → Structure → List Formula → Type 0
Hold cs m [] = Unit {0}
Hold cs m (f ∷ fs) = True cs m [] f × Hold cs m fs

-- the goal is true wherever the premises are
abbrev pub IsValid : List ClassTree → List Formula → Formula → Type 0
IsValid cs premises goal = (m : Structure) → Hold cs m premises → True cs m [] goal

-- ---- the negation, pushed to the atoms

abbrev mutual
  pub neg : Formula → Formula
  neg (Literal sign p ts) = Literal (not sign) p ts
  neg (And fs) = Or (neg_all fs)
  neg (Or fs) = And (neg_all fs)
  neg (Forall ss f) = Exists ss (neg f)
  neg (Exists ss f) = Forall ss (neg f)

  pub neg_all : Formulas → Formulas
  neg_all no_formulas = no_formulas
  neg_all (formula_then f fs) = formula_then (neg f) (neg_all fs)

-- ---- terms in place of the first bound names

abbrev pub bound_in : List Term → ℕ → Term
bound_in [] k = Bound k
bound_in (t ∷ ts) zero = t
bound_in (t ∷ ts) (suc k) = bound_in ts k

abbrev mutual
  pub put_term : List Term → Term → Term
  put_term ts (Bound k) = bound_in ts k
  put_term ts (App f xs) = App f (put_terms ts xs)

  pub put_terms : List Term → Terms → Terms
  put_terms ts no_terms = no_terms
  put_terms ts (term_then x xs) = term_then (put_term ts x) (put_terms ts xs)

abbrev mutual
  pub put : List Term → Formula → Formula
  put ts (Literal sign p xs) = Literal sign p (put_terms ts xs)
  put ts (And fs) = And (put_all ts fs)
  put ts (Or fs) = Or (put_all ts fs)
  put ts (Forall ss f) = Forall ss (put ts f)
  put ts (Exists ss f) = Exists ss (put ts f)

  pub put_all : List Term → Formulas → Formulas
  put_all ts no_formulas = no_formulas
  put_all ts (formula_then f fs) = formula_then (put ts f) (put_all ts fs)

-- ---- a constant that doesn't occur

abbrev pub is_constant : Sort → ℕ → Symbol → Bool
is_constant s k (Constant r j) = same_sort s r && j == k
is_constant s k f = false

abbrev mutual
  pub term_avoids : Sort → ℕ → Term → Bool
  term_avoids s k (Bound i) = true
  term_avoids s k (App f ts) = not (is_constant s k f) && terms_avoid s k ts

  pub terms_avoid : Sort → ℕ → Terms → Bool
  terms_avoid s k no_terms = true
  terms_avoid s k (term_then t ts) = term_avoids s k t && terms_avoid s k ts

abbrev mutual
  pub avoids : Sort → ℕ → Formula → Bool
  avoids s k (Literal sign p ts) = terms_avoid s k ts
  avoids s k (And fs) = all_avoid s k fs
  avoids s k (Or fs) = all_avoid s k fs
  avoids s k (Forall ss f) = avoids s k f
  avoids s k (Exists ss f) = avoids s k f

  pub all_avoid : Sort → ℕ → Formulas → Bool
  all_avoid s k no_formulas = true
  all_avoid s k (formula_then f fs) = avoids s k f && all_avoid s k fs
