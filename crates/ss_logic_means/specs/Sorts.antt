-- When expressions are well formed as terms and formulas: each term has the sort of its type, and each name in it is bound.
use Rattle.std.specs.Prelude.{◌≡◌, ℕ, List, [], ◌∷◌, ◌++◌, length, Bool, true, Some, slice_get}
use Rattle.ss_core.specs.declared.names.Ty.{Ty}
use Rattle.ss_core.specs.Tree.{ClassTree}
use Rattle.ss_logic.specs.declared.Sort.{Sort}
use Rattle.ss_logic.specs.declared.Sort.TheVariants as sort
use Rattle.ss_logic.specs.Terms.{Term, sort_of_type, sort_of, is_well_sorted}
use Rattle.ss_logic.specs.Formulas.{Formula, is_well_formed}
use Rattle.ss_logic.specs.Express.{Choice, Meant, choices, Context, local_meant}

-- a well sorted term of this sort, where the bound names have these
abbrev pub HasSort : List ClassTree → List Sort → Sort → Term → Type 0
HasSort cs bound s t = (sort_of cs bound t ≡ s) × (is_well_sorted cs bound t ≡ true)

abbrev pub AreWellFormed : List ClassTree → List Sort → List Formula → Type 0
AreWellFormed cs bound [] = Unit {0}
AreWellFormed cs bound (f ∷ fs) = (is_well_formed cs bound f ≡ true) × AreWellFormed cs bound fs

-- each condition is well formed, and each term has this sort
abbrev pub HaveSort : List ClassTree → List Sort → Sort → List Choice → Type 0
HaveSort cs bound s [] = Unit {0}
HaveSort cs bound s (x ∷ xs) = (is_well_formed cs bound x.condition ≡ true) × HasSort cs bound s x.value × HaveSort cs bound s xs

-- The parts are well formed, and what is meant has this sort.
abbrev pub IsWellExpressed : List ClassTree → List Sort → Sort → List Formula → Meant → Type 0
IsWellExpressed cs bound s parts x = AreWellFormed cs bound parts × HaveSort cs bound s (choices x)

-- Where the bound names have these sorts, the terms of the context are stores, and what its locals mean has the sorts of their types, at any
-- more bound names after.
pub record IsSorted (c : Context) (bound : List Sort) : Type 0 where
  pub now : HasSort c.classes bound sort.Store c.now
  pub entry : HasSort c.classes bound sort.Store c.entry
  pub count : length c.locals ≡ length c.types
  pub locals : (x : ℕ) (t : Ty) → slice_get c.types x ≡ Some t → (more : List Sort) → HaveSort c.classes (bound ++ more) (sort_of_type t) (choices (local_meant c x))

-- The same, where these locals alone are asked: what the others mean may be anything.
pub record IsSortedAmong (among : ℕ → Bool) (c : Context) (bound : List Sort) : Type 0 where
  pub now : HasSort c.classes bound sort.Store c.now
  pub entry : HasSort c.classes bound sort.Store c.entry
  pub count : length c.locals ≡ length c.types
  pub locals : (x : ℕ) (t : Ty) → among x ≡ true → slice_get c.types x ≡ Some t → (more : List Sort) → HaveSort c.classes (bound ++ more) (sort_of_type t) (choices (local_meant c x))
