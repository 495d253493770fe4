-- A position whose terms have their sorts, and whose premises and obligations so far are well formed.
use Rattle.std.specs.Prelude.{◌≡◌, ℕ, List, [], ◌∷◌, length, Option, Some, slice_get}
use Rattle.ss_core.specs.declared.names.Ty.{Ty}
use Rattle.ss_core.specs.Tree.{ClassTree}
use Rattle.ss_store_rules.specs.Locals.{local_types, is_argument}
use Rattle.ss_logic.specs.declared.Sort.TheVariants as sort
use Rattle.ss_logic.specs.Terms.{Term, sort_of_type}
use Rattle.ss_logic.specs.Express.{Meant, One}
use Rattle.ss_logic_means.specs.Sorts.{HasSort, AreWellFormed}
use Rattle.ss_vcgen_heaps.specs.Positions.{Position, Walk}
use Rattle.ss_vcgen_safe.specs.At.{HaveTerms}
use Rattle.ss_vcgen_safe.specs.Formed.{AreFormed}

-- each local that has a term has one of the sort of its type
abbrev pub AreSorted : List ClassTree → List Ty → List (Option Term) → Type 0
AreSorted cs types locals = (x : ℕ) (a : Ty) (t : Term) → slice_get types x ≡ Some a → slice_get locals x ≡ Some (Some t) → HasSort cs [] (sort_of_type a) t

-- What is meant is one term, of the sort of the type.
pub record IsTerm (cs : List ClassTree) (a : Ty) (m : Meant) : Type 0 where
  pub term : Term
  pub is : m ≡ One term
  pub sorted : HasSort cs [] (sort_of_type a) term

-- one for each type
abbrev pub AreTerms : List ClassTree → List Ty → List Meant → Type 0
AreTerms cs [] [] = Unit {0}
AreTerms cs (t ∷ ts) (m ∷ ms) = IsTerm cs t m × AreTerms cs ts ms
AreTerms cs ts ms = ⊥

-- The store and the locals have the sorts of their types, the arguments have terms, and all formulas so far are well formed.
pub record IsFormedAt (w : Walk) (k : Position) : Type 0 where
  pub store : HasSort w.program.classes [] sort.Store k.store
  pub count : length k.locals ≡ length (local_types w.body)
  pub locals : AreSorted w.program.classes (local_types w.body) k.locals
  pub arguments : HaveTerms (is_argument w.body) k.locals
  pub premises : AreWellFormed w.program.classes [] k.premises
  pub listed : AreFormed w.program.classes k.listed
