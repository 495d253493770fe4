-- Reads over the numbers of a bank.
use Rattle.std.specs.Prelude.{◌≡◌, ℕ, List, [], ◌∷◌, Bool, true, Option, Some, None, ◌==◌, option_and_then, if◌then◌else◌}
use Rattle.ss_core.specs.Tree.{ClassTree}
use Rattle.ss_logic.specs.declared.Sort.TheVariants as sort
use Rattle.ss_logic.specs.Terms.{Term, terms_from, has_field, have_sorts}
use Rattle.ss_logic.specs.Formulas.{Predicate, Formula, Literal}
use Rattle.ss_logic.specs.Shapes.{when}
use Rattle.ss_logic.specs.Reads as read
use Rattle.ss_logic.specs.Reads.{is_look}
use Rattle.ss_terms.specs.Forms.{Forms, term_at, HasTerm}
use Rattle.ss_rules_basic.specs.declared.looks.Look.{Look}
use Rattle.ss_rules_basic.specs.declared.looks.Look.TheVariants as look

-- the read that it stands for
abbrev pub look_in : Forms → Look → read.Look
look_in b (look.Field o f) = read.FieldLook (term_at b o) f
look_in b (look.Element s a i) = read.ElementLook s (term_at b a) (term_at b i)
look_in b (look.Level o) = read.LevelLook (term_at b o)
look_in b (look.Owner o) = read.OwnerLook (term_at b o)
look_in b look.Next = read.NextLook
look_in b (look.Allocated o) = read.AllocatedLook (term_at b o)
look_in b (look.Committed o) = read.CommittedLook (term_at b o)
look_in b (look.Ready o) = read.ReadyLook (term_at b o)
look_in b (look.Length a) = read.LengthLook (term_at b a)

-- the bank has its terms
abbrev pub HasLook : Forms → Look → Type 0
HasLook b (look.Field o f) = HasTerm b o
HasLook b (look.Element s a i) = HasTerm b a × HasTerm b i
HasLook b (look.Level o) = HasTerm b o
HasLook b (look.Owner o) = HasTerm b o
HasLook b look.Next = Unit {0}
HasLook b (look.Allocated o) = HasTerm b o
HasLook b (look.Committed o) = HasTerm b o
HasLook b (look.Ready o) = HasTerm b o
HasLook b (look.Length a) = HasTerm b a

-- the program has the field of the read
abbrev pub in_program : List ClassTree → read.Look → Bool
in_program cs (read.FieldLook o f) = has_field cs f
in_program cs l = true

abbrev pub with_field : List ClassTree → Option read.Look → Option read.Look
with_field cs o = option_and_then (λ l. when (in_program cs l) l) o

-- the field, where the program has it
abbrev pub existing : List ClassTree → Option ℕ → Option ℕ
existing cs o = option_and_then (λ f. when (has_field cs f) f) o

-- the read of an element of this number
abbrev pub element_of : ℕ → Term → Term → Option read.Look
element_of n a i =
    if n == 1 then Some (read.ElementLook sort.Rest a i)
    else if n == 9 then Some (read.ElementLook sort.Whole a i)
    else if n == 10 then Some (read.ElementLook sort.Truth a i)
    else None

-- the arguments of the read have their sorts
abbrev pub look_sorted : List ClassTree → read.Look → Bool
look_sorted cs (read.FieldLook o f) = have_sorts cs (sort.Rest ∷ []) (o ∷ [])
look_sorted cs l = is_look cs l

-- the read, where its arguments have their sorts and the program has its field
abbrev pub fitting : List ClassTree → Option read.Look → Option read.Look
fitting cs o = option_and_then (λ l. when (is_look cs l) l) o

abbrev pub IsLookOf : Forms → Option Look → Option read.Look → Type 0
IsLookOf b None o = o ≡ None
IsLookOf b (Some l) o = HasLook b l × (o ≡ Some (look_in b l))

-- an atom of an object in a store
abbrev pub atom_of : Predicate → Term → Term → Formula
atom_of p s o = Literal true p (terms_from (s ∷ o ∷ []))
