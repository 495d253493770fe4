-- The class table of a program: which class a name means, and what stands above a class. A declared class is told by its
-- place in the text, from 0.
use Rattle.std.specs.Prelude.{ℕ, zero, suc, ◌+◌, Bool, List, [], ◌∷◌, length, Option, Some, None, slice_get, position, if◌then◌else◌}
use Rattle.std.specs.Str.{bytes_eq}
use Rattle.std.specs.Option.{option_or}
use Rattle.ss_ast.specs.Expressions.{NameTree}
use Rattle.ss_ast.specs.Programs.{MemberTree, ClassTree}
pub use Rattle.ss_core.specs.Kinds.{class_number, array_number, is_array_number, declared_place}
use Rattle.ss_tables.specs.Members.{FieldTree, MethodTree, field_in, method_in}

-- the class of this name; of two of one name the first is meant
abbrev pub class_named : List ClassTree → List ℕ → Option ℕ
class_named cs n = position (λ (c : ClassTree). bytes_eq n c.name.text) cs

-- the class that is written as superclass, where there is a class of that name
abbrev pub above_written : List ClassTree → Option NameTree → Option ℕ
above_written cs None = None
above_written cs (Some n) = class_named cs n.text

abbrev pub above_in : List ClassTree → Option ClassTree → Option ℕ
above_in cs None = None
above_in cs (Some c) = above_written cs c.above

-- the declared class directly above a class; None where that is `object`, or no class of the program
abbrev pub above : List ClassTree → ℕ → Option ℕ
above cs k = above_in cs (slice_get cs k)

-- the class that stands n steps above
abbrev pub steps_above : List ClassTree → ℕ → Option ℕ → Option ℕ
steps_above cs zero k = k
steps_above cs (suc n) None = None
steps_above cs (suc n) (Some k) = steps_above cs n (above cs k)

-- a class, the one above it, and so on, at most n of them
abbrev pub chain_from : List ClassTree → ℕ → Option ℕ → List ℕ
chain_from cs zero k = []
chain_from cs (suc n) None = []
chain_from cs (suc n) (Some k) = k ∷ chain_from cs n (above cs k)

-- a class and all above it: as many as there are classes, so that a chain without end is gone round
abbrev pub chain : List ClassTree → ℕ → List ℕ
chain cs k = chain_from cs (length cs) (Some k)

-- all that stand above a class
abbrev pub chain_above : List ClassTree → ℕ → List ℕ
chain_above cs k = chain_from cs (length cs) (above cs k)

-- ---- the nearest member of a name

abbrev pub members_in : Option ClassTree → List MemberTree
members_in None = []
members_in (Some c) = c.members

abbrev pub members_at : List ClassTree → ℕ → List MemberTree
members_at cs k = members_in (slice_get cs k)

-- a member, and the class that declares it
pub record Declared (A : Type 0) : Type 0 where
  pub class : ℕ
  pub member : A

abbrev pub declared_in : {A : Type 0} → ℕ → Option A → Option (Declared A)
declared_in k None = None
declared_in k (Some m) = Some (record { class = k; member = m })

-- the first of these classes that has a field of the name
abbrev pub first_field : List ClassTree → List ℕ → List ℕ → Option (Declared FieldTree)
first_field cs n [] = None
first_field cs n (k ∷ ks) = option_or (declared_in k (field_in (members_at cs k) n)) (first_field cs n ks)

abbrev pub first_method : List ClassTree → List ℕ → List ℕ → Option (Declared MethodTree)
first_method cs n [] = None
first_method cs n (k ∷ ks) = option_or (declared_in k (method_in (members_at cs k) n)) (first_method cs n ks)

-- the field of this name that a class has: its own, else the nearest above
abbrev pub field_of : List ClassTree → ℕ → List ℕ → Option (Declared FieldTree)
field_of cs k n = first_field cs n (chain cs k)

abbrev pub method_of : List ClassTree → ℕ → List ℕ → Option (Declared MethodTree)
method_of cs k n = first_method cs n (chain cs k)

-- what a class has from the classes above it
abbrev pub inherited_field : List ClassTree → ℕ → List ℕ → Option (Declared FieldTree)
inherited_field cs k n = first_field cs n (chain_above cs k)

abbrev pub inherited_method : List ClassTree → ℕ → List ℕ → Option (Declared MethodTree)
inherited_method cs k n = first_method cs n (chain_above cs k)
