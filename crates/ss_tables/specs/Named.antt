-- What stands under names in a scope and in those around it.
use Rattle.std.specs.Prelude.{ℕ, List, [], ◌∷◌, ◌++◌, Option, Some, None, is_some, if◌then◌else◌}
use Rattle.std.specs.Str.{bytes_eq}
use Rattle.std.specs.Option.{option_or}

-- what stands under the names of one scope, in order of declaration
abbrev pub Named : Type 0 → Type 0
Named A = List (List ℕ × A)

abbrev pub named_in : {A : Type 0} → Named A → List ℕ → Option A
named_in [] n = None
named_in (x ∷ xs) n = if bytes_eq n x.0 then Some x.1 else named_in xs n

-- the innermost of these scopes that has the name decides
abbrev pub named_among : {A : Type 0} → List (Named A) → List ℕ → Option A
named_among [] n = None
named_among (xs ∷ outer) n = option_or (named_in xs n) (named_among outer n)

-- one more name; a second one of a name in one scope isn't meant by it
abbrev pub with_named : {A : Type 0} → Named A → List ℕ → A → Named A
with_named xs n x = if is_some (named_in xs n) then xs else xs ++ (n, x) ∷ []

-- the innermost scope, and those around it from the inside out
pub record Scoped (A : Type 0) : Type 0 where
  pub inner : Named A
  pub outer : List (Named A)

abbrev pub no_names : {A : Type 0} → Scoped A
no_names = record { inner = []; outer = [] }

-- what a name means
abbrev pub named : {A : Type 0} → Scoped A → List ℕ → Option A
named s n = option_or (named_in s.inner n) (named_among s.outer n)

-- a scope within
abbrev pub entered : {A : Type 0} → Scoped A → Scoped A
entered s = record { inner = []; outer = s.inner ∷ s.outer }

-- back in the scope around
abbrev pub left : {A : Type 0} → Scoped A → Scoped A
left {A} s = back s s.outer
  where
    back : Scoped A → List (Named A) → Scoped A
    back s [] = s
    back s (xs ∷ outer) = record { inner = xs; outer = outer }

abbrev pub with_name : {A : Type 0} → Scoped A → List ℕ → A → Scoped A
with_name s n x = record { inner = with_named s.inner n x; outer = s.outer }
