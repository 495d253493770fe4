-- The constructors of a class, as its shelf has them.
use Rattle.std.proofs.Common.{ℕ, ◌≡◌, List, [], Option, Some, None, option_map, refl, ap}
use Rattle.std.specs.Prelude.{slice_get, unwrap_or}
use Rattle.ss_ast.specs.Programs.{ClassTree}
use Rattle.ss_tables.specs.Members.{constructors_in}
use Rattle.ss_tables.specs.Classes.{members_in, members_at}
use Rattle.ss_tables_lookup.specs.Shelves.{Shelf, shelf}

pub shelved : (cs : List ClassTree) (k : ℕ) (s : Shelf) → Some s ≡ option_map (shelf cs) (slice_get cs k) → s.constructors ≡ constructors_in (members_at cs k)
shelved cs k s e = at (slice_get cs k) e
  where
    at : (o : Option ClassTree) → Some s ≡ option_map (shelf cs) o → s.constructors ≡ constructors_in (members_in o)
    at None e = absurd cc
    at (Some c) e = ap (λ o. (unwrap_or o s).constructors) e

pub unshelved : (cs : List ClassTree) (k : ℕ) → None ≡ option_map (shelf cs) (slice_get cs k) → constructors_in (members_at cs k) ≡ []
unshelved cs k e = at (slice_get cs k) e
  where
    at : (o : Option ClassTree) → None ≡ option_map (shelf cs) o → constructors_in (members_in o) ≡ []
    at None e = refl
    at (Some c) e = absurd cc
