-- What a shelf gives for a name is the member of its class that is meant.
use Rattle.std.proofs.Common.{ℕ, ◌≡◌, List, Option, Some, None, option_map, refl, ap}
use Rattle.std.specs.Prelude.{suc, ◌<◌, ◌-◌, ◌+◌, slice_get, option_and_then, unwrap_or}
use Rattle.std.proofs.Common.{arith}
use Rattle.ss_ast.specs.Programs.{ClassTree}
use Rattle.ss_tables.specs.Members.{FieldTree, MethodTree, field_in, method_in, fields_in, methods_in}
use Rattle.ss_tables.specs.Classes.{members_in, members_at, above, chain_from, first_field, first_method}
use Rattle.ss_tables.specs.Named.{named_in}
use Rattle.ss_tables_lookup.specs.Shelves.{Shelf, shelf}
use Rattle.ss_tables_lookup.proofs.Noted.{first_item}

pub field_shelved : (cs : List ClassTree) (k : ℕ) (n : List ℕ) (s : Shelf) → Some s ≡ option_map (shelf cs) (slice_get cs k) → option_and_then (slice_get s.fields) (named_in s.field_places n) ≡ field_in (members_at cs k) n
field_shelved cs k n s e = at (slice_get cs k) e
  where
    at : (o : Option ClassTree) → Some s ≡ option_map (shelf cs) o → option_and_then (slice_get s.fields) (named_in s.field_places n) ≡ field_in (members_in o) n
    at None e = absurd cc
    at (Some c) e = rw (ap (λ o. unwrap_or o s) e) (first_item (λ (f : FieldTree). f.name.text) n (fields_in c.members))

pub method_shelved : (cs : List ClassTree) (k : ℕ) (n : List ℕ) (s : Shelf) → Some s ≡ option_map (shelf cs) (slice_get cs k) → option_and_then (slice_get s.methods) (named_in s.method_places n) ≡ method_in (members_at cs k) n
method_shelved cs k n s e = at (slice_get cs k) e
  where
    at : (o : Option ClassTree) → Some s ≡ option_map (shelf cs) o → option_and_then (slice_get s.methods) (named_in s.method_places n) ≡ method_in (members_in o) n
    at None e = absurd cc
    at (Some c) e = rw (ap (λ o. unwrap_or o s) e) (first_item (λ (m : MethodTree). m.name.text) n (methods_in c.members))

-- a class that doesn't declare the name leaves it to those above
pub next_field : (cs : List ClassTree) (n : List ℕ) (k i count : ℕ) → i < count → field_in (members_at cs k) n ≡ None → first_field cs n (chain_from cs (count - (i + 1)) (above cs k)) ≡ first_field cs n (chain_from cs (count - i) (Some k))
next_field cs n k i count l none = let e : count - i ≡ suc (count - (i + 1)) = omega arith in rw (e, none) refl

pub next_method : (cs : List ClassTree) (n : List ℕ) (k i count : ℕ) → i < count → method_in (members_at cs k) n ≡ None → first_method cs n (chain_from cs (count - (i + 1)) (above cs k)) ≡ first_method cs n (chain_from cs (count - i) (Some k))
next_method cs n k i count l none = let e : count - i ≡ suc (count - (i + 1)) = omega arith in rw (e, none) refl
