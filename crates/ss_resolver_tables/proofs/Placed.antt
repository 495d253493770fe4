-- The place of a name in the table of a class.
use Rattle.std.proofs.Common.{ℕ, zero, suc, ◌≡◌, ◌≤◌, List, [], ◌∷◌, length, refl, ap, ◌∙◌, arith, Option, Some, None}
use Rattle.std.specs.Prelude.{unwrap_or, slice_get}
use Rattle.std.proofs.lemmas.Option.{slice_get_past}
use Rattle.ss_core.specs.Tree.{EntryTree}
use Rattle.ss_ast.specs.Programs.{ClassTree}
use Rattle.ss_tables.specs.Classes.{chain_from}
use Rattle.ss_tables.specs.Named.{named_in}
use Rattle.ss_tables_lookup.proofs.Noted.{first_place}
use Rattle.ss_resolver_tables.specs.declared.slots.MethodTable.{MethodTable}
use Rattle.ss_resolver_rules.specs.Numbers.{table_along, table, table_place}
use Rattle.ss_resolver_tables.specs.Slots.{AreTables}

pub placed : (cs : List ClassTree) (ts : List MethodTable) (k : ℕ) (t : MethodTable) (n : List ℕ) → AreTables cs ts → slice_get ts k ≡ Some t → unwrap_or (named_in t.places n) 0 ≡ table_place cs k n
placed cs ts k t n are at = ap (λ ps. unwrap_or (named_in ps n) 0) (are.each k t at).places ∙ ap (λ o. unwrap_or o 0) (first_place (λ (e : EntryTree). e.name) n (table cs k))

-- past the classes there is no table
alone_from : (cs : List ClassTree) (k count : ℕ) → slice_get cs k ≡ None → table_along cs (chain_from cs count (Some k)) ≡ []
alone_from cs k zero h = refl
alone_from cs k (suc zero) h = rw h refl
alone_from cs k (suc (suc n)) h = rw h refl

none_past : {A : Type 0} (xs : List A) (k : ℕ) → slice_get xs k ≡ None → length xs ≤ k
none_past [] k h = omega arith
none_past (x ∷ xs) zero h = absurd cc
none_past (x ∷ xs) (suc k) h = omega (arith, none_past xs k h)

pub no_place : (cs : List ClassTree) (ts : List MethodTable) (k : ℕ) (n : List ℕ) → AreTables cs ts → slice_get ts k ≡ None → 0 ≡ table_place cs k n
no_place cs ts k n are none =
    let past : length cs ≤ k = omega (arith, none_past ts k none, are.places) in
    rw (alone_from cs k (length cs) (slice_get_past cs k past)) refl
