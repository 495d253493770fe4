-- The tables of methods, class by class.
use Rattle.std.proofs.Common.{ℕ, zero, suc, ◌≡◌, ◌<◌, ◌≤◌, ◌+◌, ◌-◌, List, [], ◌∷◌, ◌++◌, length, map, drop, get_or, refl, sym, ap, ◌∙◌, arith, Option, Some, None, option_map, append_assoc, subst}
use Rattle.std.specs.Prelude.{slice_get, unwrap_or}
use Rattle.ss_core.specs.Tree.{EntryTree}
use Rattle.ss_ast.specs.Programs.{ClassTree}
use Rattle.ss_tables.specs.Members.{methods_in}
use Rattle.ss_tables.specs.Classes.{members_in, members_at, above, chain_from}
use Rattle.ss_tables_lookup.specs.Shelves.{Shelf, shelf, method_names}
use Rattle.ss_resolver_tables.specs.declared.slots.MethodTable.{MethodTable}
use Rattle.ss_resolver_rules.specs.Numbers.{added, declared_entry, table_along}
use Rattle.ss_resolver_tables.specs.Slots.{new_among, IsTable}

-- the methods of a class that a table doesn't name
pub added_shelved : (cs : List ClassTree) (k : ℕ) (es : List EntryTree) (s : Shelf) → Some s ≡ option_map (shelf cs) (slice_get cs k) → map (declared_entry cs k) (new_among es (method_names s.methods)) ≡ added cs k es
added_shelved cs k es s e = at (slice_get cs k) e
  where
    at : (o : Option ClassTree) → Some s ≡ option_map (shelf cs) o → map (declared_entry cs k) (new_among es (method_names s.methods)) ≡ map (declared_entry cs k) (new_among es (method_names (methods_in (members_in o))))
    at None e = absurd cc
    at (Some c) e = rw (ap (λ o. unwrap_or o s) e) refl

pub none_added : (cs : List ClassTree) (k : ℕ) (es : List EntryTree) → None ≡ option_map (shelf cs) (slice_get cs k) → [] ≡ added cs k es
none_added cs k es e = at (slice_get cs k) e
  where
    at : (o : Option ClassTree) → None ≡ option_map (shelf cs) o → [] ≡ map (declared_entry cs k) (new_among es (method_names (methods_in (members_in o))))
    at None e = refl
    at (Some c) e = absurd cc

-- a chain that has ended
pub ended : (cs : List ClassTree) (n : ℕ) → chain_from cs n None ≡ []
ended cs zero = refl
ended cs (suc n) = refl

pub next_class : (cs : List ClassTree) (done : List ℕ) (k i count : ℕ) → i < count → (done ++ k ∷ []) ++ chain_from cs (count - (i + 1)) (above cs k) ≡ done ++ chain_from cs (count - i) (Some k)
next_class cs done k i count l = let e : count - i ≡ suc (count - (i + 1)) = omega arith in rw e (append_assoc done (k ∷ []) (chain_from cs (count - (i + 1)) (above cs k)))

-- one more table
pub one_more_table : (P : ℕ → MethodTable → Type 0) (ts : List MethodTable) (y : MethodTable) → ((k : ℕ) (t : MethodTable) → slice_get ts k ≡ Some t → P k t) → P (length ts) y → (k : ℕ) (t : MethodTable) → slice_get (ts ++ y ∷ []) k ≡ Some t → P k t
one_more_table P [] y each last zero t h = subst (λ x. P 0 x) (ap (λ o. unwrap_or o y) h) last
one_more_table P [] y each last (suc k) t h = absurd cc
one_more_table P (x ∷ ts) y each last zero t h = each zero t h
one_more_table P (x ∷ ts) y each last (suc k) t h = one_more_table (λ j u. P (suc j) u) ts y (λ j u g. each (suc j) u g) last k t h

-- a list from one place before
drop_back : (ks : List ℕ) (j i : ℕ) → i ≡ suc j → j < length ks → drop j ks ≡ get_or ks j 0 ∷ drop i ks
drop_back [] j i e l = absurd (omega arith)
drop_back (k ∷ ks) zero i e l = rw e refl
drop_back (k ∷ ks) (suc j) i e l = rw e (drop_back ks j (suc j) refl (omega arith))

pub one_below : (cs : List ClassTree) (ks : List ℕ) (j i : ℕ) (t : MethodTable) → i ≡ suc j → j < length ks → IsTable (table_along cs (get_or ks j 0 ∷ drop i ks)) t → IsTable (table_along cs (drop j ks)) t
one_below cs ks j i t e l = subst (λ (xs : List ℕ). IsTable (table_along cs xs) t) (sym (drop_back ks j i e l))
