-- The table of a class begins with the names of the table above.
use Rattle.std.proofs.Common.{◌≡◌, ℕ, zero, suc, ◌+◌, ◌-◌, ◌*◌, ◌<◌, List, [], ◌∷◌, ◌++◌, length, map, take, Option, Some, None, refl, sym, ◌∙◌, ap, subst, arith, ⊎_elim}
use Rattle.std.proofs.lemmas.Bool.{cases_Bool}
use Rattle.std.proofs.lemmas.List.{map-append, length-map}
use Rattle.ss_core.specs.Tree as core
use Rattle.ss_core.specs.Chain as chain
use Rattle.ss_core.specs.Chain.{is_declared, declared}
use Rattle.ss_core.proofs.Declared.{declared_at}
use Rattle.ss_ast.specs.Programs.{ClassTree, ProgramTree}
use Rattle.ss_tables.specs.Classes.{members_at, above, steps_above, chain_from}
use Rattle.ss_typed.specs.Tree.{TypedTree}
use Rattle.ss_resolver_names_rules.specs.Programs.{program_faults}
use Rattle.ss_resolver_names_rules.specs.Faults.{is_listed}
use Rattle.ss_resolver_rules.specs.Numbers.{number_or_object, names_of, method_names, overridden, added, table_along, table}
use Rattle.ss_resolver_rules.specs.Programs.{resolved}
use Rattle.ss_expand_rules.specs.Program.{entries_from}
use Rattle.ss_store_rules.specs.Typed.{table_of}
use Rattle.ss_store_rules.specs.Typed as store
use Rattle.ss_expand_formed.specs.Laws.{core_of, HaveTableNames}
use Rattle.ss_expand_formed.proofs.ClassConstructors.{place_of_declared}
use Rattle.ss_expand_formed.proofs.Cycles.{above_within, walks_end}
use Rattle.ss_expand_formed.proofs.ChainLaw.{written_at, size, there_at, no_cycles, up}

-- ---- lists

map-take : {X Y : Type 0} (f : X → Y) (n : ℕ) (xs : List X) → map f (take n xs) ≡ take n (map f xs)
map-take f zero xs = refl
map-take f (suc n) [] = refl
map-take f (suc n) (x ∷ xs) = ap (λ ys. f x ∷ ys) (map-take f n xs)

take_front : {X : Type 0} (xs ys : List X) → take (length xs) (xs ++ ys) ≡ xs
take_front [] ys = refl
take_front (x ∷ xs) ys = ap (λ zs. x ∷ zs) (take_front xs ys)

-- ---- names

entry_names : (p : TypedTree) (t m : ℕ) (es : List core.EntryTree) → names_of (entries_from p t m es) ≡ names_of es
entry_names p t m [] = refl
entry_names p t m (e ∷ es) = ap (λ ns. e.name ∷ ns) (entry_names p t (m + 1) es)

overridden_name : (cs : List ClassTree) (k : ℕ) (e : core.EntryTree) → (overridden cs k e).name ≡ e.name
overridden_name cs k e =
    ⊎_elim
    (λ yes. rw yes refl)
    (λ other. rw other refl)
    (cases_Bool (is_listed (method_names (members_at cs k)) e.name))

overridden_names : (cs : List ClassTree) (k : ℕ) (es : List core.EntryTree) → names_of (map (overridden cs k) es) ≡ names_of es
overridden_names cs k [] = refl
overridden_names cs k (e ∷ es) = rw (overridden_name cs k e) (ap (λ ns. e.name ∷ ns) (overridden_names cs k es))

-- more steps than there are add none
chain_stops : (cs : List ClassTree) (n : ℕ) (o : Option ℕ) → steps_above cs n o ≡ None → chain_from cs (suc n) o ≡ chain_from cs n o
chain_stops cs zero None h = refl
chain_stops cs zero (Some k) h = absurd (let z : ⊥ = cc in z)
chain_stops cs (suc n) None h = refl
chain_stops cs (suc n) (Some k) h = ap (λ ks. k ∷ ks) (chain_stops cs n (above cs k) h)

-- the table of a class below class j is made of that of j
pub table_below : (cs : List ClassTree) (n k j : ℕ) → length cs ≡ suc n → above cs k ≡ Some j → steps_above cs (length cs) (Some k) ≡ None → table cs k ≡ map (overridden cs k) (table cs j) ++ added cs k (table cs j)
table_below cs n k j size up h =
    let stop : steps_above cs n (Some j) ≡ None = ap (steps_above cs n) (sym up) ∙ subst (λ l. steps_above cs l (Some k) ≡ None) size h in
    let mine : table cs k ≡ table_along cs (k ∷ chain_from cs n (Some j)) = ap (λ l. table_along cs (chain_from cs l (Some k))) size ∙ ap (λ o. table_along cs (k ∷ chain_from cs n o)) up in
    let theirs : table cs j ≡ table_along cs (chain_from cs n (Some j)) = ap (λ l. table_along cs (chain_from cs l (Some j))) size ∙ ap (table_along cs) (chain_stops cs n (Some j) stop) in
    mine ∙ ap (λ es. map (overridden cs k) es ++ added cs k es) (sym theirs)

names_begin : (cs : List ClassTree) (k j : ℕ) → table cs k ≡ map (overridden cs k) (table cs j) ++ added cs k (table cs j) → take (length (names_of (table cs j))) (names_of (table cs k)) ≡ names_of (table cs j)
names_begin cs k j is =
    let whole : names_of (table cs k) ≡ names_of (table cs j) ++ names_of (added cs k (table cs j)) =
    ap names_of is ∙ map-append (λ (e : core.EntryTree). e.name) (map (overridden cs k) (table cs j)) (added cs k (table cs j)) ∙ ap (λ ns. ns ++ names_of (added cs k (table cs j))) (overridden_names cs k (table cs j)) in
    ap (take (length (names_of (table cs j)))) whole ∙ take_front (names_of (table cs j)) (names_of (added cs k (table cs j)))

module _ (p : ProgramTree) (faultless : program_faults p ≡ []) where
  names_at : (k : ℕ) → k < length p.classes → names_of (store.table (core_of p).classes (4 + 2 * k)) ≡ names_of (table p.classes k)
  names_at k l =
      let y = there_at p k l in
      ap (λ o. names_of (table_of o)) (declared_at (core_of p).classes k ∙ y.1) ∙ ap names_of (written_at p k y.0 y.1).table ∙ entry_names (resolved p) (4 + 2 * k) 0 (table p.classes k)

  names_of_class : (k : ℕ) → k < length p.classes → (o : Option ℕ) → above p.classes k ≡ o →
      names_of (take (length (store.table (core_of p).classes (number_or_object o))) (store.table (core_of p).classes (4 + 2 * k))) ≡ names_of (store.table (core_of p).classes (number_or_object o))
  names_of_class k l None e = refl
  names_of_class k l (Some j) e =
      let mine = names_at k l in
      let within = above_within p.classes k j e in
      let theirs = names_at j within in
      let above_table = store.table (core_of p).classes (4 + 2 * j) in
      let count : length above_table ≡ length (names_of (table p.classes j)) = sym (length-map above_table (λ (x : core.EntryTree). x.name)) ∙ ap length theirs in
      let n = length p.classes - 1 in
      let more : length p.classes ≡ suc n = omega arith in
      let begins = names_begin p.classes k j (table_below p.classes n k j more e (walks_end p.classes (no_cycles p faultless) k l)) in
      map-take (λ (x : core.EntryTree). x.name) (length above_table) (store.table (core_of p).classes (4 + 2 * k))
      ∙ ap (λ c. take c (names_of (store.table (core_of p).classes (4 + 2 * k)))) count
      ∙ ap (take (length (names_of (table p.classes j)))) mine
      ∙ begins
      ∙ sym theirs

pub have_table_names : (p : ProgramTree) → program_faults p ≡ [] → HaveTableNames (core_of p)
have_table_names p faultless t declared_there =
    let at = place_of_declared (core_of p).classes t declared_there in
    let l = at.2 in
    let s = size p in
    let within : at.0 < length p.classes = omega arith in
    let over : chain.above (core_of p).classes t ≡ number_or_object (above p.classes at.0) = ap (chain.above (core_of p).classes) at.1 ∙ up p faultless at.0 within in
    subst (λ u. names_of (take (length (store.table (core_of p).classes u)) (store.table (core_of p).classes t)) ≡ names_of (store.table (core_of p).classes u)) (sym over)
    (subst (λ u. names_of (take (length (store.table (core_of p).classes (number_or_object (above p.classes at.0)))) (store.table (core_of p).classes u)) ≡ names_of (store.table (core_of p).classes (number_or_object (above p.classes at.0)))) (sym at.1)
    (names_of_class p faultless at.0 within (above p.classes at.0) refl))
