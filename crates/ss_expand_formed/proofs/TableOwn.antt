-- After the names of the table above stand methods of the class itself.
use Rattle.std.proofs.Common.{◌≡◌, ℕ, zero, suc, ◌+◌, ◌-◌, ◌*◌, ◌<◌, List, [], ◌∷◌, ◌++◌, length, map, drop, Bool, true, Option, Some, None, refl, sym, ◌∙◌, ap, subst, arith}
use Rattle.std.specs.Prelude.{not, slice_get, filter, option_and_then, if◌then◌else◌}
use Rattle.std.specs.List.{list_all}
use Rattle.std.specs.Str.{bytes_eq}
use Rattle.std.proofs.lemmas.Slice.Eq.{bytes_eq-Decides}
use Rattle.std.proofs.lemmas.Bool.{eq-eqb, or_left}
use Rattle.std.proofs.lemmas.List.{length-map}
use Rattle.ss_core.specs.Tree as core
use Rattle.ss_core.specs.Chain as chain
use Rattle.ss_core.specs.Chain.{declared}
use Rattle.ss_core.proofs.Declared.{declared_at}
use Rattle.ss_ast.specs.Programs.{ClassTree, ProgramTree}
use Rattle.ss_tables.specs.Classes.{members_in, members_at, above, chain_from}
use Rattle.ss_typed.specs.Tree.{TypedTree}
use Rattle.ss_resolver_names_rules.specs.Programs.{program_faults}
use Rattle.ss_resolver_names_rules.specs.Faults.{is_listed}
use Rattle.ss_resolver_rules.specs.Numbers.{number_or_object, names_of, method_names, declared_entry, overridden, added, table_along, table}
use Rattle.ss_resolver_rules.specs.Programs.{method_body, resolved}
use Rattle.ss_expand_rules.specs.Program as program
use Rattle.ss_expand_rules.specs.Program.{method_at, Method, is_declared_by, is_own, number_of, number_of_written, entry_number, entries_from}
use Rattle.ss_typed.specs.Lookups.{body_at}
use Rattle.ss_store_rules.specs.Typed.{table_of}
use Rattle.ss_store_rules.specs.Typed as store
use Rattle.ss_store_rules.specs.Tables.{is_method_of}
use Rattle.ss_expand_formed.specs.Laws.{core_of, HaveOwnMethods}
use Rattle.ss_expand_formed.proofs.Searching.{at_back, any_at, filtered_from}
use Rattle.ss_expand_formed.proofs.Places.{class_at, named_method, listed_methods}
use Rattle.ss_expand_formed.proofs.Entries.{map_from}
use Rattle.ss_expand_formed.proofs.Bodies.{made}
use Rattle.ss_expand_formed.proofs.Numbered.{IsOrigin, OfMethod, there, numbered}
use Rattle.ss_expand_formed.proofs.ClassConstructors.{place_of_declared}
use Rattle.ss_expand_formed.proofs.Cycles.{above_within, walks_end}
use Rattle.ss_expand_formed.proofs.ChainLaw.{all_from, written_at, size, there_at, no_cycles, up}
use Rattle.ss_expand_formed.proofs.TableNames.{table_below}
use Rattle.ss_expand_formed.proofs.TableMethods.{made_is, entries_from_is}

at_drop : {X : Type 0} (n : ℕ) (xs : List X) (i : ℕ) → slice_get (drop n xs) i ≡ slice_get xs (n + i)
at_drop zero xs i = let z : 0 + i ≡ i = omega arith in rw z refl
at_drop (suc n) [] i = refl
at_drop (suc n) (x ∷ xs) i = let s : suc n + i ≡ suc (n + i) = omega arith in rw s (at_drop n xs i)

entries_count : (p : TypedTree) (t j : ℕ) (es : List core.EntryTree) → length (entries_from p t j es) ≡ length es
entries_count p t j [] = refl
entries_count p t j (e ∷ es) = ap suc (entries_count p t (j + 1) es)

module _ (p : ProgramTree) where
  -- a method that the class declares has a body of its own
  own_body_of : (k : ℕ) (c : ClassTree) → slice_get p.classes k ≡ Some c → (m : ℕ) (n : List ℕ) → is_listed (method_names c.members) n ≡ true → slice_get (table p.classes k) m ≡ Some (declared_entry p.classes k n) →
      is_method_of (4 + 2 * k) (store.body_at (core_of p) (entry_number (resolved p) (4 + 2 * k) m (declared_entry p.classes k n).body)) ≡ true
  own_body_of k c at m n listed h =
      let t = 4 + 2 * k in
      let e = declared_entry p.classes k n in
      let r = named_method p k c at n (sym (listed_methods c.members n) ∙ listed) in
      let b = method_body p.classes k r.0 in
      let declared_there : is_declared_by t (Some b) ≡ true = eq-eqb t t refl in
      let own : is_own t (body_at (resolved p) e.body) ≡ true = ap (is_own t) r.3 ∙ or_left (is_declared_by t (Some b)) _ declared_there in
      let d = class_at p k c at in
      let in_table : slice_get (program.table (resolved p) t) m ≡ Some e = ap (λ (o : Option core.ClassTree). slice_get (table_of o) m) d ∙ h in
      let method : method_at (resolved p) t m ≡ Some b = ap (option_and_then (λ (z : core.EntryTree). body_at (resolved p) z.body)) in_table ∙ r.3 in
      let origin : IsOrigin (resolved p) (Method t m) = OfMethod {t = t} {m = m} {e = e} d in_table own in
      let y = there p (Method t m) origin in
      let facts = made_is (resolved p) t m b method refl (Method t m) refl y.0 (made (resolved p) (Method t m) y.0 y.1) in
      let choice = λ (z : Bool). is_method_of t (store.body_at (core_of p) (if z then number_of (resolved p) (Method t m) else number_of_written (resolved p) e.body)) in
      ap choice own ∙ ap (is_method_of t) (numbered p (Method t m) origin ∙ y.1) ∙ eq-eqb y.0.class t facts.2

  listed_there : (k : ℕ) (c : ClassTree) → slice_get p.classes k ≡ Some c → (n : List ℕ) → is_listed (method_names (members_at p.classes k)) n ≡ true → is_listed (method_names c.members) n ≡ true
  listed_there k c at n h = subst (λ (o : Option ClassTree). is_listed (method_names (members_in o)) n ≡ true) at h

  -- after the entries of the table above
  added_own : (k : ℕ) (c : ClassTree) → slice_get p.classes k ≡ Some c → (over : List core.EntryTree) → table p.classes k ≡ map (overridden p.classes k) over ++ added p.classes k over →
      (i : ℕ) (x : core.EntryTree) → slice_get (entries_from (resolved p) (4 + 2 * k) 0 (table p.classes k)) (length over + i) ≡ Some x → is_method_of (4 + 2 * k) (store.body_at (core_of p) x.body) ≡ true
  added_own k c at over is i x h =
      let t = 4 + 2 * k in
      let r = entries_from_is (resolved p) t 0 (table p.classes k) (length over + i) x h in
      let z : 0 + (length over + i) ≡ length over + i = omega arith in
      let xs = map (overridden p.classes k) over in
      let count : length xs ≡ length over = length-map over (overridden p.classes k) in
      let in_added : slice_get (added p.classes k over) i ≡ Some r.0 =
      sym (at_back xs (added p.classes k over) i) ∙ ap (λ n. slice_get (xs ++ added p.classes k over) (n + i)) count ∙ ap (λ es. slice_get es (length over + i)) (sym is) ∙ r.1 in
      let names = method_names (members_at p.classes k) in
      let test = λ (n : List ℕ). not (is_listed (names_of over) n) in
      let q = map_from (declared_entry p.classes k) (filter test names) i r.0 in_added in
      let f = filtered_from test names i q.0 q.1 in
      let listed = listed_there k c at q.0 (any_at (bytes_eq q.0) names f.0 q.0 f.1 ((bytes_eq-Decides q.0 q.0).1 refl)) in
      let in_table : slice_get (table p.classes k) (length over + i) ≡ Some (declared_entry p.classes k q.0) = r.1 ∙ ap Some (sym q.2) in
      ap (λ (w : core.EntryTree). is_method_of t (store.body_at (core_of p) w.body)) r.2
      ∙ ap (λ n. is_method_of t (store.body_at (core_of p) (entry_number (resolved p) t n r.0.body))) z
      ∙ ap (λ (w : core.EntryTree). is_method_of t (store.body_at (core_of p) (entry_number (resolved p) t (length over + i) w.body))) (sym q.2)
      ∙ own_body_of k c at (length over + i) q.0 listed in_table

module _ (p : ProgramTree) (faultless : program_faults p ≡ []) where
  table_at : (k : ℕ) → k < length p.classes → store.table (core_of p).classes (4 + 2 * k) ≡ entries_from (resolved p) (4 + 2 * k) 0 (table p.classes k)
  table_at k l =
      let y = there_at p k l in
      ap table_of (declared_at (core_of p).classes k ∙ y.1) ∙ (written_at p k y.0 y.1).table

  -- the table of a class that is directly below `object`
  first_table : (n k : ℕ) → length p.classes ≡ suc n → above p.classes k ≡ None → table p.classes k ≡ map (overridden p.classes k) [] ++ added p.classes k []
  first_table zero k size over = ap (λ l. table_along p.classes (chain_from p.classes l (Some k))) size
  first_table (suc n) k size over = ap (λ l. table_along p.classes (chain_from p.classes l (Some k))) size ∙ ap (λ o. table_along p.classes (k ∷ chain_from p.classes (suc n) o)) over

  own_of_class : (k : ℕ) → k < length p.classes → (o : Option ℕ) → above p.classes k ≡ o →
      list_all (λ e. is_method_of (4 + 2 * k) (store.body_at (core_of p) e.body)) (drop (length (store.table (core_of p).classes (number_or_object o))) (store.table (core_of p).classes (4 + 2 * k))) ≡ true
  own_of_class k l None e =
      let y = there_at p k l in
      let w = written_at p k y.0 y.1 in
      let n = length p.classes - 1 in
      let more : length p.classes ≡ suc n = omega arith in
      all_from (λ x. is_method_of (4 + 2 * k) (store.body_at (core_of p) x.body)) (drop 0 (store.table (core_of p).classes (4 + 2 * k))) (λ i x h.
      let mine = table_at k l in
      added_own p k w.tree w.there [] (first_table n k more e) i x (ap (λ es. slice_get es (0 + i)) (sym mine) ∙ sym (at_drop 0 (store.table (core_of p).classes (4 + 2 * k)) i) ∙ h))
  own_of_class k l (Some j) e =
      let y = there_at p k l in
      let w = written_at p k y.0 y.1 in
      let n = length p.classes - 1 in
      let more : length p.classes ≡ suc n = omega arith in
      let within = above_within p.classes k j e in
      let count : length (store.table (core_of p).classes (4 + 2 * j)) ≡ length (table p.classes j) = ap length (table_at j within) ∙ entries_count (resolved p) (4 + 2 * j) 0 (table p.classes j) in
      let is = table_below p.classes n k j more e (walks_end p.classes (no_cycles p faultless) k l) in
      let mine = table_at k l in
      let test = λ (x : core.EntryTree). is_method_of (4 + 2 * k) (store.body_at (core_of p) x.body) in
      ap (λ c. list_all test (drop c (store.table (core_of p).classes (4 + 2 * k)))) count
      ∙ all_from test (drop (length (table p.classes j)) (store.table (core_of p).classes (4 + 2 * k))) (λ i x h.
      added_own p k w.tree w.there (table p.classes j) is i x (ap (λ es. slice_get es (length (table p.classes j) + i)) (sym mine) ∙ sym (at_drop (length (table p.classes j)) (store.table (core_of p).classes (4 + 2 * k)) i) ∙ h))

pub have_own_methods : (p : ProgramTree) → program_faults p ≡ [] → HaveOwnMethods (core_of p)
have_own_methods p faultless t declared_there =
    let at = place_of_declared (core_of p).classes t declared_there in
    let l = at.2 in
    let s = size p in
    let within : at.0 < length p.classes = omega arith in
    let over : chain.above (core_of p).classes t ≡ number_or_object (above p.classes at.0) = ap (chain.above (core_of p).classes) at.1 ∙ up p faultless at.0 within in
    let tests = λ (u v : ℕ). list_all (λ e. is_method_of u (store.body_at (core_of p) e.body)) (drop (length (store.table (core_of p).classes v)) (store.table (core_of p).classes u)) ≡ true in
    subst (tests t) (sym over) (subst (λ u. tests u (number_or_object (above p.classes at.0))) (sym at.1) (own_of_class p faultless at.0 within (above p.classes at.0) refl))
