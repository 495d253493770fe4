-- What stands in the tables of methods of a resolved program.
use Rattle.std.proofs.Common.{◌≡◌, ℕ, zero, suc, ◌+◌, ◌<◌, List, [], ◌∷◌, ◌++◌, length, map, true, false, Option, Some, None, refl, sym, ◌∙◌, ap, subst, arith, inl, inr, ◌⊎◌, ⊎_elim}
use Rattle.std.specs.Prelude.{not, slice_get, option_map, filter}
use Rattle.std.specs.Str.{bytes_eq}
use Rattle.std.proofs.lemmas.Slice.Eq.{bytes_eq-Decides}
use Rattle.std.proofs.lemmas.Option.{same_Some, slice_get_within, slice_get-map}
use Rattle.std.proofs.lemmas.Bool.{cases_Bool, false≢true}
use Rattle.ss_core.specs.Tree as core
use Rattle.ss_core.specs.Chain.{declared}
use Rattle.ss_ast.specs.Programs.{ClassTree, ProgramTree}
use Rattle.ss_tables.specs.Classes.{members_in, members_at, above, chain_from, chain}
use Rattle.ss_resolver_names_rules.specs.Faults.{is_listed}
use Rattle.ss_resolver_rules.specs.Numbers.{method_id, names_of, method_names, declared_entry, overridden, added, table_along, table}
use Rattle.ss_resolver_rules.specs.Programs.{resolved}
use Rattle.ss_expand_rules.specs.Program as program
use Rattle.ss_expand_rules.specs.Program.{table_of}
use Rattle.ss_expand_formed.proofs.Searching.{at_front, at_back, place_found, any_at, any-map, filtered_from, filter_keeps}
use Rattle.ss_expand_formed.proofs.Places.{source_of, named_method, IsMethod, listed_methods}

pub map_from : {X Y : Type 0} (f : X → Y) (xs : List X) (n : ℕ) (y : Y) → slice_get (map f xs) n ≡ Some y → (x : X) × (slice_get xs n ≡ Some x) × (f x ≡ y)
map_from f [] n y h = absurd (let z : ⊥ = cc in z)
map_from f (x ∷ xs) zero y h = (x, refl, same_Some _ _ h)
map_from f (x ∷ xs) (suc n) y h = map_from f xs n y h

pub append_from : {X : Type 0} (xs ys : List X) (n : ℕ) (x : X) → slice_get (xs ++ ys) n ≡ Some x → ((k : ℕ) × (slice_get xs k ≡ Some x)) ⊎ ((k : ℕ) × (slice_get ys k ≡ Some x))
append_from [] ys n x h = inr (n, h)
append_from (z ∷ xs) ys zero x h = inl (0, h)
append_from (z ∷ xs) ys (suc n) x h = ⊎_elim (λ l. inl (suc l.0, l.1)) inr (append_from xs ys n x h)

module _ (p : ProgramTree) where
  -- ---- each entry names a method

  abbrev AllMethods : List core.EntryTree → Type 0
  AllMethods es = (n : ℕ) (e : core.EntryTree) → slice_get es n ≡ Some e → IsMethod p e

  declared_is : (k : ℕ) (n : List ℕ) (o : Option ClassTree) → slice_get p.classes k ≡ o → is_listed (method_names (members_in o)) n ≡ true → IsMethod p (declared_entry p.classes k n)
  declared_is k n None is h = absurd (false≢true h)
  declared_is k n (Some c) is h =
      let r = named_method p k c is n (sym (listed_methods c.members n) ∙ h) in
      record { class = k; tree = c; method = r.0; there = is; named = r.2; is = r.3 }

  overridden_is : (k : ℕ) (e : core.EntryTree) → IsMethod p e → IsMethod p (overridden p.classes k e)
  overridden_is k e m =
      ⊎_elim
      (λ yes. rw yes (declared_is k e.name (slice_get p.classes k) refl yes))
      (λ other. rw other m)
      (cases_Bool (is_listed (method_names (members_at p.classes k)) e.name))

  added_are : (k : ℕ) (es : List core.EntryTree) → AllMethods (added p.classes k es)
  added_are k es n e h =
      let names = method_names (members_at p.classes k) in
      let test = λ (x : List ℕ). not (is_listed (names_of es) x) in
      let m = map_from (declared_entry p.classes k) (filter test names) n e h in
      let f = filtered_from test names n m.0 m.1 in
      let listed = any_at (bytes_eq m.0) names f.0 m.0 f.1 ((bytes_eq-Decides m.0 m.0).1 refl) in
      subst (IsMethod p) m.2 (declared_is k m.0 (slice_get p.classes k) refl listed)

  table_are : (ks : List ℕ) → AllMethods (table_along p.classes ks)
  table_are [] n e h = absurd (let z : ⊥ = cc in z)
  table_are (k ∷ ks) n e h =
      let up = table_along p.classes ks in
      ⊎_elim
      (λ l. let m = map_from (overridden p.classes k) up l.0 e l.1 in subst (IsMethod p) m.2 (overridden_is k m.0 (table_are ks l.0 m.0 m.1)))
      (λ r. added_are k up r.0 e r.1)
      (append_from (map (overridden p.classes k) up) (added p.classes k up) n e h)

  entry_in : (t m : ℕ) (e : core.EntryTree) (o : Option core.ClassTree) → declared (resolved p).classes t ≡ o → slice_get (table_of o) m ≡ Some e → IsMethod p e
  entry_in t m e None is h = absurd (let z : ⊥ = cc in z)
  entry_in t m e (Some c) is h =
      let s = source_of p t c is in
      table_are (chain p.classes s.place) m e (subst (λ (x : core.ClassTree). slice_get x.table m ≡ Some e) s.is h)

  pub method_entry : (t m : ℕ) (e : core.EntryTree) → slice_get (program.table (resolved p) t) m ≡ Some e → IsMethod p e
  method_entry t m e h = entry_in t m e (declared (resolved p).classes t) refl h

  -- ---- each method of a class has an entry in its table

  first_of_chain : (n k : ℕ) → 0 < n → (ks : List ℕ) × (chain_from p.classes n (Some k) ≡ k ∷ ks)
  first_of_chain zero k l = absurd (omega arith)
  first_of_chain (suc n) k l = (chain_from p.classes n (above p.classes k), refl)

  abbrev HasEntry : ℕ → List ℕ → List core.EntryTree → Type 0
  HasEntry k n es = (m : ℕ) × (e : core.EntryTree) × (slice_get es m ≡ Some e) × (e.body ≡ method_id p.classes k n)

  entry_overrides : (k : ℕ) (n : List ℕ) (up : List core.EntryTree) → is_listed (method_names (members_at p.classes k)) n ≡ true → is_listed (names_of up) n ≡ true → HasEntry k n (map (overridden p.classes k) up ++ added p.classes k up)
  entry_overrides k n up h above =
      let f = place_found (λ (e : core.EntryTree). bytes_eq n e.name) up (sym (any-map (bytes_eq n) (λ (e : core.EntryTree). e.name) up) ∙ above) in
      let same = (bytes_eq-Decides n f.it.name).0 f.passes in
      let listed : is_listed (method_names (members_at p.classes k)) f.it.name ≡ true = subst (λ (x : List ℕ). is_listed (method_names (members_at p.classes k)) x ≡ true) same h in
      let entry : overridden p.classes k f.it ≡ declared_entry p.classes k f.it.name = rw listed refl in
      let xs = map (overridden p.classes k) up in
      let there = slice_get-map (overridden p.classes k) up _ ∙ ap (option_map (overridden p.classes k)) f.there ∙ ap Some entry in
      let l = slice_get_within xs _ (declared_entry p.classes k f.it.name) there in
      (_, declared_entry p.classes k f.it.name, at_front xs (added p.classes k up) _ l ∙ there, ap (method_id p.classes k) (sym same))

  entry_added : (k : ℕ) (n : List ℕ) (up : List core.EntryTree) → is_listed (method_names (members_at p.classes k)) n ≡ true → is_listed (names_of up) n ≡ false → HasEntry k n (map (overridden p.classes k) up ++ added p.classes k up)
  entry_added k n up h above =
      let names = method_names (members_at p.classes k) in
      let test = λ (x : List ℕ). not (is_listed (names_of up) x) in
      let f = place_found (bytes_eq n) names h in
      let same = (bytes_eq-Decides n f.it).0 f.passes in
      let new : test f.it ≡ true = subst (λ (x : List ℕ). test x ≡ true) same (rw above refl) in
      let r = filter_keeps test names _ f.it f.there new in
      let xs = map (overridden p.classes k) up in
      let there = slice_get-map (declared_entry p.classes k) (filter test names) r.0 ∙ ap (option_map (declared_entry p.classes k)) r.1 in
      (length xs + r.0, declared_entry p.classes k f.it, at_back xs (added p.classes k up) r.0 ∙ there, ap (method_id p.classes k) (sym same))

  pub own_entry : (k : ℕ) (c : ClassTree) → slice_get p.classes k ≡ Some c → (n : List ℕ) → is_listed (method_names c.members) n ≡ true → HasEntry k n (table p.classes k)
  own_entry k c there n h =
      let l = slice_get_within p.classes k c there in
      let first = first_of_chain (length p.classes) k (omega arith) in
      let up = table_along p.classes first.0 in
      let listed : is_listed (method_names (members_at p.classes k)) n ≡ true = subst (λ (o : Option ClassTree). is_listed (method_names (members_in o)) n ≡ true) (sym there) h in
      subst (λ ks. HasEntry k n (table_along p.classes ks)) (sym first.1)
      (⊎_elim (entry_overrides k n up listed) (entry_added k n up listed) (cases_Bool (is_listed (names_of up) n)))
