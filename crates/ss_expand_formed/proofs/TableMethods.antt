-- The entries of a table name methods of the class and of those above it.
use Rattle.std.proofs.Common.{◌≡◌, ◌≢◌, ℕ, zero, suc, ◌+◌, ◌*◌, ◌<◌, List, [], ◌∷◌, length, map, Bool, true, false, Option, Some, None, refl, sym, ◌∙◌, ap, subst, arith, ⊎_elim}
use Rattle.std.specs.Prelude.{not, ◌==◌, slice_get, filter, option_and_then, if◌then◌else◌}
use Rattle.std.specs.List.{list_any, list_all}
use Rattle.std.specs.Str.{bytes_eq}
use Rattle.std.proofs.lemmas.Slice.Eq.{bytes_eq-Decides}
use Rattle.std.proofs.lemmas.Option.{same_Some, slice_get_within}
use Rattle.std.proofs.lemmas.Bool.{cases_Bool, or_cases, or_left, or_right, eqb-true, eq-eqb, false≢true}
use Rattle.ss_core.specs.Tree as core
use Rattle.ss_core.specs.Chain.{below}
use Rattle.ss_core.proofs.Chains.{below_self, below_up}
use Rattle.ss_core.proofs.Declared.{declared_at}
use Rattle.ss_ast.specs.Programs.{ClassTree, ProgramTree}
use Rattle.ss_tables.specs.Classes.{members_in, members_at, above, chain_from}
use Rattle.ss_typed.specs.Tree.{BodyTree, TypedTree}
use Rattle.ss_resolver_names_rules.specs.Programs.{program_faults}
use Rattle.ss_resolver_names_rules.specs.Faults.{is_listed}
use Rattle.ss_resolver_rules.specs.Numbers.{number_or_object, method_id, names_of, method_names, declared_entry, overridden, added, table_along, table}
use Rattle.ss_resolver_rules.specs.Programs.{method_body, resolved}
use Rattle.ss_expand_rules.specs.Program as program
use Rattle.ss_expand_rules.specs.Program.{method_at, Origin, Constructor, Method, is_declared_by, is_own, number_of, number_of_written, entry_number, entries_from}
use Rattle.ss_typed.specs.Lookups.{body_at}
use Rattle.ss_expand_rules.specs.Bodies.{written_body}
use Rattle.ss_store_rules.specs.Typed.{table_of}
use Rattle.ss_store_rules.specs.Typed as store
use Rattle.ss_store_rules.specs.Tables.{is_method}
use Rattle.ss_expand_formed.specs.Laws.{core_of, HaveTableMethods}
use Rattle.ss_expand_formed.proofs.Searching.{any_at, filtered_from}
use Rattle.ss_expand_formed.proofs.Places.{class_at, named_method, listed_methods}
use Rattle.ss_expand_formed.proofs.Entries.{map_from, append_from}
use Rattle.ss_expand_formed.proofs.Bodies.{IsMade, WrittenConstructor, ImplicitConstructor, WrittenMethod, Wrapper, made}
use Rattle.ss_expand_formed.proofs.Numbered.{IsOrigin, OfMethod, there, numbered}
use Rattle.ss_expand_formed.proofs.MainBody.{class_faultless, class_once, mains_one, numbered_body}
use Rattle.ss_expand_formed.proofs.ClassConstructors.{place_of_declared}
use Rattle.ss_expand_formed.proofs.Cycles.{above_within}
use Rattle.ss_expand_formed.proofs.ChainLaw.{all_from, written_at, size, there_at, up, has_chain}

-- ---- which class an entry is from

-- the entry is that of a method of a class among these
record IsEntry (cs : List ClassTree) (ks : List ℕ) (e : core.EntryTree) : Type 0 where
  class : ℕ
  tree : ClassTree
  at : slice_get cs class ≡ Some tree
  number : e.body ≡ method_id cs class e.name
  listed : is_listed (method_names tree.members) e.name ≡ true
  among : list_any (λ k. k == class) ks ≡ true

from_above : (cs : List ClassTree) (k : ℕ) (ks : List ℕ) (e : core.EntryTree) → IsEntry cs ks e → IsEntry cs (k ∷ ks) e
from_above cs k ks e x = record { class = x.class; tree = x.tree; at = x.at; number = x.number; listed = x.listed; among = or_right (k == x.class) _ x.among }

own_is : (cs : List ClassTree) (k : ℕ) (ks : List ℕ) (n : List ℕ) (o : Option ClassTree) → slice_get cs k ≡ o → is_listed (method_names (members_in o)) n ≡ true → IsEntry cs (k ∷ ks) (declared_entry cs k n)
own_is cs k ks n None is h = absurd (false≢true h)
own_is cs k ks n (Some c) is h = record { class = k; tree = c; at = is; number = refl; listed = h; among = or_left (k == k) _ (eq-eqb k k refl) }

overridden_is : (cs : List ClassTree) (k : ℕ) (ks : List ℕ) (e : core.EntryTree) → IsEntry cs ks e → IsEntry cs (k ∷ ks) (overridden cs k e)
overridden_is cs k ks e x =
    ⊎_elim
    (λ yes. rw yes (own_is cs k ks e.name (slice_get cs k) refl yes))
    (λ other. rw other (from_above cs k ks e x))
    (cases_Bool (is_listed (method_names (members_at cs k)) e.name))

entries_are : (cs : List ClassTree) (ks : List ℕ) (m : ℕ) (e : core.EntryTree) → slice_get (table_along cs ks) m ≡ Some e → IsEntry cs ks e
entries_are cs [] m e h = absurd (let z : ⊥ = cc in z)
entries_are cs (k ∷ ks) m e h =
    let over = table_along cs ks in
    let names = method_names (members_at cs k) in
    let test = λ (x : List ℕ). not (is_listed (names_of over) x) in
    ⊎_elim
    (λ l. let q = map_from (overridden cs k) over l.0 e l.1 in subst (IsEntry cs (k ∷ ks)) q.2 (overridden_is cs k ks q.0 (entries_are cs ks l.0 q.0 q.1)))
    (λ r. let q = map_from (declared_entry cs k) (filter test names) r.0 e r.1 in
    let f = filtered_from test names r.0 q.0 q.1 in
    subst (IsEntry cs (k ∷ ks)) q.2 (own_is cs k ks q.0 (slice_get cs k) refl (any_at (bytes_eq q.0) names f.0 q.0 f.1 ((bytes_eq-Decides q.0 q.0).1 refl))))
    (append_from (map (overridden cs k) over) (added cs k over) m e h)

-- ---- what an entry of the elaboration names

pub made_is : (p : TypedTree) (t m : ℕ) (b : BodyTree) → method_at p t m ≡ Some b → b.flags.ctor ≡ false → (o : Origin) → o ≡ Method t m → (y : core.BodyTree) → IsMade p o y → (y.name ≡ b.name) × (y.flags.ctor ≡ false) × (y.class ≡ t)
made_is p t m b h method o is y (WrittenConstructor eo em en eb) = absurd (let e : Constructor _ ≡ Method t m = sym eo ∙ is in let z : ⊥ = cc in z)
made_is p t m b h method o is y (ImplicitConstructor eo ec em none) = absurd (let e : Constructor _ ≡ Method t m = sym eo ∙ is in let z : ⊥ = cc in z)
made_is p t m b h method o is y (WrittenMethod {t = u} {m = n} {b = x} eo eb own) =
    let e : Method u n ≡ Method t m = sym eo ∙ is in
    let tu : u ≡ t = cc in
    let mn : n ≡ m = cc in
    let same : x ≡ b = same_Some _ _ (sym eb ∙ ap (λ k. method_at p k n) tu ∙ ap (method_at p t) mn ∙ h) in
    (ap (λ (z : BodyTree). z.name) same, ap (λ (z : BodyTree). z.flags.ctor) same ∙ method, eqb-true x.class u own ∙ tu)
made_is p t m b h method o is y (Wrapper {t = u} {m = n} {b = x} eo eb own em) =
    let e : Method u n ≡ Method t m = sym eo ∙ is in
    let tu : u ≡ t = cc in
    let mn : n ≡ m = cc in
    let same : x ≡ b = same_Some _ _ (sym eb ∙ ap (λ k. method_at p k n) tu ∙ ap (method_at p t) mn ∙ h) in
    (ap (λ (z : BodyTree). z.name) same, refl, tu)

-- a body of this name that is no constructor, of the class or of one above it
names_method : (cs : List core.ClassTree) (t : ℕ) (e : core.EntryTree) (y : core.BodyTree) → y.name ≡ e.name → y.flags.ctor ≡ false → below cs t y.class ≡ true → is_method cs t e (Some y) ≡ true
names_method cs t e y name method under = rw (name, (bytes_eq-Decides e.name e.name).1 refl, method, under) refl

pub entries_from_is : (p : TypedTree) (t j : ℕ) (es : List core.EntryTree) (m : ℕ) (x : core.EntryTree) → slice_get (entries_from p t j es) m ≡ Some x → (e : core.EntryTree) × (slice_get es m ≡ Some e) × (x ≡ record { name = e.name; body = entry_number p t (j + m) e.body })
entries_from_is p t j [] m x h = absurd (let z : ⊥ = cc in z)
entries_from_is p t j (e ∷ es) zero x h = let z : j + 0 ≡ j = omega arith in (e, refl, rw z (sym (same_Some _ _ h)))
entries_from_is p t j (e ∷ es) (suc m) x h = let s : j + suc m ≡ j + 1 + m = omega arith in let r = entries_from_is p t (j + 1) es m x h in (r.0, r.1, rw s r.2)

module _ (p : ProgramTree) (faultless : program_faults p ≡ []) where
  no_chain : (n j : ℕ) → list_any (λ x. x == j) (chain_from p.classes n None) ≡ true → ⊥
  no_chain zero j h = false≢true h
  no_chain (suc n) j h = false≢true h

  -- the classes of a chain are above its first
  chain_below : (n s j : ℕ) → s < length p.classes → list_any (λ x. x == j) (chain_from p.classes n (Some s)) ≡ true → below (core_of p).classes (4 + 2 * s) (4 + 2 * j) ≡ true
  chain_below zero s j l h = absurd (false≢true h)
  chain_below (suc n) s j l h =
      let nz : 4 + 2 * s ≢ 0 = omega arith in
      ⊎_elim
      (λ here. ap (λ k. below (core_of p).classes (4 + 2 * s) (4 + 2 * k)) (sym (eqb-true s j here)) ∙ below_self (core_of p).classes (4 + 2 * s))
      (λ further. below_up (core_of p).classes (has_chain p faultless) (4 + 2 * s) (4 + 2 * j) nz
      ∙ or_right (4 + 2 * s == 4 + 2 * j) _ (ap (λ u. below (core_of p).classes u (4 + 2 * j)) (up p faultless s l) ∙ next (above p.classes s) refl (λ k m g. chain_below n k j m g) further))
      (or_cases (s == j) (list_any (λ x. x == j) (chain_from p.classes n (above p.classes s))) h)
    where
      next : (o : Option ℕ) → above p.classes s ≡ o → ((k : ℕ) → k < length p.classes → list_any (λ x. x == j) (chain_from p.classes n (Some k)) ≡ true → below (core_of p).classes (4 + 2 * k) (4 + 2 * j) ≡ true) →
          list_any (λ x. x == j) (chain_from p.classes n o) ≡ true → below (core_of p).classes (number_or_object o) (4 + 2 * j) ≡ true
      next None e further g = absurd (no_chain n j g)
      next (Some k) e further g = further k (above_within p.classes s k e) g

  entry_is_method : (k : ℕ) (c : ClassTree) → slice_get p.classes k ≡ Some c → (m : ℕ) (e : core.EntryTree) → slice_get (table p.classes k) m ≡ Some e →
      is_method (core_of p).classes (4 + 2 * k) e (store.body_at (core_of p) (entry_number (resolved p) (4 + 2 * k) m e.body)) ≡ true
  entry_is_method k c at m e h =
      let t = 4 + 2 * k in
      let cs = (core_of p).classes in
      let x = entries_are p.classes (chain_from p.classes (length p.classes) (Some k)) m e h in
      let r = named_method p x.class x.tree x.at e.name (sym (listed_methods x.tree.members e.name) ∙ x.listed) in
      let b = method_body p.classes x.class r.0 in
      let same : e.name ≡ r.0.name.text = (bytes_eq-Decides e.name r.0.name.text).0 r.2 in
      let body : body_at (resolved p) e.body ≡ Some b = ap (body_at (resolved p)) x.number ∙ r.3 in
      let d = class_at p k c at in
      let in_table : slice_get (program.table (resolved p) t) m ≡ Some e = ap (λ (o : Option core.ClassTree). slice_get (table_of o) m) d ∙ h in
      let method : method_at (resolved p) t m ≡ Some b = ap (option_and_then (λ (z : core.EntryTree). body_at (resolved p) z.body)) in_table ∙ body in
      let l = slice_get_within p.classes k c at in
      let choice = λ (z : Bool). is_method cs t e (store.body_at (core_of p) (if z then number_of (resolved p) (Method t m) else number_of_written (resolved p) e.body)) in
      ⊎_elim
      (λ own.
      let origin : IsOrigin (resolved p) (Method t m) = OfMethod {t = t} {m = m} {e = e} d in_table own in
      let y = there p (Method t m) origin in
      let facts = made_is (resolved p) t m b method refl (Method t m) refl y.0 (made (resolved p) (Method t m) y.0 y.1) in
      ap choice own ∙ ap (is_method cs t e) (numbered p (Method t m) origin ∙ y.1)
      ∙ names_method cs t e y.0 (facts.0 ∙ sym same) facts.1 (ap (below cs t) facts.2 ∙ below_self cs t))
      (λ other.
      let zero_more : 0 + x.class ≡ x.class = omega arith in
      let once = class_once p.classes (0 + x.class) x.tree (class_faultless p.classes 0 p.classes x.class x.tree (mains_one p faultless).1 x.at) in
      let q = numbered_body p x.class x.tree x.at r.0 _ r.1 once in
      let number : number_of_written (resolved p) e.body ≡ number_of_written (resolved p) (method_id p.classes x.class r.0.name.text) = ap (number_of_written (resolved p)) (x.number ∙ ap (method_id p.classes x.class) same) in
      ap choice other ∙ ap (is_method cs t e) (ap (store.body_at (core_of p)) number ∙ q.1)
      ∙ names_method cs t e (written_body (resolved p) b q.0) (sym same) refl (chain_below (length p.classes) k x.class l x.among))
      (cases_Bool (is_own t (body_at (resolved p) e.body)))

  table_methods : (k : ℕ) → k < length p.classes → list_all (λ e. is_method (core_of p).classes (4 + 2 * k) e (store.body_at (core_of p) e.body)) (store.table (core_of p).classes (4 + 2 * k)) ≡ true
  table_methods k l =
      let y = there_at p k l in
      let w = written_at p k y.0 y.1 in
      let test = λ (e : core.EntryTree). is_method (core_of p).classes (4 + 2 * k) e (store.body_at (core_of p) e.body) in
      let is : store.table (core_of p).classes (4 + 2 * k) ≡ entries_from (resolved p) (4 + 2 * k) 0 (table p.classes k) = ap table_of (declared_at (core_of p).classes k ∙ y.1) ∙ w.table in
      ap (list_all test) is
      ∙ all_from test (entries_from (resolved p) (4 + 2 * k) 0 (table p.classes k)) (λ m x h.
      let r = entries_from_is (resolved p) (4 + 2 * k) 0 (table p.classes k) m x h in
      let z : 0 + m ≡ m = omega arith in
      ap test r.2 ∙ ap (λ i. is_method (core_of p).classes (4 + 2 * k) r.0 (store.body_at (core_of p) (entry_number (resolved p) (4 + 2 * k) i r.0.body))) z ∙ entry_is_method k w.tree w.there m r.0 r.1)

pub have_table_methods : (p : ProgramTree) → program_faults p ≡ [] → HaveTableMethods (core_of p)
have_table_methods p faultless t declared_there =
    let at = place_of_declared (core_of p).classes t declared_there in
    let l = at.2 in
    let s = size p in
    subst (λ u. list_all (λ e. is_method (core_of p).classes u e (store.body_at (core_of p) e.body)) (store.table (core_of p).classes u) ≡ true) (sym at.1) (table_methods p faultless at.0 (omega arith))
