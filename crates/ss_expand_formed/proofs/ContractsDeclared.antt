-- The written bodies whose contracts a body of the elaboration has.
use Rattle.std.proofs.Common.{◌≡◌, ℕ, zero, suc, ◌+◌, ◌-◌, ◌*◌, ◌%◌, List, [], ◌∷◌, ◌++◌, length, map, Bool, true, false, Option, Some, None, refl, sym, ◌∙◌, ap, subst, arith, ⊎_elim}
use Rattle.std.specs.Prelude.{◌==◌, ◌&&◌, nat_le, slice_get, reverse, filter_map, option_and_then}
use Rattle.std.proofs.lemmas.Bool.{cases_Bool, eqb-true, eq-eqb, ne_eqb}
use Rattle.std.proofs.lemmas.Option.{same_Some, slice_get_within}
use Rattle.std.proofs.lemmas.List.{reverse-append}
use Rattle.ss_core.specs.declared.names.Place.{Place}
use Rattle.ss_core.specs.Tree as core
use Rattle.ss_core.specs.Chain.{is_declared, levels, below}
use Rattle.ss_ast.specs.Programs.{ClassTree, ProgramTree}
use Rattle.ss_tables.specs.Members.{methods_in, constructors_in}
use Rattle.ss_typed.specs.Tree.{BodyTree, TypedTree}
use Rattle.ss_nonnull_rules.specs.Program.{null_faults}
use Rattle.ss_owners_rules.specs.Words.{Questions, EveryWord, misplaced_in_all, misplaced_in}
use Rattle.ss_owners_rules.specs.Attributes.{on_body, bad_attributes}
use Rattle.ss_owners_rules.specs.Program as owners
use Rattle.ss_owners_rules.specs.Program.{at, misplaced_word, of_words, of_attributes, misplaced_terms, misplaced_modified, misplaced_base, misplaced_body, ownership_faults}
use Rattle.ss_resolver_names_rules.specs.Programs.{program_faults}
use Rattle.ss_resolver_types_expressions.specs.Programs.{type_faults}
use Rattle.ss_resolver_rules.specs.Numbers.{table}
use Rattle.ss_resolver_rules.specs.Programs.{constructor_body, method_body, bodies_of, bodies_from, resolved}
use Rattle.ss_expand_rules.specs.Program as program
use Rattle.ss_expand_rules.specs.Program.{method_at, table_of, is_declared_by}
use Rattle.ss_typed.specs.Lookups.{body_at}
use Rattle.ss_expand_rules.specs.Contracts.{where_declared, declared_at, declarations}
use Rattle.ss_store_rules.specs.Changes.{is_array}
use Rattle.ss_expand_formed.specs.Laws.{core_of}
use Rattle.ss_expand_formed.proofs.Facts.{none_left}
use Rattle.ss_expand_formed.proofs.Searching.{any_at}
use Rattle.ss_expand_formed.proofs.Places.{source_of, class_at}
use Rattle.ss_expand_formed.proofs.Entries.{map_from, append_from}
use Rattle.ss_expand_formed.proofs.Bodies.{of_filter_map}
use Rattle.ss_expand_formed.proofs.Resolved.{method_is, entry_is, method_declared}
use Rattle.ss_expand_formed.proofs.Levels.{levels_alike, above_stays}
use Rattle.ss_expand_formed.proofs.Headings.{SameHeading, same_heading}
use Rattle.ss_expand_formed.proofs.Inherited.{inherited_at}
use Rattle.ss_expand_formed.proofs.ContractsSources.{HasClauses, method_clauses, constructor_clauses}

-- ---- each written body has clauses without faults

module _ (p : ProgramTree) (faultless : program_faults p ≡ []) (typed_well : type_faults p ≡ []) where
  of_class : (k : ℕ) (c : ClassTree) → slice_get p.classes k ≡ Some c → (n : ℕ) (b : BodyTree) → slice_get (bodies_of p.classes k c) n ≡ Some b → HasClauses p b
  of_class k c there n b h =
      ⊎_elim
      (λ l. let q = map_from (constructor_body p.classes k) (constructors_in c.members) l.0 b l.1 in subst (HasClauses p) q.2 (constructor_clauses p faultless typed_well k c there l.0 q.0 q.1))
      (λ r. let q = map_from (method_body p.classes k) (methods_in c.members) r.0 b r.1 in subst (HasClauses p) q.2 (method_clauses p faultless typed_well k c there r.0 q.0 q.1))
      (append_from (map (constructor_body p.classes k) (constructors_in c.members)) (map (method_body p.classes k) (methods_in c.members)) n b h)

  of_classes : (j : ℕ) (cs : List ClassTree) → ((i : ℕ) (c : ClassTree) → slice_get cs i ≡ Some c → slice_get p.classes (j + i) ≡ Some c) → (n : ℕ) (b : BodyTree) → slice_get (bodies_from p.classes j cs) n ≡ Some b → HasClauses p b
  of_classes j [] there n b h = absurd (let z : ⊥ = cc in z)
  of_classes j (c ∷ cs) there n b h =
      let zero_more : j + 0 ≡ j = omega arith in
      ⊎_elim
      (λ l. of_class j c (ap (slice_get p.classes) (sym zero_more) ∙ there 0 c refl) l.0 b l.1)
      (λ r. of_classes (j + 1) cs (λ i x e. let s : j + 1 + i ≡ j + suc i = omega arith in ap (slice_get p.classes) s ∙ there (suc i) x e) r.0 b r.1)
      (append_from (bodies_of p.classes j c) (bodies_from p.classes (j + 1) cs) n b h)

  pub clauses_of : (n : ℕ) (b : BodyTree) → body_at (resolved p) n ≡ Some b → HasClauses p b
  clauses_of n b h = of_classes 0 p.classes (λ i c e. let z : 0 + i ≡ i = omega arith in ap (slice_get p.classes) z ∙ e) n b h

-- ---- its words stand where they may

pub record IsWorded (b : BodyTree) : Type 0 where
  pub entry : misplaced_in_all Questions b.entry ≡ []
  pub exit : misplaced_in_all EveryWord b.exit ≡ []
  pub modifies : misplaced_modified b.modifies ≡ []

body_worded : (b : BodyTree) → owners.body_faults b ≡ [] → IsWorded b
body_worded b h =
    let words = none_at_all (misplaced_body b) (none_left (of_attributes (bad_attributes (on_body b.flags.ctor) b.attributes) ++ owners.params_faults b.params) (of_words (misplaced_body b)) h).1 in
    let four = none_left (misplaced_in_all Questions b.entry ++ misplaced_in_all EveryWord b.exit ++ misplaced_modified b.modifies ++ misplaced_base b.base) (misplaced_in b.block) words in
    let three = none_left (misplaced_in_all Questions b.entry ++ misplaced_in_all EveryWord b.exit ++ misplaced_modified b.modifies) (misplaced_base b.base) four.0 in
    let two = none_left (misplaced_in_all Questions b.entry ++ misplaced_in_all EveryWord b.exit) (misplaced_modified b.modifies) three.0 in
    let one = none_left (misplaced_in_all Questions b.entry) (misplaced_in_all EveryWord b.exit) two.0 in
    record { entry = one.0; exit = one.1; modifies = two.1 }
  where
    none_at_all : (ps : List Place) → of_words ps ≡ [] → ps ≡ []
    none_at_all [] g = refl
    none_at_all (q ∷ ps) g = absurd (let z : ⊥ = cc in z)

bodies_worded : (bs : List BodyTree) (n : ℕ) (b : BodyTree) → owners.bodies_faults bs ≡ [] → slice_get bs n ≡ Some b → IsWorded b
bodies_worded [] n b h e = absurd (let z : ⊥ = cc in z)
bodies_worded (x ∷ bs) zero b h e = subst IsWorded (same_Some _ _ e) (body_worded x (none_left (owners.body_faults x) (owners.bodies_faults bs) h).0)
bodies_worded (x ∷ bs) (suc n) b h e = bodies_worded bs n b (none_left (owners.body_faults x) (owners.bodies_faults bs) h).1 e

pub worded : (p : TypedTree) → ownership_faults p ≡ [] → (n : ℕ) (b : BodyTree) → body_at p n ≡ Some b → IsWorded b
unfolding ownership_faults
worded p owned n b h = bodies_worded p.bodies n b (none_left (owners.classes_faults p 0 p.members) (owners.bodies_faults p.bodies) owned).1 h

-- ---- what is declared along the levels of a class

-- a declared class is no array
pub no_array : (C : List core.ClassTree) (k : ℕ) → is_array C (4 + 2 * k) ≡ false
no_array C k =
    let one = ne_eqb (4 + 2 * k) 1 (λ e. omega arith) in
    let two = ne_eqb (4 + 2 * k) 2 (λ e. omega arith) in
    let three = ne_eqb (4 + 2 * k) 3 (λ e. omega arith) in
    let odd : (4 + 2 * k - 1) % 2 ≡ 1 = odd_of k in
    let even : ((4 + 2 * k - 1) % 2 == 0) ≡ false = ne_eqb ((4 + 2 * k - 1) % 2) 0 (λ e. omega arith) in
    let front : (nat_le 4 (4 + 2 * k - 1) && (4 + 2 * k - 1) % 2 == 0) ≡ false = and_none (nat_le 4 (4 + 2 * k - 1)) ((4 + 2 * k - 1) % 2 == 0) even in
    let undeclared : is_declared C (4 + 2 * k - 1) ≡ false = ap (λ z. z && nat_le (4 + 2 * k - 1 + 1) (4 + 2 * length C)) front in
    rw (one, two, three) undeclared
  where
    odd_of : (j : ℕ) → (4 + 2 * j - 1) % 2 ≡ 1
    odd_of j = omega arith

    and_none : (a b : Bool) → b ≡ false → (a && b) ≡ false
    and_none true b h = h
    and_none false b h = refl

reverse_from : {X : Type 0} (xs : List X) (n : ℕ) (x : X) → slice_get (reverse xs) n ≡ Some x → (k : ℕ) × (slice_get xs k ≡ Some x)
reverse_from [] n x h = absurd (let z : ⊥ = cc in z)
reverse_from (y ∷ ys) n x h =
    ⊎_elim
    (λ l. let r = reverse_from ys l.0 x l.1 in (suc r.0, r.1))
    (λ r. (0, only r.0 r.1))
    (append_from (reverse ys) (y ∷ []) n x (ap (λ zs. slice_get zs n) (sym (reverse-append (y ∷ []) ys)) ∙ h))
  where
    only : (i : ℕ) → slice_get (y ∷ []) i ≡ Some x → Some y ≡ Some x
    only zero e = e
    only (suc i) e = absurd (let z : ⊥ = cc in z)

-- what a class declares at a place of its table
record IsDeclared (p : TypedTree) (t m : ℕ) (d : BodyTree) : Type 0 where
  level : ℕ
  place : ℕ
  there : slice_get (levels p.classes t) place ≡ Some level
  is : method_at p level m ≡ Some d
  class : d.class ≡ level

where_is : (u : ℕ) (o : Option BodyTree) (d : BodyTree) → where_declared u o ≡ Some d → (o ≡ Some d) × (d.class ≡ u)
where_is u None d h = absurd (let z : ⊥ = cc in z)
where_is u (Some b) d h =
    ⊎_elim
    (λ yes. let same : Some b ≡ Some d = rw yes at h in (same, ap (λ (x : BodyTree). x.class) (sym (same_Some _ _ same)) ∙ eqb-true b.class u yes))
    (λ no. absurd (let bad : None ≡ Some d = rw no at h in let z : ⊥ = cc in z))
    (cases_Bool (b.class == u))

declared_from : (p : TypedTree) (t m n : ℕ) (d : BodyTree) → slice_get (declarations p t m) n ≡ Some d → IsDeclared p t m d
declared_from p t m n d h =
    let r = reverse_from (filter_map (declared_at p m) (levels p.classes t)) n d h in
    let f = of_filter_map (declared_at p m) (levels p.classes t) r.0 d r.1 in
    let w = where_is f.was (method_at p f.was m) d f.becomes in
    record { level = f.was; place = f.place; there = f.there; is = w.0; class = w.1 }

-- a level of a class is above it
level_below : (C : List core.ClassTree) (t n u : ℕ) → slice_get (levels C t) n ≡ Some u → below C t u ≡ true
unfolding below
level_below C t n u h = any_at (λ level. level == u) (levels C t) n u h (eq-eqb u u refl)

-- ---- the declarations of a body's contract

-- d is declared for the method that the body y of the class t has the contract b of
pub record IsDeclaredFor (p : ProgramTree) (t : ℕ) (b d : BodyTree) : Type 0 where
  pub heading : SameHeading d b
  pub number : ℕ
  pub is : body_at (resolved p) number ≡ Some d
  pub under : below (core_of p).classes t d.class ≡ true

module _ (p : ProgramTree) (faultless : program_faults p ≡ []) (no_nulls : null_faults (resolved p) ≡ []) where
  headings : (b : BodyTree) (xs : List BodyTree) → ((n : ℕ) (x : BodyTree) → slice_get xs n ≡ Some x → SameHeading x b) → (n : ℕ) (x : BodyTree) → slice_get (xs ++ b ∷ []) n ≡ Some x → SameHeading x b
  headings b [] h zero x e = subst (λ z. SameHeading z b) (same_Some _ _ e) (same_heading b)
  headings b [] h (suc n) x e = absurd (let z : ⊥ = cc in z)
  headings b (z ∷ xs) h zero x e = h 0 x e
  headings b (z ∷ xs) h (suc n) x e = headings b xs (λ i w k. h (suc i) w k) n x e

  of_table : (t m : ℕ) (b : BodyTree) → method_at (resolved p) t m ≡ Some b → (n : ℕ) (d : BodyTree) → slice_get (declarations (resolved p) t m) n ≡ Some d → SameHeading d b
  of_table t m b h n d e =
      let c = method_declared (resolved p) t m b h in
      let s = source_of p t c.0 c.1 in
      let entry = entry_is (resolved p) (slice_get (program.table (resolved p) t) m) b h in
      let x = entry.0 in
      let in_table : slice_get (table p.classes s.place) m ≡ Some x = sym (ap (λ (o : Option core.ClassTree). slice_get (table_of o) m) (class_at p s.place s.tree s.there)) ∙ sym (ap (λ u. slice_get (program.table (resolved p) u) m) s.number) ∙ entry.1 in
      let i = inherited_at p faultless no_nulls s.place (slice_get_within p.classes s.place s.tree s.there) m x in_table in
      let body : body_at (resolved p) x.body ≡ Some b = sym (ap (option_and_then (λ (z : core.EntryTree). body_at (resolved p) z.body)) entry.1) ∙ h in
      let same : method_body p.classes i.class i.method ≡ b = same_Some _ _ (sym i.is ∙ body) in
      let all : slice_get (i.before ++ method_body p.classes i.class i.method ∷ []) n ≡ Some d = ap (λ ds. slice_get ds n) (sym i.declared) ∙ ap (λ u. slice_get (declarations (resolved p) u m) n) (sym s.number) ∙ e in
      subst (SameHeading d) same (headings (method_body p.classes i.class i.method) i.before (λ j y q. (i.alike j y q).0) n d all)

  pub declared_for : (t m : ℕ) (b : BodyTree) → method_at (resolved p) t m ≡ Some b → (n : ℕ) (d : BodyTree) → slice_get (declarations (resolved p) t m) n ≡ Some d → IsDeclaredFor p t b d
  declared_for t m b h n d e =
      let f = declared_from (resolved p) t m n d e in
      let at = method_is (resolved p) (slice_get (program.table (resolved p) f.level) m) d f.is in
      let same = levels_alike (resolved p).classes (core_of p).classes (above_stays p faultless) t in
      let under = level_below (core_of p).classes t f.place f.level (ap (λ ls. slice_get ls f.place) (sym same) ∙ f.there) in
      record { heading = of_table t m b h n d e; number = at.0; is = at.1; under = ap (below (core_of p).classes t) f.class ∙ under }
