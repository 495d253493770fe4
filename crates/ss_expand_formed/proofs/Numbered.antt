-- The numbers of the bodies of an elaborated program.
use Rattle.std.proofs.Common.{◌≡◌, ℕ, zero, suc, ◌+◌, ◌*◌, List, [], ◌∷◌, Bool, true, Option, Some, None, refl, sym, ◌∙◌, ap, subst, arith, ⊎_elim}
use Rattle.std.specs.Prelude.{◌==◌, slice_get, option_map, option_and_then, if◌then◌else◌}
use Rattle.std.specs.List.{list_any}
use Rattle.std.proofs.lemmas.Option.{same_Some}
use Rattle.std.proofs.lemmas.Bool.{cases_Bool, or_left, or_right, and_parts, eqb-true, eq-eqb, false≢true}
use Rattle.std.proofs.lemmas.List.Folds.{list_any-append}
use Rattle.ss_core.specs.Tree as core
use Rattle.ss_core.specs.Chain.{declared}
use Rattle.ss_core.proofs.Declared.{declared_at, declared_place}
use Rattle.ss_ast.specs.Programs.{ClassTree, ProgramTree}
use Rattle.ss_tables.specs.Members.{ConstructorTree, constructors_in}
use Rattle.ss_typed.specs.Tree.{BodyTree, TypedTree}
use Rattle.ss_resolver_rules.specs.Programs.{constructor_body, written_constructor, class, members, resolved}
use Rattle.ss_expand_rules.specs.Program.{table, method_at, Origin, Constructor, Method, is_declared_by, is_own, methods_from, bodies_of_class, bodies_from, bodies, same_origin, number_of}
use Rattle.ss_typed.specs.Lookups.{body_at, constructor_in, constructor_of, members_of}
use Rattle.ss_expand_rules.specs.Constructors.{implicit_constructor}
use Rattle.ss_expand_rules.specs.Contracts.{declarations}
use Rattle.ss_expand_rules.specs.Bodies.{written_body, wrapper_body}
use Rattle.ss_expand_rules.specs.Elaborated.{implicit_in, or_implicit, constructor_alone, wrapper_at, method_body as elaborated_method, body_of, elaborated}
use Rattle.ss_expand_formed.proofs.Searching.{place_found, filter_map_whole}
use Rattle.ss_expand_formed.proofs.Places.{source_of, members_at, class_at, constructor_at}
use Rattle.ss_expand_formed.proofs.Entries.{append_from}

-- ---- origins

-- what the elaboration has a body for: a declared class, or a method of its table that it has a body for
pub data IsOrigin (p : TypedTree) : Origin → Type 0 where
  OfClass : {t : ℕ} {c : core.ClassTree} → declared p.classes t ≡ Some c → IsOrigin p (Constructor t)
  OfMethod : {t m : ℕ} {c : core.ClassTree} {e : core.EntryTree} → declared p.classes t ≡ Some c → slice_get (table p t) m ≡ Some e → is_own t (body_at p e.body) ≡ true → IsOrigin p (Method t m)

module _ (p : TypedTree) where
  method_here : (t : ℕ) (c : core.ClassTree) → declared p.classes t ≡ Some c → (j : ℕ) (e : core.EntryTree) → slice_get (table p t) j ≡ Some e → is_own t (body_at p e.body) ≡ true → (os : List Origin) (o : Origin) → ((n : ℕ) → slice_get os n ≡ Some o → IsOrigin p o) →
      (n : ℕ) → slice_get (Method t j ∷ os) n ≡ Some o → IsOrigin p o
  method_here t c d j e here own os o rest zero h = subst (IsOrigin p) (same_Some _ _ h) (OfMethod d here own)
  method_here t c d j e here own os o rest (suc n) h = rest n h

  methods_are : (t : ℕ) (c : core.ClassTree) → declared p.classes t ≡ Some c → (j : ℕ) (es : List core.EntryTree) → ((i : ℕ) (e : core.EntryTree) → slice_get es i ≡ Some e → slice_get (table p t) (j + i) ≡ Some e) →
      (n : ℕ) (o : Origin) → slice_get (methods_from p t j es) n ≡ Some o → IsOrigin p o
  methods_are t c d j [] in_table n o h = absurd (let z : ⊥ = cc in z)
  methods_are t c d j (e ∷ es) in_table n o h =
      let zero_more : j + 0 ≡ j = omega arith in
      let here : slice_get (table p t) j ≡ Some e = subst (λ i. slice_get (table p t) i ≡ Some e) zero_more (in_table 0 e refl) in
      ⊎_elim
      (λ own. method_here t c d j e here own (methods_from p t (j + 1) es) o (λ k g. methods_are t c d (j + 1) es (λ i x w. let s : j + 1 + i ≡ j + suc i = omega arith in rw s (in_table (suc i) x w)) k o g) n (rw own at h))
      (λ other. methods_are t c d (j + 1) es (λ i x w. let s : j + 1 + i ≡ j + suc i = omega arith in rw s (in_table (suc i) x w)) n o (rw other at h))
      (cases_Bool (is_own t (body_at p e.body)))

  class_are : (t : ℕ) (c : core.ClassTree) → declared p.classes t ≡ Some c → (n : ℕ) (o : Origin) → slice_get (bodies_of_class p t) n ≡ Some o → IsOrigin p o
  class_are t c d zero o h = subst (IsOrigin p) (same_Some _ _ h) (OfClass d)
  class_are t c d (suc n) o h = methods_are t c d 0 (table p t) (λ i e k. let z : 0 + i ≡ i = omega arith in rw z k) n o h

  bodies_are : (u : ℕ) (cs : List core.ClassTree) → ((i : ℕ) (c : core.ClassTree) → slice_get cs i ≡ Some c → declared p.classes (u + 2 * i) ≡ Some c) → (n : ℕ) (o : Origin) → slice_get (bodies_from p u cs) n ≡ Some o → IsOrigin p o
  bodies_are u [] all n o h = absurd (let z : ⊥ = cc in z)
  bodies_are u (c ∷ cs) all n o h =
      let z : u + 2 * 0 ≡ u = omega arith in
      ⊎_elim
      (λ l. class_are u c (subst (λ t. declared p.classes t ≡ Some c) z (all 0 c refl)) l.0 o l.1)
      (λ r. bodies_are (u + 2) cs (λ i x k. let s : u + 2 + 2 * i ≡ u + 2 * suc i = omega arith in rw s (all (suc i) x k)) r.0 o r.1)
      (append_from (bodies_of_class p u) (bodies_from p (u + 2) cs) n o h)

  pub origin_is : (n : ℕ) (o : Origin) → slice_get (bodies p) n ≡ Some o → IsOrigin p o
  origin_is n o h = bodies_are 4 p.classes (λ i c k. declared_at p.classes i ∙ k) n o h

  -- ---- and of each of these

  methods_listed : (t j : ℕ) (es : List core.EntryTree) (i : ℕ) (e : core.EntryTree) → slice_get es i ≡ Some e → is_own t (body_at p e.body) ≡ true → list_any (same_origin (Method t (j + i))) (methods_from p t j es) ≡ true
  methods_listed t j [] i e h own = absurd (let z : ⊥ = cc in z)
  methods_listed t j (x ∷ es) zero e h own =
      let z : j + 0 ≡ j = omega arith in
      let own' : is_own t (body_at p x.body) ≡ true = ap (λ (y : core.EntryTree). is_own t (body_at p y.body)) (same_Some _ _ h) ∙ own in
      rw (own', z, eq-eqb t t refl, eq-eqb j j refl) refl
  methods_listed t j (x ∷ es) (suc i) e h own =
      let s : j + suc i ≡ j + 1 + i = omega arith in
      let rest = methods_listed t (j + 1) es i e h own in
      rw s
      (⊎_elim
      (λ yes. rw yes (or_right (same_origin (Method t (j + 1 + i)) (Method t j)) _ rest))
      (λ other. rw other rest)
      (cases_Bool (is_own t (body_at p x.body))))

  class_listed : (o : Origin) (u : ℕ) (cs : List core.ClassTree) (i : ℕ) (c : core.ClassTree) → slice_get cs i ≡ Some c → list_any (same_origin o) (bodies_of_class p (u + 2 * i)) ≡ true → list_any (same_origin o) (bodies_from p u cs) ≡ true
  class_listed o u [] i c h any = absurd (let z : ⊥ = cc in z)
  class_listed o u (x ∷ cs) zero c h any =
      let z : u + 2 * 0 ≡ u = omega arith in
      list_any-append (same_origin o) (bodies_of_class p u) (bodies_from p (u + 2) cs) ∙ or_left _ _ (subst (λ t. list_any (same_origin o) (bodies_of_class p t) ≡ true) z any)
  class_listed o u (x ∷ cs) (suc i) c h any =
      let s : u + 2 * suc i ≡ u + 2 + 2 * i = omega arith in
      list_any-append (same_origin o) (bodies_of_class p u) (bodies_from p (u + 2) cs)
      ∙ or_right (list_any (same_origin o) (bodies_of_class p u)) _ (class_listed o (u + 2) cs i c h (subst (λ t. list_any (same_origin o) (bodies_of_class p t) ≡ true) s any))

  pub listed : (o : Origin) → IsOrigin p o → list_any (same_origin o) (bodies p) ≡ true
  listed (Constructor t) (OfClass {c = c} d) =
      let at = declared_place p.classes t c d in
      class_listed (Constructor t) 4 p.classes at.0 c at.2 (subst (λ u. list_any (same_origin (Constructor t)) (bodies_of_class p u) ≡ true) at.1 (or_left (t == t) _ (eq-eqb t t refl)))
  listed (Method t m) (OfMethod {c = c} {e = e} d there own) =
      let at = declared_place p.classes t c d in
      let z : 0 + m ≡ m = omega arith in
      let any = subst (λ n. list_any (same_origin (Method t n)) (methods_from p t 0 (table p t)) ≡ true) z (methods_listed t 0 (table p t) m e there own) in
      class_listed (Method t m) 4 p.classes at.0 c at.2 (subst (λ u. list_any (same_origin (Method t m)) (bodies_of_class p u) ≡ true) at.1 (or_right (same_origin (Method t m) (Constructor t)) _ any))

pub same_is : (o x : Origin) → same_origin o x ≡ true → x ≡ o
same_is (Constructor t) (Constructor u) h = ap Constructor (sym (eqb-true t u h))
same_is (Constructor t) (Method u m) h = absurd (false≢true h)
same_is (Method t m) (Constructor u) h = absurd (false≢true h)
same_is (Method t m) (Method u n) h =
    let both = and_parts (t == u) (m == n) h in
    ap (λ k. Method k n) (sym (eqb-true t u both.0)) ∙ ap (Method t) (sym (eqb-true m n both.1))

-- ---- each of them has a body

module _ (p : ProgramTree) where
  abbrev IsThere : Origin → Type 0
  IsThere o = (y : core.BodyTree) × (body_of (resolved p) o ≡ Some y)

  constructor_there : (s : ℕ) (c : ClassTree) → slice_get p.classes s ≡ Some c → (ds : List ConstructorTree) → constructors_in c.members ≡ ds → IsThere (Constructor (4 + 2 * s))
  constructor_there s c there [] is =
      let t = 4 + 2 * s in
      let m = members_at p s c there in
      let none : constructor_of (resolved p) t ≡ None = ap (constructor_in (resolved p)) m ∙ ap (λ (xs : List ConstructorTree). option_and_then (body_at (resolved p)) (written_constructor p.classes s xs)) is in
      let implied : or_implicit (resolved p) t None ≡ Some (implicit_constructor t (class p.classes s c).name (members p.classes s c).place) =
      ap (λ (o : Option core.ClassTree). implicit_in t o (members_of (resolved p) t)) (class_at p s c there) ∙ ap (implicit_in t (Some (class p.classes s c))) m in (
        constructor_alone (resolved p) (implicit_constructor t (class p.classes s c).name (members p.classes s c).place),
        ap (λ (o : Option BodyTree). option_map (constructor_alone (resolved p)) (or_implicit (resolved p) t o)) none ∙ ap (option_map (constructor_alone (resolved p))) implied,
      )
  constructor_there s c there (x ∷ ds) is =
      let t = 4 + 2 * s in
      let m = members_at p s c there in
      let one : constructor_of (resolved p) t ≡ Some (constructor_body p.classes s x) = ap (constructor_in (resolved p)) m ∙ ap (λ (xs : List ConstructorTree). option_and_then (body_at (resolved p)) (written_constructor p.classes s xs)) is ∙ constructor_at p s c there x ds is in
      (constructor_alone (resolved p) (constructor_body p.classes s x), ap (λ (o : Option BodyTree). option_map (constructor_alone (resolved p)) (or_implicit (resolved p) t o)) one)

  method_there : (t m : ℕ) (s : ℕ) (c : ClassTree) (e : core.EntryTree) → t ≡ 4 + 2 * s → slice_get p.classes s ≡ Some c → slice_get (table (resolved p) t) m ≡ Some e → (b : Option BodyTree) → body_at (resolved p) e.body ≡ b → is_own t b ≡ true → IsThere (Method t m)
  method_there t m s c e n there h None eb own = absurd (false≢true own)
  method_there t m s c e n there h (Some b) eb own =
      let members : members_of (resolved p) t ≡ Some (members p.classes s c) = ap (members_of (resolved p)) n ∙ members_at p s c there in
      let at : method_at (resolved p) t m ≡ Some b = ap (option_and_then (λ (z : core.EntryTree). body_at (resolved p) z.body)) h ∙ eb in
      let whole = written_body (resolved p) b (declarations (resolved p) t m) in
      let called : body_of (resolved p) (Method t m) ≡ elaborated_method (resolved p) t m b = ap (option_and_then (elaborated_method (resolved p) t m)) at in
      let choice = λ (x : Bool). if x then Some whole else wrapper_at (resolved p) t m b (members_of (resolved p) t) in
      ⊎_elim
      (λ yes. (whole, called ∙ ap choice yes))
      (λ other. (wrapper_body (resolved p) c.name.place t m b (declarations (resolved p) t m), called ∙ ap choice other ∙ ap (wrapper_at (resolved p) t m b) members))
      (cases_Bool (is_declared_by t (Some b)))

  pub there : (o : Origin) → IsOrigin (resolved p) o → IsThere o
  there (Constructor t) (OfClass {c = c} d) = let s = source_of p t c d in subst (λ u. IsThere (Constructor u)) (sym s.number) (constructor_there s.place s.tree s.there (constructors_in s.tree.members) refl)
  there (Method t m) (OfMethod {c = c} {e = e} d h own) = let s = source_of p t c d in method_there t m s.place s.tree e s.number s.there h (body_at (resolved p) e.body) refl own

  -- the body of an origin stands at its number
  pub numbered : (o : Origin) → IsOrigin (resolved p) o → slice_get (elaborated (resolved p)).bodies (number_of (resolved p) o) ≡ body_of (resolved p) o
  numbered o is =
      let f = place_found (same_origin o) (bodies (resolved p)) (listed (resolved p) o is) in
      let same = same_is o f.it f.passes in
      filter_map_whole (body_of (resolved p)) (bodies (resolved p)) (λ n x h. there x (origin_is (resolved p) n x h)) _ o (f.there ∙ ap Some same)
