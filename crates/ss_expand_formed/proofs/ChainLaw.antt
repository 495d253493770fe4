-- The chain of classes of an elaborated program ends in `object`, and its numbers are in range.
use Rattle.std.proofs.Common.{◌≡◌, ◌≢◌, ℕ, zero, suc, ◌+◌, ◌*◌, ◌<◌, List, [], ◌∷◌, ◌++◌, length, map, Bool, true, false, Option, Some, None, refl, sym, ◌∙◌, ap, subst, arith, ⊎_elim}
use Rattle.std.specs.Prelude.{◌==◌, slice_get, unwrap_or, if◌then◌else◌}
use Rattle.std.specs.List.{list_all}
use Rattle.std.proofs.lemmas.Option.{same_Some, slice_get_within}
use Rattle.std.proofs.lemmas.Bool.{cases_Bool, cases_eq, eq-eqb, ne_eqb, or_right, lt-ltb}
use Rattle.std.proofs.lemmas.List.Folds.{list_all-append}
use Rattle.std.proofs.lemmas.List.{map-append}
use Rattle.ss_core.specs.declared.names.Place.{Place}
use Rattle.ss_core.specs.declared.names.Ty.TheVariants as ty
use Rattle.ss_core.specs.Tree as core
use Rattle.ss_core.specs.Chain as chain
use Rattle.ss_core.specs.Chain.{is_declared, declared, below, is_class, is_superclass, is_type, has_numbers, IsChain, NoAlso}
use Rattle.ss_core.proofs.Declared.{declared_at, declared_place, above_undeclared}
use Rattle.ss_core.proofs.Levels.{passes, passes_here, passes_above, below-passes}
use Rattle.ss_ast.specs.declared.class.Modifier.{Modifier}
use Rattle.ss_ast.specs.Expressions.{NameTree, TypeTree, TypeNameTree, IntType, BoolType, ObjectType, ClassType}
use Rattle.ss_ast.specs.Statements.{DeclaratorTree}
use Rattle.ss_ast.specs.Programs.{MemberKindTree, FieldsOf, InvariantOf, MethodOf, ConstructorOf, MemberTree, ClassTree, ProgramTree}
use Rattle.ss_tables.specs.Members.{declared_field, fields_of_kind, fields_in, methods_in, constructors_in}
use Rattle.ss_tables.specs.Classes.{class_named, above_written, above_in, above, steps_above}
use Rattle.ss_tables.specs.Types.{array_type, named_type}
use Rattle.ss_tables.specs.Scopes.{class_scope}
use Rattle.ss_typed.specs.Tree.{TypedTree}
use Rattle.ss_core.specs.declared.rules.Rule.TheVariants as rule
use Rattle.ss_resolver_names_rules.specs.Faults.{fault, twice_among, type_name_faults, type_faults, class_faults}
use Rattle.ss_resolver_names_rules.specs.Members.{member_names, constructor_faults, override_faults, initials_faults, kind_faults, members_faults}
use Rattle.ss_resolver_names_rules.specs.Programs.{most_levels, depth_faults, above_faults, is_first_of_cycle, fields_faults, methods_faults, bodies_faults, class_faults_of, program_faults}
use Rattle.ss_resolver_rules.specs.Numbers.{number_or_object, type_id, table}
use Rattle.ss_resolver_rules.specs.Programs.{field, class, resolved}
use Rattle.ss_expand_rules.specs.Program.{entries_from}
use Rattle.ss_expand_rules.specs.Elaborated.{class_of, classes_from}
use Rattle.ss_expand_formed.specs.Laws.{core_of}
use Rattle.ss_expand_formed.proofs.Facts.{none_left}
use Rattle.ss_expand_formed.proofs.Resolved.{each_length, classes_length, number_declared}
use Rattle.ss_expand_formed.proofs.Places.{each_is}
use Rattle.ss_expand_formed.proofs.MainBody.{class_faultless, mains_one}
use Rattle.ss_expand_formed.proofs.Cycles.{named_within, above_within, above_from, walks_end}

-- ---- the classes of the elaboration

classes_at : (p : TypedTree) (u : ℕ) (cs : List core.ClassTree) (i : ℕ) (c : core.ClassTree) → slice_get cs i ≡ Some c → slice_get (classes_from p u cs) i ≡ Some (class_of p (u + 2 * i) c)
classes_at p u [] i c h = absurd (let z : ⊥ = cc in z)
classes_at p u (x ∷ cs) zero c h = let e : u + 2 * 0 ≡ u = omega arith in rw e (ap (λ y. Some (class_of p u y)) (same_Some _ _ h))
classes_at p u (x ∷ cs) (suc i) c h = let e : u + 2 * suc i ≡ u + 2 + 2 * i = omega arith in rw e (classes_at p (u + 2) cs i c h)

classes_are : (p : TypedTree) (u : ℕ) (cs : List core.ClassTree) (i : ℕ) (y : core.ClassTree) → slice_get (classes_from p u cs) i ≡ Some y → (c : core.ClassTree) × (slice_get cs i ≡ Some c) × (y ≡ class_of p (u + 2 * i) c)
classes_are p u [] i y h = absurd (let z : ⊥ = cc in z)
classes_are p u (x ∷ cs) zero y h = let e : u + 2 * 0 ≡ u = omega arith in (x, refl, rw e (sym (same_Some _ _ h)))
classes_are p u (x ∷ cs) (suc i) y h = let e : u + 2 * suc i ≡ u + 2 + 2 * i = omega arith in let r = classes_are p (u + 2) cs i y h in (r.0, r.1, rw e r.2)

-- what stands at a place of the classes of the elaboration, for a class of the source
pub record IsWritten (p : ProgramTree) (k : ℕ) (y : core.ClassTree) : Type 0 where
  pub tree : ClassTree
  pub there : slice_get p.classes k ≡ Some tree
  pub above : y.above ≡ number_or_object (above p.classes k)
  pub also : y.also ≡ []
  pub fields : y.fields ≡ map (field p.classes) (fields_in tree.members)
  pub table : y.table ≡ entries_from (resolved p) (4 + 2 * k) 0 (table p.classes k)

pub written_at : (p : ProgramTree) (k : ℕ) (y : core.ClassTree) → slice_get (core_of p).classes k ≡ Some y → IsWritten p k y
written_at p k y h =
    let r = classes_are (resolved p) 4 (resolved p).classes k y h in
    let q = each_is (class p.classes) 0 p.classes k r.0 r.1 in
    let z : 0 + k ≡ k = omega arith in
    let is : y ≡ class_of (resolved p) (4 + 2 * k) (class p.classes k q.0) = r.2 ∙ ap (class_of (resolved p) (4 + 2 * k)) (q.2 ∙ ap (λ n. class p.classes n q.0) z) in
    record { tree = q.0; there = q.1; above = ap (λ (x : core.ClassTree). x.above) is; also = ap (λ (x : core.ClassTree). x.also) is; fields = ap (λ (x : core.ClassTree). x.fields) is; table = ap (λ (x : core.ClassTree). x.table) is }

pub size : (p : ProgramTree) → length (core_of p).classes ≡ length p.classes
size p = classes_length (resolved p) 4 (resolved p).classes ∙ each_length (class p.classes) 0 p.classes

some_at : {X : Type 0} (xs : List X) (k : ℕ) → k < length xs → (x : X) × (slice_get xs k ≡ Some x)
some_at [] k l = absurd (omega arith)
some_at (x ∷ xs) zero l = (x, refl)
some_at (x ∷ xs) (suc k) l = some_at xs k (omega arith)

pub there_at : (p : ProgramTree) (k : ℕ) → k < length p.classes → (y : core.ClassTree) × (slice_get (core_of p).classes k ≡ Some y)
there_at p k l = let a = size p in some_at (core_of p).classes k (omega arith)

-- ---- faults of names

-- what a class has no faults of
pub record HasNone (all : List ClassTree) (k : ℕ) (c : ClassTree) : Type 0 where
  pub depth : depth_faults all k c ≡ []
  pub above : above_faults all k c.above ≡ []
  pub members : members_faults (class_scope all k) c.members ≡ []

has_none : (all : List ClassTree) (k : ℕ) (c : ClassTree) → class_faults_of all k c ≡ [] → HasNone all k c
has_none all k c h =
    let one = depth_faults all k c ++ above_faults all k c.above in
    let two = one ++ twice_among [] (member_names c.members) in
    let three = two ++ constructor_faults (constructors_in c.members) in
    let four = three ++ fields_faults all k c in
    let five = four ++ methods_faults (methods_in c.members) in
    let six = five ++ override_faults all k (methods_in c.members) in
    let seven = six ++ members_faults (class_scope all k) c.members in
    let h7 = (none_left seven (bodies_faults all k c) h).0 in
    let members = none_left six (members_faults (class_scope all k) c.members) h7 in
    let h5 = (none_left five (override_faults all k (methods_in c.members)) members.0).0 in
    let h4 = (none_left four (methods_faults (methods_in c.members)) h5).0 in
    let h3 = (none_left three (fields_faults all k c) h4).0 in
    let h2 = (none_left two (constructor_faults (constructors_in c.members)) h3).0 in
    let h1 = (none_left one (twice_among [] (member_names c.members)) h2).0 in
    let first = none_left (depth_faults all k c) (above_faults all k c.above) h1 in
    record { depth = first.0; above = first.1; members = members.1 }

pub none_at : (p : ProgramTree) → program_faults p ≡ [] → (k : ℕ) (c : ClassTree) → slice_get p.classes k ≡ Some c → HasNone p.classes k c
none_at p h k c there =
    let z : 0 + k ≡ k = omega arith in
    has_none p.classes k c (subst (λ n. class_faults_of p.classes n c ≡ []) z (class_faultless p.classes 0 p.classes k c (mains_one p h).1 there))

not_first : (cs : List ClassTree) (j y : ℕ) (o : Option NameTree) → above_faults cs j o ≡ [] → above_written cs o ≡ Some y → is_first_of_cycle cs j ≡ false
not_first cs j y None h e = absurd (let z : ⊥ = cc in z)
not_first cs j y (Some n) h e =
    let both = none_left (class_faults cs n.text n.place) (if is_first_of_cycle cs j then fault rule.Cycle n.place else []) h in
    ⊎_elim
    (λ yes. absurd (let bad : fault rule.Cycle n.place ≡ [] = rw yes at both.1 in let z : ⊥ = cc in z))
    (λ other. other)
    (cases_Bool (is_first_of_cycle cs j))

pub no_cycles : (p : ProgramTree) → program_faults p ≡ [] → (j y : ℕ) → above p.classes j ≡ Some y → is_first_of_cycle p.classes j ≡ false
no_cycles p h j y e =
    let c = above_from p.classes j y e in
    let n = none_at p h j c.0 c.1 in
    not_first p.classes j y c.0.above n.above (subst (λ o. above_in p.classes o ≡ Some y) c.1 e)

-- a class is at most 63 below `object`
short : (cs : List ClassTree) (k : ℕ) (c : ClassTree) → depth_faults cs k c ≡ [] → steps_above cs (length cs) (Some k) ≡ None → steps_above cs 63 (Some k) ≡ None
unfolding most_levels
short cs k c h ends_there = look (steps_above cs 63 (Some k)) refl
  where
    look : (o : Option ℕ) → steps_above cs 63 (Some k) ≡ o → steps_above cs 63 (Some k) ≡ None
    look None e = e
    look (Some x) e = absurd (let bad : fault rule.Limit c.name.place ≡ [] = rw (e, ends_there) at h in let z : ⊥ = cc in z)

-- ---- lists

pub all_from : {X : Type 0} (test : X → Bool) (xs : List X) → ((n : ℕ) (x : X) → slice_get xs n ≡ Some x → test x ≡ true) → list_all test xs ≡ true
all_from test [] h = refl
all_from test (x ∷ xs) h = rw (h 0 x refl) (all_from test xs (λ n y e. h (suc n) y e))

-- ---- levels

module _ (p : ProgramTree) (faultless : program_faults p ≡ []) where
  pub up : (k : ℕ) → k < length p.classes → chain.above (core_of p).classes (4 + 2 * k) ≡ number_or_object (above p.classes k)
  up k l =
      let y = there_at p k l in
      ap chain.above_of (declared_at (core_of p).classes k ∙ y.1) ∙ (written_at p k y.0 y.1).above

  climbs_on : (n k : ℕ) → ((j : ℕ) → j < length p.classes → steps_above p.classes n (Some j) ≡ None → passes (core_of p).classes (λ level. level == 0) (suc n) (4 + 2 * j) ≡ true) →
      (o : Option ℕ) → above p.classes k ≡ o → steps_above p.classes n o ≡ None → passes (core_of p).classes (λ level. level == 0) (suc n) (number_or_object o) ≡ true
  climbs_on n k further None e h = passes_here (core_of p).classes (λ level. level == 0) n 0 refl
  climbs_on n k further (Some j) e h = further j (above_within p.classes k j e) h

  climbs : (n k : ℕ) → k < length p.classes → steps_above p.classes n (Some k) ≡ None → passes (core_of p).classes (λ level. level == 0) (suc n) (4 + 2 * k) ≡ true
  climbs zero k l h = absurd (let z : ⊥ = cc in z)
  climbs (suc n) k l h =
      let nz : 4 + 2 * k ≢ 0 = omega arith in
      passes_above (core_of p).classes (λ level. level == 0) (suc n) (4 + 2 * k) nz (ne_eqb (4 + 2 * k) 0 nz)
      ∙ ap (passes (core_of p).classes (λ level. level == 0) (suc n)) (up k l)
      ∙ climbs_on n k (λ j m g. climbs n j m g) (above p.classes k) refl h

  ends_at_object : (t : ℕ) → below (core_of p).classes t 0 ≡ true
  ends_at_object t = sym (below-passes (core_of p).classes t 0) ∙ look (declared (core_of p).classes t) refl
    where
      look : (o : Option core.ClassTree) → declared (core_of p).classes t ≡ o → passes (core_of p).classes (λ level. level == 0) 64 t ≡ true
      look None e =
          ⊎_elim
          (λ z. passes_here (core_of p).classes (λ level. level == 0) 63 t (eq-eqb t 0 z))
          (λ nz. passes_above (core_of p).classes (λ level. level == 0) 63 t nz (ne_eqb t 0 nz) ∙ passes_here (core_of p).classes (λ level. level == 0) 62 (chain.above (core_of p).classes t) (ap (λ u. u == 0) (above_undeclared (core_of p).classes t e)))
          (cases_eq t 0)
      look (Some y) e =
          let at = declared_place (core_of p).classes t y e in
          let w = written_at p at.0 y at.2 in
          let l = slice_get_within p.classes at.0 w.tree w.there in
          let n = none_at p faultless at.0 w.tree w.there in
          let whole = walks_end p.classes (no_cycles p faultless) at.0 l in
          ap (passes (core_of p).classes (λ level. level == 0) 64) at.1 ∙ climbs 63 at.0 l (short p.classes at.0 w.tree n.depth whole)

  -- ---- numbers

  named_known : (n : List ℕ) (q : Place) → class_faults p.classes n q ≡ [] → (j : ℕ) × (class_named p.classes n ≡ Some j) × (j < length p.classes)
  named_known n q h = look (class_named p.classes n) refl
    where
      look : (o : Option ℕ) → class_named p.classes n ≡ o → (j : ℕ) × (class_named p.classes n ≡ Some j) × (j < length p.classes)
      look None e = absurd (let bad : fault rule.Unknown q ≡ [] = rw e at h in let z : ⊥ = cc in z)
      look (Some j) e = (j, e, named_within p.classes n j e)

  known_type : (non_null array : Bool) (n : TypeNameTree) (q : Place) → type_name_faults p.classes q n ≡ [] → is_type (core_of p).classes (unwrap_or (if array then array_type p.classes non_null n else named_type p.classes non_null n) ty.Null) ≡ true
  known_type non_null true IntType q h = lt-ltb 1 (4 + 2 * length (core_of p).classes) (omega arith)
  known_type non_null false IntType q h = refl
  known_type non_null true BoolType q h = lt-ltb 2 (4 + 2 * length (core_of p).classes) (omega arith)
  known_type non_null false BoolType q h = refl
  known_type non_null true ObjectType q h = lt-ltb 3 (4 + 2 * length (core_of p).classes) (omega arith)
  known_type non_null false ObjectType q h = lt-ltb 0 (4 + 2 * length (core_of p).classes) (omega arith)
  known_type non_null true (ClassType n) q h =
      let j = named_known n q h in
      let l = j.2 in
      let s = size p in
      rw j.1 (lt-ltb (5 + 2 * j.0) (4 + 2 * length (core_of p).classes) (omega arith))
  known_type non_null false (ClassType n) q h =
      let j = named_known n q h in
      let l = j.2 in
      let s = size p in
      rw j.1 (lt-ltb (4 + 2 * j.0) (4 + 2 * length (core_of p).classes) (omega arith))

  pub type_known : (t : TypeTree) → type_faults p.classes t ≡ [] → is_type (core_of p).classes (type_id p.classes t) ≡ true
  type_known t h = known_type t.non_null t.is_array t.name t.place h

  declarators_known : (attributes : List NameTree) (t : TypeTree) → type_faults p.classes t ≡ [] → (ds : List DeclaratorTree) → list_all (λ (f : core.FieldTree). is_type (core_of p).classes f.ty) (map (field p.classes) (map (declared_field attributes t) ds)) ≡ true
  declarators_known attributes t h [] = refl
  declarators_known attributes t h (d ∷ ds) = rw (type_known t h) (declarators_known attributes t h ds)

  kind_known : (k : ℕ) (attributes : List NameTree) (words : List Modifier) (kind : MemberKindTree) → kind_faults (class_scope p.classes k) words kind ≡ [] → list_all (λ (f : core.FieldTree). is_type (core_of p).classes f.ty) (map (field p.classes) (fields_of_kind attributes kind)) ≡ true
  kind_known k attributes words (FieldsOf d) h = declarators_known attributes d.ty (none_left (type_faults p.classes d.ty) (initials_faults (class_scope p.classes k) d.declarators) h).0 d.declarators
  kind_known k attributes words (InvariantOf e) h = refl
  kind_known k attributes words (MethodOf r n ps cs b) h = refl
  kind_known k attributes words (ConstructorOf n ps base cs b) h = refl

  fields_known : (k : ℕ) (ms : List MemberTree) → members_faults (class_scope p.classes k) ms ≡ [] → list_all (λ (f : core.FieldTree). is_type (core_of p).classes f.ty) (map (field p.classes) (fields_in ms)) ≡ true
  fields_known k [] h = refl
  fields_known k (m ∷ ms) h =
      let both = none_left (kind_faults (class_scope p.classes k) m.modifiers m.kind) (members_faults (class_scope p.classes k) ms) h in
      let test = λ (f : core.FieldTree). is_type (core_of p).classes f.ty in
      ap (list_all test) (map-append (field p.classes) (fields_of_kind m.attributes m.kind) (fields_in ms))
      ∙ list_all-append test (map (field p.classes) (fields_of_kind m.attributes m.kind)) (map (field p.classes) (fields_in ms))
      ∙ rw (kind_known k m.attributes m.modifiers m.kind both.0, fields_known k ms both.1) refl

  superclass : (k : ℕ) (o : Option ℕ) → above p.classes k ≡ o → is_superclass (core_of p).classes (number_or_object o) ≡ true
  superclass k None e = refl
  superclass k (Some j) e =
      let l = above_within p.classes k j e in
      let s = size p in
      or_right (4 + 2 * j == 0) (is_declared (core_of p).classes (4 + 2 * j)) (number_declared (core_of p).classes j (omega arith))

  numbers_at : (k : ℕ) (y : core.ClassTree) → slice_get (core_of p).classes k ≡ Some y → has_numbers (core_of p).classes y ≡ true
  numbers_at k y h =
      let w = written_at p k y h in
      let n = none_at p faultless k w.tree w.there in
      let one : is_superclass (core_of p).classes y.above ≡ true = ap (is_superclass (core_of p).classes) w.above ∙ superclass k (above p.classes k) refl in
      let two : list_all (is_class (core_of p).classes) y.also ≡ true = ap (list_all (is_class (core_of p).classes)) w.also in
      let three : list_all (λ (f : core.FieldTree). is_type (core_of p).classes f.ty) y.fields ≡ true = ap (list_all (λ (f : core.FieldTree). is_type (core_of p).classes f.ty)) w.fields ∙ fields_known k w.tree.members n.members in
      rw (one, two, three) refl

  pub has_chain : IsChain (core_of p).classes
  has_chain = record { numbers = all_from (has_numbers (core_of p).classes) (core_of p).classes numbers_at; ends = ends_at_object }

pub nothing_beside : (p : ProgramTree) → NoAlso (core_of p).classes
nothing_beside p t = look (declared (core_of p).classes t) refl
  where
    look : (o : Option core.ClassTree) → declared (core_of p).classes t ≡ o → chain.also (core_of p).classes t ≡ []
    look None e = ap chain.also_of e
    look (Some y) e = let at = declared_place (core_of p).classes t y e in ap chain.also_of e ∙ (written_at p at.0 y at.2).also
