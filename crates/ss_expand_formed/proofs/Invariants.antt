-- The invariants of each class are truth values over `this`.
use Rattle.std.proofs.Common.{inl, ◌≡◌, ℕ, zero, suc, ◌+◌, ◌*◌, ◌<◌, List, [], ◌∷◌, ◌++◌, length, map, Bool, true, false, Option, Some, None, refl, sym, ◌∙◌, ap, subst, arith}
use Rattle.std.specs.Prelude.{slice_get}
use Rattle.std.specs.List.{list_all}
use Rattle.std.proofs.lemmas.Bool.{and_from, false≢true, lt-ltb}
use Rattle.std.proofs.lemmas.Option.{same_Some, slice_get_within}
use Rattle.std.proofs.lemmas.List.Concat.{flat_map-cons}
use Rattle.ss_core.specs.declared.names.Place.{Place}
use Rattle.ss_core.specs.declared.names.Mark.{Mark}
use Rattle.ss_core.specs.declared.names.Ty.{Ty}
use Rattle.ss_core.specs.Tree as core
use Rattle.ss_core.specs.Chain.{declared, is_type, is_class, fields_of}
use Rattle.ss_core.proofs.Declared.{declared_place}
use Rattle.ss_ast.specs.Expressions as text
use Rattle.ss_ast.specs.Expressions.{NameTree}
use Rattle.ss_ast.specs.Programs.{MemberKindTree, FieldsOf, InvariantOf, MethodOf, ConstructorOf, MemberTree, ClassTree, ProgramTree}
use Rattle.ss_tables.specs.Classes.{class_number}
use Rattle.ss_tables.specs.Scopes.{class_scope}
use Rattle.ss_typed.specs.Tree.{InvariantTree, MembersTree, TypedTree}
use Rattle.ss_typed.specs.Types.{class_type, type_of}
use Rattle.ss_owners_rules.specs.Words.{NoWord, misplaced}
use Rattle.ss_owners_rules.specs.Attributes.{on_invariant, bad_attributes}
use Rattle.ss_owners_rules.specs.Admissible.{field_marks, inadmissible}
use Rattle.ss_owners_rules.specs.Program as owners
use Rattle.ss_owners_rules.specs.Program.{of_attributes, of_words, of_reads, invariant_faults, invariants_faults, ownership_faults}
use Rattle.ss_resolver_names_rules.specs.Expressions.{expr_faults}
use Rattle.ss_resolver_names_rules.specs.Members as names
use Rattle.ss_resolver_names_rules.specs.Programs.{program_faults}
use Rattle.ss_resolver_types_heads.specs.Wants.{ABool, wrong}
use Rattle.ss_resolver_types_heads.specs.Expressions.{AsValue, faults, faults_as}
use Rattle.ss_resolver_types_expressions.specs.Members as types
use Rattle.ss_resolver_types_expressions.specs.Programs as programs
use Rattle.ss_resolver_rules.specs.Names.{class_env}
use Rattle.ss_resolver_rules.specs.Expressions.{expr}
use Rattle.ss_resolver_rules.specs.Programs.{invariants_of_kind, invariants_in, members, resolved}
use Rattle.ss_expand_rules.specs.Numbers.{plain}
use Rattle.ss_expand_rules.specs.Elaborated as elaborated
use Rattle.ss_expand_rules.specs.Elaborated.{invariant_numbers}
use Rattle.ss_store_rules.specs.Admissible.{invariants, invariants_of}
use Rattle.ss_store_rules.specs.Types.{is_bool}
use Rattle.ss_store_rules.specs.Typed.{invariant_types, is_invariant}
use Rattle.ss_expand_formed.proofs.AdmissibleClasses.{class_at}
use Rattle.ss_expand_formed.specs.Laws.{core_of}
use Rattle.ss_expand_formed.proofs.Facts.{none_left}
use Rattle.ss_expand_formed.proofs.Places.{each_at, members_at}
use Rattle.ss_expand_formed.proofs.ChainLaw.{written_at, size, none_at, has_chain}
use Rattle.ss_expand_formed.proofs.Fit.{Context}
use Rattle.ss_expand_formed.proofs.Exact.{exact_type}
use Rattle.ss_expand_formed.proofs.Plain.{Reads, bare, bare_bool}
use Rattle.ss_expand_formed.proofs.ExpressionsPlaces.{At, IsKnown, IsPlace}
use Rattle.ss_expand_formed.proofs.Conditions.{condition_sound}
use Rattle.ss_expand_formed.specs.ContractParts.{HaveInvariants}
use Rattle.ss_expand_formed.proofs.ContractsSources.{members_typed}
use Rattle.ss_expand_formed.proofs.Answers.{answers}

-- ---- no word stands in them

words_none : (ps : List Place) → of_words ps ≡ [] → ps ≡ []
words_none [] h = refl
words_none (q ∷ ps) h = absurd (let z : ⊥ = cc in z)

invariant_words : (marks : List Mark) (i : InvariantTree) → invariant_faults marks i ≡ [] → misplaced NoWord i.condition ≡ []
invariant_words marks i h =
    let front = (none_left (of_attributes (bad_attributes on_invariant i.attributes) ++ of_words (misplaced NoWord i.condition)) (of_reads (inadmissible marks i.condition)) h).0 in
    words_none (misplaced NoWord i.condition) (none_left (of_attributes (bad_attributes on_invariant i.attributes)) (of_words (misplaced NoWord i.condition)) front).1

class_owned : (q : TypedTree) (j : ℕ) (cs : List MembersTree) (i : ℕ) (m : MembersTree) → owners.classes_faults q j cs ≡ [] → slice_get cs i ≡ Some m → invariants_faults (field_marks q.classes) m.invariants ≡ []
class_owned q j [] i m h e = absurd (let z : ⊥ = cc in z)
class_owned q j (x ∷ cs) zero m h e =
    let here = (none_left (owners.class_faults q j x) (owners.classes_faults q (j + 1) cs) h).0 in
    let mine = (none_left (owners.fields_faults x.fields (fields_of (slice_get q.classes j))) (invariants_faults (field_marks q.classes) x.invariants) here).1 in
    subst (λ (y : MembersTree). invariants_faults (field_marks q.classes) y.invariants ≡ []) (same_Some _ _ e) mine
class_owned q j (x ∷ cs) (suc i) m h e = class_owned q (j + 1) cs i m (none_left (owners.class_faults q j x) (owners.classes_faults q (j + 1) cs) h).1 e

-- ---- the place of an invariant

abbrev place_in_class : ℕ → At
place_in_class k = record { class = k; outcome = None; names = []; more_names = []; numbers = []; more_numbers = []; next = 1; bound = 0 }

abbrev context_in_class : ℕ → Context
context_in_class k = record { is_static = false; class = class_number k; locals = class_type (class_number k) true ∷ []; result = None }

one_at : (u : Ty) (n : ℕ) (t : Ty) → slice_get (u ∷ []) n ≡ Some t → u ≡ t
one_at u zero t h = same_Some _ _ h
one_at u (suc n) t h = absurd (let z : ⊥ = cc in z)

this_at : (k d : ℕ) → slice_get (invariant_types (class_number k)) 0 ≡ Some (class_type d true) → bare (slice_get (invariant_types (class_number k)) 0) ≡ bare (Some (class_type d true))
this_at k d h = ap bare h

reads_this : (C : List core.ClassTree) (k : ℕ) → Reads C (context_in_class k) invariant_numbers (invariant_types (class_number k))
reads_this C k = record { locals = λ n t h. ap bare h; this = λ d h. inl (this_at k d h); result = λ t h. absurd (let z : ⊥ = cc in z); bound = refl }

module _ (p : ProgramTree) (faultless : program_faults p ≡ []) (typed_well : programs.type_faults p ≡ []) (owned : ownership_faults (resolved p) ≡ []) where
  abbrev C : List core.ClassTree
  C = (core_of p).classes

  this_known : (k : ℕ) → k < length p.classes → is_class C (class_number k) ≡ true
  this_known k l = let s = size p in lt-ltb (class_number k) (4 + 2 * length C) (omega arith)

  known_in_class : (k : ℕ) → k < length p.classes → IsKnown p (context_in_class k)
  known_in_class k l = record { locals = λ n t h. subst (λ u. is_type C u ≡ true) (one_at (class_type (class_number k) true) n t h) (this_known k l); result = λ t h. absurd (let z : ⊥ = cc in z) }

  is_place_in_class : (k : ℕ) → k < length p.classes → IsPlace p (context_in_class k) false false false (place_in_class k)
  is_place_in_class k l = record { class = l; this = λ h. refl; in_static = λ h. refl; in_class = refl; outcome = λ t h. absurd (let z : ⊥ = cc in z); answer_is = λ h. absurd (false≢true h); inner = tt; outer = tt }

  one_typed : (k : ℕ) → k < length p.classes → (y : text.ExprTree) → expr_faults (class_scope p.classes k) y ≡ [] → faults_as (types.in_class p.classes k true) ABool y ≡ [] → misplaced NoWord (expr (class_env p.classes k) y) ≡ [] → is_invariant C (class_number k) (plain invariant_numbers (expr (class_env p.classes k) y)) ≡ true
  one_typed k l y named typed words =
      let value = (none_left (faults (types.in_class p.classes k true) AsValue y) (wrong (class_scope p.classes k) ABool y) typed).0 in
      let answered = answers p (context_in_class k) false false NoWord refl (place_in_class k) y named value words in
      let c = condition_sound p faultless (context_in_class k) (known_in_class k l) false false false (place_in_class k) (is_place_in_class k l) y answered named typed in
      ap is_bool (exact_type (resolved p) C (context_in_class k) invariant_numbers (invariant_types (class_number k)) (has_chain p faultless) (reads_this C k) (this_at k) 0 (expr (class_env p.classes k) y) c.fit c.calls) ∙ bare_bool (type_of (expr (class_env p.classes k) y)) ∙ c.type

  -- ---- the invariants of a class

  abbrev all_typed : ℕ → List InvariantTree → Bool
  all_typed k is = list_all (is_invariant C (class_number k)) (map (λ (i : InvariantTree). plain invariant_numbers i.condition) is)

  members_typed_too : (k : ℕ) (c : ClassTree) → k < length p.classes → (ms : List MemberTree) → names.members_faults (class_scope p.classes k) ms ≡ [] → programs.members_faults p.classes k c ms ≡ [] →
      invariants_faults (field_marks (resolved p).classes) (invariants_in (class_env p.classes k) ms) ≡ [] → all_typed k (invariants_in (class_env p.classes k) ms) ≡ true
  members_typed_too k c l [] named typed owns = refl
  members_typed_too k c l (m ∷ ms) named typed owns =
      let e = class_env p.classes k in
      let marks = field_marks (resolved p).classes in
      let split = flat_map-cons (λ (x : MemberTree). invariants_of_kind e x.attributes x.kind) m ms in
      let n = none_left (names.kind_faults (class_scope p.classes k) m.modifiers m.kind) (names.members_faults (class_scope p.classes k) ms) named in
      let t = none_left (types.member_faults p.classes k c m) (programs.members_faults p.classes k c ms) typed in
      let here = (none_left (types.surplus_words m) (types.kind_faults p.classes k c m.modifiers m.kind) t.0).1 in
      ap (all_typed k) split ∙ by m.kind n.0 here (subst (λ is. invariants_faults marks is ≡ []) split owns) (λ o. members_typed_too k c l ms n.1 t.1 o)
    where
      by : (kind : MemberKindTree) → names.kind_faults (class_scope p.classes k) m.modifiers kind ≡ [] → types.kind_faults p.classes k c m.modifiers kind ≡ [] →
          invariants_faults (field_marks (resolved p).classes) (invariants_of_kind (class_env p.classes k) m.attributes kind ++ invariants_in (class_env p.classes k) ms) ≡ [] →
          (invariants_faults (field_marks (resolved p).classes) (invariants_in (class_env p.classes k) ms) ≡ [] → all_typed k (invariants_in (class_env p.classes k) ms) ≡ true) →
          all_typed k (invariants_of_kind (class_env p.classes k) m.attributes kind ++ invariants_in (class_env p.classes k) ms) ≡ true
      by (InvariantOf a) n t o rest =
          let i : InvariantTree = record { attributes = m.attributes; condition = expr (class_env p.classes k) a } in
          let both = none_left (invariant_faults (field_marks (resolved p).classes) i) (invariants_faults (field_marks (resolved p).classes) (invariants_in (class_env p.classes k) ms)) o in
          and_from _ _ (one_typed k l a n t (invariant_words (field_marks (resolved p).classes) i both.0)) (rest both.1)
      by (FieldsOf d) n t o rest = rest o
      by (MethodOf r x ps cs b) n t o rest = rest o
      by (ConstructorOf x ps base cs b) n t o rest = rest o

  members_owned : owners.classes_faults (resolved p) 0 (resolved p).members ≡ []
  unfolding ownership_faults
  members_owned = (none_left (owners.classes_faults (resolved p) 0 (resolved p).members) (owners.bodies_faults (resolved p).bodies) owned).0

  of_class : (k : ℕ) (c : ClassTree) → slice_get p.classes k ≡ Some c → list_all (is_invariant C (class_number k)) (invariants C (class_number k)) ≡ true
  of_class k c at =
      let z : 0 + k ≡ k = omega arith in
      let there : slice_get (resolved p).members k ≡ Some (members p.classes k c) = each_at (members p.classes) 0 p.classes k c at ∙ ap (λ n. Some (members p.classes n c)) z in
      let owns = class_owned (resolved p) 0 (resolved p).members k (members p.classes k c) members_owned there in
      ap (λ o. list_all (is_invariant C (class_number k)) (invariants_of o)) (class_at p k c at)
      ∙ ap (λ o. list_all (is_invariant C (class_number k)) (elaborated.invariants_in o)) (members_at p k c at)
      ∙ members_typed_too k c (slice_get_within p.classes k c at) c.members (none_at p faultless k c at).members (members_typed p faultless typed_well k c at) owns

  of_declared : (t : ℕ) (o : Option core.ClassTree) → declared C t ≡ o → list_all (is_invariant C t) (invariants C t) ≡ true
  of_declared t None e = ap (λ o. list_all (is_invariant C t) (invariants_of o)) e
  of_declared t (Some y) e =
      let at = declared_place C t y e in
      let w = written_at p at.0 y at.2 in
      subst (λ u. list_all (is_invariant C u) (invariants C u) ≡ true) (sym at.1) (of_class at.0 w.tree w.there)

pub have_invariants : (p : ProgramTree) → program_faults p ≡ [] → programs.type_faults p ≡ [] → ownership_faults (resolved p) ≡ [] → HaveInvariants (core_of p)
have_invariants p faultless typed_well owned t = of_declared p faultless typed_well owned t (declared (core_of p).classes t) refl
