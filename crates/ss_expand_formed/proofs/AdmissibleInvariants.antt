-- The invariants of the elaboration of a program without faults of names and ownership are admissible.
use Rattle.std.proofs.Common.{◌≡◌, ℕ, zero, suc, ◌+◌, ◌*◌, List, [], ◌∷◌, ◌++◌, map, Bool, true, Option, Some, None, refl, sym, ◌∙◌, ap, subst, arith}
use Rattle.std.specs.Prelude.{option_and_then, slice_get}
use Rattle.std.specs.List.{list_all}
use Rattle.std.proofs.lemmas.Option.{same_Some}
use Rattle.std.proofs.lemmas.Bool.{and_parts, and_from}
use Rattle.std.proofs.lemmas.List.Folds.{list_all-append}
use Rattle.ss_core.specs.Tree as core
use Rattle.ss_core.specs.Chain.{declared, fields_of}
use Rattle.ss_core.proofs.Declared.{declared_at, declared_place}
use Rattle.ss_ast.specs.Expressions.{NameTree}
use Rattle.ss_ast.specs.Programs.{MemberKindTree, FieldsOf, InvariantOf, MethodOf, ConstructorOf, MemberTree, ClassTree, ProgramTree}
use Rattle.ss_typed.specs.Tree.{InvariantTree, MembersTree, TypedTree}
use Rattle.ss_owners_rules.specs.Words.{NoWord, misplaced}
use Rattle.ss_owners_rules.specs.Attributes.{on_invariant, bad_attributes}
use Rattle.ss_owners_rules.specs.Admissible.{field_marks, inadmissible}
use Rattle.ss_owners_rules.specs.Program.{at, not_admissible, misplaced_word, of_reads, of_words, of_attributes, invariant_faults, invariants_faults, fields_faults, class_faults, classes_faults, bodies_faults, ownership_faults}
use Rattle.ss_resolver_names_rules.specs.Programs.{program_faults}
use Rattle.ss_resolver_rules.specs.Names.{Env, class_env}
use Rattle.ss_resolver_rules.specs.Expressions.{expr}
use Rattle.ss_resolver_rules.specs.Programs.{each, class, members, invariants_of_kind, invariants_in, resolved}
use Rattle.ss_typed.specs.Lookups.{class_place, members_of}
use Rattle.ss_expand_rules.specs.Numbers.{plain}
use Rattle.ss_expand_rules.specs.Elaborated.{invariant_numbers, class_of, classes_from}
use Rattle.ss_expand_rules.specs.Elaborated as elaborated
use Rattle.ss_store_rules.specs.Admissible.{is_admissible, invariants_of, invariants}
use Rattle.ss_expand_formed.specs.Admissible.{HasAdmissibleInvariants}
use Rattle.ss_expand_formed.proofs.AdmissibleFacts.{none_of}
use Rattle.ss_expand_formed.proofs.AdmissibleClasses.{classes, class_at}
use Rattle.ss_expand_formed.proofs.AdmissibleNames.{field_below}
use Rattle.ss_expand_formed.proofs.OwnReads.{own_reads, PassOwn, expr_reads}
use Rattle.ss_expand_formed.proofs.Elaborations.{is_field_of, admissible}

none_mapped : {A B : Type 0} (f : A → B) (xs : List A) → map f xs ≡ [] → xs ≡ []
none_mapped f [] h = refl
none_mapped f (x ∷ xs) h = absurd (let x : ⊥ = cc in x)

-- ---- the invariants of a class

kind_reads : (test : ℕ → Bool) (e : Env) → PassOwn test e → (attributes : List NameTree) (kind : MemberKindTree) → list_all (λ (i : InvariantTree). own_reads test i.condition) (invariants_of_kind e attributes kind) ≡ true
kind_reads test e own attributes (InvariantOf a) = and_from (own_reads test (expr e a)) true (expr_reads test e a own) refl
kind_reads test e own attributes (FieldsOf d) = refl
kind_reads test e own attributes (MethodOf r n ps cs b) = refl
kind_reads test e own attributes (ConstructorOf n ps base cs b) = refl

members_read : (test : ℕ → Bool) (e : Env) → PassOwn test e → (ms : List MemberTree) → list_all (λ (i : InvariantTree). own_reads test i.condition) (invariants_in e ms) ≡ true
members_read test e own [] = refl
members_read test e own (m ∷ ms) =
    list_all-append (λ (i : InvariantTree). own_reads test i.condition) (invariants_of_kind e m.attributes m.kind) (invariants_in e ms)
    ∙ and_from _ _ (kind_reads test e own m.attributes m.kind) (members_read test e own ms)

all_sound : (p : ProgramTree) (t : ℕ) (is : List InvariantTree) → list_all (λ (i : InvariantTree). own_reads (is_field_of p t) i.condition) is ≡ true → invariants_faults (field_marks (resolved p).classes) is ≡ [] →
    list_all (is_admissible (classes p) t) (map (λ (i : InvariantTree). plain invariant_numbers i.condition) is) ≡ true
all_sound p t [] r h = refl
all_sound p t (i ∷ is) r h =
    let ms = field_marks (resolved p).classes in
    let reads = and_parts (own_reads (is_field_of p t) i.condition) (list_all (λ (x : InvariantTree). own_reads (is_field_of p t) x.condition) is) r in
    let both = none_of (invariant_faults ms i) (invariants_faults ms is) h in
    let head = of_attributes (bad_attributes on_invariant i.attributes) ++ of_words (misplaced NoWord i.condition) in
    let own = none_of head (of_reads (inadmissible ms i.condition)) both.0 in
    let words = (none_of (of_attributes (bad_attributes on_invariant i.attributes)) (of_words (misplaced NoWord i.condition)) own.0).1 in
    and_from _ _
    (admissible p t invariant_numbers i.condition reads.0 (none_mapped (at misplaced_word) (misplaced NoWord i.condition) words) (none_mapped (at not_admissible) (inadmissible ms i.condition) own.1))
    (all_sound p t is reads.1 both.1)

-- ---- where the members of a class stand

each_at : {A : Type 0} (f : ℕ → ClassTree → A) (j : ℕ) (cs : List ClassTree) (i : ℕ) (c : ClassTree) → slice_get cs i ≡ Some c → slice_get (each f j cs) i ≡ Some (f (j + i) c)
each_at f j [] i c h = absurd (let x : ⊥ = cc in x)
each_at f j (d ∷ cs) zero c h = let n : j + 0 ≡ j = omega arith in rw n (ap (λ y. Some (f j y)) (same_Some _ _ h))
each_at f j (d ∷ cs) (suc i) c h = let n : j + suc i ≡ j + 1 + i = omega arith in rw n (each_at f (j + 1) cs i c h)

faultless_at : (q : TypedTree) (f : ℕ → ClassTree → MembersTree) (u j : ℕ) (cs : List ClassTree) (i : ℕ) (c : ClassTree) → slice_get cs i ≡ Some c → classes_faults q u (each f j cs) ≡ [] → invariants_faults (field_marks q.classes) (f (j + i) c).invariants ≡ []
faultless_at q f u j [] i c e h = absurd (let x : ⊥ = cc in x)
faultless_at q f u j (d ∷ cs) zero c e h =
    let n : j + 0 ≡ j = omega arith in
    let first = none_of (class_faults q u (f j d)) (classes_faults q (u + 1) (each f (j + 1) cs)) h in
    let same : d ≡ c = same_Some _ _ e in
    rw n (ap (λ x. invariants_faults (field_marks q.classes) (f j x).invariants) (sym same) ∙ (none_of (fields_faults (f j d).fields (fields_of (slice_get q.classes u))) (invariants_faults (field_marks q.classes) (f j d).invariants) first.0).1)
faultless_at q f u j (d ∷ cs) (suc i) c e h =
    let n : j + suc i ≡ j + 1 + i = omega arith in
    let rest = none_of (class_faults q u (f j d)) (classes_faults q (u + 1) (each f (j + 1) cs)) h in
    rw n (faultless_at q f (u + 1) (j + 1) cs i c e rest.1)

no_class : (q : TypedTree) (f : ℕ → ClassTree → core.ClassTree) (t j : ℕ) (cs : List ClassTree) (i : ℕ) → slice_get cs i ≡ None → slice_get (classes_from q t (each f j cs)) i ≡ None
no_class q f t j [] i h = refl
no_class q f t j (d ∷ cs) zero h = absurd (let x : ⊥ = cc in x)
no_class q f t j (d ∷ cs) (suc i) h = no_class q f (t + 2) (j + 1) cs i h

-- ---- every class

module _ (p : ProgramTree) (h : program_faults p ≡ []) (g : ownership_faults (resolved p) ≡ []) where
  no_faults : classes_faults (resolved p) 0 (resolved p).members ≡ []
  unfolding ownership_faults
  no_faults = (none_of (classes_faults (resolved p) 0 (resolved p).members) (bodies_faults (resolved p).bodies) g).0

  of_class : (k : ℕ) (c : ClassTree) → slice_get p.classes k ≡ Some c → list_all (is_admissible (classes p) (4 + 2 * k)) (elaborated.invariants_in (members_of (resolved p) (4 + 2 * k))) ≡ true
  of_class k c there =
      let z : 0 + k ≡ k = omega arith in
      let place : class_place (4 + 2 * k) ≡ k = omega arith in
      let ms : members_of (resolved p) (4 + 2 * k) ≡ Some (members p.classes k c) =
      ap (option_and_then (λ (x : core.ClassTree). slice_get (resolved p).members (class_place (4 + 2 * k)))) (declared_at (resolved p).classes k ∙ each_at (class p.classes) 0 p.classes k c there)
      ∙ ap (slice_get (resolved p).members) place
      ∙ each_at (members p.classes) 0 p.classes k c there
      ∙ ap (λ n. Some (members p.classes n c)) z in
      let faults : invariants_faults (field_marks (resolved p).classes) (members p.classes k c).invariants ≡ [] =
      ap (λ n. invariants_faults (field_marks (resolved p).classes) (members p.classes n c).invariants) (sym z) ∙ faultless_at (resolved p) (members p.classes) 0 0 p.classes k c there no_faults in
      let reads = members_read (is_field_of p (4 + 2 * k)) (class_env p.classes k) (λ n f e. field_below p h k c there n f e) c.members in
      ap (λ o. list_all (is_admissible (classes p) (4 + 2 * k)) (elaborated.invariants_in o)) ms
      ∙ all_sound p (4 + 2 * k) (members p.classes k c).invariants reads faults

  of_place : (t k : ℕ) (c : core.ClassTree) → t ≡ 4 + 2 * k → slice_get (classes p) k ≡ Some c → (o : Option ClassTree) → slice_get p.classes k ≡ o → list_all (is_admissible (classes p) t) (invariants (classes p) t) ≡ true
  of_place t k c n there None at =
      let none : slice_get (classes p) k ≡ None = no_class (resolved p) (class p.classes) 4 0 p.classes k at in
      let both : None ≡ Some c = sym none ∙ there in
      absurd (let x : ⊥ = cc in x)
  of_place t k c n there (Some d) at =
      subst (λ u. list_all (is_admissible (classes p) u) (invariants (classes p) u) ≡ true) (sym n)
      (ap (λ o. list_all (is_admissible (classes p) (4 + 2 * k)) (invariants_of o)) (class_at p k d at) ∙ of_class k d at)

  of_declared : (t : ℕ) (o : Option core.ClassTree) → declared (classes p) t ≡ o → list_all (is_admissible (classes p) t) (invariants (classes p) t) ≡ true
  of_declared t None at = ap (λ o. list_all (is_admissible (classes p) t) (invariants_of o)) at
  of_declared t (Some c) at = let w = declared_place (classes p) t c at in of_place t w.0 c w.1 w.2 (slice_get p.classes w.0) refl

pub all_admissible : (p : ProgramTree) → program_faults p ≡ [] → ownership_faults (resolved p) ≡ [] → HasAdmissibleInvariants p
all_admissible p h g t = of_declared p h g t (declared (classes p) t) refl
