-- Each body of a resolved program is a constructor or a method of the source, in which the phase of types finds no fault.
use Rattle.std.proofs.Common.{◌≡◌, ℕ, zero, suc, ◌+◌, List, [], ◌∷◌, map, Some, refl, sym, ◌∙◌, ap, subst, arith, ⊎_elim}
use Rattle.std.specs.Prelude.{slice_get}
use Rattle.std.proofs.lemmas.Option.{same_Some}
use Rattle.ss_ast.specs.declared.class.Modifier.{Modifier}
use Rattle.ss_ast.specs.Expressions.{NameTree}
use Rattle.ss_ast.specs.Programs.{MemberKindTree, FieldsOf, InvariantOf, MethodOf, ConstructorOf, MemberTree, ClassTree, ProgramTree}
use Rattle.ss_tables.specs.Members.{MethodTree, ConstructorTree, methods_of_kind, constructors_of_kind, methods_in, constructors_in}
use Rattle.ss_typed.specs.Tree.{BodyTree}
use Rattle.ss_resolver_rules.specs.Programs.{constructor_body, method_body, bodies_of, bodies_from, resolved}
use Rattle.ss_resolver_types_expressions.specs.Members.{surplus_words, implied_base, constructor_faults, method_faults, method_body as body_of_method, kind_faults, member_faults}
use Rattle.ss_resolver_types_expressions.specs.Programs.{members_faults, has_constructor, class_faults, classes_faults, type_faults}
use Rattle.ss_typed.specs.Lookups.{body_at}
use Rattle.ss_expand_formed.proofs.Facts.{none_left}
use Rattle.ss_expand_formed.proofs.Entries.{map_from, append_from}

-- ---- what holds of each constructor and of each method holds of each body

module _ (p : ProgramTree) (P : BodyTree → Type 0)
    (constructors : (k : ℕ) (c : ClassTree) → slice_get p.classes k ≡ Some c → (n : ℕ) (d : ConstructorTree) → slice_get (constructors_in c.members) n ≡ Some d → P (constructor_body p.classes k d))
    (methods : (k : ℕ) (c : ClassTree) → slice_get p.classes k ≡ Some c → (n : ℕ) (m : MethodTree) → slice_get (methods_in c.members) n ≡ Some m → P (method_body p.classes k m)) where
  in_class : (k : ℕ) (c : ClassTree) → slice_get p.classes k ≡ Some c → (n : ℕ) (b : BodyTree) → slice_get (bodies_of p.classes k c) n ≡ Some b → P b
  in_class k c at n b h =
      ⊎_elim
      (λ l. let m = map_from (constructor_body p.classes k) (constructors_in c.members) l.0 b l.1 in subst P m.2 (constructors k c at l.0 m.0 m.1))
      (λ r. let m = map_from (method_body p.classes k) (methods_in c.members) r.0 b r.1 in subst P m.2 (methods k c at r.0 m.0 m.1))
      (append_from (map (constructor_body p.classes k) (constructors_in c.members)) (map (method_body p.classes k) (methods_in c.members)) n b h)

  in_classes : (j : ℕ) (cs : List ClassTree) → ((i : ℕ) (c : ClassTree) → slice_get cs i ≡ Some c → slice_get p.classes (j + i) ≡ Some c) → (n : ℕ) (b : BodyTree) → slice_get (bodies_from p.classes j cs) n ≡ Some b → P b
  in_classes j [] at n b h = absurd (let z : ⊥ = cc in z)
  in_classes j (c ∷ cs) at n b h =
      let here : j + 0 ≡ j = omega arith in
      ⊎_elim
      (λ l. in_class j c (subst (λ i. slice_get p.classes i ≡ Some c) here (at 0 c refl)) l.0 b l.1)
      (λ r. in_classes (j + 1) cs (λ i d e. let next : j + suc i ≡ j + 1 + i = omega arith in subst (λ x. slice_get p.classes x ≡ Some d) next (at (suc i) d e)) r.0 b r.1)
      (append_from (bodies_of p.classes j c) (bodies_from p.classes (j + 1) cs) n b h)

  pub of_each : (n : ℕ) (b : BodyTree) → body_at (resolved p) n ≡ Some b → P b
  of_each n b h = in_classes 0 p.classes (λ i c e. let z : 0 + i ≡ i = omega arith in rw z e) n b h

-- ---- faults of types

class_none : (all : List ClassTree) (j : ℕ) (cs : List ClassTree) → classes_faults all j cs ≡ [] → (i : ℕ) (c : ClassTree) → slice_get cs i ≡ Some c → class_faults all (j + i) c ≡ []
class_none all j [] h i c e = absurd (let z : ⊥ = cc in z)
class_none all j (x ∷ cs) h zero c e =
    let here : j + 0 ≡ j = omega arith in
    rw here (ap (class_faults all j) (sym (same_Some _ _ e)) ∙ (none_left (class_faults all j x) (classes_faults all (j + 1) cs) h).0)
class_none all j (x ∷ cs) h (suc i) c e =
    let next : j + suc i ≡ j + 1 + i = omega arith in
    rw next (class_none all (j + 1) cs (none_left (class_faults all j x) (classes_faults all (j + 1) cs) h).1 i c e)

module _ (all : List ClassTree) (k : ℕ) (c : ClassTree) where
  abbrev pub ConstructorNone : ConstructorTree → Type 0
  ConstructorNone d = constructor_faults all k c d.name d.params d.base d.clauses d.body ≡ []

  abbrev pub MethodNone : MethodTree → Type 0
  MethodNone m = method_faults all k (body_of_method all m.modifiers m.result) m.result m.params m.clauses m.body ≡ []

  constructor_kind : (attributes : List NameTree) (words : List Modifier) (kind : MemberKindTree) (n : ℕ) (d : ConstructorTree) → kind_faults all k c words kind ≡ [] → slice_get (constructors_of_kind attributes kind) n ≡ Some d → ConstructorNone d
  constructor_kind attributes words (FieldsOf x) n d h e = absurd (let z : ⊥ = cc in z)
  constructor_kind attributes words (InvariantOf x) n d h e = absurd (let z : ⊥ = cc in z)
  constructor_kind attributes words (MethodOf r m ps cs b) n d h e = absurd (let z : ⊥ = cc in z)
  constructor_kind attributes words (ConstructorOf m ps base cs b) zero d h e = subst ConstructorNone (same_Some _ _ e) h
  constructor_kind attributes words (ConstructorOf m ps base cs b) (suc n) d h e = absurd (let z : ⊥ = cc in z)

  method_kind : (attributes : List NameTree) (words : List Modifier) (kind : MemberKindTree) (n : ℕ) (m : MethodTree) → kind_faults all k c words kind ≡ [] → slice_get (methods_of_kind attributes words kind) n ≡ Some m → MethodNone m
  method_kind attributes words (FieldsOf x) n m h e = absurd (let z : ⊥ = cc in z)
  method_kind attributes words (InvariantOf x) n m h e = absurd (let z : ⊥ = cc in z)
  method_kind attributes words (ConstructorOf x ps base cs b) n m h e = absurd (let z : ⊥ = cc in z)
  method_kind attributes words (MethodOf r x ps cs b) zero m h e = subst MethodNone (same_Some _ _ e) h
  method_kind attributes words (MethodOf r x ps cs b) (suc n) m h e = absurd (let z : ⊥ = cc in z)

  constructor_in : (ms : List MemberTree) → members_faults all k c ms ≡ [] → (n : ℕ) (d : ConstructorTree) → slice_get (constructors_in ms) n ≡ Some d → ConstructorNone d
  constructor_in [] h n d e = absurd (let z : ⊥ = cc in z)
  constructor_in (x ∷ ms) h n d e =
      let both = none_left (member_faults all k c x) (members_faults all k c ms) h in
      let kind = none_left (surplus_words x) (kind_faults all k c x.modifiers x.kind) both.0 in
      ⊎_elim
      (λ l. constructor_kind x.attributes x.modifiers x.kind l.0 d kind.1 l.1)
      (λ r. constructor_in ms both.1 r.0 d r.1)
      (append_from (constructors_of_kind x.attributes x.kind) (constructors_in ms) n d e)

  method_in : (ms : List MemberTree) → members_faults all k c ms ≡ [] → (n : ℕ) (m : MethodTree) → slice_get (methods_in ms) n ≡ Some m → MethodNone m
  method_in [] h n m e = absurd (let z : ⊥ = cc in z)
  method_in (x ∷ ms) h n m e =
      let both = none_left (member_faults all k c x) (members_faults all k c ms) h in
      let kind = none_left (surplus_words x) (kind_faults all k c x.modifiers x.kind) both.0 in
      ⊎_elim
      (λ l. method_kind x.attributes x.modifiers x.kind l.0 m kind.1 l.1)
      (λ r. method_in ms both.1 r.0 m r.1)
      (append_from (methods_of_kind x.attributes x.modifiers x.kind) (methods_in ms) n m e)

module _ (p : ProgramTree) (none : type_faults p ≡ []) (k : ℕ) (c : ClassTree) (at : slice_get p.classes k ≡ Some c) where
  members_none : members_faults p.classes k c c.members ≡ []
  members_none =
      let z : 0 + k ≡ k = omega arith in
      let faultless : class_faults p.classes k c ≡ [] = subst (λ i. class_faults p.classes i c ≡ []) z (class_none p.classes 0 p.classes none k c at) in
      (none_left (members_faults p.classes k c c.members) (implied_base p.classes k (has_constructor (constructors_in c.members)) c.name.place) faultless).0

  pub constructor_none : (n : ℕ) (d : ConstructorTree) → slice_get (constructors_in c.members) n ≡ Some d → ConstructorNone p.classes k c d
  constructor_none n d e = constructor_in p.classes k c c.members members_none n d e

  pub method_none : (n : ℕ) (m : MethodTree) → slice_get (methods_in c.members) n ≡ Some m → MethodNone p.classes k c m
  method_none n m e = method_in p.classes k c c.members members_none n m e
