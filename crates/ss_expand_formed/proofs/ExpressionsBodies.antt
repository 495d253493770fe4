-- Written bodies: where they stand in the source, what they have no faults of, and the places in which their contracts and blocks stand.
use Rattle.std.proofs.Common.{◌≡◌, ℕ, zero, suc, ◌+◌, List, [], ◌∷◌, ◌++◌, map, Some, None, refl, sym, ◌∙◌, ap, subst, arith, inl, inr, ◌⊎◌, ⊎_elim}
use Rattle.std.specs.Prelude.{slice_get}
use Rattle.std.proofs.lemmas.Option.{same_Some}
use Rattle.ss_ast.specs.declared.class.Modifier.{Modifier}
use Rattle.ss_ast.specs.Expressions.{NameTree}
use Rattle.ss_ast.specs.Programs.{MemberKindTree, FieldsOf, InvariantOf, MethodOf, ConstructorOf, MemberTree, ClassTree, ProgramTree}
use Rattle.ss_tables.specs.Members.{MethodTree, ConstructorTree, is_static, methods_of_kind, constructors_of_kind, methods_in, constructors_in}
use Rattle.ss_tables.specs.Scopes.{class_scope}
use Rattle.ss_tables.specs.Statics.{result_type}
use Rattle.ss_typed.specs.Tree.{BodyTree}
use Rattle.ss_resolver_names_rules.specs.Members as names
use Rattle.ss_resolver_names_rules.specs.Programs.{program_faults}
use Rattle.ss_resolver_types_expressions.specs.Members as types
use Rattle.ss_resolver_types_expressions.specs.Programs.{type_faults}
use Rattle.ss_resolver_types_expressions.specs.Programs as phases
use Rattle.ss_resolver_rules.specs.Programs.{method_body, constructor_body, bodies_of, bodies_from, resolved}
use Rattle.ss_typed.specs.Lookups.{body_at}
use Rattle.ss_expand_formed.proofs.Facts.{none_left}
use Rattle.ss_expand_formed.proofs.ChainLaw.{none_at}

-- ---- members of a class

in_either : {X : Type 0} (xs ys : List X) (n : ℕ) (x : X) → slice_get (xs ++ ys) n ≡ Some x → ((i : ℕ) × (slice_get xs i ≡ Some x)) ⊎ ((i : ℕ) × (slice_get ys i ≡ Some x))
in_either [] ys n x h = inr (n, h)
in_either (z ∷ xs) ys zero x h = inl (0, h)
in_either (z ∷ xs) ys (suc n) x h = ⊎_elim (λ l. inl (suc l.0, l.1)) (λ r. inr r) (in_either xs ys n x h)

-- a method without faults of names and of types
pub record IsMethod (p : ProgramTree) (k : ℕ) (m : MethodTree) : Type 0 where
  pub result : names.written_type_faults p.classes m.result ≡ []
  pub names : names.body_faults (names.in_method (class_scope p.classes k) (is_static m) (result_type p.classes m.result)) m.params None m.clauses m.body ≡ []
  pub types : types.method_faults p.classes k (types.method_body p.classes m.modifiers m.result) m.result m.params m.clauses m.body ≡ []

-- a constructor without faults
pub record IsConstructor (p : ProgramTree) (k : ℕ) (c : ClassTree) (d : ConstructorTree) : Type 0 where
  pub names : names.body_faults (class_scope p.classes k) d.params d.base d.clauses d.body ≡ []
  pub types : types.constructor_faults p.classes k c d.name d.params d.base d.clauses d.body ≡ []

module _ (p : ProgramTree) (k : ℕ) (c : ClassTree) where
  kind_method : (attributes : List NameTree) (words : List Modifier) (kind : MemberKindTree) → names.kind_faults (class_scope p.classes k) words kind ≡ [] → types.kind_faults p.classes k c words kind ≡ [] →
      (i : ℕ) (m : MethodTree) → slice_get (methods_of_kind attributes words kind) i ≡ Some m → IsMethod p k m
  kind_method attributes words (FieldsOf d) h g i m e = absurd (let z : ⊥ = cc in z)
  kind_method attributes words (InvariantOf d) h g i m e = absurd (let z : ⊥ = cc in z)
  kind_method attributes words (ConstructorOf n ps base cs b) h g i m e = absurd (let z : ⊥ = cc in z)
  kind_method attributes words (MethodOf r n ps cs b) h g (suc i) m e = absurd (let z : ⊥ = cc in z)
  kind_method attributes words (MethodOf r n ps cs b) h g zero m e =
      let both = none_left (names.written_type_faults p.classes r) _ h in
      subst (IsMethod p k) (same_Some _ _ e) (record { result = both.0; names = both.1; types = g })

  kind_constructor : (attributes : List NameTree) (words : List Modifier) (kind : MemberKindTree) → names.kind_faults (class_scope p.classes k) words kind ≡ [] → types.kind_faults p.classes k c words kind ≡ [] →
      (i : ℕ) (d : ConstructorTree) → slice_get (constructors_of_kind attributes kind) i ≡ Some d → IsConstructor p k c d
  kind_constructor attributes words (FieldsOf d) h g i m e = absurd (let z : ⊥ = cc in z)
  kind_constructor attributes words (InvariantOf d) h g i m e = absurd (let z : ⊥ = cc in z)
  kind_constructor attributes words (MethodOf r n ps cs b) h g i m e = absurd (let z : ⊥ = cc in z)
  kind_constructor attributes words (ConstructorOf n ps base cs b) h g (suc i) m e = absurd (let z : ⊥ = cc in z)
  kind_constructor attributes words (ConstructorOf n ps base cs b) h g zero m e = subst (IsConstructor p k c) (same_Some _ _ e) (record { names = h; types = g })

  members_methods : (ms : List MemberTree) → names.members_faults (class_scope p.classes k) ms ≡ [] → phases.members_faults p.classes k c ms ≡ [] → (i : ℕ) (m : MethodTree) → slice_get (methods_in ms) i ≡ Some m → IsMethod p k m
  members_methods [] h g i m e = absurd (let z : ⊥ = cc in z)
  members_methods (y ∷ ms) h g i m e =
      let hs = none_left (names.kind_faults (class_scope p.classes k) y.modifiers y.kind) _ h in
      let gs = none_left (types.member_faults p.classes k c y) _ g in
      let kind = none_left (types.surplus_words y) _ gs.0 in
      ⊎_elim
      (λ l. kind_method y.attributes y.modifiers y.kind hs.0 kind.1 l.0 m l.1)
      (λ r. members_methods ms hs.1 gs.1 r.0 m r.1)
      (in_either (methods_of_kind y.attributes y.modifiers y.kind) (methods_in ms) i m e)

  members_constructors : (ms : List MemberTree) → names.members_faults (class_scope p.classes k) ms ≡ [] → phases.members_faults p.classes k c ms ≡ [] → (i : ℕ) (d : ConstructorTree) → slice_get (constructors_in ms) i ≡ Some d → IsConstructor p k c d
  members_constructors [] h g i m e = absurd (let z : ⊥ = cc in z)
  members_constructors (y ∷ ms) h g i m e =
      let hs = none_left (names.kind_faults (class_scope p.classes k) y.modifiers y.kind) _ h in
      let gs = none_left (types.member_faults p.classes k c y) _ g in
      let kind = none_left (types.surplus_words y) _ gs.0 in
      ⊎_elim
      (λ l. kind_constructor y.attributes y.modifiers y.kind hs.0 kind.1 l.0 m l.1)
      (λ r. members_constructors ms hs.1 gs.1 r.0 m r.1)
      (in_either (constructors_of_kind y.attributes y.kind) (constructors_in ms) i m e)

-- ---- classes and bodies

class_types : (all : List ClassTree) (j : ℕ) (cs : List ClassTree) (i : ℕ) (c : ClassTree) → phases.classes_faults all j cs ≡ [] → slice_get cs i ≡ Some c → phases.class_faults all (j + i) c ≡ []
class_types all j [] i c h e = absurd (let z : ⊥ = cc in z)
class_types all j (d ∷ cs) zero c h e =
    let z : j + 0 ≡ j = omega arith in
    rw z (ap (phases.class_faults all j) (sym (same_Some _ _ e)) ∙ (none_left (phases.class_faults all j d) _ h).0)
class_types all j (d ∷ cs) (suc i) c h e =
    let s : j + suc i ≡ j + 1 + i = omega arith in
    rw s (class_types all (j + 1) cs i c (none_left (phases.class_faults all j d) _ h).1 e)

-- where a written body comes from
pub data IsFrom (p : ProgramTree) : BodyTree → Type 0 where
  AMethod : {k : ℕ} {c : ClassTree} {m : MethodTree} → slice_get p.classes k ≡ Some c → IsMethod p k m → IsFrom p (method_body p.classes k m)
  AConstructor : {k : ℕ} {c : ClassTree} {d : ConstructorTree} → slice_get p.classes k ≡ Some c → IsConstructor p k c d → IsFrom p (constructor_body p.classes k d)

module _ (p : ProgramTree) (faultless : program_faults p ≡ []) (typed_well : type_faults p ≡ []) where
  pub members_typed : (k : ℕ) (c : ClassTree) → slice_get p.classes k ≡ Some c → phases.members_faults p.classes k c c.members ≡ []
  members_typed k c at =
      let z : 0 + k ≡ k = omega arith in
      (none_left (phases.members_faults p.classes k c c.members) _ (subst (λ i. phases.class_faults p.classes i c ≡ []) z (class_types p.classes 0 p.classes k c typed_well at))).0

  pub method_faultless : (k : ℕ) (c : ClassTree) → slice_get p.classes k ≡ Some c → (i : ℕ) (m : MethodTree) → slice_get (methods_in c.members) i ≡ Some m → IsMethod p k m
  method_faultless k c at i m e = members_methods p k c c.members (none_at p faultless k c at).members (members_typed k c at) i m e

  pub constructor_faultless : (k : ℕ) (c : ClassTree) → slice_get p.classes k ≡ Some c → (i : ℕ) (d : ConstructorTree) → slice_get (constructors_in c.members) i ≡ Some d → IsConstructor p k c d
  constructor_faultless k c at i d e = members_constructors p k c c.members (none_at p faultless k c at).members (members_typed k c at) i d e

  in_map : {X Y : Type 0} (f : X → Y) (xs : List X) (i : ℕ) (y : Y) → slice_get (map f xs) i ≡ Some y → (x : X) × (slice_get xs i ≡ Some x) × (f x ≡ y)
  in_map f [] i y h = absurd (let z : ⊥ = cc in z)
  in_map f (x ∷ xs) zero y h = (x, refl, same_Some _ _ h)
  in_map f (x ∷ xs) (suc i) y h = in_map f xs i y h

  from_class : (k : ℕ) (c : ClassTree) → slice_get p.classes k ≡ Some c → (n : ℕ) (b : BodyTree) → slice_get (bodies_of p.classes k c) n ≡ Some b → IsFrom p b
  from_class k c at n b h =
      ⊎_elim
      (λ l. let r = in_map (constructor_body p.classes k) (constructors_in c.members) l.0 b l.1 in subst (IsFrom p) r.2 (AConstructor at (constructor_faultless k c at l.0 r.0 r.1)))
      (λ l. let r = in_map (method_body p.classes k) (methods_in c.members) l.0 b l.1 in subst (IsFrom p) r.2 (AMethod at (method_faultless k c at l.0 r.0 r.1)))
      (in_either (map (constructor_body p.classes k) (constructors_in c.members)) (map (method_body p.classes k) (methods_in c.members)) n b h)

  from_classes : (j : ℕ) (cs : List ClassTree) → ((i : ℕ) (c : ClassTree) → slice_get cs i ≡ Some c → slice_get p.classes (j + i) ≡ Some c) → (n : ℕ) (b : BodyTree) → slice_get (bodies_from p.classes j cs) n ≡ Some b → IsFrom p b
  from_classes j [] at n b h = absurd (let z : ⊥ = cc in z)
  from_classes j (c ∷ cs) at n b h =
      let z : j + 0 ≡ j = omega arith in
      ⊎_elim
      (λ l. from_class j c (subst (λ i. slice_get p.classes i ≡ Some c) z (at 0 c refl)) l.0 b l.1)
      (λ r. from_classes (j + 1) cs (λ i d e. let s : j + 1 + i ≡ j + suc i = omega arith in rw s (at (suc i) d e)) r.0 b r.1)
      (in_either (bodies_of p.classes j c) (bodies_from p.classes (j + 1) cs) n b h)

  -- each written body is a method or a constructor of the source without faults
  pub body_from : (n : ℕ) (b : BodyTree) → body_at (resolved p) n ≡ Some b → IsFrom p b
  body_from n b h = from_classes 0 p.classes (λ i c e. let z : 0 + i ≡ i = omega arith in rw z e) n b h
