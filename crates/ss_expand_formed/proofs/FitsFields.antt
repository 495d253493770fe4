-- What the fields of a class begin with, in a source without faults, fits in each constructor of the class.
use Rattle.std.proofs.Common.{◌≡◌, ℕ, zero, suc, ◌+◌, List, [], ◌∷◌, map, take, Bool, true, false, Option, Some, None, refl, sym, ◌∙◌, ap, subst, arith, ⊎_elim}
use Rattle.std.specs.Prelude.{slice_get, sum_by, option_map}
use Rattle.std.proofs.lemmas.Option.{same_Some}
use Rattle.ss_core.specs.Tree as core
use Rattle.ss_core.specs.Chain.{in_class, all_fields}
use Rattle.ss_core.proofs.Chains.{below_self}
use Rattle.ss_ast.specs.declared.class.Modifier.{Modifier}
use Rattle.ss_ast.specs.Expressions.{NameTree, TypeTree}
use Rattle.ss_ast.specs.Expressions as text
use Rattle.ss_ast.specs.Statements.{DeclaratorTree}
use Rattle.ss_ast.specs.Programs.{MemberKindTree, FieldsOf, InvariantOf, MethodOf, ConstructorOf, MemberTree, ClassTree, ProgramTree}
use Rattle.ss_tables.specs.Members.{FieldTree, declared_field, fields_of_kind, fields_in}
use Rattle.ss_tables.specs.Classes.{class_number}
use Rattle.ss_tables.specs.Scopes.{class_scope}
use Rattle.ss_typed.specs.Tree.{ExprTree, ThisOf, StmtTrees, TypedTree}
use Rattle.ss_typed.specs.Tree as typed
use Rattle.ss_typed.specs.Types.{class_type}
use Rattle.ss_owners_rules.specs.Words.{NoWord, misplaced_if}
use Rattle.ss_owners_rules.specs.Program.{ownership_faults}
use Rattle.ss_resolver_names_rules.specs.Faults.{type_faults}
use Rattle.ss_resolver_names_rules.specs.Statements.{faults_of_any}
use Rattle.ss_resolver_names_rules.specs.Members as naming
use Rattle.ss_resolver_names_rules.specs.Programs.{program_faults}
use Rattle.ss_resolver_types_heads.specs.Calls.{ExprContext}
use Rattle.ss_resolver_types_heads.specs.Expressions.{mark_faults}
use Rattle.ss_resolver_types_expressions.specs.Statements.{initial_faults}
use Rattle.ss_resolver_types_expressions.specs.Members as typing
use Rattle.ss_resolver_types_expressions.specs.Programs as phases
use Rattle.ss_resolver_rules.specs.Numbers.{type_id, field_count}
use Rattle.ss_resolver_rules.specs.Names.{class_env}
use Rattle.ss_resolver_rules.specs.Expressions.{expr}
use Rattle.ss_resolver_rules.specs.Programs.{field, field_member, resolved}
use Rattle.ss_paths.specs.Fields.{field_numbers}
use Rattle.ss_expand_rules.specs.Program.{field_at}
use Rattle.ss_expand_rules.specs.Constructors.{initial_assignment, initialize, initializers_from, initializers_in, initializers}
use Rattle.ss_expand_formed.specs.Laws.{core_of}
use Rattle.ss_expand_formed.proofs.Facts.{none_left}
use Rattle.ss_expand_formed.proofs.ChainLaw.{none_at, type_known}
use Rattle.ss_expand_formed.proofs.Entries.{append_from}
use Rattle.ss_expand_formed.proofs.Places.{members_at as members_there}
use Rattle.ss_expand_formed.proofs.OwnFields.{own_at, first_number}
use Rattle.ss_expand_formed.proofs.Fit.{Context}
use Rattle.ss_expand_formed.proofs.Classes.{type_there}
use Rattle.ss_expand_formed.proofs.ExpressionsPlaces.{IsKnown, IsPlace}
use Rattle.ss_expand_formed.proofs.Environments.{class_at}
use Rattle.ss_expand_formed.proofs.ExpressionsBodies.{members_typed}
use Rattle.ss_expand_formed.proofs.Callees.{same_fields}
use Rattle.ss_expand_formed.proofs.Fits.{FitAll, FitStmt}
use Rattle.ss_expand_formed.proofs.Given.{Stands, value_fits}
use Rattle.ss_expand_formed.proofs.Owned.{field_worded}

-- ---- fields without faults

module _ (p : ProgramTree) (k : ℕ) (c : ClassTree) where
  -- the context of the beginning of a field
  abbrev A : ExprContext
  A = typing.in_class p.classes k false

  pub record IsField (f : FieldTree) : Type 0 where
    pub type : type_faults p.classes f.ty ≡ []
    pub names : faults_of_any (class_scope p.classes k) f.initial ≡ []
    pub types : initial_faults A f.ty f.initial ≡ []

  of_declarators : (attributes : List NameTree) (t : TypeTree) → type_faults p.classes t ≡ [] → (ds : List DeclaratorTree) → naming.initials_faults (class_scope p.classes k) ds ≡ [] → typing.fields_faults A t ds ≡ [] →
      (i : ℕ) (f : FieldTree) → slice_get (map (declared_field attributes t) ds) i ≡ Some f → IsField f
  of_declarators attributes t h [] ns ts i f e = absurd (let z : ⊥ = cc in z)
  of_declarators attributes t h (d ∷ ds) ns ts zero f e =
      subst IsField (same_Some _ _ e) (record { type = h; names = (none_left (faults_of_any (class_scope p.classes k) d.initial) _ ns).0; types = (none_left (initial_faults A t d.initial) _ ts).0 })
  of_declarators attributes t h (d ∷ ds) ns ts (suc i) f e =
      of_declarators attributes t h ds (none_left (faults_of_any (class_scope p.classes k) d.initial) _ ns).1 (none_left (initial_faults A t d.initial) _ ts).1 i f e

  of_kind : (attributes : List NameTree) (words : List Modifier) (kind : MemberKindTree) → naming.kind_faults (class_scope p.classes k) words kind ≡ [] → typing.kind_faults p.classes k c words kind ≡ [] →
      (i : ℕ) (f : FieldTree) → slice_get (fields_of_kind attributes kind) i ≡ Some f → IsField f
  of_kind attributes words (FieldsOf d) h g i f e =
      let ns = none_left (type_faults p.classes d.ty) _ h in
      of_declarators attributes d.ty ns.0 d.declarators ns.1 (none_left (mark_faults d.ty) _ g).1 i f e
  of_kind attributes words (InvariantOf d) h g i f e = absurd (let z : ⊥ = cc in z)
  of_kind attributes words (MethodOf r n ps cs b) h g i f e = absurd (let z : ⊥ = cc in z)
  of_kind attributes words (ConstructorOf n ps base cs b) h g i f e = absurd (let z : ⊥ = cc in z)

  of_members : (ms : List MemberTree) → naming.members_faults (class_scope p.classes k) ms ≡ [] → phases.members_faults p.classes k c ms ≡ [] → (i : ℕ) (f : FieldTree) → slice_get (fields_in ms) i ≡ Some f → IsField f
  of_members [] h g i f e = absurd (let z : ⊥ = cc in z)
  of_members (y ∷ ms) h g i f e =
      let hs = none_left (naming.kind_faults (class_scope p.classes k) y.modifiers y.kind) _ h in
      let gs = none_left (typing.member_faults p.classes k c y) _ g in
      let kind = none_left (typing.surplus_words y) _ gs.0 in
      ⊎_elim
      (λ l. of_kind y.attributes y.modifiers y.kind hs.0 kind.1 l.0 f l.1)
      (λ r. of_members ms hs.1 gs.1 r.0 f r.1)
      (append_from (fields_of_kind y.attributes y.kind) (fields_in ms) i f e)

pub field_faultless : (p : ProgramTree) → program_faults p ≡ [] → phases.type_faults p ≡ [] → (k : ℕ) (c : ClassTree) → slice_get p.classes k ≡ Some c → (i : ℕ) (f : FieldTree) → slice_get (fields_in c.members) i ≡ Some f → IsField p k c f
field_faultless p faultless typed_well k c at i f e = of_members p k c c.members (none_at p faultless k c at).members (members_typed p faultless typed_well k c at) i f e

-- ---- initial assignments

module _ (p : ProgramTree) (faultless : program_faults p ≡ []) (typed_well : phases.type_faults p ≡ []) (owned : ownership_faults (resolved p) ≡ []) (k : ℕ) (c : ClassTree) (at : slice_get p.classes k ≡ Some c)
    (x : Context) (is_known : IsKnown p x) (constructs : Bool) (first : ℕ) (this : slice_get x.locals 0 ≡ Some (class_type (class_number k) true)) (place : IsPlace p x false false false (class_at p k 1)) where
  abbrev C : List core.ClassTree
  C = (core_of p).classes

  abbrev P : TypedTree
  P = resolved p

  abbrev t : ℕ
  t = class_number k

  abbrev InAll : StmtTrees → Type 0
  InAll ss = FitAll P C x constructs first ss

  abbrev made : FieldTree → typed.FieldTree
  made f = field_member (class_env p.classes k) f

  here : Stands p faultless x is_known false constructs 0 (class_at p k 1)
  here = record { place = place; unbound = refl; behind = omega arith }

  assigned : (f : ℕ) (g : FieldTree) → field_at P f ≡ Some (in_class t (field p.classes g)) → IsField p k c g → (e : text.ExprTree) → faults_of_any (class_scope p.classes k) (Some e) ≡ [] → initial_faults (typing.in_class p.classes k false) g.ty (Some e) ≡ [] → misplaced_if NoWord (Some (expr (class_env p.classes k) e)) ≡ [] →
      FitStmt P C x constructs first (initial_assignment t f g.name.place (field p.classes g) (expr (class_env p.classes k) e))
  assigned f g is fine e names types words =
      let known = type_known p faultless g.ty fine.type in
      let v = value_fits p faultless x is_known false constructs 0 (class_at p k 1) here _ (type_id p.classes g.ty) (type_there p faultless g.ty known) known e names types words in
      let there : slice_get (all_fields C) f ≡ Some (in_class t (field p.classes g)) = ap (λ fs. slice_get fs f) (same_fields P) ∙ is in
      (((this, record { field = _; there = there; has = below_self C t; type = refl }), refl, refl), v.0, v.1)

  initialized : (f : ℕ) (g : FieldTree) → field_at P f ≡ Some (in_class t (field p.classes g)) → IsField p k c g → (o : Option text.ExprTree) → faults_of_any (class_scope p.classes k) o ≡ [] → initial_faults (typing.in_class p.classes k false) g.ty o ≡ [] → misplaced_if NoWord (option_map (expr (class_env p.classes k)) o) ≡ [] →
      (more : StmtTrees) → InAll more → InAll (initialize t f (made g) (option_map (expr (class_env p.classes k)) o) (Some (in_class t (field p.classes g))) more)
  initialized f g is fine None names types words more h = h
  initialized f g is fine (Some e) names types words more h = (assigned f g is fine e names types words, h)

  abbrev first_field : ℕ
  first_field = sum_by field_count (take k p.classes)

  -- from a place of the class on
  from_fit : (i f : ℕ) (gs : List FieldTree) → f ≡ first_field + i → ((j : ℕ) (g : FieldTree) → slice_get gs j ≡ Some g → slice_get (fields_in c.members) (i + j) ≡ Some g) → InAll (initializers_from P t f (map made gs))
  from_fit i f [] is there = tt
  from_fit i f (g ∷ gs) is there =
      let z : i + 0 ≡ i = omega arith in
      let mine : slice_get (fields_in c.members) i ≡ Some g = subst (λ n. slice_get (fields_in c.members) n ≡ Some g) z (there 0 g refl) in
      let field_is : field_at P f ≡ Some (in_class t (field p.classes g)) = ap (field_at P) is ∙ own_at p k c at i g mine in
      let fine = field_faultless p faultless typed_well k c at i g mine in
      let rest = from_fit (i + 1) (f + 1) gs (omega arith) (λ j y e. let next : i + suc j ≡ i + 1 + j = omega arith in subst (λ n. slice_get (fields_in c.members) n ≡ Some y) next (there (suc j) y e)) in
      subst (λ d. InAll (initialize t f (made g) (made g).initial d (initializers_from P t (f + 1) (map made gs)))) (sym field_is)
      (initialized f g field_is fine g.initial fine.names fine.types (field_worded p owned k c at i g mine) (initializers_from P t (f + 1) (map made gs)) rest)

  all_fit : (gs : List FieldTree) → fields_in c.members ≡ gs → InAll (initializers_from P t (field_numbers P t).first (map made gs))
  all_fit gs is =
      let start : first_field + 0 ≡ first_field = omega arith in
      from_fit 0 (field_numbers P t).first gs (first_number p k ∙ sym start) (λ j y e. let z : 0 + j ≡ j = omega arith in rw z (ap (λ fs. slice_get fs j) is ∙ e))

  -- the fields of the class begin with what fits
  pub initializers_fit : InAll (initializers P t)
  initializers_fit = subst (λ m. InAll (initializers_in P t m)) (sym (members_there p k c at)) (all_fit (fields_in c.members) refl)
