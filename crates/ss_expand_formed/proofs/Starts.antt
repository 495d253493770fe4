-- What is known after the beginnings of fields, and what that says of the fields of a class.
use Rattle.std.proofs.Common.{◌≡◌, ℕ, zero, suc, ◌+◌, ◌-◌, ◌*◌, ◌<◌, ◌≤◌, List, [], ◌∷◌, length, map, take, Bool, true, false, Option, Some, None, refl, sym, ◌∙◌, ap, subst, arith, ⊎_elim}
use Rattle.std.specs.Prelude.{◌&&◌, ◌||◌, ◌==◌, not, nat_le, nat_lt, slice_get, sum_by, option_map, is_some, if◌then◌else◌}
use Rattle.std.proofs.lemmas.Bool.{cases_Bool, and_parts, and_from, eq-eqb, leb-true, ltb-true, le-leb, lt-ltb, false≢true}
use Rattle.std.proofs.lemmas.List.{length-map}
use Rattle.std.proofs.lemmas.Option.{same_Some, slice_get-map}
use Rattle.ss_core.specs.declared.names.Ty.{Ty}
use Rattle.ss_core.specs.declared.names.Ty.TheVariants as ty
use Rattle.ss_core.specs.Tree as core
use Rattle.ss_core.specs.Chain.{DeclaredField, in_class, all_fields, fields_of}
use Rattle.ss_ast.specs.Programs.{ClassTree, ProgramTree}
use Rattle.ss_tables.specs.Members.{FieldTree, fields_in}
use Rattle.ss_typed.specs.Tree.{ExprTree, StmtTrees, NoMore, Before, TypedTree}
use Rattle.ss_typed.specs.Tree as typed
use Rattle.ss_paths.specs.Sets.{Set, put}
use Rattle.ss_paths.specs.Fields as paths
use Rattle.ss_paths.specs.Fields.{Numbers, own_fields, written_fields, field_numbers, is_among}
use Rattle.ss_typed.specs.Lookups.{class_place}
use Rattle.ss_paths.specs.Assigned.{Assigned, starts_with_value, has_initializer, assigned_by_initializers, assigned_flow}
use Rattle.ss_paths.specs.Paths as source
use Rattle.ss_delayed_rules.specs.Constructors.{are_assigned_from, are_assigned, unassigned_faults, unassigned}
use Rattle.ss_delayed_rules.specs.Constructors as delayed
use Rattle.ss_resolver_rules.specs.Names.{class_env}
use Rattle.ss_resolver_rules.specs.Numbers.{field_count}
use Rattle.ss_resolver_rules.specs.Programs.{class, field, field_member, members, resolved}
use Rattle.ss_expand_rules.specs.Program.{field_at}
use Rattle.ss_expand_rules.specs.Constructors.{initialize, initializers_from, initializers_in, initializers}
use Rattle.ss_store_rules.specs.Good as good
use Rattle.ss_store_rules.specs.Construction.{has_fields_from}
use Rattle.ss_expand_formed.proofs.AdmissibleClasses as classes
use Rattle.ss_expand_formed.specs.Laws.{core_of}
use Rattle.ss_expand_formed.proofs.Places.{each_at, members_at}
use Rattle.ss_expand_formed.proofs.OwnFields.{own_at, first_number}
use Rattle.ss_expand_formed.proofs.Numbering.{is_declared_in, same_fields}
use Rattle.ss_expand_formed.proofs.Mild.{Fields}

-- ---- a list of fields that have their values

pub fields_from : (test : ℕ → Bool) (k : Fields) (m : ℕ) (ds : List DeclaredField) → ((i : ℕ) (d : DeclaredField) → slice_get ds i ≡ Some d → test d.class ≡ true → good.is_non_null d.field.ty ≡ true → k (m + i) ≡ true) → has_fields_from test k m ds ≡ true
fields_from test k m [] h = refl
fields_from test k m (d ∷ ds) h =
    let here : m + 0 ≡ m = omega arith in
    and_from _ _ (implied (test d.class) (good.is_non_null d.field.ty) (k m) (λ e f. subst (λ i. k i ≡ true) here (h 0 d refl e f)))
    (fields_from test k (m + 1) ds (λ i x e f g. let next : m + suc i ≡ m + 1 + i = omega arith in subst (λ j. k j ≡ true) next (h (suc i) x e f g)))
  where
    implied : (a b c : Bool) → (a ≡ true → b ≡ true → c ≡ true) → (not (a && b) || c) ≡ true
    implied true true c h = h refl refl
    implied true false c h = refl
    implied false b c h = refl

same_null : (t : Ty) → paths.is_non_null t ≡ good.is_non_null t
same_null ty.Int = refl
same_null ty.Bool = refl
same_null ty.Null = refl
same_null (ty.Ref t non_null) = refl

assigned_at : (own : Set) (j : ℕ) (fs : List core.FieldTree) (i : ℕ) (f : core.FieldTree) → are_assigned_from own j fs ≡ true → slice_get fs i ≡ Some f → paths.is_non_null f.ty ≡ true → own (j + i) ≡ true
assigned_at own j [] i f h e g = absurd (let z : ⊥ = cc in z)
assigned_at own j (x ∷ fs) zero f h e g =
    let here : j + 0 ≡ j = omega arith in
    let mine = (and_parts (not (paths.is_non_null x.ty) || own j) (are_assigned_from own (j + 1) fs) h).0 in
    let same = same_Some _ _ e in
    let wanted : paths.is_non_null x.ty ≡ true = ap (λ (y : core.FieldTree). paths.is_non_null y.ty) same ∙ g in
    ap own here ∙ (rw wanted at mine)
assigned_at own j (x ∷ fs) (suc i) f h e g =
    let next : j + suc i ≡ j + 1 + i = omega arith in
    ap own next ∙ assigned_at own (j + 1) fs i f (and_parts (not (paths.is_non_null x.ty) || own j) (are_assigned_from own (j + 1) fs) h).1 e g

pub no_unassigned : (p : TypedTree) (t : ℕ) (q : _) (a : Option Assigned) → unassigned_faults p t q a ≡ [] → are_assigned p t a ≡ true
no_unassigned p t q a h =
    ⊎_elim
    (λ yes. yes)
    (λ no. absurd (let bad : delayed.at unassigned q ∷ [] ≡ [] = rw no at h in let z : ⊥ = cc in z))
    (cases_Bool (are_assigned p t a))

module _ (p : ProgramTree) (k : ℕ) (c : ClassTree) (at : slice_get p.classes k ≡ Some c) where
  abbrev q : TypedTree
  q = resolved p

  abbrev t : ℕ
  t = 4 + 2 * k

  abbrev n : Numbers
  n = field_numbers q t

  pub own_is : own_fields q t ≡ map (field p.classes) (fields_in c.members)
  own_is =
      let place : class_place t ≡ k = omega arith in
      let z : 0 + k ≡ k = omega arith in
      ap (λ i. fields_of (slice_get q.classes i)) place ∙ ap fields_of (each_at (class p.classes) 0 p.classes k c at ∙ ap (λ i. Some (class p.classes i c)) z)

  -- a field that the class declares is one of its own
  own_field : (f : ℕ) (d : DeclaredField) → field_at q f ≡ Some d → (d.class == t) ≡ true → (i : ℕ) × (f ≡ n.first + i) × (slice_get (own_fields q t) i ≡ Some d.field)
  own_field f d there own =
      let among : is_among n f ≡ true = sym (same_fields q k f) ∙ ap (is_declared_in t) there ∙ own in
      let both = and_parts (nat_le n.first f) (nat_lt (f - n.first) n.count) among in
      let low = leb-true n.first f both.0 in
      let high = ltb-true (f - n.first) n.count both.1 in
      let i = f - n.first in
      let size : n.count ≡ length (fields_in c.members) = ap length own_is ∙ length-map (fields_in c.members) (field p.classes) in
      let g = at_place (fields_in c.members) i (omega arith) in
      let number : f ≡ n.first + i = omega arith in
      let here : field_at q (sum_by field_count (take k p.classes) + i) ≡ Some (in_class t (field p.classes g.0)) = own_at p k c at i g.0 g.1 in
      let same = first_number p k in
      let one : Some d ≡ Some (in_class t (field p.classes g.0)) = sym there ∙ ap (field_at q) (number ∙ ap (λ x. x + i) same) ∙ here in
      (i, number, ap (λ fs. slice_get fs i) own_is ∙ slice_get-map (field p.classes) (fields_in c.members) i ∙ ap (option_map (field p.classes)) g.1 ∙ sym (ap (λ (x : DeclaredField). Some x.field) (same_Some _ _ one)))
    where
      at_place : (gs : List FieldTree) (i : ℕ) → i < length gs → (g : FieldTree) × (slice_get gs i ≡ Some g)
      at_place [] i l = absurd (omega arith)
      at_place (g ∷ gs) zero l = (g, refl)
      at_place (g ∷ gs) (suc i) l = at_place gs i (omega arith)

  -- where the phase has no fault of them, the fields that the class declares have their values
  pub own_complete : (a : Assigned) (fields : Fields) → are_assigned_from a.own 0 (own_fields q t) ≡ true → ((i : ℕ) → a.own i ≡ true → fields (n.first + i) ≡ true) → (f : ℕ) (d : DeclaredField) → slice_get (all_fields (core_of p).classes) f ≡ Some d → (d.class == t) ≡ true → good.is_non_null d.field.ty ≡ true → fields f ≡ true
  own_complete a fields h own f d there mine wanted =
      let here : field_at q f ≡ Some d = ap (λ fs. slice_get fs f) (sym (classes.fields_stay p)) ∙ there in
      let r = own_field f d here mine in
      let z : 0 + r.0 ≡ r.0 = omega arith in
      ap fields r.1 ∙ own r.0 (ap a.own (sym z) ∙ assigned_at a.own 0 (own_fields q t) r.0 d.field h r.2 (same_null d.field.ty ∙ wanted))

  -- a field of the class is one of the program
  pub is_known : (f : ℕ) → is_among n f ≡ true → is_some (field_at q f) ≡ true
  is_known f h = by (field_at q f) (same_fields q k f ∙ h)
    where
      by : (o : Option DeclaredField) → is_declared_in t o ≡ true → is_some o ≡ true
      by None i = i
      by (Some d) i = refl

  -- ---- the beginnings of fields

  abbrev made : FieldTree → typed.FieldTree
  made f = field_member (class_env p.classes k) f

  abbrev flow : source.Flow Assigned
  flow = assigned_flow n

  -- after the beginnings of these fields, of which the first stands at place j
  pub record Begun (ms : List typed.FieldTree) (f j : ℕ) (a : Assigned) : Type 0 where
    pub state : Assigned
    pub is : source.at_end flow (initializers_from q t f ms) (Some a) ≡ Some state
    pub grows : (i : ℕ) → a.own i ≡ true → state.own i ≡ true
    pub has : (i : ℕ) → starts_with_value (slice_get ms i) ≡ true → state.own (j + i) ≡ true

  put_has : (x : ℕ) (own : Set) → put x true own x ≡ true
  unfolding put
  put_has x own = rw (eq-eqb x x refl) refl

  put_grows : (x i : ℕ) (own : Set) → own i ≡ true → put x true own i ≡ true
  unfolding put
  put_grows x i own h = by (x == i)
    where
      by : (b : Bool) → (if b then true else own i) ≡ true
      by true = refl
      by false = h

  -- from a place of the class on
  begins_from : (j f : ℕ) (gs : List FieldTree) (a : Assigned) → f ≡ n.first + j → j + length gs ≤ n.count → Begun (map made gs) f j a
  begins_from j f [] a is l = record { state = a; is = refl; grows = λ i h. h; has = λ i h. absurd (false≢true h) }
  begins_from j f (g ∷ gs) a is l =
      let low : nat_le n.first f ≡ true = le-leb n.first f (omega arith) in
      let place : f - n.first ≡ j = omega arith in
      let high : nat_lt (f - n.first) n.count ≡ true = lt-ltb (f - n.first) n.count (omega arith) in
      let among = and_from (nat_le n.first f) (nat_lt (f - n.first) n.count) low high in
      one (made g) (made g).initial refl (field_at q f) refl (is_known f among) among place (λ d. begins_from (j + 1) (f + 1) gs d (omega arith) (omega arith))
    where
      next : (m : typed.FieldTree) (a d : Assigned) → source.at_end flow (initializers_from q t f (m ∷ map made gs)) (Some a) ≡ source.at_end flow (initializers_from q t (f + 1) (map made gs)) (Some d) → ((i : ℕ) → a.own i ≡ true → d.own i ≡ true) → (starts_with_value (Some m) ≡ true → d.own j ≡ true) → Begun (map made gs) (f + 1) (j + 1) d → Begun (m ∷ map made gs) f j a
      next m a d same grows mine r = record { state = r.state; is = same ∙ r.is; grows = λ i h. r.grows i (grows i h); has = each }
        where
          each : (i : ℕ) → starts_with_value (slice_get (m ∷ map made gs) i) ≡ true → r.state.own (j + i) ≡ true
          each zero h = let here : j + 0 ≡ j = omega arith in ap r.state.own here ∙ r.grows j (mine h)
          each (suc i) h = let later : j + suc i ≡ j + 1 + i = omega arith in ap r.state.own later ∙ r.has i h

      one : (m : typed.FieldTree) (e : Option ExprTree) → m.initial ≡ e → (o : Option DeclaredField) → field_at q f ≡ o → is_some o ≡ true → is_among n f ≡ true → f - n.first ≡ j → ((d : Assigned) → Begun (map made gs) (f + 1) (j + 1) d) → Begun (m ∷ map made gs) f j a
      one m None is o there some among place go =
          let more = initializers_from q t (f + 1) (map made gs) in
          next m a a (ap (λ e. source.at_end flow (initialize t f m e (field_at q f) more) (Some a)) is) (λ i h. h) (λ h. absurd (false≢true (sym (ap is_some is) ∙ h))) (go a)
      one m (Some e) is None there some among place go = absurd (false≢true some)
      one m (Some e) is (Some d) there some among place go =
          let more = initializers_from q t (f + 1) (map made gs) in
          let b : Assigned = record a { own = put (f - n.first) true a.own } in
          next m a b
          (ap (λ x. source.at_end flow (initialize t f m x (field_at q f) more) (Some a)) is
          ∙ ap (λ x. source.at_end flow (initialize t f m (Some e) x more) (Some a)) there
          ∙ ap (λ (v : Bool). source.at_end flow more (Some (record a { own = if v then put (f - n.first) true a.own else a.own }))) among)
          (λ i h. put_grows (f - n.first) i a.own h) (λ h. ap (put (f - n.first) true a.own) (sym place) ∙ put_has (f - n.first) a.own) (go b)

  -- what is said of fields that begin with a value
  pub fields_are : written_fields q t ≡ map made (fields_in c.members)
  fields_are =
      let place : class_place t ≡ k = omega arith in
      let z : 0 + k ≡ k = omega arith in
      ap (λ i. paths.fields_of_members (slice_get q.members i)) place ∙ ap paths.fields_of_members (each_at (members p.classes) 0 p.classes k c at ∙ ap (λ i. Some (members p.classes i c)) z)

  abbrev none : Assigned
  none = record { own = λ i. false; above = false }

  all_begun : (gs : List FieldTree) → fields_in c.members ≡ gs → Begun (map made gs) n.first 0 none
  all_begun gs is =
      let size : n.count ≡ length gs = ap length own_is ∙ length-map (fields_in c.members) (field p.classes) ∙ ap length is in
      begins_from 0 n.first gs none (omega arith) (omega arith)

  -- each field that begins with a value has one
  pub record Started : Type 0 where
    pub state : Assigned
    pub is : source.at_end flow (initializers q t) (Some none) ≡ Some state
    pub has : (i : ℕ) → (assigned_by_initializers q t).own i ≡ true → state.own i ≡ true

  pub started : Started
  unfolding has_initializer
  started =
      let r = all_begun (fields_in c.members) refl in
      record {
        state = r.state;
        is = ap (λ m. source.at_end flow (initializers_in q t m) (Some none)) (members_at p k c at) ∙ r.is;
        has = λ i h. let z : 0 + i ≡ i = omega arith in ap r.state.own (sym z) ∙ r.has i (ap (λ fs. starts_with_value (slice_get fs i)) (sym fields_are) ∙ h);
      }
