-- The beginnings of fields keep nulls out, each with what the phase of null knows after those before it.
use Rattle.std.proofs.Common.{◌≡◌, ℕ, zero, suc, ◌+◌, ◌-◌, ◌*◌, ◌<◌, ◌≤◌, List, [], ◌∷◌, length, map, take, Bool, true, false, Option, Some, None, refl, sym, ◌∙◌, ap, subst, arith, ⊎_elim}
use Rattle.std.specs.Prelude.{◌&&◌, ◌==◌, nat_le, nat_lt, slice_get, sum_by, option_map, is_some, if◌then◌else◌}
use Rattle.std.proofs.lemmas.Bool.{and_parts, and_from, cases_lt, eq-eqb, ltb-true, le-leb, lt-ltb, false≢true}
use Rattle.std.proofs.lemmas.List.{length-map}
use Rattle.std.proofs.lemmas.Option.{slice_get-map}
use Rattle.ss_core.specs.Chain.{DeclaredField, in_class}
use Rattle.ss_ast.specs.Programs.{ClassTree, ProgramTree}
use Rattle.ss_ast.specs.declared.stmt.AssignOperator.TheVariants as operator
use Rattle.ss_tables.specs.Members.{FieldTree, fields_in}
use Rattle.ss_typed.specs.Tree.{ExprTree, ThisOf, FieldOf, AssignOf, SimpleOf, StmtTrees, NoMore, Before, TypedTree}
use Rattle.ss_typed.specs.Tree as typed
use Rattle.ss_paths.specs.Sets.{Set, none, put}
use Rattle.ss_paths.specs.Fields.{Numbers, own_fields, field_numbers, is_among}
use Rattle.ss_paths.specs.Assigned.{Assigned, has_field, starts_with_value, has_initializer, assigned_by_initializers}
use Rattle.ss_nonnull_rules.specs.NonNull as source
use Rattle.ss_nonnull_rules.specs.Faults.{done_faults}
use Rattle.ss_nonnull_rules.specs.Program as nulls
use Rattle.ss_nonnull_rules.specs.Program.{initializer_context, initialized, initializer_faults}
use Rattle.ss_resolver_rules.specs.Names.{class_env}
use Rattle.ss_resolver_rules.specs.Numbers.{field_count}
use Rattle.ss_resolver_rules.specs.Programs.{field, field_member, members, resolved}
use Rattle.ss_expand_rules.specs.Program.{field_at}
use Rattle.ss_expand_rules.specs.Constructors.{before_all, initialize, initializers_from, initializers_in, initializers}
use Rattle.ss_expand_formed.proofs.Facts.{none_left}
use Rattle.ss_expand_formed.proofs.Places.{members_at}
use Rattle.ss_expand_formed.proofs.OwnFields.{own_at, first_number}
use Rattle.ss_expand_formed.proofs.Starts.{own_is, fields_are}
use Rattle.ss_expand_formed.specs.Fitting.{Frame, simple_fits, all_fitting, Agrees, Builds}
use Rattle.ss_expand_formed.specs.Bodies.{nothing_known}
use Rattle.ss_expand_formed.proofs.Seams.{Less, HoldFrom, from_less, after_simple}

-- ---- sets of fields

-- a field counts as assigned where no more do
pub own_less : (n : Numbers) (f : ℕ) (a b : Assigned) → ((i : ℕ) → a.own i ≡ true → b.own i ≡ true) → (a.above ≡ true → b.above ≡ true) → has_field n a f ≡ true → has_field n b f ≡ true
own_less n f a b own above h = by (is_among n f) h
  where
    by : (v : Bool) → (if v then a.own (f - n.first) else a.above) ≡ true → (if v then b.own (f - n.first) else b.above) ≡ true
    by true i = own (f - n.first) i
    by false i = above i

-- one place more, where nothing begins with a value
fewer : (has : Set) (j i : ℕ) → has j ≡ false → (nat_lt i (j + 1) && has i) ≡ true → (nat_lt i j && has i) ≡ true
fewer has j i empty h =
    let both = and_parts (nat_lt i (j + 1)) (has i) h in
    let high = ltb-true i (j + 1) both.0 in
    ⊎_elim
    (λ less. and_from _ _ (lt-ltb i j less) both.1)
    (λ more. let same : j ≡ i = omega arith in absurd (false≢true (sym empty ∙ ap has same ∙ both.1)))
    (cases_lt i j)

-- and where it does
put_more : (has : Set) (j i : ℕ) → (nat_lt i (j + 1) && has i) ≡ true → put j true (λ y. nat_lt y j && has y) i ≡ true
unfolding put
put_more has j i h = by (j == i) refl
  where
    by : (v : Bool) → (j == i) ≡ v → (if v then true else (nat_lt i j && has i)) ≡ true
    by true e = refl
    by false e =
        let both = and_parts (nat_lt i (j + 1)) (has i) h in
        let high = ltb-true i (j + 1) both.0 in
        ⊎_elim
        (λ less. and_from _ _ (lt-ltb i j less) both.1)
        (λ more. let same : j ≡ i = omega arith in absurd (false≢true (sym e ∙ eq-eqb j i same)))
        (cases_lt i j)

none_before : {X : Type 0} (i : ℕ) (v : Bool) → (nat_lt i 0 && v) ≡ true → X
none_before i v h = let low = ltb-true i 0 (and_parts (nat_lt i 0) v h).0 in absurd (omega arith)

within : (ms : List typed.FieldTree) (i : ℕ) → starts_with_value (slice_get ms i) ≡ true → i < length ms
within [] i h = absurd (false≢true h)
within (m ∷ ms) zero h = omega arith
within (m ∷ ms) (suc i) h = let l = within ms i h in omega arith

module _ (p : ProgramTree) (k : ℕ) (c : ClassTree) (at : slice_get p.classes k ≡ Some c) where
  abbrev q : TypedTree
  q = resolved p

  abbrev t : ℕ
  t = 4 + 2 * k

  abbrev n : Numbers
  n = field_numbers q t

  abbrev made : FieldTree → typed.FieldTree
  made f = field_member (class_env p.classes k) f

  -- what the phase knows after so many of the beginnings
  abbrev begun : ℕ → source.Known
  begun j = record { facts = none; fields = record { own = λ i. nat_lt i j && has_initializer q t i; above = false } }

  -- and after all of them
  abbrev pub all_initialized : source.Known
  all_initialized = record { facts = none; fields = assigned_by_initializers q t }

  starts_at : (j : ℕ) (g : FieldTree) → slice_get (fields_in c.members) j ≡ Some g → has_initializer q t j ≡ is_some (made g).initial
  unfolding has_initializer
  starts_at j g e = ap (λ fs. starts_with_value (slice_get fs j)) (fields_are p k c at) ∙ ap starts_with_value (slice_get-map made (fields_in c.members) j ∙ ap (option_map made) e)

  starts_within : (i : ℕ) → has_initializer q t i ≡ true → i < length (fields_in c.members)
  unfolding has_initializer
  starts_within i h =
      let l = within (map made (fields_in c.members)) i (ap (λ fs. starts_with_value (slice_get fs i)) (sym (fields_are p k c at)) ∙ h) in
      let size = length-map (fields_in c.members) made in
      omega arith

  module _ (z : Frame) (agrees : Agrees z) (builds : Builds z) (context : z.context ≡ initializer_context q t) where
    abbrev ns : Numbers
    ns = z.context.numbers

    numbers_are : ns ≡ n
    numbers_are = ap (λ (s : source.NullContext). s.numbers) context

    -- one beginning more
    one : (m : typed.FieldTree) (e : Option ExprTree) (d : DeclaredField) (j f : ℕ) (rest more : StmtTrees) → has_initializer q t j ≡ is_some e → is_among ns f ≡ true → f - ns.first ≡ j → initializer_faults (initializer_context q t) (initialized q t j) d.field.ty e ≡ [] →
        all_fitting z (initialize t f m e (Some d) rest) ≡ true → (all_fitting z rest ≡ true → HoldFrom z (begun (j + 1)) (before_all rest more)) → HoldFrom z (begun j) (before_all (initialize t f m e (Some d) rest) more)
    one m None d j f rest more starts among place clean fit go =
        from_less z (begun (j + 1)) (begun j) (before_all rest more)
        (record { facts = λ x i. i; fields = λ g o h. own_less ns g (begun (j + 1)).fields (begun j).fields (λ i own. fewer (has_initializer q t) j i starts own) (λ i. i) h })
        (go fit)
    one m (Some e) d j f rest more starts among place clean fit go =
        let x = AssignOf (FieldOf m.place (ThisOf m.place t) f d.field.ty) operator.Set e in
        let both = and_parts (simple_fits z x) (all_fitting z rest) fit in
        let a = (begun j).fields in
        let filled : (i : ℕ) → (begun (j + 1)).fields.own i ≡ true → (source.known_done z.context x (begun j)).fields.own i ≡ true = λ i own.
        ap (λ (v : Bool). (if v then put (f - ns.first) true a.own else a.own) i) among ∙ ap (λ y. put y true a.own i) place ∙ put_more (has_initializer q t) j i own in
        after_simple z agrees builds (begun j) (begun (j + 1)) x (before_all rest more) both.0 (subst (λ s. done_faults s x (Some (begun j)) ≡ []) (sym context) clean)
        (record { facts = λ y i. i; fields = λ g o h. own_less ns g (begun (j + 1)).fields (source.known_done z.context x (begun j)).fields filled (λ i. i) h })
        (go both.1)

    -- from a place of the class on
    from_place : (j f : ℕ) (gs : List FieldTree) → f ≡ n.first + j → j + length gs ≤ n.count → ((i : ℕ) (g : FieldTree) → slice_get gs i ≡ Some g → slice_get (fields_in c.members) (j + i) ≡ Some g) →
        nulls.initializers_from q t j (map made gs) (map (field p.classes) gs) ≡ [] → all_fitting z (initializers_from q t f (map made gs)) ≡ true → (more : StmtTrees) → HoldFrom z (begun (j + length gs)) more → HoldFrom z (begun j) (before_all (initializers_from q t f (map made gs)) more)
    from_place j f [] is high there clean fit more go = let e : j + 0 ≡ j = omega arith in subst (λ i. HoldFrom z (begun i) more) e go
    from_place j f (g ∷ gs) is high there clean fit more go =
        let here : j + 0 ≡ j = omega arith in
        let mine : slice_get (fields_in c.members) j ≡ Some g = subst (λ i. slice_get (fields_in c.members) i ≡ Some g) here (there 0 g refl) in
        let d = in_class t (field p.classes g) in
        let first = first_number p k in
        let found : field_at q f ≡ Some d = ap (field_at q) (is ∙ ap (λ i. i + j) first) ∙ own_at p k c at j g mine in
        let begins : ns.first ≡ n.first = ap (λ (s : Numbers). s.first) numbers_are in
        let count : ns.count ≡ n.count = ap (λ (s : Numbers). s.count) numbers_are in
        let low : nat_le ns.first f ≡ true = le-leb ns.first f (omega arith) in
        let place : f - ns.first ≡ j = omega arith in
        let inside : nat_lt (f - ns.first) ns.count ≡ true = lt-ltb (f - ns.first) ns.count (omega arith) in
        let rest = initializers_from q t (f + 1) (map made gs) in
        let both = none_left (initializer_faults (initializer_context q t) (initialized q t j) d.field.ty (made g).initial) (nulls.initializers_from q t (j + 1) (map made gs) (map (field p.classes) gs)) clean in
        let sum : j + 1 + length gs ≡ j + suc (length gs) = omega arith in
        let later : all_fitting z rest ≡ true → HoldFrom z (begun (j + 1)) (before_all rest more) = λ i.
        from_place (j + 1) (f + 1) gs (omega arith) (omega arith) (λ i x e. let next : j + suc i ≡ j + 1 + i = omega arith in subst (λ y. slice_get (fields_in c.members) y ≡ Some x) next (there (suc i) x e)) both.1 i more (subst (λ i. HoldFrom z (begun i) more) (sym sum) go) in
        subst (λ (o : Option DeclaredField). all_fitting z (initialize t f (made g) (made g).initial o rest) ≡ true → HoldFrom z (begun j) (before_all (initialize t f (made g) (made g).initial o rest) more)) (sym found)
        (λ i. one (made g) (made g).initial d j f rest more (starts_at j g mine) (and_from (nat_le ns.first f) (nat_lt (f - ns.first) ns.count) low inside) place both.0 i later) fit

    from_first : (gs : List FieldTree) → fields_in c.members ≡ gs → nulls.initializers_from q t 0 (map made gs) (map (field p.classes) gs) ≡ [] → all_fitting z (initializers_from q t n.first (map made gs)) ≡ true → (more : StmtTrees) → HoldFrom z (begun (length gs)) more →
        HoldFrom z (begun 0) (before_all (initializers_from q t n.first (map made gs)) more)
    from_first gs is clean fit more go =
        let size : n.count ≡ length gs = ap length (own_is p k c at) ∙ length-map (fields_in c.members) (field p.classes) ∙ ap length is in
        let zero_more : 0 + length gs ≡ length gs = omega arith in
        from_place 0 n.first gs (omega arith) (omega arith) (λ i x e. let y : 0 + i ≡ i = omega arith in rw y (ap (λ fs. slice_get fs i) is ∙ e)) clean fit more (subst (λ i. HoldFrom z (begun i) more) (sym zero_more) go)

    pub after_initializers : nulls.initializers_from q t 0 (members p.classes k c).fields (own_fields q t) ≡ [] → all_fitting z (initializers q t) ≡ true → (more : StmtTrees) → HoldFrom z all_initialized more → HoldFrom z nothing_known (before_all (initializers q t) more)
    after_initializers clean fit more go =
        let gs = fields_in c.members in
        let pure : nulls.initializers_from q t 0 (map made gs) (map (field p.classes) gs) ≡ [] = ap (nulls.initializers_from q t 0 (map made gs)) (sym (own_is p k c at)) ∙ clean in
        let last : Less z all_initialized (begun (length gs)) = record { facts = λ x i. i; fields = λ f o h. own_less ns f all_initialized.fields (begun (length gs)).fields (λ i own. and_from _ _ (lt-ltb i (length gs) (starts_within i own)) own) (λ i. i) h } in
        let start : Less z (begun 0) nothing_known = record { facts = λ x i. i; fields = λ f o h. own_less ns f (begun 0).fields nothing_known.fields (λ i own. none_before i (has_initializer q t i) own) (λ i. i) h } in
        let fitting : all_fitting z (initializers_in q t (Some (members p.classes k c))) ≡ true = subst (λ m. all_fitting z (initializers_in q t m) ≡ true) (members_at p k c at) fit in
        let whole = from_first gs refl pure fitting more (from_less z all_initialized (begun (length gs)) more last go) in
        from_less z (begun 0) nothing_known (before_all (initializers q t) more) start (subst (λ m. HoldFrom z (begun 0) (before_all (initializers_in q t m) more)) (sym (members_at p k c at)) whole)
