-- A constructor that isn't delayed has given the fields of its class their values where its `this` becomes ready.
use Rattle.std.proofs.Common.{◌≡◌, ℕ, ◌+◌, ◌*◌, List, [], ◌∷◌, ◌++◌, Bool, true, false, Option, Some, None, refl, sym, ◌∙◌, ap, subst, arith, inl, inr, ◌⊎◌, ⊎_elim}
use Rattle.std.specs.Prelude.{◌||◌, ◌==◌, not, slice_get, is_some, option_map, if◌then◌else◌}
use Rattle.std.proofs.lemmas.Bool.{cases_Bool, or_left, or_right, false≢true}
use Rattle.ss_core.specs.Tree as core
use Rattle.ss_core.specs.Chain.{all_fields}
use Rattle.ss_core.specs.View.{code_of}
use Rattle.ss_ast.specs.Programs.{ClassTree, ProgramTree}
use Rattle.ss_tables.specs.Members.{ConstructorTree, constructors_in}
use Rattle.ss_typed.specs.Tree.{SimpleOf, StmtTrees, NoMore, Before, BodyTree, TypedTree}
use Rattle.ss_paths.specs.Fields.{Numbers, field_numbers, is_among}
use Rattle.ss_paths.specs.Assigned.{Assigned, assigned_by_initializers, assigned_flow}
use Rattle.ss_paths.specs.Paths as source
use Rattle.ss_delayed_rules.specs.Escapes.{NotAtAll, uses_each, uses_in_all, uses_along}
use Rattle.ss_delayed_rules.specs.Opening.{opening, written_base}
use Rattle.ss_delayed_rules.specs.Constructors.{escapes, are_assigned, unassigned_faults, arguments_of, place_of_base, delayed_faults, undelayed_faults}
use Rattle.ss_delayed_rules.specs.Program.{classes_faults, body_faults, bodies_faults, construction_faults}
use Rattle.ss_resolver_rules.specs.Programs.{constructor_body, resolved}
use Rattle.ss_resolver_types_expressions.specs.Programs.{type_faults}
use Rattle.ss_expand_rules.specs.Program.{field_at, table, Origin}
use Rattle.ss_typed.specs.Lookups.{body_at}
use Rattle.ss_expand_rules.specs.Contracts.{first_param, declarations}
use Rattle.ss_expand_rules.specs.Constructors.{before_all, initializers}
use Rattle.ss_expand_rules.specs.Lifting.{ElaborationContext}
use Rattle.ss_expand_rules.specs.Statements.{stmts}
use Rattle.ss_expand_rules.specs.Bodies.{first_copy, copying_from, copying, written_body}
use Rattle.ss_store_rules.specs.Locals.{each}
use Rattle.ss_store_rules.specs.Paths.{at_end, where_reached}
use Rattle.ss_store_rules.specs.NonNull.{Known, known_at_entry, known_flow}
use Rattle.ss_store_rules.specs.Construction as store
use Rattle.ss_store_rules.specs.Construction.{has_fields_from, has_own_fields, if_undelayed, is_ready_with_fields}
use Rattle.ss_expand_formed.specs.Laws.{core_of}
use Rattle.ss_expand_formed.proofs.Facts.{none_left}
use Rattle.ss_expand_formed.proofs.Bodies.{IsMade, WrittenConstructor, ImplicitConstructor, WrittenMethod, Wrapper, origin_of}
use Rattle.ss_expand_formed.proofs.Resolved.{method_is}
use Rattle.ss_expand_formed.proofs.Along.{at_none, at_end-append}
use Rattle.ss_expand_formed.proofs.Shape.{Code}
use Rattle.ss_expand_formed.proofs.Choices.{where_chosen}
use Rattle.ss_expand_formed.proofs.Bases.{OnlySimple}
use Rattle.ss_expand_formed.proofs.Begins.{initializers_simple}
use Rattle.ss_expand_formed.proofs.Sources.{of_each}
use Rattle.ss_expand_formed.proofs.ConstructionWritten.{copies_pass, simple_first, given, lifted_given, s, above, before, front}
use Rattle.ss_expand_formed.proofs.Builds.{Builds, constructor_built}
use Rattle.ss_expand_formed.proofs.Delayed.{ready_below_object}
use Rattle.ss_expand_formed.proofs.Beginnings.{opening_is}
use Rattle.ss_expand_formed.proofs.Keeping.{body_none}
use Rattle.ss_expand_formed.proofs.WritesFirst.{one_wanted}
use Rattle.ss_expand_formed.specs.Fields.{AreReadyWithFields}
use Rattle.ss_expand_formed.proofs.Mild.{Fields, fields_flow, is_mild, end_same}
use Rattle.ss_expand_formed.proofs.MildCode.{IsMild, given_is_mild}
use Rattle.ss_expand_formed.proofs.Simulation.{Knows, KnowsAt, adds, adds_at, unreached, simples_go}
use Rattle.ss_expand_formed.proofs.Starts.{fields_from, no_unassigned, own_complete, is_known, started}

pub simple_after : (xs ys : StmtTrees) → OnlySimple (before_all xs ys) → OnlySimple ys
simple_after NoMore ys h = h
simple_after (Before (SimpleOf x) xs) ys h = simple_after xs ys h.1
simple_after (Before x xs) ys h = absurd h

abbrev pub nothing_first : Fields
nothing_first f = false

-- copies of parameters assign no field
pub copies_mild : (b : BodyTree) → IsMild (copying b)
copies_mild b =
    let first : first_param b + 0 ≡ first_param b = omega arith in
    subst (λ x. each is_mild (code_of (copying_from b.block (first_copy b) x b.params)) ≡ true) first (copies_pass is_mild b.block (first_param b) (λ q x y. refl) (first_copy b) 0 b.params)

module _ (c : core.CoreTree) (y : core.BodyTree) (n : Numbers) where
  pub go_on : (first : Fields) (a : Assigned) (d : Option Assigned) (xs : Code) (l : Option Fields) → KnowsAt c y n first (Some a) l → ((m : Fields) → Knows c y n first a m → KnowsAt c y n first d (at_end (fields_flow c y) (code_of xs) (Some m))) → KnowsAt c y n first d (at_end (fields_flow c y) (code_of xs) l)
  go_on first a d xs None h f = subst (KnowsAt c y n first d) (sym (at_none (fields_flow c y) (code_of xs))) (unreached c y n first d)
  go_on first a d xs (Some m) h f = f m h

  -- fewer fields are known too
  pub fewer : (first : Fields) (a d : Assigned) (k : Option Fields) → ((i : ℕ) → d.own i ≡ true → a.own i ≡ true) → KnowsAt c y n first (Some a) k → KnowsAt c y n first (Some d) k
  fewer first a d None h g = tt
  fewer first a d (Some k) h g = record { own = λ i e. g.own i (h i e); given = g.given }

own_reached : (cs : List core.ClassTree) (t : ℕ) (x : Option Known) → where_reached (has_own_fields cs t) x ≡ where_reached (λ k. has_fields_from (λ u. u == t) k 0 (all_fields cs)) (option_map (λ (z : Known). z.fields) x)
own_reached cs t None = refl
own_reached cs t (Some k) = refl

module _ (p : ProgramTree) (k : ℕ) (c : ClassTree) (at : slice_get p.classes k ≡ Some c) (b : BodyTree) (is : b.class ≡ 4 + 2 * k) (y : core.BodyTree) where
  abbrev q : TypedTree
  q = resolved p

  abbrev n : Numbers
  n = field_numbers q (4 + 2 * k)

  abbrev End : Code → Option Fields → Option Fields
  End xs l = at_end (fields_flow (core_of p) y) (code_of xs) l

  -- after the copies and the beginnings of fields
  pub started_knows : (z : ElaborationContext) → z.program ≡ q → (l : Fields) → Knows (core_of p) y n nothing_first (record { own = λ i. false; above = false }) l →
      KnowsAt (core_of p) y n nothing_first (Some (assigned_by_initializers q (4 + 2 * k))) (End (stmts z (initializers q (4 + 2 * k)) []).code (Some l))
  started_knows z same l h =
      let r = started p k c at in
      let known : (f : ℕ) → is_among n f ≡ true → is_some (field_at z.program f) ≡ true = λ f i. ap (λ w. is_some (field_at w f)) same ∙ is_known p k c at f i in
      let go = simples_go (core_of p) y n nothing_first z known (initializers q (4 + 2 * k)) [] (record { own = λ i. false; above = false }) l (initializers_simple q (4 + 2 * k)) h in
      fewer (core_of p) y n nothing_first r.state (assigned_by_initializers q (4 + 2 * k)) (End (stmts z (initializers q (4 + 2 * k)) []).code (Some l)) r.has (subst (λ a. KnowsAt (core_of p) y n nothing_first a (End (stmts z (initializers q (4 + 2 * k)) []).code (Some l))) r.is go)

  -- where the fields of the class have their values
  own_test : (a : Option Assigned) (l : Option Fields) → are_assigned q (4 + 2 * k) a ≡ true → KnowsAt (core_of p) y n nothing_first a l → where_reached (λ z. has_fields_from (λ u. u == 4 + 2 * k) z 0 (all_fields (core_of p).classes)) l ≡ true
  own_test a None h g = refl
  own_test None (Some l) h g = absurd (let e : ⊥ = cc in e)
  own_test (Some a) (Some l) h g =
      fields_from (λ u. u == 4 + 2 * k) l 0 (all_fields (core_of p).classes)
      (λ i d there mine wanted. let z : 0 + i ≡ i = omega arith in ap l z ∙ own_complete p k c at a l h g.own i d there mine wanted)

  -- ---- the code before `base(..)`

  -- where these statements stand after the beginnings of fields, and no more than these have begun
  module _ (r : Builds q b) (onward : StmtTrees) (parts : r.begins.front ≡ before_all (initializers q (4 + 2 * k)) onward) (start : Assigned) (less : (i : ℕ) → start.own i ≡ true → (assigned_by_initializers q (4 + 2 * k)).own i ≡ true) where
    pub front_knows : KnowsAt (core_of p) y n nothing_first (source.at_end (assigned_flow n) onward (Some start)) (End (front q b r.begins) (Some nothing_first))
    front_knows =
        let z = s q b r.begins in
        let inits = initializers q (4 + 2 * k) in
        let known : (f : ℕ) → is_among n f ≡ true → is_some (field_at z.program f) ≡ true = is_known p k c at in
        let begun : Assigned = record { own = λ i. false; above = false } in
        let entry : Knows (core_of p) y n nothing_first begun nothing_first = record { own = λ i e. absurd (false≢true e); given = λ f e. absurd (false≢true e) } in
        let m = (stmts z inits []).made in
        let later = (stmts z onward m).code in
        let lifts = lifted_given z (above q b r.begins) r.begins.given (before q b r.begins).made in
        let lifts_mild : IsMild lifts = where_chosen IsMild (above q b r.begins == 0) [] (given z (above q b r.begins) r.begins.given (before q b r.begins).made).code (λ yes. refl) (λ other. given_is_mild z _ r.begins.given (before q b r.begins).made) in
        let only : OnlySimple onward = simple_after inits onward (subst OnlySimple parts r.begins.simple) in
        let code_parts : (before q b r.begins).code ≡ (stmts z inits []).code ++ later = ap (λ f. (stmts z f []).code) parts ∙ simple_first z inits onward [] (initializers_simple q (4 + 2 * k)) in
        let end = source.at_end (assigned_flow n) onward (Some start) in
        let one = adds (core_of p) y n nothing_first begun nothing_first (copying b) (copies_mild b) entry in
        let inner = go_on (core_of p) y n nothing_first begun (Some (assigned_by_initializers q (4 + 2 * k))) (stmts z inits []).code (End (copying b) (Some nothing_first)) one (λ x i. started_knows z refl x i) in
        let two = fewer (core_of p) y n nothing_first (assigned_by_initializers q (4 + 2 * k)) start (End (stmts z inits []).code (End (copying b) (Some nothing_first))) less inner in
        let three = go_on (core_of p) y n nothing_first start end later (End (stmts z inits []).code (End (copying b) (Some nothing_first))) two (λ x i. simples_go (core_of p) y n nothing_first z known onward m start x only i) in
        let four = adds_at (core_of p) y n nothing_first end (End later (End (stmts z inits []).code (End (copying b) (Some nothing_first)))) lifts lifts_mild three in
        let whole : End (front q b r.begins) (Some nothing_first) ≡ End lifts (End later (End (stmts z inits []).code (End (copying b) (Some nothing_first)))) =
        at_end-append (fields_flow (core_of p) y) (copying b) ((before q b r.begins).code ++ lifts) (Some nothing_first)
        ∙ at_end-append (fields_flow (core_of p) y) (before q b r.begins).code lifts (End (copying b) (Some nothing_first))
        ∙ ap (λ xs. End lifts (End xs (End (copying b) (Some nothing_first)))) code_parts
        ∙ ap (End lifts) (at_end-append (fields_flow (core_of p) y) (stmts z inits []).code later (End (copying b) (Some nothing_first))) in
        subst (KnowsAt (core_of p) y n nothing_first end) (sym whole) four

ready_from : (c : core.CoreTree) (y : core.BodyTree) (xs : core.CodeTree) → store.opening y.code ≡ xs → y.flags.ctor ≡ true → where_reached (λ k. has_fields_from (λ u. u == y.class) k 0 (all_fields c.classes)) (at_end (fields_flow c y) xs (Some nothing_first)) ≡ true → is_ready_with_fields c y ≡ true
ready_from c y xs e ctor h =
    own_reached c.classes y.class (at_end (known_flow c y) (store.opening y.code) (Some (known_at_entry y)))
    ∙ ap (where_reached (λ k. has_fields_from (λ u. u == y.class) k 0 (all_fields c.classes)))
    (end_same c y (store.opening y.code) (Some (known_at_entry y)) ∙ ap (λ code. at_end (fields_flow c y) code (Some (λ f. not y.flags.ctor))) e ∙ ap (λ (v : Bool). at_end (fields_flow c y) xs (Some (λ f. not v))) ctor)
    ∙ h

abbrev Ready : ProgramTree → BodyTree → Type 0
Ready p b = body_faults (resolved p) b ≡ [] → b.flags.delayed ≡ false → (bs : List BodyTree) → (b.flags.ctor ≡ false) ⊎ (is_ready_with_fields (core_of p) (written_body (resolved p) b bs) ≡ true)

module _ (p : ProgramTree) (types : type_faults p ≡ []) where
  constructor_ready : (k : ℕ) (c : ClassTree) → slice_get p.classes k ≡ Some c → (n : ℕ) (d : ConstructorTree) → slice_get (constructors_in c.members) n ≡ Some d → Ready p (constructor_body p.classes k d)
  constructor_ready k c at i d e h early bs = ⊎_elim (λ n. inl n.ctor) (λ r. inr (of_built r)) (constructor_built p types k c at i d e)
    where
      of_built : Builds (resolved p) (constructor_body p.classes k d) → is_ready_with_fields (core_of p) (written_body (resolved p) (constructor_body p.classes k d) bs) ≡ true
      of_built r =
          let q = resolved p in
          let b = constructor_body p.classes k d in
          let y = written_body q b bs in
          let half = (none_left (escapes (uses_in_all NotAtAll b.entry)) (if b.flags.delayed then delayed_faults q b else undelayed_faults q b) h).1 in
          let mine : undelayed_faults q b ≡ [] = rw early at half in
          let place = place_of_base b (written_base b) in
          let end = source.at_end (assigned_flow (field_numbers q b.class)) (opening q b) (Some (assigned_by_initializers q b.class)) in
          let last = (none_left (escapes (uses_along NotAtAll (opening q b) ++ uses_each NotAtAll (arguments_of (written_base b)))) (unassigned_faults q b.class place end) mine).1 in
          let w = one_wanted q b r.begins early (ready_below_object p) in
          ready_from (core_of p) y (code_of (front q b r.begins)) (opening_is q b r w) refl
          (own_test p k c at b refl y end (at_end (fields_flow (core_of p) y) (code_of (front q b r.begins)) (Some nothing_first)) (no_unassigned q b.class place end last) (front_knows p k c at b refl y r (opening q b) (r.begins.as_early early) (assigned_by_initializers q b.class) (λ j g. g)))

  all_ready : (n : ℕ) (b : BodyTree) → body_at (resolved p) n ≡ Some b → Ready p b
  all_ready = of_each p (Ready p) constructor_ready (λ k c at n m e h early bs. inl refl)

  written_ready : bodies_faults (resolved p) (resolved p).bodies ≡ [] → (n : ℕ) (b : BodyTree) → body_at (resolved p) n ≡ Some b → (bs : List BodyTree) → if_undelayed (written_body (resolved p) b bs) (is_ready_with_fields (core_of p) (written_body (resolved p) b bs)) ≡ true
  written_ready faultless n b at bs =
      ⊎_elim
      (λ late. or_left (not b.flags.ctor || b.flags.delayed) _ (or_right (not b.flags.ctor) _ late))
      (λ early. ⊎_elim (λ no. or_left (not b.flags.ctor || b.flags.delayed) _ (or_left (not b.flags.ctor) _ (ap not no))) (λ yes. or_right (not b.flags.ctor || b.flags.delayed) _ yes) (all_ready n b at (body_none (resolved p) (resolved p).bodies n b faultless at) early bs))
      (cases_Bool b.flags.delayed)

  made_ready : bodies_faults (resolved p) (resolved p).bodies ≡ [] → (o : Origin) (y : core.BodyTree) → IsMade (resolved p) o y → if_undelayed y (is_ready_with_fields (core_of p) y) ≡ true
  made_ready faultless o y (WrittenConstructor {n = n} {b = b} is em en eb) = written_ready faultless n b eb (b ∷ [])
  made_ready faultless o y (ImplicitConstructor is ec em empty) = refl
  made_ready faultless o y (WrittenMethod {t = t} {m = m} {b = b} is eb own) =
      let at = method_is (resolved p) (slice_get (table (resolved p) t) m) b eb in
      written_ready faultless at.0 b at.1 (declarations (resolved p) t m)
  made_ready faultless o y (Wrapper is eb own em) = refl

pub are_ready_with_fields : (p : ProgramTree) → type_faults p ≡ [] → construction_faults (resolved p) ≡ [] → AreReadyWithFields (core_of p)
unfolding construction_faults
are_ready_with_fields p types construction n y at =
    let both = none_left (classes_faults (resolved p) 0 (resolved p).members) (bodies_faults (resolved p) (resolved p).bodies) construction in
    let from = origin_of (resolved p) n y at in
    made_ready p types both.1 from.origin y from.made
