-- A loop goes on safely where its prelude and its body do, and where what is looked at at its head is so.
use Rattle.std.proofs.Common.{◌≡◌, ℕ, ◌+◌, List, map, length, Bool, true, false, ◌&&◌, Ok, refl, sym, ◌∙◌, ap, subst}
use Rattle.std.specs.Prelude.{Option, Some, None, option_map, if◌then◌else◌}
use Rattle.std.specs.List.{list_all}
use Rattle.std.proofs.lemmas.Bool.{false≢true, and_parts}
use Rattle.ss_core.specs.declared.names.Kind.TheVariants as kind
use Rattle.ss_core.specs.declared.names.Place.{Place}
use Rattle.ss_core.specs.Tree.{ClassTree, ExprTree, BoolExpr, ExposedTree, StmtTree, LoopStmt, CodeTree}
use Rattle.ss_store_rules.specs.declared.Value.{Value}
use Rattle.ss_store_rules.specs.declared.Value.TheVariants as value
use Rattle.ss_store_rules.specs.Store.{Object}
use Rattle.ss_store_rules.specs.Numbers.{Outcome}
use Rattle.ss_store_rules.specs.Reads.{as_bool}
use Rattle.ss_store_rules.specs.Values.{Setting, value_of}
use Rattle.ss_store_rules.specs.Locals.{local_types, is_variable, each, each_inside, targets_only}
use Rattle.ss_store_rules.specs.NonNull.{Known, known_tested, known_head, known_flow, null_check}
use Rattle.ss_store_rules.specs.Assigned.{assigned_flow, assigned_check, reads_assigned}
use Rattle.ss_store_rules.specs.Paths as paths
use Rattle.ss_store_rules.specs.Paths.{is_literal_true, at_end, holds_along, in_body}
use Rattle.ss_store_rules.specs.Types.{is_condition, in_code, in_assert}
use Rattle.ss_store_rules.specs.Typed.{is_typed, has_exposable}
use Rattle.ss_machine_good.specs.Known.{IsTrueOf}
use Rattle.ss_machine_good.specs.Checks.{fields_check}
use Rattle.ss_logic.specs.Values.{Table, Structure}
use Rattle.ss_logic.specs.Formulas.{Formula}
use Rattle.ss_logic.specs.Express.{said}
use Rattle.ss_vcgen_heaps.specs.Positions.{Never, When, Position, Walk, check, check_all, holds_at, meant_at, evaluate, if_reached}
use Rattle.ss_vcgen_heaps.specs.Obligations.{Loop, loop_of, frame_at_head, levels_at_head, check_head, at_head, exit_guard, into_body, after_loop, behind, behind_all, AreValid}
use Rattle.ss_sound_outcomes.specs.Points.{Activation, Point, scene, IsSound}
use Rattle.ss_sound_outcomes.specs.Outcomes.{Has, Head, HoldsAtHead, IsTurn, head_of, AllSafely}
use Rattle.ss_vcgen_safe.specs.At.{IsAlike, IsOn, activation, Agrees, IsAt, Rises, Leads}
use Rattle.ss_vcgen_safe.proofs.Alike.{alike_self, alike_twice, alike_lower}
use Rattle.ss_vcgen_safe.proofs.PositionsBranches.{into_first, into_second}
use Rattle.ss_vcgen_safe.proofs.Leads.{leads_self, leads_twice, leads_evaluate, leads_if_reached}
use Rattle.ss_vcgen_safe.proofs.Paths.{IsReachable, placed_head}
use Rattle.ss_vcgen_safe.proofs.Same.{IsSame, same_twice, same_check, same_check_all, at_like}
use Rattle.ss_vcgen_safe.proofs.PositionsStatements.{leads_all, leads_at_head, leads_check_head, leads_loop}
use Rattle.ss_vcgen_safe.specs.Goes.{IsCoded, IsHere, EndsIn, Goes}
use Rattle.ss_vcgen_safe.specs.Forms.{AreCoded, IsTested, TestsGo, AllGoes}
use Rattle.ss_vcgen_safe.specs.Heads.{IsAsked}
use Rattle.ss_vcgen_safe.proofs.Known.{on_reachable, where_reached, IsKnown, no_locals, no_terms, at_head_known, all_known_placed}

-- ---- what is checked of a loop

abbrev All5 : Bool → Bool → Bool → Bool → Bool → Type 0
All5 a b c d e = (a ≡ true) × (b ≡ true) × (c ≡ true) × (d ≡ true) × (e ≡ true)

five_parts : (a b c d e : Bool) → ((((a && b) && c) && d) && e) ≡ true → All5 a b c d e
five_parts a b c d e h =
    let p = and_parts (((a && b) && c) && d) e h in
    let q = and_parts ((a && b) && c) d p.0 in
    let r = and_parts (a && b) c q.0 in
    let s = and_parts a b r.0 in
    (s.0, s.1, r.1, q.1, p.1)

-- a loop on the literal `true` has a test that is true
literal_value : (e : ExprTree) → is_literal_true e ≡ true → (c : Setting) → value_of e c ≡ Ok (value.Bool true)
literal_value (BoolExpr p true) h c = refl
literal_value e h c = absurd (false≢true h)

abbrev Given : Bool → Outcome
Given b = Ok (value.Bool b)

ok_bools : (a b : Bool) → Given a ≡ Given b → a ≡ b
ok_bools a b e = cc

not_literal : (b : Bool) → (b ≡ true → ⊥) → b ≡ false
not_literal true h = absurd (h refl)
not_literal false h = refl

exit_on : (b : Bool) (n : ℕ) (m : Structure) → b ≡ false → m.truths n ≡ true → IsOn (if b then Never else When n) m
exit_on true n m h on = absurd (false≢true (sym h))
exit_on false n m h on = on

left_some : (b : Bool) (o : Option (ℕ → Bool)) (ys : ℕ → Bool) → b ≡ false → o ≡ Some ys → (if b then None else option_map (λ (xs : ℕ → Bool). xs) o) ≡ Some ys
left_some true o ys h e = absurd (false≢true (sym h))
left_some false o ys h e = ap (option_map (λ (xs : ℕ → Bool). xs)) e

-- where the position is reached, what is known there is known
known_is : (o : Option Known) (k : Position) → IsReachable k.guard → IsKnown o k → o ≡ Some k.known
known_is None k r e = absurd (subst IsReachable e r)
known_is (Some known) k r is = ap Some (sym is.1)

-- ---- the loop

module _ (w : Walk) (before : List Object) (table : Table) (arguments : List Value) where
  -- What is checked at the head of a loop is so where its obligations are valid.
  abbrev pub HeadChecks : Type 0
  HeadChecks =
      (l : Loop) (xs : ℕ → Bool) (m : Structure) (k : Position) (p : Point) → IsAsked w xs l → IsHere w before table arguments xs m k p → AreValid w.program.classes (check_head w l k).listed →
      HoldsAtHead (activation w before table) (head_of l.statement l.invariants l.exposes) p × Agrees w before table m (check_head w l k) p

  -- From the head where the loop begins, a structure in which the run is at the head where a turn begins.
  pub record HeadTaken (l : Loop) (xs : ℕ → Bool) (m : Structure) (k : Position) (q : Point) : Type 0 where
    pub m' : Structure
    pub alike : IsAlike k.next m m'
    pub here : IsHere w before table arguments xs m' (at_head w l k) q

  abbrev pub HeadsAreTaken : Type 0
  HeadsAreTaken =
      (l : Loop) (xs : ℕ → Bool) (m : Structure) (k : Position) (p q : Point) → IsAsked w xs l → each_inside (targets_only (is_variable w.body)) l.statement ≡ true → IsHere w before table arguments xs m k p →
      IsTurn (activation w before table) l.statement p q → HoldsAtHead (activation w before table) (head_of l.statement l.invariants l.exposes) q → IsSound (activation w before table) q → HeadTaken l xs m k q

  same_head : (l : Loop) (k : Position) → IsSame k (check_head w l k)
  same_head l k =
      let fs = map (holds_at w k) l.invariants in
      let a = check_all w kind.LoopInvariant l.place fs k in
      let b = check w kind.LoopFrame l.place (frame_at_head w l k) a in
      same_twice k a (check_head w l k) (same_check_all w kind.LoopInvariant l.place fs k)
      (same_twice a b (check_head w l k) (same_check w kind.LoopFrame l.place (frame_at_head w l k) a) (same_check w kind.LoopLevel l.place (levels_at_head w l k) b))

  module _ (tests : TestsGo w before table) (checks : HeadChecks) (takes : HeadsAreTaken) (place : Place) (asked : List ExprTree) (prelude : CodeTree) (e : ExprTree) (body : CodeTree) (exposes : List ExposedTree) where
    abbrev cs : List ClassTree
    cs = w.program.classes

    abbrev a : Activation
    a = activation w before table

    abbrev stmt : StmtTree
    stmt = LoopStmt place asked prelude e body exposes

    abbrev l : Loop
    l = loop_of stmt place asked exposes

    abbrev h : Head
    h = head_of stmt asked exposes

    abbrev known_along : paths.Flow Known
    known_along = known_flow w.program w.body

    module _ (xs : ℕ → Bool) (m : Structure) (k : Position) (p : Point) (coded : IsCoded w xs k.known stmt) (here : IsHere w before table arguments xs m k p) (valid : AreValid cs (behind w stmt k).listed) where
      abbrev checked : Position
      checked = check_head w l k

      abbrev head : Position
      head = at_head w l checked

      abbrev tested : Position
      tested = behind_all w prelude head

      abbrev evaluated : Position
      evaluated = evaluate w e tested

      abbrev start : Position
      start = into_body w e tested

      abbrev turned : Position
      turned = behind_all w body start

      -- after the body, at the head again
      abbrev first : Position
      first = if_reached turned.guard (check_head w l turned) turned

      abbrev end : Position
      end = after_loop w l e tested turned

      -- ---- what a formed body says of the parts

      abbrev at_test : Option (ℕ → Bool)
      at_test = at_end assigned_flow prelude (Some xs)

      abbrev known_test : Option Known
      known_test = at_end known_along prelude (Some (known_head stmt k.known))

      loop_typed : (is_typed w.program w.body stmt ≡ true) × (each (is_typed w.program w.body) prelude ≡ true) × (each (is_typed w.program w.body) body ≡ true)
      loop_typed =
          let q = and_parts (is_typed w.program w.body stmt && each (is_typed w.program w.body) prelude) (each (is_typed w.program w.body) body) coded.typed in
          let r = and_parts (is_typed w.program w.body stmt) (each (is_typed w.program w.body) prelude) q.0 in
          (r.0, r.1, q.1)

      loop_exposed : (has_exposable cs w.body stmt ≡ true) × (each (has_exposable cs w.body) prelude ≡ true) × (each (has_exposable cs w.body) body ≡ true)
      loop_exposed =
          let q = and_parts (has_exposable cs w.body stmt && each (has_exposable cs w.body) prelude) (each (has_exposable cs w.body) body) coded.exposed in
          let r = and_parts (has_exposable cs w.body stmt) (each (has_exposable cs w.body) prelude) q.0 in
          (r.0, r.1, q.1)

      loop_targets : (targets_only (is_variable w.body) stmt ≡ true) × (each (targets_only (is_variable w.body)) prelude ≡ true) × (each (targets_only (is_variable w.body)) body ≡ true)
      loop_targets =
          let q = and_parts (targets_only (is_variable w.body) stmt && each (targets_only (is_variable w.body)) prelude) (each (targets_only (is_variable w.body)) body) coded.targets in
          let r = and_parts (targets_only (is_variable w.body) stmt) (each (targets_only (is_variable w.body)) prelude) q.0 in
          (r.0, r.1, q.1)

      loop_assigned : All5 ((assigned_check w.body).statement stmt xs) (holds_along assigned_flow (assigned_check w.body) prelude (Some xs)) (paths.where_reached (λ ys. reads_assigned w.body ys e) at_test)
          (holds_along assigned_flow (assigned_check w.body) body (in_body assigned_flow e at_test)) (paths.where_reached ((assigned_check w.body).statement stmt) (at_end assigned_flow body (in_body assigned_flow e at_test)))
      loop_assigned = five_parts _ _ _ _ _ coded.assigned

      loop_nulls : All5 ((null_check w.program w.body).statement stmt k.known) (holds_along known_along (null_check w.program w.body) prelude (Some (known_head stmt k.known))) (paths.where_reached ((null_check w.program w.body).test e) known_test)
          (holds_along known_along (null_check w.program w.body) body (in_body known_along e known_test)) (paths.where_reached ((null_check w.program w.body).statement stmt) (at_end known_along body (in_body known_along e known_test)))
      loop_nulls = five_parts _ _ _ _ _ coded.nulls

      loop_fields : All5 ((fields_check w.program w.body).statement stmt k.known) (holds_along known_along (fields_check w.program w.body) prelude (Some (known_head stmt k.known))) (paths.where_reached ((fields_check w.program w.body).test e) known_test)
          (holds_along known_along (fields_check w.program w.body) body (in_body known_along e known_test)) (paths.where_reached ((fields_check w.program w.body).statement stmt) (at_end known_along body (in_body known_along e known_test)))
      loop_fields = five_parts _ _ _ _ _ coded.fields

      asked_at : (ys : ℕ → Bool) → (assigned_check w.body).statement stmt ys ≡ true → IsAsked w ys l
      asked_at ys is =
          let r = and_parts (list_all (reads_assigned w.body ys) asked) (list_all ys (map (λ (x : ExposedTree). x.local) exposes)) is in
          record {
            typed = (and_parts (list_all (is_condition cs w.body in_assert) asked) (is_condition cs w.body in_code e) loop_typed.0).0;
            reads = r.0;
            exposed = loop_exposed.0;
            operands = r.1;
          }

      head_known : head.known ≡ known_head stmt k.known
      head_known = at_head_known w l checked ∙ ap (known_head stmt) (same_head l k).like.known

      prelude_coded : AreCoded w xs head.known prelude
      prelude_coded = record {
        typed = loop_typed.1;
        exposed = loop_exposed.1;
        targets = loop_targets.1;
        assigned = loop_assigned.1;
        nulls = subst (λ known. holds_along known_along (null_check w.program w.body) prelude (Some known) ≡ true) (sym head_known) loop_nulls.1;
        fields = subst (λ known. holds_along known_along (fields_check w.program w.body) prelude (Some known) ≡ true) (sym head_known) loop_fields.1;
      }

      checked_count : length checked.locals ≡ length (local_types w.body)
      checked_count = (leads_check_head w l k).count here.at.agrees.count

      -- what is known at the test, where that is reached
      known_tested_is : IsReachable tested.guard → known_test ≡ Some tested.known
      known_tested_is r =
          let on : IsReachable checked.guard = subst IsReachable (sym (same_head l k).like.guard) (on_reachable k.guard m (here.at.agrees.guard m (alike_self k.next m))) in
          known_is known_test tested r
          (all_known_placed w prelude (Some (known_head stmt k.known)) head loop_typed.1 ((leads_at_head w l checked).count checked_count) ((placed_head w l no_locals checked (on, no_terms checked.locals)).0, head_known))

      body_coded : (ys : ℕ → Bool) → at_test ≡ Some ys → IsReachable tested.guard → AreCoded w ys start.known body
      body_coded ys is r = record {
        typed = loop_typed.2;
        exposed = loop_exposed.2;
        targets = loop_targets.2;
        assigned = subst (λ o. holds_along assigned_flow (assigned_check w.body) body (in_body assigned_flow e o) ≡ true) is loop_assigned.3;
        nulls = subst (λ o. holds_along known_along (null_check w.program w.body) body (in_body known_along e o) ≡ true) (known_tested_is r) loop_nulls.3;
        fields = subst (λ o. holds_along known_along (fields_check w.program w.body) body (in_body known_along e o) ≡ true) (known_tested_is r) loop_fields.3;
      }

      -- ---- along the positions

      leads_first : Leads w start first
      leads_first = leads_twice w start turned first (leads_all w body start) (leads_if_reached w turned.guard turned (check_head w l turned) turned (leads_check_head w l turned) (leads_self w turned))

      valid_tested : AreValid cs tested.listed
      valid_tested = (leads_if_reached w tested.guard tested end tested (leads_loop w l e tested turned (leads_all w body start)) (leads_self w tested)).listed valid

      valid_checked : AreValid cs checked.listed
      valid_checked = (leads_at_head w l checked).listed ((leads_all w prelude head).listed valid_tested)

      checked_here : Agrees w before table m checked p → IsHere w before table arguments xs m checked p
      checked_here g = record { at = at_like w before table xs m m k checked p (same_head l k).like g here.at; assigned = here.assigned; same = here.same }

      rises_head : Rises k.next head.next
      rises_head = (leads_twice w k checked head (leads_check_head w l k) (leads_at_head w l checked)).rises

      rises_evaluated : Rises k.next evaluated.next
      rises_evaluated = (leads_twice w k head evaluated (leads_twice w k checked head (leads_check_head w l k) (leads_at_head w l checked)) (leads_twice w head tested evaluated (leads_all w prelude head) (leads_evaluate w e tested))).rises

      -- ---- at the test

      module _ (Q : Point → Type 0) (body_goes : (P : Point → Type 0) → AllGoes w before table arguments body P) (ends : EndsIn w before table arguments (paths.behind assigned_flow stmt xs) m k (behind w stmt k) Q)
          (ys : ℕ → Bool) (m2 : Structure) (r : Point) (alike2 : IsAlike k.next m m2) (is : at_test ≡ Some ys) (there : IsHere w before table arguments ys m2 tested r) where
        reached : IsReachable tested.guard
        reached = on_reachable tested.guard m2 (there.at.agrees.guard m2 (alike_self tested.next m2))

        valid_end : AreValid cs end.listed
        valid_end = subst (λ (z : Position). AreValid cs z.listed) (where_reached tested.guard end tested reached) valid

        valid_turned : AreValid cs turned.listed
        valid_turned = (leads_if_reached w turned.guard turned (check_head w l turned) turned (leads_check_head w l turned) (leads_self w turned)).listed valid_end

        valid_evaluated : AreValid cs evaluated.listed
        valid_evaluated = (leads_all w body start).listed valid_turned

        is_tested : IsTested w before table ys m2 tested r e
        is_tested =
            tests ys m2 tested r e (and_parts (list_all (is_condition cs w.body in_assert) asked) (is_condition cs w.body in_code e) loop_typed.0).1
            (subst (λ o. paths.where_reached (λ zs. reads_assigned w.body zs e) o ≡ true) is loop_assigned.2) there.at valid_evaluated

        f : Formula
        f = said (meant_at w e tested)

        abbrev yes_known : Known
        yes_known = known_tested e true tested.known

        abbrev no_known : Known
        no_known = known_tested e false tested.known

        -- the body, to the head again
        turn_goes : is_tested.v ≡ true → AllSafely a body r (λ z. HoldsAtHead a h z)
        turn_goes holds =
            let z = into_first w before table ys m2 evaluated r (said (meant_at w e tested)) yes_known is_tested.at (subst (λ v. IsTrueOf w.body.flags.ctor (known_tested e v tested.known) (scene a r)) holds is_tested.known) (is_tested.true_so holds) in
            body_goes (λ z. HoldsAtHead a h z) ys z.to.m' start r (body_coded ys is reached) (record { at = z.to.at; assigned = there.assigned; same = there.same }) valid_turned
            (λ zs m3 q at_end_is alike3 again. (checks l zs m3 turned q (asked_at zs (subst (λ o. paths.where_reached ((assigned_check w.body).statement stmt) o ≡ true) at_end_is
            (subst (λ o. paths.where_reached ((assigned_check w.body).statement stmt) (at_end assigned_flow body (in_body assigned_flow e o)) ≡ true) is loop_assigned.4))) again
            (subst (λ (z : Position). AreValid cs z.listed) (where_reached turned.guard (check_head w l turned) turned (on_reachable turned.guard m3 (again.at.agrees.guard m3 (alike_self turned.next m3)))) valid_end)).0)

        -- after the loop
        leave_goes : is_tested.v ≡ false → Q r
        leave_goes fails =
            let plain : is_literal_true e ≡ false = not_literal (is_literal_true e) (λ t. false≢true (sym fails ∙ ok_bools is_tested.v true (sym is_tested.is ∙ literal_value e t (scene a r)))) in
            let n = evaluated.next.truths + 1 in
            let z = into_second w before table ys m2 evaluated r (said (meant_at w e tested)) yes_known is_tested.at (exit_guard e n) no_known first (λ m'' on. exit_on (is_literal_true e) n m'' plain on) leads_first
            (subst (λ v. IsTrueOf w.body.flags.ctor (known_tested e v tested.known) (scene a r)) fails is_tested.known) (is_tested.false_so fails) in
            let same = where_reached tested.guard end tested reached in
            ends ys z.to.m' r (left_some (is_literal_true e) at_test ys plain is) (alike_twice k.next m m2 z.to.m' alike2 (alike_lower k.next evaluated.next m2 z.to.m' rises_evaluated z.to.alike))
            (record { at = subst (λ (u : Position). IsAt w before table ys z.to.m' u r) (sym same) z.to.at; assigned = there.assigned; same = there.same })

        test_goes : Has (value_of e (scene a r)) (λ v. (as_bool v ≡ true → AllSafely a body r (λ z. HoldsAtHead a h z)) × (as_bool v ≡ false → Q r))
        test_goes = subst (λ o. Has o (λ v. (as_bool v ≡ true → AllSafely a body r (λ z. HoldsAtHead a h z)) × (as_bool v ≡ false → Q r))) (sym is_tested.is) (turn_goes, leave_goes)

    -- A loop goes where its prelude and its body do.
    pub goes : ((P : Point → Type 0) → AllGoes w before table arguments prelude P) → ((P : Point → Type 0) → AllGoes w before table arguments body P) → (Q : Point → Type 0) → Goes w before table arguments stmt Q
    goes prelude_goes body_goes Q xs m k p coded here valid ends =
        let c = check_head w l k in
        let head = at_head w l c in
        let loop_asked = asked_at xs m k p coded here valid xs (loop_assigned xs m k p coded here valid).0 in
        let z = checks l xs m k p loop_asked here (valid_checked xs m k p coded here valid) in
        let checked_at = checked_here xs m k p coded here valid z.1 in (
          z.0,
          λ q turn holds sound.
              let t = takes l xs m c p q loop_asked coded.targets checked_at turn holds sound in
              let alike1 = alike_lower k.next c.next m t.m' (leads_check_head w l k).rises t.alike in
              prelude_goes _ xs t.m' head q (prelude_coded xs m k p coded here valid) t.here (valid_tested xs m k p coded here valid)
              (λ ys m2 r is alike2 there. test_goes xs m k p coded here valid Q body_goes ends ys m2 r (alike_twice k.next m t.m' m2 alike1 (alike_lower k.next head.next t.m' m2 (rises_head xs m k p coded here valid) alike2)) is there),
        )
