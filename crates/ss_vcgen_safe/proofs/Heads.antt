-- At the head of a loop: what is checked there is so, and where a turn begins what is assumed there is true.
use Rattle.std.proofs.Common.{◌≡◌, ℕ, ◌+◌, List, [], ◌∷◌, ◌++◌, map, length, Bool, true, false, ◌&&◌, sym, ◌∙◌, ap, subst, arith}
use Rattle.std.specs.Prelude.{Some, ◌==◌, unwrap_or, slice_get, if◌then◌else◌, nat_lt}
use Rattle.std.specs.List.{list_all}
use Rattle.std.proofs.lemmas.Bool.{true≢false, and_parts, lt-ltb}
use Rattle.ss_core.specs.declared.names.Kind.TheVariants as kind
use Rattle.ss_core.specs.declared.names.Ty.{Ty}
use Rattle.ss_core.specs.declared.names.Ty.TheVariants as ty
use Rattle.ss_core.specs.Tree.{ClassTree, ExprTree, BodyTree}
use Rattle.ss_store_rules.specs.declared.Value.{Value as ObjectValue}
use Rattle.ss_store_rules.specs.declared.Value.TheVariants as value
use Rattle.ss_store_rules.specs.Store.{Object}
use Rattle.ss_store_rules.specs.Good.{has_type, IsReady}
use Rattle.ss_store_rules.specs.Assigned.{reads_assigned}
use Rattle.ss_store_rules.specs.Locals.{types_of, local_types, is_argument, is_variable, each_inside, assigns, targets_only}
use Rattle.ss_store_rules.specs.NonNull.{known_head, is_non_null_type}
use Rattle.ss_store_rules.specs.Types.{is_condition, in_assert}
use Rattle.ss_store_rules.specs.Values.{local_value}
use Rattle.ss_machine_rules.specs.Steps.{held_by, are_exposed}
use Rattle.ss_machine_typed.specs.Older.{IsOlder}
use Rattle.ss_logic.specs.Values.{Heap, Table, as_store, Structure}
use Rattle.ss_logic.specs.Terms.{Term}
use Rattle.ss_logic.specs.Formulas.{Formula, Hold}
use Rattle.ss_logic.specs.Objects.{objects_of, IsGoodStore}
use Rattle.ss_logic.specs.Frames.{grown}
use Rattle.ss_logic_means.specs.Means.{standing}
use Rattle.ss_logic_tables.specs.Tabled.{IsStoreOf, tabled}
use Rattle.ss_logic_tables.specs.Elsewhere.{SameElsewhere}
use Rattle.ss_logic_tables.proofs.Tabling.{list_has_its_heap, heap_is_as_before}
use Rattle.ss_logic_tables.proofs.Bodies.{formed_typed}
use Rattle.ss_vcgen_heaps.specs.Positions.{Position, Walk, good, check, check_all, context_at, holds_at}
use Rattle.ss_vcgen_heaps.specs.Obligations.{Loop, exposed_terms, frame_at_head, levels_at_head, is_asked_ready, stays_of_type, types_from, renewed, at_head, AreValid}
use Rattle.ss_sound_outcomes.specs.Points.{Activation, Point, frame_at, scene, IsSound}
use Rattle.ss_sound_outcomes.specs.Outcomes.{HoldsAtHead, IsTurn, head_of}
use Rattle.ss_vcgen_safe.specs.At.{IsAlike, Stays, HoldIn, activation, Agrees, HaveTerms, IsAt}
use Rattle.ss_vcgen_safe.proofs.Alike.{alike_self, alike_twice, alike_lower}
use Rattle.ss_vcgen_safe.proofs.Guards.{hold_more}
use Rattle.ss_vcgen_safe.proofs.PositionsJoins.{get_below}
use Rattle.ss_vcgen_safe.proofs.Keeps.{AllMean, conditions_true, conditions_checked, checked, assumed_all}
use Rattle.ss_vcgen_safe.proofs.Leads.{leads_check}
use Rattle.ss_vcgen_safe.proofs.Paths.{placed_head}
use Rattle.ss_vcgen_safe.proofs.Renewed.{HeadAgrees, renewed_agrees}
use Rattle.ss_vcgen_safe.proofs.Same.{same_assume_all, at_like}
use Rattle.ss_vcgen_safe.proofs.PositionsStatements.{leads_renewed}
use Rattle.ss_vcgen_safe.specs.Goes.{IsEntered, IsHere}
use Rattle.ss_vcgen_safe.proofs.Evaluates.{condition_at}
use Rattle.ss_vcgen_safe.specs.Heads.{IsAsked}
use Rattle.ss_vcgen_safe.proofs.Known.{on_reachable}
use Rattle.ss_vcgen_safe.proofs.Again.{not_true, argument_unassigned, get_there, known_again}
use Rattle.ss_vcgen_safe.proofs.LoopsLevels.{levels_mean}
use Rattle.ss_vcgen_safe.proofs.Framed.{now_is, all_held, all_references, frame_kept, frame_true, growth_true}
use Rattle.ss_vcgen_safe.proofs.Typed.{stays_true, types_true}
use Rattle.ss_vcgen_safe.proofs.Loops.{HeadChecks, HeadTaken, HeadsAreTaken}

-- the `this` of a constructor is an argument
this_argument : (b : BodyTree) → b.flags.is_static ≡ false → is_argument b 0 ≡ true
this_argument b h = by_flag b.flags.is_static h
  where
    by_flag : (static : Bool) → static ≡ false → nat_lt 0 (length ((if static then [] else ty.Ref (record { 0 = b.class }) true ∷ []) ++ types_of b.params)) ≡ true
    by_flag true e = absurd (true≢false e)
    by_flag false e = lt-ltb 0 _ (omega arith)

module _ (w : Walk) (before : List Object) (table : Table) (arguments : List ObjectValue) (entered : IsEntered w before arguments) where
  abbrev cs : List ClassTree
  cs = w.program.classes

  abbrev a : Activation
  a = activation w before table

  -- conditions that are read at a position are true exactly where they hold
  all_mean : (xs : ℕ → Bool) (m : Structure) (k : Position) (p : Point) → IsAt w before table xs m k p → (es : List ExprTree) → list_all (is_condition cs w.body in_assert) es ≡ true → list_all (reads_assigned w.body xs) es ≡ true →
      Stays k.next m (λ m'. AllMean cs m' es (context_at w k) (scene a p))
  all_mean xs m k p is [] typed reads m' alike = tt
  all_mean xs m k p is (e ∷ es) typed reads m' alike =
      let t = and_parts (is_condition cs w.body in_assert e) (list_all (is_condition cs w.body in_assert) es) typed in
      let r = and_parts (reads_assigned w.body xs e) (list_all (reads_assigned w.body xs) es) reads in
      (condition_at w before table entered.program xs m k p is in_assert e t.0 r.0 m' alike, all_mean xs m k p is es t.1 r.1 m' alike)

  -- ---- checks

  pub head_checks : HeadChecks w before table arguments
  head_checks l xs m k p asked here valid =
      let c = context_at w k in
      let k1 = check_all w kind.LoopInvariant l.place (map (holds_at w k) l.invariants) k in
      let k2 = check w kind.LoopFrame l.place (frame_at_head w l k) k1 in
      let v2 : AreValid cs k2.listed = (leads_check w kind.LoopLevel l.place (levels_at_head w l k) k2).listed valid in
      let v1 : AreValid cs k1.listed = (leads_check w kind.LoopFrame l.place (frame_at_head w l k) k1).listed v2 in
      let met = conditions_checked w before table m p kind.LoopInvariant l.place l.invariants c (scene a p) k (all_mean xs m k p here.at l.invariants asked.typed asked.reads) v1 here.at.agrees in
      let framed = checked w before table m p kind.LoopFrame l.place (frame_at_head w l k) k1 v2 met.1 in
      let leveled = checked w before table m p kind.LoopLevel l.place (levels_at_head w l k) k2 valid framed.1 in
      let self = alike_self k.next m in
      let now = here.at.agrees.store_is.heap in
      let refs = all_references w before table arguments entered xs m k p here m self l.exposes asked.operands asked.exposed in
      let held = all_held w before table arguments entered xs m k p here m self l.exposes asked.operands asked.exposed in (
        record {
          invariants = met.0;
          kept = frame_kept w before table arguments entered xs m k p here m self (exposed_terms l.exposes k) (map (held_by (frame_at a p)) l.exposes) refs (framed.0 m (alike_self k1.next m));
          levels =
              subst (λ s. are_exposed cs s (frame_at a p) l.exposes ≡ true) (now_is w before table arguments entered xs m k p here m self)
              ((levels_mean cs m k (frame_at a p) now (here.at.agrees.store_is.is m self []) l.exposes held).0 (leveled.0 m (alike_self k2.next m)));
        },
        leveled.1,
      )

  -- ---- a turn

  module _ (l : Loop) (xs : ℕ → Bool) (m : Structure) (k : Position) (p q : Point) (asked : IsAsked w xs l) (targets : each_inside (targets_only (is_variable w.body)) l.statement ≡ true) (here : IsHere w before table arguments xs m k p)
      (turn : IsTurn a l.statement p q) (holds : HoldsAtHead a (head_of l.statement l.invariants l.exposes) q) (sound : IsSound a q) where
    -- the head, before anything is assumed there
    abbrev h : Position
    h = record (renewed w l.statement k) { known = known_head l.statement k.known }

    abbrev fs : List Formula
    fs = map (holds_at w h) l.invariants ++ frame_at_head w l h ∷ levels_at_head w l h ∷ grown w.entry h.store ∷ good h.store ∷ types_from w h.store 0 (local_types w.body) k.locals h.locals

    abbrev former : Heap
    former = here.at.agrees.entry.heap

    later_older : IsOlder (objects_of cs table former) q.store
    later_older = subst (λ s. IsOlder s q.store) (sym here.at.agrees.entry.objects) sound.grown.older

    listed : IsStoreOf cs table (tabled former q.store) q.store
    listed = list_has_its_heap cs entered.program.chain table former q.store sound.store sound.fits later_older here.at.agrees.entry.good

    elsewhere : SameElsewhere cs table former (tabled former q.store)
    elsewhere = heap_is_as_before cs entered.program.chain table former q.store sound.store sound.fits later_older

    same_local : (x : ℕ) → assigns l.statement x ≡ false → local_value (scene a q) x ≡ local_value (scene a p) x
    same_local x off = ap (λ v. unwrap_or v value.Null) (turn.same x off)

    agreed : HeadAgrees w before table l.statement q sound m k (tabled former q.store)
    agreed = renewed_agrees w before table l.statement q sound m k p (tabled former q.store) listed.numbered listed.good listed.objects same_local here.at.agrees

    abbrev m1 : Structure
    m1 = agreed.m'

    agrees_here : Agrees w before table m1 h q
    agrees_here =
        let g = agreed.agrees in
        record { table_is = g.table_is; entry = g.entry; store_is = g.store_is; count = g.count; locals = g.locals; guard = g.guard; premises = g.premises }

    this_unassigned : w.body.flags.ctor ≡ true → assigns l.statement 0 ≡ false
    this_unassigned ctor = argument_unassigned w.body l.statement 0 targets (this_argument w.body ((formed_typed w.program w.body entered.body).constructs ctor))

    terms_here : HaveTerms xs h.locals
    terms_here =
        let on = on_reachable k.guard m (here.at.agrees.guard m (alike_self k.next m)) in
        subst (HaveTerms xs) (same_assume_all fs h).like.locals (placed_head w l xs k (on, here.at.terms)).1

    head_here : IsHere w before table arguments xs m1 h q
    head_here = record {
      at = record {
        agrees = agrees_here;
        known = known_again a p here.at.sound l.statement q turn this_unassigned k.known here.at.known;
        assigned = λ x is nn. turn.reached.stays x nn (here.at.assigned x is nn);
        terms = terms_here;
        sound = sound;
      };
      assigned = here.assigned;
      same = λ x is. turn.same x (argument_unassigned w.body l.statement x targets is) ∙ here.same x is;
    }

    heap_is : head_here.at.agrees.store_is.heap ≡ tabled former q.store
    unfolding head_here agrees_here
    heap_is = agreed.heap

    -- the entry has the heap that it had
    former_is : head_here.at.agrees.entry.heap ≡ former
    unfolding head_here agrees_here
    former_is = ap as_store (sym (agrees_here.entry.is m1 (alike_self h.next m1) []) ∙ here.at.agrees.entry.is m1 agreed.alike [])

    module _ (m2 : Structure) (alike : IsAlike h.next m1 m2) where
      table_is : m2.table ≡ table
      table_is = alike.table ∙ head_here.at.agrees.table_is

      store_here : objects_of cs m2.table head_here.at.agrees.store_is.heap ≡ q.store
      store_here = now_is w before table arguments entered xs m1 h q head_here m2 alike

      -- one local
      one_typed : (i : ℕ) (t : Ty) (b n : Term) → slice_get (local_types w.body) i ≡ Some t → slice_get k.locals i ≡ Some (Some b) → slice_get h.locals i ≡ Some (Some n) → Hold cs m2 (stays_of_type (is_asked_ready w (i + 0)) h.store t b n)
      one_typed i t b n typed old new =
          let count = sound.locals.count in
          let low = get_below (local_types w.body) i t typed in
          let v = get_there q.locals i (omega (arith, low, count)) in
          let v_is : local_value (scene a q) i ≡ v.0 = ap (λ o. unwrap_or o value.Null) v.1 in
          let back : IsAlike k.next m m2 = alike_twice k.next m m1 m2 agreed.alike (alike_lower k.next h.next m1 m2 (leads_renewed w l.statement k).rises alike) in
          subst (λ j. Hold cs m2 (stays_of_type (is_asked_ready w j) h.store t b n)) (omega arith)
          (stays_true cs m2 h.store b n head_here.at.agrees.store_is.heap (head_here.at.agrees.store_is.is m2 alike []) (is_asked_ready w i) t (local_value (scene a p) i) v.0
          ((here.at.agrees.locals i b old).is m2 back []) ((head_here.at.agrees.locals i n new).is m2 alike [] ∙ ap standing v_is)
          (subst (λ s. has_type cs s t v.0 ≡ true) (sym store_here) (sound.locals.types i t v.0 typed v.1))
          (λ asks. subst (λ s. IsReady s v.0) (sym store_here) (sound.locals.ready i v.0 (not_true (w.body.flags.ctor && i == 0) asks) v.1))
          (λ nn before_not now_null. turn.reached.stays i (subst (λ o. is_non_null_type o ≡ true) (sym typed) nn) before_not (v_is ∙ now_null)))

      all_true : HoldIn cs fs m2
      all_true =
          let now = head_here.at.agrees.store_is.heap in
          let refs = all_references w before table arguments entered xs m1 h q head_here m2 alike l.exposes asked.operands asked.exposed in
          let held = all_held w before table arguments entered xs m1 h q head_here m2 alike l.exposes asked.operands asked.exposed in
          let apart : SameElsewhere cs m2.table former now = subst (λ t. SameElsewhere cs t former now) (sym table_is) (subst (λ z. SameElsewhere cs table former z) (sym heap_is) elsewhere) in
          let apart_here : SameElsewhere cs m2.table head_here.at.agrees.entry.heap now = subst (λ z. SameElsewhere cs m2.table z now) (sym former_is) apart in
          let is_good : IsGoodStore cs m2.table now = subst (λ t. IsGoodStore cs t now) (sym table_is) head_here.at.agrees.store_is.good in
          hold_more cs m2 (map (holds_at w h) l.invariants) (frame_at_head w l h ∷ levels_at_head w l h ∷ grown w.entry h.store ∷ good h.store ∷ types_from w h.store 0 (local_types w.body) k.locals h.locals)
          (conditions_true cs m2 l.invariants (context_at w h) (scene a q) (all_mean xs m1 h q head_here.at l.invariants asked.typed asked.reads m2 alike) holds.invariants) (
            frame_true w before table arguments entered xs m1 h q head_here m2 alike (exposed_terms l.exposes h) (map (held_by (frame_at a q)) l.exposes) refs apart_here holds.kept,
            (
              (levels_mean cs m2 h (frame_at a q) now (head_here.at.agrees.store_is.is m2 alike []) l.exposes held).1 (subst (λ s. are_exposed cs s (frame_at a q) l.exposes ≡ true) (sym store_here) holds.levels),
              (
                growth_true w before table arguments entered xs m1 h q head_here m2 alike,
                (
                  λ no. no (subst (IsGoodStore cs m2.table) (ap as_store (sym (head_here.at.agrees.store_is.is m2 alike []))) is_good),
                  types_true w m2 h.store 0 (local_types w.body) k.locals h.locals one_typed,
                ),
              ),
            ),
          )

    taken : HeadTaken w before table arguments l xs m k q
    taken =
        let g = assumed_all w before table m1 q fs h all_true agrees_here in
        record {
          m' = m1;
          alike = agreed.alike;
          here = record { at = at_like w before table xs m1 m1 h (at_head w l k) q (same_assume_all fs h).like g head_here.at; assigned = head_here.assigned; same = head_here.same };
        }

  pub heads_are_taken : HeadsAreTaken w before table arguments
  heads_are_taken l xs m k p q asked targets here turn holds sound = taken l xs m k p q asked targets here turn holds sound
