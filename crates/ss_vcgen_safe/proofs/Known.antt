-- Along the paths of code: what is known of null at a position is what the flow of it says, and what was assigned stays so.
use Rattle.std.proofs.Common.{◌≡◌, ℕ, ◌+◌, List, ◌∷◌, ◌++◌, length, Bool, true, false, ◌&&◌, ◌||◌, refl, sym, ◌∙◌, ap, subst, map}
use Rattle.std.specs.Prelude.{Option, Some, None, option_map, if◌then◌else◌, not}
use Rattle.std.proofs.lemmas.Bool.{false≢true, and_parts, and_from}
use Rattle.ss_core.specs.declared.names.Kind.TheVariants as kind
use Rattle.ss_core.specs.Chain.{above}
use Rattle.ss_core.specs.Tree.{ExprTree, StmtTree, AssignStmt, WriteStmt, WriteElementStmt, NewStmt, NewArrayStmt, CallStmt, ReadyStmt, IfStmt, LoopStmt, UnpackStmt, PackStmt, AssertStmt, AssumeStmt, PrintStmt, PrintTextStmt, ReturnStmt, CodeTree, NoCode, Then}
use Rattle.ss_store_rules.specs.Locals.{local_types, each, each_inside, is_target}
use Rattle.ss_store_rules.specs.NonNull.{Known, known_tested, known_met, known_head, known_after, known_flow}
use Rattle.ss_store_rules.specs.Assigned.{assigned_flow}
use Rattle.ss_store_rules.specs.Paths as paths
use Rattle.ss_store_rules.specs.Paths.{Flow, is_literal_true, met, left, at_end, passes, reaches_end}
use Rattle.ss_store_rules.specs.Typed.{is_typed}
use Rattle.ss_logic.specs.Shapes.{class_term, level_of, equal}
use Rattle.ss_logic.specs.Frames.{grown}
use Rattle.ss_logic.specs.Express.{said}
use Rattle.ss_vcgen_heaps.specs.Positions.{Guard, Always, When, Never, Position, Walk, good, check, holds_at, meant_at, local_term, evaluate, first_side, second_side, join_from, join, if_reached}
use Rattle.ss_vcgen_heaps.specs.Obligations.{classes_of, check_local, invariants_said, Loop, loop_of, frame_at_head, levels_at_head, types_from, check_head, renewed, at_head, exit_guard, into_body, behind, behind_all}
use Rattle.ss_logic.specs.Values.{Structure}
use Rattle.ss_logic.specs.Terms.{Term}
use Rattle.ss_vcgen_safe.specs.At.{IsOn, HaveTerms}
use Rattle.ss_vcgen_safe.proofs.Paths.{IsReachable, IsPlaced, placed, placed_join, placed_head}
use Rattle.ss_vcgen_safe.proofs.Same.{same_assume_all, same_check_all, same_evaluate, same_evaluate_result, same_local}
use Rattle.ss_vcgen_safe.proofs.PositionsStatements.{leads, leads_all, leads_at_head}

-- ---- what was assigned stays so

-- where a path leads, the local is assigned there
abbrev pub IsIn : Option (ℕ → Bool) → ℕ → Type 0
IsIn None x = Unit {0}
IsIn (Some xs) x = xs x ≡ true

in_both : (o o' : Option (ℕ → Bool)) (x : ℕ) → IsIn o x → IsIn o' x → IsIn (met assigned_flow o o') x
in_both None o' x a b = b
in_both (Some xs) None x a b = a
in_both (Some xs) (Some ys) x a b = and_from (xs x) (ys x) a b

in_left : (e : ExprTree) (o : Option (ℕ → Bool)) (x : ℕ) → IsIn o x → IsIn (left assigned_flow e o) x
in_left e None x a = one_of (is_literal_true e)
  where
    one_of : (b : Bool) → IsIn (if b then None else None) x
    one_of true = tt
    one_of false = tt
in_left e (Some xs) x a = one_of (is_literal_true e)
  where
    one_of : (b : Bool) → IsIn (if b then None else Some xs) x
    one_of true = tt
    one_of false = a

or_right : (a b : Bool) → b ≡ true → (a || b) ≡ true
or_right true b h = refl
or_right false b h = h

mutual
  pub stays_assigned : (s : StmtTree) (xs : ℕ → Bool) (x : ℕ) → xs x ≡ true → IsIn (paths.behind assigned_flow s xs) x
  stays_assigned (IfStmt at e one other) xs x h =
      in_both (at_end assigned_flow one (Some xs)) (at_end assigned_flow other (Some xs)) x (all_stay_assigned one (Some xs) x h) (all_stay_assigned other (Some xs) x h)
  stays_assigned (LoopStmt at asked prelude e body exposes) xs x h = in_left e (at_end assigned_flow prelude (Some xs)) x (all_stay_assigned prelude (Some xs) x h)
  stays_assigned (ReturnStmt at e) xs x h = tt
  stays_assigned (AssignStmt at y e) xs x h = or_right (is_target (AssignStmt at y e) x) (xs x) h
  stays_assigned (WriteStmt at e f m t value) xs x h = h
  stays_assigned (WriteElementStmt at e i value) xs x h = h
  stays_assigned (NewStmt at y t es) xs x h = or_right (is_target (NewStmt at y t es) x) (xs x) h
  stays_assigned (NewArrayStmt at y t e) xs x h = or_right (is_target (NewArrayStmt at y t e) x) (xs x) h
  stays_assigned (CallStmt at y callee es) xs x h = or_right (is_target (CallStmt at y callee es) x) (xs x) h
  stays_assigned (ReadyStmt at) xs x h = h
  stays_assigned (UnpackStmt at y t) xs x h = h
  stays_assigned (PackStmt at y t) xs x h = h
  stays_assigned (AssertStmt at e) xs x h = h
  stays_assigned (AssumeStmt at e) xs x h = h
  stays_assigned (PrintStmt at e newline) xs x h = h
  stays_assigned (PrintTextStmt at text newline) xs x h = h

  pub all_stay_assigned : (code : CodeTree) (o : Option (ℕ → Bool)) (x : ℕ) → IsIn o x → IsIn (at_end assigned_flow code o) x
  all_stay_assigned NoCode o x h = h
  all_stay_assigned (Then s code) None x h = tt
  all_stay_assigned (Then s code) (Some xs) x h = all_stay_assigned code (paths.behind assigned_flow s xs) x (stays_assigned s xs x h)

-- ---- ends that no path reaches

or_neither : (a b : Bool) → (a || b) ≡ false → (a ≡ false) × (b ≡ false)
or_neither true b h = absurd (false≢true (sym h))
or_neither false b h = (refl, h)

none_after : (code : CodeTree) → at_end assigned_flow code None ≡ None
none_after NoCode = refl
none_after (Then s code) = refl

mutual
  none_passes : (s : StmtTree) (xs : ℕ → Bool) → passes s ≡ false → paths.behind assigned_flow s xs ≡ None
  none_passes (IfStmt at e one other) xs h =
      let n = or_neither (reaches_end one) (reaches_end other) h in
      let a = no_end one (Some xs) n.0 in
      let b = no_end other (Some xs) n.1 in
      rw (a, b) refl
  none_passes (LoopStmt at asked prelude e body exposes) xs h = one_of (is_literal_true e) h
    where
      one_of : (b : Bool) → not b ≡ false → (if b then None else option_map (λ ys. ys) (at_end assigned_flow prelude (Some xs))) ≡ None
      one_of true h = refl
      one_of false h = absurd (false≢true (sym h))
  none_passes (ReturnStmt at e) xs h = refl
  none_passes s xs h = absurd (false≢true (sym h))

  pub no_end : (code : CodeTree) (o : Option (ℕ → Bool)) → reaches_end code ≡ false → at_end assigned_flow code o ≡ None
  no_end NoCode o h = absurd (false≢true (sym h))
  no_end (Then s code) None h = refl
  no_end (Then s code) (Some xs) h = one_of (passes s) h (λ e. none_passes s xs e) (λ e. no_end code (paths.behind assigned_flow s xs) e)
    where
      one_of : (b : Bool) → (b && reaches_end code) ≡ false → (b ≡ false → paths.behind assigned_flow s xs ≡ None) → (reaches_end code ≡ false → at_end assigned_flow code (paths.behind assigned_flow s xs) ≡ None) →
          at_end assigned_flow code (paths.behind assigned_flow s xs) ≡ None
      one_of true h first later = later h
      one_of false h first later = let e = first refl in rw e (none_after code)

-- ---- reached positions

pub on_reachable : (g : Guard) (m : Structure) → IsOn g m → IsReachable g
on_reachable Always m on = tt
on_reachable (When n) m on = tt
on_reachable Never m on = on

pub where_reached : (g : Guard) (k k' : Position) → IsReachable g → if_reached g k k' ≡ k
where_reached Always k k' r = refl
where_reached (When n) k k' r = refl
where_reached Never k k' r = absurd r

where_not : (g : Guard) (k k' : Position) → g ≡ Never → if_reached g k k' ≡ k'
where_not g k k' e = rw e refl

-- ---- what is known

-- Where a path leads, the position is reached, and this is known there. Where none does, it isn't reached.
abbrev pub IsKnown : Option Known → Position → Type 0
IsKnown None k = k.guard ≡ Never
IsKnown (Some known) k = IsReachable k.guard × (k.known ≡ known)

pub no_locals : ℕ → Bool
no_locals x = false

pub no_terms : (ls : List (Option Term)) → HaveTerms no_locals ls
unfolding no_locals
no_terms ls x e = absurd (false≢true e)

module _ (w : Walk) where
  abbrev known_along : Flow Known
  known_along = known_flow w.program w.body

  first_known : (g h : Guard) (first second : Position) → IsReachable g → h ≡ Never → (join_from g h w known_met first second).known ≡ first.known
  first_known Never h first second r e = absurd r
  first_known Always Never first second r e = refl
  first_known (When i) Never first second r e = refl
  first_known Always Always first second r e = let no : ⊥ = cc in absurd no
  first_known Always (When n) first second r e = let no : ⊥ = cc in absurd no
  first_known (When i) Always first second r e = let no : ⊥ = cc in absurd no
  first_known (When i) (When n) first second r e = let no : ⊥ = cc in absurd no

  both_known : (g h : Guard) (first second : Position) → IsReachable g → IsReachable h → (join_from g h w known_met first second).known ≡ known_met first.known second.known
  both_known Never h first second r q = absurd r
  both_known Always Never first second r q = absurd q
  both_known (When i) Never first second r q = absurd q
  both_known Always Always first second r q = refl
  both_known Always (When n) first second r q = refl
  both_known (When i) Always first second r q = refl
  both_known (When i) (When n) first second r q = refl

  known_join : (o o' : Option Known) (first second : Position) → length first.locals ≡ length (local_types w.body) → length second.locals ≡ length (local_types w.body) → IsKnown o first → IsKnown o' second →
      IsKnown (met known_along o o') (join w known_met first second)
  known_join None o' first second a b p q = subst (λ (g : Guard). IsKnown o' (join_from g second.guard w known_met first second)) (sym p) q
  known_join (Some x) None first second a b p q =
      ((placed_join w (Some no_locals) None first second a b (p.0, no_terms first.locals) q).0, first_known first.guard second.guard first second p.0 q ∙ p.1)
  known_join (Some x) (Some y) first second a b p q = (
    (placed_join w (Some no_locals) (Some no_locals) first second a b (p.0, no_terms first.locals) (q.0, no_terms second.locals)).0,
    both_known first.guard second.guard first second p.0 q.0 ∙ ap (λ k. known_met k second.known) p.1 ∙ ap (known_met x) q.1,
  )

  known_left : (e : ExprTree) (n : ℕ) (o : Option Known) (k first there : Position) → IsKnown o there → IsKnown (left known_along e o) (if_reached there.guard (second_side (exit_guard e n) (known_tested e false there.known) k first) there)
  known_left e n None k first there p =
      subst (IsKnown (left known_along e None)) (sym (where_not there.guard (second_side (exit_guard e n) (known_tested e false there.known) k first) there p)) (one_of (is_literal_true e))
    where
      one_of : (b : Bool) → IsKnown (if b then None else None) there
      one_of true = p
      one_of false = p
  known_left e n (Some known) k first there p =
      subst (IsKnown (left known_along e (Some known))) (sym (where_reached there.guard (second_side (exit_guard e n) (known_tested e false there.known) k first) there p.0)) (one_of (is_literal_true e))
    where
      one_of : (b : Bool) → IsKnown (if b then None else Some (known_tested e false known)) (second_side (if b then Never else When n) (known_tested e false there.known) k first)
      one_of true = refl
      one_of false = (tt, ap (known_tested e false) p.1)

  check_head_known : (l : Loop) (k : Position) → (check_head w l k).known ≡ k.known
  check_head_known l k = (same_check_all w kind.LoopInvariant l.place (map (holds_at w k) l.invariants) k).like.known

  pub at_head_known : (l : Loop) (k : Position) → (at_head w l k).known ≡ known_head l.statement k.known
  at_head_known l k =
      let h = record (renewed w l.statement k) { known = known_head l.statement k.known } in
      let fs = map (holds_at w h) l.invariants ++ frame_at_head w l h ∷ levels_at_head w l h ∷ grown w.entry h.store ∷ good h.store ∷ types_from w h.store 0 (local_types w.body) k.locals h.locals in
      (same_assume_all fs h).like.known

  abbrev AreTyped : StmtTree → Type 0
  AreTyped s = each_inside (is_typed w.program w.body) s ≡ true

  abbrev HasCount : Position → Type 0
  HasCount k = length k.locals ≡ length (local_types w.body)

  -- a simple statement leads on, to what is known after it
  known_simple : (s : StmtTree) (k : Position) → AreTyped s → HasCount k → IsReachable k.guard → paths.behind assigned_flow s no_locals ≡ Some (λ x. is_target s x || no_locals x) → (behind w s k).known ≡ known_after w.program w.body s k.known →
      IsKnown (Some (known_after w.program w.body s k.known)) (behind w s k)
  known_simple s k h c r e known = ((subst (λ o. IsPlaced o (behind w s k)) e (placed w s no_locals k h c (r, no_terms k.locals))).0, known)

  mutual
    pub known_placed : (s : StmtTree) (k : Position) → AreTyped s → HasCount k → IsReachable k.guard → IsKnown (paths.behind known_along s k.known) (behind w s k)
    known_placed (IfStmt at e one other) k h c r =
        let q = and_parts (is_typed w.program w.body (IfStmt at e one other) && each (is_typed w.program w.body) one) (each (is_typed w.program w.body) other) h in
        let u = and_parts (is_typed w.program w.body (IfStmt at e one other)) (each (is_typed w.program w.body) one) q.0 in
        let a = evaluate w e k in
        let f = said (meant_at w e k) in
        let start = first_side f (known_tested e true k.known) a in
        let first = behind_all w one start in
        let begun = second_side (When (a.next.truths + 1)) (known_tested e false k.known) a first in
        let second = behind_all w other begun in
        let count : HasCount a = ap length (same_evaluate w e k).like.locals ∙ c in
        known_join (at_end known_along one (Some (known_tested e true k.known))) (at_end known_along other (Some (known_tested e false k.known))) first second ((leads_all w one start).count count) ((leads_all w other begun).count count)
        (all_known_placed one (Some (known_tested e true k.known)) start u.1 count (tt, refl)) (all_known_placed other (Some (known_tested e false k.known)) begun q.1 count (tt, refl))
    known_placed (LoopStmt at asked prelude e body exposes) k h c r =
        let s = LoopStmt at asked prelude e body exposes in
        let q = and_parts (is_typed w.program w.body s && each (is_typed w.program w.body) prelude) (each (is_typed w.program w.body) body) h in
        let u = and_parts (is_typed w.program w.body s) (each (is_typed w.program w.body) prelude) q.0 in
        let l = loop_of s at asked exposes in
        let checked = check_head w l k in
        let head = at_head w l checked in
        let tested = behind_all w prelude head in
        let evaluated = evaluate w e tested in
        let turned = behind_all w body (into_body w e tested) in
        let same = (same_check_all w kind.LoopInvariant l.place (map (holds_at w k) l.invariants) k).like in
        let o = Some (known_head s k.known) in
        known_left e (evaluated.next.truths + 1) (at_end known_along prelude o) evaluated (if_reached turned.guard (check_head w l turned) turned) tested
        (all_known_placed prelude o head u.1 ((leads_at_head w l checked).count (ap length same.locals ∙ c))
        ((placed_head w l no_locals checked (subst IsReachable (sym same.guard) r, no_terms checked.locals)).0, at_head_known l checked ∙ ap (known_head s) (check_head_known l k)))
    known_placed (ReturnStmt at e) k h c r = refl
    known_placed (AssignStmt at y e) k h c r = known_simple (AssignStmt at y e) k h c r refl refl
    known_placed (WriteStmt at e f m t value) k h c r = known_simple (WriteStmt at e f m t value) k h c r refl refl
    known_placed (WriteElementStmt at e i value) k h c r = known_simple (WriteElementStmt at e i value) k h c r refl refl
    known_placed (NewStmt at y t es) k h c r = known_simple (NewStmt at y t es) k h c r refl refl
    known_placed (NewArrayStmt at y t e) k h c r = known_simple (NewArrayStmt at y t e) k h c r refl refl
    known_placed (CallStmt at y callee es) k h c r = known_simple (CallStmt at y callee es) k h c r refl refl
    known_placed (ReadyStmt at) k h c r = known_simple (ReadyStmt at) k h c r refl refl
    known_placed (UnpackStmt at y t) k h c r = known_simple (UnpackStmt at y t) k h c r refl (same_local w at y k).like.known
    known_placed (PackStmt at y t) k h c r =
        let o = local_term y k in
        let b = check w kind.PackLevel at (equal (level_of k.store o) (class_term (above (classes_of w) t))) (check_local w at y k) in
        known_simple (PackStmt at y t) k h c r refl ((same_check_all w kind.Invariant at (invariants_said (classes_of w) k.store o t) b).like.known ∙ (same_local w at y k).like.known)
    known_placed (AssertStmt at e) k h c r = known_simple (AssertStmt at e) k h c r refl refl
    known_placed (AssumeStmt at e) k h c r = known_simple (AssumeStmt at e) k h c r refl refl
    known_placed (PrintStmt at e newline) k h c r = known_simple (PrintStmt at e newline) k h c r refl (same_evaluate_result w e k).like.known
    known_placed (PrintTextStmt at text newline) k h c r = known_simple (PrintTextStmt at text newline) k h c r refl refl

    pub all_known_placed : (code : CodeTree) (o : Option Known) (k : Position) → each (is_typed w.program w.body) code ≡ true → HasCount k → IsKnown o k → IsKnown (at_end known_along code o) (behind_all w code k)
    all_known_placed NoCode o k h c p = p
    all_known_placed (Then s code) None k h c p = subst (λ (z : Position). z.guard ≡ Never) (sym (where_not k.guard (behind_all w code (behind w s k)) k p)) p
    all_known_placed (Then s code) (Some known) k h c p =
        let q = and_parts (each_inside (is_typed w.program w.body) s) (each (is_typed w.program w.body) code) h in
        let here = subst (λ (z : Known). IsKnown (paths.behind known_along s z) (behind w s k)) p.1 (known_placed s k q.0 c p.0) in
        subst (IsKnown (at_end known_along code (paths.behind known_along s known))) (sym (where_reached k.guard (behind_all w code (behind w s k)) k p.0))
        (all_known_placed code (paths.behind known_along s known) (behind w s k) q.1 ((leads w s k).count c) here)
