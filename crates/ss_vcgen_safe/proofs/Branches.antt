-- Code one after the other, and an `if`: both sides go on to one position after them.
use Rattle.std.proofs.Common.{◌≡◌, ℕ, ◌+◌, List, length, Bool, true, false, ◌&&◌, refl, sym, ◌∙◌, ap, subst}
use Rattle.std.specs.Prelude.{Option, Some, None}
use Rattle.std.proofs.lemmas.Bool.{and_parts, and_from}
use Rattle.ss_core.specs.declared.names.Place.{Place}
use Rattle.ss_core.specs.Tree.{ClassTree, ExprTree, StmtTree, IfStmt, CodeTree, NoCode, Then}
use Rattle.ss_store_rules.specs.declared.Value.{Value}
use Rattle.ss_store_rules.specs.declared.Value.TheVariants as value
use Rattle.ss_store_rules.specs.Store.{Object}
use Rattle.ss_store_rules.specs.Values.{value_of}
use Rattle.ss_store_rules.specs.Locals.{is_argument, is_variable, local_types, each, each_inside, targets_only}
use Rattle.ss_store_rules.specs.Types.{is_condition, in_code}
use Rattle.ss_store_rules.specs.Typed.{is_typed, has_exposable}
use Rattle.ss_store_rules.specs.Paths as paths
use Rattle.ss_store_rules.specs.Paths.{met, at_end, holds_at, holds_along}
use Rattle.ss_store_rules.specs.Assigned.{assigned_flow, assigned_check, reads_assigned}
use Rattle.ss_store_rules.specs.NonNull.{Known, known_tested, known_met, known_flow, null_check}
use Rattle.ss_machine_good.specs.Checks.{fields_check}
use Rattle.ss_machine_good.specs.Known.{IsTrueOf}
use Rattle.ss_logic.specs.Values.{Table, Structure}
use Rattle.ss_logic.specs.Formulas.{Formula}
use Rattle.ss_logic.specs.Express.{said}
use Rattle.ss_vcgen_heaps.specs.Positions.{When, Position, Walk, meant_at, evaluate, first_side, second_side, join}
use Rattle.ss_vcgen_heaps.specs.Obligations.{behind, behind_all, AreValid}
use Rattle.ss_sound_outcomes.specs.Points.{Point, scene}
use Rattle.ss_sound_outcomes.specs.Outcomes.{Safely, AllSafely}
use Rattle.ss_vcgen_safe.specs.At.{IsOff, HaveTerms, activation, Rises}
use Rattle.ss_vcgen_safe.proofs.Alike.{rises_twice, alike_self, alike_twice, alike_lower, stays_on}
use Rattle.ss_vcgen_safe.proofs.Leads.{leads_evaluate, leads_first, leads_join}
use Rattle.ss_vcgen_safe.proofs.PositionsStatements.{leads, leads_all}
use Rattle.ss_vcgen_safe.proofs.Same.{same_evaluate}
use Rattle.ss_vcgen_safe.proofs.Paths.{IsReachable, IsPlaced, placed}
use Rattle.ss_vcgen_safe.proofs.PositionsBranches.{into_first, into_second, behind_first, behind_second}
use Rattle.ss_vcgen_safe.specs.Goes.{IsCoded, IsHere, EndsIn, Goes}
use Rattle.ss_vcgen_safe.proofs.Plain.{has_value}
use Rattle.ss_vcgen_safe.specs.Forms.{AreCoded, IsTested, TestsGo, AllGoes}
use Rattle.ss_vcgen_safe.proofs.Known.{IsIn, all_stay_assigned, on_reachable, where_reached, IsKnown, known_placed}

-- ---- where paths meet

-- what is assigned after both sides, of which this end was reached
record IsMet (o : Option (ℕ → Bool)) (xs : ℕ → Bool) (other : Option (ℕ → Bool)) : Type 0 where
  us : ℕ → Bool
  is : o ≡ Some us
  less : (x : ℕ) → us x ≡ true → xs x ≡ true
  all : (x : ℕ) → xs x ≡ true → IsIn other x → us x ≡ true

met_first : (xs : ℕ → Bool) (o : Option (ℕ → Bool)) → IsMet (met assigned_flow (Some xs) o) xs o
met_first xs None = record { us = xs; is = refl; less = λ x h. h; all = λ x h i. h }
met_first xs (Some ys) = record { us = λ x. xs x && ys x; is = refl; less = λ x h. (and_parts (xs x) (ys x) h).0; all = λ x h i. and_from (xs x) (ys x) h i }

met_second : (o : Option (ℕ → Bool)) (xs : ℕ → Bool) → IsMet (met assigned_flow o (Some xs)) xs o
met_second None xs = record { us = xs; is = refl; less = λ x h. h; all = λ x h i. h }
met_second (Some ys) xs = record { us = λ x. ys x && xs x; is = refl; less = λ x h. (and_parts (ys x) (xs x) h).1; all = λ x h i. and_from (ys x) (xs x) i h }

module _ (w : Walk) where
  -- ---- what a formed body says of parts

  pub first_coded : (s : StmtTree) (code : CodeTree) (xs : ℕ → Bool) (known : Known) → AreCoded w xs known (Then s code) → IsCoded w xs known s
  first_coded s code xs known c = record {
    typed = (and_parts (each_inside (is_typed w.program w.body) s) (each (is_typed w.program w.body) code) c.typed).0;
    exposed = (and_parts (each_inside (has_exposable w.program.classes w.body) s) (each (has_exposable w.program.classes w.body) code) c.exposed).0;
    targets = (and_parts (each_inside (targets_only (is_variable w.body)) s) (each (targets_only (is_variable w.body)) code) c.targets).0;
    assigned = (and_parts (holds_at assigned_flow (assigned_check w.body) s xs) (holds_along assigned_flow (assigned_check w.body) code (paths.behind assigned_flow s xs)) c.assigned).0;
    nulls = (and_parts (holds_at (known_flow w.program w.body) (null_check w.program w.body) s known) (holds_along (known_flow w.program w.body) (null_check w.program w.body) code (paths.behind (known_flow w.program w.body) s known)) c.nulls).0;
    fields = (and_parts (holds_at (known_flow w.program w.body) (fields_check w.program w.body) s known) (holds_along (known_flow w.program w.body) (fields_check w.program w.body) code (paths.behind (known_flow w.program w.body) s known)) c.fields).0;
  }

  pub rest_coded : (s : StmtTree) (code : CodeTree) (xs ys : ℕ → Bool) (known later : Known) → AreCoded w xs known (Then s code) → paths.behind assigned_flow s xs ≡ Some ys → paths.behind (known_flow w.program w.body) s known ≡ Some later → AreCoded w ys later code
  rest_coded s code xs ys known later c e f =
      let a = and_parts (holds_at assigned_flow (assigned_check w.body) s xs) (holds_along assigned_flow (assigned_check w.body) code (paths.behind assigned_flow s xs)) c.assigned in
      let n = and_parts (holds_at (known_flow w.program w.body) (null_check w.program w.body) s known) (holds_along (known_flow w.program w.body) (null_check w.program w.body) code (paths.behind (known_flow w.program w.body) s known)) c.nulls in
      let g = and_parts (holds_at (known_flow w.program w.body) (fields_check w.program w.body) s known) (holds_along (known_flow w.program w.body) (fields_check w.program w.body) code (paths.behind (known_flow w.program w.body) s known)) c.fields in
      record {
        typed = (and_parts (each_inside (is_typed w.program w.body) s) (each (is_typed w.program w.body) code) c.typed).1;
        exposed = (and_parts (each_inside (has_exposable w.program.classes w.body) s) (each (has_exposable w.program.classes w.body) code) c.exposed).1;
        targets = (and_parts (each_inside (targets_only (is_variable w.body)) s) (each (targets_only (is_variable w.body)) code) c.targets).1;
        assigned = subst (λ o. holds_along assigned_flow (assigned_check w.body) code o ≡ true) e a.1;
        nulls = subst (λ o. holds_along (known_flow w.program w.body) (null_check w.program w.body) code o ≡ true) f n.1;
        fields = subst (λ o. holds_along (known_flow w.program w.body) (fields_check w.program w.body) code o ≡ true) f g.1;
      }

  module _ (at : Place) (e : ExprTree) (one other : CodeTree) where
    three : (x y z : Bool) → (x && y && z) ≡ true → (x ≡ true) × (y ≡ true) × (z ≡ true)
    three x y z h = let p = and_parts (x && y) z h in let q = and_parts x y p.0 in (q.0, q.1, p.1)

    pub sides_coded : (xs : ℕ → Bool) (known : Known) → IsCoded w xs known (IfStmt at e one other) → AreCoded w xs (known_tested e true known) one × AreCoded w xs (known_tested e false known) other
    sides_coded xs known c =
        let t = three (is_typed w.program w.body (IfStmt at e one other)) (each (is_typed w.program w.body) one) (each (is_typed w.program w.body) other) c.typed in
        let x = three (has_exposable w.program.classes w.body (IfStmt at e one other)) (each (has_exposable w.program.classes w.body) one) (each (has_exposable w.program.classes w.body) other) c.exposed in
        let g = three (targets_only (is_variable w.body) (IfStmt at e one other)) (each (targets_only (is_variable w.body)) one) (each (targets_only (is_variable w.body)) other) c.targets in
        let a = three ((assigned_check w.body).statement (IfStmt at e one other) xs) (holds_along assigned_flow (assigned_check w.body) one (Some xs)) (holds_along assigned_flow (assigned_check w.body) other (Some xs)) c.assigned in
        let flow = known_flow w.program w.body in
        let nc = null_check w.program w.body in
        let fc = fields_check w.program w.body in
        let n = three (nc.statement (IfStmt at e one other) known) (holds_along flow nc one (Some (known_tested e true known))) (holds_along flow nc other (Some (known_tested e false known))) c.nulls in
        let f = three (fc.statement (IfStmt at e one other) known) (holds_along flow fc one (Some (known_tested e true known))) (holds_along flow fc other (Some (known_tested e false known))) c.fields in
        (record { typed = t.1; exposed = x.1; targets = g.1; assigned = a.1; nulls = n.1; fields = f.1 }, record { typed = t.2; exposed = x.2; targets = g.2; assigned = a.2; nulls = n.2; fields = f.2 })

    pub test_coded : (xs : ℕ → Bool) (known : Known) → IsCoded w xs known (IfStmt at e one other) → (is_condition w.program.classes w.body in_code e ≡ true) × (reads_assigned w.body xs e ≡ true)
    test_coded xs known c =
        let t = three (is_typed w.program w.body (IfStmt at e one other)) (each (is_typed w.program w.body) one) (each (is_typed w.program w.body) other) c.typed in
        let a = three ((assigned_check w.body).statement (IfStmt at e one other) xs) (holds_along assigned_flow (assigned_check w.body) one (Some xs)) (holds_along assigned_flow (assigned_check w.body) other (Some xs)) c.assigned in
        (t.0, (and_parts (reads_assigned w.body xs e) true (and_parts (reads_assigned w.body xs e && true) true a.0).0).0)

module _ (w : Walk) (before : List Object) (table : Table) (arguments : List Value) where
  abbrev cs : List ClassTree
  cs = w.program.classes

  abbrev Here : (ℕ → Bool) → Structure → Position → Point → Type 0
  Here xs m k p = IsHere w before table arguments xs m k p

  pub here_reachable : (xs : ℕ → Bool) (m : Structure) (k : Position) (p : Point) → Here xs m k p → IsReachable k.guard
  here_reachable xs m k p h = on_reachable k.guard m (h.at.agrees.guard m (alike_self k.next m))

  -- ---- one after the other

  pub nothing_goes : (Q : Point → Type 0) → AllGoes w before table arguments NoCode Q
  nothing_goes Q xs m k p c h v ends = ends xs m p refl (alike_self k.next m) h

  -- what is known after a statement whose end is reached
  known_there : (o : Option Known) (k : Position) → IsKnown o k → IsReachable k.guard → o ≡ Some k.known
  known_there None k is r = absurd (subst IsReachable is r)
  known_there (Some known) k is r = ap Some (sym is.1)

  pub one_more_goes : (s : StmtTree) (code : CodeTree) (Q : Point → Type 0) → Goes w before table arguments s (λ q. AllSafely (activation w before table) code q Q) → AllGoes w before table arguments code Q → AllGoes w before table arguments (Then s code) Q
  one_more_goes s code Q first rest xs m k p c h v ends =
      let k' = behind w s k in
      let end = behind_all w code k' in
      let r = here_reachable xs m k p h in
      let e = where_reached k.guard end k r in
      let v' : AreValid cs end.listed = subst (λ (z : Position). AreValid cs z.listed) e v in
      let ends' : EndsIn w before table arguments (at_end assigned_flow code (paths.behind assigned_flow s xs)) m k end Q = subst (λ (z : Position). EndsIn w before table arguments (at_end assigned_flow code (paths.behind assigned_flow s xs)) m k z Q) e ends in
      let coded = first_coded w s code xs k.known c in
      first xs m k p coded h ((leads_all w code k').listed v')
      (λ ys m' q is a h'. rest ys m' k' q
      (rest_coded w s code xs ys k.known k'.known c is (known_there (paths.behind (known_flow w.program w.body) s k.known) k' (known_placed w s k coded.typed h.at.agrees.count r) (here_reachable ys m' k' q h')))
      h' v' (λ zs m'' z is' a' h''. ends' zs m'' z (ap (at_end assigned_flow code) is ∙ is') (alike_twice k.next m m' m'' a (alike_lower k.next k'.next m' m'' (leads w s k).rises a')) h''))

  -- ---- `if`

  module _ (tests : TestsGo w before table) (at : Place) (e : ExprTree) (one other : CodeTree) (Q : Point → Type 0) (firsts : AllGoes w before table arguments one Q) (seconds : AllGoes w before table arguments other Q)
      (xs : ℕ → Bool) (m : Structure) (k : Position) (p : Point) (c : IsCoded w xs k.known (IfStmt at e one other)) (h : Here xs m k p) where
    abbrev tested : Position
    tested = evaluate w e k

    abbrev f : Formula
    f = said (meant_at w e k)

    abbrev start : Position
    start = first_side f (known_tested e true k.known) tested

    abbrev first : Position
    first = behind_all w one start

    abbrev begun : Position
    begun = second_side (When (tested.next.truths + 1)) (known_tested e false k.known) tested first

    abbrev second : Position
    second = behind_all w other begun

    abbrev end : Position
    end = join w known_met first second

    count : length tested.locals ≡ length (local_types w.body)
    count = ap length (same_evaluate w e k).like.locals ∙ h.at.agrees.count

    first_count : length first.locals ≡ length (local_types w.body)
    first_count = (leads_all w one start).count count

    second_count : length second.locals ≡ length (local_types w.body)
    second_count = (leads_all w other begun).count count

    abbrev Behind : Option (ℕ → Bool)
    Behind = met assigned_flow (at_end assigned_flow one (Some xs)) (at_end assigned_flow other (Some xs))

    is_placed : IsPlaced Behind end
    is_placed = placed w (IfStmt at e one other) xs k c.typed h.at.agrees.count (here_reachable xs m k p h, h.at.terms)

    terms_after : (us : ℕ → Bool) → Behind ≡ Some us → HaveTerms us end.locals
    terms_after us is = (subst (λ o. IsPlaced o end) is is_placed).1

    -- from the beginning of a side
    to_start : Rises k.next start.next
    to_start = rises_twice k.next tested.next start.next (leads_evaluate w e k).rises (leads_first w f (known_tested e true k.known) tested).rises

    to_begun : Rises k.next begun.next
    to_begun = rises_twice k.next start.next begun.next to_start (leads_all w one start).rises

    valid_second : AreValid cs end.listed → AreValid cs second.listed
    valid_second v = (leads_join w known_met first second).listed v

    valid_first : AreValid cs end.listed → AreValid cs first.listed
    valid_first v = (leads_all w other begun).listed (valid_second v)

    valid_test : AreValid cs end.listed → AreValid cs tested.listed
    valid_test v = (leads_all w one start).listed (valid_first v)

    abbrev Ends : Type 0
    Ends = EndsIn w before table arguments Behind m k end Q

    arguments_assigned : (us ys : ℕ → Bool) (o : Option (ℕ → Bool)) → ((x : ℕ) → ys x ≡ true → IsIn o x → us x ≡ true) → ((x : ℕ) → is_argument w.body x ≡ true → ys x ≡ true) → ((x : ℕ) → xs x ≡ true → IsIn o x) →
        (x : ℕ) → is_argument w.body x ≡ true → us x ≡ true
    arguments_assigned us ys o all mine others x is = all x (mine x is) (others x (h.assigned x is))

    first_goes : (t : IsTested w before table xs m k p e) → AreValid cs end.listed → Ends → t.v ≡ true → AllSafely (activation w before table) one p Q
    first_goes t v ends so =
        let side = into_first w before table xs m tested p f (known_tested e true k.known) t.at (subst (λ b. IsTrueOf w.body.flags.ctor (known_tested e b k.known) (scene (activation w before table) p)) so t.known) (t.true_so so) in
        firsts xs side.to.m' start p (sides_coded w at e one other xs k.known c).0 (record { at = side.to.at; assigned = h.assigned; same = h.same }) (valid_first v)
        (λ ys m' q is a h'. let o = at_end assigned_flow other (Some xs) in
        let z = met_first ys o in
        let is' : Behind ≡ Some z.us = ap (λ u. met assigned_flow u o) is ∙ z.is in
        let g = behind_first w before table first second m' q ys z.us z.less (terms_after z.us is') first_count second_count begun h'.at refl refl
        (stays_on (λ m''. m''.truths (tested.next.truths + 1) ≡ false) start.next first.next side.to.m' m' (leads_all w one start).rises a side.other) (leads_all w other begun) in
        ends z.us g.m' q is'
        (alike_twice k.next m m' g.m'
        (alike_twice k.next m side.to.m' m' (alike_lower k.next tested.next m side.to.m' (leads_evaluate w e k).rises side.to.alike) (alike_lower k.next start.next side.to.m' m' to_start a))
        (alike_lower k.next first.next m' g.m' to_begun g.alike))
        (record { at = g.at; assigned = arguments_assigned z.us ys o z.all h'.assigned (λ x i. all_stay_assigned other (Some xs) x i); same = h'.same }))

    second_goes : (t : IsTested w before table xs m k p e) → AreValid cs end.listed → Ends → t.v ≡ false → AllSafely (activation w before table) other p Q
    second_goes t v ends differs =
        let side = into_second w before table xs m tested p f (known_tested e true k.known) t.at (When (tested.next.truths + 1)) (known_tested e false k.known) first (λ m'' on. on) (leads_all w one start)
        (subst (λ b. IsTrueOf w.body.flags.ctor (known_tested e b k.known) (scene (activation w before table) p)) differs t.known) (t.false_so differs) in
        seconds xs side.to.m' begun p (sides_coded w at e one other xs k.known c).1 (record { at = side.to.at; assigned = h.assigned; same = h.same }) (valid_second v)
        (λ ys m' q is a h'. let o = at_end assigned_flow one (Some xs) in
        let z = met_second o ys in
        let is' : Behind ≡ Some z.us = ap (λ u. met assigned_flow o u) is ∙ z.is in
        let g = behind_second w before table first second m' q ys z.us z.less (terms_after z.us is') first_count second_count h'.at
        (stays_on (IsOff first.guard) begun.next second.next side.to.m' m' (leads_all w other begun).rises a side.off) in
        ends z.us g.m' q is'
        (alike_twice k.next m m' g.m'
        (alike_twice k.next m side.to.m' m' (alike_lower k.next tested.next m side.to.m' (leads_evaluate w e k).rises side.to.alike) (alike_lower k.next begun.next side.to.m' m' to_begun a))
        (alike_lower k.next second.next m' g.m' (rises_twice k.next begun.next second.next to_begun (leads_all w other begun).rises) g.alike))
        (record { at = g.at; assigned = arguments_assigned z.us ys o z.all h'.assigned (λ x i. all_stay_assigned one (Some xs) x i); same = h'.same }))

    pub both_go : AreValid cs end.listed → Ends → Safely (activation w before table) (IfStmt at e one other) p Q
    both_go v ends =
        let r = test_coded w at e one other xs k.known c in
        let t = tests xs m k p e r.0 r.1 h.at (valid_test v) in
        has_value (value_of e (scene (activation w before table) p)) (value.Bool t.v) _ t.is (λ so. first_goes t v ends so, λ differs. second_goes t v ends differs)

  pub if_goes : TestsGo w before table → (at : Place) (e : ExprTree) (one other : CodeTree) (Q : Point → Type 0) → AllGoes w before table arguments one Q → AllGoes w before table arguments other Q → Goes w before table arguments (IfStmt at e one other) Q
  if_goes tests at e one other Q firsts seconds xs m k p c h v ends = both_go tests at e one other Q firsts seconds xs m k p c h v ends
