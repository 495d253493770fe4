use Rattle.std.proofs.Common.{◌≡◌, ◌-◌, ◌*◌, suc, length, get_or, true, false, refl, sym, ◌∙◌, subst, inl, inr, ⊎_elim, rules, arith, List, None}
use Rattle.std.specs.Prelude.{IfOk, IfSome}
use Rattle.std.proofs.lemmas.Grind.{common_steps}
use Rattle.std.proofs.lemmas.Option.{IfSome_then, MatchOption-at_some}
use Rattle.std.proofs.lemmas.Bool.{false≢true, true≢false}
use Rattle.std.proofs.lemmas.Result.{IfOk-weaker}
use Rattle.ss_logic.specs.Formulas.{Formula, neg}
use Rattle.ss_terms.specs.declared.forms.FormulaId.{FormulaId}
use Rattle.ss_terms.specs.Forms.{formula_at}
use Rattle.ss_terms.proofs.Tested.{AreBelow-get}
use Rattle.ss_deriv.specs.Lines.{lines_of}
use Rattle.ss_search_clashes.specs.Closing.{Closes}
use Rattle.ss_search_reaching.specs.Reaching.{facts_of, Shows}
use Rattle.ss_search_procedure_rules.specs.Closed.{StaysOpen}
use Rattle.ss_search_procedure.specs.Decisions.{bank_of, reached_in, IsUnknown, IsOpenDecision, IsTried, AreTried, IsLast, ReachesBy, ClosesBy}
use Rattle.ss_search_procedure.proofs.Steps.{step, less_room, reaches_step}
use Rattle.ss_search_reached.proofs.Names.{ok_then}
use Rattle.ss_search_procedure.proofs.Going.{includes, stays, on_and_on, on_grows, reaches_nothing, reaches_on, reaches_from, reaches_same, shown_on, closes_on}
use Rattle.ss_search_procedure.proofs.Sides.{chosen_side, side_negation}
use Rattle.ss_search_procedure.proofs.Undoing.{trial_of}
use Rattle.ss_search_procedure.proofs.Deciding.{chosen_at}
use Rattle.ss_search_procedure.proofs.Tried.{one_more, all_of_them, tried, nothing_follows, none_tried}
use Rattle.ss_search_procedure.proofs.setting.Settling.+nested.Goals as goal

pub lower-settle_decisions-requires : goal.lower-settle_decisions-requires
lower-settle_decisions-requires t c =
    let s = c.args.self.now in
    let g = on_grows s c.args.reaching.now c.reach.new.self c.requires.state c.in_ok-lines.ensures.grows in
    let d = c.decreases in
    (omega arith, (c.requires.setting, (g.state, λ cs is. c.in_ok-lines.ensures.saturated cs is c.in_default.is)))

pub lower-returns-in-Some : goal.lower-returns-in-Some
lower-returns-in-Some t c =
    let s = c.args.self.now in
    let old = c.args.reaching.now in
    let new = c.reach.new.self in
    record {
      goes_on = on_grows s old new c.requires.state c.in_ok-lines.ensures.grows;
      stays_open = λ cs is e. cc;
      reaches = reaches_from s old new c.in_ok-lines.ensures.reaches;
      closes = λ cs premises goal h.
          MatchOption-at_some (Unit {0}) (λ v. (premises : List Formula) (goal : Formula) → Shows cs s.given old → Closes cs premises goal (facts_of s.given new) (lines_of (bank_of s) v.items)) c.in-Some.lines c.in-Some.is (c.in_ok-lines.ensures.closes cs h.bank) premises goal h.shows;
    }

pub lower-returns-then-depth-eq0 : goal.lower-returns-then-depth-eq0
lower-returns-then-depth-eq0 t c =
    let s = c.args.self.now in
    record {
      goes_on = on_grows s c.args.reaching.now c.reach.new.self c.requires.state c.in_ok-lines.ensures.grows;
      stays_open = λ cs is e. subst (λ n. StaysOpen cs n (reached_in s c.reach.new.self)) (sym c.if-depth-eq0.true) (c.in_ok-lines.ensures.saturated cs is c.in_default.is);
      reaches = reaches_from s c.args.reaching.now c.reach.new.self c.in_ok-lines.ensures.reaches;
      closes = tt;
    }

pub is_closed-returns-then-is_decided : goal.is_closed-returns-then-is_decided
is_closed-returns-then-is_decided t c = record {
  goes_on = stays c.args.self.now c.args.reaching.now c.requires.state;
  same = refl;
  closed = λ e. absurd (false≢true e);
  tried = λ cs is e. ⊎_elim (λ k. inl k) (λ k. inr (inl k)) (c.is_decided.ensures.yes c.if-is_decided.true);
  reaches = reaches_nothing c.args.self.now c.args.reaching.now;
  denied = λ e. absurd (false≢true e);
}

pub is_closed-lower-requires : goal.is_closed-lower-requires
is_closed-lower-requires t c =
    let d = c.decreases in
    (omega arith, (c.requires.setting, c.in_ok-suppose.ensures.goes_on.state))

pub is_closed-take_back-requires : goal.is_closed-take_back-requires
is_closed-take_back-requires t c =
    let s = c.args.self.now in
    let old = c.args.reaching.now in
    let supposed = c.suppose.new.reaching in
    let low = c.lower.new.reaching in
    let e = c.in_ok-suppose.ensures in
    record { trial = (old, trial_of s c.mark-marks.result c.args.p old supposed low c.requires.state c.mark-marks.ensures.reached c.mark-marks.ensures.path e.begun e.shown e.goes_on c.in_ok-lines.ensures.goes_on c.in_ok-lines.ensures.reaches) }

pub is_closed-deny-requires-clause-trial : goal.is_closed-deny-requires-clause-trial
is_closed-deny-requires-clause-trial t c =
    let s = c.args.self.now in
    let old = c.args.reaching.now in
    let supposed = c.suppose.new.reaching in
    let low = c.lower.new.reaching in
    let e = c.in_ok-suppose.ensures in
    (old, trial_of s c.mark-marks.result c.args.p old supposed low c.requires.state c.mark-marks.ensures.reached c.mark-marks.ensures.path e.begun e.shown e.goes_on c.in_ok-lines.ensures.goes_on c.in_ok-lines.ensures.reaches)

pub is_closed-returns-in-None : goal.is_closed-returns-in-None
is_closed-returns-in-None t c =
    let s = c.args.self.now in
    let old = c.args.reaching.now in
    let supposed = c.suppose.new.reaching in
    let low = c.lower.new.reaching in
    let f = formula_at (bank_of s) c.args.p in
    let e = c.in_ok-suppose.ensures in
    let trial = trial_of s c.mark-marks.result c.args.p old supposed low c.requires.state c.mark-marks.ensures.reached c.mark-marks.ensures.path e.begun e.shown e.goes_on c.in_ok-lines.ensures.goes_on c.in_ok-lines.ensures.reaches in
    let b = c.take_back.ensures.before old trial in
    record {
      goes_on = b.goes_on;
      same = b.same;
      closed = λ e. absurd (false≢true e);
      tried = λ cs is k. tried s cs c.args.depth old low f (includes s old low trial.on) (includes s supposed low c.in_ok-lines.ensures.goes_on f c.in_ok-suppose.ensures.known) (c.in_ok-lines.ensures.stays_open cs is c.in-None.is);
      reaches = c.take_back.ensures.reaches old trial;
      denied = λ e. absurd (false≢true e);
    }

pub is_closed-returns-in_ok-deny-in-Some : goal.is_closed-returns-in_ok-deny-in-Some
is_closed-returns-in_ok-deny-in-Some t c =
    let s = c.args.self.now in
    let old = c.args.reaching.now in
    let supposed = c.suppose.new.reaching in
    let low = c.lower.new.reaching in
    let e = c.in_ok-suppose.ensures in
    let trial = trial_of s c.mark-marks.result c.args.p old supposed low c.requires.state c.mark-marks.ensures.reached c.mark-marks.ensures.path e.begun e.shown e.goes_on c.in_ok-lines.ensures.goes_on c.in_ok-lines.ensures.reaches in
    let b = c.in_ok-deny-in-Some.ensures.before old trial in
    record {
      goes_on = b.goes_on;
      same = b.same;
      closed = λ yes. c.is_decided.ensures.no c.if-is_decided.false;
      tried = λ cs is k. absurd (true≢false k);
      reaches = c.in_ok-deny-in-Some.ensures.reaches old trial (MatchOption-at_some (Unit {0}) (λ v. ClosesBy s supposed low v.items) c.in-Some.lines c.in-Some.is c.in_ok-lines.ensures.closes);
      denied = λ yes. c.in_ok-deny-in-Some.ensures.last;
    }

pub settle_decisions-loop-p-init : goal.settle_decisions-loop-p-init
settle_decisions-loop-p-init t c = record { on = stays c.args.self.now c.args.reaching.now c.requires.state; saturated = c.requires.saturated; reaches = reaches_nothing c.args.self.now c.args.reaching.now }

pub settle_decisions-closed_decision-requires : goal.settle_decisions-closed_decision-requires
settle_decisions-closed_decision-requires t c =
    let d = c.decreases in
    (omega arith, (c.requires.setting, c.loop-p.invariant.on.state))

pub settle_decisions-negation-other-requires : goal.settle_decisions-negation-other-requires
settle_decisions-negation-other-requires t c = (MatchOption-at_some (Unit {0}) (IsOpenDecision c.args.self.now c.loop-p.reaching) c.in-Some.p c.in-Some.is c.in_ok-p.ensures.found).has

pub settle_decisions-learn_last-requires : goal.settle_decisions-learn_last-requires
settle_decisions-learn_last-requires t c =
    let s = c.args.self.now in
    let choice = MatchOption-at_some (Unit {0}) (IsOpenDecision s c.loop-p.reaching) c.in-Some.p c.in-Some.is c.in_ok-p.ensures.found in
    let denied = MatchOption-at_some (Unit {0}) (λ p. IsLast (bank_of s) (neg (formula_at (bank_of s) p)) c.closed_decision.new.reaching.path) c.in-Some.p c.in-Some.is c.in_ok-p.ensures.denied in
    record {
      setting = c.requires.setting;
      state = c.in_ok-p.ensures.goes_on.state;
      formula = c.negation-other.ensures.in_bank;
      side = side_negation s (formula_at (bank_of s) c.in-Some.p) (formula_at (bank_of s) c.negation-other.result) c.negation-other.ensures.negation choice.side;
      last = subst (λ f. IsLast (bank_of s) f c.closed_decision.new.reaching.path) (sym c.negation-other.ensures.negation) denied;
    }

pub settle_decisions-loop-p-preserved : goal.settle_decisions-loop-p-preserved
settle_decisions-loop-p-preserved t c =
    let s = c.args.self.now in
    let r0 = c.loop-p.reaching in
    let r1 = c.closed_decision.new.reaching in
    let r2 = c.learn_last.new.reaching in
    let r3 = c.reach.new.self in
    let choice = MatchOption-at_some (Unit {0}) (IsOpenDecision s r0) c.in-Some.p c.in-Some.is c.in_ok-p.ensures.found in
    let l = c.in_ok-learn_last.ensures in
    record {
      on = on_and_on s c.args.reaching.now r0 r3 c.loop-p.invariant.on
          (step s r0 r1 r2 r3 c.in-Some.p c.negation-other.result c.in_ok-p.ensures.goes_on c.in_ok-p.ensures.same choice c.negation-other.ensures.negation l.goes_on l.known c.in_ok-lines.ensures.grows);
      saturated = λ cs is. c.in_ok-lines.ensures.saturated cs is c.in_default-2.is;
      reaches = reaches_on s c.args.reaching.now r0 r3 c.loop-p.invariant.reaches
          (reaches_step s r0 r1 r2 r3 c.in-Some.p c.negation-other.result c.in_ok-p.ensures.goes_on c.in_ok-p.ensures.same choice c.negation-other.ensures.negation l.goes_on l.known c.in_ok-lines.ensures.grows
          c.in_ok-p.ensures.reaches (reaches_same s r1 r2 l.path l.shown) c.in_ok-lines.ensures.reaches);
    }

pub settle_decisions-loop-p-smaller : goal.settle_decisions-loop-p-smaller
settle_decisions-loop-p-smaller t c =
    let s = c.args.self.now in
    let r0 = c.loop-p.reaching in
    let choice = MatchOption-at_some (Unit {0}) (IsOpenDecision s r0) c.in-Some.p c.in-Some.is c.in_ok-p.ensures.found in
    let l = c.in_ok-learn_last.ensures in
    less_room s r0 c.closed_decision.new.reaching c.learn_last.new.reaching c.reach.new.self c.in-Some.p c.negation-other.result c.in_ok-p.ensures.goes_on c.in_ok-p.ensures.same choice c.negation-other.ensures.negation l.goes_on l.known c.in_ok-lines.ensures.grows

pub settle_decisions-returns-in-Some-2 : goal.settle_decisions-returns-in-Some-2
settle_decisions-returns-in-Some-2 t c =
    let s = c.args.self.now in
    let first = c.args.reaching.now in
    let r0 = c.loop-p.reaching in
    let r1 = c.closed_decision.new.reaching in
    let r2 = c.learn_last.new.reaching in
    let r3 = c.reach.new.self in
    let choice = MatchOption-at_some (Unit {0}) (IsOpenDecision s r0) c.in-Some.p c.in-Some.is c.in_ok-p.ensures.found in
    let l = c.in_ok-learn_last.ensures in
    let to : ReachesBy s first r2 = reaches_on s first r0 r2 c.loop-p.invariant.reaches (reaches_on s r0 r1 r2 c.in_ok-p.ensures.reaches (reaches_same s r1 r2 l.path l.shown)) in
    record {
      goes_on = on_and_on s first r0 r3 c.loop-p.invariant.on
          (step s r0 r1 r2 r3 c.in-Some.p c.negation-other.result c.in_ok-p.ensures.goes_on c.in_ok-p.ensures.same choice c.negation-other.ensures.negation l.goes_on l.known c.in_ok-lines.ensures.grows);
      stays_open = λ cs is e. cc;
      reaches = reaches_on s first r2 r3 to (reaches_from s r2 r3 c.in_ok-lines.ensures.reaches);
      closes = λ cs premises goal h.
          MatchOption-at_some (Unit {0}) (λ v. (premises : List Formula) (goal : Formula) → Shows cs s.given r2 → Closes cs premises goal (facts_of s.given r3) (lines_of (bank_of s) v.items)) c.in-Some-2.lines c.in-Some-2.is (c.in_ok-lines.ensures.closes cs h.bank)
          premises goal (shown_on s first r2 to cs h).shows;
    }

pub settle_decisions-returns : goal.settle_decisions-returns
settle_decisions-returns t c =
    let s = c.args.self.now in
    let r = c.loop-p.reaching in
    let after = c.closed_decision.new.reaching in
    record {
      goes_on = on_and_on s c.args.reaching.now r after c.loop-p.invariant.on c.in_ok-p.ensures.goes_on;
      stays_open = λ cs is e. subst (StaysOpen cs (suc c.args.depth)) (sym c.in_ok-p.ensures.same)
          (nothing_follows s cs c.args.depth r (c.loop-p.invariant.saturated cs is) c.loop-p.invariant.on.state (c.in_ok-p.ensures.none cs is c.in_default.is));
      reaches = reaches_on s c.args.reaching.now r after c.loop-p.invariant.reaches c.in_ok-p.ensures.reaches;
      closes = tt;
    }

pub closed_decision-loop-p-init : goal.closed_decision-loop-p-init
closed_decision-loop-p-init t c = record {
  on = stays c.args.self.now c.args.reaching.now c.requires.state;
  same = refl;
  tried = λ cs is p k. none_tried c.args.self.now cs c.args.depth (reached_in c.args.self.now c.args.reaching.now) p k;
  reaches = reaches_nothing c.args.self.now c.args.reaching.now;
}

pub closed_decision-returns-clause-none : goal.closed_decision-returns-clause-none
closed_decision-returns-clause-none t c = λ cs is e.
    let s = c.args.self.now in
    all_of_them (bank_of s) (AreTried cs c.args.depth (reached_in s c.args.reaching.now)) s.decisions.now c.loop-p.p-index c.loop-p-test.false (c.loop-p.invariant.tried cs is)

pub lower-returns-clause-goes_on : goal.lower-returns-clause-goes_on
lower-returns-clause-goes_on t c =
    let s = c.args.self.now in
    let g = on_grows s c.args.reaching.now c.reach.new.self c.requires.state c.in_ok-lines.ensures.grows in
    ok_then c.settle_decisions.result (λ k. on_and_on s c.args.reaching.now c.reach.new.self c.settle_decisions.new.reaching g k) c.settle_decisions.ensures.goes_on

pub lower-returns-clause-stays_open : goal.lower-returns-clause-stays_open
lower-returns-clause-stays_open t c = λ cs is.
    let deep : suc (c.args.depth - 1) ≡ c.args.depth = omega arith in
    subst (λ n. IfOk c.settle_decisions.result (λ o. o ≡ None → StaysOpen cs n (reached_in c.args.self.now c.settle_decisions.new.reaching))) deep (c.settle_decisions.ensures.stays_open cs is)

pub lower-returns-clause-reaches : goal.lower-returns-clause-reaches
lower-returns-clause-reaches t c =
    let s = c.args.self.now in
    ok_then c.settle_decisions.result (λ r. reaches_on s c.args.reaching.now c.reach.new.self c.settle_decisions.new.reaching (reaches_from s c.args.reaching.now c.reach.new.self c.in_ok-lines.ensures.reaches) r) c.settle_decisions.ensures.reaches

pub closed_decision-is_closed-requires : goal.closed_decision-is_closed-requires
closed_decision-is_closed-requires t c =
    let s = c.args.self.now in
    let i = c.loop-p.p-index in
    let none : FormulaId = record { 0 = 0 } in
    let d = c.decreases in (
      omega arith,
      (
        c.requires.setting,
        (
          c.loop-p.invariant.on.state,
          (AreBelow-get (length (bank_of s).formulas * 2) s.decisions.now i none c.requires.setting.in_bank c.loop-p-test.true, chosen_side s (formula_at (bank_of s) (get_or s.decisions.now i none)) (chosen_at s i none c.loop-p-test.true)),
        ),
      ),
    )

pub closed_decision-negation-other-requires : goal.closed_decision-negation-other-requires
closed_decision-negation-other-requires t c = AreBelow-get (length (bank_of c.args.self.now).formulas * 2) c.args.self.now.decisions.now c.loop-p.p-index (record { 0 = 0 }) c.requires.setting.in_bank c.loop-p-test.true

pub closed_decision-is_closed-requires-in-loop-p : goal.closed_decision-is_closed-requires-in-loop-p
closed_decision-is_closed-requires-in-loop-p t c =
    let s = c.args.self.now in
    let i = c.loop-p.p-index in
    let none : FormulaId = record { 0 = 0 } in
    let f = formula_at (bank_of s) (get_or s.decisions.now i none) in
    let side = chosen_side s f (chosen_at s i none c.loop-p-test.true) in
    let d = c.decreases in (
      omega arith,
      (c.requires.setting, (c.in_ok-is_closed.ensures.goes_on.state, (c.negation-other.ensures.in_bank, side_negation s f (formula_at (bank_of s) c.negation-other.result) c.negation-other.ensures.negation side))),
    )

pub closed_decision-returns-then-branch-clause-reaches : goal.closed_decision-returns-then-branch-clause-reaches
closed_decision-returns-then-branch-clause-reaches t c = reaches_on c.args.self.now c.args.reaching.now c.loop-p.reaching c.is_closed.new.reaching c.loop-p.invariant.reaches c.in_ok-is_closed.ensures.reaches

pub closed_decision-returns-then-branch-clause-found : goal.closed_decision-returns-then-branch-clause-found
closed_decision-returns-then-branch-clause-found t c =
    let s = c.args.self.now in
    let i = c.loop-p.p-index in
    let none : FormulaId = record { 0 = 0 } in
    let f = formula_at (bank_of s) (get_or s.decisions.now i none) in
    let yes : c.in_ok-is_closed.field-0 ≡ true = first_of (search rules, grind (arith, common_steps)) in
    record {
      has = AreBelow-get (length (bank_of s).formulas * 2) s.decisions.now i none c.requires.setting.in_bank c.loop-p-test.true;
      side = chosen_side s f (chosen_at s i none c.loop-p-test.true);
      unknown = subst (λ fs. IsUnknown fs f) c.loop-p.invariant.same (c.in_ok-is_closed.ensures.closed yes);
    }

pub lower-returns-clause-closes : goal.lower-returns-clause-closes
lower-returns-clause-closes t c =
    let s = c.args.self.now in
    let old = c.args.reaching.now in
    let mid = c.reach.new.self in
    let new = c.settle_decisions.new.reaching in
    let to = reaches_from s old mid c.in_ok-lines.ensures.reaches in
    IfOk-weaker c.settle_decisions.result (λ o. IfSome o (λ v. ClosesBy s mid new v.items)) (λ o. IfSome o (λ v. ClosesBy s old new v.items))
    (λ o h. IfSome_then o h (λ v k. closes_on s old mid new v.items to k))
    c.settle_decisions.ensures.closes

pub closed_decision-returns-then-branch-2-clause-reaches : goal.closed_decision-returns-then-branch-2-clause-reaches
closed_decision-returns-then-branch-2-clause-reaches t c =
    let s = c.args.self.now in
    reaches_on s c.args.reaching.now c.loop-p.reaching c.is_closed-in-loop-p.new.reaching c.loop-p.invariant.reaches (reaches_on s c.loop-p.reaching c.is_closed.new.reaching c.is_closed-in-loop-p.new.reaching c.in_ok-is_closed.ensures.reaches c.in_ok-is_closed-2.ensures.reaches)

pub closed_decision-returns-then-branch-2-clause-found : goal.closed_decision-returns-then-branch-2-clause-found
closed_decision-returns-then-branch-2-clause-found t c =
    let s = c.args.self.now in
    let i = c.loop-p.p-index in
    let none : FormulaId = record { 0 = 0 } in
    let f = formula_at (bank_of s) (get_or s.decisions.now i none) in
    let g = formula_at (bank_of s) c.negation-other.result in
    let yes : c.in_ok-is_closed-2.field-0 ≡ true = first_of (search rules, grind (arith, common_steps)) in
    record {
      has = c.negation-other.ensures.in_bank;
      side = side_negation s f g c.negation-other.ensures.negation (chosen_side s f (chosen_at s i none c.loop-p-test.true));
      unknown = subst (λ fs. IsUnknown fs g) (c.in_ok-is_closed.ensures.same ∙ c.loop-p.invariant.same) (c.in_ok-is_closed-2.ensures.closed yes);
    }

pub closed_decision-loop-p-preserved : goal.closed_decision-loop-p-preserved
closed_decision-loop-p-preserved t c =
    let s = c.args.self.now in
    let i = c.loop-p.p-index in
    let none : FormulaId = record { 0 = 0 } in
    let f = formula_at (bank_of s) (get_or s.decisions.now i none) in
    let first = c.args.reaching.now in
    let r0 = c.loop-p.reaching in
    let r1 = c.is_closed.new.reaching in
    let r2 = c.is_closed-in-loop-p.new.reaching in
    let known = reached_in s first in
    let same = c.in_ok-is_closed.ensures.same ∙ c.loop-p.invariant.same in
    let no : c.in_ok-is_closed.field-0 ≡ false = first_of (search rules, grind (arith, common_steps)) in
    let no2 : c.in_ok-is_closed-2.field-0 ≡ false = first_of (search rules, grind (arith, common_steps)) in
    record {
      on = on_and_on s first r0 r2 c.loop-p.invariant.on (on_and_on s r0 r1 r2 c.in_ok-is_closed.ensures.goes_on c.in_ok-is_closed-2.ensures.goes_on);
      same = c.in_ok-is_closed-2.ensures.same ∙ same;
      tried = λ cs is. one_more (bank_of s) (AreTried cs c.args.depth known) s.decisions.now i none c.loop-p-test.true (c.loop-p.invariant.tried cs is) (
        subst (λ fs. IsTried cs c.args.depth fs f) c.loop-p.invariant.same (c.in_ok-is_closed.ensures.tried cs is no),
        subst (IsTried cs c.args.depth known) c.negation-other.ensures.negation (subst (λ fs. IsTried cs c.args.depth fs (formula_at (bank_of s) c.negation-other.result)) same (c.in_ok-is_closed-2.ensures.tried cs is no2)),
      );
      reaches = reaches_on s first r0 r2 c.loop-p.invariant.reaches (reaches_on s r0 r1 r2 c.in_ok-is_closed.ensures.reaches c.in_ok-is_closed-2.ensures.reaches);
    }
