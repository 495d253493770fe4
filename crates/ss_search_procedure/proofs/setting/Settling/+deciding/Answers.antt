use Rattle.std.proofs.Common.{◌*◌, List, length, get_or, true, sym, subst, arith}
use Rattle.std.proofs.lemmas.Option.{MatchOption-at_some}
use Rattle.ss_logic.specs.Formulas.{Formula}
use Rattle.ss_logic_countermodels.specs.Refuting.{IsCountermodel}
use Rattle.ss_terms.specs.declared.forms.FormulaId.{FormulaId}
use Rattle.ss_terms.specs.Forms.{formula_at}
use Rattle.ss_terms.proofs.Tested.{AreBelow-get}
use Rattle.ss_deriv.specs.Lines.{lines_of}
use Rattle.ss_search_clashes.specs.Closing.{Closes}
use Rattle.ss_search_reaching.specs.Reaching.{facts_of, Shows}
use Rattle.ss_search_procedure.specs.Decisions.{bank_of, settled_ones, reached_in, first_decisions, AreDecided, IsLast, ReachesBy, ClosesBy}
use Rattle.ss_search_procedure.specs.Answers.{IfModel, IfLines}
use Rattle.ss_search_reached.proofs.Names.{ok_then, ok_any}
use Rattle.ss_search_procedure.proofs.Going.{includes, on_and_on, on_grows, reaches_on, reaches_from, reaches_same, closes_on}
use Rattle.ss_search_procedure.proofs.Sides.{chosen_side, side_negation}
use Rattle.ss_search_procedure.proofs.Undoing.{trial_of}
use Rattle.ss_search_procedure.proofs.Deciding.{lines_then, chosen_at, decided_in_more, one_more_decided, all_decided, side_decided, next_chosen, next_negation}
use Rattle.ss_search_procedure.proofs.setting.Settling.+deciding.Goals as goal

-- ---- decide

pub decide-returns-in-Some : goal.decide-returns-in-Some
decide-returns-in-Some t c =
    let s = c.args.self.now in
    let old = c.args.reaching.now in
    let new = c.reach.new.self in
    record {
      goes_on = on_grows s old new c.requires.state c.in_ok-lines.ensures.grows;
      model = λ cs is. tt;
      reaches = reaches_from s old new c.in_ok-lines.ensures.reaches;
      closes = λ cs premises goal h.
          MatchOption-at_some (Unit {0}) (λ v. (premises : List Formula) (goal : Formula) → Shows cs s.given old → Closes cs premises goal (facts_of s.given new) (lines_of (bank_of s) v.items)) c.in-Some.lines c.in-Some.is (c.in_ok-lines.ensures.closes cs h.bank) premises goal h.shows;
    }

pub decide-split-requires : goal.decide-split-requires
decide-split-requires t c =
    let s = c.args.self.now in
    let g = on_grows s c.args.reaching.now c.reach.new.self c.requires.state c.in_ok-lines.ensures.grows in
    let i = includes s c.args.reaching.now c.reach.new.self g in
    let d = c.decreases in
    (omega arith, (c.requires.setting, (g.state, (decided_in_more s (reached_in s c.args.reaching.now) (reached_in s c.reach.new.self) (first_decisions s c.args.decided) i c.requires.decided, omega arith))))

pub decide-returns-then-decided-self-clause-goes_on : goal.decide-returns-then-decided-self-clause-goes_on
decide-returns-then-decided-self-clause-goes_on t c =
    let s = c.args.self.now in
    let g = on_grows s c.args.reaching.now c.reach.new.self c.requires.state c.in_ok-lines.ensures.grows in
    ok_then c.split.result (λ k. on_and_on s c.args.reaching.now c.reach.new.self c.split.new.reaching g k) c.split.ensures.goes_on

pub decide-returns-then-decided-self-clause-reaches : goal.decide-returns-then-decided-self-clause-reaches
decide-returns-then-decided-self-clause-reaches t c =
    let s = c.args.self.now in
    let old = c.args.reaching.now in
    let mid = c.reach.new.self in
    let new = c.split.new.reaching in
    lines_then c.split.result (λ lines. ReachesBy s mid new) (λ lines. ReachesBy s old new) (λ lines r. reaches_on s old mid new (reaches_from s old mid c.in_ok-lines.ensures.reaches) r) c.split.ensures.reaches

pub decide-returns-then-decided-self-clause-closes : goal.decide-returns-then-decided-self-clause-closes
decide-returns-then-decided-self-clause-closes t c =
    let s = c.args.self.now in
    let old = c.args.reaching.now in
    let mid = c.reach.new.self in
    let new = c.split.new.reaching in
    lines_then c.split.result (ClosesBy s mid new) (ClosesBy s old new) (λ lines k. closes_on s old mid new lines (reaches_from s old mid c.in_ok-lines.ensures.reaches) k) c.split.ensures.closes

pub decide-model-requires : goal.decide-model-requires
decide-model-requires t c =
    let s = c.args.self.now in
    let g = on_grows s c.args.reaching.now c.reach.new.self c.requires.state c.in_ok-lines.ensures.grows in
    record {
      setting = c.requires.setting;
      state = g.state;
      decided = all_decided s (reached_in s c.reach.new.self) c.args.decided (omega arith)
          (decided_in_more s (reached_in s c.args.reaching.now) (reached_in s c.reach.new.self) (first_decisions s c.args.decided) (includes s c.args.reaching.now c.reach.new.self g) c.requires.decided);
      is_open = λ cs is. c.in_ok-lines.ensures.is_open cs is c.in_default.is;
    }

pub decide-returns-else-decided-self-clause-goes_on : goal.decide-returns-else-decided-self-clause-goes_on
decide-returns-else-decided-self-clause-goes_on t c =
    ok_any c.model.result (on_grows c.args.self.now c.args.reaching.now c.reach.new.self c.requires.state c.in_ok-lines.ensures.grows)

pub decide-returns-else-decided-self-clause-reaches : goal.decide-returns-else-decided-self-clause-reaches
decide-returns-else-decided-self-clause-reaches t c =
    lines_then c.model.result (λ lines. ⊥) (λ lines. ReachesBy c.args.self.now c.args.reaching.now c.reach.new.self) (λ lines no. absurd no) c.model.ensures.lines

pub decide-returns-else-decided-self-clause-closes : goal.decide-returns-else-decided-self-clause-closes
decide-returns-else-decided-self-clause-closes t c =
    lines_then c.model.result (λ lines. ⊥) (ClosesBy c.args.self.now c.args.reaching.now c.reach.new.self) (λ lines no. absurd no) c.model.ensures.lines

-- ---- split

pub split-is_decided-requires-clause-formula : goal.split-is_decided-requires-clause-formula
split-is_decided-requires-clause-formula t c = AreBelow-get (length (bank_of c.args.self.now).formulas * 2) c.args.self.now.decisions.now c.args.decided (record { 0 = 0 }) c.requires.setting.in_bank c.requires.few

pub split-decide-requires : goal.split-decide-requires
split-decide-requires t c =
    let s = c.args.self.now in
    let r = c.args.reaching.now in
    let d = c.decreases in
    (omega arith, (c.requires.setting, (c.requires.state, (side_decided s (reached_in s r) c.args.decided c.requires.few (c.is_decided.ensures.yes c.if-is_decided.true) c.requires.decided, omega arith))))

pub split-negation-other-requires : goal.split-negation-other-requires
split-negation-other-requires t c = AreBelow-get (length (bank_of c.args.self.now).formulas * 2) c.args.self.now.decisions.now c.args.decided (record { 0 = 0 }) c.requires.setting.in_bank c.requires.few

pub split-suppose-requires : goal.split-suppose-requires
split-suppose-requires t c =
    let s = c.args.self.now in
    let n = c.args.decided in
    let none : FormulaId = record { 0 = 0 } in
    record {
      setting = c.requires.setting;
      state = c.requires.state;
      formula = AreBelow-get (length (bank_of s).formulas * 2) s.decisions.now n none c.requires.setting.in_bank c.requires.few;
      side = chosen_side s (formula_at (bank_of s) (get_or s.decisions.now n none)) (chosen_at s n none c.requires.few);
    }

pub split-decide-requires-2 : goal.split-decide-requires-2
split-decide-requires-2 t c =
    let s = c.args.self.now in
    let n = c.args.decided in
    let none : FormulaId = record { 0 = 0 } in
    let old = c.args.reaching.now in
    let supposed = c.suppose.new.reaching in
    let e = c.in_ok-suppose.ensures in
    let few = c.requires.few in
    let d = c.decreases in (
      omega arith,
      (
        c.requires.setting,
        (
          e.goes_on.state,
          (
            one_more_decided s (reached_in s supposed) n (formula_at (bank_of s) (get_or s.decisions.now n none)) (next_chosen s n few)
                (decided_in_more s (reached_in s old) (reached_in s supposed) (first_decisions s n) (includes s old supposed e.goes_on) c.requires.decided) e.known,
            omega arith,
          ),
        ),
      ),
    )

pub split-returns-in-Model : goal.split-returns-in-Model
split-returns-in-Model t c =
    let s = c.args.self.now in
    record {
      goes_on = on_and_on s c.args.reaching.now c.suppose.new.reaching c.decide-2.new.reaching c.in_ok-suppose.ensures.goes_on c.in_ok-model.ensures.goes_on;
      model = λ cs is. subst (IfModel (IsCountermodel cs (settled_ones s))) c.in-Model.is (c.in_ok-model.ensures.model cs is);
      reaches = tt;
      closes = tt;
    }

pub split-deny-requires : goal.split-deny-requires
split-deny-requires t c =
    let s = c.args.self.now in
    let n = c.args.decided in
    let none : FormulaId = record { 0 = 0 } in
    let old = c.args.reaching.now in
    let supposed = c.suppose.new.reaching in
    let low = c.decide-2.new.reaching in
    let e = c.in_ok-suppose.ensures in
    record {
      setting = c.requires.setting;
      formula = AreBelow-get (length (bank_of s).formulas * 2) s.decisions.now n none c.requires.setting.in_bank c.requires.few;
      side = chosen_side s (formula_at (bank_of s) (get_or s.decisions.now n none)) (chosen_at s n none c.requires.few);
      trial = (
        old,
        trial_of s c.mark-marks.result (get_or s.decisions.now n none) old supposed low c.requires.state c.mark-marks.ensures.reached c.mark-marks.ensures.path e.begun e.shown e.goes_on c.in_ok-model.ensures.goes_on
            (subst (IfLines (λ lines. ReachesBy s supposed low)) c.in-Closed.is c.in_ok-model.ensures.reaches),
      );
    }

pub split-with_side-requires : goal.split-with_side-requires
split-with_side-requires t c =
    let s = c.args.self.now in
    let n = c.args.decided in
    let none : FormulaId = record { 0 = 0 } in
    let old = c.args.reaching.now in
    let supposed = c.suppose.new.reaching in
    let low = c.decide-2.new.reaching in
    let denied = c.deny.new.reaching in
    let p = get_or s.decisions.now n none in
    let f = formula_at (bank_of s) p in
    let g = formula_at (bank_of s) c.negation-other.result in
    let negation = c.negation-other.ensures.negation in
    let e = c.in_ok-suppose.ensures in
    let trial = trial_of s c.mark-marks.result p old supposed low c.requires.state c.mark-marks.ensures.reached c.mark-marks.ensures.path e.begun e.shown e.goes_on c.in_ok-model.ensures.goes_on
    (subst (IfLines (λ lines. ReachesBy s supposed low)) c.in-Closed.is c.in_ok-model.ensures.reaches) in
    let b = c.in_ok-deny-in-Closed.ensures.before old trial in
    let few = c.requires.few in
    let d = c.decreases in (
      omega arith,
      (
        c.requires.setting,
        (
          b.goes_on.state,
          (
            subst (λ fs. AreDecided fs (first_decisions s n)) (sym b.same) c.requires.decided,
            (
              few,
              (
                c.negation-other.ensures.in_bank,
                (
                  side_negation s f g negation (chosen_side s f (chosen_at s n none few)),
                  (next_negation s n few g negation, subst (λ h. IsLast (bank_of s) h denied.path) (sym negation) c.in_ok-deny-in-Closed.ensures.last),
                ),
              ),
            ),
          ),
        ),
      ),
    )

pub split-returns-in_ok-deny-in-Closed-clause-goes_on : goal.split-returns-in_ok-deny-in-Closed-clause-goes_on
split-returns-in_ok-deny-in-Closed-clause-goes_on t c =
    let s = c.args.self.now in
    let none : FormulaId = record { 0 = 0 } in
    let old = c.args.reaching.now in
    let supposed = c.suppose.new.reaching in
    let low = c.decide-2.new.reaching in
    let denied = c.deny.new.reaching in
    let e = c.in_ok-suppose.ensures in
    let trial = trial_of s c.mark-marks.result (get_or s.decisions.now c.args.decided none) old supposed low c.requires.state c.mark-marks.ensures.reached c.mark-marks.ensures.path e.begun e.shown e.goes_on c.in_ok-model.ensures.goes_on
    (subst (IfLines (λ lines. ReachesBy s supposed low)) c.in-Closed.is c.in_ok-model.ensures.reaches) in
    ok_then c.with_side.result (λ k. on_and_on s old denied c.with_side.new.reaching (c.in_ok-deny-in-Closed.ensures.before old trial).goes_on k) c.with_side.ensures.goes_on

pub split-returns-in_ok-deny-in-Closed-clause-reaches : goal.split-returns-in_ok-deny-in-Closed-clause-reaches
split-returns-in_ok-deny-in-Closed-clause-reaches t c =
    let s = c.args.self.now in
    let none : FormulaId = record { 0 = 0 } in
    let old = c.args.reaching.now in
    let supposed = c.suppose.new.reaching in
    let low = c.decide-2.new.reaching in
    let denied = c.deny.new.reaching in
    let new = c.with_side.new.reaching in
    let e = c.in_ok-suppose.ensures in
    let trial = trial_of s c.mark-marks.result (get_or s.decisions.now c.args.decided none) old supposed low c.requires.state c.mark-marks.ensures.reached c.mark-marks.ensures.path e.begun e.shown e.goes_on c.in_ok-model.ensures.goes_on
    (subst (IfLines (λ lines. ReachesBy s supposed low)) c.in-Closed.is c.in_ok-model.ensures.reaches) in
    let to = c.in_ok-deny-in-Closed.ensures.reaches old trial (subst (IfLines (ClosesBy s supposed low)) c.in-Closed.is c.in_ok-model.ensures.closes) in
    lines_then c.with_side.result (λ lines. ReachesBy s denied new) (λ lines. ReachesBy s old new) (λ lines r. reaches_on s old denied new to r) c.with_side.ensures.reaches

pub split-returns-in_ok-deny-in-Closed-clause-closes : goal.split-returns-in_ok-deny-in-Closed-clause-closes
split-returns-in_ok-deny-in-Closed-clause-closes t c =
    let s = c.args.self.now in
    let none : FormulaId = record { 0 = 0 } in
    let old = c.args.reaching.now in
    let supposed = c.suppose.new.reaching in
    let low = c.decide-2.new.reaching in
    let denied = c.deny.new.reaching in
    let new = c.with_side.new.reaching in
    let e = c.in_ok-suppose.ensures in
    let trial = trial_of s c.mark-marks.result (get_or s.decisions.now c.args.decided none) old supposed low c.requires.state c.mark-marks.ensures.reached c.mark-marks.ensures.path e.begun e.shown e.goes_on c.in_ok-model.ensures.goes_on
    (subst (IfLines (λ lines. ReachesBy s supposed low)) c.in-Closed.is c.in_ok-model.ensures.reaches) in
    let to = c.in_ok-deny-in-Closed.ensures.reaches old trial (subst (IfLines (ClosesBy s supposed low)) c.in-Closed.is c.in_ok-model.ensures.closes) in
    lines_then c.with_side.result (ClosesBy s denied new) (ClosesBy s old new) (λ lines k. closes_on s old denied new lines to k) c.with_side.ensures.closes

-- ---- with_side

pub with_side-decide-requires : goal.with_side-decide-requires
with_side-decide-requires t c =
    let s = c.args.self.now in
    let old = c.args.reaching.now in
    let new = c.learn_last.new.reaching in
    let f = formula_at (bank_of s) c.args.side in
    let g = c.in_ok-learn_last.ensures.goes_on in
    let d = c.decreases in (
      omega arith,
      (
        c.requires.setting,
        (g.state, (one_more_decided s (reached_in s new) c.args.decided f c.requires.next (decided_in_more s (reached_in s old) (reached_in s new) (first_decisions s c.args.decided) (includes s old new g) c.requires.decided) c.in_ok-learn_last.ensures.known, omega arith)),
      ),
    )

pub with_side-returns-clause-goes_on : goal.with_side-returns-clause-goes_on
with_side-returns-clause-goes_on t c =
    let s = c.args.self.now in
    ok_then c.decide.result (λ k. on_and_on s c.args.reaching.now c.learn_last.new.reaching c.decide.new.reaching c.in_ok-learn_last.ensures.goes_on k) c.decide.ensures.goes_on

pub with_side-returns-clause-reaches : goal.with_side-returns-clause-reaches
with_side-returns-clause-reaches t c =
    let s = c.args.self.now in
    let old = c.args.reaching.now in
    let mid = c.learn_last.new.reaching in
    let new = c.decide.new.reaching in
    let l = c.in_ok-learn_last.ensures in
    lines_then c.decide.result (λ lines. ReachesBy s mid new) (λ lines. ReachesBy s old new) (λ lines r. reaches_on s old mid new (reaches_same s old mid l.path l.shown) r) c.decide.ensures.reaches

pub with_side-returns-clause-closes : goal.with_side-returns-clause-closes
with_side-returns-clause-closes t c =
    let s = c.args.self.now in
    let old = c.args.reaching.now in
    let mid = c.learn_last.new.reaching in
    let new = c.decide.new.reaching in
    let l = c.in_ok-learn_last.ensures in
    lines_then c.decide.result (ClosesBy s mid new) (ClosesBy s old new) (λ lines k. closes_on s old mid new lines (reaches_same s old mid l.path l.shown) k) c.decide.ensures.closes
