use Rattle.std.proofs.Common.{◌≡◌, List, None, sym, ◌∙◌, subst}
use Rattle.std.specs.Prelude.{IfSome}
use Rattle.std.proofs.lemmas.Option.{IfSome_then}
use Rattle.std.proofs.lemmas.Result.{IfOk-weaker}
use Rattle.ss_logic.specs.Formulas.{Formula}
use Rattle.ss_terms.specs.declared.forms.FormulaId.{FormulaId}
use Rattle.ss_terms.specs.Forms.{formulas_at, HasFormulas}
use Rattle.ss_deriv.specs.Lines.{lines_of}
use Rattle.ss_search_clashes.specs.Numbered.{class_of}
use Rattle.ss_logic.specs.Includes.{Includes}
use Rattle.ss_search_procedure_rules.specs.Closed.{basics, IsSaturated}
use Rattle.ss_search_procedure_rules.specs.Clashes.{FitsClasses}
use Rattle.ss_search_clashes.specs.Closing.{Closes}
use Rattle.ss_search_reached.specs.Following.{Occur, HasNoSum, IsOpen}
use Rattle.ss_search_reached.proofs.Names.{ok_any}
use Rattle.ss_search_reached.proofs.Saturated.{open_is_saturated}
use Rattle.ss_search_reached.proofs.Turns.{less_room, open_now}
use Rattle.ss_search_path.specs.declared.standing.Standing.{Standing}
use Rattle.ss_search_reaching.specs.Reaching.{facts_of, reached_of, Shows}
use Rattle.ss_search_reaching.specs.Units.{formulas_in}
use Rattle.ss_search_reaching.specs.Turns.{Turns, TurnFrom}
use Rattle.ss_search_reaching.proofs.Learning.{nothing_grows, grows_more, reaches_itself, reaches_more}
use Rattle.ss_search_reaching.proofs.Guarding.{some_none}
use Rattle.ss_search_reaching.proofs.Turning.{turned_grows, turned_reaches, still_classes, closed_reaches, closed_closes, if_open, learnt_here}
use Rattle.ss_search_reaching.proofs.reaching.Reaching.reach.Goals as goal

pub loop-self-init : goal.loop-self-init
loop-self-init c = record { grows = nothing_grows c.args.given.now c.args.self.now c.requires.state; reaches = reaches_itself c.args.given.now c.args.self.now }

pub spread-requires-clause-state : goal.spread-requires-clause-state
spread-requires-clause-state c = c.loop-self.invariant.grows.state

pub units-requires-clause-state : goal.units-requires-clause-state
units-requires-clause-state c = c.in_ok-spread.ensures.grows.state

pub returns-in-Closed : goal.returns-in-Closed
returns-in-Closed c =
    let g = c.args.given.now in
    let start = c.args.self.now in
    let before = c.loop-self.self in
    let spread = c.spread.new.self in
    let asked = c.units.new.self in
    let i = c.loop-self.invariant in
    let e = c.in_ok-lines.ensures in
    let one = c.in_ok-spread.ensures.reaches in
    let two = subst (TurnFrom g spread asked) c.in-Closed.is e.reaches in
    record {
      grows = grows_more g start before asked i.grows (grows_more g before spread asked c.in_ok-spread.ensures.grows e.turn.grows);
      saturated = λ cs of n. absurd (some_none c.in-Closed.lines n);
      is_open = λ cs of n. absurd (some_none c.in-Closed.lines n);
      reaches = reaches_more g start before asked i.reaches (closed_reaches g before spread asked c.in-Closed.lines one two);
      closes = λ cs of premises goal h. closed_closes g before spread asked c.in-Closed.lines one two cs premises goal (i.reaches cs premises goal h).shows;
    }

pub learn_units-requires-clause-state : goal.learn_units-requires-clause-state
learn_units-requires-clause-state c = c.in_ok-lines.ensures.turn.grows.state

pub learn_units-requires-clause-has : goal.learn_units-requires-clause-has
learn_units-requires-clause-has c =
    let g = c.args.given.now in
    let turn = subst (Turns g c.spread.new.self c.units.new.self) c.in-Open.is c.in_ok-lines.ensures.turn in
    subst (λ (us : List (FormulaId × Standing)). HasFormulas g.bank.now (formulas_in us)) (sym c.deref.ensures.value) turn.follows.has

pub learn_units-requires-clause-occur : goal.learn_units-requires-clause-occur
learn_units-requires-clause-occur c =
    let g = c.args.given.now in
    let b = g.bank.now in
    let turn = subst (Turns g c.spread.new.self c.units.new.self) c.in-Open.is c.in_ok-lines.ensures.turn in
    subst (λ (fs : List FormulaId). Occur (formulas_at b fs) (formulas_at b (formulas_in c.deref.result.now))) (sym turn.known)
    (subst (λ (us : List (FormulaId × Standing)). Occur (reached_of g c.spread.new.self) (formulas_at b (formulas_in us))) (sym c.deref.ensures.value) turn.follows.occur)

pub loop-self-preserved : goal.loop-self-preserved
loop-self-preserved c =
    let g = c.args.given.now in
    let start = c.args.self.now in
    let before = c.loop-self.self in
    let spread = c.spread.new.self in
    let asked = c.units.new.self in
    let last = c.learn_units.new.self in
    let i = c.loop-self.invariant in
    let e = c.in_ok-lines.ensures in
    let two = subst (TurnFrom g spread asked) c.in-Open.is e.reaches in
    record {
      grows = grows_more g start before last i.grows (turned_grows g before spread asked last _ c.in_ok-spread.ensures.grows e.turn c.in_ok-learn_units.ensures.grows);
      reaches = reaches_more g start before last i.reaches (turned_reaches g before spread asked last c.in-Open.units c.in_ok-spread.ensures.reaches two
          (learnt_here g asked last c.in-Open.units c.deref.result.now c.deref.ensures.value c.in_ok-learn_units.ensures.reaches));
    }

pub loop-self-smaller : goal.loop-self-smaller
loop-self-smaller c =
    let g = c.args.given.now in
    let before = c.loop-self.self in
    let last = c.learn_units.new.self in
    let grows = turned_grows g before c.spread.new.self c.units.new.self last _ c.in_ok-spread.ensures.grows c.in_ok-lines.ensures.turn c.in_ok-learn_units.ensures.grows in
    less_room g.bank.now before.reached last.reached grows.reached (λ e. c.if-mark-before.false (c.mark.ensures ∙ e ∙ sym c.mark-before.ensures))

pub sums-requires-clause-state : goal.sums-requires-clause-state
sums-requires-clause-state c = c.in_ok-learn_units.ensures.grows.state

pub sums-requires-clause-classes : goal.sums-requires-clause-classes
sums-requires-clause-classes c =
    let g = c.args.given.now in
    let e = c.in_ok-lines.ensures in
    let l = c.in_ok-learn_units.ensures in
    still_classes g c.loop-self.self c.spread.new.self c.units.new.self c.learn_units.new.self _ c.in_ok-spread.ensures.grows e.turn l.grows (sym c.mark.ensures ∙ c.if-mark-before.true ∙ c.mark-before.ensures) l.still l.classes e.classes

pub returns-then-mark-before-clause-grows : goal.returns-then-mark-before-clause-grows
returns-then-mark-before-clause-grows c =
    let g = c.args.given.now in
    let before = c.loop-self.self in
    let last = c.learn_units.new.self in
    ok_any c.sums.result (grows_more g c.args.self.now before last c.loop-self.invariant.grows
    (turned_grows g before c.spread.new.self c.units.new.self last _ c.in_ok-spread.ensures.grows c.in_ok-lines.ensures.turn c.in_ok-learn_units.ensures.grows))

pub returns-then-mark-before-clause-is_open : goal.returns-then-mark-before-clause-is_open
returns-then-mark-before-clause-is_open c = λ cs of.
    let g = c.args.given.now in
    let b = g.bank.now in
    let before = c.loop-self.self in
    let spread = c.spread.new.self in
    let asked = c.units.new.self in
    let last = c.learn_units.new.self in
    let e = c.in_ok-lines.ensures in
    let l = c.in_ok-learn_units.ensures in
    let turn = subst (Turns g spread asked) c.in-Open.is e.turn in
    let as_long = sym c.mark.ensures ∙ c.if-mark-before.true ∙ c.mark-before.ensures in
    let fits = if_open (FitsClasses (class_of b asked.reached.classes.items) (basics (reached_of g spread))) _ c.in-Open.units c.in-Open.is e.fits in
    let learnt = subst (λ (us : List (FormulaId × Standing)). Includes (reached_of g last) (formulas_at b (formulas_in us))) c.deref.ensures.value l.known in
    IfOk-weaker c.sums.result (λ o. o ≡ None → HasNoSum cs (class_of b last.reached.classes.items) (basics (reached_of g last))) (λ o. o ≡ None → IsOpen cs b last.reached)
    (λ o h n. open_now b before.reached spread.reached asked.reached last.reached c.in_ok-spread.ensures.grows.reached turn.grows.state.reached turn.known l.grows.reached as_long cs (formulas_in c.in-Open.units.items) c.in_ok-spread.ensures.spread turn.follows learnt e.names
    fits l.classes (h n))
    (c.sums.ensures.none cs of)

pub returns-then-mark-before-clause-saturated : goal.returns-then-mark-before-clause-saturated
returns-then-mark-before-clause-saturated c = λ cs of.
    let g = c.args.given.now in
    let b = g.bank.now in
    let before = c.loop-self.self in
    let spread = c.spread.new.self in
    let asked = c.units.new.self in
    let last = c.learn_units.new.self in
    let e = c.in_ok-lines.ensures in
    let l = c.in_ok-learn_units.ensures in
    let turn = subst (Turns g spread asked) c.in-Open.is e.turn in
    let as_long = sym c.mark.ensures ∙ c.if-mark-before.true ∙ c.mark-before.ensures in
    let fits = if_open (FitsClasses (class_of b asked.reached.classes.items) (basics (reached_of g spread))) _ c.in-Open.units c.in-Open.is e.fits in
    let learnt = subst (λ (us : List (FormulaId × Standing)). Includes (reached_of g last) (formulas_at b (formulas_in us))) c.deref.ensures.value l.known in
    IfOk-weaker c.sums.result (λ o. o ≡ None → HasNoSum cs (class_of b last.reached.classes.items) (basics (reached_of g last))) (λ o. o ≡ None → IsSaturated cs (reached_of g last))
    (λ o h n. open_is_saturated cs b last.reached (open_now b before.reached spread.reached asked.reached last.reached c.in_ok-spread.ensures.grows.reached turn.grows.state.reached turn.known l.grows.reached as_long cs (formulas_in c.in-Open.units.items)
    c.in_ok-spread.ensures.spread turn.follows learnt e.names fits l.classes (h n)))
    (c.sums.ensures.none cs of)

pub returns-then-mark-before-clause-reaches : goal.returns-then-mark-before-clause-reaches
returns-then-mark-before-clause-reaches c =
    let g = c.args.given.now in
    let before = c.loop-self.self in
    let spread = c.spread.new.self in
    let asked = c.units.new.self in
    let last = c.learn_units.new.self in
    let two = subst (TurnFrom g spread asked) c.in-Open.is c.in_ok-lines.ensures.reaches in
    ok_any c.sums.result (reaches_more g c.args.self.now before last c.loop-self.invariant.reaches (turned_reaches g before spread asked last c.in-Open.units c.in_ok-spread.ensures.reaches two
    (learnt_here g asked last c.in-Open.units c.deref.result.now c.deref.ensures.value c.in_ok-learn_units.ensures.reaches)))

pub returns-then-mark-before-clause-closes : goal.returns-then-mark-before-clause-closes
returns-then-mark-before-clause-closes c = λ cs of.
    let g = c.args.given.now in
    let b = g.bank.now in
    let start = c.args.self.now in
    let before = c.loop-self.self in
    let spread = c.spread.new.self in
    let asked = c.units.new.self in
    let last = c.learn_units.new.self in
    let two = subst (TurnFrom g spread asked) c.in-Open.is c.in_ok-lines.ensures.reaches in
    let all = reaches_more g start before last c.loop-self.invariant.reaches (turned_reaches g before spread asked last c.in-Open.units c.in_ok-spread.ensures.reaches two
    (learnt_here g asked last c.in-Open.units c.deref.result.now c.deref.ensures.value c.in_ok-learn_units.ensures.reaches)) in
    IfOk-weaker c.sums.result (λ o. IfSome o (λ v. (premises : List Formula) (goal : Formula) → Shows cs g last → Closes cs premises goal (facts_of g last) (lines_of b v.items)))
    (λ o. IfSome o (λ v. (premises : List Formula) (goal : Formula) → Shows cs g start → Closes cs premises goal (facts_of g last) (lines_of b v.items)))
    (λ o h. IfSome_then o h (λ v k premises goal shows. k premises goal (all cs premises goal shows).shows))
    (c.sums.ensures.closes cs of)
