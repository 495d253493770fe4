use Rattle.std.proofs.Common.{◌≡◌, true, refl, sym, ◌∙◌, ap, subst, rules, arith}
use Rattle.std.proofs.lemmas.Grind.{common_steps}
use Rattle.std.proofs.lemmas.Option.{get_or_from_slice_get}
use Rattle.std.proofs.lemmas.Result.{IfOk-weaker}
use Rattle.ss_logic.specs.Formulas.{And, Or, formulas_from}
use Rattle.ss_terms.specs.Forms.{formulas_at}
use Rattle.ss_terms.proofs.Tested.{AreBelow-get}
use Rattle.ss_search_procedure_rules.specs.Closed.{is_basic, basics, AllMayHold, SomeMayHold}
use Rattle.ss_logic.proofs.Lists.{contains_none}
use Rattle.ss_search_reached.specs.Looks.{known_at, IsLooking, IsHolding}
use Rattle.ss_search_reached.proofs.Lists.{one_more, all_of_them}
use Rattle.ss_search_reached.proofs.Holding.{all_hold, and_holds, or_holds, found_holds, noted_holding}
use Rattle.ss_search_reached.proofs.looking.Looking.+looking.Goals as goal

pub may_hold-returns-then-has : goal.may_hold-returns-then-has
may_hold-returns-then-has t c = record { congruence = refl; outcomes = c.requires.outcomes; holds = λ e. c.requires.outcomes.holding c.args.f (sym c.if-has.ensures) }

pub may_hold-returns : goal.may_hold-returns
may_hold-returns t c = record {
  congruence = c.in_ok-may_hold.ensures.congruence;
  outcomes = noted_holding c.args.self.now c.new_may_hold.new.outcomes c.note.new.self c.args.f c.in_ok-may_hold.may_hold c.in_ok-may_hold.ensures.outcomes c.in_ok-may_hold.ensures.holds c.in_ok-note.ensures;
  holds = c.in_ok-may_hold.ensures.holds;
}

pub new_may_hold-basic_may_hold-requires-clause-basic : goal.new_may_hold-basic_may_hold-requires-clause-basic
new_may_hold-basic_may_hold-requires-clause-basic t c = ap is_basic (rw c.in-Literal.is at c.formula_node.ensures).built

pub new_may_hold-basic_may_hold-requires-in-Forall-clause-basic : goal.new_may_hold-basic_may_hold-requires-in-Forall-clause-basic
new_may_hold-basic_may_hold-requires-in-Forall-clause-basic t c = ap is_basic (rw c.in-Forall.is at c.formula_node.ensures).built

pub new_may_hold-basic_may_hold-requires-in-Exists-clause-basic : goal.new_may_hold-basic_may_hold-requires-in-Exists-clause-basic
new_may_hold-basic_may_hold-requires-in-Exists-clause-basic t c = ap is_basic (rw c.in-Exists.is at c.formula_node.ensures).built

pub new_may_hold-returns-in-And-clause-holds : goal.new_may_hold-returns-in-And-clause-holds
new_may_hold-returns-in-And-clause-holds t c =
    let s = c.args.self.now in
    let b = s.bank.now in
    let known = basics (known_at s) in
    let fs = c.deref.result.now in
    IfOk-weaker c.all_may_hold.result (λ m. m ≡ true → AllMayHold known (formulas_from (formulas_at b fs))) (λ m. m ≡ true → IsHolding s c.args.f)
    (λ m h e. and_holds b known c.args.f fs ((rw c.in-And.is at c.formula_node.ensures).built ∙ ap (λ gs. And (formulas_from (formulas_at b gs))) (sym c.deref.ensures.value)) (h e))
    c.all_may_hold.ensures.hold

pub new_may_hold-returns-in-Or-clause-holds : goal.new_may_hold-returns-in-Or-clause-holds
new_may_hold-returns-in-Or-clause-holds t c =
    let s = c.args.self.now in
    let b = s.bank.now in
    let known = basics (known_at s) in
    let fs = c.deref-in-Or.result.now in
    IfOk-weaker c.some_may_hold.result (λ m. m ≡ true → SomeMayHold known (formulas_from (formulas_at b fs))) (λ m. m ≡ true → IsHolding s c.args.f)
    (λ m h e. or_holds b known c.args.f fs ((rw c.in-Or.is at c.formula_node.ensures).built ∙ ap (λ gs. Or (formulas_from (formulas_at b gs))) (sym c.deref-in-Or.ensures.value)) (h e))
    c.some_may_hold.ensures.holds

pub all_may_hold-loop-f-init : goal.all_may_hold-loop-f-init
all_may_hold-loop-f-init t c = record { congruence = refl; outcomes = c.requires.outcomes; hold = λ f k. absurd (contains_none f k) }

pub all_may_hold-may_hold-requires : goal.all_may_hold-may_hold-requires
all_may_hold-may_hold-requires t c =
    let small = AreBelow-get c.args.bound c.args.fs.now c.loop-f.f-index (record { 0 = 0 }) c.requires.below c.loop-f-test.true in
    let room = c.requires.in_bank in
    let d = c.decreases in
    (omega arith, (subst (IsLooking c.args.self.now) (sym c.loop-f.invariant.congruence) c.requires.looking, (c.loop-f.invariant.outcomes, omega arith)))

pub all_may_hold-loop-f-preserved : goal.all_may_hold-loop-f-preserved
all_may_hold-loop-f-preserved t c =
    let kept : c.in_ok-may_hold.field-0 ≡ true = first_of (search rules, grind (arith, common_steps)) in
    record {
      congruence = c.in_ok-may_hold.ensures.congruence ∙ c.loop-f.invariant.congruence;
      outcomes = c.in_ok-may_hold.ensures.outcomes;
      hold = one_more (IsHolding c.args.self.now) c.args.fs.now c.loop-f.f-index (record { 0 = 0 }) c.loop-f-test.true c.loop-f.invariant.hold (c.in_ok-may_hold.ensures.holds kept);
    }

pub all_may_hold-returns-clause-hold : goal.all_may_hold-returns-clause-hold
all_may_hold-returns-clause-hold t c = λ e.
    let s = c.args.self.now in
    all_hold s.bank.now (basics (known_at s)) c.args.fs.now (all_of_them (IsHolding s) c.args.fs.now c.loop-f.f-index c.loop-f-test.false c.loop-f.invariant.hold)

pub some_may_hold-returns-clause-holds : goal.some_may_hold-returns-clause-holds
some_may_hold-returns-clause-holds t c = λ e. found_holds c.args.self.now c.args.fs.now 0 c.in_ok-found.found c.in_ok-found.ensures.found (sym c.is_some.ensures ∙ e)

pub first_open-may_hold-requires : goal.first_open-may_hold-requires
first_open-may_hold-requires t c =
    let small = AreBelow-get c.args.bound c.args.fs.now c.loop-i.i (record { 0 = 0 }) c.requires.below c.loop-i-test.true in
    let room = c.requires.in_bank in
    let d = c.decreases in
    (omega arith, (subst (IsLooking c.args.self.now) (sym c.loop-i.invariant.congruence) c.requires.looking, (c.loop-i.invariant.outcomes, omega arith)))

pub first_open-returns-then-branch-clause-found : goal.first_open-returns-then-branch-clause-found
first_open-returns-then-branch-clause-found t c =
    let kept : c.in_ok-may_hold.field-0 ≡ true = first_of (search rules, grind (arith, common_steps)) in
    record {
      later = c.loop-i.auto.i;
      within = c.loop-i-test.true;
      holds = λ f e. subst (IsHolding c.args.self.now) (get_or_from_slice_get c.args.fs.now c.loop-i.i f (record { 0 = 0 }) e) (c.in_ok-may_hold.ensures.holds kept);
    }
