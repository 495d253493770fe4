use Rattle.std.proofs.Common.{map, ap, arith, ◌∙◌, sym}
use Rattle.ss_core.specs.View as view
use Rattle.ss_logic.specs.Frames.{lifted_term}
use Rattle.ss_terms.specs.Forms.{term_at, terms_at}
use Rattle.ss_terms.proofs.Grown.{IsGrown-then, HasTerms-grown, IsBankOf-grown}
use Rattle.ss_terms_puts.proofs.Putting.{AreTermsBelow-push, terms_more, term_equal}
use Rattle.ss_terms.proofs.Tested.{AreTermsBelow-get}
use Rattle.ss_terms_puts.proofs.Lifting.{closed_term, lift_app}
use Rattle.ss_terms_puts.proofs.lifts_terms.+lifting.Goals as goal

pub lift_term-returns-then-is_well_sorted-clause-at : goal.lift_term-returns-then-is_well_sorted-clause-at
lift_term-returns-then-is_well_sorted-clause-at t c = (c.requires.term, sym (closed_term (view.classes c.args.classes.now) c.args.n (term_at c.args.bank.now c.args.t) (sym (c.is_well_sorted.ensures (view.classes c.args.classes.now) c.requires.bank) ∙ c.if-is_well_sorted.true)))

pub lift_term-returns-in_ok-arguments-in-App-2-clause-at : goal.lift_term-returns-in_ok-arguments-in-App-2-clause-at
lift_term-returns-in_ok-arguments-in-App-2-clause-at t c =
    term_equal c.term.result c.term.new.self _ _
    (lift_app c.args.n c.args.bank.now c.lift_terms.new.bank c.args.t c.in-App.symbol c.in-App.arguments c.in_ok-arguments-in-App-2.arguments.items (rw c.in-App.is at c.term_node.ensures)
    (c.in_ok-arguments-in-App-2.ensures.at ∙ ap (λ xs. map (lifted_term c.args.n) (terms_at c.args.bank.now xs)) (c.deref-in-App.ensures.value ∙ c.in_ok-arguments-in-App.ensures.items ∙ c.deref.ensures.value)))
    c.term.ensures.at

pub lift_terms-lift_term-requires : goal.lift_terms-lift_term-requires
lift_terms-lift_term-requires t c =
    let small = AreTermsBelow-get c.args.bound c.args.xs.now c.loop-x.x-index (record { 0 = 0 }) c.requires.below c.loop-x-test.true in
    let room = c.loop-x.invariant.grown.more_terms in
    let d = c.decreases in
    (omega arith, (IsBankOf-grown (view.classes c.args.classes.now) c.args.bank.now c.loop-x.bank c.loop-x.invariant.grown c.requires.bank, omega arith))

pub lift_terms-loop-x-preserved : goal.lift_terms-loop-x-preserved
lift_terms-loop-x-preserved t c =
    record {
      grown = IsGrown-then c.args.bank.now c.loop-x.bank c.lift_term.new.bank c.loop-x.invariant.grown c.lift_term.ensures.grown;
      below = rw c.in_ok-push.ensures.items (AreTermsBelow-push _ c.loop-x.made.items c.in_ok-y.y (HasTerms-grown c.loop-x.bank c.lift_term.new.bank c.lift_term.ensures.grown c.loop-x.made.items c.loop-x.invariant.below) c.in_ok-y.ensures.at.0);
      done = rw c.in_ok-push.ensures.items (terms_more (lifted_term c.args.n) c.args.bank.now c.loop-x.bank c.lift_term.new.bank c.args.xs.now c.loop-x.made.items c.args.bound c.loop-x.x-index (record { 0 = 0 }) c.in_ok-y.y
          c.loop-x.invariant.grown c.lift_term.ensures.grown c.requires.below c.requires.in_bank c.loop-x-test.true c.loop-x.invariant.below c.loop-x.invariant.done c.in_ok-y.ensures.at.1);
    }
