use Rattle.std.proofs.Common.{[], ◌∷◌, arith}
use Rattle.ss_core.specs.View as view
use Rattle.ss_logic.specs.Formulas.{put}
use Rattle.ss_terms.specs.Forms.{term_at}
use Rattle.ss_terms.proofs.Grown.{IsGrown-then, HasTerm-grown, HasFormulas-grown, IsBankOf-grown}
use Rattle.ss_terms_puts.proofs.Putting.{AreBelow-push}
use Rattle.ss_terms.proofs.Tested.{AreBelow-get}
use Rattle.ss_check.proofs.Meant.{meant_more}
use Rattle.ss_check.proofs.delayed.delay_parts.Goals as goal

pub delay_part-requires-clause-bank : goal.delay_part-requires-clause-bank
delay_part-requires-clause-bank c = IsBankOf-grown (view.classes c.args.classes.now) c.args.bank.now c.loop-f.bank c.loop-f.invariant.grown c.requires.bank

pub delay_part-requires-clause-term : goal.delay_part-requires-clause-term
delay_part-requires-clause-term c = HasTerm-grown c.args.bank.now c.loop-f.bank c.loop-f.invariant.grown c.args.t c.requires.term

pub delay_part-requires-clause-formula : goal.delay_part-requires-clause-formula
delay_part-requires-clause-formula c =
    let small = AreBelow-get c.args.bound c.args.fs.now c.loop-f.f-index (record { 0 = 0 }) c.requires.below c.loop-f-test.true in
    let room = c.loop-f.invariant.grown.more_formulas in
    let there = c.requires.in_bank in
    omega arith

pub loop-f-preserved : goal.loop-f-preserved
loop-f-preserved c =
    let same = c.loop-f.invariant.grown.same_terms c.args.t c.requires.term in
    let told = rw c.in-Some.is at c.in_ok-g.ensures.at in
    record {
      grown = IsGrown-then c.args.bank.now c.loop-f.bank c.delay_part.new.bank c.loop-f.invariant.grown c.delay_part.ensures.grown;
      below = rw c.in_ok-push.ensures.items (AreBelow-push _ c.loop-f.made.items c.in-Some.g (HasFormulas-grown c.loop-f.bank c.delay_part.new.bank c.delay_part.ensures.grown c.loop-f.made.items c.loop-f.invariant.below) told.0);
      done = rw c.in_ok-push.ensures.items (meant_more (view.classes c.args.classes.now) (put (term_at c.args.bank.now c.args.t ∷ [])) c.args.bank.now c.loop-f.bank c.delay_part.new.bank c.args.fs.now c.loop-f.made.items c.args.bound c.loop-f.f-index (record { 0 = 0 }) c.in-Some.g
          c.loop-f.invariant.grown c.delay_part.ensures.grown c.requires.below c.requires.in_bank c.loop-f-test.true c.loop-f.invariant.below c.loop-f.invariant.done (rw same at told.1));
    }
