use Rattle.std.proofs.Common.{sym, ◌∙◌}
use Rattle.ss_terms.specs.Forms.{term_at}
use Rattle.ss_check_steps.proofs.Numbers.{walk_unknown, walk_stuck, walk_more, HasFormulas-get}
use Rattle.ss_check_steps.proofs.reads.walk_at.Goals as goal

pub other_side_at-requires-clause-formula : goal.other_side_at-requires-clause-formula
other_side_at-requires-clause-formula c = HasFormulas-get c.args.bank.now c.args.known.now _ c.in_ok-f.f c.requires.known (sym c.read.ensures ∙ c.in_ok-f.was)

pub returns-in_err-f : goal.returns-in_err-f
returns-in_err-f c =
    rw (c.from_residual.ensures, ← c.loop-i.invariant.goes_on)
    (walk_unknown c.args.bank.now c.args.known.now (term_at c.args.bank.now c.loop-i.y) c.args.path.now c.loop-i.i-index c.loop-i-test.true (sym c.read.ensures ∙ c.in_err-f.was))

pub returns-in_err-y : goal.returns-in_err-y
returns-in_err-y c =
    rw (c.from_residual-in_err-y.ensures, ← c.loop-i.invariant.goes_on)
    (walk_stuck c.args.bank.now c.args.known.now (term_at c.args.bank.now c.loop-i.y) c.args.path.now c.loop-i.i-index c.loop-i-test.true c.in_ok-f.f (sym c.read.ensures ∙ c.in_ok-f.was) c.in_err-y.ensures)

pub loop-i-preserved : goal.loop-i-preserved
loop-i-preserved c = record {
  in_bank = c.in_ok-y.ensures.0;
  goes_on = sym (walk_more c.args.bank.now c.args.known.now (term_at c.args.bank.now c.loop-i.y) c.args.path.now c.loop-i.i-index c.loop-i-test.true c.in_ok-f.f (term_at c.args.bank.now c.in_ok-y.y) (sym c.read.ensures ∙ c.in_ok-f.was) c.in_ok-y.ensures.1) ∙ c.loop-i.invariant.goes_on;
}
