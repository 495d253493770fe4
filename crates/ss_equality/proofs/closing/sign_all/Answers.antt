use Rattle.std.proofs.Common.{◌+◌, sym, subst, drop}
use Rattle.std.proofs.lemmas.List.{drop_more, drop_all}
use Rattle.ss_equality_rules.specs.Whole.{Goes}
use Rattle.ss_equality_rules.proofs.Way.{begins_itself, begins_on, goes_on, goes_nowhere}
use Rattle.ss_equality.proofs.closing.sign_all.Goals as goal

pub loop-term-init : goal.loop-term-init
loop-term-init c = (begins_itself c.args.signatures.now, goes_nowhere c.args.classes.now c.args.signatures.now c.args.pending.now.items c.args.terms.now)

pub loop-term-preserved : goal.loop-term-preserved
loop-term-preserved c = (
  begins_on c.args.signatures.now c.loop-term.signatures c.sign.new.signatures c.loop-term.invariant.0 c.in_ok-sign.ensures.begins,
  goes_on c.args.classes.now c.args.classes.now c.args.classes.now c.args.signatures.now c.loop-term.signatures c.sign.new.signatures c.args.pending.now.items c.loop-term.pending.items c.sign.new.pending.items
      c.args.terms.now (drop c.loop-term.term-index c.args.terms.now) (drop (c.loop-term.term-index + 1) c.args.terms.now) c.loop-term.invariant.1
      (subst (λ vs. Goes c.args.classes.now c.args.classes.now c.loop-term.signatures c.sign.new.signatures c.loop-term.pending.items c.sign.new.pending.items vs (drop (c.loop-term.term-index + 1) c.args.terms.now))
      (sym (drop_more c.args.terms.now c.loop-term.term-index 0 c.loop-term-test.true)) (c.in_ok-sign.ensures.goes (drop (c.loop-term.term-index + 1) c.args.terms.now))),
)

pub returns-in_err-sign-clause-begins : goal.returns-in_err-sign-clause-begins
returns-in_err-sign-clause-begins c = begins_on c.args.signatures.now c.loop-term.signatures c.sign.new.signatures c.loop-term.invariant.0 c.in_err-sign.ensures.begins

pub returns-clause-goes : goal.returns-clause-goes
returns-clause-goes c = subst (λ vs. Goes c.args.classes.now c.args.classes.now c.args.signatures.now c.loop-term.signatures c.args.pending.now.items c.loop-term.pending.items c.args.terms.now vs)
    (drop_all c.loop-term.term-index c.args.terms.now c.loop-term-test.false) c.loop-term.invariant.1
