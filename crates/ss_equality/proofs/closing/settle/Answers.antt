use Rattle.std.proofs.Common.{◌∙◌, [], sym, subst, refl}
use Rattle.std.proofs.lemmas.List.{nil_from_length}
use Rattle.ss_equality_rules.specs.Whole.{Goes}
use Rattle.ss_equality_rules.proofs.Way.{begins_itself, begins_on, goes_on, goes_nowhere}
use Rattle.ss_equality.proofs.closing.settle.Goals as goal

pub loop-init : goal.loop-init
loop-init c = (refl, begins_itself c.args.classes.now.log, begins_itself c.args.signatures.now, goes_nowhere c.args.classes.now c.args.signatures.now c.args.pending.now.items [])

pub loop-preserved : goal.loop-preserved
loop-preserved c = (
  c.in_ok-settle_one.ensures.forms ∙ c.loop.invariant.0,
  begins_on c.args.classes.now.log c.loop.classes.log c.settle_one.new.classes.log c.loop.invariant.1 c.in_ok-settle_one.ensures.log,
  begins_on c.args.signatures.now c.loop.signatures c.settle_one.new.signatures c.loop.invariant.2 c.in_ok-settle_one.ensures.begins,
  goes_on c.args.classes.now c.loop.classes c.settle_one.new.classes c.args.signatures.now c.loop.signatures c.settle_one.new.signatures c.args.pending.now.items c.loop.pending.items c.settle_one.new.pending.items [] [] [] c.loop.invariant.3
      (subst (λ ps. Goes c.loop.classes c.settle_one.new.classes c.loop.signatures c.settle_one.new.signatures ps c.settle_one.new.pending.items [] []) (sym c.in-Some.ensures.items) c.in_ok-settle_one.ensures.goes),
)

pub returns-in_default-clause-goes : goal.returns-in_default-clause-goes
returns-in_default-clause-goes c =
    subst (λ ps. Goes c.args.classes.now c.loop.classes c.args.signatures.now c.loop.signatures c.args.pending.now.items ps [] [])
    (nil_from_length c.loop.pending.items (sym c.loop.pending.ok.0 ∙ c.in_default.ensures.cases.0)) c.loop.invariant.3

pub returns-in_err-settle_one-clause-log : goal.returns-in_err-settle_one-clause-log
returns-in_err-settle_one-clause-log c = begins_on c.args.classes.now.log c.loop.classes.log c.settle_one.new.classes.log c.loop.invariant.1 c.in_err-settle_one.ensures.log

pub returns-in_err-settle_one-clause-begins : goal.returns-in_err-settle_one-clause-begins
returns-in_err-settle_one-clause-begins c = begins_on c.args.signatures.now c.loop.signatures c.settle_one.new.signatures c.loop.invariant.2 c.in_err-settle_one.ensures.begins
