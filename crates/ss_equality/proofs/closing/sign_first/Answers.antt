use Rattle.std.proofs.Common.{◌+◌, ◌-◌, [], length, subst, arith}
use Rattle.ss_equality_rules.specs.Whole.{IsWhole, numbers}
use Rattle.ss_equality_rules.proofs.Way.{nothing_waits}
use Rattle.ss_equality.proofs.FirstTerms.{all_numbers, one_number, no_number}
use Rattle.ss_equality.proofs.Steps.{then_ok}
use Rattle.ss_equality.proofs.closing.sign_first.Goals as goal

pub loop-term-init : goal.loop-term-init
loop-term-init c = all_numbers c.args.classes.now.forms c.args.classes.now.log c.args.signatures.now c.new-pending.result.items c.requires.log c.requires.signatures c.new-pending.ensures.items

pub loop-term-preserved : goal.loop-term-preserved
loop-term-preserved c =
    (c.in_ok-sign.ensures.goes (numbers (c.loop-term.term + 1) (length c.args.classes.now.forms - (c.loop-term.term + 1)))).goes []
    (one_number c.args.classes.now.forms [] c.args.classes.now.log c.loop-term.signatures c.loop-term.pending.items c.loop-term.term (length c.args.classes.now.forms) c.loop-term.invariant
    (omega (arith, c.loop-term-test.true, c.term_count-term-end.ensures)))

pub returns-clause-whole : goal.returns-clause-whole
returns-clause-whole c = then_ok c.settle.result c.settle.ensures.goes (λ g.
    subst (λ fs. IsWhole fs [] c.settle.new.classes.log c.settle.new.signatures) c.settle.ensures.forms
    (nothing_waits c.settle.new.classes.forms [] c.settle.new.classes.log c.settle.new.signatures (g.goes []
    (no_number c.args.classes.now.forms [] c.args.classes.now.log c.loop-term.signatures c.loop-term.pending.items c.loop-term.term (length c.args.classes.now.forms) c.loop-term.invariant
    (omega (arith, c.loop-term-test.false, c.term_count-term-end.ensures))))))
