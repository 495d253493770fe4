use Rattle.std.proofs.Common.{◌∙◌, ap, sym, subst, arith}
use Rattle.ss_terms.specs.Forms.{TermBelow, term_shape, term_of, term_at}
use Rattle.ss_equality_rules.specs.Classes.{Classed}
use Rattle.ss_equality.proofs.FirstTerms.{first_none, first_more, first_all}
use Rattle.ss_equality.proofs.closing.enter_all.Goals as goal

pub loop-number-init : goal.loop-number-init
loop-number-init c = (ap (λ (v : Classed). v.log) c.requires, first_none c.args.bank.now c.args.classes.now.forms (ap (λ (v : Classed). v.forms) c.requires))

pub enter-requires-clause-empty : goal.enter-requires-clause-empty
enter-requires-clause-empty c = c.loop-number.invariant.0

pub enter-requires-clause-below : goal.enter-requires-clause-below
enter-requires-clause-below c =
    subst (λ z. TermBelow z (term_shape c.in_ok-form.form)) (sym c.loop-number.invariant.1.all)
    (subst (λ s. TermBelow c.loop-number.number s) (sym c.in_ok-form.ensures) c.term_node.ensures.below)

pub loop-number-preserved : goal.loop-number-preserved
loop-number-preserved c = (
  c.in_ok-enter.ensures.log,
  first_more c.args.bank.now c.loop-number.number c.loop-number.classes.forms c.enter.new.self.forms (term_shape c.in_ok-form.form) c.loop-number.invariant.1 c.in_ok-enter.ensures.forms
      (c.term_node.ensures.built ∙ ap (term_of (term_at c.args.bank.now)) (sym c.in_ok-form.ensures))
      (subst (λ s. TermBelow c.loop-number.number s) (sym c.in_ok-form.ensures) c.term_node.ensures.below),
)

pub returns-clause-forms : goal.returns-clause-forms
returns-clause-forms c = first_all c.args.bank.now c.loop-number.number c.loop-number.classes.forms c.loop-number.invariant.1 (omega (arith, c.loop-number-test.false, c.loop-number.auto.number-end, c.term_count-number-end.ensures))
