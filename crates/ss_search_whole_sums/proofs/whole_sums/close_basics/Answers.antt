use Rattle.std.proofs.Common.{List, sym, subst}
use Rattle.ss_terms.specs.declared.forms.FormulaId.{FormulaId}
use Rattle.ss_terms.specs.Forms.{formulas_at, HasFormulas}
use Rattle.ss_search_clashes.specs.Numbered.{class_of}
use Rattle.ss_search_reached.specs.Following.{HasNoSum}
use Rattle.ss_search_whole_sums.proofs.whole_sums.close_basics.Goals as goal

pub numbers_are_seen-requires : goal.numbers_are_seen-requires
numbers_are_seen-requires c = subst (HasFormulas c.args.context.now.bank.now) (sym c.deref.ensures.value) c.requires.formulas

pub returns-then-seen-clause-none : goal.returns-then-seen-clause-none
returns-then-seen-clause-none c = λ cs of.
    let b = c.args.context.now.bank.now in
    subst (λ (xs : List FormulaId). HasNoSum cs (class_of b c.args.classes.now) (formulas_at b xs)) c.deref.ensures.value (c.in_ok-seen.ensures cs of c.if-seen.true)

pub returns-in-Some-clause-some : goal.returns-in-Some-clause-some
returns-in-Some-clause-some c = λ cs of. rw c.in-Some.is at (c.in_ok-closing.ensures cs of)

pub returns-in-None-clause-none : goal.returns-in-None-clause-none
returns-in-None-clause-none c = c.close_by_pairs.ensures.none

pub returns-in-None-clause-some : goal.returns-in-None-clause-some
returns-in-None-clause-some c = c.close_by_pairs.ensures.some
