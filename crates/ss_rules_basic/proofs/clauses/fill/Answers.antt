use Rattle.std.proofs.Common.{◌≡◌, ◌∙◌, sym, ap, subst, map}
use Rattle.std.specs.Prelude.{IfOk}
use Rattle.ss_logic.specs.Shapes.{all_of}
use Rattle.ss_terms.specs.Forms.{HasFormula, HasTerms, formula_at}
use Rattle.ss_rules_basic.specs.Facts.{sentence_at, HasSentences}
use Rattle.ss_rules_basic.proofs.Planned.{clauses_there, clauses_say}
use Rattle.ss_rules_basic.proofs.clauses.fill.Goals as goal

pub make_all-requires : goal.make_all-requires
make_all-requires c =
    let a = c.args.b.now in
    let b = c.make_terms.new.b in
    let made = c.in_ok-made.made.items in
    let has = rw c.deref.ensures.value at c.in_ok-sentences.ensures.has in
    let there = clauses_there a b c.in_ok-made.ensures.grown c.args.plans.now made c.in_ok-made.ensures.at c.args.clauses.now c.requires.clauses in
    subst (HasSentences b) (sym c.deref-2.ensures.value) (has b c.in_ok-made.ensures.there there)

pub returns-clause-at : goal.returns-clause-at
returns-clause-at c =
    let a = c.args.b.now in
    let b = c.make_terms.new.b in
    let made = c.in_ok-made.made.items in
    let g = c.in_ok-made.ensures.grown in
    let there = clauses_there a b g c.args.plans.now made c.in_ok-made.ensures.at c.args.clauses.now c.requires.clauses in
    let says = rw c.deref.ensures.value at c.in_ok-sentences.ensures.says in
    subst (λ x. IfOk c.make_all.result (λ f. HasFormula c.make_all.new.b f × (formula_at c.make_all.new.b f ≡ all_of x)))
    (ap (map (sentence_at b)) c.deref-2.ensures.value
    ∙ says b c.in_ok-made.ensures.there there
    ∙ clauses_say a b g c.args.plans.now made c.in_ok-made.ensures.at c.args.clauses.now c.requires.clauses)
    c.make_all.ensures.at
