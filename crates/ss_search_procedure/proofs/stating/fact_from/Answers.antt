use Rattle.std.proofs.Common.{◌≡◌, ◌≤◌, length, ◌∙◌, ap, arith}
use Rattle.std.proofs.lemmas.List.{length-map}
use Rattle.ss_terms.specs.Forms.{formula_at}
use Rattle.ss_rules_asked.specs.declared.asked.Rule.TheVariants as rule
use Rattle.ss_rules_opened.specs.Choices.{choice_at}
use Rattle.ss_rules_opened.specs.declared.origins.Source.TheVariants as source
use Rattle.ss_search_path.specs.Standing.{choices_in}
use Rattle.ss_search_procedure.proofs.Sources.{stated_premise, stated_denied, stated_rule, guarded_good, guarded_invariants, guarded_instance}
use Rattle.ss_search_procedure.proofs.stating.fact_from.Goals as goal

pub returns-in-Premise-clause-some : goal.returns-in-Premise-clause-some
returns-in-Premise-clause-some c = λ cs o is h.
    let g = c.args.given.now in
    let b = g.bank.now in
    stated_premise cs b c.args.shown.now.premises.now c.args.shown.now.goal (choices_in g) o c.in-Premise.number (is ∙ c.in-Premise.is) c.premise.result c.premise.ensures (formula_at b c.args.f) h

pub returns-in-Denied-clause-some : goal.returns-in-Denied-clause-some
returns-in-Denied-clause-some c = λ cs o is h.
    let g = c.args.given.now in
    let b = g.bank.now in
    stated_denied cs b c.args.shown.now.premises.now c.args.shown.now.goal (choices_in g) o (is ∙ c.in-Denied.is) c.negation.result c.negation.ensures.negation (formula_at b c.args.f) h

pub returns-in-Rule-True-clause-some : goal.returns-in-Rule-True-clause-some
returns-in-Rule-True-clause-some c = λ cs o is h.
    let g = c.args.given.now in
    let b = g.bank.now in
    let inner : c.in-Rule-True.field-0 ≡ rule.True c.in-Rule-True._name = rw c.in-Rule-True.is at c.in-Rule-True.field-0-is in
    let past : length (choices_in g) ≤ length g.choices.now = omega (arith, length-map g.choices.now (choice_at b)) in
    stated_rule cs b c.args.shown.now.premises.now c.args.shown.now.goal (choices_in g) o c.in-Rule-True._name (is ∙ c.in-Rule-True.is ∙ ap source.Rule inner) (length g.choices.now) past (formula_at b c.args.f) h

pub returns-in-Rule-Good-clause-none : goal.returns-in-Rule-Good-clause-none
returns-in-Rule-Good-clause-none c = λ _ cs o is h.
    let g = c.args.given.now in
    let b = g.bank.now in
    let inner : c.in-Rule-Good.field-0 ≡ rule.Good c.in-Rule-Good._name c.in-Rule-Good._store = rw c.in-Rule-Good.is at c.in-Rule-Good.field-0-is in
    guarded_good cs b c.args.shown.now.premises.now c.args.shown.now.goal (choices_in g) o c.in-Rule-Good._name c.in-Rule-Good._store (is ∙ c.in-Rule-Good.is ∙ ap source.Rule inner) (formula_at b c.args.f) h

pub returns-in-Rule-Invariants-clause-none : goal.returns-in-Rule-Invariants-clause-none
returns-in-Rule-Invariants-clause-none c = λ _ cs o is h.
    let g = c.args.given.now in
    let b = g.bank.now in
    let inner : c.in-Rule-Invariants.field-0 ≡ rule.Invariants c.in-Rule-Invariants._store = rw c.in-Rule-Invariants.is at c.in-Rule-Invariants.field-0-is in
    guarded_invariants cs b c.args.shown.now.premises.now c.args.shown.now.goal (choices_in g) o c.in-Rule-Invariants._store (is ∙ c.in-Rule-Invariants.is ∙ ap source.Rule inner) (formula_at b c.args.f) h

pub returns-in-Forall-clause-none : goal.returns-in-Forall-clause-none
returns-in-Forall-clause-none c = λ _ cs o is h.
    let g = c.args.given.now in
    let b = g.bank.now in
    guarded_instance cs b c.args.shown.now.premises.now c.args.shown.now.goal (choices_in g) o c.in-Forall._whole (is ∙ c.in-Forall.is) (formula_at b c.args.f) h
