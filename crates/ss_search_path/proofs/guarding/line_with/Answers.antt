use Rattle.std.proofs.Common.{◌≡◌, sym, ◌∙◌, ap}
use Rattle.ss_terms.specs.Forms.{terms_at}
use Rattle.ss_rules_asked.specs.declared.asked.Rule.TheVariants as rule
use Rattle.ss_rules_opened.specs.declared.origins.Source.{Source}
use Rattle.ss_rules_opened.specs.declared.origins.Source.TheVariants as source
use Rattle.ss_rules_opened.specs.Views.{origin_with}
use Rattle.ss_search_path.proofs.Lines.{rule_line, good_line, invariants_line, instance_line}
use Rattle.ss_search_path.specs.Standing as spec
use Rattle.ss_search_path.proofs.guarding.line_with.Goals as goal

pub returns-in-Rule-True : goal.returns-in-Rule-True
returns-in-Rule-True c =
    let b = c.args.bank.now in
    let inner : c.in-Rule-True.field-0 ≡ rule.True c.in-Rule-True.name = rw c.in-Rule-True.is at c.in-Rule-True.field-0-is in
    rule_line b c.in-Rule-True.name c.args.terms c.requires ∙ sym (ap (λ (s : Source). spec.line_from (origin_with b s (terms_at b c.args.terms.items)) c.args.place) (c.in-Rule-True.is ∙ ap source.Rule inner))

pub returns-in-Rule-Good : goal.returns-in-Rule-Good
returns-in-Rule-Good c =
    let b = c.args.bank.now in
    let inner : c.in-Rule-Good.field-0 ≡ rule.Good c.in-Rule-Good.name c.in-Rule-Good._store = rw c.in-Rule-Good.is at c.in-Rule-Good.field-0-is in
    good_line b c.in-Rule-Good.name c.args.place c.args.terms c.requires ∙ sym (ap (λ (s : Source). spec.line_from (origin_with b s (terms_at b c.args.terms.items)) c.args.place) (c.in-Rule-Good.is ∙ ap source.Rule inner))

pub returns-in-Rule-Invariants : goal.returns-in-Rule-Invariants
returns-in-Rule-Invariants c =
    let b = c.args.bank.now in
    let inner : c.in-Rule-Invariants.field-0 ≡ rule.Invariants c.in-Rule-Invariants._store = rw c.in-Rule-Invariants.is at c.in-Rule-Invariants.field-0-is in
    invariants_line b c.args.place c.args.terms c.requires ∙ sym (ap (λ (s : Source). spec.line_from (origin_with b s (terms_at b c.args.terms.items)) c.args.place) (c.in-Rule-Invariants.is ∙ ap source.Rule inner))

pub returns-in-Forall : goal.returns-in-Forall
returns-in-Forall c =
    let b = c.args.bank.now in
    instance_line b c.args.place c.args.terms c.requires ∙ sym (ap (λ (s : Source). spec.line_from (origin_with b s (terms_at b c.args.terms.items)) c.args.place) (c.in-Forall.is))
