use Rattle.std.proofs.Common.{◌≡◌, ◌∙◌, length, sym, subst}
use Rattle.ss_terms.specs.Forms.{terms_at, HasTerms}
use Rattle.ss_rules_opened.specs.Views.{origin_with, ComeFrom}
use Rattle.ss_rules_opened.proofs.Noting.{list_stays, list_grows, one_more_comes}
use Rattle.ss_logic_means.specs.Origins.{IsOrigin}
use Rattle.ss_rules_occurring.specs.Found.{formulas_of}
use Rattle.ss_terms.specs.Forms.{formula_at}
use Rattle.ss_rules_opened.proofs.origins.add_from.Goals as goal

pub returns-then-after-before-clause-noted : goal.returns-then-after-before-clause-noted
returns-then-after-before-clause-noted c = λ cs premises goal choices is h.
    let after : c.len-after.result ≡ length c.add.new.self.list.items = c.len-after.ensures ∙ c.add.new.self.list.ok.0 in
    let before : c.len-before.result ≡ length c.args.listed.now.list.list.items = c.len-before.ensures ∙ c.args.listed.now.list.list.ok.0 in
    subst (λ fs. ComeFrom cs premises goal choices c.args.bank.now fs c.args.listed.now.origins.items)
    (sym (list_stays c.args.bank.now c.args.listed.now.list c.add.new.self c.args.f c.in_ok-add.ensures (sym after ∙ c.if-after-before.true ∙ before))) h

pub returns-clause-noted : goal.returns-clause-noted
returns-clause-noted c = λ cs premises goal choices is h.
    let after : c.len-after.result ≡ length c.add.new.self.list.items = c.len-after.ensures ∙ c.add.new.self.list.ok.0 in
    let before : c.len-before.result ≡ length c.args.listed.now.list.list.items = c.len-before.ensures ∙ c.args.listed.now.list.list.ok.0 in
    let b = c.args.bank.now in
    one_more_comes cs premises goal choices b (formulas_of b c.args.listed.now.list) (formulas_of b c.add.new.self) (formula_at b c.args.f) c.args.listed.now.origins.items c.push.new.self.items (record { source = c.args.source; terms = c.in_ok-terms.terms })
    (list_grows b c.args.listed.now.list c.add.new.self c.args.f c.in_ok-add.ensures (λ e. c.if-after-before.false (after ∙ e ∙ sym before)))
    c.in_ok-push.ensures.items c.requires.source (subst (HasTerms b) (sym c.in_ok-terms.ensures.items) c.requires.terms)
    (subst (λ ts. IsOrigin cs premises goal choices (formulas_of b c.args.listed.now.list) (origin_with b c.args.source (terms_at b ts)) (formula_at b c.args.f)) (sym c.in_ok-terms.ensures.items) is) h
