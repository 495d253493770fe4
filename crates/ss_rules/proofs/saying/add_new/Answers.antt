use Rattle.std.proofs.Common.{◌≡◌, ◌∙◌, length, sym, ap, subst}
use Rattle.ss_rules_asked.specs.Numbers.{arguments_at}
use Rattle.ss_rules_occurring.proofs.Growing.{Holds-grown}
use Rattle.ss_rules_opened.specs.Views.{ComeFrom}
use Rattle.ss_rules_opened.proofs.Noting.{list_stays}
use Rattle.ss_rules.proofs.Noted.{new_noted}
use Rattle.ss_rules.proofs.saying.add_new.Goals as goal

pub returns-then-after-before-clause-noted : goal.returns-then-after-before-clause-noted
returns-then-after-before-clause-noted c = λ cs is premises goal choices h.
    let after : c.len-after.result ≡ length c.add.new.self.list.items = c.len-after.ensures ∙ c.add.new.self.list.ok.0 in
    let before : c.len-before.result ≡ length c.args.listed.now.list.list.items = c.len-before.ensures ∙ c.args.listed.now.list.list.ok.0 in
    subst (λ fs. ComeFrom cs premises goal choices c.args.bank.now fs c.args.listed.now.origins.items)
    (sym (list_stays c.args.bank.now c.args.listed.now.list c.add.new.self c.args.f c.in_ok-add.ensures (sym after ∙ c.if-after-before.true ∙ before))) h

pub returns-clause-added : goal.returns-clause-added
returns-clause-added c = Holds-grown c.args.bank.now c.terms_of_arguments.new.bank c.add.new.self _ c.terms_of_arguments.ensures.grown c.in_ok-add.ensures

pub returns-clause-noted : goal.returns-clause-noted
returns-clause-noted c = λ cs is premises goal choices h.
    let after : c.len-after.result ≡ length c.add.new.self.list.items = c.len-after.ensures ∙ c.add.new.self.list.ok.0 in
    let before : c.len-before.result ≡ length c.args.listed.now.list.list.items = c.len-before.ensures ∙ c.args.listed.now.list.list.ok.0 in
    new_noted cs c.args.bank.now c.terms_of_arguments.new.bank c.terms_of_arguments.ensures.grown c.args.listed.now.list c.add.new.self c.args.f c.in_ok-add.ensures (λ e. c.if-after-before.false (after ∙ e ∙ sym before))
    c.args.asked.now c.requires.rule c.in_ok-terms.terms c.in_ok-terms.ensures.has (c.in_ok-terms.ensures.at ∙ ap (arguments_at c.args.bank.now) c.deref.ensures.value)
    c.args.listed.now.origins.items c.push.new.self.items c.in_ok-push.ensures.items is premises goal choices h
