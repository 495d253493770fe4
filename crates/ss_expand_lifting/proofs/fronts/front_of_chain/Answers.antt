use Rattle.std.proofs.Common.{◌≡◌, false, take, drop, sym, ap, ◌∙◌}
use Rattle.ss_expand_rules.specs.Calls.{has_call}
use Rattle.ss_typed.specs.Parts.{linked}
use Rattle.ss_expand_lifting.proofs.Links.{links_after_call, links_go_on, operand_along}
use Rattle.ss_expand_lifting.proofs.fronts.front_of_chain.Goals as goal

pub returns-then-operand-clause-front : goal.returns-then-operand-clause-front
returns-then-operand-clause-front c = λ s e before types code made n h.
    record { operand = h; go_on = links_after_call c.args.place e c.args.links.now (sym h.calls ∙ c.if-operand.true) }

pub returns-clause-front : goal.returns-clause-front
returns-clause-front c = λ s e before types code made n h.
    let p = c.args.place in
    let links = c.args.links.now in
    let taken = c.links_without_call-length.result in
    let none : has_call e ≡ false = sym h.calls ∙ c.if-operand.false in
    let same : linked p e c.first_links.result.now ≡ linked p e (take taken links) = ap (λ ls. linked p e ls) c.first_links.ensures in
    let still : has_call (linked p e c.first_links.result.now) ≡ false = ap has_call same ∙ c.links_without_call-length.ensures.front p e ∙ none in
    record {
      operand = operand_along _ _ _ _ _ _ _ _ same (c.in_ok-operand.ensures s e before types code made n h none still);
      go_on = links_go_on p (linked p e (take taken links)) (drop taken links) (c.links_without_call-length.ensures.next p (linked p e (take taken links)));
    }
