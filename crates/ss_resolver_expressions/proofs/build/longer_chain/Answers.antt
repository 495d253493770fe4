use Rattle.std.proofs.Common.{◌≡◌, sym, ap, ◌∙◌, map, rules}
use Rattle.ss_typed.specs.View.{expr, grouped}
use Rattle.ss_typed.specs.Parts.{link_after as typed_link}
use Rattle.ss_typed.proofs.Grouping.{chain_is, linked_push}
use Rattle.ss_resolver_expressions.proofs.build.longer_chain.Goals as goal

pub returns : goal.returns
returns c =
    let p : c.args.at ≡ c.args.place = search rules in
    let first = expr c.args.first.value in
    c.in_ok-boxed.ensures ∙ chain_is c.args.at c.args.first c.push.new.self
    ∙ ap (λ xs. grouped c.args.at first (map typed_link xs)) c.in_ok-push.ensures.items
    ∙ linked_push c.args.at first c.args.links.items c.args.link
    ∙ ap (λ at. typed_link c.args.link at (grouped c.args.at first (map typed_link c.args.links.items))) p
