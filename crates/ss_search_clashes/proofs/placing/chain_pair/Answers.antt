use Rattle.std.proofs.Common.{◌∙◌, sym, refl}
use Rattle.ss_search_clashes.proofs.Places.{adds_same, adds_other}
use Rattle.ss_search_clashes.proofs.placing.chain_pair.Goals as goal

pub returns-then-is_same_term : goal.returns-then-is_same_term
returns-then-is_same_term c =
    adds_same c.args.context.now.bank.now c.args.context.now.joins.now c.args.places.now c.args.context.now.known c.args.lines.now.items c.args.lines.now.items c.args.equalities.now.items c.args.equalities.now.items c.args.x c.args.y (sym c.is_same_term.ensures ∙ c.if-is_same_term.true) refl refl

pub returns : goal.returns
returns c =
    adds_other c.args.context.now.bank.now c.args.context.now.joins.now c.args.places.now c.args.context.now.known c.args.lines.now.items c.chain.new.lines.items c.args.equalities.now.items c.push.new.self.items c.in_ok-place.place c.args.x c.args.y
    (sym c.is_same_term.ensures ∙ c.if-is_same_term.false) c.in_ok-place.ensures.added c.in_ok-place.ensures.place c.in_ok-push.ensures.items
