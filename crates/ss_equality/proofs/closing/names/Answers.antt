use Rattle.std.proofs.Common.{◌∙◌, ◌++◌, ◌∷◌, [], ap, sym, map, take}
use Rattle.std.proofs.lemmas.List.{map_more, take_all}
use Rattle.ss_terms.specs.Bank.{number}
use Rattle.ss_equality_rules.specs.Names.{named}
use Rattle.ss_equality.proofs.closing.names.Goals as goal

pub loop-term-preserved : goal.loop-term-preserved
loop-term-preserved c =
    c.in_ok-push.ensures.items
    ∙ ap (λ l. l ++ number c.name.result ∷ []) c.loop-term.invariant
    ∙ ap (λ n. map (named c.args.classes.now.log) (take c.loop-term.term-index c.args.terms.now) ++ number n ∷ []) c.name.ensures
    ∙ sym (map_more (named c.args.classes.now.log) c.args.terms.now c.loop-term.term-index (number 0) c.loop-term-test.true)

pub returns : goal.returns
returns c = c.loop-term.invariant ∙ ap (map (named c.args.classes.now.log)) (take_all c.loop-term.term-index c.args.terms.now c.loop-term-test.false)
