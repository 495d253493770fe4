use Rattle.std.proofs.Common.{◌<◌, ◌∙◌, length, map, Ok, subst, arith}
use Rattle.std.specs.Prelude.{IfSome}
use Rattle.ss_ast.specs.declared.token.Symbol.TheVariants as symbol
use Rattle.ss_ast.specs.Expressions.{name_tree}
use Rattle.ss_grammar.specs.Reading.{one_more}
use Rattle.ss_grammar.specs.Stops.{GivesMore}
use Rattle.ss_grammar_expressions.specs.First.{tokened}
use Rattle.ss_grammar_expressions.specs.Heads.{the, pieces}
use Rattle.ss_grammar.proofs.Turns.{more_last}
use Rattle.ss_grammar_programs.specs.Grammar.{push_after}
use Rattle.ss_grammar_programs.specs.Parser.{attribute}
use Rattle.ss_decls.proofs.Readers.{attributes_is}
use Rattle.ss_decls.proofs.Collect.{pushed}
use Rattle.ss_decls.proofs.params.parse_attributes.Goals as goal

pub loop-names-preserved : goal.loop-names-preserved
loop-names-preserved c =
    let rest = c.loop-names.rest.now in
    let after = c.in-Some.after.now in
    let f = tokened (the symbol.OpenBracket) in
    let k = attribute c.args.depth in
    let g = subst (λ o. GivesMore (λ x. (name_tree x.0, pieces x.1.now)) (Ok o) (one_more f k (pieces rest))) c.in-Some.is c.in_ok-name.ensures.gives in
    let lt : length after < length rest = subst (λ o. IfSome o (λ x. length x.1.now < length rest)) c.in-Some.is c.in_ok-name.ensures.fewer in
    record {
      turns = pushed f k name_tree c.loop-names.names.items c.push.new.self.items c.in-Some.name rest after _ g lt c.in_ok-push.ensures.items c.loop-names.invariant.turns;
      fewer = omega (arith, c.loop-names.invariant.fewer);
    }

pub returns-clause-gives : goal.returns-clause-gives
returns-clause-gives c =
    let rest = c.loop-names.rest.now in
    let f = tokened (the symbol.OpenBracket) in
    let k = attribute c.args.depth in
    let g = subst (λ o. GivesMore (λ x. (name_tree x.0, pieces x.1.now)) (Ok o) (one_more f k (pieces rest))) c.in_default.is c.in_ok-name.ensures.gives in
    attributes_is c.args.depth (pieces c.args.tokens.now) ∙ more_last f k push_after (map name_tree c.loop-names.names.items) (pieces rest) _ g c.loop-names.invariant.turns
