use Rattle.std.proofs.Common.{◌<◌, length, map, Ok, subst, arith}
use Rattle.std.specs.Prelude.{IfSome}
use Rattle.ss_ast.specs.declared.token.Symbol.TheVariants as symbol
use Rattle.ss_grammar_expressions.specs.Heads.{the, pieces}
use Rattle.ss_core.specs.declared.names.Place.{Place}
use Rattle.ss_grammar_programs.specs.Parser.{modified_term}
use Rattle.ss_ast.specs.Programs.{modified_tree}
use Rattle.ss_grammar.specs.Stops.{GivesMore}
use Rattle.ss_grammar.specs.Reading.{one_more}
use Rattle.ss_grammar.proofs.Turns.{more_last}
use Rattle.ss_grammar_programs.specs.Grammar.{push_after}
use Rattle.ss_decls.proofs.Collect.{pushed}
use Rattle.ss_decls.proofs.modified.parse_more_modified.Goals as goal

pub loop-terms-preserved : goal.loop-terms-preserved
loop-terms-preserved c =
    let rest = c.loop-terms.rest.now in
    let after = c.in-Some.after.now in
    let f = (the symbol.Comma) in
    let k = (λ (_ : Place). modified_term c.args.depth) in
    let g = subst (λ o. GivesMore (λ x. (modified_tree x.0, pieces x.1.now)) (Ok o) (one_more f k (pieces rest))) c.in-Some.is c.in_ok-term.ensures.gives in
    let lt : length after < length rest = subst (λ o. IfSome o (λ x. length x.1.now < length rest)) c.in-Some.is c.in_ok-term.ensures.fewer in
    record {
      turns = pushed f k modified_tree c.loop-terms.terms.items c.push.new.self.items c.in-Some.term rest after _ g lt c.in_ok-push.ensures.items c.loop-terms.invariant.turns;
      fewer = omega (arith, c.loop-terms.invariant.fewer);
    }

pub returns-clause-gives : goal.returns-clause-gives
returns-clause-gives c =
    let rest = c.loop-terms.rest.now in
    let f = (the symbol.Comma) in
    let k = (λ (_ : Place). modified_term c.args.depth) in
    let g = subst (λ o. GivesMore (λ x. (modified_tree x.0, pieces x.1.now)) (Ok o) (one_more f k (pieces rest))) c.in_default.is c.in_ok-term.ensures.gives in
    more_last f k push_after (map modified_tree c.loop-terms.terms.items) (pieces rest) _ g c.loop-terms.invariant.turns
