use Rattle.std.proofs.Common.{◌<◌, ◌∙◌, length, map, Ok, subst, arith}
use Rattle.std.specs.Prelude.{IfSome}
use Rattle.ss_grammar_expressions.specs.Heads.{pieces}
use Rattle.ss_grammar_programs.specs.Heads.{clause_head}
use Rattle.ss_grammar_programs.specs.Parser.{clause_after}
use Rattle.ss_ast.specs.Programs.{clause_tree}
use Rattle.ss_grammar.specs.Stops.{GivesMore}
use Rattle.ss_grammar.specs.Reading.{one_more}
use Rattle.ss_grammar.proofs.Turns.{more_last}
use Rattle.ss_grammar_programs.specs.Grammar.{push_after}
use Rattle.ss_decls.proofs.Collect.{pushed}
use Rattle.ss_decls.proofs.Readers.{clauses_is}
use Rattle.ss_decls.proofs.clauses.parse_clauses.Goals as goal

pub loop-list-preserved : goal.loop-list-preserved
loop-list-preserved c =
    let rest = c.loop-list.rest.now in
    let after = c.in-Some.after.now in
    let f = clause_head in
    let k = (clause_after c.args.depth) in
    let g = subst (λ o. GivesMore (λ x. (clause_tree x.0, pieces x.1.now)) (Ok o) (one_more f k (pieces rest))) c.in-Some.is c.in_ok-clause.ensures.gives in
    let lt : length after < length rest = subst (λ o. IfSome o (λ x. length x.1.now < length rest)) c.in-Some.is c.in_ok-clause.ensures.fewer in
    record {
      turns = pushed f k clause_tree c.loop-list.list.items c.push.new.self.items c.in-Some.clause rest after _ g lt c.in_ok-push.ensures.items c.loop-list.invariant.turns;
      fewer = omega (arith, c.loop-list.invariant.fewer);
    }

pub returns-clause-gives : goal.returns-clause-gives
returns-clause-gives c =
    let rest = c.loop-list.rest.now in
    let f = clause_head in
    let k = (clause_after c.args.depth) in
    let g = subst (λ o. GivesMore (λ x. (clause_tree x.0, pieces x.1.now)) (Ok o) (one_more f k (pieces rest))) c.in_default.is c.in_ok-clause.ensures.gives in
    clauses_is c.args.depth (pieces c.args.tokens.now) ∙ more_last f k push_after (map clause_tree c.loop-list.list.items) (pieces rest) _ g c.loop-list.invariant.turns
