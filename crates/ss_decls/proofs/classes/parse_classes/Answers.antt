use Rattle.std.proofs.Common.{◌<◌, ◌∙◌, List, length, map, Ok, sym, subst, arith}
use Rattle.std.specs.Prelude.{IfSome}
use Rattle.ss_grammar_expressions.specs.Heads.{pieces}
use Rattle.ss_grammar_programs.specs.Heads.{begins_class}
use Rattle.ss_grammar_programs.specs.Parser.{class_decl}
use Rattle.ss_ast.specs.Programs.{class_tree}
use Rattle.ss_grammar.specs.Stops.{Fails, GivesMore}
use Rattle.ss_ast.specs.Programs.{ClassTree}
use Rattle.ss_grammar_programs.specs.Again.{another}
use Rattle.ss_grammar_programs.proofs.Rounds.{rounds_last}
use Rattle.ss_grammar_programs.specs.Grammar.{push}
use Rattle.ss_decls.proofs.Collect.{pushed_again, fails_again}
use Rattle.ss_decls.proofs.Readers.{classes_is}
use Rattle.ss_parser_expressions.proofs.Loops.{err_gives}
use Rattle.ss_decls.proofs.classes.parse_classes.Goals as goal

pub loop-list-preserved : goal.loop-list-preserved
loop-list-preserved c =
    let rest = c.loop-list.rest.now in
    let after = c.in-Some.after.now in
    let k = (class_decl c.args.depth) in
    let g = subst (λ o. GivesMore (λ x. (class_tree x.0, pieces x.1.now)) (Ok o) (another begins_class k (pieces rest))) c.in-Some.is c.in_ok-class.ensures.gives in
    let lt : length after < length rest = subst (λ o. IfSome o (λ x. length x.1.now < length rest)) c.in-Some.is c.in_ok-class.ensures.fewer in
    record {
      turns = pushed_again begins_class k class_tree c.loop-list.list.items c.push.new.self.items c.in-Some.class rest after _ g lt c.in_ok-push.ensures.items c.loop-list.invariant.turns;
      fewer = omega (arith, c.loop-list.invariant.fewer);
    }

pub returns-clause-gives : goal.returns-clause-gives
returns-clause-gives c =
    let rest = c.loop-list.rest.now in
    let k = (class_decl c.args.depth) in
    let g = subst (λ o. GivesMore (λ x. (class_tree x.0, pieces x.1.now)) (Ok o) (another begins_class k (pieces rest))) c.in_default.is c.in_ok-class.ensures.gives in
    classes_is c.args.depth (pieces c.args.tokens.now) ∙ rounds_last (λ (_ : List ClassTree). begins_class) k push (map class_tree c.loop-list.list.items) (pieces rest) _ g c.loop-list.invariant.turns

pub returns-in_err-class-clause-gives : goal.returns-in_err-class-clause-gives
returns-in_err-class-clause-gives c =
    let r = c.from_residual.ensures in
    let f = fails_again begins_class (class_decl c.args.depth) (map class_tree c.loop-list.list.items) c.loop-list.rest.now c.in_err-class.field-0.0 _ c.in_err-class.ensures.gives c.loop-list.invariant.turns in
    err_gives (λ x. (map class_tree x.0.items, pieces x.1.now)) c.from_residual.result c.in_err-class.field-0.0 _ r.0 r.1 (subst (λ q. Fails c.in_err-class.field-0.0 q) (sym (classes_is c.args.depth (pieces c.args.tokens.now))) f)
