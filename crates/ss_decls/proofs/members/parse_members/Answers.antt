use Rattle.std.proofs.Common.{◌<◌, ◌∙◌, List, length, map, Ok, sym, subst, arith}
use Rattle.std.specs.Prelude.{IfSome}
use Rattle.ss_grammar_expressions.specs.Heads.{pieces}
use Rattle.ss_grammar_programs.specs.Heads.{begins_member}
use Rattle.ss_grammar_programs.specs.Parser.{member}
use Rattle.ss_ast.specs.Programs.{member_tree}
use Rattle.ss_grammar.specs.Stops.{Fails, GivesMore}
use Rattle.ss_ast.specs.Programs.{MemberTree}
use Rattle.ss_grammar_programs.specs.Again.{another}
use Rattle.ss_grammar_programs.proofs.Rounds.{rounds_last}
use Rattle.ss_grammar_programs.specs.Grammar.{push}
use Rattle.ss_decls.proofs.Collect.{pushed_again, fails_again}
use Rattle.ss_decls.proofs.Readers.{members_is}
use Rattle.ss_parser_expressions.proofs.Loops.{err_gives}
use Rattle.ss_decls.proofs.members.parse_members.Goals as goal

pub loop-list-preserved : goal.loop-list-preserved
loop-list-preserved c =
    let rest = c.loop-list.rest.now in
    let after = c.in-Some.after.now in
    let k = (member c.args.depth) in
    let g = subst (λ o. GivesMore (λ x. (member_tree x.0, pieces x.1.now)) (Ok o) (another begins_member k (pieces rest))) c.in-Some.is c.in_ok-member.ensures.gives in
    let lt : length after < length rest = subst (λ o. IfSome o (λ x. length x.1.now < length rest)) c.in-Some.is c.in_ok-member.ensures.fewer in
    record {
      turns = pushed_again begins_member k member_tree c.loop-list.list.items c.push.new.self.items c.in-Some.member rest after _ g lt c.in_ok-push.ensures.items c.loop-list.invariant.turns;
      fewer = omega (arith, c.loop-list.invariant.fewer);
    }

pub returns-clause-gives : goal.returns-clause-gives
returns-clause-gives c =
    let rest = c.loop-list.rest.now in
    let k = (member c.args.depth) in
    let g = subst (λ o. GivesMore (λ x. (member_tree x.0, pieces x.1.now)) (Ok o) (another begins_member k (pieces rest))) c.in_default.is c.in_ok-member.ensures.gives in
    members_is c.args.depth (pieces c.args.tokens.now) ∙ rounds_last (λ (_ : List MemberTree). begins_member) k push (map member_tree c.loop-list.list.items) (pieces rest) _ g c.loop-list.invariant.turns

pub returns-in_err-member-clause-gives : goal.returns-in_err-member-clause-gives
returns-in_err-member-clause-gives c =
    let r = c.from_residual.ensures in
    let f = fails_again begins_member (member c.args.depth) (map member_tree c.loop-list.list.items) c.loop-list.rest.now c.in_err-member.field-0.0 _ c.in_err-member.ensures.gives c.loop-list.invariant.turns in
    err_gives (λ x. (map member_tree x.0.items, pieces x.1.now)) c.from_residual.result c.in_err-member.field-0.0 _ r.0 r.1 (subst (λ q. Fails c.in_err-member.field-0.0 q) (sym (members_is c.args.depth (pieces c.args.tokens.now))) f)
