use Rattle.std.proofs.Common.{◌<◌, ◌∙◌, length, map, Ok, sym, ap, subst, arith}
use Rattle.std.specs.Prelude.{IfSome}
use Rattle.ss_ast.specs.Expressions.{expr_tree, grouped}
use Rattle.ss_ast.specs.Programs.{AllOf, ElementsOf, OneOf}
use Rattle.ss_grammar.specs.Stops.{GivesMore}
use Rattle.ss_grammar_expressions.specs.Heads.{is, pieces, postfix_head}
use Rattle.ss_ast.specs.Parts.{postfix_after}
use Rattle.ss_grammar_programs.specs.Again.{another}
use Rattle.ss_grammar_programs.specs.Parser.{step}
use Rattle.ss_decls.specs.declared.modified.TermStep.{TermStep}
use Rattle.ss_decls.specs.View.{step_of}
use Rattle.ss_decls.proofs.Terms.{Stands, stepped_on, one_postfix, ends_whole, ends_path}
use Rattle.ss_decls.proofs.modified.parse_modified_from.Goals as goal

pub returns-in-All-clause-gives : goal.returns-in-All-clause-gives
returns-in-All-clause-gives c =
    let p = c.args.place in
    let a = expr_tree c.args.first.value in
    let b = grouped p (expr_tree c.args.first.value) (map postfix_after c.loop-postfixes.postfixes.items) in
    let rest = c.loop-postfixes.rest.now in
    let after = c.in-Some.after.now in
    let g = subst (λ o. GivesMore (λ x. (step_of x.0, pieces x.1.now)) (Ok o) (another (is postfix_head) (step c.args.depth) (pieces rest))) c.in-Some.is c.in_ok-step.ensures.gives in
    let lt : length after < length rest = subst (λ o. IfSome o (λ x. length x.1.now < length rest)) c.in-Some.is c.in_ok-step.ensures.fewer in
    let t = stepped_on p c.args.depth a c.args.tokens.now b rest after c.in-Some.step g lt c.loop-postfixes.invariant.turns in
    let w = subst (λ (s : TermStep). Stands p c.args.depth a c.args.tokens.now (step_of s p b) after) c.in-All.is t in
    ends_whole p c.args.depth a c.args.tokens.now (AllOf b) after w ∙ ap (λ e. Ok (AllOf e, pieces after)) (sym c.in_ok-path-in-All.ensures)

pub returns-in-Elements-clause-gives : goal.returns-in-Elements-clause-gives
returns-in-Elements-clause-gives c =
    let p = c.args.place in
    let a = expr_tree c.args.first.value in
    let b = grouped p (expr_tree c.args.first.value) (map postfix_after c.loop-postfixes.postfixes.items) in
    let rest = c.loop-postfixes.rest.now in
    let after = c.in-Some.after.now in
    let g = subst (λ o. GivesMore (λ x. (step_of x.0, pieces x.1.now)) (Ok o) (another (is postfix_head) (step c.args.depth) (pieces rest))) c.in-Some.is c.in_ok-step.ensures.gives in
    let lt : length after < length rest = subst (λ o. IfSome o (λ x. length x.1.now < length rest)) c.in-Some.is c.in_ok-step.ensures.fewer in
    let t = stepped_on p c.args.depth a c.args.tokens.now b rest after c.in-Some.step g lt c.loop-postfixes.invariant.turns in
    let w = subst (λ (s : TermStep). Stands p c.args.depth a c.args.tokens.now (step_of s p b) after) c.in-Elements.is t in
    ends_whole p c.args.depth a c.args.tokens.now (ElementsOf b) after w ∙ ap (λ e. Ok (ElementsOf e, pieces after)) (sym c.in_ok-path-in-Elements.ensures)

pub loop-postfixes-preserved : goal.loop-postfixes-preserved
loop-postfixes-preserved c =
    let p = c.args.place in
    let a = expr_tree c.args.first.value in
    let e = expr_tree c.args.first.value in
    let b = grouped p e (map postfix_after c.loop-postfixes.postfixes.items) in
    let rest = c.loop-postfixes.rest.now in
    let after = c.in-Some.after.now in
    let g = subst (λ o. GivesMore (λ x. (step_of x.0, pieces x.1.now)) (Ok o) (another (is postfix_head) (step c.args.depth) (pieces rest))) c.in-Some.is c.in_ok-step.ensures.gives in
    let lt : length after < length rest = subst (λ o. IfSome o (λ x. length x.1.now < length rest)) c.in-Some.is c.in_ok-step.ensures.fewer in
    let t = stepped_on p c.args.depth a c.args.tokens.now b rest after c.in-Some.step g lt c.loop-postfixes.invariant.turns in
    let w = subst (λ (s : TermStep). Stands p c.args.depth a c.args.tokens.now (step_of s p b) after) c.in-Postfix.is t in
    record {
      turns = one_postfix p c.args.depth a c.args.tokens.now e c.loop-postfixes.postfixes.items c.push.new.self.items c.in-Postfix.postfix after c.in_ok-push-in-Postfix.ensures.items w;
      fewer = omega (arith, c.loop-postfixes.invariant.fewer, lt);
    }

pub returns-clause-gives : goal.returns-clause-gives
returns-clause-gives c =
    let p = c.args.place in
    let a = expr_tree c.args.first.value in
    let b = grouped p (expr_tree c.args.first.value) (map postfix_after c.loop-postfixes.postfixes.items) in
    let rest = c.loop-postfixes.rest.now in
    let g = subst (λ o. GivesMore (λ x. (step_of x.0, pieces x.1.now)) (Ok o) (another (is postfix_head) (step c.args.depth) (pieces rest))) c.in_default.is c.in_ok-step.ensures.gives in
    ends_path p c.args.depth a c.args.tokens.now b rest g c.loop-postfixes.invariant.turns ∙ ap (λ e. Ok (OneOf e, pieces rest)) (sym c.in_ok-path.ensures)
