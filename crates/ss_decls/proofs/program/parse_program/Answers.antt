use Rattle.std.proofs.Common.{◌≡◌, ◌≢◌, length, map, Err, sym, subst, arith}
use Rattle.std.proofs.lemmas.Grind.{common_steps}
use Rattle.ss_ast.specs.Programs.{class_tree}
use Rattle.ss_grammar.specs.declared.fault.Stop.{Stop}
use Rattle.ss_grammar.specs.Stops.{Fails}
use Rattle.ss_grammar_expressions.specs.Heads.{pieces}
use Rattle.ss_grammar_programs.specs.Parser.{declarations}
use Rattle.ss_decls.specs.Answer.{ProgramAnswer}
use Rattle.ss_decls.proofs.Files.{whole_is, more_is, other_is, faulty}
use Rattle.ss_decls.proofs.program.parse_program.Goals as goal

pub returns-then-is_empty : goal.returns-then-is_empty
returns-then-is_empty c =
    let n : length c.in-Some.behind.now ≡ 0 = grind (arith, common_steps) in
    record { exact = whole_is c.args.tokens.now (map class_tree c.in-Ok.classes.items) c.in-Ok.rest.now c.in-Some.behind.now c.in-Some.last c.in-Ok.ensures.gives c.in-Some.ensures.sees n }

pub returns-in-Some : goal.returns-in-Some
returns-in-Some c =
    let n : length c.in-Some.behind.now ≢ 0 = grind (arith, common_steps) in
    record { exact = more_is c.args.tokens.now (map class_tree c.in-Ok.classes.items) c.in-Ok.rest.now c.in-Some.behind.now c.in-Some.last c.broken.result c.in-Ok.ensures.gives c.in-Some.ensures.sees n c.broken.ensures }

pub returns-in-Ok : goal.returns-in-Ok
returns-in-Ok c =
    record { exact = other_is c.args.tokens.now (map class_tree c.in-Ok.classes.items) c.in-Ok.rest.now c.refused_at.result c.in-Ok.ensures.gives c.in-None.ensures.sees c.refused_at.ensures }

pub returns : goal.returns
returns c =
    let g = subst (λ (e : Stop). Fails e (declarations 64 (pieces c.args.tokens.now))) c.in-Err-Fault.field-0-is c.in-Err-Fault.ensures.gives in
    record { exact = subst (λ r. ProgramAnswer c.args.tokens.now (Err r)) (sym c.refused.ensures) (faulty c.args.tokens.now c.in-Err-Fault.fault c.in-Err-Fault.left g) }
