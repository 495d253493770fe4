use Rattle.std.proofs.Common.{◌≡◌, Ok, Err, List, drop, subst, sym}
use Rattle.ss_ast.specs.declared.token.Token.{Token}
use Rattle.ss_ast.specs.Statements.{block_tree}
use Rattle.ss_grammar.specs.declared.fault.Stop.{Stop}
use Rattle.ss_grammar.specs.declared.fault.Stop.TheVariants as stop
use Rattle.ss_grammar.specs.Stops.{Fails}
use Rattle.ss_grammar_expressions.specs.Heads.{pieces}
use Rattle.ss_parser_expressions.specs.Answer.{PartAnswer}
use Rattle.ss_parser_expressions.proofs.Suffix.{found, stays, faulty}
use Rattle.ss_grammar_statements.specs.Grammar.{Block}
use Rattle.ss_grammar_statements.specs.Parser.{block}
use Rattle.ss_grammar_statements.proofs.Kept.{block as kept_block}
use Rattle.ss_grammar_statements.proofs.Tied.{block_finds}
use Rattle.ss_parser.proofs.blocks.parse_block.Goals as goal

pub returns-in-Ok : goal.returns-in-Ok
returns-in-Ok c =
    let g = subst (λ (y : List Token). block 64 (pieces y) ≡ Ok (block_tree c.in-Ok.block, pieces c.in-Ok.rest.now)) c.split_at.ensures.back c.in-Ok.ensures.gives in
    record { exact = found Block block_tree (block 64) c.args.tokens.now c.args.at c.requires.inside (block_finds 64 (pieces (drop c.args.at c.args.tokens.now))) c.in-Ok.block c.in-Ok.rest.now g; end_left = stays Block block_tree (block 64) c.args.tokens.now c.args.at c.requires.inside (block_finds 64 (pieces (drop c.args.at c.args.tokens.now))) c.in-Ok.block c.in-Ok.rest.now g kept_block }

pub returns-in-Err-Fault : goal.returns-in-Err-Fault
returns-in-Err-Fault c =
    let g = subst (λ (e : Stop). Fails e (block 64 (pieces c.split_at.result.1.now))) c.in-Err-Fault.field-0-is c.in-Err-Fault.ensures.gives in
    let h = subst (λ (y : List Token). Fails (stop.Fault c.in-Err-Fault.fault c.in-Err-Fault.left) (block 64 (pieces y))) c.split_at.ensures.back g in
    record { exact = subst (λ r. PartAnswer Block block_tree c.args.tokens.now c.args.at (Err r)) (sym c.refused.ensures) (faulty Block block_tree (block 64) c.args.tokens.now c.args.at c.requires.inside (block_finds 64 (pieces (drop c.args.at c.args.tokens.now))) c.in-Err-Fault.fault c.in-Err-Fault.left h); end_left = λ ends. tt }
