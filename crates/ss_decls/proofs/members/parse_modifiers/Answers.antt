use Rattle.std.proofs.Common.{◌∙◌, List, [], length, sym, subst, arith}
use Rattle.ss_ast.specs.declared.class.Modifier.{Modifier}
use Rattle.ss_grammar.specs.Reading.{take}
use Rattle.ss_grammar_expressions.specs.Heads.{is, pieces}
use Rattle.ss_grammar_expressions.specs.Parser.{give}
use Rattle.ss_parser_expressions.proofs.Loops.{pieces_less}
use Rattle.ss_grammar_programs.specs.Again.{again}
use Rattle.ss_grammar_programs.specs.Heads.{member_word}
use Rattle.ss_grammar_programs.specs.Grammar.{join_word}
use Rattle.ss_grammar_programs.proofs.Rounds.{Rounds, rounds_on, rounds_end, another_seen, none_seen}
use Rattle.ss_decls.proofs.Readers.{words_is}
use Rattle.ss_decls.proofs.members.parse_modifiers.Goals as goal

pub loop-said-preserved : goal.loop-said-preserved
loop-said-preserved c =
    let rest = pieces c.loop-said.rest.now in
    let after = c.in-Some.after.now in
    let f = λ (_ : List Modifier). is member_word in
    let p = take member_word give in
    let t = rounds_on f p join_word c.loop-said.modifiers.items rest c.in-Some.said (pieces after) _ (another_seen member_word rest c.in-Some.said (pieces after) c.in-Some.ensures.sees) (pieces_less after c.loop-said.rest.now c.in-Some.ensures.fewer) c.loop-said.invariant.turns in
    record { turns = subst (λ (xs : List Modifier). Rounds f p join_word xs (pieces after) (again f p join_word (length (pieces c.args.tokens.now)) [] (pieces c.args.tokens.now))) (sym c.in_ok-add_modifier.ensures) t; fewer = omega (arith, c.loop-said.invariant.fewer, c.in-Some.ensures.fewer) }

pub returns-clause-gives : goal.returns-clause-gives
returns-clause-gives c =
    let rest = pieces c.loop-said.rest.now in
    words_is (pieces c.args.tokens.now) ∙ rounds_end (λ (_ : List Modifier). is member_word) (take member_word give) join_word c.loop-said.modifiers.items rest _ (none_seen member_word rest c.in_default.ensures.sees) c.loop-said.invariant.turns
