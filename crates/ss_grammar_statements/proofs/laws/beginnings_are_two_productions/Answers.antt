use Rattle.ss_grammar_statements.proofs.Productions.{is_either, is_declaration, is_simple}
use Rattle.ss_grammar_statements.proofs.laws.beginnings_are_two_productions.Goals as goal

pub returns : goal.returns
returns c = record { either = is_either; declaration = is_declaration; simple = is_simple }
