use Rattle.ss_grammar_programs.proofs.Terms.{is_term}
use Rattle.ss_grammar_programs.proofs.laws.a_modified_term_is_one_of_three.Goals as goal

pub returns : goal.returns
returns c = is_term
