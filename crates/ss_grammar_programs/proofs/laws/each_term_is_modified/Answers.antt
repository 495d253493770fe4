use Rattle.ss_grammar_programs.proofs.Terms.{term_is_modified}
use Rattle.ss_grammar_programs.proofs.laws.each_term_is_modified.Goals as goal

pub returns : goal.returns
returns c = term_is_modified
