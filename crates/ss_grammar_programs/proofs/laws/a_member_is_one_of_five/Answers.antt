use Rattle.ss_grammar_programs.proofs.Written.{is_plain}
use Rattle.ss_grammar_programs.proofs.laws.a_member_is_one_of_five.Goals as goal

pub returns : goal.returns
returns c = is_plain
