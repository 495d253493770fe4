use Rattle.ss_grammar_programs.proofs.Plain.{plainly_is_member}
use Rattle.ss_grammar_programs.proofs.laws.each_of_five_is_a_member.Goals as goal

pub returns : goal.returns
returns c = plainly_is_member
