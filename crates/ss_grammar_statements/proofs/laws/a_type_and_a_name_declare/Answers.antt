use Rattle.ss_grammar_statements.proofs.Productions.{declares_there, declares_only}
use Rattle.ss_grammar_statements.proofs.laws.a_type_and_a_name_declare.Goals as goal

pub returns : goal.returns
returns c = record { there = declares_there; only = declares_only }
