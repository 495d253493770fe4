use Rattle.std.proofs.Common.{arith}
use Rattle.ss_terms.specs.Forms.{formula_at}
use Rattle.ss_search_path.proofs.StandingFacts.{read_there}
use Rattle.ss_search_path.proofs.Reading.{no_among}
use Rattle.ss_search_path.proofs.opening.part_among.Goals as goal

pub returns-then-part-parts : goal.returns-then-part-parts
returns-then-part-parts c = λ g e. read_there (formula_at c.args.bank.now) c.args.parts.now c.args.part (record { 0 = 0 }) g e

pub returns : goal.returns
returns c = λ g e. no_among c.args.bank.now c.args.parts.now c.args.part g (omega (arith, c.if-part-parts.false)) e
