use Rattle.std.proofs.Common.{refl}
use Rattle.ss_vcgen_statements.proofs.Steps.{bank_ok}
use Rattle.ss_logic.specs.Terms.{Bound}
use Rattle.ss_vcgen_express.proofs.Listing.{is_term}
use Rattle.ss_vcgen_statements.proofs.levels.bound_name.Goals as goal

pub returns-clause-stays : goal.returns-clause-stays
returns-clause-stays c = bank_ok c.term.result _ c.args.builder.now c.requires c.term.new.self c.term.ensures.grown c.term.ensures.at

pub returns-clause-at : goal.returns-clause-at
returns-clause-at c = is_term c.term.result c.args.builder.now.bank c.term.new.self (λ b. Bound 0) c.term.ensures.grown (λ b g. refl) c.term.ensures.at
