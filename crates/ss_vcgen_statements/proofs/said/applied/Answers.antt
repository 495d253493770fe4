use Rattle.std.proofs.Common.{ap}
use Rattle.ss_terms.specs.Forms.{terms_at, symbol_of}
use Rattle.ss_terms.proofs.Grown.{terms_at-grown}
use Rattle.ss_vcgen_statements.proofs.Steps.{bank_ok}
use Rattle.ss_logic.specs.Terms.{app}
use Rattle.ss_vcgen_express.proofs.Listing.{is_term}
use Rattle.ss_vcgen_statements.proofs.said.applied.Goals as goal

pub returns-clause-stays : goal.returns-clause-stays
returns-clause-stays c = bank_ok c.apply.result _ c.args.builder.now c.requires.fine c.apply.new.self c.apply.ensures.grown c.apply.ensures.at

pub returns-clause-at : goal.returns-clause-at
returns-clause-at c =
    let s = c.args.builder.now in
    is_term c.apply.result s.bank c.apply.new.self (λ b. app (symbol_of c.args.symbol) (terms_at b c.args.arguments.now)) c.apply.ensures.grown
    (λ b g. ap (app (symbol_of c.args.symbol)) (terms_at-grown s.bank b g c.args.arguments.now c.requires.arguments)) c.apply.ensures.at
