use Rattle.ss_logic.specs.Express.{and_of}
use Rattle.ss_terms.specs.Forms.{term_at, formulas_at}
use Rattle.ss_vcgen_contracts.specs.Names.{named_by}
use Rattle.ss_vcgen_contracts.proofs.Listing.{names_push}
use Rattle.ss_vcgen_contracts.proofs.names.add_alone.Goals as goal

pub returns-clause-at : goal.returns-clause-at
returns-clause-at c =
    names_push c.args.bank.now c.named_alone.new.bank c.args.names.now.items c.push.new.self.items c.in_ok-name.name (λ b. named_by c.args.kind (and_of (formulas_at b c.args.guards.now)) (term_at b c.args.object)) c.in_ok-name.ensures.grown
    c.requires.names c.in_ok-push.ensures.items c.in_ok-name.ensures.at
