use Rattle.ss_logic.specs.Express.{and_of}
use Rattle.ss_terms.specs.Forms.{formulas_at}
use Rattle.ss_vcgen_contracts.proofs.Naming.{name_is}
use Rattle.ss_vcgen_contracts.proofs.names.named_alone.Goals as goal

pub returns-clause-at : goal.returns-clause-at
returns-clause-at c =
    name_is c.args.bank.now c.all.new.bank c.args.kind c.in_ok-guard.guard c.args.object c.name_of.result (λ b. and_of (formulas_at b c.args.guards.now)) c.in_ok-guard.ensures.grown c.name_of.ensures c.in_ok-guard.ensures.at c.requires.object
