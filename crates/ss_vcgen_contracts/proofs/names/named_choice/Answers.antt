use Rattle.std.proofs.Common.{[], ◌∷◌, ◌++◌}
use Rattle.ss_logic.specs.Express.{and_of}
use Rattle.ss_terms.specs.Forms.{formula_at, formulas_at}
use Rattle.ss_vcgen_contracts.proofs.Naming.{name_is}
use Rattle.ss_vcgen_contracts.proofs.names.named_choice.Goals as goal

pub returns-clause-at : goal.returns-clause-at
returns-clause-at c =
    name_is c.args.bank.now c.all_with.new.bank c.args.kind c.in_ok-guard.guard c.args.choice.value c.name_of.result (λ b. and_of (formulas_at b c.args.guards.now ++ formula_at b c.args.choice.condition ∷ [])) c.in_ok-guard.ensures.grown
    c.name_of.ensures c.in_ok-guard.ensures.at c.requires.choice.1
