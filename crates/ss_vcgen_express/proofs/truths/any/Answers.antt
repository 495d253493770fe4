use Rattle.std.proofs.Common.{ap}
use Rattle.ss_logic.specs.Express.{or_of}
use Rattle.ss_terms.specs.Forms.{formulas_at}
use Rattle.ss_terms.proofs.Grown.{formulas_at-grown}
use Rattle.ss_vcgen_express.proofs.Grown.{is_formula}
use Rattle.ss_vcgen_express.proofs.truths.any.Goals as goal

pub returns-clause-at : goal.returns-clause-at
returns-clause-at c =
    is_formula c.or.result c.args.bank.now c.or.new.self (λ b. or_of (formulas_at b c.args.fs.now)) c.or.ensures.grown
    (λ b g. ap (λ fs. or_of fs) (formulas_at-grown c.args.bank.now b g c.args.fs.now c.requires)) c.or.ensures.at
