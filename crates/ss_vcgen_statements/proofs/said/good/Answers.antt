use Rattle.std.proofs.Common.{ap}
use Rattle.ss_terms.specs.Forms.{term_at}
use Rattle.ss_vcgen_statements.proofs.Steps.{bank_ok}
use Rattle.ss_vcgen_heaps.specs.Positions.{good}
use Rattle.ss_vcgen_express.proofs.Grown.{is_formula}
use Rattle.ss_vcgen_statements.proofs.said.good.Goals as goal

pub returns-clause-stays : goal.returns-clause-stays
returns-clause-stays c = bank_ok c.atom.result _ c.args.builder.now c.requires.fine c.atom.new.self c.atom.ensures.grown c.atom.ensures.at

pub returns-clause-at : goal.returns-clause-at
returns-clause-at c =
    let s = c.args.builder.now in
    is_formula c.atom.result s.bank c.atom.new.self (λ b. good (term_at b c.args.store)) c.atom.ensures.grown (λ b g. ap good (g.same_terms c.args.store c.requires.store)) c.atom.ensures.at
