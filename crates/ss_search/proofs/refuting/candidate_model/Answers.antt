use Rattle.ss_terms.proofs.Grown.{HasFormulas-grown, formulas_at-grown, IsBankOf-grown}
use Rattle.ss_search.proofs.refuting.candidate_model.Goals as goal

pub countermodel-requires : goal.countermodel-requires
countermodel-requires c = HasFormulas-grown c.args.bank.now c.find_candidate.new.bank c.find_candidate.ensures.grown c.args.formulas.now c.requires

pub returns-in-Some-clause-refutes : goal.returns-in-Some-clause-refutes
returns-in-Some-clause-refutes c = λ cs is.
    rw (formulas_at-grown c.args.bank.now c.find_candidate.new.bank c.find_candidate.ensures.grown c.args.formulas.now c.requires)
    at (c.countermodel.ensures cs (IsBankOf-grown cs c.args.bank.now c.find_candidate.new.bank c.find_candidate.ensures.grown is))
