use Rattle.ss_linear_sums.proofs.facts.compared_all.Goals as goal

pub returns-in_default-clause-fact : goal.returns-in_default-clause-fact
returns-in_default-clause-fact c = λ cs of. c.not_compared.ensures.fact cs
