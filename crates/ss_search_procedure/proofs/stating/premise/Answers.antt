use Rattle.std.proofs.Common.{arith}
use Rattle.std.proofs.lemmas.Option.{get_or_from_slice_get, slice_get_within}
use Rattle.ss_search_procedure.proofs.stating.premise.Goals as goal

pub returns-then-number-premises : goal.returns-then-number-premises
returns-then-number-premises c = λ f e. get_or_from_slice_get c.args.premises.now c.args.number f (record { 0 = 0 }) e

pub returns : goal.returns
returns c = λ f e. let within = slice_get_within c.args.premises.now c.args.number f e in let no : ⊥ = omega (arith, within, c.if-number-premises.false) in absurd no
