use Rattle.std.proofs.Common.{◌≡◌}
use Rattle.std.proofs.lemmas.Result.{IfOk-weaker}
use Rattle.ss_terms.specs.Forms.{HasFormulas, formula_at, formulas_at}
use Rattle.ss_vcgen_express.specs.Chains.{conjuncts}
use Rattle.ss_vcgen_express.proofs.Chaining.{and_within, and_parts}
use Rattle.ss_vcgen_express.proofs.chains.conjuncts.Goals as goal

pub returns-in-And-clause-in_bank : goal.returns-in-And-clause-in_bank
returns-in-And-clause-in_bank c =
    IfOk-weaker c.from_slice.result (λ v. v.items ≡ c.deref.result.now) (λ v. HasFormulas c.args.bank.now v.items)
    (λ v e. rw (e, c.deref.ensures.value) (and_within c.args.bank.now c.args.f c.formula_node.result.now c.in-And.parts c.formula_node.ensures c.requires c.in-And.is))
    c.from_slice.ensures.items

pub returns-in-And-clause-at : goal.returns-in-And-clause-at
returns-in-And-clause-at c =
    IfOk-weaker c.from_slice.result (λ v. v.items ≡ c.deref.result.now) (λ v. formulas_at c.args.bank.now v.items ≡ conjuncts (formula_at c.args.bank.now c.args.f))
    (λ v e. rw (e, c.deref.ensures.value) (and_parts c.args.bank.now c.args.f c.formula_node.result.now c.in-And.parts c.formula_node.ensures c.requires c.in-And.is))
    c.from_slice.ensures.items
