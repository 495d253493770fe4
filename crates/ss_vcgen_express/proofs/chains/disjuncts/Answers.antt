use Rattle.std.proofs.Common.{◌≡◌}
use Rattle.std.proofs.lemmas.Result.{IfOk-weaker}
use Rattle.ss_terms.specs.Forms.{HasFormulas, formula_at, formulas_at}
use Rattle.ss_vcgen_express.specs.Chains.{disjuncts}
use Rattle.ss_vcgen_express.proofs.Chaining.{or_within, or_parts}
use Rattle.ss_vcgen_express.proofs.chains.disjuncts.Goals as goal

pub returns-in-Or-clause-in_bank : goal.returns-in-Or-clause-in_bank
returns-in-Or-clause-in_bank c =
    IfOk-weaker c.from_slice.result (λ v. v.items ≡ c.deref.result.now) (λ v. HasFormulas c.args.bank.now v.items)
    (λ v e. rw (e, c.deref.ensures.value) (or_within c.args.bank.now c.args.f c.formula_node.result.now c.in-Or.parts c.formula_node.ensures c.requires c.in-Or.is))
    c.from_slice.ensures.items

pub returns-in-Or-clause-at : goal.returns-in-Or-clause-at
returns-in-Or-clause-at c =
    IfOk-weaker c.from_slice.result (λ v. v.items ≡ c.deref.result.now) (λ v. formulas_at c.args.bank.now v.items ≡ disjuncts (formula_at c.args.bank.now c.args.f))
    (λ v e. rw (e, c.deref.ensures.value) (or_parts c.args.bank.now c.args.f c.formula_node.result.now c.in-Or.parts c.formula_node.ensures c.requires c.in-Or.is))
    c.from_slice.ensures.items
