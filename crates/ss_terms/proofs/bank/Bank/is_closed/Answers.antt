use Rattle.std.proofs.Common.{arith}
use Rattle.std.proofs.lemmas.Bool.{leb-true}
use Rattle.ss_terms.proofs.Fronts.{named_upward}
use Rattle.ss_terms.proofs.bank.Bank.is_closed.Goals as goal

pub returns : goal.returns
returns c = λ t. record {
  terms_within = omega (arith, c.if-mark-end.false, c.mark-end.ensures.terms);
  formulas_within = omega (arith, c.if-mark-end-2.false, c.mark-end.ensures.formulas);
  named = named_upward c.terms_before.result c.args.mark.terms (leb-true _ _ t) c.args.mark.formulas c.args.self.now c.terms_before.ensures;
}
