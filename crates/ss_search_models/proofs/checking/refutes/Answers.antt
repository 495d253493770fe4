use Rattle.std.proofs.Common.{◌≡◌, true, arith, rules}
use Rattle.std.proofs.lemmas.Grind.{common_steps}
use Rattle.std.proofs.lemmas.Result.{IfOk-weaker}
use Rattle.ss_linear_rules.specs.Two.{Two}
use Rattle.ss_logic_countermodels.specs.Refuting.{Refutes}
use Rattle.ss_terms.specs.Forms.{formulas_at}
use Rattle.ss_rules_occurring.specs.Found.{terms_of, formulas_of}
use Rattle.ss_search_models.specs.Candidates.{model_at}
use Rattle.ss_search_models.specs.Facts.{facts_in}
use Rattle.ss_search_models.proofs.Models.{refuting}
use Rattle.ss_search_models.proofs.checking.refutes.Goals as goal

pub returns : goal.returns
returns c =
    let b = c.args.bank.now in
    let m = model_at b c.args.candidate.now in
    let fs = formulas_at b c.args.formulas.now in
    let agreed : c.in_ok-agrees.field-0 ≡ true = first_of (search rules, grind (arith, common_steps)) in
    λ cs of.
    IfOk-weaker c.numbers_agree.result (λ r. r ≡ true → Two cs (facts_in cs m (formulas_of b c.args.candidate.now.told.now) (terms_of b c.args.candidate.now.terms.now)) → ⊥) (λ r. r ≡ true → Refutes cs m fs)
    (λ r free e. refuting b c.args.candidate.now fs c.requires.candidate cs (c.in_ok-agrees.ensures agreed) (free e)) (c.numbers_agree.ensures cs of)
