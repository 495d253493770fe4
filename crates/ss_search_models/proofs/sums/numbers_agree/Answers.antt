use Rattle.std.proofs.Common.{◌≡◌, List, ◌++◌, map, true, refl, sym, ◌∙◌, ap, subst}
use Rattle.std.specs.Prelude.{filter}
use Rattle.std.proofs.lemmas.Result.{IfOk-weaker}
use Rattle.ss_linear_rules.specs.Two.{Two}
use Rattle.ss_logic_countermodels.specs.Refuting.{as_told, is_whole, equalities}
use Rattle.ss_terms.specs.declared.forms.FormulaId.{FormulaId}
use Rattle.ss_terms.specs.Forms.{formulas_at, HasFormulas}
use Rattle.ss_rules_occurring.specs.Found.{terms_of, formulas_of}
use Rattle.ss_search_models.specs.Candidates.{model_at}
use Rattle.ss_search_models.proofs.Facts.{two_of}
use Rattle.ss_search_models.proofs.sums.numbers_agree.Goals as goal

pub are_so-requires-clause-known : goal.are_so-requires-clause-known
are_so-requires-clause-known c = subst (λ (fs : List FormulaId). HasFormulas c.args.bank.now fs) (sym c.as_slice-known.ensures.value) c.in_ok-facts.ensures.in_bank

pub are_unrefuted-requires-clause-known : goal.are_unrefuted-requires-clause-known
are_unrefuted-requires-clause-known c = subst (λ (fs : List FormulaId). HasFormulas c.args.bank.now fs) (sym c.as_slice-known.ensures.value) c.in_ok-facts.ensures.in_bank

pub returns-then-so : goal.returns-then-so
returns-then-so c = λ cs of yes two.
    let b = c.args.bank.now in
    let m = model_at b c.args.candidate.now in
    let es = equalities m (filter (is_whole cs) (terms_of b c.args.candidate.now.terms.now)) in
    c.in_ok-so.ensures cs of c.if-so.true
    (two_of cs (formulas_at b c.as_slice-known.result.now) (map (as_told m) (formulas_of b c.args.candidate.now.told.now)) es es (ap (formulas_at b) c.as_slice-known.ensures.value ∙ c.in_ok-facts.ensures.told) refl two)

pub returns : goal.returns
returns c = λ cs of.
    let b = c.args.bank.now in
    let m = model_at b c.args.candidate.now in
    let known = formulas_at b c.as_slice-known.result.now in
    let told = map (as_told m) (formulas_of b c.args.candidate.now.told.now) in
    let es = equalities m (filter (is_whole cs) (terms_of b c.args.candidate.now.terms.now)) in
    IfOk-weaker c.are_unrefuted.result (λ r. r ≡ true → Two cs (known ++ es) → ⊥) (λ r. r ≡ true → Two cs (told ++ es) → ⊥)
    (λ r h yes two. h yes (two_of cs known told es es (ap (formulas_at b) c.as_slice-known.ensures.value ∙ c.in_ok-facts.ensures.told) refl two)) (c.are_unrefuted.ensures cs of)
