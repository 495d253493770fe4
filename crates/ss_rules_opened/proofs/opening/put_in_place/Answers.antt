use Rattle.std.proofs.Common.{◌++◌, map, ap, ◌∙◌}
use Rattle.ss_logic.specs.Opened.{replaced}
use Rattle.ss_terms.specs.Forms.{terms_at, formula_at, formulas_at}
use Rattle.ss_terms.proofs.Grown.{HasTerms-grown, terms_at-grown}
use Rattle.ss_rules_opened.proofs.Fresh.{has_joined, are_joined}
use Rattle.ss_rules_opened.proofs.opening.put_in_place.Goals as goal

pub returns-clause-is : goal.returns-clause-is
returns-clause-is c =
    let a = c.args.bank.now in
    let b = c.all_replaced.new.bank in
    let g = c.all_replaced.ensures.grown in
    let first = c.args.opened.now.constants.items in
    let second = c.args.state.now.used.items in
    let e = c.in_ok-state-2.ensures ∙ ap (λ xs. xs ++ c.deref-3.result.now) c.deref-2.ensures.value ∙ ap (λ ys. first ++ ys) c.deref-3.ensures.value in
    record {
      has_used = has_joined b c.in_ok-state-2.field-0.items first second e (HasTerms-grown a b g first c.requires.constants) (HasTerms-grown a b g second c.requires.state.has_used);
      used =
          are_joined b c.in_ok-state-2.field-0.items first second e
          ∙ ap (λ ts. ts ++ terms_at b second) (terms_at-grown a b g first c.requires.constants)
          ∙ ap (λ ts. terms_at a first ++ ts) (terms_at-grown a b g second c.requires.state.has_used);
      has_list = c.in_ok-state.ensures.has;
      list = c.in_ok-state.ensures.at ∙ ap (λ fs. map (replaced (formula_at a c.args.f) (formula_at a c.args.opened.now.body)) (formulas_at a fs)) c.deref.ensures.value;
    }
