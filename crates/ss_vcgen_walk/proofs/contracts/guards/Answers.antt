use Rattle.std.proofs.Common.{ap, ◌∙◌}
use Rattle.std.proofs.lemmas.List.{map_push}
use Rattle.ss_logic.specs.Express as spec
use Rattle.ss_terms.specs.Forms.{Forms, formula_at, formulas_at}
use Rattle.ss_terms.proofs.Grown.{IsGrown-refl, HasFormulas-grown}
use Rattle.ss_vcgen_express.specs.Numbers.{meant_at}
use Rattle.ss_terms.proofs.Longer.{HasFormulas-push}
use Rattle.ss_vcgen_walk.proofs.Holding.{formulas_in, HasFormulas-parts, with_last}
use Rattle.ss_vcgen_walk.proofs.contracts.guards.Goals as goal

pub returns-clause-at : goal.returns-clause-at
returns-clause-at c =
    let a = c.args in
    let d = c.over.new.bank in
    let ps = a.parts.now in
    let list = c.in_ok-list.list.items in
    let f = c.in_ok-f.f in
    record {
      has = rw (c.in_ok-push.ensures.items, c.in_ok-list.ensures) (HasFormulas-push d (formulas_in ps) f (HasFormulas-grown a.bank.now d c.over.ensures.grown (formulas_in ps) (HasFormulas-parts a.bank.now ps c.requires.parts)) c.in_ok-f.ensures.at.has);
      are = λ b k. ap (formulas_at b) c.in_ok-push.ensures.items ∙ map_push (formula_at b) list f ∙ with_last d d ps list f (λ (b : Forms). spec.not_null (meant_at b a.m.now)) (IsGrown-refl d) c.in_ok-list.ensures c.in_ok-f.ensures.at b k;
    }
