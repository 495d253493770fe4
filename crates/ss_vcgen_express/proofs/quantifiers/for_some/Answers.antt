use Rattle.std.proofs.Common.{List, [], ◌∷◌, ◌++◌, map, ap, sym, ◌∙◌}
use Rattle.ss_logic.specs.Express.{and_of}
use Rattle.ss_logic.specs.declared.Sort.TheVariants as sort
use Rattle.ss_logic.specs.Formulas.{Formula, Exists, neg}
use Rattle.ss_terms.specs.Forms.{formula_at, formulas_at}
use Rattle.ss_terms.proofs.Grown.{IsGrown-then, formulas_at-grown}
use Rattle.ss_vcgen_express.specs.Contexts.{for_some}
use Rattle.ss_vcgen_express.proofs.Grown.{formula_so}
use Rattle.ss_vcgen_express.proofs.quantifiers.for_some.Goals as goal

pub returns-clause-at : goal.returns-clause-at
returns-clause-at c =
    let a = c.args.bank.now in
    formula_so c.some.result c.some.new.bank (λ b. Exists (sort.Whole ∷ []) (formula_at b c.in_ok-body.body)) (λ b. for_some (formulas_at b c.args.out.now) (formula_at b c.args.f))
    (λ b k.
    let kb = IsGrown-then c.all_with.new.bank c.some.new.bank b c.some.ensures.grown k in
    let k0 = IsGrown-then a c.all_with.new.bank b c.in_ok-body.ensures.grown kb in
    ap (λ (g : Formula). Exists (sort.Whole ∷ []) g)
    (c.in_ok-body.ensures.at.is b kb
    ∙ ap (λ (fs : List Formula). and_of (fs ++ formula_at b c.args.f ∷ []))
    (ap (formulas_at b) c.deref.ensures.value
    ∙ formulas_at-grown a b k0 c.in_ok-others.others.items c.in_ok-others.ensures.in_bank
    ∙ c.in_ok-others.ensures.at
    ∙ ap (map neg) (sym (formulas_at-grown a b k0 c.args.out.now c.requires.range)))))
    c.some.ensures.at
