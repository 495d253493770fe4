use Rattle.std.proofs.Common.{map, ap, ◌∙◌}
use Rattle.ss_core.specs.View.{classes}
use Rattle.ss_logic.specs.Express.{and_of}
use Rattle.ss_terms.specs.Forms.{term_at, formulas_at}
use Rattle.ss_terms.proofs.Grown.{IsGrown-then}
use Rattle.ss_vcgen_defaults.specs.Defaults.{number_of, full_if_owned, owned_is_full}
use Rattle.ss_vcgen_express.proofs.Grown.{formula_so}
use Rattle.ss_vcgen_defaults.proofs.defaults.owned_is_full.Goals as goal

pub returns-clause-at : goal.returns-clause-at
returns-clause-at c =
    let e = c.args.context.now in
    formula_so c.all.result c.all.new.bank (λ b. and_of (formulas_at b c.deref-2.result.now)) (λ b. owned_is_full (classes e.classes.now) c.args.class.0 (term_at b e.now) (term_at b c.args.v) (term_at b c.args.x))
    (λ b k.
    ap (λ fs. and_of fs)
    (ap (formulas_at b) c.deref-2.ensures.value
    ∙ c.in_ok-made.ensures.at.are b (IsGrown-then c.are_full_if_owned.new.bank c.all.new.bank b c.all.ensures.grown k)
    ∙ ap (map (full_if_owned (term_at b e.now) (term_at b c.args.v) (term_at b c.args.x))) (ap (map number_of) c.deref.ensures.value ∙ c.in_ok-list.ensures)))
    c.all.ensures.at
