use Rattle.std.proofs.Common.{map, ap, ◌∙◌}
use Rattle.ss_core.specs.Chain.{all_fields}
use Rattle.ss_core.specs.View.{classes}
use Rattle.ss_logic.specs.Express as spec
use Rattle.ss_terms.specs.Forms.{term_at, formulas_at}
use Rattle.ss_terms.proofs.Grown.{IsGrown-then}
use Rattle.ss_vcgen_defaults.specs.Defaults.{slot_of, at_default}
use Rattle.ss_vcgen_express.specs.Contexts.{context_at}
use Rattle.ss_vcgen_express.proofs.Grown.{formula_so}
use Rattle.ss_vcgen_defaults.proofs.Upwards.{defaults_of_slots}
use Rattle.ss_vcgen_defaults.proofs.defaults.has_defaults.Goals as goal

pub returns-clause-at : goal.returns-clause-at
returns-clause-at c =
    let e = c.args.context.now in
    let fields = all_fields (classes e.classes.now) in
    formula_so c.all.result c.all.new.bank (λ b. spec.and_of (formulas_at b c.deref-2.result.now)) (λ b. spec.and_of (spec.defaults_from (context_at b e) c.args.class.0 (term_at b c.args.x) 0 fields))
    (λ b k.
    ap (λ fs. spec.and_of fs)
    (ap (formulas_at b) c.deref-2.ensures.value
    ∙ c.in_ok-made.ensures.at.are b (IsGrown-then c.are_default.new.bank c.all.new.bank b c.all.ensures.grown k)
    ∙ ap (map (at_default (term_at b e.now) (term_at b c.args.x))) (ap (map slot_of) c.deref.ensures.value ∙ c.in_ok-list.ensures)
    ∙ defaults_of_slots (context_at b e) c.args.class.0 (term_at b c.args.x) 0 fields))
    c.all.ensures.at
