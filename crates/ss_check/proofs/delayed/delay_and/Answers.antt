use Rattle.std.proofs.Common.{sym, ap, [], ◌∷◌, ◌∙◌}
use Rattle.ss_core.specs.View as view
use Rattle.ss_logic.specs.Formulas.{put}
use Rattle.ss_terms.specs.Forms.{term_at, formula_at}
use Rattle.ss_terms.proofs.Grown.{IsBankOf-grown}
use Rattle.ss_check.specs.Delayed.{is_and, meant}
use Rattle.ss_check.proofs.Meant.{delayed_means}
use Rattle.ss_check.proofs.delayed.delay_and.Goals as goal

pub returns-clause-at : goal.returns-clause-at
returns-clause-at c =
    let cs = view.classes c.args.classes.now in
    let same = c.atom.ensures.grown.same_formulas c.args.p c.requires.formula in
    let of = IsBankOf-grown cs c.args.bank.now c.atom.new.self c.atom.ensures.grown c.requires.bank in
    let means = delayed_means cs (formula_at c.atom.new.self c.args.p) (formula_at c.atom.new.self c.in_ok-name.name) (term_at c.args.bank.now c.args.t) (ap is_and same ∙ c.requires.form) c.in_ok-name.ensures.at.1
    (sym (c.is_well_formed.ensures cs of) ∙ c.if-is_well_formed.false) in
    (c.in_ok-g.ensures.at.0, ap (meant cs) c.in_ok-g.ensures.at.1 ∙ means ∙ ap (put (term_at c.args.bank.now c.args.t ∷ [])) same)
