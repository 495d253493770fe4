use Rattle.std.proofs.Common.{refl, sym, ◌∙◌}
use Rattle.ss_core.specs.View as view
use Rattle.ss_check.proofs.delayed.pair_at.Goals as goal

pub returns : goal.returns
returns c =
    let formed = sym (c.is_well_formed.ensures (view.classes c.args.classes.now) c.requires.bank) ∙ c.if-is_well_formed.false in
    let form = sym c.if-not-is_and_at.ensures in
    (c.requires.first, c.in-Some.ensures.0, rw (formed, form, c.in-Some.ensures.1) refl)
