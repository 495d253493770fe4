use Rattle.std.proofs.Common.{true, false, sym, ap, ◌∙◌}
use Rattle.ss_store_rules.specs.NonNull.{known_right}
use Rattle.ss_vcgen_known.specs.Views.{tested}
use Rattle.ss_vcgen_known.proofs.Fronting.{told_side}
use Rattle.ss_vcgen_known.proofs.fronts.FrontTold.on_right.Goals as goal

pub returns-in-And : goal.returns-in-And
returns-in-And c = λ e k h.
    told_side c.args.tests c.deref.result k e true (c.deref.ensures.value ∙ h.holds)
    ∙ sym (ap (λ o. known_right o e (tested c.args.tests.now k)) c.in-And.is)

pub returns-in-Or : goal.returns-in-Or
returns-in-Or c = λ e k h.
    told_side c.args.tests c.deref-in-Or.result k e false (c.deref-in-Or.ensures.value ∙ h.fails)
    ∙ sym (ap (λ o. known_right o e (tested c.args.tests.now k)) c.in-Or.is)
