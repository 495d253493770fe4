use Rattle.std.proofs.Common.{◌*◌, length, take}
use Rattle.ss_vcgen_builder.proofs.Within.{AreBelow-take, AreBelow-drop}
use Rattle.ss_main_messages.proofs.texts.text_of.Goals as goal

pub ground-requires-clause-premises : goal.ground-requires-clause-premises
ground-requires-clause-premises c =
    let o = c.args.listed.now in
    let n = length c.args.bank.now.formulas * 2 in
    rw c.obligation-obligation.ensures.premises (AreBelow-drop n o.first (take o.end c.args.trail.now) (AreBelow-take n o.end c.args.trail.now c.requires.trail))

pub ground-requires-clause-goal : goal.ground-requires-clause-goal
ground-requires-clause-goal c = rw c.obligation-obligation.ensures.goal c.requires.placed.goal

pub values_of-requires-clause-formulas : goal.values_of-requires-clause-formulas
values_of-requires-clause-formulas c = rw c.deref-in-Ok.ensures.value c.in-Ok.ensures.in_bank
