use Rattle.std.proofs.Common.{◌*◌, length, take}
use Rattle.ss_vcgen_builder.proofs.Within.{AreBelow-take, AreBelow-drop}
use Rattle.ss_sound.proofs.decision.decide.Goals as goal

pub decide_lent-requires-clause-premises : goal.decide_lent-requires-clause-premises
decide_lent-requires-clause-premises c =
    let bound = length c.args.bank.now.formulas * 2 in
    rw c.obligation-obligation.ensures.premises
    (AreBelow-drop bound c.args.listed.now.first (take c.args.listed.now.end c.args.trail.now) (AreBelow-take bound c.args.listed.now.end c.args.trail.now c.requires.trail))

pub decide_lent-requires-clause-goal : goal.decide_lent-requires-clause-goal
decide_lent-requires-clause-goal c = rw c.obligation-obligation.ensures.goal c.requires.placed.goal

pub decide_lent-requires-clause-formed : goal.decide_lent-requires-clause-formed
decide_lent-requires-clause-formed c = rw (c.obligation-obligation.ensures.premises, c.obligation-obligation.ensures.goal) (c.requires.formed.goal, c.requires.formed.premises)

pub returns-clause-derived : goal.returns-clause-derived
returns-clause-derived c = rw (c.obligation-obligation.ensures.premises, c.obligation-obligation.ensures.goal) at c.decide_lent.ensures.derived

pub returns-clause-refuted : goal.returns-clause-refuted
returns-clause-refuted c = rw (c.obligation-obligation.ensures.premises, c.obligation-obligation.ensures.goal) at c.decide_lent.ensures.refuted

pub returns-clause-over : goal.returns-clause-over
returns-clause-over c = rw (c.obligation-obligation.ensures.premises, c.obligation-obligation.ensures.goal) at c.decide_lent.ensures.over
