use Rattle.std.proofs.Common.{length, sym, subst}
use Rattle.ss_terms.specs.Forms.{HasTerm}
use Rattle.ss_rules_basic.specs.Plans.{HasPlan}
use Rattle.ss_rules_basic.proofs.Planned.{slot_has}
use Rattle.ss_rules_basic.proofs.plans.Plan.make.Goals as goal

pub apply-requires-in-One : goal.apply-requires-in-One
apply-requires-in-One c =
    let b = c.args.b.now in
    let h = subst (HasPlan b (length c.args.made.now)) c.in-One.is c.requires.plan in
    (subst (HasTerm b) (sym c.resolve-x.ensures) (slot_has b c.args.made.now c.requires.made c.in-One.x h), tt)

pub apply-requires-in-Two : goal.apply-requires-in-Two
apply-requires-in-Two c =
    let b = c.args.b.now in
    let h = subst (HasPlan b (length c.args.made.now)) c.in-Two.is c.requires.plan in (
      subst (HasTerm b) (sym c.resolve-x-in-Two.ensures) (slot_has b c.args.made.now c.requires.made c.in-Two.x h.0),
      (subst (HasTerm b) (sym c.resolve-y.ensures) (slot_has b c.args.made.now c.requires.made c.in-Two.y h.1), tt),
    )

pub apply-requires-in-Three : goal.apply-requires-in-Three
apply-requires-in-Three c =
    let b = c.args.b.now in
    let h = subst (HasPlan b (length c.args.made.now)) c.in-Three.is c.requires.plan in (
      subst (HasTerm b) (sym c.resolve-x-in-Three.ensures) (slot_has b c.args.made.now c.requires.made c.in-Three.x h.0),
      (
        subst (HasTerm b) (sym c.resolve-y-in-Three.ensures) (slot_has b c.args.made.now c.requires.made c.in-Three.y h.1),
        (subst (HasTerm b) (sym c.resolve-z.ensures) (slot_has b c.args.made.now c.requires.made c.in-Three.z h.2), tt),
      ),
    )
