use Rattle.std.proofs.Common.{◌≤◌, [], length, Some, sym, ◌∙◌, ap, subst, to_z-of_z}
use Rattle.std.proofs.lemmas.List.{drop_all, length-map, append-nil}
use Rattle.ss_logic.specs.Sums as sums
use Rattle.ss_linear_sums.specs.Linear.{parts_at, HasParts}
use Rattle.ss_linear_sums.proofs.Places.{HasParts-get, HasParts-append}
use Rattle.ss_linear_sums.proofs.Quotients.{divided_has, divided_stop, divided_none, divided_some, joined_parts}
use Rattle.ss_linear_sums.proofs.bounds.divided.Goals as goal

pub returns-in-Ok-false : goal.returns-in-Ok-false
returns-in-Ok-false c =
    (rw (to_z-of_z c.ranges.d) at c.loop-part.invariant).none (divided_stop c.args.bank.now c.args.d c.args.parts.now c.loop-part.part-index _ c.loop-part-test.true (rw (to_z-of_z c.ranges.d, c.in-Ok-false.field-0-test) at c.in-Ok-false.ensures))

pub loop-part-preserved : goal.loop-part-preserved
loop-part-preserved c =
    let w = rw (to_z-of_z c.ranges.d, c.in-Ok-true.field-0-test) at c.in-Ok-true.ensures in
    let inv = rw (to_z-of_z c.ranges.d) at c.loop-part.invariant in
    rw (to_z-of_z c.ranges.d) (record {
      has = subst (HasParts c.args.bank.now) (sym w.2)
          (HasParts-append c.args.bank.now c.loop-part.made.items w.0 inv.has (divided_has c.args.bank.now c.args.d _ w.0 w.1 (HasParts-get c.args.bank.now c.args.parts.now c.loop-part.part-index _ c.loop-part-test.true c.requires.parts)));
      some = λ rest h. inv.some _ (divided_some c.args.bank.now c.args.d c.args.parts.now c.loop-part.part-index _ c.loop-part-test.true w.0 rest w.1 h)
          ∙ ap Some (joined_parts c.args.bank.now c.loop-part.made.items w.0 c.push_divided.new.made.items rest w.2);
      none = λ h. inv.none (divided_none c.args.bank.now c.args.d c.args.parts.now c.loop-part.part-index _ c.loop-part-test.true w.0 w.1 h);
    })

pub returns : goal.returns
returns c =
    let at_last : length (parts_at c.args.bank.now c.args.parts.now) ≤ c.loop-part.part-index = rw length-map c.loop-part-test.false in
    let last = drop_all c.loop-part.part-index (parts_at c.args.bank.now c.args.parts.now) at_last in
    (c.loop-part.invariant.has, (rw (to_z-of_z c.ranges.d) at c.loop-part.invariant).some [] (ap (sums.divided c.args.d) last) ∙ ap Some (append-nil (parts_at c.args.bank.now c.loop-part.made.items)))
