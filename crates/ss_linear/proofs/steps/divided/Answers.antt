use Rattle.std.proofs.Common.{pos, ◌≤◌, [], length, Some, sym, ◌∙◌, ap, subst, to_z-of_z}
use Rattle.std.proofs.lemmas.List.{drop_all, length-map, append-nil}
use Rattle.ss_logic.specs.Sums as sums
use Rattle.ss_linear_sums.specs.Linear.{parts_at, HasParts}
use Rattle.ss_linear_sums.proofs.Places.{HasParts-get, HasParts-append}
use Rattle.ss_linear_sums.proofs.Quotients.{divided_has, divided_some, joined_parts}
use Rattle.ss_linear.proofs.steps.divided.Goals as goal

pub push_next-requires-clause-part : goal.push_next-requires-clause-part
push_next-requires-clause-part c = HasParts-get c.args.bank.now c.args.parts.now c.loop-part.part-index (record { term = record { 0 = 0 }; coefficient = pos 0 }) c.loop-part-test.true c.requires.parts

pub loop-part-preserved : goal.loop-part-preserved
loop-part-preserved c =
    let w = rw (to_z-of_z c.ranges.d) at (c.in-Ok-true.ensures.divided c.in-Ok-true.field-0-test) in
    let inv = rw (to_z-of_z c.ranges.d) at c.loop-part.invariant in
    rw (to_z-of_z c.ranges.d) (record {
      kept = c.in-Ok-true.ensures.kept;
      has = subst (HasParts c.args.bank.now) (sym w.2)
          (HasParts-append c.args.bank.now c.loop-part.made.items w.0 inv.has (divided_has c.args.bank.now c.args.d _ w.0 w.1 (HasParts-get c.args.bank.now c.args.parts.now c.loop-part.part-index _ c.loop-part-test.true c.requires.parts)));
      next = c.in-Ok-true.ensures.next c.in-Ok-true.field-0-test inv.next;
      some = λ rest h. inv.some _ (divided_some c.args.bank.now c.args.d c.args.parts.now c.loop-part.part-index _ c.loop-part-test.true w.0 rest w.1 h)
          ∙ ap Some (joined_parts c.args.bank.now c.loop-part.made.items w.0 c.push_next.new.made.items rest w.2);
    })

pub returns-clause-divided : goal.returns-clause-divided
returns-clause-divided c =
    let at_last : length (parts_at c.args.bank.now c.args.parts.now) ≤ c.loop-part.part-index = rw length-map c.loop-part-test.false in
    let last = drop_all c.loop-part.part-index (parts_at c.args.bank.now c.args.parts.now) at_last in
    (rw (to_z-of_z c.ranges.d) at c.loop-part.invariant).some [] (ap (sums.divided c.args.d) last) ∙ ap Some (append-nil (parts_at c.args.bank.now c.loop-part.made.items))
