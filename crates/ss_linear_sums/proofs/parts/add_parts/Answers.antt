use Rattle.std.proofs.Common.{◌≤◌, length, sym, ◌∙◌, ap, to_z-of_z}
use Rattle.std.proofs.lemmas.List.{drop_all, length-map}
use Rattle.ss_logic.specs.Sums as sums
use Rattle.ss_linear_sums.specs.Linear.{parts_at}
use Rattle.ss_linear_sums.proofs.Places.{HasParts-get, parts_stop, parts_go_on}
use Rattle.ss_linear_sums.proofs.parts.add_parts.Goals as goal

pub add_part-requires-clause-term : goal.add_part-requires-clause-term
add_part-requires-clause-term c = HasParts-get c.args.bank.now c.args.others.now c.loop-part.part-index _ c.loop-part-test.true c.requires.others

pub returns-in-Ok-false-clause-added : goal.returns-in-Ok-false-clause-added
returns-in-Ok-false-clause-added c =
    sym (rw (to_z-of_z c.ranges.n) at c.loop-part.invariant.goes_on)
    ∙ parts_stop c.args.bank.now c.args.n c.args.others.now c.loop-part.part-index _ c.loop-part-test.true (parts_at c.args.bank.now c.loop-part.parts.items) (rw (to_z-of_z c.ranges.n, c.in-Ok-false.field-0-test) at c.in-Ok-false.ensures.added)

pub loop-part-preserved : goal.loop-part-preserved
loop-part-preserved c = rw (to_z-of_z c.ranges.n) (record {
  has = c.in-Ok-true.ensures.has;
  goes_on = sym (parts_go_on c.args.bank.now c.args.n c.args.others.now c.loop-part.part-index _ c.loop-part-test.true (parts_at c.args.bank.now c.loop-part.parts.items) (parts_at c.args.bank.now c.add_part.new.parts.items) (rw (to_z-of_z c.ranges.n, c.in-Ok-true.field-0-test) at c.in-Ok-true.ensures.added)) ∙ (rw (to_z-of_z c.ranges.n) at c.loop-part.invariant.goes_on);
})

pub returns-clause-added : goal.returns-clause-added
returns-clause-added c =
    let at_last : length (parts_at c.args.bank.now c.args.others.now) ≤ c.loop-part.part-index = rw length-map c.loop-part-test.false in
    let last = drop_all c.loop-part.part-index (parts_at c.args.bank.now c.args.others.now) at_last in
    sym (rw (to_z-of_z c.ranges.n) at c.loop-part.invariant.goes_on) ∙ ap (λ qs. sums.add_parts c.args.n qs (parts_at c.args.bank.now c.loop-part.parts.items)) last
