use Rattle.std.proofs.Common.{drop}
use Rattle.ss_linear_sums.specs.Parts.{no_part}
use Rattle.ss_linear_sums.proofs.Places.{HasParts-grown, parts_at-grown, rest_is, rest_has, first_and_rest}
use Rattle.ss_linear_sums.proofs.bounds.sum_term.Goals as goal

pub sum_onto-requires-clause-parts : goal.sum_onto-requires-clause-parts
sum_onto-requires-clause-parts c =
    rw (rest_is c.args.parts.now) (HasParts-grown c.args.bank.now c.multiple.new.bank c.multiple.ensures.grown (drop 1 c.args.parts.now) (rest_has c.args.bank.now c.args.parts.now c.requires))

pub returns-in_ok-first-in-len1-up-clause-at : goal.returns-in_ok-first-in-len1-up-clause-at
returns-in_ok-first-in-len1-up-clause-at c =
    let old = c.args.bank.now in
    let ps = c.args.parts.now in
    let later = parts_at-grown old c.multiple.new.bank c.multiple.ensures.grown (drop 1 ps) (rest_has old ps c.requires) in
    let given = rw (rest_is ps, later, c.in_ok-first-in-len1-up.ensures.at.1) at c.sum_onto.ensures.at in
    rw (first_and_rest old ps no_part c.in-len1-up.len_at_least) given
