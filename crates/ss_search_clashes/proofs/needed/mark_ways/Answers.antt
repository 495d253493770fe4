use Rattle.std.proofs.Common.{◌∙◌, get_or, arith}
use Rattle.std.proofs.lemmas.Option.{slice_get-get_or}
use Rattle.ss_terms.specs.Bank.{number}
use Rattle.ss_search_clashes.proofs.Marks.{marks_none, ways_next, ways_all}
use Rattle.ss_search_clashes.proofs.needed.mark_ways.Goals as goal

pub loop-i-init : goal.loop-i-init
loop-i-init c = marks_none c.args.marks.now

pub bounds-ys-i : goal.bounds-ys-i
bounds-ys-i c = omega (arith, c.requires.paired.long)

pub mark_way-requires-clause-long : goal.mark_way-requires-clause-long
mark_way-requires-clause-long c = c.loop-i.auto.marks ∙ c.requires.long

pub mark_way-requires-clause-same : goal.mark_way-requires-clause-same
mark_way-requires-clause-same c =
    let i = c.loop-i.i in
    let left = slice_get-get_or c.args.xs.now i (number 0) (omega arith) in
    let right = slice_get-get_or c.args.ys.now i (number 0) (omega (arith, c.requires.paired.long)) in
    c.requires.paired.same i (get_or c.args.xs.now i (number 0)) (get_or c.args.ys.now i (number 0)) left right

pub loop-i-preserved : goal.loop-i-preserved
loop-i-preserved c =
    let i = c.loop-i.i in
    let left = slice_get-get_or c.args.xs.now i (number 0) (omega arith) in
    let right = slice_get-get_or c.args.ys.now i (number 0) (omega (arith, c.requires.paired.long)) in
    ways_next c.args.joins.now c.args.xs.now c.args.ys.now i (get_or c.args.xs.now i (number 0)) (get_or c.args.ys.now i (number 0)) c.args.marks.now c.loop-i.marks c.mark_way.new.marks left right c.loop-i.invariant c.in_ok-mark_way.ensures

pub returns : goal.returns
returns c = ways_all c.args.joins.now c.args.xs.now c.args.ys.now c.loop-i.i c.args.marks.now c.loop-i.marks (omega arith) c.requires.paired.long c.loop-i.invariant
