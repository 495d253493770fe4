use Rattle.std.proofs.Common.{get_or, arith}
use Rattle.std.proofs.lemmas.Option.{slice_get-get_or}
use Rattle.ss_search_clashes.proofs.Marks.{marks_none, marks_next, marks_all}
use Rattle.ss_search_clashes.proofs.needed.mark.Goals as goal

pub loop-number-init : goal.loop-number-init
loop-number-init c = marks_none c.args.marks.now

pub bounds-marks-number : goal.bounds-marks-number
bounds-marks-number c =
    let i = c.loop-number.number-index in
    let at = slice_get-get_or c.args.numbers.now i 0 c.loop-number-test.true in
    let inside = c.requires (get_or c.args.numbers.now i 0) (record { at = i; is = at }) in
    omega (arith, inside, c.loop-number.auto.marks)

pub loop-number-preserved : goal.loop-number-preserved
loop-number-preserved c =
    let i = c.loop-number.number-index in
    let at = slice_get-get_or c.args.numbers.now i 0 c.loop-number-test.true in
    let inside = c.requires (get_or c.args.numbers.now i 0) (record { at = i; is = at }) in
    marks_next c.args.numbers.now i (get_or c.args.numbers.now i 0) c.args.marks.now c.loop-number.marks at (omega (arith, inside, c.loop-number.auto.marks)) c.loop-number.invariant

pub returns : goal.returns
returns c = marks_all c.args.numbers.now c.loop-number.number-index c.args.marks.now c.loop-number.marks c.loop-number-test.false c.loop-number.invariant
