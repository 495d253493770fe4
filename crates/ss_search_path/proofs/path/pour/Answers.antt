use Rattle.std.proofs.Common.{◌≡◌, ◌+◌, length, ap, ◌∙◌, arith}
use Rattle.std.proofs.lemmas.List.{length_push}
use Rattle.ss_search_path.proofs.Lines.{none_poured, one_poured, all_poured}
use Rattle.ss_search_path.proofs.path.pour.Goals as goal

pub loop-from-init : goal.loop-from-init
loop-from-init c = none_poured c.args.from.now.items c.args.onto.now.items c.args.to

pub loop-from-preserved : goal.loop-from-preserved
loop-from-preserved c =
    let m = c.in_ok-move_last.ensures in
    let long : length c.loop-from.from.items ≡ length c.move_last.new.from.items + 1 = ap length m.1 ∙ length_push c.move_last.new.from.items m.0 in
    one_poured c.args.from.now.items c.args.onto.now.items c.args.to c.loop-from.from.items c.loop-from.onto.items c.move_last.new.from.items c.move_last.new.onto.items m.0 c.loop-from.invariant m.1 m.2
    (omega (arith, long, c.loop-from-test.true, c.len.ensures, c.loop-from.from.ok.0))

pub loop-from-smaller : goal.loop-from-smaller
loop-from-smaller c =
    let m = c.in_ok-move_last.ensures in
    let long : length c.loop-from.from.items ≡ length c.move_last.new.from.items + 1 = ap length m.1 ∙ length_push c.move_last.new.from.items m.0 in
    omega (arith, long)

pub returns-clause-from : goal.returns-clause-from
returns-clause-from c = (all_poured c.args.from.now.items c.args.onto.now.items c.args.to c.loop-from.from.items c.loop-from.onto.items c.loop-from.invariant (omega (arith, c.loop-from-test.false, c.len.ensures, c.loop-from.from.ok.0))).0

pub returns-clause-onto : goal.returns-clause-onto
returns-clause-onto c = (all_poured c.args.from.now.items c.args.onto.now.items c.args.to c.loop-from.from.items c.loop-from.onto.items c.loop-from.invariant (omega (arith, c.loop-from-test.false, c.len.ensures, c.loop-from.from.ok.0))).1
