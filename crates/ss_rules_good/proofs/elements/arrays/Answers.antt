use Rattle.std.proofs.Common.{◌+◌, ◌*◌, ◌<◌, length, arith}
use Rattle.std.proofs.lemmas.List.{length-map}
use Rattle.ss_core.specs.View as view
use Rattle.ss_core.specs.View.{class_of}
use Rattle.ss_rules_good.proofs.Listed.{one_array}
use Rattle.ss_rules_good.proofs.elements.arrays.Goals as goal

pub loop-k-preserved : goal.loop-k-preserved
loop-k-preserved c =
    let cs = view.classes c.args.classes.now in
    let k = c.loop-k.k in
    let same = length-map c.args.classes.now.list.items class_of in
    let at : k < length cs = omega (arith, c.loop-k-test.true, c.len-k-end.ensures, same) in
    let e = rw c.array_class.ensures at c.in_ok-push-2.ensures.items in
    one_array cs k (5 + 2 * k) (5 + 2 * (k + 1)) c.loop-k.found.items c.push-in-loop-k.new.self.items _ at e (omega arith) c.loop-k.invariant
