use Rattle.std.proofs.Common.{◌≤◌, length, sym, arith}
use Rattle.std.specs.Prelude.{pos}
use Rattle.std.proofs.lemmas.List.{get_or_past}
use Rattle.ss_linear_network.proofs.network.Numbers.label.Goals as goal

pub returns-else-node-len : goal.returns-else-node-len
returns-else-node-len c =
    let past : length c.args.self.now.labels.items ≤ c.args.node = (let e = c.len.ensures in let o = c.args.self.now.labels.ok in let l = c.if-node-len.false in omega arith) in
    sym (get_or_past c.args.self.now.labels.items c.args.node (pos 0) past)
