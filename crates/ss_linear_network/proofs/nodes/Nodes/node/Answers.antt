use Rattle.std.proofs.Common.{◌<◌, ◌≤◌, length, arith}
use Rattle.ss_linear_network.proofs.Making.{end_found, none_there}
use Rattle.ss_linear_network.proofs.nodes.Nodes.node.Goals as goal

pub returns-then-at-len-clause-end : goal.returns-then-at-len-clause-end
returns-then-at-len-clause-end c =
    let inside : c.place-at.result < length c.args.self.now.terms.items = (let e = c.len.ensures in let o = c.args.self.now.terms.ok in let l = c.if-at-len.true in omega arith) in
    end_found c.args.bank.now c.args.self.now.terms.items c.args.t c.place-at.result c.place-at.ensures.place inside

pub add-requires-clause-unknown : goal.add-requires-clause-unknown
add-requires-clause-unknown c =
    let past : length c.args.self.now.terms.items ≤ c.place-at.result = (let e = c.len.ensures in let o = c.args.self.now.terms.ok in let l = c.if-at-len.false in omega arith) in
    none_there c.args.bank.now c.args.self.now.terms.items c.args.t c.place-at.result c.place-at.ensures.place past
