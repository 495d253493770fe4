use Rattle.std.proofs.Common.{◌≡◌, ◌+◌, ◌∙◌, ap, ℕ, length, cond, eqb, Some, arith}
use Rattle.std.specs.Prelude.{nat_eq}
use Rattle.indexmap.specs.IndexMap.{get}
use Rattle.ss_linear_network.specs.declared.nodes.Nodes.{Nodes}
use Rattle.ss_linear_network.proofs.Making.{nodes_added, end_added}
use Rattle.ss_linear_network.proofs.nodes.Nodes.add.Goals as goal

pub returns-clause-nodes : goal.returns-clause-nodes
returns-clause-nodes c =
    let old : Nodes = c.args.self.now in
    let size : c.len-at.result ≡ length old.terms.items = (let e = c.len-at.ensures in let o = old.terms.ok in omega arith) in
    nodes_added c.args.bank.now c.numbers_are_apart.ensures old _ c.args.t c.requires.nodes c.requires.term c.requires.unknown c.in_ok-push.ensures.items
    (λ k. c.in_ok-insert.ensures.updates.0 k ∙ ap (λ (n : ℕ). cond (eqb c.args.t.0 k) (Some n) (get nat_eq old.places k)) size)

pub returns-clause-end : goal.returns-clause-end
returns-clause-end c =
    let old : Nodes = c.args.self.now in
    let new : Nodes = record { terms = c.push.new.self; places = c.insert.new.self } in
    let size : c.len-at.result ≡ length old.terms.items = (let e = c.len-at.ensures in let o = old.terms.ok in omega arith) in
    end_added c.args.bank.now c.numbers_are_apart.ensures old new c.args.t c.requires.nodes c.requires.term c.requires.unknown c.in_ok-push.ensures.items
    (λ k. c.in_ok-insert.ensures.updates.0 k ∙ ap (λ (n : ℕ). cond (eqb c.args.t.0 k) (Some n) (get nat_eq old.places k)) size)
    (c.len-at.result + 1) (omega arith)
