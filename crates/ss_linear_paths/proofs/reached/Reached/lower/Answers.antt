use Rattle.std.proofs.Common.{◌≢◌, ◌<◌, ◌≤◌, ◌^◌, ◌∙◌, sym, subst, ap, ℕ, List, ◌∷◌, length, set, FitsSigned, arith}
use Rattle.std.specs.Prelude.{ℤ, ◌<ℤ◌}
use Rattle.std.specs.List.{All}
use Rattle.std.proofs.lemmas.Int.{ints, to_z-of_z}
use mir.Syntax.{w128}
use Rattle.ss_linear_paths.specs.Edges.{no_edge, edge_at, label, IsCycle}
use Rattle.ss_linear_paths.specs.Paths.{lists, path_at, back, IsReached}
use Rattle.ss_linear_paths.proofs.Walking.{edge_within, edges_of, looked_put, lists_length, closes}
use Rattle.ss_linear_paths.proofs.reached.Reached.lower.Goals as goal

pub over-label-requires : goal.over-label-requires
over-label-requires c =
    let few : length c.args.self.now.labels.items < 2 ^ 63 = (let o = c.args.self.now.labels.ok in let s = c.args.self.now.labels.small in omega arith) in
    record {
      from = (c.requires.nodes c.args.k no_edge c.requires.inside).0;
      within = edge_within (length c.args.self.now.labels.items) c.args.edges.now c.args.self.now.labels.items (lists c.args.self.now.paths.items) c.args.k few c.requires.reached c.requires.nodes c.requires.small c.requires.inside;
    }

pub path-path-requires : goal.path-path-requires
path-path-requires c =
    let a = (c.requires.nodes c.args.k no_edge c.requires.inside).0 in
    let b = c.requires.reached.paths in
    let e = lists_length c.args.self.now.paths.items in
    omega (arith, a, b, e)

pub steps_back-count-requires : goal.steps_back-count-requires
steps_back-count-requires c =
    let u = (edge_at c.args.edges.now c.args.k).from in
    let r = c.requires.reached.each u ((c.requires.nodes c.args.k no_edge c.requires.inside).0) in
    subst (λ (ks : List ℕ). All (λ k. k < length c.args.edges.now) ks) (sym c.path-path.ensures) (edges_of c.args.edges.now c.args.self.now.labels.items u (path_at (lists c.args.self.now.paths.items) u) r.path)

pub returns-in_ok-cycle-in-Some-clause-cycle : goal.returns-in_ok-cycle-in-Some-clause-cycle
returns-in_ok-cycle-in-Some-clause-cycle c =
    let u = (edge_at c.args.edges.now c.args.k).from in
    let r = c.requires.reached.each u ((c.requires.nodes c.args.k no_edge c.requires.inside).0) in
    subst (λ (ks : List ℕ). IsCycle c.args.edges.now ks) (sym c.in_ok-cycle-in-Some.ensures)
    (closes c.args.edges.now c.args.self.now.labels.items c.args.k c.path-path.result.now c.in-Some.count c.requires.inside
    (subst (λ (ks : List ℕ). IsReached c.args.edges.now c.args.self.now.labels.items u ks) (sym c.path-path.ensures) r)
    c.in-Some.ensures.passes.1 c.requires.open)

pub returns-in_ok-longer-in-None-clause-looked : goal.returns-in_ok-longer-in-None-clause-looked
returns-in_ok-longer-in-None-clause-looked c =
    let es = c.args.edges.now in
    let ls = c.args.self.now.labels.items in
    let ps = lists c.args.self.now.paths.items in
    let u = (edge_at es c.args.k).from in
    let v = (edge_at es c.args.k).to in
    let few : length ls < 2 ^ 63 = (let o = c.args.self.now.labels.ok in let s = c.args.self.now.labels.small in omega arith) in
    let w = edge_within (length ls) es ls ps c.args.k few c.requires.reached c.requires.nodes c.requires.small c.requires.inside in
    let low = w.1 in
    let high = w.0 in
    let sum = c.over-label.ensures in
    let fits : FitsSigned w128 c.over-label.result = omega (arith, ints, low, high, sum) in
    looked_put (length ls) es ls ps c.args.k c.over-label.result c.in_ok-longer-in-None.longer.items c.put.new.self.labels.items (lists c.put.new.self.paths.items)
    (record {
      reached = c.requires.reached;
      nodes = c.requires.nodes;
      there = c.requires.inside;
      sum = c.over-label.ensures;
      less = subst (λ (y : ℤ). y <ℤ label ls v) (sym c.over-label.ensures) c.requires.open;
      avoids = subst (λ (ks : List ℕ). (i : ℕ) → i ≤ length ks → back es u ks i ≢ v) c.path-path.ensures c.in-None.ensures.avoids;
    })
    (c.in_ok-longer-in-None.ensures ∙ ap (λ (ks : List ℕ). c.args.k ∷ ks) c.path-path.ensures)
    (c.put.ensures.labels ∙ ap (λ (x : ℤ). set ls v x) (to_z-of_z w128 c.over-label.result fits)) c.put.ensures.paths
