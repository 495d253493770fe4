use Rattle.std.proofs.Common.{◌≡◌, ◌∙◌, sym, ap, subst, ℕ, ◌+◌, ◌<◌, ◌^◌, List, length, Some, arith}
use Rattle.std.specs.Prelude.{ℤ, pos}
use Rattle.ss_logic.specs.Formulas.{Formula}
use Rattle.ss_logic.specs.Sums.{sum_of}
use Rattle.ss_terms.specs.Forms.{terms_at}
use Rattle.ss_linear_paths.specs.declared.edges.Edge.{Edge}
use Rattle.ss_linear_paths.specs.declared.edges.Found.{Found}
use Rattle.ss_linear_paths.specs.Edges.{IsFound, IsCycle}
use Rattle.ss_linear_rules.specs.Two.{IsFalse}
use Rattle.ss_linear_rules.specs.Nodes.{origins_at}
use Rattle.ss_linear_rules.proofs.Networks.{labels_meet, cycle_contradicts}
use Rattle.ss_linear_network.proofs.network.Network.solve.Goals as goal

pub returns-in-Labels-clause-solved : goal.returns-in-Labels-clause-solved
returns-in-Labels-clause-solved c = λ b cs known w.
    let n = c.len.result + 1 in
    let found = subst (λ (x : Found). IsFound n c.args.self.edges.items x) c.in-Labels.is (subst (λ (es : List Edge). IsFound n es c.in_ok-found.found) c.deref.ensures.value c.in_ok-found.ensures) in
    labels_meet cs known (terms_at b c.args.self.nodes.terms.items) c.args.self.edges.items c.args.self.origins.items c.in-Labels.labels.items w found.1

pub returns-in_ok-weights-in-Cycle-clause-solved : goal.returns-in_ok-weights-in-Cycle-clause-solved
returns-in_ok-weights-in-Cycle-clause-solved c = λ b cs known w.
    let n = c.len.result + 1 in
    let cycle : IsCycle c.args.self.edges.items c.in-Cycle.cycle.items = subst (λ (x : Found). IsFound n c.args.self.edges.items x) c.in-Cycle.is (subst (λ (es : List Edge). IsFound n es c.in_ok-found.found) c.deref.ensures.value c.in_ok-found.ensures) in
    let few : length c.in-Cycle.cycle.items < 2 ^ 63 = (let o = c.in-Cycle.cycle.ok in let s = c.in-Cycle.cycle.small in omega arith) in
    let weights : c.in_ok-weights-in-Cycle.weights.items ≡ origins_at c.args.self.origins.items c.in-Cycle.cycle.items =
    c.in_ok-weights-in-Cycle.ensures
    ∙ ap (λ (os : List (ℕ × ℤ)). origins_at os c.deref-in-Cycle-2.result.now) c.deref-in-Cycle.ensures.value
    ∙ ap (λ (ks : List ℕ). origins_at c.args.self.origins.items ks) c.deref-in-Cycle-2.ensures.value in
    subst (λ (ps : List (ℕ × ℤ)). (f : Formula) × (sum_of cs known (pos 1) ps ≡ Some f) × IsFalse f) (sym weights)
    (cycle_contradicts cs known (terms_at b c.args.self.nodes.terms.items) c.args.self.edges.items c.args.self.origins.items c.in-Cycle.cycle.items w.edges cycle few)
