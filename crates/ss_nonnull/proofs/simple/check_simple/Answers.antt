use Rattle.std.proofs.Common.{◌++◌, ap, sym, ◌∙◌}
use Rattle.ss_typed.specs.Tree.{SimpleTree}
use Rattle.ss_typed.specs.View.{expr, simple_of}
use Rattle.ss_nonnull_rules.specs.Faults.{done_faults}
use Rattle.ss_nonnull_seen.specs.Codes.{path_of, context_of}
use Rattle.ss_nonnull_seen.specs.Seen.{Seen}
use Rattle.ss_nonnull.proofs.Points.{assigned_is, assign_noted}
use Rattle.ss_nonnull.proofs.simple.check_simple.Goals as goal

pub returns-in_ok-behind-in-Assign-clause-known : goal.returns-in_ok-behind-in-Assign-clause-known
returns-in_ok-behind-in-Assign-clause-known c =
    let a = c.in-Assign in
    assigned_is (context_of c.args.context.now) (simple_of c.args.stmt.now) (expr a.left) a.operator (expr a.e) _ _ (path_of c.args.known) _
    (ap simple_of a.is) (ap (λ (v : Seen). v.local) c.in_ok-target-in-Assign.ensures.seen) (ap (λ (v : Seen). v.never_null) c.in_ok-head-in-Assign.ensures.seen) c.in_ok-behind-in-Assign.ensures

pub returns-in_ok-behind-in-Assign-clause-noted : goal.returns-in_ok-behind-in-Assign-clause-noted
returns-in_ok-behind-in-Assign-clause-noted c =
    let a = c.in-Assign in
    let s = context_of c.args.context.now in
    let k = path_of c.args.known in
    assign_noted s k (expr a.left) (expr a.e) _ c.args.found.now.items _ _ (ap (λ (v : Seen). v.ty) c.in_ok-target-in-Assign.ensures.seen) c.in_ok-target-in-Assign.ensures.noted c.in_ok-head-in-Assign.ensures.noted
    ∙ ap (λ (t : SimpleTree). c.args.found.now.items ++ done_faults s t k) (sym (ap simple_of a.is))
