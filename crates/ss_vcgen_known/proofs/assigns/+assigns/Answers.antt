use Rattle.std.proofs.Common.{◌∙◌, sym, ap}
use Rattle.std.proofs.lemmas.Result.{IfOk-equal}
use Rattle.ss_bit_set.specs.Marked.{marked}
use Rattle.ss_core.specs.View.{stmt_of, block, exprs, expr, exposed_tree}
use Rattle.ss_core.specs.declared.stmt.Loop.{out-Loop}
use Rattle.std.proofs.Common.{map, drop, ◌+◌}
use Rattle.std.proofs.Math.ListN.{drop_of_length-le}
use Rattle.ss_vcgen_known.proofs.Listing.{both_none}
use Rattle.ss_vcgen_types.proofs.Walking.{from_here}
use Rattle.ss_store_rules.specs.Locals.{assigns}
use Rattle.ss_store_rules.specs.NonNull.{both}
use Rattle.ss_vcgen_known.specs.Assigns.{assigns_in}
use Rattle.ss_vcgen_known.proofs.Assigning.{if_assigns, loop_assigns, one_put, if_is, loop_is}
use Rattle.ss_vcgen_known.proofs.assigns.+assigns.Goals as goal

pub put_assigned-returns-in_ok-put_all-in-If : goal.put_assigned-returns-in_ok-put_all-in-If
put_assigned-returns-in_ok-put_all-in-If t c =
    let a = c.in-If in
    let f = marked c.args.set.now in
    IfOk-equal c.put_all-in-If.result _ _ _ c.put_all-in-If.ensures
    (ap (λ g. both g (assigns_in (block c.deref-in-If.result.now))) c.in_ok-put_all-in-If.ensures
    ∙ ap (λ ss. both (both f (assigns_in (block c.deref.result.now))) (assigns_in (block ss))) c.deref-in-If.ensures.value
    ∙ ap (λ ss. both (both f (assigns_in (block ss))) (assigns_in (block a.second.items))) c.deref.ensures.value
    ∙ if_assigns a.field-0 (expr a.field-1) (block a.first.items) (block a.second.items) f
    ∙ sym (ap (λ s. both f (assigns (stmt_of s))) a.is ∙ ap (λ s. both f (assigns s)) (if_is a.field-0 a.field-1 a.first a.second)))

pub put_loop-returns : goal.put_loop-returns
put_loop-returns t c =
    let l = c.args.l.now in
    let f = marked c.args.set.now in
    c.in_ok-put_all-2.ensures
    ∙ ap (λ g. both g (assigns_in (block c.deref-2.result.now))) c.in_ok-put_all.ensures
    ∙ ap (λ ss. both (both f (assigns_in (block c.deref.result.now))) (assigns_in (block ss))) c.deref-2.ensures.value
    ∙ ap (λ ss. both (both f (assigns_in (block ss))) (assigns_in (block (out-Loop l).body.items))) c.deref.ensures.value
    ∙ loop_assigns (out-Loop l).place (exprs (out-Loop l).invariants.items) (block (out-Loop l).prelude.items) (expr (out-Loop l).test) (block (out-Loop l).body.items) (map exposed_tree (out-Loop l).exposes.items) f
    ∙ ap (λ s. both f (assigns s)) (sym (loop_is l))

pub put_all-loop-stmt-preserved : goal.put_all-loop-stmt-preserved
put_all-loop-stmt-preserved t c =
    let i = c.loop-stmt.stmt-index in
    let all = c.args.code.now in
    let x = c.stmt-item.result in
    let f = marked c.loop-stmt.set in
    ap (λ g. both g (assigns_in (block (drop (i + 1) all)))) c.in_ok-put_assigned.ensures
    ∙ one_put (stmt_of x) (block (drop (i + 1) all)) f
    ∙ ap (λ ss. both f (assigns_in (block ss))) (sym (from_here all i x c.loop-stmt-test.true c.stmt-item.is))
    ∙ c.loop-stmt.invariant

pub put_all-returns : goal.put_all-returns
put_all-returns t c =
    let f = marked c.loop-stmt.set in
    sym (both_none f)
    ∙ ap (λ ss. both f (assigns_in (block ss))) (sym (drop_of_length-le c.args.code.now c.loop-stmt-test.false))
    ∙ c.loop-stmt.invariant
