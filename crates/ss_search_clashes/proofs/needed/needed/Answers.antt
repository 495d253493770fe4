use Rattle.std.proofs.Common.{◌≡◌, ◌∙◌, ℕ, List, Bool, true, Some, ap, sym, subst, length, arith}
use Rattle.std.specs.Prelude.{slice_get}
use Rattle.ss_search_clashes.specs.Needed.{AreNeeded}
use Rattle.ss_search_clashes.proofs.Lists.{written_whole}
use Rattle.ss_search_clashes.proofs.needed.needed.Goals as goal

pub mark_all-requires-clause-long : goal.mark_all-requires-clause-long
mark_all-requires-clause-long c = ap length c.deref_mut.ensures.value ∙ c.in_ok-marks.ensures.long

pub mark_all-requires-clause-none : goal.mark_all-requires-clause-none
mark_all-requires-clause-none c = subst (λ (ms : List Bool). (j : ℕ) → slice_get ms j ≡ Some true → ⊥) (sym c.deref_mut.ensures.value) c.in_ok-marks.ensures.none

pub returns-clause-long : goal.returns-clause-long
returns-clause-long c =
    let size : c.in_ok-marks.marks.len ≡ length c.mark_all.new.marks = omega (arith, ap length c.deref_mut.ensures.value, c.in_ok-marks.marks.ok.0) in
    ap length (written_whole c.in_ok-marks.marks.len c.mark_all.new.marks c.in_ok-marks.marks.items size) ∙ sym size ∙ (let same : c.in_ok-marks.marks.len ≡ length c.args.context.now.joins.now = omega (arith, c.in_ok-marks.marks.ok.0, c.in_ok-marks.ensures.long) in same)

pub returns-clause-needed : goal.returns-clause-needed
returns-clause-needed c =
    let size : c.in_ok-marks.marks.len ≡ length c.mark_all.new.marks = omega (arith, ap length c.deref_mut.ensures.value, c.in_ok-marks.marks.ok.0) in
    subst (λ (ms : List Bool). AreNeeded c.args.context.now.congruence.now.terms c.args.context.now.joins.now c.args.xs.now c.args.ys.now 0 ms) (sym (written_whole c.in_ok-marks.marks.len c.mark_all.new.marks c.in_ok-marks.marks.items size)) c.in_ok-mark_all.ensures
