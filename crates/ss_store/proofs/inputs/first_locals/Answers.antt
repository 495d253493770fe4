use Rattle.std.proofs.Common.{◌≡◌, map, subst}
use Rattle.std.specs.Prelude.{IfOk}
use Rattle.ss_core.specs.View.{local_of}
use Rattle.ss_store_rules.specs.Admitted.{main_arguments}
use Rattle.ss_store.proofs.FirstLocals.{all_locals}
use Rattle.ss_store.proofs.inputs.first_locals.Goals as goal

pub returns : goal.returns
returns c =
    let main = c.args.main.now in
    let past = rw c.deref-local-items.ensures.value at c.loop-local-test.false in
    let so_far = rw c.deref-local-items.ensures.value at c.loop-local.invariant in
    subst (λ xs. IfOk c.with_result.result (λ v. v.items ≡ xs))
    (all_locals (main_arguments (map local_of main.params.items)) c.loop-local.locals.items main.locals.items c.loop-local.local-index main.result past so_far)
    c.with_result.ensures
