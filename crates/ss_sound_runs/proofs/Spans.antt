-- The frame condition of a body reads its arguments alone.
use Rattle.std.proofs.Common.{◌≡◌, List, Bool, true, false, refl, sym, subst}
use Rattle.std.specs.List.{list_any}
use Rattle.ss_core.specs.Tree.{BodyTree, CoreTree}
use Rattle.ss_store_rules.specs.declared.Value.{Value}
use Rattle.ss_store_rules.specs.Store.{Object}
use Rattle.ss_store_rules.specs.Formed.{IsFormedBody}
use Rattle.ss_machine_rules.specs.Frame.{is_kept}
use Rattle.ss_machine_rules.specs.States.{locals_at_entry, put}
use Rattle.ss_machine_rules.specs.Steps.{result_local}
use Rattle.ss_sound_runs.specs.Served.{HasArguments}
use Rattle.ss_sound_runs.proofs.Locals.{AreRead}
use Rattle.ss_sound_runs.proofs.Passed.{passed_at_entry, passed_at_exit, result_rest, read_with}
use Rattle.ss_sound_runs.proofs.Follows.{span_of, kept_follows}
use Rattle.ss_sound_runs.proofs.Naming.{all_named_same, free_of_same}

both_ways : (t u : Bool) → (t ≡ true → u ≡ true) → (u ≡ true → t ≡ true) → t ≡ u
both_ways true u f g = sym (f refl)
both_ways false true f g = g refl
both_ways false false f g = refl

kept_one : (c : CoreTree) (b : BodyTree) → IsFormedBody c b → (s z : List Object) (outside arguments rest L M : List Value) → AreRead b arguments rest L → AreRead b arguments rest M → is_kept (span_of c.classes s z outside b L) ≡ true → is_kept (span_of c.classes s z outside b M) ≡ true
kept_one c b formed s z outside arguments rest L M one other =
    kept_follows c.classes s z outside b b L M
    (λ p wide h. subst (λ ns. list_any p ns ≡ true) (all_named_same c.classes s z outside b arguments rest L M one other formed.named) h)
    (free_of_same c.classes s z outside b arguments rest L M one other formed.flags)

pub frames_read : (c : CoreTree) (b : BodyTree) → IsFormedBody c b → (s z : List Object) (outside arguments locals : List Value) (v : Value) → HasArguments b arguments locals → is_kept (span_of c.classes s z outside b (put (result_local b) v locals)) ≡ is_kept (span_of c.classes s z outside b (locals_at_entry b arguments))
frames_read c b formed s z outside arguments locals v has =
    let one = read_with b arguments (put (result_local b) v locals) v (passed_at_exit b arguments locals v has) in
    let other = read_with b arguments (locals_at_entry b arguments) v (passed_at_entry b arguments has.passed) in
    both_ways (is_kept (span_of c.classes s z outside b (put (result_local b) v locals))) (is_kept (span_of c.classes s z outside b (locals_at_entry b arguments)))
    (kept_one c b formed s z outside arguments (result_rest b v) (put (result_local b) v locals) (locals_at_entry b arguments) one other)
    (kept_one c b formed s z outside arguments (result_rest b v) (locals_at_entry b arguments) (put (result_local b) v locals) other one)
