-- The conditions at exit read the arguments and the result alone.
use Rattle.std.proofs.Common.{◌≡◌, ◌++◌, ◌||◌, List, sym, ◌∙◌}
use Rattle.ss_core.specs.Tree.{BodyTree, CoreTree}
use Rattle.ss_store_rules.specs.declared.Value.{Value}
use Rattle.ss_store_rules.specs.Store.{Object}
use Rattle.ss_store_rules.specs.Values.{setting}
use Rattle.ss_store_rules.specs.Locals.{is_argument, is_result, is_bound}
use Rattle.ss_store_rules.specs.Types.{in_ensures}
use Rattle.ss_store_rules.specs.Formed.{IsFormedBody}
use Rattle.ss_machine_rules.specs.States.{locals_at_entry, put}
use Rattle.ss_machine_rules.specs.Steps.{all_hold, result_local}
use Rattle.ss_sound_outcomes.specs.Outcomes.{locals_at_exit}
use Rattle.ss_sound_runs.specs.Served.{HasArguments}
use Rattle.ss_sound_runs.proofs.Locals.{reads_all, argument_in}
use Rattle.ss_sound_runs.proofs.Conditions.{same_all_hold}
use Rattle.ss_sound_runs.proofs.Passed.{passed_at_entry, result_rest, read_at_exit, result_given}

pub exits_read : (c : CoreTree) (b : BodyTree) → IsFormedBody c b → (s z : List Object) (arguments locals : List Value) (v : Value) → HasArguments b arguments locals →
    all_hold b.exit (setting c.classes z s (put (result_local b) v locals)) ≡ all_hold b.exit (setting c.classes z s (locals_at_exit b arguments v))
exits_read c b formed s z arguments locals v has =
    let first = passed_at_entry b arguments has.passed in
    let one = read_at_exit b arguments locals v has in
    let other = read_at_exit b arguments (locals_at_entry b arguments) v first in
    same_all_hold c.classes z s b in_ensures (λ x. is_argument b x || is_result b x || is_bound b x) (put (result_local b) v locals) (locals_at_exit b arguments v) (arguments ++ result_rest b v)
    (reads_all b arguments (result_rest b v) (put (result_local b) v locals) one (result_given b arguments locals v has))
    (reads_all b arguments (result_rest b v) (locals_at_exit b arguments v) other (result_given b arguments (locals_at_entry b arguments) v first))
    (λ x h. argument_in b arguments (result_rest b v) (put (result_local b) v locals) one x h ∙ sym (argument_in b arguments (result_rest b v) (locals_at_exit b arguments v) other x h))
    b.exit formed.exit
