-- State 0 is good, and Main's frame is sound there.
use Rattle.std.proofs.Common.{◌≡◌, ℕ, zero, suc, ℤ, ◌<◌, List, [], ◌∷◌, ◌++◌, length, true, Some, None, refl, sym, subst, arith}
use Rattle.std.specs.Prelude.{slice_get, unwrap_or}
use Rattle.std.proofs.lemmas.Bool.{false≢true, ltb-true}
use Rattle.ss_core.specs.Tree.{LocalTree, BodyTree, CoreTree}
use Rattle.ss_store_rules.specs.declared.Value.{Value}
use Rattle.ss_store_rules.specs.declared.Value.TheVariants as value
use Rattle.ss_store_rules.specs.Locals.{types_of, argument_types}
use Rattle.ss_store_rules.specs.Typed.{body_at}
use Rattle.ss_store_rules.specs.Admitted.{first_store, main_arguments, first_locals}
use Rattle.ss_store_rules.specs.Formed.{are_main_params, IsMain, IsFormed}
use Rattle.ss_machine_rules.specs.States.{ToCall, frame_at_entry}
use Rattle.ss_machine_rules.specs.Runs.{start_with, start}
use Rattle.ss_machine_rules.specs.Good.{IsGoodState}
use Rattle.ss_machine_typed.specs.Inputs.{IsInput}
use Rattle.ss_machine_typed.proofs.First.{first_good, main_locals}
use Rattle.ss_machine_good.specs.Known.{IsNotNull}
use Rattle.ss_machine_good.specs.Frames.{IsSoundFrame}
use Rattle.ss_machine_good.proofs.Frames.{entered_frame}

-- state 0 of a formed program is good
pub start_good : (c : CoreTree) (input : List ℤ) → IsFormed c → IsInput input → IsGoodState c (start c input)
start_good c input formed is =
    let b = formed.main.0 in
    subst (λ o. IsGoodState c (start_with input o)) (sym formed.main.1)
    (first_good c.classes formed.chain input is, (main_locals c.classes input b formed.main.2, tt))

-- the argument of Main isn't null
pub argument_not_null : (params : List LocalTree) (others : List Value) (x : ℕ) → are_main_params params ≡ true → x < length (types_of params) → IsNotNull (unwrap_or (slice_get (main_arguments params ++ others) x) value.Null)
argument_not_null [] others x h l = absurd (omega (arith, l))
argument_not_null (p ∷ []) others zero h l = λ e. cc
argument_not_null (p ∷ []) others (suc x) h l = absurd (omega (arith, l))
argument_not_null (p ∷ q ∷ ps) others x h l = absurd (false≢true h)

pub static_arguments : (b : BodyTree) → b.flags.is_static ≡ true → argument_types b ≡ types_of b.params
static_arguments b h = rw h refl

-- Main's frame is sound there
pub start_sound : (c : CoreTree) (input : List ℤ) → IsFormed c → IsInput input → (b : BodyTree) → body_at c c.main ≡ Some b → IsMain b → IsSoundFrame c (frame_at_entry b (first_locals b) (first_store input) (ToCall None)) (first_store input)
start_sound c input formed is b at main =
    entered_frame c b (first_locals b) (first_store input) (ToCall None) formed.chain formed.beside (formed.bodies c.main b at) (first_good c.classes formed.chain input is) (main_locals c.classes input b main)
    (λ x arg typed. argument_not_null b.params _ x main.params (subst (λ ts. x < length ts) (static_arguments b main.static) (ltb-true x (length (argument_types b)) arg)))
