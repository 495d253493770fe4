-- Values by their numbers.
use Rattle.std.proofs.Common.{◌≡◌, ℕ, zero, suc, ◌-◌, ◌<◌, ◌≤◌, length, arith, List, [], ◌∷◌, ◌++◌, refl, sym, ap, ◌∙◌, slice_index_or, Bor}
use Rattle.std.specs.Prelude.{Ok, Err}
use Rattle.std.specs.Result.{result_unwrap_or}
use Rattle.ss_store_rules.specs.declared.Value.{Value}
use Rattle.ss_store_rules.specs.declared.Value.TheVariants as value
use Rattle.ss_store.specs.declared.names.Names.{Names}
use Rattle.ss_store.specs.declared.names.Names.TheFolds.{fold-roll-Names}
use Rattle.ss_store.specs.declared.names.Names.TheOpen as shape
use Rattle.ss_store.specs.declared.names.Names.TheVariants.{Bound, rolls-Bound}
use Rattle.ss_store.specs.Names.{names_step, values, look_up, or_next, local_read}

pub look_up_more : (vs : List Value) (v : Value) (x : ℕ) → look_up (vs ++ v ∷ []) x ≡ or_next (look_up vs x) v
look_up_more [] v zero = refl
look_up_more [] v (suc x) = refl
look_up_more (w ∷ vs) v zero = refl
look_up_more (w ∷ vs) v (suc x) = look_up_more vs v x

pub look_up_at : (vs : List Value) (x : ℕ) (d : Value) → x < length vs → look_up vs x ≡ Ok (slice_index_or vs x d)
look_up_at [] x d h = absurd (omega arith)
look_up_at (w ∷ vs) zero d h = refl
look_up_at (w ∷ vs) (suc x) d h = look_up_at vs x d (omega arith)

pub look_up_past : (vs : List Value) (x : ℕ) → length vs ≤ x → look_up vs x ≡ Err (x - length vs)
look_up_past [] x h = ap (λ n. Err n) (omega arith)
look_up_past (w ∷ vs) zero h = absurd (omega arith)
look_up_past (w ∷ vs) (suc x) h = look_up_past vs x (omega arith) ∙ ap (λ n. Err n) (omega arith)

pub local_read_is : (vs : List Value) (x : ℕ) → result_unwrap_or (look_up vs x) value.Null ≡ local_read vs x
local_read_is [] x = refl
local_read_is (w ∷ vs) zero = refl
local_read_is (w ∷ vs) (suc x) = local_read_is vs x

pub values_of_bound : (outer : Bor Names) (v : Value) → values (Bound outer v) ≡ values outer.now ++ v ∷ []
values_of_bound outer v = ap values (sym (rolls-Bound outer v)) ∙ fold-roll-Names (List Value) names_step (shape.Bound outer v)
