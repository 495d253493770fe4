-- Types by their numbers.
use Rattle.std.proofs.Common.{◌≡◌, ℕ, zero, suc, ◌-◌, ◌<◌, ◌≤◌, length, arith, List, [], ◌∷◌, ◌++◌, refl, sym, ap, ◌∙◌, slice_index_or, Bor}
use Rattle.std.specs.Prelude.{Ok, Err, Option, Some, None, slice_get, Result}
use Rattle.ss_core.specs.declared.names.Ty.{Ty}
use Rattle.ss_core.specs.declared.names.Ty.TheVariants as ty
use Rattle.ss_vcgen_types.specs.declared.names.Names.{Names}
use Rattle.ss_vcgen_types.specs.declared.names.Names.TheFolds.{fold-roll-Names}
use Rattle.ss_vcgen_types.specs.declared.names.Names.TheOpen as shape
use Rattle.ss_vcgen_types.specs.declared.names.Names.TheVariants.{Bound, rolls-Bound}
use Rattle.ss_vcgen_types.specs.Names.{names_step, types_of_names, look_up, or_bound}

pub look_up_more : (ts : List Ty) (x : ℕ) → look_up (ts ++ ty.Int ∷ []) x ≡ or_bound (look_up ts x)
look_up_more [] zero = refl
look_up_more [] (suc x) = refl
look_up_more (w ∷ ts) zero = refl
look_up_more (w ∷ ts) (suc x) = look_up_more ts x

pub look_up_at : (ts : List Ty) (x : ℕ) (d : Ty) → x < length ts → look_up ts x ≡ Ok (slice_index_or ts x d)
look_up_at [] x d h = absurd (omega arith)
look_up_at (w ∷ ts) zero d h = refl
look_up_at (w ∷ ts) (suc x) d h = look_up_at ts x d (omega arith)

pub look_up_past : (ts : List Ty) (x : ℕ) → length ts ≤ x → look_up ts x ≡ Err (x - length ts)
look_up_past [] x h = ap (λ n. Err n) (omega arith)
look_up_past (w ∷ ts) zero h = absurd (omega arith)
look_up_past (w ∷ ts) (suc x) h = look_up_past ts x (omega arith) ∙ ap (λ n. Err n) (omega arith)

pub types_of_bound : (outer : Bor Names) → types_of_names (Bound outer) ≡ types_of_names outer.now ++ ty.Int ∷ []
types_of_bound outer = ap types_of_names (sym (rolls-Bound outer)) ∙ fold-roll-Names (List Ty) names_step (shape.Bound outer)

-- what was found, if it is there
abbrev pub found : Result Ty ℕ → Option Ty
found (Ok t) = Some t
found (Err n) = None

pub found_is : (ts : List Ty) (x : ℕ) → found (look_up ts x) ≡ slice_get ts x
found_is [] x = refl
found_is (t ∷ ts) zero = refl
found_is (t ∷ ts) (suc x) = found_is ts x

pub found_at : (ts : List Ty) (x : ℕ) (r : Result Ty ℕ) (t : Ty) → r ≡ look_up ts x → r ≡ Ok t → slice_get ts x ≡ Some t
found_at ts x r t e k = sym (found_is ts x) ∙ ap found (sym e ∙ k)

pub found_past : (ts : List Ty) (x : ℕ) (r : Result Ty ℕ) (n : ℕ) → r ≡ look_up ts x → r ≡ Err n → slice_get ts x ≡ None
found_past ts x r n e k = sym (found_is ts x) ∙ ap found (sym e ∙ k)
