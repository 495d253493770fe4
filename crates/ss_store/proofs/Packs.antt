-- The invariants that a pack asks for.
use Rattle.std.proofs.Common.{◌≡◌, ℕ, List, Bool, refl, sym, ◌∙◌, ap, Option, Some, None}
use Rattle.std.specs.Prelude.{slice_get}
use Rattle.std.specs.List.{list_all}
use Rattle.std.proofs.lemmas.List.Folds.{list_all-map}
use Rattle.ss_core.specs.Tree.{ClassTree, ExprTree}
use Rattle.ss_core.specs.Chain.{declared}
use Rattle.ss_core.specs.View.{class_of, expr}
use Rattle.ss_core.specs.declared.class.Class.{Class}
use Rattle.ss_store_rules.specs.declared.Value.{Value}
use Rattle.ss_store_rules.specs.declared.Value.TheVariants as value
use Rattle.ss_store_rules.specs.Store.{Object}
use Rattle.ss_store_rules.specs.Reads.{is_null_or}
use Rattle.ss_store_rules.specs.Changes.{with_object, packing, pack_of}
use Rattle.ss_store_rules.specs.Admissible.{invariants, invariants_of}

-- it asks for those of this object alone
pub pack_of-holds : (cs : List ClassTree) (holds : List Object → ℕ → ℕ → Bool) (s : List Object) (v : Value) (t : ℕ) → pack_of cs (λ _ _ _. is_null_or v (λ o. holds s o t)) s v t ≡ pack_of cs holds s v t
pack_of-holds cs holds s (value.Int n) t = refl
pack_of-holds cs holds s (value.Bool b) t = refl
pack_of-holds cs holds s value.Null t = refl
pack_of-holds cs holds s (value.Obj o) t = at (slice_get s o)
  where
    at : (x : Option Object) → with_object (packing cs (λ _ _ _. holds s o t) s t) o x ≡ with_object (packing cs holds s t) o x
    at None = refl
    at (Some x) = refl

pub all_of_class : (cs : List ClassTree) (t : ℕ) (p : ExprTree → Bool) (class : Class) → Some (class_of class) ≡ declared cs t → list_all (λ e. p (expr e)) class.invariants.items ≡ list_all p (invariants cs t)
all_of_class cs t p class is = sym (list_all-map p expr class.invariants.items) ∙ ap (λ c. list_all p (invariants_of c)) is
