-- What the phase of null finds in a program without a fault.
use Rattle.std.proofs.Common.{◌≡◌, ℕ, zero, suc, List, [], ◌∷◌, ◌++◌, true, false, Some, subst}
use Rattle.std.specs.Prelude.{slice_get}
use Rattle.std.proofs.lemmas.Option.{same_Some}
use Rattle.ss_core.specs.Tree as core
use Rattle.ss_typed.specs.Tree.{BodyTree, TypedTree}
use Rattle.ss_paths.specs.Assigned.{assigned_first}
use Rattle.ss_paths.specs.Paths.{faults_in}
use Rattle.ss_nonnull_rules.specs.NonNull as source
use Rattle.ss_nonnull_rules.specs.Faults as faults
use Rattle.ss_nonnull_rules.specs.Overrides.{override_faults}
use Rattle.ss_nonnull_rules.specs.Program.{null_context_of, only_fields, base_faults, body_faults, bodies_faults, classes_faults, null_faults}
use Rattle.ss_store_rules.specs.NonNull.{keeps_nulls_out}
use Rattle.ss_expand_rules.specs.Bodies.{written_body}
use Rattle.ss_expand_formed.proofs.Facts.{none_left}
use Rattle.ss_expand_formed.specs.Fitting.{block_fits}
use Rattle.ss_expand_formed.specs.Bodies.{method_frame}
use Rattle.ss_expand_formed.proofs.NullsMethods.{method_keeps}

-- a body of the program has no fault of null
pub body_at : (p : TypedTree) (bs : List BodyTree) (n : ℕ) (b : BodyTree) → bodies_faults p bs ≡ [] → slice_get bs n ≡ Some b → body_faults p b ≡ []
body_at p [] n b h e = absurd (let x : ⊥ = cc in x)
body_at p (x ∷ xs) zero b h e = subst (λ y. body_faults p y ≡ []) (same_Some _ _ e) (none_left (body_faults p x) (bodies_faults p xs) h).0
body_at p (x ∷ xs) (suc n) b h e = body_at p xs n b (none_left (body_faults p x) (bodies_faults p xs) h).1 e

-- no fault of null stands in the block of a body
pub block_pure : (p : TypedTree) (n : ℕ) (b : BodyTree) → null_faults p ≡ [] → slice_get p.bodies n ≡ Some b → faults_in (source.known_flow (null_context_of p b)) (faults.null_check (null_context_of p b)) b.block (only_fields (assigned_first p b)) ≡ []
unfolding null_faults
block_pure p n b h e =
    let all = none_left (classes_faults p 0 p.members) (bodies_faults p p.bodies) h in
    let one = body_at p p.bodies n b all.1 e in
    (none_left (override_faults p b ++ base_faults p b b.base) (faults_in (source.known_flow (null_context_of p b)) (faults.null_check (null_context_of p b)) b.block (only_fields (assigned_first p b))) one).1

pub methods_keep : (c : core.CoreTree) (p : TypedTree) (n : ℕ) (b : BodyTree) (bs : List BodyTree) → null_faults p ≡ [] → slice_get p.bodies n ≡ Some b → b.flags.ctor ≡ false → block_fits (method_frame c p b bs) b.block ≡ true → keeps_nulls_out c (written_body p b bs) ≡ true
methods_keep c p n b bs h e method fit = method_keeps c p b bs method fit (block_pure p n b h e)
