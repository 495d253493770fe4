-- Expressions of non-null types in the states of a run.
use Rattle.std.specs.Prelude.{◌≡◌, ℕ, List, [], ◌∷◌, Bool, true, false, Some, Ok}
use Rattle.ss_core.specs.declared.names.Ty.{Ty}
use Rattle.ss_core.specs.Tree.{ExprTree, BodyTree, CoreTree}
use Rattle.ss_store_rules.specs.declared.Value.{Value}
use Rattle.ss_store_rules.specs.Store.{Object}
use Rattle.ss_store_rules.specs.Values.{value_of}
use Rattle.ss_store_rules.specs.Types.{type_of}
use Rattle.ss_store_rules.specs.Locals.{is_argument, local_types}
use Rattle.ss_store_rules.specs.Paths.{Check, holds_along}
use Rattle.ss_store_rules.specs.Assigned.{assigned_flow, reads_assigned}
use Rattle.ss_store_rules.specs.NonNull.{Known, known_at_entry, site_of, is_never_null, known_flow}
use Rattle.ss_machine_rules.specs.States.{Frame, State, Running, Done, Failed, Stopped, scene}
use Rattle.ss_machine_good.specs.Flows.{IsKnown}
use Rattle.ss_machine_good.specs.Known.{IsNotNull, IsTrueOf, AreAssigned}

-- The expression of the body reads only assigned locals, has a type, and is never null by what is known.
pub record HasNonNullType (c : CoreTree) (b : BodyTree) (k : Known) (xs : ℕ → Bool) (e : ExprTree) : Type 0 where
  pub reads : reads_assigned b xs e ≡ true
  pub plain : Ty
  pub typed : type_of c.classes (local_types b) e ≡ Some plain
  pub never : is_never_null (site_of c b) k false e ≡ true

-- The frame f, where the store is s.
pub record IsNonNullFrame (c : CoreTree) (f : Frame) (s : List Object) : Type 0 where
  -- whatever its code passes by what is known of null before each statement, what is left passes by something that is so
  pub known : (k : Check Known) → holds_along (known_flow c f.body) k f.body.code (Some (known_at_entry f.body)) ≡ true → IsKnown (known_flow c f.body) k (IsTrueOf f.body.flags.ctor) f.left (scene c f s)
  -- so it is by what is assigned
  pub assigned : (k : Check (ℕ → Bool)) → holds_along assigned_flow k f.body.code (Some (is_argument f.body)) ≡ true → IsKnown assigned_flow k (AreAssigned f.body) f.left (scene c f s)
  -- with whatever is so, an expression of non-null type has no value, or one that isn't null
  pub never_null : (k : Known) (xs : ℕ → Bool) → IsTrueOf f.body.flags.ctor k (scene c f s) → AreAssigned f.body xs (scene c f s) → (e : ExprTree) → HasNonNullType c f.body k xs e → (v : Value) → value_of e (scene c f s) ≡ Ok v → IsNotNull v

-- The frame that runs is such a one. Nothing is said of a state that has failed, and frames that wait read nothing.
abbrev pub IsNonNullState : CoreTree → State → Type 0
IsNonNullState c (Running [] s before) = Unit {0}
IsNonNullState c (Running (f ∷ fs) s before) = IsNonNullFrame c f s
IsNonNullState c (Done s before) = Unit {0}
IsNonNullState c (Failed k at before) = Unit {0}
IsNonNullState c (Stopped at s before) = Unit {0}
