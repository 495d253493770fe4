-- What the locals of a sound point refer to.
use Rattle.std.proofs.Common.{◌≡◌, ℕ, List, true, refl, subst, arith}
use Rattle.std.specs.Prelude.{Option, Some, None, slice_get, unwrap_or}
use Rattle.std.proofs.lemmas.Bool.{false≢true}
use Rattle.ss_core.specs.declared.names.Ty.{Ty}
use Rattle.ss_core.specs.declared.names.Ty.TheVariants as ty
use Rattle.ss_core.specs.Tree.{ClassTree}
use Rattle.ss_store_rules.specs.declared.Value.{Value as ObjectValue}
use Rattle.ss_store_rules.specs.declared.Value.TheVariants as value
use Rattle.ss_store_rules.specs.Store.{Object}
use Rattle.ss_store_rules.specs.Good.{has_type}
use Rattle.ss_store_rules.specs.Locals.{local_types}
use Rattle.ss_store_rules.specs.Values.{local_value}
use Rattle.ss_machine_rules.specs.Frame.{this_of}
use Rattle.ss_machine_typed.proofs.Older.{there_is}
use Rattle.ss_machine_typed.proofs.Sound.{object_typed}
use Rattle.ss_machine_good.specs.LaterFrames.{HasGiven}
use Rattle.ss_machine_good.specs.Later.{IsLater}
use Rattle.ss_machine_good.proofs.Behind.{later_given}
use Rattle.ss_vcgen_safe.proofs.PositionsJoins.{get_below}
use Rattle.ss_sound_outcomes.specs.Points.{Activation, Point, scene, IsSound}

-- a reference of a type is allocated
pub typed_there : (cs : List ClassTree) (s : List Object) (t : Ty) (o : ℕ) → has_type cs s t (value.Obj o) ≡ true → (x : Object) × (slice_get s o ≡ Some x)
typed_there cs s ty.Int o h = absurd (false≢true h)
typed_there cs s ty.Bool o h = absurd (false≢true h)
typed_there cs s ty.Null o h = absurd (false≢true h)
typed_there cs s (ty.Ref t n) o h = let x = object_typed cs s t.0 n o h in (x.0, x.1)

module _ (a : Activation) (p : Point) (sound : IsSound a p) where
  -- so is one in a local
  pub local_there : (x o : ℕ) → local_value (scene a p) x ≡ value.Obj o → (y : Object) × (slice_get p.store o ≡ Some y)
  local_there x o is = one_of (slice_get p.locals x) refl is
    where
      one_of : (v : Option ObjectValue) → slice_get p.locals x ≡ v → unwrap_or v value.Null ≡ value.Obj o → (y : Object) × (slice_get p.store o ≡ Some y)
      one_of None e h = let no : ⊥ = cc in absurd no
      one_of (Some v) e h =
          let within = get_below p.locals x v e in
          let count = sound.locals.count in
          let t = there_is (local_types a.body) x (omega (arith, within, count)) in
          typed_there a.program.classes p.store t.0 o (subst (λ u. has_type a.program.classes p.store t.0 u ≡ true) h (sound.locals.types x t.0 v t.1 e))

  -- fields that have their values keep them
  pub given_later : (n : ℕ) (z : List Object) → IsLater a.program.classes n p.store z → (g : ℕ) → HasGiven a.program p.store (this_of p.locals) g → HasGiven a.program z (this_of p.locals) g
  given_later n z later g given o x is there null =
      let y = local_there 0 o is in
      later_given a.program n p.store z later (this_of p.locals) o y.0 is y.1 g given o x is there null
