-- What a call of a good frame enters, and with what.
use Rattle.std.specs.Prelude.{◌≡◌, ℕ, List, ◌∷◌, true, Option, Some, slice_get}
use Rattle.ss_core.specs.Tree.{ExprTree, CalleeTree, Dispatched, BodyTree, CoreTree}
use Rattle.ss_core.specs.Chain.{below}
use Rattle.ss_store_rules.specs.declared.Value.{Value}
use Rattle.ss_store_rules.specs.declared.Value.TheVariants as value
use Rattle.ss_store_rules.specs.Store.{Object}
use Rattle.ss_store_rules.specs.Reads.{object_at}
use Rattle.ss_store_rules.specs.Typed.{is_instance_method, method_at}
use Rattle.ss_machine_rules.specs.States.{Frame}
use Rattle.ss_vcgen_heaps.specs.Contracts.{seen, called}
use Rattle.ss_sound_outcomes.specs.Points.{ArePassed}

-- The arguments are passed to the body that the text names, which is the one that is entered.
pub record IsPassed (c : CoreTree) (f : Frame) (s : List Object) (callee : CalleeTree) (entered : Option BodyTree) (arguments : List Value) : Type 0 where
  pub body : BodyTree
  pub is_named : called c f.body callee ≡ Some body
  pub is_entered : entered ≡ Some body
  pub passed : ArePassed c body s arguments

-- A call that is dispatched on the object at o: the method `from` that the class t has at the place m of its table, and the method `to` that the
-- object's class has there, which is entered. The arguments are passed to both.
pub record IsDispatched (c : CoreTree) (f : Frame) (s : List Object) (e : ExprTree) (t m o : ℕ) (arguments : List Value) : Type 0 where
  pub object : Object
  pub there : slice_get s o ≡ Some object
  pub is_object : object_at s o ≡ object
  pub class : below c.classes object.class t ≡ true
  pub from : BodyTree
  pub names : method_at c t m ≡ Some from
  pub instance : is_instance_method from ≡ true
  pub is_named : called c f.body (Dispatched e t m) ≡ Some (seen from)
  pub to : BodyTree
  pub enters : method_at c object.class m ≡ Some to
  pub passed_from : ArePassed c from s (value.Obj o ∷ arguments)
  pub passed_seen : ArePassed c (seen from) s (value.Obj o ∷ arguments)
  pub passed_to : ArePassed c to s (value.Obj o ∷ arguments)
