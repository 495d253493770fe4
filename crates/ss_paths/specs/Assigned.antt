-- The fields of the `this` of a constructor that have their values on every path to a point (OOPSLA 2003).
use Rattle.std.specs.Prelude.{ℕ, ◌==◌, ◌+◌, ◌-◌, Bool, true, false, not, ◌&&◌, ◌||◌, if◌then◌else◌, Option, Some, None, is_some, slice_get, nat_le}
use Rattle.ss_ast.specs.declared.stmt.AssignOperator.TheVariants as assign
use Rattle.ss_typed.specs.Tree.{ExprTree, FieldOf, SimpleTree, AssignOf, BaseCallOf, BodyTree, FieldTree, TypedTree}
use Rattle.ss_typed.specs.Shapes.{has_base, in_block, is_this}
use Rattle.ss_paths.specs.Sets.{Set, put, both}
use Rattle.ss_paths.specs.Fields.{Numbers, is_among, written_fields}
use Rattle.ss_paths.specs.Paths.{Flow}

pub record Assigned : Type 0 where
  -- the fields of its class that are assigned, by their place in the class
  pub own : Set
  -- `base(..)` has given the fields of the classes above their values
  pub above : Bool

-- the field of the `this` of a constructor has its value, where its class declares the fields of these numbers
abbrev pub has_field : Numbers → Assigned → ℕ → Bool
has_field n a f = if is_among n f then a.own (f - n.first) else a.above

-- the field of `this` on the left is assigned
abbrev pub own_assigned : Numbers → ExprTree → Set → Set
own_assigned n (FieldOf p e f t) own = if is_this e && is_among n f then put (f - n.first) true own else own
own_assigned n l own = own

abbrev pub assigned_by : Numbers → SimpleTree → Assigned → Assigned
assigned_by n (AssignOf l assign.Set e) a = record a { own = own_assigned n l a.own }
assigned_by n (BaseCallOf p es) a = record a { above = true }
assigned_by n s a = a

abbrev pub both_assigned : Assigned → Assigned → Assigned
both_assigned a b = record { own = both a.own b.own; above = a.above && b.above }

-- Nothing undoes an assignment, so the head of a loop forgets nothing.
abbrev pub assigned_flow : Numbers → Flow Assigned
assigned_flow n = record {
  declared = λ d a. a;
  done = assigned_by n;
  tested = λ e v a. a;
  meet = both_assigned;
  head = λ s step a. a;
}

-- ---- where a constructor begins

abbrev pub starts_with_value : Option FieldTree → Bool
starts_with_value None = false
starts_with_value (Some f) = is_some f.initial

-- the field at this place of the class has an initializer
unfoldable pub has_initializer : TypedTree → ℕ → Set
has_initializer p t i = starts_with_value (slice_get (written_fields p t) i)

-- after the initializers, which come before all else
abbrev pub assigned_by_initializers : TypedTree → ℕ → Assigned
assigned_by_initializers p t = record { own = has_initializer p t; above = false }

-- At the beginning of the block. `: base(..)` has been called, or the `base(..)` that is implied where none is written: where that one comes
-- after the first assignments, these read no field of `this`, so it makes no difference.
abbrev pub assigned_first : TypedTree → BodyTree → Assigned
assigned_first p b = record (assigned_by_initializers p b.class) { above = not (has_base (in_block b.block)) }
