-- Bodies whose names mean in the elaboration what they mean in the source.
use Rattle.std.specs.Prelude.{◌≡◌, ℕ, List, map, Bool, true, false, Some, ◌&&◌, nat_le, nat_lt, slice_get}
use Rattle.ss_core.specs.Tree as core
use Rattle.ss_typed.specs.Tree.{ParamTree, BodyTree, TypedTree}
use Rattle.ss_paths.specs.Sets.{none}
use Rattle.ss_nonnull_rules.specs.NonNull as source
use Rattle.ss_nonnull_rules.specs.Program.{null_context_of}
use Rattle.ss_expand_rules.specs.Contracts.{first_param}
use Rattle.ss_expand_rules.specs.Bodies.{first_copy, numbers, temporary_count, written_body}
use Rattle.ss_store_rules.specs.Locals.{types_of, local_types}
use Rattle.ss_store_rules.specs.Typed.{callee_of}
use Rattle.ss_expand_formed.specs.Fitting.{Frame, is_reference_type}

-- the parameters and the locals that the body declares
abbrev pub is_own_of : BodyTree → ℕ → Bool
is_own_of b x = nat_le (first_param b) x && nat_lt x (first_copy b)

-- The body that elaborates a written one with these declarations, whose object has these fields, and all their values or not.
abbrev pub body_frame : core.CoreTree → TypedTree → BodyTree → List BodyTree → (ℕ → Bool) → Bool → Frame
body_frame c p b bs fields free = record {
  program = c;
  body = written_body p b bs;
  context = null_context_of p b;
  typed = p;
  written = b;
  numbers = numbers b (temporary_count p b);
  locals = is_own_of b;
  mine = λ x. is_own_of b x && is_reference_type (slice_get (local_types (written_body p b bs)) x);
  fields = fields;
  free = free;
}

-- Of a method nothing is asked of the fields of its object, which is no new one.
abbrev pub method_frame : core.CoreTree → TypedTree → BodyTree → List BodyTree → Frame
method_frame c p b bs = body_frame c p b bs (λ f. false) true

-- the body that a wrapper of the method b calls takes and gives what b does
pub record Wraps (c : core.CoreTree) (y : core.BodyTree) (n : ℕ) (b : BodyTree) : Type 0 where
  pub callee : core.BodyTree
  pub there : callee_of c y (core.Base n) ≡ Some callee
  pub params : types_of callee.params ≡ map (λ (q : ParamTree). q.ty) b.params
  pub result : callee.result ≡ b.result

-- at the entry of a constructor: nothing of locals, and no field is assigned
abbrev pub nothing_known : source.Known
nothing_known = record { facts = none; fields = record { own = none; above = false } }
