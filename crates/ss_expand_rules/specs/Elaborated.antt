-- The core program that a resolved program means.
use Rattle.std.specs.Prelude.{ℕ, ◌+◌, List, [], ◌∷◌, map, filter_map, if◌then◌else◌, Option, Some, None, option_and_then, option_map}
use Rattle.ss_core.specs.Tree as core
use Rattle.ss_core.specs.Chain.{declared}
use Rattle.ss_typed.specs.Tree.{BodyTree, InvariantTree, MembersTree, TypedTree}
use Rattle.ss_expand_rules.specs.Program.{method_at, Origin, Constructor, Method, is_declared_by, bodies, number_of_written, entries_from}
use Rattle.ss_typed.specs.Lookups.{constructor_of, members_of}
use Rattle.ss_expand_rules.specs.Numbers.{Numbers, plain}
use Rattle.ss_expand_rules.specs.Constructors.{implicit_constructor}
use Rattle.ss_expand_rules.specs.Contracts.{declarations}
use Rattle.ss_expand_rules.specs.Bodies.{numbers_from, written_body, wrapper_body}

-- ---- bodies

abbrev pub constructor_alone : TypedTree → BodyTree → core.BodyTree
constructor_alone p b = written_body p b (b ∷ [])

abbrev pub implicit_in : ℕ → Option core.ClassTree → Option MembersTree → Option BodyTree
implicit_in t None m = None
implicit_in t (Some c) None = None
implicit_in t (Some c) (Some m) = Some (implicit_constructor t c.name m.place)

abbrev pub or_implicit : TypedTree → ℕ → Option BodyTree → Option BodyTree
or_implicit p t (Some b) = Some b
or_implicit p t None = implicit_in t (declared p.classes t) (members_of p t)

abbrev pub constructor_body : TypedTree → ℕ → Option core.BodyTree
constructor_body p t = option_map (constructor_alone p) (or_implicit p t (constructor_of p t))

abbrev pub wrapper_at : TypedTree → ℕ → ℕ → BodyTree → Option MembersTree → Option core.BodyTree
wrapper_at p t m b None = None
wrapper_at p t m b (Some members) = Some (wrapper_body p members.place t m b (declarations p t m))

-- what the class declares, or the wrapper of what it inherits
abbrev pub method_body : TypedTree → ℕ → ℕ → BodyTree → Option core.BodyTree
method_body p t m b = if is_declared_by t (Some b) then Some (written_body p b (declarations p t m)) else wrapper_at p t m b (members_of p t)

abbrev pub body_of : TypedTree → Origin → Option core.BodyTree
body_of p (Constructor t) = constructor_body p t
body_of p (Method t m) = option_and_then (method_body p t m) (method_at p t m)

-- ---- classes

-- an invariant has `this` and the names of its quantifiers
abbrev pub invariant_numbers : Numbers
invariant_numbers = numbers_from [] 1 0 None

abbrev pub invariants_in : Option MembersTree → List core.ExprTree
invariants_in None = []
invariants_in (Some m) = map (λ (i : InvariantTree). plain invariant_numbers i.condition) m.invariants

-- the class of number t with its invariants, and with the numbers of the core program in its table
abbrev pub class_of : TypedTree → ℕ → core.ClassTree → core.ClassTree
class_of p t c = record c { invariants = invariants_in (members_of p t); table = entries_from p t 0 c.table }

abbrev pub classes_from : TypedTree → ℕ → List core.ClassTree → List core.ClassTree
classes_from p t [] = []
classes_from p t (c ∷ cs) = class_of p t c ∷ classes_from p (t + 2) cs

-- ---- the program

abbrev pub elaborated : TypedTree → core.CoreTree
elaborated p = record {
  classes = classes_from p 4 p.classes;
  bodies = filter_map (body_of p) (bodies p);
  main = number_of_written p p.main;
}
