-- What is looked up in a resolved program, and the bodies of the core program in their order.
use Rattle.std.specs.Prelude.{ℕ, ◌+◌, ◌==◌, List, [], ◌∷◌, ◌++◌, Bool, false, not, ◌&&◌, ◌||◌, if◌then◌else◌, Option, Some, None, option_and_then, unwrap_or, position, slice_get}
use Rattle.ss_core.specs.Tree.{ClassTree, EntryTree}
use Rattle.ss_core.specs.Chain.{declared, above, DeclaredField, all_fields}
pub use Rattle.ss_core.specs.Chain.{table_of}
use Rattle.ss_typed.specs.Tree.{BodyTree, TypedTree}
use Rattle.ss_typed.specs.Lookups.{body_at}

-- ---- look-ups

abbrev pub above_of : TypedTree → ℕ → ℕ
above_of p t = above p.classes t

-- the table of a class's methods, which names written bodies; `object` has none
abbrev pub table : TypedTree → ℕ → List EntryTree
table p t = table_of (declared p.classes t)

-- the written body that stands at this place of the class's table
abbrev pub method_at : TypedTree → ℕ → ℕ → Option BodyTree
method_at p t m = option_and_then (λ e. body_at p e.body) (slice_get (table p t) m)

-- the field of this number, with the class that declares it
abbrev pub field_at : TypedTree → ℕ → Option DeclaredField
field_at p f = slice_get (all_fields p.classes) f

-- ---- bodies of the core program

-- what a body of the core program is: the constructor of a class, or what a class has of its own at this place of its table
pub data Origin : Type 0 where
  Constructor : ℕ → Origin
  Method : ℕ → ℕ → Origin

abbrev pub is_declared_by : ℕ → Option BodyTree → Bool
is_declared_by t None = false
is_declared_by t (Some b) = b.class == t

-- Wrappers: a class that inherits an instance method has a body of its own for it, unless the method is pure or has no default
-- contract.
abbrev pub is_wrapped : Option BodyTree → Bool
is_wrapped None = false
is_wrapped (Some b) = not b.flags.is_static && not b.flags.pure && not b.flags.no_default_contract

-- the class has a body of its own for what stands in its table
abbrev pub is_own : ℕ → Option BodyTree → Bool
is_own t b = is_declared_by t b || is_wrapped b

-- the methods of these entries, of which the first stands at place m
abbrev pub methods_from : TypedTree → ℕ → ℕ → List EntryTree → List Origin
methods_from p t m [] = []
methods_from p t m (e ∷ es) = if is_own t (body_at p e.body) then Method t m ∷ methods_from p t (m + 1) es else methods_from p t (m + 1) es

-- of a class the constructor first, and then its methods in the order of its table
abbrev pub bodies_of_class : TypedTree → ℕ → List Origin
bodies_of_class p t = Constructor t ∷ methods_from p t 0 (table p t)

abbrev pub bodies_from : TypedTree → ℕ → List ClassTree → List Origin
bodies_from p t [] = []
bodies_from p t (c ∷ cs) = bodies_of_class p t ++ bodies_from p (t + 2) cs

-- class by class
abbrev pub bodies : TypedTree → List Origin
bodies p = bodies_from p 4 p.classes

abbrev pub same_origin : Origin → Origin → Bool
same_origin (Constructor t) (Constructor u) = t == u
same_origin (Constructor t) (Method u m) = false
same_origin (Method t m) (Constructor u) = false
same_origin (Method t m) (Method u n) = t == u && m == n

-- the number of a body is its place among them
abbrev pub number_of : TypedTree → Origin → ℕ
number_of p o = unwrap_or (position (same_origin o) (bodies p)) 0

-- the place in the table of the method with this written body
abbrev pub place_in : ℕ → List EntryTree → ℕ
place_in n es = unwrap_or (position (λ (e : EntryTree). e.body == n) es) 0

abbrev pub written : TypedTree → ℕ → Option BodyTree → Origin
written p n None = Method 0 0
written p n (Some b) = Method b.class (place_in n (table p b.class))

-- the number of a written method
abbrev pub number_of_written : TypedTree → ℕ → ℕ
number_of_written p n = number_of p (written p n (body_at p n))

-- what a class has at place m of its table, where the written body n stands: its own, or the one that it inherits as it is
abbrev pub entry_number : TypedTree → ℕ → ℕ → ℕ → ℕ
entry_number p t m n = if is_own t (body_at p n) then number_of p (Method t m) else number_of_written p n

abbrev pub entry_number_in : TypedTree → ℕ → ℕ → Option EntryTree → ℕ
entry_number_in p t m None = 0
entry_number_in p t m (Some e) = entry_number p t m e.body

-- the body that the table of the class names at this place
abbrev pub number_in_table : TypedTree → ℕ → ℕ → ℕ
number_in_table p t m = entry_number_in p t m (slice_get (table p t) m)

abbrev pub entries_from : TypedTree → ℕ → ℕ → List EntryTree → List EntryTree
entries_from p t m [] = []
entries_from p t m (e ∷ es) = record { name = e.name; body = entry_number p t m e.body } ∷ entries_from p t (m + 1) es
