-- Tables of methods: what the table of a class has in place of each method of the class above.
use Rattle.std.specs.Prelude.{◌≡◌, ℕ, List, ◌++◌, map, length, take, drop, Bool, true, false, not, ◌==◌, ◌&&◌, ◌||◌, ◌-◌, nat_lt, if◌then◌else◌, Option, Some, None, bytes_eq, slice_get}
use Rattle.std.specs.List.{list_all, list_any}
pub use Rattle.ss_core.specs.Parts.{no_place}
use Rattle.ss_core.specs.Tree.{ClassTree, EntryTree, LocalTree, DefaultTree, AtLevel, ExprTree, IntExpr, BoolExpr, NullExpr, LocalExpr, FieldExpr, ElementExpr, LengthExpr, NegateExpr, NotExpr, BinaryExpr, ImpliesExpr, IffExpr, IsExpr, AsExpr, CastExpr, OldExpr, QuantifiedExpr, StateExpr, OwnersExpr, DefaultExpr, NamedTree, FieldOf, AllOf, ElementsOf, UptoOf, BodyTree, CoreTree}
use Rattle.ss_core.specs.Chain.{is_declared, above}
use Rattle.ss_store_rules.specs.Changes.{below}
use Rattle.ss_store_rules.specs.Locals.{types_of, argument_count}
use Rattle.ss_store_rules.specs.Typed.{body_at, table}

-- ---- Contracts of two bodies are compared by what they are in bodies without other locals: the arguments keep their numbers, and after
-- them stand the result and then the bound names.

abbrev pub normal_number : BodyTree → ℕ → ℕ
normal_number b x = if nat_lt x (argument_count b) then x else x - length b.locals

-- level 1 of a default condition is the class of the body, whatever that is
abbrev pub normal_default : DefaultTree → DefaultTree
normal_default (AtLevel t) = AtLevel 0
normal_default d = d

-- A condition of the body. The place of a default condition doesn't matter.
abbrev pub normal_condition : BodyTree → ExprTree → ExprTree
normal_condition b (IntExpr p n) = IntExpr p n
normal_condition b (BoolExpr p v) = BoolExpr p v
normal_condition b (NullExpr p) = NullExpr p
normal_condition b (LocalExpr p x) = LocalExpr p (normal_number b x)
normal_condition b (FieldExpr p e f) = FieldExpr p (normal_condition b e) f
normal_condition b (ElementExpr p a i) = ElementExpr p (normal_condition b a) (normal_condition b i)
normal_condition b (LengthExpr p e) = LengthExpr p (normal_condition b e)
normal_condition b (NegateExpr p e) = NegateExpr p (normal_condition b e)
normal_condition b (NotExpr p e) = NotExpr p (normal_condition b e)
normal_condition b (BinaryExpr p o x y) = BinaryExpr p o (normal_condition b x) (normal_condition b y)
normal_condition b (ImpliesExpr p x y) = ImpliesExpr p (normal_condition b x) (normal_condition b y)
normal_condition b (IffExpr p x y) = IffExpr p (normal_condition b x) (normal_condition b y)
normal_condition b (IsExpr p e t) = IsExpr p (normal_condition b e) t
normal_condition b (AsExpr p e t) = AsExpr p (normal_condition b e) t
normal_condition b (CastExpr p t non_null e) = CastExpr p t non_null (normal_condition b e)
normal_condition b (OldExpr p e) = OldExpr p (normal_condition b e)
normal_condition b (QuantifiedExpr p q name low high e) = QuantifiedExpr p q name (normal_condition b low) (normal_condition b high) (normal_condition b e)
normal_condition b (StateExpr p w e) = StateExpr p w (normal_condition b e)
normal_condition b (OwnersExpr p w x y) = OwnersExpr p w (normal_condition b x) (normal_condition b y)
normal_condition b (DefaultExpr p d) = DefaultExpr no_place (normal_default d)

-- `this.*` is what the class of the body knows of it; it has no place that matters either
abbrev pub normal_named : BodyTree → NamedTree → NamedTree
normal_named b (FieldOf e f) = FieldOf (normal_condition b e) f
normal_named b (AllOf e) = AllOf (normal_condition b e)
normal_named b (ElementsOf e) = ElementsOf (normal_condition b e)
normal_named b (UptoOf e t) = UptoOf (LocalExpr no_place 0) 0

abbrev pub normal_entry : BodyTree → List ExprTree
normal_entry b = map (normal_condition b) b.entry

abbrev pub normal_exit : BodyTree → List ExprTree
normal_exit b = map (normal_condition b) b.exit

abbrev pub all_normal_named : BodyTree → List NamedTree
all_normal_named b = map (normal_named b) b.named

-- ---- what stands in place of what

abbrev pub captures : List LocalTree → List Bool
captures ls = map (λ l. l.captured) ls

-- The body `to`, an override or a wrapper, stands for the body `from` of the class above.
pub record StandsFor (from to : BodyTree) : Type 0 where
  -- it is called in the same way
  pub params : types_of to.params ≡ types_of from.params
  pub captured : captures to.params ≡ captures from.params
  pub result : to.result ≡ from.result
  pub static : to.flags.is_static ≡ from.flags.is_static
  pub pure : to.flags.pure ≡ from.flags.pure
  -- it asks and may change the same
  pub entry : normal_entry to ≡ normal_entry from
  pub named : all_normal_named to ≡ all_normal_named from
  -- and promises at least the same
  pub more : List ExprTree
  pub exit : normal_exit to ≡ normal_exit from ++ more

abbrev pub is_level : DefaultTree → Bool
is_level (AtLevel t) = true
is_level d = false

-- the condition that `this` is at a level
abbrev pub is_at_level : ExprTree → Bool
is_at_level (DefaultExpr p d) = is_level d
is_at_level e = false

-- a body that says nothing of level 1 serves the classes below too
abbrev pub is_shared : BodyTree → Bool
is_shared b = not (list_any is_at_level b.entry) && not (list_any is_at_level b.exit)

-- ---- tables

-- the body of the entry is a method of its name, of the class t or one above it
abbrev pub is_method : List ClassTree → ℕ → EntryTree → Option BodyTree → Bool
is_method cs t e None = false
is_method cs t e (Some b) = bytes_eq b.name e.name && not b.flags.ctor && below cs t b.class

abbrev pub is_method_of : ℕ → Option BodyTree → Bool
is_method_of t None = false
is_method_of t (Some b) = b.class == t

abbrev pub table_above : CoreTree → ℕ → List EntryTree
table_above c t = table c.classes (above c.classes t)

-- What the table of a class t has at the place of a method of the class above: the same body, where that serves t too, or one of t that
-- stands for it.
pub data Replaces (t : ℕ) (old new : EntryTree) (from to : BodyTree) : Type 0 where
  Shared : new.body ≡ old.body → from.flags.is_static || is_shared from ≡ true → Replaces t old new from to
  Overrides : to.class ≡ t → from.flags.is_static ≡ false → StandsFor from to → Replaces t old new from to

-- The table of the class t.
pub record IsTable (c : CoreTree) (t : ℕ) : Type 0 where
  pub methods : list_all (λ e. is_method c.classes t e (body_at c e.body)) (table c.classes t) ≡ true
  -- it begins with the names of the table above, in their order
  pub names : map (λ e. e.name) (take (length (table_above c t)) (table c.classes t)) ≡ map (λ e. e.name) (table_above c t)
  -- after them stand methods of the class itself
  pub own : list_all (λ e. is_method_of t (body_at c e.body)) (drop (length (table_above c t)) (table c.classes t)) ≡ true
  pub inherited : (m : ℕ) (old new : EntryTree) (from to : BodyTree) → slice_get (table_above c t) m ≡ Some old → slice_get (table c.classes t) m ≡ Some new → body_at c old.body ≡ Some from → body_at c new.body ≡ Some to → Replaces t old new from to

-- each declared class has its table
abbrev pub AreTables : CoreTree → Type 0
AreTables c = (t : ℕ) → is_declared c.classes t ≡ true → IsTable c t
