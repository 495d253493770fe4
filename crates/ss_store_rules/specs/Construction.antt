-- Constructors (OOPSLA 2003). A delayed one doesn't let its `this` out. One that isn't gives the fields of its class their values
-- first, then comes `base(..)`, and then `this` is ready.
use Rattle.std.specs.Prelude.{ℕ, List, [], ◌∷◌, Bool, true, false, not, ◌==◌, ◌&&◌, ◌||◌, ◌+◌, if◌then◌else◌, Option, Some, None}
use Rattle.std.specs.List.{list_all}
use Rattle.ss_core.specs.Tree.{ClassTree, ExprTree, LocalExpr, FieldExpr, ElementExpr, LengthExpr, NegateExpr, NotExpr, BinaryExpr, ImpliesExpr, IffExpr, IsExpr, AsExpr, CastExpr, OldExpr, QuantifiedExpr, StateExpr, OwnersExpr, Base, BaseConstructor, StmtTree, WriteStmt, CallStmt, ReadyStmt, IfStmt, LoopStmt, UnpackStmt, PackStmt, ReturnStmt, CodeTree, NoCode, Then, BodyTree, CoreTree}
use Rattle.ss_core.specs.Chain.{above, DeclaredField, all_fields}
use Rattle.ss_store_rules.specs.Changes.{below}
use Rattle.ss_store_rules.specs.Good.{is_non_null}
use Rattle.ss_store_rules.specs.Admissible.{is_this}
use Rattle.ss_store_rules.specs.Locals.{reads_only, is_default, each, all_evaluated}
use Rattle.ss_store_rules.specs.Typed.{constructor_of}
use Rattle.ss_store_rules.specs.Paths.{Check, at_end, holds_along, where_reached}
use Rattle.ss_store_rules.specs.NonNull.{Known, known_at_entry, known_flow}

-- ---- `this` in expressions

abbrev pub is_without_this : ExprTree → Bool
is_without_this e = reads_only (λ x. not (x == 0)) e

-- `this` stands only where a field of it is read
abbrev pub has_this_in_fields : ExprTree → Bool
has_this_in_fields (LocalExpr p x) = not (x == 0)
has_this_in_fields (FieldExpr p e f) = is_this e || has_this_in_fields e
has_this_in_fields (ElementExpr p a i) = has_this_in_fields a && has_this_in_fields i
has_this_in_fields (LengthExpr p e) = has_this_in_fields e
has_this_in_fields (NegateExpr p e) = has_this_in_fields e
has_this_in_fields (NotExpr p e) = has_this_in_fields e
has_this_in_fields (BinaryExpr p o a b) = has_this_in_fields a && has_this_in_fields b
has_this_in_fields (ImpliesExpr p a b) = has_this_in_fields a && has_this_in_fields b
has_this_in_fields (IffExpr p a b) = has_this_in_fields a && has_this_in_fields b
has_this_in_fields (IsExpr p e t) = has_this_in_fields e
has_this_in_fields (AsExpr p e t) = has_this_in_fields e
has_this_in_fields (CastExpr p t non_null e) = has_this_in_fields e
has_this_in_fields (OldExpr p e) = has_this_in_fields e
has_this_in_fields (QuantifiedExpr p q name low high e) = has_this_in_fields low && has_this_in_fields high && has_this_in_fields e
has_this_in_fields (StateExpr p w e) = has_this_in_fields e
has_this_in_fields (OwnersExpr p w a b) = has_this_in_fields a && has_this_in_fields b
has_this_in_fields e = true

-- ---- `this` in statements

-- the statement names `this` only to read or to write a field of it, or to pack it
abbrev pub keeps_this_in : StmtTree → Bool
keeps_this_in (WriteStmt p o f m t e) = (is_this o || has_this_in_fields o) && has_this_in_fields e
keeps_this_in (CallStmt p x (Base n) es) = false
keeps_this_in (UnpackStmt p x t) = not (x == 0)
keeps_this_in s = all_evaluated has_this_in_fields s

-- the statement names `this` only to write a field that the class t declares
abbrev pub only_writes_this : ℕ → StmtTree → Bool
only_writes_this t (WriteStmt p o f m u e) = (is_this o && u == t || is_without_this o) && is_without_this e
only_writes_this t (CallStmt p x (Base n) es) = false
only_writes_this t (UnpackStmt p x u) = not (x == 0)
only_writes_this t (PackStmt p x u) = not (x == 0)
only_writes_this t s = all_evaluated is_without_this s

-- a write of a field of `this` is one of a field that the class t declares
abbrev pub writes_own : ℕ → StmtTree → Bool
writes_own t (WriteStmt p o f m u e) = not (is_this o) || u == t
writes_own t s = true

-- ---- where `base(..)` and `ready this` stand

abbrev pub is_base_or_ready : StmtTree → Bool
is_base_or_ready (CallStmt p x (BaseConstructor n) es) = true
is_base_or_ready (ReadyStmt p) = true
is_base_or_ready s = false

abbrev pub has_no_base_or_ready : CodeTree → Bool
has_no_base_or_ready code = each (λ s. not (is_base_or_ready s)) code

-- the statements before the first of the two among the outermost ones
abbrev pub opening : CodeTree → CodeTree
opening NoCode = NoCode
opening (Then s code) = if is_base_or_ready s then NoCode else Then s (opening code)

-- the statements from there on, none where neither stands there
abbrev pub after_opening : CodeTree → CodeTree
after_opening NoCode = NoCode
after_opening (Then s code) = if is_base_or_ready s then Then s code else after_opening code

-- the code begins with `base(..)` and then with `ready this`, each where it is wanted, and neither stands anywhere else
abbrev pub begins_with : Bool → Bool → CodeTree → Bool
begins_with false false code = has_no_base_or_ready code
begins_with true ready (Then (CallStmt p x (BaseConstructor n) es) code) = begins_with false ready code
begins_with false true (Then (ReadyStmt p) code) = has_no_base_or_ready code
begins_with base ready code = false

abbrev pub is_below_object : CoreTree → BodyTree → Bool
is_below_object c b = above c.classes b.class == 0

abbrev pub is_delayed_constructor : Option BodyTree → Bool
is_delayed_constructor None = false
is_delayed_constructor (Some b) = b.flags.delayed

-- the constructor of `object` counts as delayed
abbrev pub has_delayed_base : CoreTree → BodyTree → Bool
has_delayed_base c b = is_below_object c b || is_delayed_constructor (constructor_of c (above c.classes b.class))

abbrev pub wants_base : CoreTree → BodyTree → Bool
wants_base c b = b.flags.ctor && not (is_below_object c b)

abbrev pub wants_ready : CoreTree → BodyTree → Bool
wants_ready c b = b.flags.ctor && not b.flags.delayed && has_delayed_base c b

abbrev pub is_return : StmtTree → Bool
is_return (ReturnStmt p e) = true
is_return s = false

-- the arguments of `base(..)`, where the code begins with it, are without `this`
abbrev pub has_base_without_this : CodeTree → Bool
has_base_without_this (Then (CallStmt p x (BaseConstructor n) es) code) = list_all is_without_this es
has_base_without_this code = true

-- ---- fields that are assigned

-- each non-null field with a number from n on that one of these classes declares is one of these
abbrev pub has_fields_from : (ℕ → Bool) → (ℕ → Bool) → ℕ → List DeclaredField → Bool
has_fields_from classes fields n [] = true
has_fields_from classes fields n (d ∷ ds) = (not (classes d.class && is_non_null d.field.ty) || fields n) && has_fields_from classes fields (n + 1) ds

-- those of the class t
abbrev pub has_own_fields : List ClassTree → ℕ → Known → Bool
has_own_fields cs t k = has_fields_from (λ u. u == t) k.fields 0 (all_fields cs)

-- those of the class t and of the classes above it
abbrev pub has_all_fields : List ClassTree → ℕ → Known → Bool
has_all_fields cs t k = has_fields_from (below cs t) k.fields 0 (all_fields cs)

abbrev pub returns_complete : CoreTree → BodyTree → StmtTree → Known → Bool
returns_complete c b (ReturnStmt p e) k = has_all_fields c.classes b.class k
returns_complete c b s k = true

abbrev pub complete_check : CoreTree → BodyTree → Check Known
complete_check c b = record { statement = returns_complete c b; test = λ e k. true }

-- ---- packs of `this` in a delayed constructor

abbrev pub begins_with_return : CodeTree → Bool
begins_with_return NoCode = false
begins_with_return (Then s code) = is_return s

abbrev mutual
  -- `this` is packed only at the class t and directly before a return
  pub packs_at_returns_inside : ℕ → StmtTree → Bool
  packs_at_returns_inside t (IfStmt p e a b) = packs_at_returns t a && packs_at_returns t b
  packs_at_returns_inside t (LoopStmt p invariants prelude e body exposes) = packs_at_returns t prelude && packs_at_returns t body
  packs_at_returns_inside t s = true

  pub packs_at_returns : ℕ → CodeTree → Bool
  packs_at_returns t NoCode = true
  packs_at_returns t (Then s code) = is_pack_before t code s && packs_at_returns_inside t s && packs_at_returns t code

  -- the statement, after which this code stands, is no pack of `this` but such a one
  pub is_pack_before : ℕ → CodeTree → StmtTree → Bool
  is_pack_before t code (PackStmt p x u) = not (x == 0) || u == t && begins_with_return code
  is_pack_before t code s = true

-- ---- what is asked of a body

-- a written condition at entry says nothing of the `this` of a constructor
abbrev pub requires_nothing_of_this : BodyTree → Bool
requires_nothing_of_this b = not b.flags.ctor || list_all (λ e. is_default e || is_without_this e) b.entry

-- `base(..)` and `ready this` stand once each where they are wanted, among the outermost statements and the second directly after the first
abbrev pub starts_in_order : CoreTree → BodyTree → Bool
starts_in_order c b = has_no_base_or_ready (opening b.code) && begins_with (wants_base c b) (wants_ready c b) (after_opening b.code)

-- every path to the end passes them, and before them `this` has only fields of the class written
abbrev pub has_opening : CoreTree → BodyTree → Bool
has_opening c b = not (wants_base c b || wants_ready c b) || each (λ s. not (is_return s) && writes_own b.class s) (opening b.code)

abbrev pub if_delayed : BodyTree → Bool → Bool
if_delayed b condition = not b.flags.delayed || condition

-- each non-null field of the class and of those above it is assigned on every path to each return
abbrev pub returns_with_fields : CoreTree → BodyTree → Bool
returns_with_fields c b = holds_along (known_flow c b) (complete_check c b) b.code (Some (known_at_entry b))

abbrev pub if_undelayed : BodyTree → Bool → Bool
if_undelayed b condition = not b.flags.ctor || b.flags.delayed || condition

-- up to `base(..)` and `ready this`, the arguments of the first included, `this` is only written to
abbrev pub writes_this_first : BodyTree → Bool
writes_this_first b = each (only_writes_this b.class) (opening b.code) && has_base_without_this (after_opening b.code)

-- and there each non-null field of the class is assigned on every path
abbrev pub is_ready_with_fields : CoreTree → BodyTree → Bool
is_ready_with_fields c b = where_reached (has_own_fields c.classes b.class) (at_end (known_flow c b) (opening b.code) (Some (known_at_entry b)))
