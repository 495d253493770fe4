-- Statements, contracts and invariants of the types of the language.
use Rattle.std.specs.Prelude.{ℕ, List, [], ◌∷◌, Bool, true, false, not, ◌==◌, ◌&&◌, ◌||◌, if◌then◌else◌, Option, Some, None, is_some, find, option_and_then, slice_get}
use Rattle.std.specs.List.{list_all, list_any}
use Rattle.ss_core.specs.declared.names.Mark.{Mark}
use Rattle.ss_core.specs.declared.names.Mark.TheVariants as mark
use Rattle.ss_core.specs.declared.names.Ty.{Ty}
use Rattle.ss_core.specs.declared.names.Ty.TheVariants as ty
use Rattle.ss_core.specs.Tree.{ClassTree, FieldTree, EntryTree, LocalTree, DefaultTree, AtLevel, Unpacked, ThisUnowned, Defaults, OwnedFull, Full, ConsistentArgument, FullArgument, Captured, ExprTree, DefaultExpr, CalleeTree, Dispatched, Static, Base, BaseConstructor, ExposedTree, StmtTree, AssignStmt, WriteStmt, WriteElementStmt, NewStmt, NewArrayStmt, CallStmt, ReadyStmt, IfStmt, LoopStmt, UnpackStmt, PackStmt, AssertStmt, AssumeStmt, PrintStmt, PrintTextStmt, ReturnStmt, NamedTree, FieldOf, AllOf, ElementsOf, UptoOf, BodyTree, CoreTree}
use Rattle.ss_core.specs.Chain.{is_declared, declared, above, is_type, DeclaredField, all_fields}
pub use Rattle.ss_core.specs.Chain.{table_of, table}
use Rattle.ss_core.specs.Types.{is_class_type}
use Rattle.ss_store_rules.specs.Changes.{below, is_array}
use Rattle.ss_store_rules.specs.Admissible.{is_this}
use Rattle.ss_store_rules.specs.Locals.{types_of, local_types, is_argument, is_result, is_bound, reads_only}
use Rattle.ss_store_rules.specs.Types.{class_type, has_fitting, is_int, is_bool, has_class, is_reference, field_read_type, element_of, type_of, Words, in_code, in_requires, in_assert, in_ensures, code_type, is_condition}

-- ---- declarations

abbrev pub is_plain : Mark → Bool
is_plain mark.Plain = true
is_plain mark.Rep = false
is_plain mark.Peer = false

-- a field of references alone may be marked
abbrev pub is_field : List ClassTree → FieldTree → Bool
is_field cs f = is_type cs f.ty && (is_plain f.mark || is_class_type f.ty)

-- a parameter of references alone may be captured
abbrev pub is_local : List ClassTree → LocalTree → Bool
is_local cs l = is_type cs l.ty && (not l.captured || is_class_type l.ty)

abbrev pub are_declared : List ClassTree → List Ty → Bool
are_declared cs ts = list_all (is_type cs) ts

-- ---- bodies by number and by class

abbrev pub body_at : CoreTree → ℕ → Option BodyTree
body_at c n = slice_get c.bodies n

abbrev pub is_constructor_of : ℕ → BodyTree → Bool
is_constructor_of t b = b.flags.ctor && b.class == t

-- the first constructor of the class; a formed program has one of each
abbrev pub constructor_of : CoreTree → ℕ → Option BodyTree
constructor_of c t = find (is_constructor_of t) c.bodies

abbrev pub is_instance_method : BodyTree → Bool
is_instance_method b = not b.flags.is_static && not b.flags.ctor

-- the body at this place of the table of the class
abbrev pub method_at : CoreTree → ℕ → ℕ → Option BodyTree
method_at c t m = option_and_then (λ e. body_at c e.body) (slice_get (table c.classes t) m)

abbrev pub stands_in_table : CoreTree → ℕ → ℕ → Bool
stands_in_table c t n = list_any (λ e. e.body == n) (table c.classes t)

abbrev pub where_body : (BodyTree → Bool) → Option BodyTree → Option BodyTree
where_body test None = None
where_body test (Some b) = if test b then Some b else None

-- The body that a call names in the text of b: that of the receiver's static class, a static method, a method of the class above,
-- or the constructor of the class above.
abbrev pub callee_of : CoreTree → BodyTree → CalleeTree → Option BodyTree
callee_of c b (Dispatched e t m) = where_body is_instance_method (method_at c t m)
callee_of c b (Static n) = where_body (λ callee. callee.flags.is_static) (body_at c n)
callee_of c b (Base n) = where_body (λ callee. is_instance_method callee && not b.flags.is_static && stands_in_table c (above c.classes b.class) n) (body_at c n)
callee_of c b (BaseConstructor n) = where_body (λ callee. is_constructor_of (above c.classes b.class) callee && b.flags.ctor) (body_at c n)

-- the class named with the receiver is its static class
abbrev pub is_receiver : List ClassTree → BodyTree → CalleeTree → Bool
is_receiver cs b (Dispatched e t m) = has_class (λ c. c == t) (code_type cs b e)
is_receiver cs b callee = true

-- ---- statements

-- the expression may stand where a value of the type is wanted
abbrev pub has_type_in : List ClassTree → BodyTree → ExprTree → Ty → Bool
has_type_in cs b e t = has_fitting cs (code_type cs b e) t

-- the arguments fit the parameters, one by one
abbrev pub have_types_in : List ClassTree → BodyTree → List ExprTree → List Ty → Bool
have_types_in cs b [] [] = true
have_types_in cs b [] (t ∷ ts) = false
have_types_in cs b (e ∷ es) [] = false
have_types_in cs b (e ∷ es) (t ∷ ts) = has_type_in cs b e t && have_types_in cs b es ts

abbrev pub fits_declared : List ClassTree → Option Ty → Option Ty → Bool
fits_declared cs a None = false
fits_declared cs a (Some t) = has_fitting cs a t

-- what has this type, if it has one, may be assigned to the local
abbrev pub fits_local : List ClassTree → BodyTree → Option Ty → ℕ → Bool
fits_local cs b a x = fits_declared cs a (slice_get (local_types b) x)

-- a result of this type is dropped or fits its local
abbrev pub fits_kept : List ClassTree → BodyTree → Option ℕ → Option Ty → Bool
fits_kept cs b None a = true
fits_kept cs b (Some x) a = fits_local cs b a x

abbrev pub is_call_of : List ClassTree → BodyTree → Option ℕ → List ExprTree → Option BodyTree → Bool
is_call_of cs b x es None = false
is_call_of cs b x es (Some callee) = have_types_in cs b es (types_of callee.params) && fits_kept cs b x callee.result

abbrev pub same_mark : Mark → Mark → Bool
same_mark mark.Plain mark.Plain = true
same_mark mark.Rep mark.Rep = true
same_mark mark.Peer mark.Peer = true
same_mark m n = false

-- the write has the field's own mark and the class that declares it
abbrev pub is_write_of : List ClassTree → BodyTree → ExprTree → Mark → ℕ → ExprTree → Option DeclaredField → Bool
is_write_of cs b o m t e None = false
is_write_of cs b o m t e (Some d) = same_mark m d.field.mark && t == d.class && has_class (λ c. below cs c t) (code_type cs b o) && has_type_in cs b e d.field.ty

abbrev pub is_element_write : List ClassTree → BodyTree → ExprTree → Option Ty → Bool
is_element_write cs b e None = false
is_element_write cs b e (Some t) = has_type_in cs b e t

-- nothing, a number or a truth value
abbrev pub is_printed : List ClassTree → BodyTree → Option ExprTree → Bool
is_printed cs b None = true
is_printed cs b (Some e) = is_int (code_type cs b e) || is_bool (code_type cs b e)

-- a result is returned exactly where the body has one
abbrev pub is_returned : List ClassTree → BodyTree → Option Ty → Option ExprTree → Bool
is_returned cs b None None = true
is_returned cs b None (Some e) = false
is_returned cs b (Some t) None = false
is_returned cs b (Some t) (Some e) = has_type_in cs b e t

-- The statement of b has the types of the language; those inside it aren't looked at.
abbrev pub is_typed : CoreTree → BodyTree → StmtTree → Bool
is_typed c b (AssignStmt p x e) = fits_local c.classes b (code_type c.classes b e) x
is_typed c b (WriteStmt p o f m t e) = is_write_of c.classes b o m t e (slice_get (all_fields c.classes) f)
is_typed c b (WriteElementStmt p a i e) = is_int (code_type c.classes b i) && is_element_write c.classes b e (element_of c.classes (code_type c.classes b a))
is_typed c b (NewStmt p x t es) = is_declared c.classes t && fits_kept c.classes b x (Some (class_type t)) && is_call_of c.classes b None es (constructor_of c t)
is_typed c b (NewArrayStmt p x t e) = is_array c.classes t && fits_kept c.classes b x (Some (class_type t)) && is_int (code_type c.classes b e)
is_typed c b (CallStmt p x callee es) = is_receiver c.classes b callee && is_call_of c.classes b x es (callee_of c b callee)
is_typed c b (ReadyStmt p) = true
is_typed c b (IfStmt p e one other) = is_condition c.classes b in_code e
is_typed c b (LoopStmt p invariants prelude e body exposes) = list_all (is_condition c.classes b in_assert) invariants && is_condition c.classes b in_code e
is_typed c b (UnpackStmt p x t) = true
is_typed c b (PackStmt p x t) = true
is_typed c b (AssertStmt p e) = is_condition c.classes b in_assert e
is_typed c b (AssumeStmt p e) = is_condition c.classes b in_code e
is_typed c b (PrintStmt p e newline) = is_printed c.classes b e
is_typed c b (PrintTextStmt p text newline) = true
is_typed c b (ReturnStmt p e) = is_returned c.classes b b.result e

-- the local is of the class t, which is a declared one, or of one below it
abbrev pub is_exposable : List ClassTree → BodyTree → ℕ → ℕ → Bool
is_exposable cs b x t = is_declared cs t && has_class (λ c. below cs c t) (slice_get (local_types b) x)

-- what is unpacked or packed, and what a loop names as exposed
abbrev pub has_exposable : List ClassTree → BodyTree → StmtTree → Bool
has_exposable cs b (UnpackStmt p x t) = is_exposable cs b x t
has_exposable cs b (PackStmt p x t) = is_exposable cs b x t
has_exposable cs b (LoopStmt p invariants prelude e body exposes) = list_all (λ (x : ExposedTree). is_exposable cs b x.local x.class) exposes
has_exposable cs b s = true

-- ---- contracts

-- a parameter of references, with or without null
abbrev pub is_reference_argument : BodyTree → ℕ → Bool
is_reference_argument b x = is_argument b x && (b.flags.is_static || not (x == 0)) && has_class (λ c. true) (slice_get (local_types b) x)

-- a default condition of the body: it speaks of `this` only where the body has it, and of no other class than that of the body
abbrev pub is_default_of : BodyTree → DefaultTree → Bool
is_default_of b (AtLevel t) = not b.flags.is_static && t == b.class
is_default_of b Unpacked = not b.flags.is_static
is_default_of b ThisUnowned = not b.flags.is_static
is_default_of b (Defaults t) = not b.flags.is_static && t == b.class
is_default_of b (OwnedFull t) = not b.flags.is_static && t == b.class
is_default_of b Full = not b.flags.is_static
is_default_of b (ConsistentArgument x) = is_reference_argument b x
is_default_of b (FullArgument x) = is_reference_argument b x
is_default_of b (Captured x apart) = is_reference_argument b x && (not apart || not b.flags.is_static)

-- a default condition stands alone; a written one reads no other locals than these
abbrev pub is_contract : List ClassTree → BodyTree → Words → (ℕ → Bool) → ExprTree → Bool
is_contract cs b w among (DefaultExpr p d) = is_default_of b d
is_contract cs b w among e = is_condition cs b w e && reads_only among e

-- at entry: the arguments
abbrev pub is_entry : List ClassTree → BodyTree → ExprTree → Bool
is_entry cs b e = is_contract cs b in_requires (λ x. is_argument b x || is_bound b x) e

-- at exit: the result too
abbrev pub is_exit : List ClassTree → BodyTree → ExprTree → Bool
is_exit cs b e = is_contract cs b in_ensures (λ x. is_argument b x || is_result b x || is_bound b x) e

-- an expression over the arguments, of which the test says whether its type will do
abbrev pub is_named_by : List ClassTree → BodyTree → (Option Ty → Bool) → ExprTree → Bool
is_named_by cs b test e = test (code_type cs b e) && reads_only (λ x. is_argument b x || is_bound b x) e

-- What the body may change: a field, all of an object, the elements of an array, or `this` as the class of the body knows it. All of the
-- literal `null` is nothing.
abbrev pub is_named : List ClassTree → BodyTree → NamedTree → Bool
is_named cs b (FieldOf e f) = is_named_by cs b (λ a. is_some (field_read_type cs a (slice_get (all_fields cs) f))) e
is_named cs b (AllOf e) = is_named_by cs b is_reference e
is_named cs b (ElementsOf e) = is_named_by cs b (has_class (is_array cs)) e
is_named cs b (UptoOf e t) = is_this e && not b.flags.is_static && t == b.class

-- ---- invariants

-- an invariant may read `this` and its bound names
abbrev pub invariant_types : ℕ → List Ty
invariant_types t = ty.Ref (record { 0 = t }) true ∷ []

abbrev pub is_invariant : List ClassTree → ℕ → ExprTree → Bool
is_invariant cs t e = is_bool (type_of cs (invariant_types t) e)
