-- Paths read from the left: how an expression ends decides what may still be made of it. A bare name, the word `base` and a name after
-- a dot may be read, stand before a dot or be called; what they are for is known only from what stands after them.
use Rattle.std.specs.Prelude.{◌≡◌, ℕ, Bool, List, [], ◌∷◌, ◌++◌, Option, None, option_and_then, true, false, if◌then◌else◌}
use Rattle.ss_core.specs.declared.names.Place.{Place}
use Rattle.ss_core.specs.declared.names.Ty.{Ty}
use Rattle.ss_ast.specs.Expressions.{NameTree, TypeTree, ExprTree, Arguments, IffOf, ImpliesOf, BinaryOf, IsOf, AsOf, NegateOf, NotOf, CastOf, MemberOf, ElementOf, CallOf, NumberOf, TextOf, TruthOf, NullOf, ThisOf, BaseOf, ResultOf, NameOf, ParenOf, OldOf, NewOf, NewArrayOf, QuantifiedOf}
use Rattle.ss_ast.specs.Programs.{ClassTree}
use Rattle.ss_tables.specs.Types.{class_of, element_type}
use Rattle.ss_tables.specs.Scopes.{Scope, within_quantifier}
use Rattle.ss_tables.specs.Statics.{Receiver, TheBase, AValue, name_receiver, name_type, read_type, receiver, Callee, ABase, NoCallee, name_callee, member_callee, count, called_with, call_type, callee, static}
use Rattle.ss_faults.specs.declared.Fault.{Fault}
use Rattle.ss_resolver_types_heads.specs.declared.heads.Form.{Form}
use Rattle.ss_resolver_types_heads.specs.declared.heads.Form.TheVariants as form
use Rattle.ss_resolver_types_heads.specs.Faults.{bad_type}
use Rattle.ss_resolver_types_heads.specs.Wants.{Want, AnInt, ABool, AReference, AnArray, AnyValue, OfType, Printable, OfDeclared, OfClass, ClassName, Known, known, misfit, gives_nothing}
use Rattle.ss_resolver_types_heads.specs.Calls.{ExprContext, Called, Refused, called_name, called_member, whole_call, argument_wants}
use Rattle.ss_resolver_types_heads.specs.Expressions.{AsCallee, AsValue, name_faults, is_value_receiver, read_faults, word_faults, is_question, operand_faults, condition_faults, no_class, faults, argument_faults}

pub data Head : Type 0 where
  ABareName : Place → List ℕ → Head
  ABaseWord : Place → Head
  -- a name after a dot, with what stands before the dot
  AMember : Place → Receiver → Known → NameTree → Head
  -- it ends otherwise
  AValueOf : Form → Known → Head

abbrev pub ending : Scope → ExprTree → Head
ending s (NameOf p n) = ABareName p n
ending s (BaseOf p) = ABaseWord p
ending s (MemberOf p e n) = AMember p (receiver s e (static s e)) (known s e) n
ending s (ElementOf p e i) = AValueOf form.Element (known s (ElementOf p e i))
ending s (CallOf p f es) = AValueOf (form.Call (is_question (callee s f))) (known s (CallOf p f es))
ending s (NewOf p n es) = AValueOf form.New (known s (NewOf p n es))
ending s (NewArrayOf p q t e) = AValueOf form.New (known s (NewArrayOf p q t e))
ending s (IffOf p a b) = AValueOf form.Other (known s (IffOf p a b))
ending s (ImpliesOf p a b) = AValueOf form.Other (known s (ImpliesOf p a b))
ending s (BinaryOf p o a b) = AValueOf form.Other (known s (BinaryOf p o a b))
ending s (IsOf p e t) = AValueOf form.Other (known s (IsOf p e t))
ending s (AsOf p e t) = AValueOf form.Other (known s (AsOf p e t))
ending s (NegateOf p e) = AValueOf form.Other (known s (NegateOf p e))
ending s (NotOf p e) = AValueOf form.Other (known s (NotOf p e))
ending s (CastOf p t e) = AValueOf form.Other (known s (CastOf p t e))
ending s (NumberOf p n) = AValueOf form.Other (known s (NumberOf p n))
ending s (TextOf p x) = AValueOf form.Other (known s (TextOf p x))
ending s (TruthOf p b) = AValueOf form.Other (known s (TruthOf p b))
ending s (NullOf p) = AValueOf form.Other (known s (NullOf p))
ending s (ThisOf p) = AValueOf form.Other (known s (ThisOf p))
ending s (ResultOf p) = AValueOf form.Other (known s (ResultOf p))
ending s (ParenOf p e) = AValueOf form.Other (known s (ParenOf p e))
ending s (OldOf p e) = AValueOf form.Other (known s (OldOf p e))
ending s (QuantifiedOf p q n low high e) = AValueOf form.Other (known s (QuantifiedOf p q n low high e))

-- ---- what is known of the expression

abbrev pub value_at : Place → Option Ty → Known
value_at p t = record { place = p; ty = t; is_nothing = false }

abbrev pub known_at : Scope → Head → Known
known_at s (ABareName p n) = value_at p (name_type s n)
known_at s (ABaseWord p) = value_at p None
known_at s (AMember p r v n) = value_at p (read_type s.classes n.text r)
known_at s (AValueOf f v) = v

-- what it is before a dot
abbrev pub receiver_at : Scope → Head → Receiver
receiver_at s (ABareName p n) = name_receiver s n (name_type s n)
receiver_at s (ABaseWord p) = TheBase
receiver_at s (AMember p r v n) = AValue (read_type s.classes n.text r)
receiver_at s (AValueOf f v) = AValue v.ty

-- what a call of it calls
abbrev pub callee_at : Scope → Head → Callee
callee_at s (ABareName p n) = name_callee s n
callee_at s (ABaseWord p) = ABase
callee_at s (AMember p r v n) = member_callee s n.text r
callee_at s (AValueOf f v) = NoCallee

-- what a call of it with so many arguments means
abbrev pub called_at : ExprContext → ℕ → Head → Called
called_at a count (ABareName p n) = called_name a n
called_at a count (ABaseWord p) = Refused
called_at a count (AMember p r v n) = called_member a count v n.text r
called_at a count (AValueOf f v) = Refused

-- ---- faults besides those that it has where it is called

-- where its value is read
abbrev pub rest_read : ExprContext → Head → List Fault
rest_read a (ABareName p n) = name_faults a p n
rest_read a (ABaseWord p) = bad_type p ∷ []
rest_read a (AMember p r v n) = read_faults a.scope.classes p v n.text r
rest_read a (AValueOf f v) = []

-- where it stands before a dot
abbrev pub rest_dot : ExprContext → Head → List Fault
rest_dot a (ABareName p n) = if is_value_receiver (name_receiver a.scope n None) then name_faults a p n else []
rest_dot a (ABaseWord p) = []
rest_dot a (AMember p r v n) = read_faults a.scope.classes p v n.text r
rest_dot a (AValueOf f v) = []

-- where its value is read, and isn't what is wanted
abbrev pub rest_as : ExprContext → Want → Head → List Fault
rest_as a w h = rest_read a h ++ misfit a.scope.classes w (known_at a.scope h)

-- ---- arguments, and the member of a quantifier

-- the argument is to name a class
abbrev pub names_class : Want → Bool
names_class ClassName = true
names_class AnInt = false
names_class ABool = false
names_class AReference = false
names_class AnArray = false
names_class AnyValue = false
names_class (OfType t) = false
names_class Printable = false
names_class OfDeclared = false
names_class (OfClass d) = false

abbrev pub is_printed : Want → Bool
is_printed Printable = true
is_printed AnInt = false
is_printed ABool = false
is_printed AReference = false
is_printed AnArray = false
is_printed AnyValue = false
is_printed (OfType t) = false
is_printed OfDeclared = false
is_printed (OfClass d) = false
is_printed ClassName = false

abbrev pub within_bound : ExprContext → NameTree → ExprContext
within_bound a n = record a { scope = within_quantifier a.scope n }

-- ---- one part more

-- after faults that were there before, an expression was read up to what the next part decides
pub record IsWalked (a : ExprContext) (before now : List Fault) (h : Head) (e : ExprTree) : Type 0 where
  pub is : h ≡ ending a.scope e
  pub noted : now ≡ before ++ faults a AsCallee e

-- what stands after any expression that was walked, by the head and the faults that it leaves
pub record Leads (a : ExprContext) (old : List Fault) (from : Head) (new : List Fault) (to : Head) (behind : ExprTree → ExprTree) : Type 0 where
  pub on : (e : ExprTree) (before : List Fault) → IsWalked a before old from e → IsWalked a before new to (behind e)

abbrev pub dotted : Scope → Place → Head → NameTree → Head
dotted s p h n = AMember p (receiver_at s h) (known_at s h) n

abbrev pub dot_faults : ExprContext → Head → NameTree → List Fault
dot_faults a h n = rest_dot a h ++ word_faults a.scope.classes (known_at a.scope h) n.text (receiver_at a.scope h)

abbrev pub element : Scope → Place → Head → Head
element s p h = AValueOf form.Element (value_at p (option_and_then element_type (option_and_then class_of (known_at s h).ty)))

-- a call of this with so many arguments
abbrev pub call : List ClassTree → Place → ℕ → Callee → Head
call cs p n c = AValueOf (form.Call (is_question c)) (record { place = p; ty = call_type cs (called_with n c); is_nothing = gives_nothing (called_with n c) })

-- the faults of a call besides those of what is called
abbrev pub call_faults : ExprContext → Place → Bool → Called → Arguments → List Fault
call_faults a p is_call c es =
    condition_faults a p is_call ++ whole_call p (count es) c ++ argument_faults a (argument_wants (count es) c) es

-- those of an operation besides its first operand's where it is called, with what both are to be and the second operand
abbrev pub operation_faults : ExprContext → Place → Option Want → Head → ExprTree → List Fault
operation_faults a p want h e = rest_read a h ++ faults a AsValue e ++ operand_faults a.scope.classes p want (known_at a.scope h) (known a.scope e)

abbrev pub class_test_faults : ExprContext → Head → TypeTree → List Fault
class_test_faults a h t = rest_as a AReference h ++ no_class t
