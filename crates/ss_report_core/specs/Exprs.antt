-- The text of an expression: an operation, a test and a cast stand in parentheses.
use Rattle.std.specs.Prelude.{ℕ, List, [], ◌∷◌, ◌++◌, codes, Bool, true, false, if◌then◌else◌}
use Rattle.std.specs.Fmt.{signed_decimal}
use Rattle.ss_core.specs.declared.expr.Operator.{Operator}
use Rattle.ss_core.specs.declared.expr.Operator.TheVariants as operator
use Rattle.ss_core.specs.declared.expr.Quantifier.{Quantifier}
use Rattle.ss_core.specs.declared.expr.Quantifier.TheVariants as quantifier
use Rattle.ss_core.specs.Tree.{WordTree, Consistent, Committed, New, Level, Packed, Unowned, OwnersTree, SameOwner, OwnedAt, ExprTree, IntExpr, BoolExpr, NullExpr, LocalExpr, FieldExpr, ElementExpr, LengthExpr, NegateExpr, NotExpr, BinaryExpr, ImpliesExpr, IffExpr, IsExpr, AsExpr, CastExpr, OldExpr, QuantifiedExpr, StateExpr, OwnersExpr, DefaultExpr, ClassTree}
use Rattle.ss_report_names.specs.Names.{class_name, field_name, marked, local_text}

abbrev pub bool_text : Bool → List ℕ
bool_text true = codes "true"
bool_text false = codes "false"

abbrev pub operator_text : Operator → List ℕ
operator_text operator.Or = codes " || "
operator_text operator.And = codes " && "
operator_text operator.Equal = codes " == "
operator_text operator.NotEqual = codes " != "
operator_text operator.Less = codes " < "
operator_text operator.LessEqual = codes " <= "
operator_text operator.Greater = codes " > "
operator_text operator.GreaterEqual = codes " >= "
operator_text operator.Add = codes " + "
operator_text operator.Subtract = codes " - "
operator_text operator.Multiply = codes " * "
operator_text operator.Divide = codes " / "
operator_text operator.Remainder = codes " % "

abbrev pub quantifier_text : Quantifier → List ℕ
quantifier_text quantifier.Forall = codes "forall"
quantifier_text quantifier.Exists = codes "exists"

-- what is asked of the object whose text stands before it
abbrev pub word_text : List ClassTree → WordTree → List ℕ
word_text cs Consistent = codes ".IsConsistent"
word_text cs Committed = codes ".IsCommitted"
word_text cs New = codes ".IsNew"
word_text cs (Level t) = codes ".IsLevel(" ++ class_name cs t ++ codes ")"
word_text cs (Packed t) = codes ".IsPacked(" ++ class_name cs t ++ codes ")"
word_text cs Unowned = []

-- a question about the state of the object that the expression of this text gives
abbrev pub state_text : List ClassTree → WordTree → List ℕ → List ℕ
state_text cs Unowned e = codes "Owner.None(" ++ e ++ codes ")"
state_text cs word e = e ++ word_text cs word

abbrev pub owners_text : List ClassTree → OwnersTree → List ℕ → List ℕ → List ℕ
owners_text cs SameOwner a b = codes "Owner.Same(" ++ a ++ codes ", " ++ b ++ codes ")"
owners_text cs (OwnedAt t) a b = codes "Owner.Is(" ++ a ++ codes ", " ++ b ++ codes ", " ++ class_name cs t ++ codes ")"

-- a quantifier up to its bounds
abbrev pub head_text : List (List ℕ) → Quantifier → List ℕ → List ℕ
head_text names q name = quantifier_text q ++ codes "{int " ++ marked names name ++ codes " in ("

-- an exclamation mark after a class that null doesn't pass
abbrev pub null_mark : Bool → List ℕ
null_mark non_null = if non_null then codes "!" else []

-- The text of an expression over these names of locals and, after them, of bound names. A condition of a default contract stands in no text, and
-- nothing is written for it.
abbrev pub expr_text : List ClassTree → List (List ℕ) → ExprTree → List ℕ
expr_text cs names (IntExpr p n) = signed_decimal n
expr_text cs names (BoolExpr p b) = bool_text b
expr_text cs names (NullExpr p) = codes "null"
expr_text cs names (LocalExpr p x) = local_text names x
expr_text cs names (FieldExpr p e f) = expr_text cs names e ++ codes "." ++ field_name cs f
expr_text cs names (ElementExpr p a i) = expr_text cs names a ++ codes "[" ++ expr_text cs names i ++ codes "]"
expr_text cs names (LengthExpr p e) = expr_text cs names e ++ codes ".Length"
expr_text cs names (NegateExpr p e) = codes "(- " ++ expr_text cs names e ++ codes ")"
expr_text cs names (NotExpr p e) = codes "(! " ++ expr_text cs names e ++ codes ")"
expr_text cs names (BinaryExpr p o a b) = codes "(" ++ expr_text cs names a ++ operator_text o ++ expr_text cs names b ++ codes ")"
expr_text cs names (ImpliesExpr p a b) = codes "(" ++ expr_text cs names a ++ codes " ==> " ++ expr_text cs names b ++ codes ")"
expr_text cs names (IffExpr p a b) = codes "(" ++ expr_text cs names a ++ codes " <==> " ++ expr_text cs names b ++ codes ")"
expr_text cs names (IsExpr p e t) = codes "(" ++ expr_text cs names e ++ codes " is " ++ class_name cs t ++ codes ")"
expr_text cs names (AsExpr p e t) = codes "(" ++ expr_text cs names e ++ codes " as " ++ class_name cs t ++ codes ")"
expr_text cs names (CastExpr p t non_null e) = codes "((" ++ class_name cs t ++ null_mark non_null ++ codes ") " ++ expr_text cs names e ++ codes ")"
expr_text cs names (OldExpr p e) = codes "old(" ++ expr_text cs names e ++ codes ")"
expr_text cs names (QuantifiedExpr p q name low high e) = head_text names q name ++ expr_text cs names low ++ codes ": " ++ expr_text cs names high ++ codes "); " ++ expr_text cs (names ++ name ∷ []) e ++ codes "}"
expr_text cs names (StateExpr p w e) = state_text cs w (expr_text cs names e)
expr_text cs names (OwnersExpr p w a b) = owners_text cs w (expr_text cs names a) (expr_text cs names b)
expr_text cs names (DefaultExpr p d) = []
