-- Expressions as plain trees, which every definition speaks of: a chain is grouped to the left, and so is a path.
use Rattle.std.specs.Prelude.{ℕ, ℤ, Bool, List, [], ◌∷◌, string_bytes}
use Rattle.ss_core.specs.declared.names.Place.{Place}
use Rattle.ss_ast.specs.declared.expr.Name.{Name}
use Rattle.ss_ast.specs.declared.expr.TypeName.{TypeName}
use Rattle.ss_ast.specs.declared.expr.TypeName.TheVariants as named
use Rattle.ss_ast.specs.declared.expr.TypeRef.{TypeRef}
use Rattle.ss_core.specs.declared.expr.Operator.{Operator}
use Rattle.ss_core.specs.declared.expr.Quantifier.{Quantifier}
use Rattle.ss_ast.specs.declared.expr.Expr.{Expr}
use Rattle.ss_ast.specs.declared.expr.Expr.TheFolds.{fold-Expr}
use Rattle.ss_ast.specs.declared.expr.Expr.TheOpen as shape
use Rattle.ss_ast.specs.declared.expr.Expr.TheOpen.{Expr-F, Link-F, Postfix-F}

-- a name where it is written
pub record NameTree : Type 0 where
  pub text : List ℕ
  pub place : Place

pub data TypeNameTree : Type 0 where
  IntType : TypeNameTree
  BoolType : TypeNameTree
  ObjectType : TypeNameTree
  ClassType : List ℕ → TypeNameTree

-- a type as it is written: its name, and whether `[]` and `!` stand after it
pub record TypeTree : Type 0 where
  pub place : Place
  pub name : TypeNameTree
  pub is_array : Bool
  pub non_null : Bool

-- an expression, each part with the place of its first byte; and a list of arguments
mutual
  pub data ExprTree : Type 0 where
    IffOf : Place → ExprTree → ExprTree → ExprTree
    ImpliesOf : Place → ExprTree → ExprTree → ExprTree
    BinaryOf : Place → Operator → ExprTree → ExprTree → ExprTree
    IsOf : Place → ExprTree → TypeTree → ExprTree
    AsOf : Place → ExprTree → TypeTree → ExprTree
    NegateOf : Place → ExprTree → ExprTree
    NotOf : Place → ExprTree → ExprTree
    CastOf : Place → TypeTree → ExprTree → ExprTree
    MemberOf : Place → ExprTree → NameTree → ExprTree
    ElementOf : Place → ExprTree → ExprTree → ExprTree
    CallOf : Place → ExprTree → Arguments → ExprTree
    NumberOf : Place → ℤ → ExprTree
    TextOf : Place → List ℕ → ExprTree
    TruthOf : Place → Bool → ExprTree
    NullOf : Place → ExprTree
    ThisOf : Place → ExprTree
    BaseOf : Place → ExprTree
    ResultOf : Place → ExprTree
    NameOf : Place → List ℕ → ExprTree
    ParenOf : Place → ExprTree → ExprTree
    OldOf : Place → ExprTree → ExprTree
    NewOf : Place → NameTree → Arguments → ExprTree
    NewArrayOf : Place → Place → TypeNameTree → ExprTree → ExprTree
    QuantifiedOf : Place → Quantifier → NameTree → ExprTree → ExprTree → ExprTree → ExprTree

  pub data Arguments : Type 0 where
    NoMore : Arguments
    Argument : ExprTree → Arguments → Arguments

abbrev pub arguments : List ExprTree → Arguments
arguments [] = NoMore
arguments (e ∷ es) = Argument e (arguments es)

-- ---- the trees that values of the code stand for

abbrev pub name_tree : Name → NameTree
name_tree n = record { text = string_bytes n.text; place = n.place }

abbrev pub type_name_tree : TypeName → TypeNameTree
type_name_tree named.Int = IntType
type_name_tree named.Bool = BoolType
type_name_tree named.Object = ObjectType
type_name_tree (named.Class n) = ClassType (string_bytes n)

abbrev pub type_tree : TypeRef → TypeTree
type_tree t = record { place = t.place; name = type_name_tree t.name; is_array = t.is_array; non_null = t.non_null }

-- what stands after an operand or the beginning of a path makes a larger tree of what stands before it
abbrev pub Behind : Type 0
Behind = Place → ExprTree → ExprTree

abbrev pub grouped : Place → ExprTree → List Behind → ExprTree
grouped p e [] = e
grouped p e (b ∷ bs) = grouped p (b p e) bs

abbrev pub expr_step : Expr-F ExprTree Behind Behind → ExprTree
expr_step (shape.Iff p a b) = IffOf p a.value b.value
expr_step (shape.Implies p a b) = ImpliesOf p a.value b.value
expr_step (shape.Chain p e links) = grouped p e.value links.items
expr_step (shape.Negate p e) = NegateOf p e.value
expr_step (shape.Not p e) = NotOf p e.value
expr_step (shape.Cast p t e) = CastOf p (type_tree t) e.value
expr_step (shape.Path p e postfixes) = grouped p e.value postfixes.items
expr_step (shape.Number p n) = NumberOf p n
expr_step (shape.Text p t) = TextOf p t.items
expr_step (shape.Truth p b) = TruthOf p b
expr_step (shape.Null p) = NullOf p
expr_step (shape.This p) = ThisOf p
expr_step (shape.Base p) = BaseOf p
expr_step (shape.Result p) = ResultOf p
expr_step (shape.Name p n) = NameOf p (string_bytes n)
expr_step (shape.Paren p e) = ParenOf p e.value
expr_step (shape.Old p e) = OldOf p e.value
expr_step (shape.New p n es) = NewOf p (name_tree n) (arguments es.items)
expr_step (shape.NewArray p q t e) = NewArrayOf p q (type_name_tree t) e.value
expr_step (shape.Quantified p q n low high e) = QuantifiedOf p q (name_tree n) low.value high.value e.value

abbrev pub link_step : Link-F ExprTree Behind Behind → Behind
link_step (shape.Operation op e) p a = BinaryOf p op a e
link_step (shape.Is t) p a = IsOf p a (type_tree t)
link_step (shape.As t) p a = AsOf p a (type_tree t)

abbrev pub postfix_step : Postfix-F ExprTree Behind Behind → Behind
postfix_step (shape.Member n) p a = MemberOf p a (name_tree n)
postfix_step (shape.Element e) p a = ElementOf p a e
postfix_step (shape.Call es) p a = CallOf p a (arguments es.items)

abbrev pub expr_tree : Expr → ExprTree
expr_tree = fold-Expr ExprTree Behind Behind expr_step link_step postfix_step
