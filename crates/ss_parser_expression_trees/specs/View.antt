-- What the values of the code stand for.
use Rattle.std.specs.Prelude.{List, [], ◌∷◌, Bool, false}
use Rattle.ss_core.specs.declared.names.Place.{Place}
use Rattle.ss_ast.specs.Expressions.{expr_tree, type_tree, type_name_tree}
use Rattle.ss_grammar_expressions.specs.Heads.{LinkHead, Operation, IsHead, AsHead, TypeHead, Ranked, Head, NegateHead, NotHead, OpenHead, Leaf, OldHead, NewHead, QuantifierHead}
use Rattle.ss_grammar_expressions.specs.Grammar.{Enclosed, AType, AnExpr}
use Rattle.ss_parser_expression_trees.specs.declared.heads.Start.{Start}
use Rattle.ss_parser_expression_trees.specs.declared.heads.Joint.{Joint}
use Rattle.ss_parser_expression_trees.specs.declared.heads.Joint.TheVariants as joint
use Rattle.ss_parser_expression_trees.specs.declared.heads.RankedJoint.{RankedJoint}
use Rattle.ss_parser_expression_trees.specs.declared.heads.Opening.{Opening}
use Rattle.ss_parser_expression_trees.specs.declared.heads.Opening.TheVariants as opening
use Rattle.ss_parser_expression_trees.specs.declared.heads.UnaryStart.{UnaryStart}
use Rattle.ss_parser_expression_trees.specs.declared.heads.UnaryStart.TheVariants as unary
use Rattle.ss_parser_expression_trees.specs.declared.build.Inside.{Inside}
use Rattle.ss_parser_expression_trees.specs.declared.build.Inside.TheVariants as inside

abbrev pub start_of : Start → TypeHead
start_of s = record { place = s.place; name = type_name_tree s.name }

abbrev pub joint_of : Joint → LinkHead
joint_of (joint.Operation op) = Operation op
joint_of joint.Is = IsHead
joint_of joint.As = AsHead

abbrev pub ranked_of : RankedJoint → Ranked
ranked_of r = record { rank = r.rank; head = joint_of r.joint }

abbrev pub opening_of : Place → Opening → Head
opening_of p opening.Negate = NegateHead p
opening_of p opening.Not = NotHead p
opening_of p opening.Paren = OpenHead p

abbrev pub unary_start_of : UnaryStart → Head
unary_start_of (unary.Opening p o) = opening_of p o
unary_start_of (unary.Leaf p e) = Leaf p (expr_tree e.value)
unary_start_of (unary.Old p) = OldHead p
unary_start_of (unary.New p) = NewHead p
unary_start_of (unary.Quantifier p q) = QuantifierHead p q

abbrev pub inside_of : Inside → Enclosed
inside_of (inside.Type t) = AType (type_tree t)
inside_of (inside.Expr e) = AnExpr (expr_tree e.value)
