-- What the values of the code stand for.
use Rattle.std.specs.Global.{Box}
use Rattle.std.specs.Prelude.{map, Option, Some, None}
use Rattle.ss_core.specs.declared.names.Place.{Place}
use Rattle.ss_ast.specs.declared.expr.Expr.{Expr}
use Rattle.ss_ast.specs.declared.stmt.ForInit.{ForInit}
use Rattle.ss_ast.specs.declared.stmt.Simple.{Simple}
use Rattle.ss_ast.specs.Expressions.{ExprTree, name_tree, expr_tree}
use Rattle.ss_ast.specs.Statements.{ForInitTree, SimpleTree, stmt_trees, stmt_tree, for_init_tree, simple_tree}
use Rattle.ss_parser_expression_trees.specs.View.{start_of}
use Rattle.ss_grammar_statements.specs.Heads.{PrimHead, ParenPrim, LeafPrim, OldPrim, NewPrim, QuantifierPrim, SimpleHead, AssignHead, StepHead, StartHead, TypeFirst, NameFirst, PrimFirst, StmtHead, BlockFirst, StartFirst, IfFirst, WhileFirst, ForFirst, ReturnFirst, AssertFirst, AssumeFirst, ExposeFirst, EmptyFirst}
use Rattle.ss_grammar_statements.specs.Grammar.{Listed, HeadingTree}
use Rattle.ss_parser_statement_trees.specs.declared.heads.PrimStart.{PrimStart}
use Rattle.ss_parser_statement_trees.specs.declared.heads.PrimStart.TheVariants as prim
use Rattle.ss_parser_statement_trees.specs.declared.heads.SimpleStart.{SimpleStart}
use Rattle.ss_parser_statement_trees.specs.declared.heads.SimpleStart.TheVariants as simple
use Rattle.ss_parser_statement_trees.specs.declared.heads.InitStart.{InitStart}
use Rattle.ss_parser_statement_trees.specs.declared.heads.InitStart.TheVariants as init
use Rattle.ss_parser_statement_trees.specs.declared.heads.StmtWord.{StmtWord}
use Rattle.ss_parser_statement_trees.specs.declared.heads.StmtWord.TheVariants as word
use Rattle.ss_parser_statement_trees.specs.declared.heads.StmtStart.{StmtStart}
use Rattle.ss_parser_statement_trees.specs.declared.heads.StmtStart.TheVariants as stmt
use Rattle.ss_parser_statement_trees.specs.declared.build.StmtList.{StmtList}
use Rattle.ss_parser_statement_trees.specs.declared.build.Heading.{Heading}

abbrev pub prim_start_of : PrimStart → PrimHead
prim_start_of (prim.Paren p) = ParenPrim p
prim_start_of (prim.Leaf p e) = LeafPrim p (expr_tree e.value)
prim_start_of (prim.Old p) = OldPrim p
prim_start_of (prim.New p) = NewPrim p
prim_start_of (prim.Quantifier p q) = QuantifierPrim p q

abbrev pub simple_start_of : SimpleStart → SimpleHead
simple_start_of (simple.Assign op) = AssignHead op
simple_start_of (simple.Step op) = StepHead op

abbrev pub init_start_of : InitStart → StartHead
init_start_of (init.Type t) = TypeFirst (start_of t)
init_start_of (init.Name n) = NameFirst (name_tree n)
init_start_of (init.Prim h) = PrimFirst (prim_start_of h)

abbrev pub word_first : Place → StmtWord → StmtHead
word_first p word.If = IfFirst p
word_first p word.While = WhileFirst p
word_first p word.For = ForFirst p
word_first p word.Return = ReturnFirst p
word_first p word.Assert = AssertFirst p
word_first p word.Assume = AssumeFirst p
word_first p word.Expose = ExposeFirst p

abbrev pub stmt_start_of : StmtStart → StmtHead
stmt_start_of (stmt.Block p) = BlockFirst p
stmt_start_of (stmt.Init h) = StartFirst (init_start_of h)
stmt_start_of (stmt.Word p w) = word_first p w
stmt_start_of (stmt.Empty p) = EmptyFirst p

abbrev pub listed_of : StmtList → Listed
listed_of l = record { statements = stmt_trees (map stmt_tree l.statements.items); end = l.end }

-- parts that may be absent, in their boxes
abbrev pub value_of : Option (Box Expr) → Option ExprTree
value_of None = None
value_of (Some e) = Some (expr_tree e.value)

abbrev pub init_of : Option (Box ForInit) → Option ForInitTree
init_of None = None
init_of (Some i) = Some (for_init_tree i.value)

abbrev pub step_of : Option (Box Simple) → Option SimpleTree
step_of None = None
step_of (Some s) = Some (simple_tree s.value)

abbrev pub heading_of : Heading → HeadingTree
heading_of h = record { first = init_of h.first; test = value_of h.test; step = step_of h.step }
