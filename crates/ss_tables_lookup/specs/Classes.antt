-- The classes of the code as the definitions see them.
use Rattle.std.specs.Prelude.{List, map}
use Rattle.ss_ast.specs.declared.class.ClassDecl.{ClassDecl}
use Rattle.ss_ast.specs.Programs.{ClassTree, class_tree}

abbrev pub trees : List ClassDecl → List ClassTree
trees cs = map class_tree cs
