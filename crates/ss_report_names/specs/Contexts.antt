-- What the names of a text are looked up in.
use Rattle.std.specs.Prelude.{List, ◌++◌, ℕ}
use Rattle.ss_core.specs.View as view
use Rattle.ss_core.specs.Tree.{ClassTree, CoreTree}
use Rattle.ss_report_names.specs.Names.{local_names}
use Rattle.ss_report_names.specs.Tables.{texts}
use Rattle.ss_report_names.specs.declared.context.Program.{Program}
use Rattle.ss_report_names.specs.declared.context.Context.{Context}

abbrev pub core_of : Program → CoreTree
core_of p = view.core p.whole.now

abbrev pub classes_of : Program → List ClassTree
classes_of p = view.classes p.whole.now.classes

-- the names of the locals, and after them the bound ones
abbrev pub names_in : Context → List (List ℕ)
names_in s = local_names (view.body s.locals.now.body.now) ++ texts s.bound.now
