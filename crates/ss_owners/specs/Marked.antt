-- The marks of fields, class by class.
use Rattle.std.specs.Prelude.{List, [], ◌∷◌, ◌++◌}
use Rattle.ss_core.specs.declared.names.Mark.{Mark}
use Rattle.ss_core.specs.Tree.{ClassTree, FieldTree}

abbrev pub marks_of : List FieldTree → List Mark
marks_of [] = []
marks_of (f ∷ fs) = f.mark ∷ marks_of fs

abbrev pub marks_in : List ClassTree → List Mark
marks_in [] = []
marks_in (c ∷ cs) = marks_of c.fields ++ marks_in cs
