-- The text of a core program.
use Rattle.std.specs.Prelude.{ℕ, List, [], ◌∷◌, ◌++◌, codes, filter, ◌==◌, ◌+◌, ◌*◌}
use Rattle.std.specs.List.{flat_map}
use Rattle.ss_core.specs.Tree.{ClassTree, BodyTree, CoreTree}
use Rattle.ss_report_names.specs.Names.{class_name, title, local_names}
use Rattle.ss_report_core.specs.Stmts.{line, deeper, code_text}

-- its title, its statements one level deep, and the line `end`
abbrev pub body_text : CoreTree → BodyTree → List ℕ
body_text c b = line [] (codes "body " ++ title c.classes b) ++ code_text c (local_names b) (deeper []) b.code ++ line [] (codes "end")

-- the bodies of the class, in the order of the list
abbrev pub bodies_of : ℕ → List BodyTree → List BodyTree
bodies_of t bs = filter (λ b. b.class == t) bs

-- the declared class at the place k: its name and the class above it, and then its bodies
abbrev pub class_text : CoreTree → ℕ → ClassTree → List ℕ
class_text c k d = line [] (codes "class " ++ d.name ++ codes " : " ++ class_name c.classes d.above) ++ flat_map (body_text c) (bodies_of (4 + 2 * k) c.bodies)

-- these declared classes, of which the first has the place k
abbrev pub classes_from : CoreTree → ℕ → List ClassTree → List ℕ
classes_from c k [] = []
classes_from c k (d ∷ ds) = class_text c k d ++ classes_from c (k + 1) ds

-- Each declared class in the order of the numbers, 4 and twice the place. A body of no declared class isn't written.
abbrev pub core_text : CoreTree → List ℕ
core_text c = classes_from c 0 c.classes
