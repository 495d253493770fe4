-- The bodies of each declared class, and the text of a class with these.
use Rattle.std.specs.Prelude.{◌≡◌, ℕ, List, [], ◌++◌, codes, map, length, ◌+◌, ◌*◌, ◌<◌, Option, Some, None, slice_get}
use Rattle.std.specs.Borrow.{Bor}
use Rattle.std.specs.Global.{Vec}
use Rattle.std.specs.List.{flat_map}
use Rattle.ss_core.specs.declared.body.Body.{Body}
use Rattle.ss_core.specs.Tree.{ClassTree, BodyTree, CoreTree}
use Rattle.ss_core.specs.View as view
use Rattle.ss_report_names.specs.Names.{class_name}
use Rattle.ss_report_core.specs.Stmts.{line}
use Rattle.ss_report_core.specs.Text.{body_text, bodies_of}

abbrev pub trees : List (Bor Body) → List BodyTree
trees bs = map (λ b. view.body b.now) bs

abbrev pub group_at : Option (Vec (Bor Body)) → List BodyTree
group_at None = []
group_at (Some g) = trees g.items

-- at the place of each of so many declared classes stand its bodies
pub record AreGroups (count : ℕ) (bs : List BodyTree) (groups : List (Vec (Bor Body))) : Type 0 where
  pub places : length groups ≡ count
  pub each : (k : ℕ) → k < count → group_at (slice_get groups k) ≡ bodies_of (4 + 2 * k) bs

-- the line of a class
abbrev pub class_line : CoreTree → ClassTree → List ℕ
class_line c d = line [] (codes "class " ++ d.name ++ codes " : " ++ class_name c.classes d.above)

-- the line of a class, and these bodies
abbrev pub class_with : CoreTree → ClassTree → List BodyTree → List ℕ
class_with c d bs = class_line c d ++ flat_map (body_text c) bs
