-- What a link of a chain and a step of a path write after what stands before them, and what a question writes around what it asks of.
use Rattle.std.specs.Prelude.{ℕ, List, [], ◌++◌, codes, drop}
use Rattle.std.specs.List.{flat_map}
use Rattle.ss_core.specs.Tree.{ClassTree, ExprTree, DefaultExpr, Full, WordTree, Unowned, OwnersTree, SameOwner, OwnedAt}
use Rattle.ss_core.specs.View.{Behind}
pub use Rattle.ss_core.specs.Parts.{no_place, link_after, step_after, loop_of}
use Rattle.ss_report_names.specs.Names.{class_name}
use Rattle.ss_report_core.specs.Exprs.{expr_text, word_text}

-- an expression without a text
abbrev pub nothing : ExprTree
nothing = DefaultExpr no_place Full

-- after the open parenthesis and the operand
abbrev pub link_text : List ClassTree → List (List ℕ) → Behind → List ℕ
link_text cs names b = drop 1 (expr_text cs names (b no_place nothing))

abbrev pub step_text : List ClassTree → List (List ℕ) → Behind → List ℕ
step_text cs names b = expr_text cs names (b no_place nothing)

abbrev pub links_text : List ClassTree → List (List ℕ) → List Behind → List ℕ
links_text cs names bs = flat_map (link_text cs names) bs

abbrev pub steps_text : List ClassTree → List (List ℕ) → List Behind → List ℕ
steps_text cs names bs = flat_map (step_text cs names) bs

-- what a question about the state of an object writes before the text of the object
abbrev pub word_before : WordTree → List ℕ
word_before Unowned = codes "Owner.None("
word_before word = []

-- and after it
abbrev pub word_after : List ClassTree → WordTree → List ℕ
word_after cs Unowned = codes ")"
word_after cs word = word_text cs word

-- what a question about the owners of two objects writes before the text of the first
abbrev pub owners_before : OwnersTree → List ℕ
owners_before SameOwner = codes "Owner.Same("
owners_before (OwnedAt t) = codes "Owner.Is("

-- and after the text of the second
abbrev pub owners_after : List ClassTree → OwnersTree → List ℕ
owners_after cs SameOwner = codes ")"
owners_after cs (OwnedAt t) = codes ", " ++ class_name cs t ++ codes ")"
