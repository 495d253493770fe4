-- What the walk gives, by what is known of null where the expression is read.
use Rattle.std.specs.Prelude.{List, ◌++◌, ◌≤◌, length}
use Rattle.ss_core.specs.Chain.{most_classes}
use Rattle.ss_core.specs.Tree.{ExprTree}
use Rattle.ss_core.specs.View as view
use Rattle.ss_store_rules.specs.NonNull as rules
use Rattle.ss_logic.specs.Express as spec
use Rattle.ss_terms.specs.Forms.{Forms}
use Rattle.ss_vcgen_known.specs.Views.{type_context_of, known_of, tested}
use Rattle.ss_vcgen_express.specs.declared.meant.Meant.{Meant}
use Rattle.ss_vcgen_express.specs.declared.context.Context.{Context}
use Rattle.ss_vcgen_express.specs.Marked.{marked}
use Rattle.ss_vcgen_express.specs.Contexts.{context_at}
use Rattle.ss_vcgen_walk.specs.declared.parts.Part.{Part}
use Rattle.ss_vcgen_walk.specs.declared.null_context.NullContext.{NullContext}
use Rattle.ss_vcgen_walk.specs.Parts.{parts_at}
use Rattle.ss_vcgen_walk.specs.Reading.{Expressed}

abbrev pub type_context_at : NullContext → rules.Site
type_context_at s = type_context_of s.typing

abbrev pub known_at : NullContext → rules.Known
known_at s = tested s.tests.now (known_of s.known.now)

-- there are not too many classes
abbrev pub IsNullContext : NullContext → Type 0
IsNullContext s = length (view.classes s.typing.classes.now) ≤ most_classes

-- the expression means it, and its parts stand after those of before
abbrev pub Reads : Forms → Meant → List Part → List Part → ExprTree → NullContext → Context → Type 0
Reads a m ps before t s c = Expressed a m ps (λ b. spec.meant t (context_at b c)) (λ b. parts_at b before ++ marked t (type_context_at s) (known_at s) (context_at b c))
