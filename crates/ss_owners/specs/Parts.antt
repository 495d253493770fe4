-- Words of conditions in the parts of chains and paths.
use Rattle.std.specs.Prelude.{List, [], ◌∷◌, ◌++◌}
use Rattle.ss_core.specs.declared.names.Place.{Place}
pub use Rattle.ss_core.specs.Parts.{no_place}
use Rattle.ss_typed.specs.declared.expr.TypedLink.{TypedLink}
use Rattle.ss_typed.specs.declared.expr.TypedStep.{TypedStep}
use Rattle.ss_typed.specs.Tree.{ExprTree}
use Rattle.ss_typed.specs.Parts.{link_after, step_after}
pub use Rattle.ss_typed.specs.Parts.{nothing}
use Rattle.ss_owners_rules.specs.Words as words
use Rattle.ss_owners_rules.specs.Words.{misplaced}
use Rattle.ss_owners.specs.declared.words.Allowed.{Allowed}
use Rattle.ss_owners.specs.declared.words.Allowed.TheVariants as allowed

abbrev pub allowed_of : Allowed → words.Allowed
allowed_of allowed.NoWord = words.NoWord
allowed_of allowed.Questions = words.Questions
allowed_of allowed.OfEntry = words.OfEntry
allowed_of allowed.EveryWord = words.EveryWord

-- what a link or a step adds to the places in what stands before it
abbrev pub link_words : words.Allowed → TypedLink → List Place
link_words a l = misplaced a (link_after l no_place nothing)

abbrev pub step_words : words.Allowed → TypedStep → List Place
step_words a s = misplaced a (step_after s no_place nothing)

abbrev pub links_words : words.Allowed → List TypedLink → List Place
links_words a [] = []
links_words a (l ∷ ls) = link_words a l ++ links_words a ls

abbrev pub steps_words : words.Allowed → List TypedStep → List Place
steps_words a [] = []
steps_words a (s ∷ ss) = step_words a s ++ steps_words a ss
