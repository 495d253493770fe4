-- The captured arguments and the owned pairs, as numbers of a bank.
use Rattle.std.specs.Prelude.{ℕ, List, [], ◌∷◌, map, if◌then◌else◌}
use Rattle.ss_core.specs.declared.names.ClassId.{ClassId}
use Rattle.ss_core.specs.Tree.{ClassTree, LocalTree, BodyTree}
use Rattle.ss_core.specs.Chain.{levels}
use Rattle.ss_terms.specs.declared.forms.TermId.{TermId}

-- those of the arguments that stand for captured parameters
abbrev pub captured_among : List LocalTree → List TermId → List TermId
captured_among [] ts = []
captured_among (p ∷ ps) [] = []
captured_among (p ∷ ps) (t ∷ ts) = if p.captured then t ∷ captured_among ps ts else captured_among ps ts

abbrev pub pair_for : TermId → ℕ → TermId × ClassId
pair_for o t = (o, record { 0 = t })

abbrev pub pairs_for : TermId → List ℕ → List (TermId × ClassId)
pairs_for o ts = map (pair_for o) ts

-- what a constructor of the body's class owns
abbrev pub owned_for : List ClassTree → BodyTree → TermId → List (TermId × ClassId)
owned_for cs b o = if b.flags.ctor then pairs_for o (levels cs b.class) else []
