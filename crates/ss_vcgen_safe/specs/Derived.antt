-- Derivations of all obligations of a list.
use Rattle.std.specs.Prelude.{List, [], ◌∷◌}
use Rattle.ss_core.specs.Tree.{ClassTree}
use Rattle.ss_logic_means.specs.Steps.{Line, Derives}
use Rattle.ss_vcgen_heaps.specs.Positions.{Obligation}

-- there is one for each obligation, in order, and no more
abbrev pub AreDerived : List ClassTree → List Obligation → List (List Line) → Type 0
AreDerived cs [] [] = Unit {0}
AreDerived cs [] (d ∷ ds) = ⊥
AreDerived cs (o ∷ os) [] = ⊥
AreDerived cs (o ∷ os) (d ∷ ds) = Derives cs o.premises o.goal d × AreDerived cs os ds
