-- What is said of atoms where there is a new object.
use Rattle.std.specs.Prelude.{List, [], ◌∷◌, ◌++◌, Bool, true, false}
use Rattle.ss_logic.specs.Terms.{Term}
use Rattle.ss_logic.specs.Formulas.{Formula, neg}
use Rattle.ss_logic.specs.Shapes.{next_of, allocated, given, where_equal, where_different}

-- the formula, or its negation
abbrev pub signed : Bool → Formula → Formula
signed true f = f
signed false f = neg f

-- p is allocated where it is the next reference, and where it was before, and nothing else is
abbrev pub newly_allocated : Term → Term → Term → List Formula
newly_allocated after s p =
    given (where_equal p (next_of s)) (allocated after p)
    ∷ given (allocated s p ∷ []) (allocated after p)
    ∷ where_different p (next_of s) (λ ps. given (ps ++ neg (allocated s p) ∷ []) (neg (allocated after p)) ∷ [])
