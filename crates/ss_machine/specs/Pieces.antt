-- The pieces that a run writes: one for each step that prints something.
use Rattle.std.specs.Prelude.{◌≡◌, ℕ, zero, suc, ℤ, List, [], ◌∷◌, ◌++◌, Option, Result, Ok, Err}
use Rattle.ss_core.specs.Tree.{CoreTree}
use Rattle.ss_io.specs.Outside.{Wrote}
use Rattle.ss_machine_rules.specs.States.{State, Running, Done, Failed, Stopped, Next}
use Rattle.ss_machine_rules.specs.Steps.{next}
use Rattle.ss_machine_rules.specs.Runs.{run}
use Rattle.ss_machine.specs.Moves.{piece_of}
use Rattle.ss_machine.specs.declared.halt.Halt.{Halt}

-- what is printed is one piece; where nothing is printed there is none
abbrev pub one_piece : List ℕ → List (List ℕ)
one_piece [] = []
one_piece (b ∷ bytes) = (b ∷ bytes) ∷ []

-- the piece of the next step of a state
abbrev pub next_piece : CoreTree → State → List (List ℕ)
next_piece c (Running fs s before) = one_piece (piece_of (next c fs s))
next_piece c (Done s before) = []
next_piece c (Failed k at before) = []
next_piece c (Stopped at s before) = []

-- the pieces of n steps, in order
abbrev pub pieces : CoreTree → List ℤ → ℕ → List (List ℕ)
pieces c input zero = []
pieces c input (suc n) = pieces c input n ++ next_piece c (run c input n)

-- the sink took the first of these pieces, each in one write
abbrev pub WroteFirst : Option (List (List ℕ)) → Option (List (List ℕ)) → List (List ℕ) → Type 0
WroteFirst old new whole = (first rest : List (List ℕ)) × (whole ≡ first ++ rest) × Wrote old new first

-- a piece was written in one write, an empty one in none, and nothing where the write stopped
abbrev pub WritesOne : Result Unit Halt → List ℕ → Option (List (List ℕ)) → Option (List (List ℕ)) → Type 0
WritesOne (Ok u) piece old new = Wrote old new (one_piece piece)
WritesOne (Err h) piece old new = Wrote old new []

-- a step that was made wrote its piece in one write, and another one wrote none
abbrev pub PieceIs : Result Unit Halt → Next → Option (List (List ℕ)) → Option (List (List ℕ)) → Type 0
PieceIs (Ok u) next old new = Wrote old new (one_piece (piece_of next))
PieceIs (Err h) next old new = Wrote old new []
