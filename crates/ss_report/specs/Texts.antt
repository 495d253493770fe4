-- The texts of verdicts and of statuses.
use Rattle.std.specs.Prelude.{ℕ, List, [], ◌∷◌, ◌++◌, codes, decimal}
use Rattle.ss_core.specs.declared.names.Place.{Place}
use Rattle.ss_core.specs.declared.names.Kind.{Kind}
use Rattle.ss_core.specs.declared.names.Kind.TheVariants as kind
use Rattle.ss_search_answers.specs.declared.answers.Budget.{Budget}
use Rattle.ss_search_answers.specs.declared.answers.Budget.TheVariants.{Splits, Instances}

-- the name of a kind
abbrev pub kind_name : Kind → List ℕ
kind_name kind.Null = codes "Null"
kind_name kind.Index = codes "Index"
kind_name kind.Cast = codes "Cast"
kind_name kind.Overflow = codes "Overflow"
kind_name kind.ZeroDivisor = codes "ZeroDivisor"
kind_name kind.NegativeLength = codes "NegativeLength"
kind_name kind.Assert = codes "Assert"
kind_name kind.Precondition = codes "Precondition"
kind_name kind.Postcondition = codes "Postcondition"
kind_name kind.Frame = codes "Frame"
kind_name kind.LoopInvariant = codes "LoopInvariant"
kind_name kind.LoopFrame = codes "LoopFrame"
kind_name kind.LoopLevel = codes "LoopLevel"
kind_name kind.UnpackLevel = codes "UnpackLevel"
kind_name kind.UnpackCommitted = codes "UnpackCommitted"
kind_name kind.PackLevel = codes "PackLevel"
kind_name kind.Invariant = codes "Invariant"
kind_name kind.PackOwned = codes "PackOwned"
kind_name kind.WriteLevel = codes "WriteLevel"
kind_name kind.WriteCommitted = codes "WriteCommitted"
kind_name kind.RepOwner = codes "RepOwner"
kind_name kind.PeerOwner = codes "PeerOwner"

-- the text of the verdict that a program is verified
abbrev pub verified_line : List ℕ
verified_line = codes "verified" ++ 10 ∷ []

abbrev pub place_text : Place → List ℕ
place_text at = decimal at.line ++ codes ":" ++ decimal at.column

-- a check, by its kind, its place, its class and its body
abbrev pub check_text : Kind → Place → List ℕ → List ℕ → List ℕ
check_text k at class body = kind_name k ++ codes " at " ++ place_text at ++ codes " in " ++ class ++ codes "." ++ body

-- the line of an obligation that a model refutes
abbrev pub not_proved_line : Kind → Place → List ℕ → List ℕ → List ℕ
not_proved_line k at class body = codes "not proved: " ++ check_text k at class body ++ 10 ∷ []

-- which budget wasn't enough, and a line end
abbrev pub budget_text : Budget → List ℕ
budget_text (Splits splits) = codes ", " ++ decimal splits ++ codes " splits" ++ 10 ∷ []
budget_text (Instances limit) = codes ", more than " ++ decimal limit ++ codes " instances" ++ 10 ∷ []

-- the line of an obligation that isn't decided, since this budget wasn't enough
abbrev pub undecided_line : Kind → Place → List ℕ → List ℕ → Budget → List ℕ
undecided_line k at class body over = codes "undecided: " ++ check_text k at class body ++ budget_text over
