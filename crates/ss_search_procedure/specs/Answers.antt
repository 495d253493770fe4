-- What holds of answers.
use Rattle.ss_deriv.specs.declared.line.Line.{Line}
use Rattle.std.specs.Prelude.{List}
use Rattle.ss_logic_countermodels.specs.declared.Countermodel.{Countermodel}
use Rattle.ss_search_procedure.specs.declared.settling.Settled.{Settled}
use Rattle.ss_search_procedure.specs.declared.settling.Settled.TheVariants as settled
use Rattle.ss_search_procedure.specs.declared.total.Decided.{Decided}
use Rattle.ss_search_procedure.specs.declared.total.Decided.TheVariants as decided

-- where a model was found, this holds of it
abbrev pub IfCountered : (Countermodel → Type 0) → Settled → Type 0
IfCountered P (settled.Countered m) = P m
IfCountered P _ = Unit {0}

-- where a derivation was found, this holds of its lines
abbrev pub IfClosed : (List Line → Type 0) → Settled → Type 0
IfClosed P (settled.Closed d) = P d
IfClosed P _ = Unit {0}

-- the same of all splits: of the model
abbrev pub IfModel : (Countermodel → Type 0) → Decided → Type 0
IfModel P (decided.Model m) = P m
IfModel P (decided.Closed lines) = Unit {0}

-- of the lines that close the case at the end of the path
abbrev pub IfLines : (List Line → Type 0) → Decided → Type 0
IfLines P (decided.Model m) = Unit {0}
IfLines P (decided.Closed lines) = P lines.items
