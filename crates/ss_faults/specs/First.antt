-- The first of some faults: the one with the least place, and of two rules there the one with the lower number.
use Rattle.std.specs.Prelude.{◌≡◌, ◌==◌, ℕ, List, [], ◌∷◌, Bool, nat_lt, ◌&&◌, if◌then◌else◌, Option, Some, None, Result, Ok, Err}
use Rattle.ss_core.specs.declared.names.Place.{Place}
use Rattle.ss_core.specs.declared.names.FrontStop.{FrontStop}
use Rattle.ss_core.specs.declared.names.FrontStop.TheVariants as stop
use Rattle.ss_faults.specs.declared.Fault.{Fault}

-- the fault of the rule with this number, at this place
abbrev pub at : ℕ → Place → Fault
at n p = record { rule = n; place = p }

abbrev pub place_before : Place → Place → Bool
place_before p q = if p.line == q.line then nat_lt p.column q.column else nat_lt p.line q.line

abbrev pub same_place : Place → Place → Bool
same_place p q = p.line == q.line && p.column == q.column

abbrev pub comes_before : Fault → Fault → Bool
comes_before f g = if same_place f.place g.place then nat_lt f.rule g.rule else place_before f.place g.place

abbrev pub earlier : Fault → Option Fault → Fault
earlier f None = f
earlier f (Some g) = if comes_before g f then g else f

abbrev pub first_fault : List Fault → Option Fault
first_fault [] = None
first_fault (f ∷ fs) = Some (earlier f (first_fault fs))

-- what a phase answers with this first fault: it refuses by it, or by want of memory, and where there is none it goes on
abbrev pub Answers : {A : Type 0} → Option Fault → Result A FrontStop → Type 0
Answers o (Ok x) = o ≡ None
Answers o (Err (stop.Refused rule p)) = o ≡ Some (record { rule = rule; place = p })
Answers o (Err stop.Memory) = Unit {0}
