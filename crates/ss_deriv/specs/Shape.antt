-- The shape of derivations: which lines end a case, and where a case goes on.
use Rattle.std.specs.Prelude.{◌≡◌, ℕ, suc, ◌+◌, List, [], ◌∷◌, map, Option, Some, None, IsSome, option_and_then}
use Rattle.ss_deriv.specs.declared.line.Line.{Line}
use Rattle.ss_deriv.specs.declared.line.Line.TheVariants.{Premise, Denied, Part, Split, Cut, Inst, Choose, Rule, Good, Invariants, Chain, Cong, Swap, Sum, Clash, Case}

-- what a line does to the cases
pub data Turn : Type 0 where
  -- it stays in its case
  Stay : Turn
  -- it ends its case, and so many open in its place
  Branch : ℕ → Turn
  -- it goes on with the next case that waits
  Resume : Turn

abbrev pub turn_of : Line → Turn
turn_of (Premise i) = Stay
turn_of Denied = Stay
turn_of (Part i j) = Stay
turn_of (Split i k) = Branch k
turn_of (Cut f) = Branch 2
turn_of (Inst i ts) = Stay
turn_of (Choose f ts) = Stay
turn_of (Rule name ts) = Stay
turn_of (Good name i ts) = Stay
turn_of (Invariants i ts) = Stay
turn_of (Chain x y is) = Stay
turn_of (Cong x y is) = Stay
turn_of (Swap i f js) = Stay
turn_of (Sum s) = Stay
turn_of (Clash i j) = Branch 0
turn_of Case = Resume

-- where lines lead: into a case, or between cases, before so many that wait
pub data Place : Type 0 where
  InCase : ℕ → Place
  BetweenCases : ℕ → Place

abbrev pub after : Place → Turn → Option Place
after (InCase waiting) Stay = Some (InCase waiting)
after (InCase waiting) (Branch k) = Some (BetweenCases (k + waiting))
after (BetweenCases (suc waiting)) Resume = Some (InCase waiting)
after place turn = None

abbrev pub after_all : Place → List Turn → Option Place
after_all place [] = Some place
after_all place (turn ∷ turns) = option_and_then (λ next. after_all next turns) (after place turn)

-- where the lines lead, from the one case that is open at first
abbrev pub place_after : List Line → Option Place
place_after lines = after_all (InCase 0) (map turn_of lines)

-- the lines begin a derivation
abbrev pub IsBegun : List Line → Type 0
IsBegun lines = IsSome (place_after lines)

-- no case is left
abbrev pub IsShaped : List Line → Type 0
IsShaped lines = place_after lines ≡ Some (BetweenCases 0)
