-- The shape of derivations over formulas.
use Rattle.std.specs.Prelude.{◌≡◌, List, map, Some}
use Rattle.ss_logic_means.specs.Steps.{Line, Premise, Denied, Part, Split, Cut, Inst, Choose, Rule, GoodLine, InvariantsLine, Chain, Cong, Swap, Sum, Clash, Case, Nowhere}
use Rattle.ss_deriv.specs.Shape.{Turn, Stay, Branch, Resume, InCase, BetweenCases, after_all}

-- what a line over formulas does to the cases
abbrev pub turn : Line → Turn
turn (Premise i) = Stay
turn Denied = Stay
turn (Part i j) = Stay
turn (Split i k) = Branch k
turn (Cut f) = Branch 2
turn (Inst i ts) = Stay
turn (Choose f ts) = Stay
turn (Rule name ts) = Stay
turn (GoodLine name i ts) = Stay
turn (InvariantsLine i ts) = Stay
turn (Chain x y is) = Stay
turn (Cong x y is) = Stay
turn (Swap i f js) = Stay
turn (Sum d ps) = Stay
turn (Clash i j) = Branch 0
turn Case = Resume
turn Nowhere = Stay

-- each case ends, and no line follows within it
abbrev pub EndsEachCase : List Line → Type 0
EndsEachCase lines = after_all (InCase 0) (map turn lines) ≡ Some (BetweenCases 0)
