-- Ways that are gone leg by leg.
use Rattle.std.specs.Prelude.{◌≡◌, ℕ, ◌+◌, ◌*◌, List, [], ◌∷◌, ◌++◌, length}
use Rattle.ss_equality_rules.specs.declared.Join.{Join}
use Rattle.ss_equality_rules.specs.Names.{name}
use Rattle.ss_search_clashes.specs.declared.ways.Leg.{Leg}
use Rattle.ss_search_clashes.specs.declared.ways.Leg.TheVariants.{Between, By}
use Rattle.ss_search_clashes.specs.Ways.{way}

abbrev pub leg_way : List Join → Leg → List ℕ
leg_way es (Between x y) = way es x y
leg_way es (By j) = j ∷ []

-- the way of legs of which the last is the first to be gone
abbrev pub legs_way : List Join → List Leg → List ℕ
legs_way es [] = []
legs_way es (leg ∷ legs) = legs_way es legs ++ leg_way es leg

-- the terms of a leg are in one class
abbrev pub IsLeg : List Join → Leg → Type 0
IsLeg es (Between x y) = name es x ≡ name es y
IsLeg es (By j) = Unit {0}

abbrev pub AreLegs : List Join → List Leg → Type 0
AreLegs es [] = Unit {0}
AreLegs es (leg ∷ legs) = IsLeg es leg × AreLegs es legs

-- a bound for the steps that are left
abbrev pub leg_weight : List Join → Leg → ℕ
leg_weight es (Between x y) = 3 * length (way es x y) + 1
leg_weight es (By j) = 1

abbrev pub weight : List Join → List Leg → ℕ
weight es [] = 0
weight es (leg ∷ legs) = weight es legs + leg_weight es leg
