-- What is done to what is known, part by part.
use Rattle.std.specs.Prelude.{ℕ, List, [], ◌∷◌, Bool, true, false, not, ◌==◌, ◌&&◌, ◌||◌, if◌then◌else◌, Some, None, option_map}
use Rattle.ss_core.specs.Tree.{ExprTree}
use Rattle.ss_store_rules.specs.Admissible.{is_this}
use Rattle.ss_store_rules.specs.NonNull.{Facts, no_facts, Known, at_this_end, side_met, with_local}
use Rattle.ss_vcgen_types.specs.declared.told.Told.{Told}
use Rattle.ss_vcgen_known.specs.Pairs.{Pair, side}
use Rattle.ss_vcgen_types.specs.Told.{tells_of}

abbrev pub facts_met : Facts → Facts → Facts
facts_met f g x = f x && g x

-- what is known on the sides of a local where two paths meet
abbrev pub met_pair : Known → Known → ℕ → Pair
met_pair k l x = record {
  holds = side_met (at_this_end k x true) (at_this_end l x true);
  fails = side_met (at_this_end k x false) (at_this_end l x false);
}

-- what a local says on its sides
abbrev pub with_said : ℕ → Facts → Facts → Known → Known
with_said x f g k = record k { sides = λ y v. if x == y then side (record { holds = Some f; fails = Some g }) v else k.sides y v }

-- the local is assigned a value that says this on its sides
abbrev pub with_sides : ℕ → Bool → Facts → Facts → Known → Known
with_sides x non_null f g k = with_local x non_null (λ v. if v then f else g) k

-- these fields of `this` have their values
abbrev pub with_fields : (ℕ → Bool) → Known → Known
with_fields fs k = record k { fields = fs }

-- a field of `this` has its value
abbrev pub written : ExprTree → ℕ → Known → Known
written o f k = record k { fields = λ g. k.fields g || is_this o && g == f }

-- what is told of a truth value bars the other side
abbrev pub barred_by : Told → Known → Known
barred_by t k = record k { sides = λ x u. if tells_of t x (not u) then None else k.sides x u }

abbrev pub all_barred : List Told → Known → Known
all_barred [] k = k
all_barred (t ∷ ts) k = all_barred ts (barred_by t k)

-- nothing is known of these locals
abbrev pub forgotten : Facts → Known → Known
forgotten set k = record k {
  facts = λ x. k.facts x && not (set x);
  sides = λ x v. if set x then Some no_facts else option_map (λ f y. f y && not (set y)) (k.sides x v);
}
