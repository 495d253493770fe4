-- What is told bars sides, one after the other.
use Rattle.std.proofs.Common.{◌≡◌, Bool, true, false, List, [], ◌∷◌, Option, None, refl, ap, ◌∙◌}
use Rattle.std.specs.Prelude.{◌||◌, not, if◌then◌else◌}
use Rattle.ss_store_rules.specs.NonNull.{Facts, both, Known}
use Rattle.ss_vcgen_types.specs.declared.told.Told.{Told}
use Rattle.ss_vcgen_types.specs.Told.{all_facts, tells_of, all_tell, with_told}
use Rattle.ss_vcgen_known.specs.Steps.{barred_by, all_barred}

barred_one : (a b : Bool) (f : Option Facts) → (if b then None else (if a then None else f)) ≡ (if a || b then None else f)
barred_one true true f = refl
barred_one true false f = refl
barred_one false true f = refl
barred_one false false f = refl

-- all of them at once
abbrev pub barred_with : List Told → Known → Known
barred_with ts k = record k { sides = λ x u. if all_tell ts x (not u) then None else k.sides x u }

pub all_at_once : (ts : List Told) (k : Known) → all_barred ts k ≡ barred_with ts k
all_at_once [] k = refl
all_at_once (t ∷ ts) k = all_at_once ts (barred_by t k) ∙ (λ i. record k { sides = λ x u. barred_one (tells_of t x (not u)) (all_tell ts x (not u)) (k.sides x u) i })

-- the facts first, and then the sides
pub learned_then : (ts : List Told) (k : Known) (f : Facts) → f ≡ all_facts k ts → all_barred ts (record k { facts = both k.facts f }) ≡ with_told ts k
learned_then ts k f e = all_at_once ts (record k { facts = both k.facts f }) ∙ ap (λ g. record { facts = both k.facts g; sides = λ x u. if all_tell ts x (not u) then None else k.sides x u; fields = k.fields }) e
