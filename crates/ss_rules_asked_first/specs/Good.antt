-- What is asked for at reads in good stores, from what was gathered for it.
use Rattle.std.specs.Prelude.{◌≡◌, ℕ, List, [], ◌∷◌, ◌++◌, map, flat_map, filter_map, Option, option_map, IfSome}
use Rattle.ss_core.specs.Tree.{ClassTree}
use Rattle.ss_logic.specs.Terms.{Term}
use Rattle.ss_logic.specs.Formulas.{Formula}
use Rattle.ss_logic.specs.declared.GoodRule.{GoodRule}
use Rattle.ss_logic.specs.declared.GoodRule.TheVariants as good_rule
use Rattle.ss_logic.specs.Asked as spec
use Rattle.ss_logic.specs.Asked.{numeral}
use Rattle.ss_terms.specs.declared.forms.TermId.{TermId}
use Rattle.ss_terms.specs.Forms.{Forms, term_at, terms_at, HasTerm, HasTerms}
use Rattle.ss_rules_asked.specs.Numbers.{arguments_at, HasArguments}
use Rattle.ss_rules_asked.specs.Readings.{readings_at, HasReadings}
use Rattle.ss_rules_asked_first.specs.declared.owners.Owner.{Owner}
use Rattle.ss_rules_asked_first.specs.declared.near.Near.{Near}
use Rattle.ss_rules_asked_first.specs.declared.goods.Sentence.{Sentence}
use Rattle.ss_rules_asked_first.specs.declared.goods.Sentence.TheVariants as sentence

-- ---- owners

abbrev pub owner_at : Forms → Owner → List Term
owner_at b p = term_at b p.object ∷ term_at b p.class ∷ []

abbrev pub owners_at : Forms → List Owner → List (List Term)
owners_at b ps = map (owner_at b) ps

abbrev pub HasOwner : Forms → Owner → Type 0
HasOwner b p = HasTerm b p.object × HasTerm b p.class

abbrev pub HasOwners : Forms → List Owner → Type 0
HasOwners b [] = Unit {0}
HasOwners b (p ∷ ps) = HasOwner b p × HasOwners b ps

-- the bank has it, where there is one, and it stands for this
pub record IsOwner (b : Forms) (r : Option Owner) (o : Option (List Term)) : Type 0 where
  pub has : IfSome r (HasOwner b)
  pub is : option_map (owner_at b) r ≡ o

pub record AreOwners (b : Forms) (ps : List Owner) (these : List (List Term)) : Type 0 where
  pub has : HasOwners b ps
  pub are : owners_at b ps ≡ these

-- ---- argument lists

-- arguments of the rule on owners, at an owner that is read
abbrev pub owned_parts : List (List Term) → List Term → List (List Term)
owned_parts pairs ts = map (λ p. numeral 0 ∷ ts ++ p) pairs ++ (numeral 1 ∷ ts) ∷ []

-- arguments of the rule on types, at a level and at an owner
abbrev pub level_parts : List Term → ℕ → List Term → List (List Term)
level_parts classes n ts = (numeral n ∷ ts) ∷ map (λ t. numeral n ∷ ts ++ t ∷ []) classes

abbrev pub owner_parts : List (List Term) → ℕ → List Term → List (List Term)
owner_parts pairs n ts = map (λ p. numeral n ∷ ts ++ p) pairs

-- ---- sentences at a good store

-- what lies near: the classes, those with invariants, the owners, the arrays with a length, and the reads
pub record Nearby : Type 0 where
  pub classes : List Term
  pub invariants : List Term
  pub owners : List (List Term)
  pub arrays : List Term
  pub reads : List spec.Reading

abbrev pub at_read : Nearby → Sentence → Term → spec.Reading → List spec.Asked
at_read near sentence.Invariants s r = spec.asked_of_invariants near.invariants s r
at_read near (sentence.Good name) s r = spec.asked_of_good near.classes near.owners name s r

abbrev pub at_lengths : GoodRule → Term → List Term → List spec.Asked
at_lengths good_rule.Typed s arrays = map (λ a. spec.OfGood good_rule.Typed s (numeral 8 ∷ a ∷ [])) arrays
at_lengths name s arrays = []

abbrev pub in_store : Nearby → Sentence → Term → List spec.Asked
in_store near sentence.Invariants s = flat_map (at_read near sentence.Invariants s) near.reads
in_store near (sentence.Good name) s = flat_map (at_read near (sentence.Good name) s) near.reads ++ at_lengths name s near.arrays

abbrev pub in_stores : Nearby → List Term → Sentence → List spec.Asked
in_stores near stores q = flat_map (in_store near q) stores

-- ---- what was gathered

abbrev pub nearby_at : Forms → Near → Nearby
nearby_at b near = record {
  classes = arguments_at b near.classes.items;
  invariants = arguments_at b near.invariants.items;
  owners = owners_at b near.owners.items;
  arrays = terms_at b near.arrays.items;
  reads = readings_at b near.reads.items;
}

pub record HasNear (b : Forms) (near : Near) : Type 0 where
  pub classes : HasArguments b near.classes.items
  pub invariants : HasArguments b near.invariants.items
  pub owners : HasOwners b near.owners.items
  pub arrays : HasTerms b near.arrays.items
  pub reads : HasReadings b near.reads.items

abbrev pub gathered : List ClassTree → List Formula → List Term → Nearby
gathered cs atoms terms = record {
  classes = spec.classes_from 4 cs;
  invariants = spec.with_invariants_from 4 cs;
  owners = filter_map spec.pair_parts terms;
  arrays = filter_map spec.length_of terms;
  reads = spec.readings atoms terms;
}

-- what is asked for in good stores
abbrev pub asked_about_good : List ClassTree → List Formula → List Term → List spec.Asked
asked_about_good cs atoms terms =
    flat_map (λ s. flat_map (spec.asked_of_invariants (spec.with_invariants_from 4 cs) s) (spec.readings atoms terms)) (filter_map spec.good_of atoms)
    ++ flat_map (spec.asked_of_rule cs atoms terms) spec.good_rules
