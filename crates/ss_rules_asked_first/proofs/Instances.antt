-- What is asked for at one read in a good store.
use Rattle.std.proofs.Common.{◌≡◌, ℕ, List, [], ◌∷◌, ◌++◌, map, refl, sym, ◌∙◌, ap, Bool, true, false, ◌==◌, ◌&&◌, Option, Some, None, if◌then◌else◌}
use Rattle.std.specs.Prelude.{flat_map, filter_map}
use Rattle.ss_core.specs.Tree.{ClassTree}
use Rattle.ss_logic.specs.Terms.{Term}
use Rattle.ss_logic.specs.Formulas.{Formula}
use Rattle.ss_logic.specs.declared.GoodRule.{GoodRule}
use Rattle.ss_logic.specs.declared.GoodRule.TheVariants as good_rule
use Rattle.ss_logic.specs.Asked as spec
use Rattle.ss_logic.specs.Asked.{OfGood, OfInvariants, numeral}
use Rattle.ss_rules_asked_first.specs.declared.goods.Sentence.{Sentence}
use Rattle.ss_rules_asked_first.specs.declared.goods.Sentence.TheVariants as sentence
use Rattle.ss_rules_asked_first.specs.Good.{Nearby, at_read, in_stores, owned_parts, level_parts, owner_parts, gathered, asked_about_good}

over_lists : (name : GoodRule) (s : Term) {X : Type 0} (at : X → List Term) (xs : List X) → map (λ x. OfGood name s (at x)) xs ≡ map (OfGood name s) (map at xs)
over_lists name s at [] = refl
over_lists name s at (x ∷ xs) = ap (λ zs. OfGood name s (at x) ∷ zs) (over_lists name s at xs)

pub owned_over : (s : Term) (pairs : List (List Term)) (ts : List Term) → map (λ p. OfGood good_rule.Owned s (numeral 0 ∷ ts ++ p)) pairs ++ OfGood good_rule.Owned s (numeral 1 ∷ ts) ∷ [] ≡ map (OfGood good_rule.Owned s) (owned_parts pairs ts)
owned_over s [] ts = refl
owned_over s (p ∷ pairs) ts = ap (λ zs. OfGood good_rule.Owned s (numeral 0 ∷ ts ++ p) ∷ zs) (owned_over s pairs ts)

pub level_over : (s : Term) (classes : List Term) (n : ℕ) (ts : List Term) →
    OfGood good_rule.Typed s (numeral n ∷ ts) ∷ [] ++ map (λ t. OfGood good_rule.Typed s (numeral n ∷ ts ++ t ∷ [])) classes ≡ map (OfGood good_rule.Typed s) (level_parts classes n ts)
level_over s classes n ts = ap (λ zs. OfGood good_rule.Typed s (numeral n ∷ ts) ∷ zs) (over_lists good_rule.Typed s (λ t. numeral n ∷ ts ++ t ∷ []) classes)

pub owners_over : (s : Term) (pairs : List (List Term)) (n : ℕ) (ts : List Term) → map (λ p. OfGood good_rule.Typed s (numeral n ∷ ts ++ p)) pairs ≡ map (OfGood good_rule.Typed s) (owner_parts pairs n ts)
owners_over s pairs n ts = over_lists good_rule.Typed s (λ p. numeral n ∷ ts ++ p) pairs

-- ---- whether there is something to ask

module _ (near : Nearby) (s : Term) (r : spec.Reading) where
  pub good_asked : (name : GoodRule) (same : Bool) → same ≡ true → (ts : List Term) → ts ≡ r.others →
      map (OfGood name s) (spec.good_arguments near.classes near.owners name r.kind ts) ≡ (if same then map (OfGood name s) (spec.good_arguments near.classes near.owners name r.kind r.others) else [])
  good_asked name same e ts are = rw e (ap (λ us. map (OfGood name s) (spec.good_arguments near.classes near.owners name r.kind us)) are)

  pub invariants_asked : (both : Bool) → both ≡ true → (ts : List Term) → ts ≡ r.others →
      map (λ t. OfInvariants s (ts ++ t ∷ [])) near.invariants ≡ (if both then map (λ t. OfInvariants s (r.others ++ t ∷ [])) near.invariants else [])
  invariants_asked both e ts are = rw e (ap (λ us. map (λ t. OfInvariants s (us ++ t ∷ [])) near.invariants) are)

-- ---- all sentences in all stores

abbrev all_sentences : List Sentence
all_sentences = sentence.Invariants ∷ sentence.Good good_rule.Full ∷ sentence.Good good_rule.Owned ∷ sentence.Good good_rule.Marks ∷ sentence.Good good_rule.Typed ∷ sentence.Good good_rule.Ready ∷ []

about_good : (cs : List ClassTree) (atoms : List Formula) (terms : List Term) → flat_map (in_stores (gathered cs atoms terms) (filter_map spec.good_of atoms)) all_sentences ≡ asked_about_good cs atoms terms
about_good cs atoms terms = refl

pub about_good_from : (cs : List ClassTree) (atoms : List Formula) (terms : List Term) (near : Nearby) (stores : List Term) → near ≡ gathered cs atoms terms → stores ≡ filter_map spec.good_of atoms →
    flat_map (in_stores near stores) all_sentences ≡ asked_about_good cs atoms terms
about_good_from cs atoms terms near stores e f = ap (λ n. flat_map (in_stores n stores) all_sentences) e ∙ ap (λ ss. flat_map (in_stores (gathered cs atoms terms) ss) all_sentences) f ∙ about_good cs atoms terms
