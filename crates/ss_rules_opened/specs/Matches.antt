-- What stands for bound names, and lists of terms, in a bank.
use Rattle.std.specs.Prelude.{◌≡◌, ℕ, List, [], ◌∷◌, ◌++◌, map, filter, filter_map, flat_map, length, Bool, ◌&&◌, Option, Some, None, option_map, IfSome, if◌then◌else◌, Vec, Contains}
use Rattle.std.specs.Global.{Global}
use Rattle.ss_core.specs.Tree.{ClassTree}
use Rattle.ss_logic.specs.declared.Sort.{Sort}
use Rattle.ss_logic.specs.Terms.{Term}
use Rattle.ss_logic.specs.Formulas.{Formula, Or, formulas_from, neg, put}
use Rattle.ss_logic.specs.Occurring.{atoms, terms, all_terms}
use Rattle.ss_logic.specs.Asked.{is_empty}
use Rattle.ss_logic.specs.Matching.{is_trigger, is_plain_whole, is_one_whole, term_triggers, atom_triggers, match_term, match_atom}
use Rattle.ss_logic_means.specs.Origins.{IsInstance}
use Rattle.ss_terms.specs.declared.forms.TermId.{TermId}
use Rattle.ss_terms.specs.Forms.{Forms, term_at, terms_at, HasTerm, HasTerms}
use Rattle.ss_rules_opened.specs.declared.triggers.Wanted.{Wanted}
use Rattle.ss_rules_opened.specs.declared.triggers.Wanted.TheVariants as wanted
use Rattle.ss_rules_opened.specs.declared.places.Tuple.{Tuple}

-- ---- bound names

-- what stands for each bound name so far
abbrev pub found_at : Forms → Option TermId → Option Term
found_at b o = option_map (term_at b) o

abbrev pub all_found_at : Forms → List (Option TermId) → List (Option Term)
all_found_at b found = map (found_at b) found

abbrev pub HasAllFound : Forms → List (Option TermId) → Type 0
HasAllFound b [] = Unit {0}
HasAllFound b (o ∷ found) = IfSome o (HasTerm b) × HasAllFound b found

-- where they match, this stands for the bound names then
pub record IsMatch (b : Forms) (matches : Bool) (found : List (Option TermId)) (after : Option (List (Option Term))) : Type 0 where
  pub has : HasAllFound b found
  pub is : after ≡ (if matches then Some (all_found_at b found) else None)

-- ---- terms in place of all bound names

-- the bank has them, where there are any, and they stand for these
pub record AreThese (b : Forms) (r : Option (Vec TermId Global)) (these : Option (List Term)) : Type 0 where
  pub has : IfSome r (λ v. HasTerms b v.items)
  pub are : option_map (λ v. terms_at b v.items) r ≡ these

abbrev pub tuple_at : Forms → Tuple → List Term
tuple_at b t = terms_at b t.terms.items

abbrev pub tuples_at : Forms → List Tuple → List (List Term)
tuples_at b ts = map (tuple_at b) ts

abbrev pub HasTuples : Forms → List Tuple → Type 0
HasTuples b [] = Unit {0}
HasTuples b (t ∷ ts) = HasTerms b t.terms.items × HasTuples b ts

pub record AreTuples (b : Forms) (ts : List Tuple) (these : List (List Term)) : Type 0 where
  pub has : HasTuples b ts
  pub are : tuples_at b ts ≡ these

-- ---- terms that are wanted

abbrev pub is_wanted : Wanted → Term → Bool
is_wanted (wanted.Trigger n) t = is_trigger n t
is_wanted wanted.PlainWhole t = is_plain_whole t

-- ---- the places of a `forall`

-- at each whole-number literal and constant
abbrev pub number_places : List Formula → List (List Term)
number_places fs = map (λ t. t ∷ []) (filter is_plain_whole (all_terms fs))

-- at the terms and atoms that match a trigger
abbrev pub match_places : ℕ → List Term → List Formula → List Formula → List (List Term)
match_places n for_terms for_atoms fs =
    flat_map (λ t. filter_map (λ pattern. match_term n pattern t) for_terms) (terms fs) ++ flat_map (λ a. filter_map (λ pattern. match_atom n pattern a) for_atoms) (atoms fs)

abbrev pub places_by : List Formula → List Sort → List Term → List Formula → List (List Term)
places_by fs ss for_terms for_atoms = if is_empty for_terms && is_empty for_atoms && is_one_whole ss then number_places fs else match_places (length ss) for_terms for_atoms fs

abbrev pub places : List Formula → List Sort → Formula → List (List Term)
places fs ss f = places_by fs ss (term_triggers (length ss) f) (atom_triggers (length ss) f)

-- the instance there: there is nothing for which the body is false, or it is true of these terms
abbrev pub instance_there : Formula → Formula → List Term → Formula
instance_there whole f ts = Or (formulas_from (neg whole ∷ put ts f ∷ []))

-- at each of these tuples it is an instance of a `forall` of the list
abbrev pub AreInstances : List ClassTree → List Formula → Formula → Formula → List (List Term) → Type 0
AreInstances cs fs whole f tuples = (ts : List Term) → Contains tuples ts → IsInstance cs fs whole ts (instance_there whole f ts)
