-- Terms and formulas that are well sorted in their places.
use Rattle.std.specs.Prelude.{◌≡◌, List, [], ◌∷◌, Bool, true, ◌&&◌}
use Rattle.std.specs.List.{list_all}
use Rattle.ss_core.specs.Tree.{ClassTree}
use Rattle.ss_logic.specs.declared.Sort.TheVariants as sort
use Rattle.ss_logic.specs.Terms.{Term, have_sorts}
use Rattle.ss_logic.specs.Formulas.{is_well_formed}
use Rattle.ss_logic.specs.Frames.{NamedTerm, NamesField, NamesAll, NamesUpto, NamesElements, CallTerms}

abbrev pub is_object : List ClassTree → Term → Bool
is_object cs o = have_sorts cs (sort.Rest ∷ []) (o ∷ [])

abbrev pub is_name : List ClassTree → NamedTerm → Bool
is_name cs (NamesField guard o f) = is_well_formed cs [] guard && is_object cs o
is_name cs (NamesAll guard o) = is_well_formed cs [] guard && is_object cs o
is_name cs (NamesUpto guard o t) = is_well_formed cs [] guard && is_object cs o
is_name cs (NamesElements guard a) = is_well_formed cs [] guard && is_object cs a

pub record AreSorted (cs : List ClassTree) (c : CallTerms) : Type 0 where
  pub stores : have_sorts cs (sort.Store ∷ sort.Store ∷ []) (c.before ∷ c.after ∷ []) ≡ true
  pub named : list_all (is_name cs) c.named ≡ true
  pub captured : list_all (is_object cs) c.captured ≡ true
  pub owned : list_all (λ w. is_object cs w.object) c.owned ≡ true
  pub outside : list_all (is_object cs) c.outside ≡ true
