-- Bodies whose contracts are stated as the laws on formulas ask, and the terms of their arguments.
use Rattle.std.specs.Prelude.{◌≡◌, List, [], ◌∷◌, true, Option, Some, None}
use Rattle.std.specs.List.{list_all}
use Rattle.ss_core.specs.declared.names.Ty.{Ty}
use Rattle.ss_core.specs.Tree.{ClassTree, BodyTree}
use Rattle.ss_store_rules.specs.declared.Value.{Value as ObjectValue}
use Rattle.ss_store_rules.specs.Locals.{local_types}
use Rattle.ss_logic.specs.Values.{Structure}
use Rattle.ss_logic.specs.Terms.{Term, sort_of_type, is_well_sorted}
use Rattle.ss_logic_means.specs.Means.{standing}
use Rattle.ss_logic_means.specs.Scenes.{is_stated}
use Rattle.ss_logic_means.specs.Sorts.{HasSort}
use Rattle.ss_logic_tables.specs.Spans.{IsTypedBody}
use Rattle.ss_vcgen_heaps.specs.Positions.{Counters}
use Rattle.ss_vcgen_safe.specs.At.{Stays, HasValue}

-- A formed body is so, and as its callers see it too.
pub record IsStatedBody (cs : List ClassTree) (b : BodyTree) : Type 0 where
  pub typed : IsTypedBody cs b
  pub entry : list_all (is_stated cs (local_types b)) b.entry ≡ true
  pub exit : list_all (is_stated cs (local_types b)) b.exit ≡ true

-- The term has no bound name, and the value in each structure that is alike.
pub record IsTermFor (cs : List ClassTree) (next : Counters) (m : Structure) (t : Term) (v : ObjectValue) : Type 0 where
  pub sorted : is_well_sorted cs [] t ≡ true
  pub is : Stays next m (HasValue cs t (standing v))

-- one for each value
abbrev pub AreTermsFor : List ClassTree → Counters → Structure → List Term → List ObjectValue → Type 0
AreTermsFor cs next m [] [] = Unit {0}
AreTermsFor cs next m (t ∷ ts) (v ∷ vs) = IsTermFor cs next m t v × AreTermsFor cs next m ts vs
AreTermsFor cs next m ts vs = ⊥

-- a term with the value for the result, where there is one
abbrev pub IsResult : List ClassTree → Counters → Structure → Option Ty → List Term → ObjectValue → Type 0
IsResult cs next m None ts v = Unit {0}
IsResult cs next m (Some a) (t ∷ []) v = IsTermFor cs next m t v × HasSort cs [] (sort_of_type a) t
IsResult cs next m (Some a) ts v = ⊥
