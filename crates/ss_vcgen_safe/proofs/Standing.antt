-- Terms that stand for good stores.
use Rattle.std.proofs.Common.{◌≡◌, List, [], ◌∷◌, ap, subst, sym}
use Rattle.ss_core.specs.Tree.{ClassTree}
use Rattle.ss_store_rules.specs.Store.{Object}
use Rattle.ss_logic.specs.Values.{Heap, store, as_store, IsNumbered, Structure}
use Rattle.ss_logic.specs.Terms.{Term}
use Rattle.ss_logic.specs.Formulas.{Good, True, atom}
use Rattle.ss_logic.specs.Objects.{objects_of, IsGoodStore}
use Rattle.ss_logic.proofs.Numbered.{store_numbered}
use Rattle.ss_vcgen_safe.specs.Done.{StandsFor, HasStore}

pub has_objects : (cs : List ClassTree) (m : Structure) (t : Term) (h : Heap) (s : List Object) → StandsFor cs m t (store h) → IsGoodStore cs m.table h → objects_of cs m.table h ≡ s → HasStore cs m t s
has_objects cs m t h s stands good objects = record {
  heap = h;
  stands = stands;
  is = record { objects = objects; good = good; numbered = subst IsNumbered (ap as_store (stands [])) (store_numbered cs m t) };
}

pub is_good : (cs : List ClassTree) (m : Structure) (t : Term) (s : List Object) → HasStore cs m t s → True cs m [] (atom Good (t ∷ []))
is_good cs m t s has n = n (subst (IsGoodStore cs m.table) (ap as_store (sym (has.stands []))) has.is.good)
