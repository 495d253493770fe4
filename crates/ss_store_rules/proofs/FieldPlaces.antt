-- A field has one place in every object.
use Rattle.std.proofs.Common.{◌≡◌, ◌≢◌, ℕ, List, [], ◌∷◌, ◌++◌, ◌∙◌, ap}
use Rattle.std.specs.Prelude.{flat_map, reverse}
use Rattle.std.proofs.lemmas.List.{append-nil}
use Rattle.std.proofs.lemmas.Grind.{reverse_onto, flat_map-append}
use Rattle.ss_core.specs.Tree.{ClassTree}
use Rattle.ss_core.specs.Chain.{above, levels, all_fields, IsChain}
use Rattle.ss_core.proofs.Chains.{levels_up}
use Rattle.ss_store_rules.specs.Store.{Slot}
use Rattle.ss_store_rules.specs.Changes.{slots_from, new_fields}

-- An object has the fields that one of the class above has, in the same places, and after them those that its own class declares.
pub new_fields-above : (cs : List ClassTree) → IsChain cs → (t : ℕ) → t ≢ 0 → new_fields cs t ≡ new_fields cs (above cs t) ++ slots_from t 0 (all_fields cs)
new_fields-above cs chain t nz =
    let F : ℕ → List Slot = λ level. slots_from level 0 (all_fields cs) in
    let ts = levels cs (above cs t) in
    ap (λ ls. flat_map F (reverse ls)) (levels_up cs chain t nz) ∙ ap (flat_map F) (reverse_onto ts t []) ∙ flat_map-append F (reverse ts) (t ∷ []) ∙ ap (λ xs. flat_map F (reverse ts) ++ xs) (append-nil (F t))
