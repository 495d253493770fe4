-- Room for new objects.
use Rattle.std.proofs.Common.{◌≡◌, ℕ, ◌+◌, ◌<◌, ◌≤◌, List, [], ◌++◌, length, refl, sym, ◌∙◌, ap, subst, arith, Option, Some, None, vec_capacity}
use Rattle.std.specs.Prelude.{option_to_list, unwrap_or}
use Rattle.std.specs.List.{All}
use Rattle.std.specs.declared.vec.Vec.{Vec}
use Rattle.std.proofs.lemmas.List.{append-nil}
use Rattle.std.proofs.lemmas.List.Elements.{All-pop}
use Rattle.ss_store.specs.Room.{IsRoomy}

-- a spare list has room
pub not_spare : {Y Z : Type 0} (spare rest : List (Vec Y Z)) (popped : Option (Vec Y Z)) (fresh fields : Vec Y Z) (n : ℕ) → All IsRoomy spare → spare ≡ rest ++ option_to_list popped → fields ≡ unwrap_or popped fresh → n ≤ 1024 → vec_capacity fields < length fields.items + n → popped ≡ None
not_spare spare rest None fresh fields n roomy is from few full = refl
not_spare spare rest (Some v) fresh fields n roomy is from few full =
    let it = (All-pop IsRoomy spare rest (Some v) is roomy).1 in
    let none = ap length it.none in
    let room = it.room in
    let full' = subst (λ w. vec_capacity w < length w.items + n) from full in
    absurd (omega arith)

pub rest_is_all : {X : Type 0} (all rest : List X) (popped : Option X) → all ≡ rest ++ option_to_list popped → popped ≡ None → rest ≡ all
rest_is_all all rest popped is none = let e : all ≡ rest ++ [] = is ∙ ap (λ o. rest ++ option_to_list o) none in sym (e ∙ append-nil rest)
