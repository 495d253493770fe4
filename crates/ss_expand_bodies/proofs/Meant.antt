-- What parameters are meant by, one more of them.
use Rattle.std.proofs.Common.{ℕ, ◌≡◌, ◌+◌, ◌++◌, List, [], ◌∷◌, length, cond, Bool, true, false, append_assoc, arith}

-- the list goes on after one that is copied, or that isn't
pub meant_next : (assigned : Bool) (before : List ℕ) (copy x : ℕ) (rest : ℕ → List ℕ)
    → (before ++ cond assigned copy x ∷ []) ++ rest (cond assigned (copy + 1) copy) ≡ before ++ cond assigned (copy ∷ rest (copy + 1)) (x ∷ rest copy)
meant_next true before copy x rest = append_assoc before (copy ∷ []) (rest (copy + 1))
meant_next false before copy x rest = append_assoc before (x ∷ []) (rest copy)

-- so many copies are still to come
pub copies_next : {X : Type 0} (assigned : Bool) (copy : ℕ) (q : X) (rest : List X)
    → cond assigned (copy + 1) copy + length rest ≡ copy + length (cond assigned (q ∷ rest) rest)
copies_next true copy q rest = omega arith
copies_next false copy q rest = omega arith
