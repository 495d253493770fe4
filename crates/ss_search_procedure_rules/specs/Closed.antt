-- When a list of formulas is closed without a split, when by nested splits, and when splits are enough.
use Rattle.std.specs.Prelude.{ℕ, zero, suc, ◌*◌, ◌^◌, ◌<◌, ◌≤◌, ◌⊎◌, List, ◌∷◌, length, filter, Bool, ◌||◌}
use Rattle.std.specs.List.{Contains}
use Rattle.ss_logic.specs.Formulas.{Formula, Formulas, Literal, And, Or, Forall, Exists, no_formulas, formula_then, formula_list, neg}
use Rattle.ss_logic_means.specs.Steps.{is_literal, is_quantified}
use Rattle.ss_core.specs.Tree.{ClassTree}
use Rattle.ss_logic.specs.Includes.{Includes}
use Rattle.ss_logic_countermodels.specs.Refuting.{Model, Agrees, Refutes, told_in, told}

-- ---- what may hold beside known literals

-- literals and quantified formulas: what isn't taken apart
abbrev pub is_basic : Formula → Bool
is_basic f = is_literal f || is_quantified f

abbrev pub basics : List Formula → List Formula
basics fs = filter is_basic fs

-- Some model agrees with all of them. So by congruence, and since different values have different classes, they don't contradict
-- each other; sums of numbers aren't asked.
pub record Fits (fs : List Formula) : Type 0 where
  pub model : Model
  pub agrees : Agrees model fs

-- The formula isn't refuted beside these: a literal fits them, of an `and` no part is refuted, of an `or` some part isn't.
abbrev mutual
  pub MayHold : List Formula → Formula → Type 0
  MayHold known (Literal sign p ts) = Fits (Literal sign p ts ∷ known)
  MayHold known (And fs) = AllMayHold known fs
  MayHold known (Or fs) = SomeMayHold known fs
  MayHold known (Forall ss f) = Fits (Forall ss f ∷ known)
  MayHold known (Exists ss f) = Fits (Exists ss f ∷ known)

  pub AllMayHold : List Formula → Formulas → Type 0
  AllMayHold known no_formulas = Unit {0}
  AllMayHold known (formula_then f fs) = MayHold known f × AllMayHold known fs

  pub SomeMayHold : List Formula → Formulas → Type 0
  SomeMayHold known no_formulas = ⊥
  SomeMayHold known (formula_then f fs) = MayHold known f ⊎ SomeMayHold known fs

-- two parts, at different places
abbrev pub TwoMayHold : List Formula → Formulas → Type 0
TwoMayHold known no_formulas = ⊥
TwoMayHold known (formula_then f fs) = (MayHold known f × SomeMayHold known fs) ⊎ TwoMayHold known fs

-- one of the parts is reached
abbrev pub IsSatisfied : List Formula → Formulas → Type 0
IsSatisfied reached fs = (f : Formula) × Contains (formula_list fs) f × Contains reached f

-- ---- closed

-- What is reached leads to nothing more, and nothing in it is refuted. Each part of a reached `and` is reached. Where all parts of a
-- reached `or` but one are refuted, that one is reached: so one is, or two of them aren't refuted. Of the literals and what they make
-- equal no sum is a contradiction.
pub record IsSaturated (cs : List ClassTree) (reached : List Formula) : Type 0 where
  pub parts : (fs : Formulas) → Contains reached (And fs) → Includes reached (formula_list fs)
  pub branches : (fs : Formulas) → Contains reached (Or fs) → IsSatisfied reached fs ⊎ TwoMayHold (basics reached) fs
  pub model : Model
  pub refutes : Refutes cs model (basics reached)

-- closed without a split: nothing that is saturated has the formulas
abbrev pub IsClosed : List ClassTree → List Formula → Type 0
IsClosed cs fs = (reached : List Formula) → Includes reached fs → IsSaturated cs reached → ⊥

-- an atom or quantified formula that occurs in the formulas outside quantified ones
abbrev pub OccursIn : List Formula → Formula → Type 0
OccursIn fs p = (f : Formula) × Contains fs f × Contains (told_in f) p

-- what may be split on: one of these, or its negation
abbrev pub IsDecision : List Formula → Formula → Type 0
IsDecision fs p = OccursIn fs p ⊎ OccursIn fs (neg p)

-- Closed by splits nested this deep. A split has one side that is closed by splits nested less deep. So a chain of splits stands at depth 1, where
-- each has a side that is closed without a split. A decision that is known needs no split, and may stand here as well.
pub data Closed (cs : List ClassTree) : ℕ → List Formula → Type 0 where
  at_once : {depth : ℕ} {fs : List Formula} → IsClosed cs fs → Closed cs depth fs
  by_split : {depth : ℕ} {fs : List Formula} (p : Formula) → IsDecision fs p → Closed cs depth (p ∷ fs) → Closed cs (suc depth) (neg p ∷ fs) → Closed cs (suc depth) fs

-- so many splits are enough
abbrev pub AreEnough : List ClassTree → List Formula → ℕ → Type 0
AreEnough cs fs splits =
    let atoms = length (told fs) in
    IsClosed cs fs ⊎ ((depth : ℕ) × (0 < depth) × Closed cs depth fs × ((2 * atoms) ^ (2 * depth) ≤ splits)) ⊎ (2 ^ atoms ≤ splits)

-- ---- what isn't closed

-- At this depth nothing more follows: no decision that is open is closed one step less deep.
abbrev pub StaysOpen : List ClassTree → ℕ → List Formula → Type 0
StaysOpen cs zero reached = IsSaturated cs reached
StaysOpen cs (suc depth) reached = IsSaturated cs reached ×
    ((p : Formula) → IsDecision reached p → Contains reached p ⊎ Contains reached (neg p) ⊎ (Closed cs depth (p ∷ reached) → ⊥))

-- of each decision one side is reached
abbrev pub IsTotal : List Formula → Type 0
IsTotal reached = (p : Formula) → OccursIn reached p → Contains reached p ⊎ Contains reached (neg p)
