-- The formulas with which a ground form starts: the premises and the denied goal, where fresh constants stand for what an `exists` says
-- that there is.
use Rattle.std.specs.Prelude.{ℕ, zero, suc, ◌+◌, List, [], ◌∷◌, ◌++◌, map, length, sum_by, Bool, true, false, ◌==◌, ◌&&◌, Option, Some, find, if◌then◌else◌}
use Rattle.std.specs.List.{list_any}
use Rattle.ss_logic.specs.declared.Sort.{Sort}
use Rattle.ss_logic.specs.Terms.{Constant, Term, App, app, same_sort}
use Rattle.ss_logic.specs.Formulas.{Formula, Formulas, Literal, And, Or, Forall, Exists, no_formulas, formula_then, neg, put}
use Rattle.ss_logic.specs.Equal.{same_formula}
use Rattle.ss_logic.specs.Occurring.{quantified, all_terms}

-- ---- fresh constants

abbrev pub is_numbered : Sort → ℕ → Term → Bool
is_numbered s k (App (Constant r j) ts) = same_sort r s && j == k
is_numbered s k t = false

-- the least number from k on, of n that are tried, with which no constant of the sort stands among the terms
abbrev pub least_from : ℕ → ℕ → Sort → List Term → ℕ
least_from zero k s ts = k
least_from (suc n) k s ts = if list_any (is_numbered s k) ts then least_from n (k + 1) s ts else k

abbrev pub fresh_constant : Sort → List Term → Term
fresh_constant s ts = app (Constant s (least_from (length ts) 0 s ts)) []

-- one for each sort, which differ from one another
abbrev pub fresh_constants : List Sort → List Term → List Term
fresh_constants [] ts = []
fresh_constants (s ∷ ss) ts = fresh_constant s ts ∷ fresh_constants ss (fresh_constant s ts ∷ ts)

-- ---- opening

abbrev pub is_exists : Formula → Bool
is_exists (Exists ss f) = true
is_exists f = false

-- each place of the one formula has the other, but for those in quantified formulas
abbrev mutual
  pub replaced : Formula → Formula → Formula → Formula
  replaced f g (Literal sign p ts) = Literal sign p ts
  replaced f g (And fs) = And (all_replaced f g fs)
  replaced f g (Or fs) = Or (all_replaced f g fs)
  replaced f g (Forall ss h) = if same_formula f (Forall ss h) then g else Forall ss h
  replaced f g (Exists ss h) = if same_formula f (Exists ss h) then g else Exists ss h

  pub all_replaced : Formula → Formula → Formulas → Formulas
  all_replaced f g no_formulas = no_formulas
  all_replaced f g (formula_then h fs) = formula_then (replaced f g h) (all_replaced f g fs)

-- how many an `exists` binds, one in another counted too
abbrev mutual
  pub exists_count : Formula → ℕ
  exists_count (Literal sign p ts) = 0
  exists_count (And fs) = all_exists_count fs
  exists_count (Or fs) = all_exists_count fs
  exists_count (Forall ss f) = exists_count f
  exists_count (Exists ss f) = suc (exists_count f)

  pub all_exists_count : Formulas → ℕ
  all_exists_count no_formulas = 0
  all_exists_count (formula_then f fs) = exists_count f + all_exists_count fs

-- the `exists` opened at constants that are new to the terms, and then what is done with the list
abbrev pub with_opened : List Term → List Formula → (List Term → List Formula → List Formula) → Option Formula → List Formula
with_opened used fs again (Some (Exists ss f)) = again (fresh_constants ss used ++ used) (map (replaced (Exists ss f) (put (fresh_constants ss used) f)) fs)
with_opened used fs again o = fs

-- the first `exists` opened, then the next one, at most n of them
abbrev pub opened_from : ℕ → List Term → List Formula → List Formula
opened_from zero used fs = fs
opened_from (suc n) used fs = with_opened used fs (opened_from n) (find is_exists (quantified fs))

-- the premises and the denied goal
abbrev pub start : List Formula → Formula → List Formula
start premises goal =
    let fs = premises ++ neg goal ∷ [] in
    opened_from (sum_by exists_count fs) (all_terms fs) fs
