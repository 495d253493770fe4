-- Paths by their last step.
use Rattle.std.proofs.Common.{◌≡◌, ℕ, zero, suc, ◌+◌, ◌<◌, ◌≤◌, false, List, [], ◌∷◌, length, take, get_or, sym, ◌∙◌, arith}
use Rattle.ss_core.specs.declared.names.Place.{Place}
use Rattle.ss_core.specs.declared.expr.Step.{Step}
use Rattle.ss_core.specs.Tree.{ExprTree}
use Rattle.ss_core.specs.Parts.{step_after, path_front}
use Rattle.ss_store_rules.specs.NonNull.{is_this_object}
use Rattle.ss_vcgen_types.proofs.Grouping.{path_all, path_next, path_whole}
use Rattle.ss_vcgen_types.proofs.Forms.{step_not_this}

-- a path with a step isn't `this`
pub first_steps : (p : Place) (e : ExprTree) (ss : List Step) (n : ℕ) → 0 < n → n ≤ length ss → is_this_object (path_front p e (take n ss)) ≡ false
first_steps p e ss zero h l = absurd (omega arith)
first_steps p e [] (suc n) h l = absurd (omega arith)
first_steps p e (s ∷ ss) (suc n) h l = path_all is_this_object false step_not_this p e s (take n ss)

-- a path is its last step after the others
pub last_step : (p : Place) (e : ExprTree) (ss : List Step) (n : ℕ) (s : Step) → n + 1 ≡ length ss → s ≡ get_or ss n s → path_front p e ss ≡ step_after s p (path_front p e (take n ss))
last_step p e ss n s l is = sym (path_whole p e ss (n + 1) (omega arith)) ∙ path_next p e ss n s (omega arith) is
