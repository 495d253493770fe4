-- What is left of a body goes on safely where the code that comes first does.
use Rattle.std.proofs.Common.{List, [], ◌∷◌, ◌++◌}
use Rattle.ss_core.specs.Tree.{CodeTree, NoCode, Then}
use Rattle.ss_machine_rules.specs.States.{Due, dues}
use Rattle.ss_sound_outcomes.specs.Points.{Activation, Point}
use Rattle.ss_sound_outcomes.specs.Outcomes.{AllSafely}
use Rattle.ss_sound_runs.specs.Stacks.{LeftSafely}
use Rattle.ss_sound_runs.proofs.Outcomes.{weaker}

module _ (a : Activation) where
  -- all the code of a body
  pub left_all : (code : CodeTree) (p : Point) → AllSafely a code p (λ q. ⊥) → LeftSafely a (dues code) p
  left_all NoCode p h = h
  left_all (Then s code) p h = weaker a s p (λ q. AllSafely a code q (λ r. ⊥)) (λ q. LeftSafely a (dues code) q) (λ q k. left_all code q k) h

  -- code before what is left
  pub left_before : (code : CodeTree) (ds : List Due) (p : Point) → AllSafely a code p (λ q. LeftSafely a ds q) → LeftSafely a (dues code ++ ds) p
  left_before NoCode ds p h = h
  left_before (Then s code) ds p h = weaker a s p (λ q. AllSafely a code q (λ r. LeftSafely a ds r)) (λ q. LeftSafely a (dues code ++ ds) q) (λ q k. left_before code ds q k) h

  pub left_between : (code : CodeTree) (d : Due) (ds : List Due) (p : Point) → AllSafely a code p (λ q. LeftSafely a (d ∷ ds) q) → LeftSafely a ((dues code ++ d ∷ []) ++ ds) p
  left_between NoCode d ds p h = h
  left_between (Then s code) d ds p h =
      weaker a s p (λ q. AllSafely a code q (λ r. LeftSafely a (d ∷ ds) r)) (λ q. LeftSafely a ((dues code ++ d ∷ []) ++ ds) q) (λ q k. left_between code d ds q k) h
