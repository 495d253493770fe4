-- What a formed body says of its statements, where they are reached.
use Rattle.std.specs.Prelude.{◌≡◌, ℕ, Bool, true, false, not, Option}
use Rattle.ss_core.specs.Tree.{StmtTree, CodeTree}
use Rattle.ss_store_rules.specs.Assigned.{assigned_flow, assigned_check}
use Rattle.ss_store_rules.specs.Construction.{is_base_or_ready}
use Rattle.ss_store_rules.specs.Locals.{each, each_inside}
use Rattle.ss_store_rules.specs.Paths.{holds_at, holds_along}
use Rattle.ss_store_rules.specs.Typed.{is_typed, has_exposable}
use Rattle.ss_vcgen_heaps.specs.Positions.{Walk}

-- The statement and those inside it are typed, have `base(..)` and `ready this` in constructors alone, and read what is assigned.
pub record IsReadSoundly (w : Walk) (xs : ℕ → Bool) (s : StmtTree) : Type 0 where
  pub typed : each_inside (is_typed w.program w.body) s ≡ true
  pub exposed : each_inside (has_exposable w.program.classes w.body) s ≡ true
  pub ready : w.body.flags.ctor ≡ false → each_inside (λ u. not (is_base_or_ready u)) s ≡ true
  pub assigned : holds_at assigned_flow (assigned_check w.body) s xs ≡ true

-- so do statements one after the other
pub record AreReadSoundly (w : Walk) (o : Option (ℕ → Bool)) (code : CodeTree) : Type 0 where
  pub typed : each (is_typed w.program w.body) code ≡ true
  pub exposed : each (has_exposable w.program.classes w.body) code ≡ true
  pub ready : w.body.flags.ctor ≡ false → each (λ u. not (is_base_or_ready u)) code ≡ true
  pub assigned : holds_along assigned_flow (assigned_check w.body) code o ≡ true
