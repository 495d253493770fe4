-- The head of a loop: what is read there is assigned and typed.
use Rattle.std.specs.Prelude.{◌≡◌, ℕ, map, Bool, true}
use Rattle.std.specs.List.{list_all}
use Rattle.ss_core.specs.Tree.{ExposedTree}
use Rattle.ss_store_rules.specs.Assigned.{reads_assigned}
use Rattle.ss_store_rules.specs.Types.{is_condition, in_assert}
use Rattle.ss_store_rules.specs.Typed.{is_exposable}
use Rattle.ss_vcgen_heaps.specs.Positions.{Walk}
use Rattle.ss_vcgen_heaps.specs.Obligations.{Loop}

-- What a formed body says of the head of a loop, where these locals are assigned.
pub record IsAsked (w : Walk) (xs : ℕ → Bool) (l : Loop) : Type 0 where
  pub typed : list_all (is_condition w.program.classes w.body in_assert) l.invariants ≡ true
  pub reads : list_all (reads_assigned w.body xs) l.invariants ≡ true
  pub exposed : list_all (λ (x : ExposedTree). is_exposable w.program.classes w.body x.local x.class) l.exposes ≡ true
  pub operands : list_all xs (map (λ (x : ExposedTree). x.local) l.exposes) ≡ true
