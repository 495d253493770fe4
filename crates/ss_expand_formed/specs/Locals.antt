-- The parts of a formed core program on the numbers of locals, which the elaboration of a program has.
use Rattle.std.specs.Prelude.{◌≡◌, List, length, true}
use Rattle.ss_core.specs.Tree.{CoreTree}
use Rattle.ss_typed.specs.Tree.{BodyTree, TypedTree}
use Rattle.ss_expand_rules.specs.Bodies.{numbers, temporary_count, written_body}
use Rattle.ss_store_rules.specs.Locals.{local_types, result_number, each, targets_only, is_variable}
use Rattle.ss_store_rules.specs.Construction.{if_delayed, packs_at_returns}
use Rattle.ss_store_rules.specs.Assigned.{names_its_exposes}
use Rattle.ss_expand_formed.specs.Laws.{OfEach}

-- neither an argument nor the result nor a bound name is assigned
abbrev pub HaveTargets : CoreTree → Type 0
HaveTargets c = OfEach c (λ b. each (targets_only (is_variable b)) b.code ≡ true)

-- each expose that a loop names encloses it
abbrev pub NameOpenExposes : CoreTree → Type 0
NameOpenExposes c = OfEach c (λ b. names_its_exposes b ≡ true)

-- a delayed constructor packs its `this` only directly before a return
abbrev pub PackAtReturns : CoreTree → Type 0
PackAtReturns c = OfEach c (λ b. if_delayed b (packs_at_returns b.class b.code) ≡ true)

-- of a body that elaborates b, the result stands where its code means it, and its bound names stand after all its locals
pub record HasNumbers (p : TypedTree) (b : BodyTree) (bs : List BodyTree) : Type 0 where
  pub outcome : result_number (written_body p b bs) ≡ (numbers b (temporary_count p b)).outcome
  pub bound : length (local_types (written_body p b bs)) ≡ (numbers b (temporary_count p b)).first_bound
