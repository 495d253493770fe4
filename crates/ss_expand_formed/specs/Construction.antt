-- The parts of a formed core program on how constructors are built, which the elaboration of an accepted program has.
use Rattle.std.specs.Prelude.{◌≡◌, true}
use Rattle.ss_core.specs.Tree.{CoreTree}
use Rattle.ss_store_rules.specs.Locals.{each}
use Rattle.ss_store_rules.specs.Construction.{starts_in_order, has_opening, if_delayed, keeps_this_in, if_undelayed, writes_this_first}
use Rattle.ss_expand_formed.specs.Laws.{OfEach}

-- `base(..)` and `ready this` stand once each where they are wanted, the second directly after the first
abbrev pub StartInOrder : CoreTree → Type 0
StartInOrder c = OfEach c (λ b. starts_in_order c b ≡ true)

-- every path to the end passes them, and before them `this` has only fields of the class written
abbrev pub HaveOpening : CoreTree → Type 0
HaveOpening c = OfEach c (λ b. has_opening c b ≡ true)

-- the `this` of a delayed constructor doesn't get out
abbrev pub KeepThisIn : CoreTree → Type 0
KeepThisIn c = OfEach c (λ b. if_delayed b (each keeps_this_in b.code) ≡ true)

-- one that isn't delayed first only writes fields of its `this`
abbrev pub WriteThisFirst : CoreTree → Type 0
WriteThisFirst c = OfEach c (λ b. if_undelayed b (writes_this_first b) ≡ true)
