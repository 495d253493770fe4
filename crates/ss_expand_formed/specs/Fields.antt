-- The parts of a formed core program on the fields that constructors assign, which the elaboration of an accepted program has.
use Rattle.std.specs.Prelude.{◌≡◌, true}
use Rattle.ss_core.specs.Tree.{CoreTree}
use Rattle.ss_store_rules.specs.Construction.{if_delayed, returns_with_fields, if_undelayed, is_ready_with_fields}
use Rattle.ss_expand_formed.specs.Laws.{OfEach}

-- a delayed constructor has given the fields of its class and of those above it their values on every path to each return
abbrev pub ReturnWithFields : CoreTree → Type 0
ReturnWithFields c = OfEach c (λ b. if_delayed b (returns_with_fields c b) ≡ true)

-- one that isn't delayed has given those of its class their values where its `this` becomes ready
abbrev pub AreReadyWithFields : CoreTree → Type 0
AreReadyWithFields c = OfEach c (λ b. if_undelayed b (is_ready_with_fields c b) ≡ true)
