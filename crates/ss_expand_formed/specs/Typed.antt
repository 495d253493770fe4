-- The parts of a formed core program on the types of statements, which the elaboration of an accepted program has.
use Rattle.std.specs.Prelude.{◌≡◌, true}
use Rattle.ss_core.specs.Tree.{CoreTree}
use Rattle.ss_store_rules.specs.Locals.{each}
use Rattle.ss_store_rules.specs.Typed.{is_typed, has_exposable}
use Rattle.ss_expand_formed.specs.Laws.{OfEach}

-- each statement of its code has the types of the language
abbrev pub HaveTypedCode : CoreTree → Type 0
HaveTypedCode c = OfEach c (λ b. each (is_typed c b) b.code ≡ true)

-- what its code exposes is of the class at which it is exposed
abbrev pub ExposeByClass : CoreTree → Type 0
ExposeByClass c = OfEach c (λ b. each (has_exposable c.classes b) b.code ≡ true)
