-- The part of a formed core program on null, which the elaboration of an accepted program has.
use Rattle.std.specs.Prelude.{◌≡◌, true}
use Rattle.ss_core.specs.Tree.{CoreTree}
use Rattle.ss_store_rules.specs.NonNull.{keeps_nulls_out}
use Rattle.ss_expand_formed.specs.Laws.{OfEach}

-- no value that may be null goes where none is wanted
abbrev pub KeepNullsOut : CoreTree → Type 0
KeepNullsOut c = OfEach c (λ b. keeps_nulls_out c b ≡ true)
