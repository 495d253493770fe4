-- The part of a formed core program on assigned locals, which the elaboration of an accepted program has.
use Rattle.std.specs.Prelude.{◌≡◌, true}
use Rattle.ss_core.specs.Tree.{CoreTree}
use Rattle.ss_store_rules.specs.Assigned.{reads_what_is_assigned}
use Rattle.ss_expand_formed.specs.Laws.{OfEach}

-- in each body no local is read before it is assigned
abbrev pub ReadAssigned : CoreTree → Type 0
ReadAssigned c = OfEach c (λ b. reads_what_is_assigned b ≡ true)
