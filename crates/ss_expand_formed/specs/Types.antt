-- The part of a formed core program on the types of locals, which the elaboration of an accepted program has.
use Rattle.std.specs.Prelude.{◌≡◌, true}
use Rattle.std.specs.List.{list_all}
use Rattle.ss_core.specs.Tree.{CoreTree}
use Rattle.ss_store_rules.specs.Typed.{is_local}
use Rattle.ss_expand_formed.specs.Laws.{OfEach}

-- the locals of each body have types of the table, and none has that of null
abbrev pub HaveLocals : CoreTree → Type 0
HaveLocals c = OfEach c (λ b. list_all (is_local c.classes) b.locals ≡ true)
