-- Constructors in resolved programs.
use Rattle.std.specs.Prelude.{ℕ, Bool, true, Option, Some, None}
use Rattle.ss_typed.specs.Tree.{BodyTree, MembersTree}

-- the constructor that a class writes, by its number
abbrev pub written_constructor : Option MembersTree → Option ℕ
written_constructor None = None
written_constructor (Some c) = c.constructor

-- the constructor of a class is delayed: one that isn't written is, and that of `object`
abbrev pub is_delayed_body : Option BodyTree → Bool
is_delayed_body None = true
is_delayed_body (Some b) = b.flags.delayed
