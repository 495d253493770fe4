-- The statements of a constructor.
use Rattle.std.specs.Prelude.{if◌then◌else◌}
use Rattle.ss_typed.specs.Tree.{StmtTree, StmtTrees, Before, BodyTree, TypedTree}
use Rattle.ss_expand_rules.specs.Constructors.{before_all, after_initial, initializers, with_base}

-- where no statement calls `base(..)`, this one does
abbrev pub with_implied : TypedTree → BodyTree → StmtTree → StmtTrees → StmtTrees
with_implied p b s ss = if b.flags.delayed then Before s ss else after_initial p b.class s ss

-- the statements of a constructor whose block has these
abbrev pub constructed : TypedTree → BodyTree → StmtTrees → StmtTrees
constructed p b ss = before_all (initializers p b.class) (with_base p b b.base ss)
