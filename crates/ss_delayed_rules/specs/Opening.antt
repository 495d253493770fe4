-- What stands before `base(..)` in the block of a constructor.
use Rattle.std.specs.Prelude.{ℕ, if◌then◌else◌, Option, Some, None}
use Rattle.ss_typed.specs.Tree.{Arguments, BaseCallOf, BlockTree, StmtTree, SimpleOf, StmtTrees, NoMore, Before, BaseTree, BodyTree, TypedTree}
use Rattle.ss_typed.specs.Shapes.{has_base, in_block, is_base}
pub use Rattle.ss_paths.specs.Opening.{is_first, first_run}

abbrev pub before_base : StmtTrees → StmtTrees
before_base NoMore = NoMore
before_base (Before s ss) = if is_base s then NoMore else Before s (before_base ss)

abbrev pub opening_of : TypedTree → ℕ → Option BaseTree → StmtTrees → StmtTrees
opening_of p t (Some base) ss = NoMore
opening_of p t None ss = if has_base ss then before_base ss else first_run p t ss

-- The statements before `base(..)`: `: base(..)` stands before the whole block, and where none is written it is implied after the longest run.
abbrev pub opening : TypedTree → BodyTree → StmtTrees
opening p b = opening_of p b.class b.base (in_block b.block)

-- ---- the `base(..)` that is written

abbrev pub base_in : StmtTrees → Option BaseTree
base_in NoMore = None
base_in (Before (SimpleOf (BaseCallOf p es)) ss) = Some (record { place = p; arguments = es })
base_in (Before s ss) = base_in ss

abbrev pub written_base : BodyTree → Option BaseTree
written_base b = or_in b.base (in_block b.block)
  where
    or_in : Option BaseTree → StmtTrees → Option BaseTree
    or_in (Some base) ss = Some base
    or_in None ss = base_in ss
