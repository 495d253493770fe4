-- The terms of `modifies` clauses that a loop has gone over.
use Rattle.std.specs.Prelude.{List, [], ◌++◌, Option, Some, None, map, option_map, Vec}
use Rattle.std.specs.declared.alloc.Global.{Global}
use Rattle.ss_typed.specs.declared.body.TypedModifies.{TypedModifies}
use Rattle.ss_typed.specs.Tree.{ModifiedTree}
use Rattle.ss_typed.specs.View.{modified}

abbrev pub terms_of : Option (Vec TypedModifies Global) → Option (List ModifiedTree)
terms_of o = option_map (λ (v : Vec TypedModifies Global). map modified v.items) o

-- these, and then those
abbrev pub joined : Option (List ModifiedTree) → Option (List ModifiedTree) → Option (List ModifiedTree)
joined None more = more
joined (Some ms) more = Some (ms ++ listed more)
  where
    listed : Option (List ModifiedTree) → List ModifiedTree
    listed None = []
    listed (Some more) = more
