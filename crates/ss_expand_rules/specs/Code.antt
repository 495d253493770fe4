-- Code of the core program, with the temporaries that it needs.
use Rattle.std.specs.Prelude.{List, [], ◌∷◌, ◌++◌}
use Rattle.ss_core.specs.declared.names.Ty.{Ty}
use Rattle.ss_core.specs.Tree as core

-- statements, and the types of the temporaries made so far
pub record Coded : Type 0 where
  pub code : List core.StmtTree
  pub made : List Ty

abbrev pub nothing : List Ty → Coded
nothing made = record { code = []; made = made }

abbrev pub just : core.StmtTree → List Ty → Coded
just stmt made = record { code = stmt ∷ []; made = made }

abbrev pub after : List core.StmtTree → Coded → Coded
after code c = record c { code = code ++ c.code }

-- code, and after it what is made of the temporaries so far
abbrev pub then_code : Coded → (List Ty → Coded) → Coded
then_code c more = after c.code (more c.made)

-- the statement after it
abbrev pub and_then : List core.StmtTree → core.StmtTree → List Ty → Coded
and_then code stmt made = record { code = code ++ stmt ∷ []; made = made }
