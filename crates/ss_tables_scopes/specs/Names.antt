-- The locals in scope within a body: what of a scope changes from statement to statement.
use Rattle.std.specs.Prelude.{ℕ, Bool, List, Option}
use Rattle.ss_core.specs.declared.names.Ty.{Ty}
use Rattle.ss_ast.specs.Programs.{ClassTree}
use Rattle.ss_tables.specs.Scopes.{Local, Scope}
use Rattle.ss_tables.specs.Named.{Scoped}

abbrev pub Names : Type 0
Names = Scoped Local

-- the scope with these locals, within a class
abbrev pub scope_with : List ClassTree → ℕ → Bool → Bool → Option Ty → Names → Scope
scope_with cs k refuses_members refuses_this outcome names = record {
  classes = cs;
  class = k;
  refuses_members = refuses_members;
  refuses_this = refuses_this;
  outcome = outcome;
  inner = names.inner;
  outer = names.outer;
}
