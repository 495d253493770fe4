-- What a call enters, as the code has it.
use Rattle.std.specs.Prelude.{List, [], map}
use Rattle.ss_core.specs.declared.names.Ty.{Ty}
use Rattle.ss_typed.specs.Tree.{ParamTree}
use Rattle.ss_typed.specs.View.{param}
use Rattle.ss_nonnull_seen.specs.declared.calls.Called.{Called}
use Rattle.ss_nonnull_seen.specs.declared.calls.Called.TheVariants as called

-- the types of its parameters
abbrev pub called_types : Called → List Ty
called_types (called.Method ps) = map (λ (x : ParamTree). x.ty) (map param ps.now)
called_types called.Nothing = []
