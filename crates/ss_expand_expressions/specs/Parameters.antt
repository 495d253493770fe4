-- The types of parameters.
use Rattle.std.specs.Prelude.{List, map}
use Rattle.ss_core.specs.declared.names.Ty.{Ty}
use Rattle.ss_typed.specs.declared.body.TypedParam.{TypedParam}
use Rattle.ss_typed.specs.Tree.{ParamTree}
use Rattle.ss_typed.specs.View.{param}

abbrev pub param_types : List TypedParam → List Ty
param_types ps = map (λ (q : ParamTree). q.ty) (map param ps)
