use Rattle.std.proofs.Common.{◌≡◌, ◌++◌, map, take}
use Rattle.ss_core.specs.View.{local_of}
use Rattle.ss_store_rules.specs.Store.{default_value}
use Rattle.ss_store_rules.specs.Admitted.{main_arguments}
use Rattle.ss_store.proofs.inputs.first_locals.Given as goal

abbrev pub invariant-loop-local : goal.invariant-loop-local
invariant-loop-local l = l.locals.items ≡ main_arguments (map local_of l.main.params.items) ++ map (λ x. default_value x.ty) (take l.local-index l.local-items)
