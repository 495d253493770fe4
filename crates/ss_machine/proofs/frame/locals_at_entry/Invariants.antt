use Rattle.std.proofs.Common.{◌≡◌, ◌++◌, map, drop}
use Rattle.ss_core.specs.View.{local_of}
use Rattle.ss_store_rules.specs.Store.{default_value}
use Rattle.ss_machine.proofs.frame.locals_at_entry.Given as goal

abbrev pub invariant-loop-local : goal.invariant-loop-local
invariant-loop-local l = l.locals.items ++ map default_value (map (λ x. x.ty) (map local_of (drop l.local-index l.local-items))) ≡ l.fn.arguments.items ++ map default_value (map (λ x. x.ty) (map local_of l.local-items))
