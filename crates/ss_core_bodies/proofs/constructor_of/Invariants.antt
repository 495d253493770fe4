use Rattle.std.proofs.Common.{◌≡◌, map, drop}
use Rattle.std.specs.Prelude.{find}
use Rattle.ss_core.specs.View.{body}
use Rattle.ss_store_rules.specs.Typed.{is_constructor_of}
use Rattle.ss_core_bodies.proofs.constructor_of.Given as goal

abbrev pub invariant-loop-body : goal.invariant-loop-body
invariant-loop-body l = find (is_constructor_of l.class.0) (map body (drop l.body-index l.body-items)) ≡ find (is_constructor_of l.class.0) (map body l.body-items)
