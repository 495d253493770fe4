-- Steps that halt.
use Rattle.std.proofs.Common.{◌≡◌, List, Bool, true, false, if◌then◌else◌, Result, Ok, Err, refl, sym, ap, ◌∙◌}
use Rattle.ss_core.specs.declared.names.Kind.{Kind}
use Rattle.ss_core.specs.declared.names.Place.{Place}
use Rattle.ss_store_rules.specs.declared.Value.{Value}
use Rattle.ss_store_rules.specs.declared.Undefined.{Undefined}
use Rattle.ss_store_rules.specs.Numbers.{Outcome}
use Rattle.ss_machine_rules.specs.States.{Next}
use Rattle.ss_machine_rules.specs.Steps.{with_value, with_values}
use Rattle.ss_machine.specs.Moves.{HaltIs, HaltsAt, IsValue}
use Rattle.ss_machine.specs.declared.halt.Halt.{Halt}
use Rattle.ss_machine.specs.declared.halt.Halt.TheVariants as halt
use Rattle.ss_machine.specs.declared.machine.Machine.{Machine}

-- where an expression has no value, neither has the step
pub value_halts : (h : Halt) (r : Outcome) (next : Value → Next) (m : Machine) → IsValue (Err h) r → HaltIs h (with_value r next) m
value_halts (halt.Fails k at) r next m e = ap (λ (x : Outcome). with_value x next) e
value_halts halt.Memory r next m e = absurd e
value_halts halt.Over r next m e = absurd e
value_halts (halt.Stops at) r next m e = absurd e
value_halts halt.WriteFault r next m e = absurd e

pub values_halt : (h : Halt) (r : Result (List Value) Undefined) (next : List Value → Next) (m : Machine) → HaltsAt h r → HaltIs h (with_values r next) m
values_halt (halt.Fails k at) r next m e = ap (λ (x : Result (List Value) Undefined). with_values x next) e
values_halt halt.Memory r next m e = tt
values_halt halt.Over r next m e = absurd e
values_halt (halt.Stops at) r next m e = absurd e
values_halt halt.WriteFault r next m e = absurd e

-- a check that didn't fail holds
pub ensured : (holds : Bool) (k : Kind) (at : Place) (r : Result Unit Halt) (u : Unit) → r ≡ (if holds then Ok tt else Err (halt.Fails k at)) → r ≡ Ok u → holds ≡ true
ensured true k at r u is ok = refl
ensured false k at r u is ok = let e : Err (halt.Fails k at) ≡ Ok u = sym is ∙ ok in absurd (cc)
