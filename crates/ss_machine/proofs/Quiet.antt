-- A step that prints nothing.
use Rattle.std.proofs.Common.{◌≡◌, ℕ, List, [], Option, Result, Ok, Err, refl, sym, ap, ◌∙◌, subst}
use Rattle.ss_io.specs.Outside.{Grew, GrewByFront}
use Rattle.ss_store_rules.specs.declared.Value.{Value}
use Rattle.ss_store_rules.specs.Numbers.{Outcome}
use Rattle.ss_machine_rules.specs.States.{Next}
use Rattle.ss_machine_rules.specs.Steps.{with_value}
use Rattle.ss_machine.specs.Moves.{piece_of, going, Does, StepIs, WriteIs, IsValue}
use Rattle.ss_machine.specs.declared.halt.Halt.{Halt}
use Rattle.ss_machine.specs.declared.halt.Halt.TheVariants as halt
use Rattle.ss_machine.specs.declared.machine.Machine.{Machine}
use Rattle.ss_machine.proofs.Taken.{grew_nothing}

front_nothing : (t : Option (List ℕ)) (piece : List ℕ) → GrewByFront t t piece
front_nothing t piece = ([], piece, refl, grew_nothing t)

pub quiet_step : (r : Result Unit Halt) (next : Next) (m : Machine) (t : Option (List ℕ)) → Does r next m → StepIs r next m t t
quiet_step (Ok u) next m t h = subst (λ n. (n ≡ going m (piece_of n)) × Grew t t (piece_of n)) (sym h) (refl, grew_nothing t)
quiet_step (Err halt.Over) next m t h = (h, grew_nothing t)
quiet_step (Err (halt.Fails k at)) next m t h = (h, grew_nothing t)
quiet_step (Err (halt.Stops at)) next m t h = (h, grew_nothing t)
quiet_step (Err halt.WriteFault) next m t h = absurd h
quiet_step (Err halt.Memory) next m t h = front_nothing t (piece_of next)

-- where an expression has no value, nothing is printed of it
pub value_stops : (h : Halt) (r : Outcome) (next : Value → Next) (m : Machine) (t : Option (List ℕ)) → IsValue (Err h) r → StepIs (Err h) (with_value r next) m t t
value_stops (halt.Fails k at) r next m t e = (ap (λ (x : Outcome). with_value x next) e, grew_nothing t)
value_stops halt.Memory r next m t e = absurd e
value_stops halt.Over r next m t e = absurd e
value_stops (halt.Stops at) r next m t e = absurd e
value_stops halt.WriteFault r next m t e = absurd e

-- a piece that was written, or a front of it
wrote : (r : Result Unit Halt) (m : Machine) (piece : List ℕ) (old new : Option (List ℕ)) → WriteIs r piece old new → StepIs r (going m piece) m old new
wrote (Ok u) m piece old new h = (refl, h)
wrote (Err halt.Over) m piece old new h = absurd h
wrote (Err (halt.Fails k at)) m piece old new h = absurd h
wrote (Err (halt.Stops at)) m piece old new h = absurd h
wrote (Err halt.WriteFault) m piece old new h = h
wrote (Err halt.Memory) m piece old new h = h

pub value_printed : (r : Result Unit Halt) (found : Outcome) (v : Value) (next : Value → Next) (m : Machine) (piece written : List ℕ) (old new : Option (List ℕ)) → found ≡ Ok v → next v ≡ going m piece → written ≡ piece → WriteIs r written old new → StepIs r (with_value found next) m old new
value_printed r found v next m piece written old new is goes same h =
    subst (λ n. StepIs r n m old new) (sym (ap (λ (x : Outcome). with_value x next) is ∙ goes)) (wrote r m piece old new (subst (λ p. WriteIs r p old new) same h))
