-- The faults of the phase of types.
use Rattle.std.specs.Prelude.{Bool, List, [], ◌∷◌, if◌then◌else◌}
use Rattle.ss_core.specs.declared.names.Place.{Place}
use Rattle.ss_core.specs.declared.rules.Rule.TheVariants as rule
use Rattle.ss_core.specs.Rules.{rule_number}
use Rattle.ss_faults.specs.declared.Fault.{Fault}

-- something of another type or form than is wanted there
abbrev pub bad_type : Place → Fault
bad_type p = record { rule = rule_number rule.BadType; place = p }

-- a call or a `new` in a condition
abbrev pub call_in_condition : Place → Fault
call_in_condition p = record { rule = rule_number rule.CallInCondition; place = p }

-- the end of a body with a result can be reached
abbrev pub no_return : Place → Fault
no_return p = record { rule = rule_number rule.NoReturn; place = p }

abbrev pub fault_where : Bool → Fault → List Fault
fault_where b f = if b then f ∷ [] else []
