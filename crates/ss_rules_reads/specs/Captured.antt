-- What is said of an owner where the group of an object was captured, by which terms are one.
use Rattle.std.specs.Prelude.{List, [], ◌∷◌, ◌++◌, Bool, true, false}
use Rattle.ss_terms.specs.declared.forms.Predicate.TheVariants.{Equal}
use Rattle.ss_rules_basic.specs.declared.plans.Slot.{Slot}
use Rattle.ss_rules_basic.specs.declared.plans.Slot.TheVariants.{Made}
use Rattle.ss_rules_basic.specs.declared.clauses.Claim.TheVariants.{Is, Not, Group, NoGroup}
use Rattle.ss_rules_basic.specs.declared.clauses.Clause.{Clause}
use Rattle.ss_rules_basic.specs.declared.clauses.Clause.TheVariants as clause
use Rattle.ss_rules_reads.specs.Joined.{kept, null_clauses}

-- Plans 0 and 1 are the owner after and before, 2 is the owner of the captured object before, 4 is null and 5 the pair.
abbrev pub owned_clause : Bool → Slot → Clause
owned_clause true e = clause.IfTwo (Not Equal e (Made 4)) (Group (Made 2)) (Is Equal (Made 0) (Made 5))
owned_clause false e = clause.IfThree (Not Equal e (Made 4)) (Group (Made 2)) (Is Equal (Made 1) (Made 2)) (Is Equal (Made 0) (Made 5))

abbrev pub owned_clauses : Bool → Bool → Slot → List Clause
owned_clauses true captured e = []
owned_clauses false captured e = owned_clause captured e ∷ []

abbrev pub apart_clauses : Bool → List Clause
apart_clauses true = []
apart_clauses false = clause.If (Not Equal (Made 1) (Made 2)) kept ∷ []

abbrev pub left_clauses : Bool → List Clause
left_clauses captured = clause.If (NoGroup (Made 2)) kept ∷ apart_clauses captured

abbrev pub captured_clauses : Bool → Bool → Slot → List Clause
captured_clauses null captured e = null_clauses null e ++ owned_clauses null captured e ++ left_clauses captured
