-- What is said of an owner where two objects were joined, by which terms are one.
use Rattle.std.specs.Prelude.{List, [], ◌∷◌, ◌++◌, Bool, true, false}
use Rattle.ss_terms.specs.declared.forms.Predicate.TheVariants.{Equal}
use Rattle.ss_rules_basic.specs.declared.plans.Slot.{Slot}
use Rattle.ss_rules_basic.specs.declared.plans.Slot.TheVariants.{Made}
use Rattle.ss_rules_basic.specs.declared.clauses.Claim.{Claim}
use Rattle.ss_rules_basic.specs.declared.clauses.Claim.TheVariants.{Is, Not, Group, NoGroup}
use Rattle.ss_rules_basic.specs.declared.clauses.Clause.{Clause}
use Rattle.ss_rules_basic.specs.declared.clauses.Clause.TheVariants as clause

-- Plans 0 and 1 are the owner after and before, 2 and 3 the owners of the joined object and of the other one before, and 4 is null.
abbrev pub kept : Claim
kept = Is Equal (Made 0) (Made 1)

abbrev pub null_clauses : Bool → Slot → List Clause
null_clauses true e = clause.Fact kept ∷ []
null_clauses false e = clause.If (Is Equal e (Made 4)) kept ∷ []

abbrev pub first_joined : Bool → Slot → Clause
first_joined true e = clause.IfTwo (Not Equal e (Made 4)) (Group (Made 2)) (Is Equal (Made 0) (Made 3))
first_joined false e = clause.IfThree (Not Equal e (Made 4)) (Group (Made 2)) (Is Equal (Made 1) (Made 2)) (Is Equal (Made 0) (Made 3))

abbrev pub second_joined : Bool → Slot → Clause
second_joined true e = clause.IfThree (Not Equal e (Made 4)) (NoGroup (Made 2)) (Group (Made 3)) (Is Equal (Made 0) (Made 2))
second_joined false e = clause.IfFour (Not Equal e (Made 4)) (NoGroup (Made 2)) (Group (Made 3)) (Is Equal (Made 1) (Made 3)) (Is Equal (Made 0) (Made 2))

abbrev pub given_clauses : Bool → Bool → Slot → List Clause
given_clauses joined other e = first_joined joined e ∷ second_joined other e ∷ []

abbrev pub some_clauses : Bool → Bool → Bool → Slot → List Clause
some_clauses true joined other e = []
some_clauses false joined other e = given_clauses joined other e

abbrev pub apart_first : Bool → List Clause
apart_first true = []
apart_first false = clause.IfTwo (Group (Made 2)) (Not Equal (Made 1) (Made 2)) kept ∷ []

abbrev pub apart_second : Bool → List Clause
apart_second true = []
apart_second false = clause.IfTwo (NoGroup (Made 2)) (Not Equal (Made 1) (Made 3)) kept ∷ []

abbrev pub kept_clauses : Bool → Bool → List Clause
kept_clauses joined other = apart_first joined ++ apart_second other ++ clause.IfTwo (NoGroup (Made 2)) (NoGroup (Made 3)) kept ∷ []

abbrev pub joined_clauses : Bool → Bool → Bool → Slot → List Clause
joined_clauses null joined other e = null_clauses null e ++ some_clauses null joined other e ++ kept_clauses joined other
