-- What plans and clauses stand for.
use Rattle.std.specs.Prelude.{ℕ, ◌<◌, ◌+◌, List, [], ◌∷◌, ◌++◌, length, map, get_or, Bool, true, false, Option, Some, None}
use Rattle.ss_logic.specs.Terms.{Term, app, terms_from}
use Rattle.ss_logic.specs.Formulas.{IsGroup, Formula, Literal}
use Rattle.ss_logic.specs.Shapes.{given}
use Rattle.ss_terms.specs.declared.forms.TermId.{TermId}
use Rattle.ss_terms.specs.declared.forms.Predicate.TheVariants as predicate
use Rattle.ss_terms.specs.Forms.{Forms, no_term, symbol_of, predicate_of, HasTerm}
use Rattle.ss_rules_basic.specs.declared.facts.Fact.{Fact}
use Rattle.ss_rules_basic.specs.declared.plans.Slot.{Slot}
use Rattle.ss_rules_basic.specs.declared.plans.Slot.TheVariants.{Known, Made}
use Rattle.ss_rules_basic.specs.declared.plans.Plan.{Plan}
use Rattle.ss_rules_basic.specs.declared.plans.Plan.TheVariants.{Leaf, One, Two, Three}
use Rattle.ss_rules_basic.specs.declared.clauses.Claim.{Claim}
use Rattle.ss_rules_basic.specs.declared.clauses.Claim.TheVariants.{Is, Not, Group, NoGroup}
use Rattle.ss_rules_basic.specs.declared.clauses.Clause.{Clause}
use Rattle.ss_rules_basic.specs.declared.clauses.Clause.TheVariants as clause

-- ---- terms

-- what a slot stands for, where the plans before have these results
abbrev pub slot_value : (TermId → Term) → List Term → Slot → Term
slot_value look made (Known t) = look t
slot_value look made (Made k) = get_or made k no_term

-- the term of a plan, by what the slots stand for
abbrev pub plan_at : (Slot → Term) → Plan → Term
plan_at t (Leaf f) = app (symbol_of f) []
plan_at t (One f x) = app (symbol_of f) (t x ∷ [])
plan_at t (Two f x y) = app (symbol_of f) (t x ∷ t y ∷ [])
plan_at t (Three f x y z) = app (symbol_of f) (t x ∷ t y ∷ t z ∷ [])

-- the results of plans, after those of the plans before
abbrev pub planned : (TermId → Term) → List Term → List Plan → List Term
planned look made [] = made
planned look made (p ∷ ps) = planned look (made ++ plan_at (slot_value look made) p ∷ []) ps

-- ---- formulas

abbrev pub claim_at : (Slot → Term) → Claim → Formula
claim_at t (Is p x y) = Literal true (predicate_of p) (terms_from (t x ∷ t y ∷ []))
claim_at t (Not p x y) = Literal false (predicate_of p) (terms_from (t x ∷ t y ∷ []))
claim_at t (Group x) = Literal true IsGroup (terms_from (t x ∷ []))
claim_at t (NoGroup x) = Literal false IsGroup (terms_from (t x ∷ []))

abbrev pub premises_of : Clause → List Claim
premises_of (clause.Fact c) = []
premises_of (clause.If p c) = p ∷ []
premises_of (clause.IfTwo p q c) = p ∷ q ∷ []
premises_of (clause.IfThree p q r c) = p ∷ q ∷ r ∷ []
premises_of (clause.IfFour p q r s c) = p ∷ q ∷ r ∷ s ∷ []

abbrev pub conclusion_of : Clause → Claim
conclusion_of (clause.Fact c) = c
conclusion_of (clause.If p c) = c
conclusion_of (clause.IfTwo p q c) = c
conclusion_of (clause.IfThree p q r c) = c
conclusion_of (clause.IfFour p q r s c) = c

abbrev pub clause_at : (Slot → Term) → Clause → Formula
clause_at t c = given (map (claim_at t) (premises_of c)) (claim_at t (conclusion_of c))

-- ---- slots that stand for something

-- the bank has the term, or the plan is one of the first n
abbrev pub HasSlot : Forms → ℕ → Slot → Type 0
HasSlot b n (Known t) = HasTerm b t
HasSlot b n (Made k) = k < n

abbrev pub HasPlan : Forms → ℕ → Plan → Type 0
HasPlan b n (Leaf f) = Unit {0}
HasPlan b n (One f x) = HasSlot b n x
HasPlan b n (Two f x y) = HasSlot b n x × HasSlot b n y
HasPlan b n (Three f x y z) = HasSlot b n x × HasSlot b n y × HasSlot b n z

-- the plans follow n others
abbrev pub HasPlans : Forms → ℕ → List Plan → Type 0
HasPlans b n [] = Unit {0}
HasPlans b n (p ∷ ps) = HasPlan b n p × HasPlans b (n + 1) ps

abbrev pub HasClaim : Forms → ℕ → Claim → Type 0
HasClaim b n (Is p x y) = HasSlot b n x × HasSlot b n y
HasClaim b n (Not p x y) = HasSlot b n x × HasSlot b n y
HasClaim b n (Group x) = HasSlot b n x
HasClaim b n (NoGroup x) = HasSlot b n x

abbrev pub HasClaims : Forms → ℕ → List Claim → Type 0
HasClaims b n [] = Unit {0}
HasClaims b n (c ∷ cs) = HasClaim b n c × HasClaims b n cs

abbrev pub HasClause : Forms → ℕ → Clause → Type 0
HasClause b n c = HasClaims b n (premises_of c) × HasClaim b n (conclusion_of c)

abbrev pub HasClauses : Forms → ℕ → List Clause → Type 0
HasClauses b n [] = Unit {0}
HasClauses b n (c ∷ cs) = HasClause b n c × HasClauses b n cs

-- ---- over the numbers of a bank

abbrev pub slot_id : List TermId → Slot → TermId
slot_id made (Known t) = t
slot_id made (Made k) = get_or made k (record { 0 = 0 })

abbrev pub fact_of : List TermId → Claim → Fact
fact_of made (Is p x y) = record { holds = true; predicate = p; left = slot_id made x; right = Some (slot_id made y) }
fact_of made (Not p x y) = record { holds = false; predicate = p; left = slot_id made x; right = Some (slot_id made y) }
fact_of made (Group x) = record { holds = true; predicate = predicate.IsGroup; left = slot_id made x; right = None }
fact_of made (NoGroup x) = record { holds = false; predicate = predicate.IsGroup; left = slot_id made x; right = None }
