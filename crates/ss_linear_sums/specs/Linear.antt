-- The sums that those over numbers of a bank stand for.
use Rattle.std.specs.Prelude.{◌≡◌, ℤ, List, [], ◌∷◌, map, Bool, true, false, Option, Some, None}
use Rattle.ss_logic.specs.Terms.{Term}
use Rattle.ss_logic.specs.Sums as sums
use Rattle.ss_terms.specs.Forms.{Forms, term_at, HasTerm}
use Rattle.ss_linear_sums.specs.declared.forms.Part.{Part}
use Rattle.ss_linear_sums.specs.declared.forms.LinearSum.{LinearSum}
use Rattle.ss_linear_sums.specs.declared.forms.SumFact.{SumFact}

abbrev pub part_at : Forms → Part → Term × ℤ
part_at b p = (term_at b p.term, p.coefficient)

abbrev pub parts_at : Forms → List Part → List (Term × ℤ)
parts_at b ps = map (part_at b) ps

abbrev pub sum_at : Forms → LinearSum → sums.LinearSum
sum_at b s = record { parts = parts_at b s.parts.items; constant = s.constant }

abbrev pub fact_at : Forms → SumFact → sums.SumFact
fact_at b f = record { is_equality = f.is_equality; sum = sum_at b f.sum }

-- the bank has the terms of the parts
abbrev pub HasParts : Forms → List Part → Type 0
HasParts b [] = Unit {0}
HasParts b (p ∷ ps) = HasTerm b p.term × HasParts b ps

-- the option holds this sum, or there is none
abbrev pub IsSumOf : Forms → Option LinearSum → Option sums.LinearSum → Type 0
IsSumOf b None o = o ≡ None
IsSumOf b (Some s) o = HasParts b s.parts.items × (o ≡ Some (sum_at b s))

abbrev pub IsFactOf : Forms → Option SumFact → Option sums.SumFact → Type 0
IsFactOf b None o = o ≡ None
IsFactOf b (Some f) o = HasParts b f.sum.parts.items × (o ≡ Some (fact_at b f))

-- it is this, or there is none
abbrev pub Became : {A : Type 0} → Bool → Option A → A → Type 0
Became true o x = o ≡ Some x
Became false o x = o ≡ None
