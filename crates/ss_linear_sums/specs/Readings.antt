-- How terms and formulas are read as sums.
use Rattle.std.specs.Prelude.{◌≡◌, pos, ◌<◌, List, Bool, true, false, Option, Some, None}
use Rattle.ss_core.specs.Tree.{ClassTree}
use Rattle.ss_logic.specs.Terms.{Term}
use Rattle.ss_logic.specs.Formulas as logic
use Rattle.ss_logic.specs.Sums.{number_sum, term_sum, sum_times, linear, difference, sum_fact, sum_fact_of, SumFact}
use Rattle.ss_terms.specs.declared.forms.TermId.{TermId}
use Rattle.ss_terms.specs.declared.forms.Symbol.{Symbol}
use Rattle.ss_terms.specs.declared.forms.Symbol.TheVariants as symbol
use Rattle.ss_terms.specs.declared.forms.Predicate.{Predicate}
use Rattle.ss_terms.specs.declared.forms.Predicate.TheVariants as predicate
use Rattle.ss_terms.specs.Forms.{Forms, term_at, HasTerm}
use Rattle.ss_linear_sums.specs.declared.summed.Operator.{Operator}
use Rattle.ss_linear_sums.specs.declared.summed.Operator.TheVariants as operator
use Rattle.ss_linear_sums.specs.declared.summed.Operation.{Operation}
use Rattle.ss_linear_sums.specs.declared.summed.Operation.TheVariants as operation
use Rattle.ss_linear_sums.specs.declared.facts.Comparison.{Comparison}
use Rattle.ss_linear_sums.specs.declared.facts.Comparison.TheVariants as comparison
use Rattle.ss_linear_sums.specs.declared.facts.Compared.{Compared}

abbrev pub operator_of : Symbol → Operator
operator_of (symbol.Number n) = operator.Number n
operator_of symbol.Add = operator.Add
operator_of symbol.Subtract = operator.Subtract
operator_of symbol.Multiply = operator.Multiply
operator_of f = operator.Other

-- the sum of a term is made in this way, of terms with smaller numbers
abbrev pub IsOperation : Forms → TermId → Operation → Type 0
IsOperation b t (operation.Number n) = linear (term_at b t) ≡ Some (number_sum n)
IsOperation b t (operation.Both x n y) = (x.0 < t.0) × (y.0 < t.0) × (linear (term_at b t) ≡ sum_times (linear (term_at b x)) n (linear (term_at b y)))
IsOperation b t (operation.Times n x) = (x.0 < t.0) × (linear (term_at b t) ≡ sum_times (Some (number_sum (pos 0))) n (linear (term_at b x)))
IsOperation b t operation.Alone = linear (term_at b t) ≡ Some (term_sum (term_at b t))

abbrev pub comparison_of : Bool → Predicate → Option Comparison
comparison_of true predicate.AtMost = Some comparison.AtMost
comparison_of false predicate.AtMost = Some comparison.Above
comparison_of true predicate.Equal = Some comparison.Equal
comparison_of sign p = None

-- what two terms so compared say of a sum
abbrev pub fact_from : Comparison → Term → Term → Option SumFact
fact_from comparison.AtMost x y = sum_fact false (difference x y)
fact_from comparison.Above x y = sum_fact false (sum_times (difference y x) (pos 1) (Some (number_sum (pos 1))))
fact_from comparison.Equal x y = sum_fact true (difference x y)

abbrev pub IsCompared : List ClassTree → Forms → logic.Formula → Option Compared → Type 0
IsCompared cs b f None = sum_fact_of cs f ≡ None
IsCompared cs b f (Some c) = HasTerm b c.left × HasTerm b c.right × (sum_fact_of cs f ≡ fact_from c.comparison (term_at b c.left) (term_at b c.right))
