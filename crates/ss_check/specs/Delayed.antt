-- Formulas that stand for others: an `and` of which no part is made yet.
use Rattle.std.specs.Prelude.{◌≡◌, List, [], ◌∷◌, map, Bool, true, false, Option, Some, None, option_map, option_and_then, if◌then◌else◌}
use Rattle.ss_core.specs.Tree.{ClassTree}
use Rattle.ss_logic.specs.Terms.{Term}
use Rattle.ss_logic.specs.Formulas.{Formula, Formulas, Literal, And, Or, Forall, Exists, no_formulas, formula_then, is_well_formed, put, put_all}
use Rattle.ss_logic.specs.Shapes.{when}
use Rattle.ss_logic_means.specs.Steps.{Line, State, Open, Between, good_store, either_way, fact_of, add_fact, step_open}
use Rattle.ss_terms.specs.declared.forms.TermId.{TermId}
use Rattle.ss_terms.specs.declared.forms.FormulaId.{FormulaId}
use Rattle.ss_terms.specs.Forms.{Forms, formula_at, term_at, HasTerm, HasFormula}
use Rattle.ss_check.specs.declared.told.Told.{Told}
use Rattle.ss_check.specs.declared.told.Told.TheVariants as told

abbrev pub is_and : Formula → Bool
is_and (And fs) = true
is_and f = false

-- the parts of an `and`
abbrev pub parts_of : Formula → Formulas
parts_of (And fs) = fs
parts_of f = no_formulas

-- ---- delayed

-- An `and`, and the term for its bound name. An ill-formed literal beside the `and` names the term, so no formula that is well formed
-- is delayed.
abbrev pub delayed_pair : List ClassTree → Formula → Formula → Option (Formula × Term)
delayed_pair cs p q = if is_well_formed cs [] q then None else if is_and p then option_map (λ t. (p, t)) (good_store q) else None

abbrev pub delayed_of : List ClassTree → Formulas → Option (Formula × Term)
delayed_of cs (formula_then p (formula_then q no_formulas)) = delayed_pair cs p q
delayed_of cs fs = None

abbrev pub delayed_in : List ClassTree → Formula → Option (Formula × Term)
delayed_in cs (And fs) = delayed_of cs fs
delayed_in cs f = None

-- the numbers of the two, or neither is there
abbrev pub IsDelayed : Forms → Option (FormulaId × TermId) → Option (Formula × Term) → Type 0
IsDelayed b None o = o ≡ None
IsDelayed b (Some d) o = HasFormula b d.0 × HasTerm b d.1 × (o ≡ Some (formula_at b d.0, term_at b d.1))

abbrev pub both_of : List FormulaId → Option (FormulaId × FormulaId)
both_of (p ∷ q ∷ []) = Some (p, q)
both_of fs = None

-- ---- what a formula stands for

abbrev pub meant_parts : List ClassTree → Formulas → Formulas
meant_parts cs fs = either_way fs (λ d. put_all (d.1 ∷ []) (parts_of d.0)) (delayed_of cs fs)

abbrev mutual
  pub meant : List ClassTree → Formula → Formula
  meant cs (Literal sign p ts) = Literal sign p ts
  meant cs (And fs) = And (meant_parts cs fs)
  meant cs (Or fs) = Or (all_meant cs fs)
  meant cs (Forall ss f) = Forall ss f
  meant cs (Exists ss f) = Exists ss f

  pub all_meant : List ClassTree → Formulas → Formulas
  all_meant cs no_formulas = no_formulas
  all_meant cs (formula_then f fs) = formula_then (meant cs f) (all_meant cs fs)

-- the same where the formula is no `or`
abbrev pub meant_alone : List ClassTree → Formula → Formula
meant_alone cs f = either_way f (λ d. put (d.1 ∷ []) d.0) (delayed_in cs f)

abbrev pub meant_state : List ClassTree → State → State
meant_state cs (Open known waiting) = Open (map (meant cs) known) (map (map (meant cs)) waiting)
meant_state cs (Between waiting) = Between (map (map (meant cs)) waiting)

-- ---- what a line makes known

-- the fact, where it is well formed
abbrev pub formed_fact : List ClassTree → Option Formula → Option Formula
formed_fact cs o = option_and_then (λ f. when (is_well_formed cs [] f) f) o

-- the formula stands for what the option holds, which is well formed
abbrev pub IsInstance : List ClassTree → Forms → FormulaId → Option Formula → Type 0
IsInstance cs b f o = HasFormula b f × (o ≡ Some (meant cs (formula_at b f))) × (is_well_formed cs [] (meant cs (formula_at b f)) ≡ true)

-- the line does nothing but make its fact known
abbrev pub AddsFact : List ClassTree → List Formula → Formula → Line → Type 0
AddsFact cs premises goal line = (known : List Formula) (waiting : List (List Formula)) → step_open cs premises goal known waiting line ≡ add_fact cs known waiting (fact_of cs premises goal known line)

abbrev pub is_plain : Told → Bool
is_plain told.Plain = true
is_plain told.Nothing = false
is_plain (told.Fact f) = false

-- The fact is the same whether formulas stand for others or not; or none is well formed; or it is what this formula stands for.
abbrev pub IsTold : List ClassTree → Forms → Told → Option Formula → Option Formula → Type 0
IsTold cs b told.Plain fact plain = fact ≡ plain
IsTold cs b told.Nothing fact plain = formed_fact cs fact ≡ None
IsTold cs b (told.Fact f) fact plain = HasFormula b f × (formed_fact cs fact ≡ Some (meant cs (formula_at b f)))
