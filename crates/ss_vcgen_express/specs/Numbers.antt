-- What numbers of a bank stand for, in it and in each bank that it grows to.
use Rattle.std.specs.Prelude.{◌≡◌, List, [], ◌∷◌, map}
use Rattle.ss_logic.specs.Terms as tree
use Rattle.ss_logic.specs.Formulas as logic
use Rattle.ss_logic.specs.Express as spec
use Rattle.ss_terms.specs.declared.forms.TermId.{TermId}
use Rattle.ss_terms.specs.declared.forms.FormulaId.{FormulaId}
use Rattle.ss_terms.specs.Forms.{Forms, term_at, formula_at, formulas_at, HasTerm, HasFormula, HasFormulas, IsGrown}
use Rattle.ss_vcgen_express.specs.declared.meant.Choice.{Choice}
use Rattle.ss_vcgen_express.specs.declared.meant.Meant.{Meant}
use Rattle.ss_vcgen_express.specs.declared.meant.Meant.TheVariants as meant

-- ---- what they stand for

abbrev pub choice_at : Forms → Choice → spec.Choice
choice_at b c = spec.choice (formula_at b c.condition) (term_at b c.value)

abbrev pub choices_at : Forms → List Choice → List spec.Choice
choices_at b cs = map (choice_at b) cs

abbrev pub meant_at : Forms → Meant → spec.Meant
meant_at b (meant.One t) = spec.One (term_at b t)
meant_at b (meant.Either cs) = spec.Either (choices_at b cs.items)
meant_at b (meant.Says f) = spec.Says (formula_at b f)
meant_at b (meant.All fs) = spec.Says (spec.and_of (formulas_at b fs.items))
meant_at b (meant.Any fs) = spec.Says (spec.or_of (formulas_at b fs.items))

-- ---- the bank has them

abbrev pub HasChoice : Forms → Choice → Type 0
HasChoice b c = HasFormula b c.condition × HasTerm b c.value

abbrev pub HasChoices : Forms → List Choice → Type 0
HasChoices b [] = Unit {0}
HasChoices b (c ∷ cs) = HasChoice b c × HasChoices b cs

abbrev pub HasMeant : Forms → Meant → Type 0
HasMeant b (meant.One t) = HasTerm b t
HasMeant b (meant.Either cs) = HasChoices b cs.items
HasMeant b (meant.Says f) = HasFormula b f
HasMeant b (meant.All fs) = HasFormulas b fs.items
HasMeant b (meant.Any fs) = HasFormulas b fs.items

-- ---- The bank has them, and in it and in each that it grows to they stand for this.

pub record IsTerm (a : Forms) (t : TermId) (says : Forms → tree.Term) : Type 0 where
  pub has : HasTerm a t
  pub is : (b : Forms) → IsGrown a b → term_at b t ≡ says b

pub record IsFormula (a : Forms) (f : FormulaId) (says : Forms → logic.Formula) : Type 0 where
  pub has : HasFormula a f
  pub is : (b : Forms) → IsGrown a b → formula_at b f ≡ says b

pub record AreFormulas (a : Forms) (fs : List FormulaId) (say : Forms → List logic.Formula) : Type 0 where
  pub has : HasFormulas a fs
  pub are : (b : Forms) → IsGrown a b → formulas_at b fs ≡ say b

pub record IsChoice (a : Forms) (c : Choice) (says : Forms → spec.Choice) : Type 0 where
  pub has : HasChoice a c
  pub is : (b : Forms) → IsGrown a b → choice_at b c ≡ says b

pub record AreChoices (a : Forms) (cs : List Choice) (say : Forms → List spec.Choice) : Type 0 where
  pub has : HasChoices a cs
  pub are : (b : Forms) → IsGrown a b → choices_at b cs ≡ say b

pub record IsMeant (a : Forms) (m : Meant) (says : Forms → spec.Meant) : Type 0 where
  pub has : HasMeant a m
  pub is : (b : Forms) → IsGrown a b → meant_at b m ≡ says b
