-- The terms and formulas that the numbers of a bank stand for.
use Rattle.std.specs.Prelude.{◌≡◌, ℕ, ◌*◌, ◌-◌, ◌+◌, ◌/◌, ◌%◌, zero, suc, ◌<◌, ◌≤◌, List, [], ◌∷◌, length, map, Bool, true, false, not, Option, Some, None, slice_get, take}
use Rattle.ss_core.specs.Tree.{ClassTree, FieldTree}
use Rattle.ss_core.specs.Chain.{DeclaredField, all_fields}
use Rattle.ss_logic.specs.declared.Sort.{Sort}
use Rattle.ss_logic.specs.Terms as tree
use Rattle.ss_logic.specs.Terms.{terms_from, sort_of_type}
use Rattle.ss_logic.specs.Formulas as logic
use Rattle.ss_logic.specs.Formulas.{neg, formulas_from}
use Rattle.ss_terms_interned.specs.Interned.{tree_at}
use Rattle.ss_terms.specs.declared.forms.TermId.{TermId}
use Rattle.ss_terms.specs.declared.forms.FormulaId.{FormulaId}
use Rattle.ss_terms.specs.declared.forms.Symbol.{Symbol}
use Rattle.ss_terms.specs.declared.forms.Symbol.TheVariants as symbol
use Rattle.ss_terms.specs.declared.forms.Predicate.{Predicate}
use Rattle.ss_terms.specs.declared.forms.Predicate.TheVariants as predicate
use Rattle.ss_terms.specs.declared.forms.Term.{Term}
use Rattle.ss_terms.specs.declared.forms.Term.TheVariants as term
use Rattle.ss_terms.specs.declared.forms.Formula.{Formula}
use Rattle.ss_terms.specs.declared.forms.Formula.TheVariants as formula

-- ---- forms, with plain lists

pub data TermShape : Type 0 where
  BoundShape : ℕ → TermShape
  AppShape : Symbol → List TermId → TermShape

abbrev pub term_shape : Term → TermShape
term_shape (term.Bound k) = BoundShape k
term_shape (term.App f ts) = AppShape f ts.items

pub data Shape : Type 0 where
  LiteralShape : Bool → Predicate → List TermId → Shape
  AndShape : List FormulaId → Shape
  OrShape : List FormulaId → Shape
  ForallShape : List Sort → FormulaId → Shape
  ExistsShape : List Sort → FormulaId → Shape

abbrev pub shape_of : Formula → Shape
shape_of (formula.Literal holds p ts) = LiteralShape holds p ts.items
shape_of (formula.And fs) = AndShape fs.items
shape_of (formula.Or fs) = OrShape fs.items
shape_of (formula.Forall ss f) = ForallShape ss.items f
shape_of (formula.Exists ss f) = ExistsShape ss.items f

-- The sorts of the program's fields, and the forms of a bank's terms and of its formulas. A formula and its negation have the numbers
-- 2k and 2k + 1, and one form here.
pub record Forms : Type 0 where
  pub fields : List Sort
  pub terms : List TermShape
  pub formulas : List Shape

-- ---- what a form says, where each number stands for a term or a formula

abbrev pub symbol_of : Symbol → tree.Symbol
symbol_of (symbol.Number n) = tree.Number n
symbol_of (symbol.Fixed b) = tree.Fixed b
symbol_of symbol.Null = tree.Null
symbol_of (symbol.ClassName t) = tree.ClassName t
symbol_of (symbol.Constant s k) = tree.Constant s k
symbol_of symbol.Add = tree.Add
symbol_of symbol.Subtract = tree.Subtract
symbol_of symbol.Multiply = tree.Multiply
symbol_of symbol.Quotient = tree.Quotient
symbol_of symbol.Remainder = tree.Remainder
symbol_of (symbol.Field f) = tree.Field f
symbol_of (symbol.Element s) = tree.Element s
symbol_of symbol.Length = tree.Length
symbol_of symbol.TypeOf = tree.TypeOf
symbol_of symbol.Level = tree.Level
symbol_of symbol.Owner = tree.Owner
symbol_of symbol.Pair = tree.Pair
symbol_of symbol.Next = tree.Next
symbol_of (symbol.Set f) = tree.Set f
symbol_of symbol.Put = tree.Put
symbol_of (symbol.Unpack t) = tree.Unpack t
symbol_of (symbol.Pack t) = tree.Pack t
symbol_of (symbol.Capture t) = tree.Capture t
symbol_of symbol.Join = tree.Join
symbol_of (symbol.New t) = tree.New t
symbol_of (symbol.NewArray t) = tree.NewArray t
symbol_of symbol.MakeReady = tree.MakeReady

abbrev pub predicate_of : Predicate → logic.Predicate
predicate_of predicate.Equal = logic.Equal
predicate_of predicate.AtMost = logic.AtMost
predicate_of predicate.Sub = logic.Sub
predicate_of predicate.Allocated = logic.Allocated
predicate_of predicate.Committed = logic.Committed
predicate_of predicate.Ready = logic.Ready
predicate_of predicate.IsGroup = logic.IsGroup
predicate_of predicate.Good = logic.Good

abbrev pub term_of : (TermId → tree.Term) → TermShape → tree.Term
term_of terms (BoundShape k) = tree.Bound k
term_of terms (AppShape f ts) = tree.App (symbol_of f) (terms_from (map terms ts))

abbrev pub formula_of : (TermId → tree.Term) → (FormulaId → logic.Formula) → Shape → logic.Formula
formula_of terms formulas (LiteralShape holds p ts) = logic.Literal holds (predicate_of p) (terms_from (map terms ts))
formula_of terms formulas (AndShape fs) = logic.And (formulas_from (map formulas fs))
formula_of terms formulas (OrShape fs) = logic.Or (formulas_from (map formulas fs))
formula_of terms formulas (ForallShape ss f) = logic.Forall ss (formulas f)
formula_of terms formulas (ExistsShape ss f) = logic.Exists ss (formulas f)

-- ---- what the numbers of a bank stand for

abbrev pub build_term : (ℕ → tree.Term) → TermShape → tree.Term
build_term look n = term_of (λ t. look t.0) n

abbrev pub no_term : tree.Term
no_term = tree.Bound 0

abbrev pub term_at : Forms → TermId → tree.Term
term_at b t = tree_at no_term build_term b.terms t.0

abbrev pub with_sign : ℕ → logic.Formula → logic.Formula
with_sign zero f = f
with_sign (suc n) f = neg f

abbrev pub signed : (ℕ → logic.Formula) → FormulaId → logic.Formula
signed look f = with_sign (f.0 % 2) (look (f.0 / 2))

abbrev pub build_formula : (TermId → tree.Term) → (ℕ → logic.Formula) → Shape → logic.Formula
build_formula terms look n = formula_of terms (signed look) n

abbrev pub nothing : logic.Formula
nothing = logic.And logic.no_formulas

-- the formula k of those that stand beside their negations
abbrev pub pair_at : Forms → ℕ → logic.Formula
pair_at b k = tree_at nothing (build_formula (term_at b)) b.formulas k

abbrev pub formula_at : Forms → FormulaId → logic.Formula
formula_at b f = signed (pair_at b) f

abbrev pub terms_at : Forms → List TermId → List tree.Term
terms_at b ts = map (term_at b) ts

abbrev pub formulas_at : Forms → List FormulaId → List logic.Formula
formulas_at b fs = map (formula_at b) fs

-- ---- the numbers that a bank has

abbrev pub AreTermsBelow : ℕ → List TermId → Type 0
AreTermsBelow n [] = Unit {0}
AreTermsBelow n (t ∷ ts) = (t.0 < n) × AreTermsBelow n ts

abbrev pub AreBelow : ℕ → List FormulaId → Type 0
AreBelow n [] = Unit {0}
AreBelow n (f ∷ fs) = (f.0 < n) × AreBelow n fs

abbrev pub HasTerm : Forms → TermId → Type 0
HasTerm b t = t.0 < length b.terms

abbrev pub HasTerms : Forms → List TermId → Type 0
HasTerms b ts = AreTermsBelow (length b.terms) ts

abbrev pub HasFormula : Forms → FormulaId → Type 0
HasFormula b f = f.0 < length b.formulas * 2

abbrev pub HasFormulas : Forms → List FormulaId → Type 0
HasFormulas b fs = AreBelow (length b.formulas * 2) fs

-- the form names terms below this number
abbrev pub TermBelow : ℕ → TermShape → Type 0
TermBelow n (BoundShape k) = Unit {0}
TermBelow n (AppShape f ts) = AreTermsBelow n ts

-- the form names terms below one number and formulas below another
abbrev pub ShapeBelow : ℕ → ℕ → Shape → Type 0
ShapeBelow terms n (LiteralShape holds p ts) = AreTermsBelow terms ts
ShapeBelow terms n (AndShape fs) = AreBelow n fs
ShapeBelow terms n (OrShape fs) = AreBelow n fs
ShapeBelow terms n (ForallShape ss f) = f.0 < n
ShapeBelow terms n (ExistsShape ss f) = f.0 < n

-- the form names terms and formulas of the bank
abbrev pub HasArguments : Forms → TermShape → Type 0
HasArguments b n = TermBelow (length b.terms) n

abbrev pub HasParts : Forms → Shape → Type 0
HasParts b n = ShapeBelow (length b.terms) (length b.formulas * 2) n

pub record IsTermForm (b : Forms) (t : TermId) (n : Term) : Type 0 where
  pub built : term_at b t ≡ term_of (term_at b) (term_shape n)
  pub below : TermBelow t.0 (term_shape n)

pub record IsFormulaForm (b : Forms) (f : FormulaId) (n : Formula) : Type 0 where
  pub built : formula_at b f ≡ formula_of (term_at b) (formula_at b) (shape_of n)
  pub below : ShapeBelow (length b.terms) f.0 (shape_of n)

-- the old numbers stand for what they stood for
pub record IsGrown (old new : Forms) : Type 0 where
  pub same_fields : new.fields ≡ old.fields
  pub more_terms : length old.terms ≤ length new.terms
  pub more_formulas : length old.formulas ≤ length new.formulas
  pub same_terms : (t : TermId) → HasTerm old t → term_at new t ≡ term_at old t
  pub same_formulas : (f : FormulaId) → HasFormula old f → formula_at new f ≡ formula_at old f

-- ---- the first terms and formulas

-- the form names terms below this number alone
abbrev pub NamesBelow : ℕ → Shape → Type 0
NamesBelow n (LiteralShape holds p ts) = AreTermsBelow n ts
NamesBelow n (AndShape fs) = Unit {0}
NamesBelow n (OrShape fs) = Unit {0}
NamesBelow n (ForallShape ss f) = Unit {0}
NamesBelow n (ExistsShape ss f) = Unit {0}

-- the first formulas, so many, name terms below this number alone
abbrev pub AreNamed : ℕ → ℕ → Forms → Type 0
AreNamed terms formulas b = (k : ℕ) (n : Shape) → k < formulas → slice_get b.formulas k ≡ Some n → NamesBelow terms n

-- the bank has at least so many terms and formulas, and the first formulas, so many, name the first terms alone
pub record IsClosed (terms formulas : ℕ) (b : Forms) : Type 0 where
  pub terms_within : terms ≤ length b.terms
  pub formulas_within : formulas ≤ length b.formulas
  pub named : AreNamed terms formulas b

-- the bank's first terms and formulas, so many
abbrev pub front : ℕ → ℕ → Forms → Forms
front terms formulas b = record { fields = b.fields; terms = take terms b.terms; formulas = take formulas b.formulas }

-- ---- numbers of what may be there

-- the number of the term, where there is one
abbrev pub IsTermNumber : Forms → Option tree.Term → Option TermId → Type 0
IsTermNumber b None r = r ≡ None
IsTermNumber b (Some x) r = (t : TermId) × (r ≡ Some t) × HasTerm b t × (term_at b t ≡ x)

-- the number of the formula, where there is one
abbrev pub IsFormulaNumber : Forms → Option logic.Formula → Option FormulaId → Type 0
IsFormulaNumber b None r = r ≡ None
IsFormulaNumber b (Some x) r = (f : FormulaId) × (r ≡ Some f) × HasFormula b f × (formula_at b f ≡ x)

-- ---- negations

-- the number of the negation
abbrev pub other : FormulaId → FormulaId
other f = record { 0 = f.0 / 2 * 2 + (1 - f.0 % 2) }

abbrev pub opposite_shape : Shape → Shape
opposite_shape (LiteralShape holds p ts) = LiteralShape (not holds) p ts
opposite_shape (AndShape fs) = OrShape (map other fs)
opposite_shape (OrShape fs) = AndShape (map other fs)
opposite_shape (ForallShape ss f) = ExistsShape ss (other f)
opposite_shape (ExistsShape ss f) = ForallShape ss (other f)

-- the form is the one that stands before its negation
abbrev pub is_plain : Shape → Bool
is_plain (LiteralShape holds p ts) = holds
is_plain (AndShape fs) = true
is_plain (OrShape fs) = false
is_plain (ForallShape ss f) = true
is_plain (ExistsShape ss f) = false

-- ---- the program

abbrev pub sort_of_field : DeclaredField → Sort
sort_of_field d = sort_of_type d.field.ty

abbrev pub sort_of_declaration : FieldTree → Sort
sort_of_declaration f = sort_of_type f.ty

abbrev pub class_sorts : ClassTree → List Sort
class_sorts c = map sort_of_declaration c.fields

-- the sorts of the program's fields, in the order of their numbers
abbrev pub field_sorts : List ClassTree → List Sort
field_sorts cs = map sort_of_field (all_fields cs)

-- the bank is one over these classes
abbrev pub IsBankOf : List ClassTree → Forms → Type 0
IsBankOf cs b = b.fields ≡ field_sorts cs
