-- What a model says that fields are.
use Rattle.std.specs.Prelude.{◌≡◌, ℕ, List, [], ◌∷◌, true, Some}
use Rattle.std.specs.List.{list_any, AllByRecursion}
use Rattle.ss_logic.specs.Terms.{Field, Term, app}
use Rattle.ss_logic.specs.Equal.{same_term}
use Rattle.ss_terms.specs.declared.forms.TermId.{TermId}
use Rattle.ss_terms.specs.Forms.{Forms, term_at, terms_at, HasTerm}
use Rattle.ss_report_values.specs.declared.literals.Reading.{Reading}
use Rattle.ss_report_values.specs.declared.literals.Value.{Value}
use Rattle.ss_report_values.specs.declared.fields.FieldParts.{FieldParts}
use Rattle.ss_report_values.specs.declared.fields.FieldValue.{FieldValue}
use Rattle.ss_report_values.specs.Literals.{class_at, value_at}

-- a field of an object in a store
abbrev pub read_term : ℕ → Term → Term → Term
read_term f s o = app (Field f) (s ∷ o ∷ [])

-- the term reads this field
pub record IsFieldOf (b : Forms) (t : TermId) (p : FieldParts) : Type 0 where
  pub store : HasTerm b p.store
  pub object : HasTerm b p.object
  pub is : term_at b t ≡ read_term p.field (term_at b p.store) (term_at b p.object)

-- the term is one of those that have classes
abbrev pub Stands : Forms → Reading → TermId → Type 0
Stands b r t = list_any (same_term (term_at b t)) (terms_at b r.terms.now) ≡ true

-- Of the terms with these classes one reads the field of an object of this class, in a store of that class, and has the value.
pub record HasFieldValue (ts : List Term) (ns : List ℕ) (store object field : ℕ) (v : Value) : Type 0 where
  pub store_term : Term
  pub object_term : Term
  pub at_store : class_at ts ns store_term ≡ Some store
  pub at_object : class_at ts ns object_term ≡ Some object
  pub stands : list_any (same_term (read_term field store_term object_term)) ts ≡ true
  pub value : value_at ts ns (read_term field store_term object_term) ≡ Some v

abbrev pub IsFieldValue : Forms → Reading → ℕ → FieldValue → Type 0
IsFieldValue b r store x = HasFieldValue (terms_at b r.terms.now) r.classes.now store x.object x.field x.value

abbrev pub AreFieldValues : Forms → Reading → ℕ → List FieldValue → Type 0
AreFieldValues b r store xs = AllByRecursion (IsFieldValue b r store) xs
