-- Calls over the numbers of a bank, and formulas that are made.
use Rattle.std.specs.Prelude.{◌≡◌, ℕ, List, [], ◌∷◌, map, Bool, true, false, ◌==◌, if◌then◌else◌}
use Rattle.ss_core.specs.declared.names.ClassId.{ClassId}
use Rattle.ss_core.specs.Tree.{ClassTree}
use Rattle.ss_core.specs.Chain.{sub, DeclaredField, all_fields}
use Rattle.ss_logic.specs.Terms.{Term}
use Rattle.ss_logic.specs.Formulas.{Formula}
use Rattle.ss_logic.specs.Frames as logic
use Rattle.ss_logic.specs.Frames.{NamesField, NamesAll, NamesUpto, NamesElements, OwnerTerm, in_group_of, owned_by, is_named, names_field, names_level, names_elements}
use Rattle.ss_terms.specs.declared.forms.TermId.{TermId}
use Rattle.ss_terms.specs.declared.forms.FormulaId.{FormulaId}
use Rattle.ss_terms.specs.Forms.{Forms, term_at, terms_at, formula_at, formulas_at, HasTerm, HasTerms, HasFormula, HasFormulas}
use Rattle.ss_frames.specs.declared.calls.NamedTerm.{NamedTerm}
use Rattle.ss_frames.specs.declared.calls.NamedTerm.TheVariants.{At, All, Upto, Elements}
use Rattle.ss_frames.specs.declared.calls.CallTerms.{CallTerms}
use Rattle.ss_frames.specs.declared.marks.Mark.{Mark}
use Rattle.ss_frames.specs.declared.marks.Part.{Part}
use Rattle.ss_frames.specs.declared.marks.Part.TheVariants as part

-- ---- what the numbers stand for

abbrev pub named_at : Forms → NamedTerm → logic.NamedTerm
named_at b (At f o g) = NamesField (formula_at b f) (term_at b o) g.0
named_at b (All f o) = NamesAll (formula_at b f) (term_at b o)
named_at b (Upto f o t) = NamesUpto (formula_at b f) (term_at b o) t.0
named_at b (Elements f a) = NamesElements (formula_at b f) (term_at b a)

abbrev pub owner_at : Forms → TermId × ClassId → OwnerTerm
owner_at b w = record { object = term_at b w.0; class = w.1.0 }

abbrev pub call_at : Forms → CallTerms → logic.CallTerms
call_at b m = record {
  before = term_at b m.before;
  after = term_at b m.after;
  named = map (named_at b) m.named.items;
  captured = terms_at b m.captured.items;
  owned = map (owner_at b) m.owned.items;
  outside = terms_at b m.outside.items;
}

-- ---- the bank has them

abbrev pub guard_of : NamedTerm → FormulaId
guard_of (At f o g) = f
guard_of (All f o) = f
guard_of (Upto f o t) = f
guard_of (Elements f a) = f

abbrev pub object_of : NamedTerm → TermId
object_of (At f o g) = o
object_of (All f o) = o
object_of (Upto f o t) = o
object_of (Elements f a) = a

abbrev pub HasNamed : Forms → NamedTerm → Type 0
HasNamed b x = HasFormula b (guard_of x) × HasTerm b (object_of x)

abbrev pub HasAllNamed : Forms → List NamedTerm → Type 0
HasAllNamed b [] = Unit {0}
HasAllNamed b (x ∷ xs) = HasNamed b x × HasAllNamed b xs

abbrev pub HasOwned : Forms → List (TermId × ClassId) → Type 0
HasOwned b [] = Unit {0}
HasOwned b (w ∷ ws) = HasTerm b w.0 × HasOwned b ws

pub record HasCall (b : Forms) (m : CallTerms) : Type 0 where
  pub before : HasTerm b m.before
  pub after : HasTerm b m.after
  pub named : HasAllNamed b m.named.items
  pub captured : HasTerms b m.captured.items
  pub owned : HasOwned b m.owned.items
  pub outside : HasTerms b m.outside.items

-- ---- what is made

abbrev pub IsTerm : Forms → TermId → Term → Type 0
IsTerm b t x = HasTerm b t × (term_at b t ≡ x)

abbrev pub IsMade : Forms → FormulaId → Formula → Type 0
IsMade b f x = HasFormula b f × (formula_at b f ≡ x)

abbrev pub AreMade : Forms → List FormulaId → List Formula → Type 0
AreMade b fs xs = HasFormulas b fs × (formulas_at b fs ≡ xs)

abbrev pub group_at : Forms → TermId → TermId → Formula
group_at b store e = in_group_of (term_at b store) (term_at b e)

abbrev pub owned_at : Forms → TermId → TermId × ClassId → Formula
owned_at b store w = owned_by (term_at b store) (owner_at b w)

-- the object is the one that is named, where n names are bound
abbrev pub is_named_at : Forms → ℕ → NamedTerm → Formula
is_named_at b n x = is_named n (formula_at b (guard_of x)) (term_at b (object_of x))

-- ---- which are named

abbrev pub AreMarks : Forms → ℕ → List Mark → Type 0
AreMarks b n [] = Unit {0}
AreMarks b n (k ∷ ks) = IsMade b k.formula (is_named_at b n k.term) × AreMarks b n ks

abbrev pub term_of_mark : Mark → NamedTerm
term_of_mark k = k.term

-- the marks are those of the call's named terms, in order
pub record AreNamed (b : Forms) (n : ℕ) (m : CallTerms) (ks : List Mark) : Type 0 where
  pub terms : map term_of_mark ks ≡ m.named.items
  pub made : AreMarks b n ks

-- the class that declares the field
abbrev pub declaring_class : DeclaredField → ℕ
declaring_class d = d.class

-- the classes that declare the program's fields, in the order of their numbers
abbrev pub declaring_classes : List ClassTree → List ℕ
declaring_classes cs = map declaring_class (all_fields cs)

-- the term names the part, where the class beside a field declares it
abbrev pub names_part : List ClassTree → Part → NamedTerm → Bool
names_part cs (part.Field f c) (At g o h) = h.0 == f
names_part cs (part.Field f c) (All g o) = true
names_part cs (part.Field f c) (Upto g o t) = sub cs t.0 c.0
names_part cs (part.Field f c) (Elements g a) = false
names_part cs part.Level (At g o h) = false
names_part cs part.Level (All g o) = true
names_part cs part.Level (Upto g o t) = true
names_part cs part.Level (Elements g a) = false
names_part cs part.Elements (At g o h) = false
names_part cs part.Elements (All g o) = false
names_part cs part.Elements (Upto g o t) = false
names_part cs part.Elements (Elements g a) = true

-- the formulas of the marks that name the part
abbrev pub picked : List ClassTree → Part → List Mark → List FormulaId
picked cs p [] = []
picked cs p (k ∷ ks) = if names_part cs p k.term then k.formula ∷ picked cs p ks else picked cs p ks
