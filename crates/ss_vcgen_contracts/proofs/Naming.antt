-- What clauses name, by their kinds.
use Rattle.std.proofs.Common.{◌≡◌, Bool, true, false, List, [], ◌∷◌, ◌++◌, map, refl, sym, ap, ◌∙◌, subst}
use Rattle.std.proofs.lemmas.List.{append-nil}
use Rattle.ss_core.specs.Tree.{NamedTree, FieldOf, AllOf, ElementsOf, UptoOf}
use Rattle.ss_logic.specs.Formulas.{Formula}
use Rattle.ss_logic.specs.Express.{Meant, One, Either, Says, Context, meant}
use Rattle.ss_machine_rules.specs.Frame.{subject_of}
use Rattle.ss_terms.specs.declared.forms.TermId.{TermId}
use Rattle.ss_terms.specs.declared.forms.FormulaId.{FormulaId}
use Rattle.ss_terms.specs.Forms.{Forms, term_at, formula_at, HasTerm, HasFormula, IsGrown}
use Rattle.ss_terms.proofs.Grown.{HasTerm-grown}
use Rattle.ss_frames.specs.declared.calls.NamedTerm.{NamedTerm}
use Rattle.ss_frames.specs.Calls.{named_at, HasNamed, HasAllNamed}
use Rattle.ss_vcgen_express.specs.Numbers.{IsFormula}
use Rattle.ss_vcgen_heaps.specs.Contracts as heaps
use Rattle.ss_vcgen_contracts.specs.declared.names.Named.{Named}
use Rattle.ss_vcgen_contracts.specs.declared.names.Named.TheVariants as named
use Rattle.ss_vcgen_contracts.specs.Names.{name_seen, kind_of, named_by, named_for, named_as, names_of}
use Rattle.ss_vcgen_contracts.specs.Views.{IsName, AreNames}

named_for-at : (b : Forms) (k : Named) (f : FormulaId) (o : TermId) → named_at b (named_for k f o) ≡ named_by k (formula_at b f) (term_at b o)
named_for-at b (named.Field g) f o = refl
named_for-at b named.All f o = refl
named_for-at b named.Elements f o = refl
named_for-at b (named.Upto t) f o = refl

has_named_for : (b : Forms) (k : Named) (f : FormulaId) (o : TermId) → HasFormula b f → HasTerm b o → HasNamed b (named_for k f o)
has_named_for b (named.Field g) f o h k = (h, k)
has_named_for b named.All f o h k = (h, k)
has_named_for b named.Elements f o h k = (h, k)
has_named_for b (named.Upto t) f o h k = (h, k)

-- the part of an object, where a formula that was made is true
pub name_is : (a c : Forms) (k : Named) (f : FormulaId) (o : TermId) (n : NamedTerm) (says : Forms → Formula) → IsGrown a c → n ≡ named_for k f o → IsFormula c f says → HasTerm a o → IsName c n (λ b. named_by k (says b) (term_at b o))
name_is a c k f o n says g e is h = record {
  has = subst (HasNamed c) (sym e) (has_named_for c k f o is.has (HasTerm-grown a c g o h));
  is = λ b j. ap (named_at b) e ∙ named_for-at b k f o ∙ ap (λ x. named_by k x (term_at b o)) (is.is b j);
}

-- nothing more is named
pub names_same : (c : Forms) (ns : List NamedTerm) → HasAllNamed c ns → AreNames c ns (λ b. map (named_at b) ns ++ [])
names_same c ns h = record { has = h; are = λ b k. sym (append-nil (map (named_at b) ns)) }

by_kind : (n : NamedTree) (guards : List Formula) (m : Meant) → named_as (kind_of n) guards m ≡ heaps.named_as n guards m
by_kind (FieldOf e f) guards (One t) = refl
by_kind (FieldOf e f) guards (Either xs) = refl
by_kind (FieldOf e f) guards (Says g) = refl
by_kind (AllOf e) guards (One t) = refl
by_kind (AllOf e) guards (Either xs) = refl
by_kind (AllOf e) guards (Says g) = refl
by_kind (ElementsOf e) guards (One t) = refl
by_kind (ElementsOf e) guards (Either xs) = refl
by_kind (ElementsOf e) guards (Says g) = refl
by_kind (UptoOf e t) guards (One x) = refl
by_kind (UptoOf e t) guards (Either xs) = refl
by_kind (UptoOf e t) guards (Says g) = refl

same_subject : (seen : Bool) (n : NamedTree) → subject_of (name_seen seen n) ≡ subject_of n
same_subject seen (FieldOf e f) = refl
same_subject seen (AllOf e) = refl
same_subject seen (ElementsOf e) = refl
same_subject true (UptoOf e t) = refl
same_subject false (UptoOf e t) = refl

-- what one clause names, by its kind
pub names_by_kind : (seen : Bool) (n : NamedTree) (c : Context) → named_as (kind_of (name_seen seen n)) (heaps.naming_parts (subject_of n) c) (meant (subject_of n) c) ≡ names_of c (name_seen seen n)
names_by_kind seen n c =
    by_kind (name_seen seen n) (heaps.naming_parts (subject_of n) c) (meant (subject_of n) c)
    ∙ ap (λ e. heaps.named_as (name_seen seen n) (heaps.naming_parts e c) (meant e c)) (sym (same_subject seen n))

unseen_name : (n : NamedTree) → name_seen false n ≡ n
unseen_name (FieldOf e f) = refl
unseen_name (AllOf e) = refl
unseen_name (ElementsOf e) = refl
unseen_name (UptoOf e t) = refl

seen_name : (n : NamedTree) → name_seen true n ≡ heaps.seen_name n
seen_name (FieldOf e f) = refl
seen_name (AllOf e) = refl
seen_name (ElementsOf e) = refl
seen_name (UptoOf e t) = refl

-- as they are written
pub unseen_names : (ns : List NamedTree) → map (name_seen false) ns ≡ ns
unseen_names [] = refl
unseen_names (n ∷ ns) = ap (λ m. m ∷ map (name_seen false) ns) (unseen_name n) ∙ ap (λ ms. n ∷ ms) (unseen_names ns)

-- as a caller sees them
pub seen_names : (ns : List NamedTree) → map (name_seen true) ns ≡ map heaps.seen_name ns
seen_names [] = refl
seen_names (n ∷ ns) = ap (λ m. m ∷ map (name_seen true) ns) (seen_name n) ∙ ap (λ ms. heaps.seen_name n ∷ ms) (seen_names ns)
