-- The formulas of a clash, at their places.
use Rattle.std.proofs.Common.{◌≡◌, ℕ, ◌<◌, List, length, true, Some, sym, ◌∙◌, ap, subst, inl}
use Rattle.std.specs.Prelude.{slice_get}
use Rattle.std.proofs.lemmas.Option.{same_Some, slice_get_within}
use Rattle.ss_core.specs.Tree.{ClassTree}
use Rattle.ss_logic.specs.Formulas.{Formula}
use Rattle.ss_terms.specs.declared.forms.TermId.{TermId}
use Rattle.ss_terms.specs.declared.forms.FormulaId.{FormulaId}
use Rattle.ss_terms.specs.Forms.{Forms, formula_at}
use Rattle.ss_deriv.specs.declared.line.Line.{Line}
use Rattle.ss_equality_rules.specs.declared.Merge.{Merge}
use Rattle.ss_equality_rules.specs.Equal.{Equations}
use Rattle.ss_search_procedure_rules.specs.Closed.{is_basic}
use Rattle.ss_search_procedure_rules.specs.Clashes.{Classing}
use Rattle.ss_search_clashes.specs.declared.clashes.Clash.{Clash}
use Rattle.ss_search_clashes.specs.declared.clashes.Clash.TheVariants as clash
use Rattle.ss_search_clashes.specs.declared.known.Against.{Against}
use Rattle.ss_search_clashes.specs.declared.known.Against.TheVariants as against
use Rattle.ss_search_clashes.specs.Numbered.{class_of, differs, is_opposed}
use Rattle.ss_search_clashes.specs.Values.{AreOneClass}
use Rattle.ss_search_clashes.specs.Found.{IsClash, IsAgainst}
use Rattle.ss_search_clashes.specs.declared.facts.Fact.{Fact}
use Rattle.ss_search_clashes.specs.Cases.{AreOpposed, AtClasses, IsAt, AreAt, CloseCase}
use Rattle.ss_search_clashes.proofs.Saying.{differing_basic, both_basic}

-- less that is given
pub weaker_case : (b : Forms) (ms : List Merge) (count : ℕ) (Needs Given : List ClassTree → List Formula → Type 0) (lines : List Line) → ((cs : List ClassTree) (known : List Formula) → Given cs known → Needs cs known) →
    CloseCase b ms count Needs lines → CloseCase b ms count Given lines
weaker_case b ms count Needs Given lines enough h = record { closes = λ cs premises goal known are given. h.closes cs premises goal known are (enough cs known given) }

weaker_classes : (b : Forms) (c : Equations) (P Q : Classing → Type 0) → ((class : Classing) → P class → Q class) → AtClasses b c P → AtClasses b c Q
weaker_classes b c P Q f h = record { classes = h.classes; are = h.are; holds = f (class_of b h.classes) h.holds }

-- ---- at their places

-- this is the formula of this number, and its place
pub record IsNumbered (known : List FormulaId) (places : List ℕ) (i : ℕ) (fact : Fact) : Type 0 where
  pub formula : slice_get known i ≡ Some fact.formula
  pub place : slice_get places i ≡ Some fact.place

pub one_at : (cs : List ClassTree) (b : Forms) (fs : List Formula) (known : List FormulaId) (places : List ℕ) (i : ℕ) (fact : Fact) → IsNumbered known places i fact → is_basic (formula_at b fact.formula) ≡ true →
    AreAt cs b fs known places → IsAt cs b fs fact
one_at cs b fs known places i fact n basic are = are.each i fact.place fact.formula n.formula n.place basic

-- ---- what they say, at some classes

module _ (b : Forms) (class : Classing) (known : List FormulaId) where
  same_at : (i : ℕ) (f g : FormulaId) → slice_get known i ≡ Some f → slice_get known i ≡ Some g → formula_at b f ≡ formula_at b g
  same_at i f g p q = ap (formula_at b) (same_Some f g (sym p ∙ q))

  differing_place : (i : ℕ) → IsClash b class known (clash.Differs i) → i < length known
  differing_place i (f, at, d) = slice_get_within known i f at

  differing_there : (i : ℕ) (f : FormulaId) → slice_get known i ≡ Some f → IsClash b class known (clash.Differs i) → differs class (formula_at b f) ≡ true
  differing_there i f at (g, is, d) = ap (differs class) (same_at i f g at is) ∙ d

  opposed_places : (i j : ℕ) → IsClash b class known (clash.Opposed i j) → (i < length known) × (j < length known)
  opposed_places i j (f, g, at_f, at_g, o) = (slice_get_within known i f at_f, slice_get_within known j g at_g)

  opposed_there : (i j : ℕ) (f g : FormulaId) → slice_get known i ≡ Some f → slice_get known j ≡ Some g → IsClash b class known (clash.Opposed i j) → AreOpposed class (formula_at b f) (formula_at b g)
  opposed_there i j f g at_f at_g (x, y, at_x, at_y, o) =
      inl (ap (λ h. is_opposed class h (formula_at b g)) (same_at i f x at_f at_x) ∙ ap (is_opposed class (formula_at b x)) (same_at j g y at_g at_y) ∙ o)

  against_place : (f : FormulaId) (i : ℕ) → IsAgainst b class known f (against.Known i) → i < length known
  against_place f i (g, at, o) = slice_get_within known i g at

  against_there : (f : FormulaId) (i : ℕ) (g : FormulaId) → slice_get known i ≡ Some g → IsAgainst b class known f (against.Known i) → AreOpposed class (formula_at b f) (formula_at b g)
  against_there f i g at (x, is, o) = subst (AreOpposed class (formula_at b f)) (sym (same_at i g x at is)) o

-- ---- what they say, at the classes of a congruence

module _ (b : Forms) (c : Equations) where
  abbrev pub DiffersAt : FormulaId → Type 0
  DiffersAt f = AtClasses b c (λ class. differs class (formula_at b f) ≡ true)

  abbrev pub OpposedAt : FormulaId → FormulaId → Type 0
  OpposedAt f g = AtClasses b c (λ class. AreOpposed class (formula_at b f) (formula_at b g))

  pub differing_is_basic : (f : FormulaId) → DiffersAt f → is_basic (formula_at b f) ≡ true
  differing_is_basic f h = differing_basic (class_of b h.classes) (formula_at b f) h.holds

  pub opposed_are_basic : (f g : FormulaId) → OpposedAt f g → (is_basic (formula_at b f) ≡ true) × (is_basic (formula_at b g) ≡ true)
  opposed_are_basic f g h = both_basic (class_of b h.classes) (formula_at b f) (formula_at b g) h.holds

  module _ (known : List FormulaId) (k : Clash) where
    abbrev pub ClashAt : Type 0
    ClashAt = AtClasses b c (λ class. IsClash b class known k)

    module _ (i : ℕ) (is : k ≡ clash.Differs i) where
      differing_of : (class : Classing) → IsClash b class known k → IsClash b class known (clash.Differs i)
      differing_of class h = subst (IsClash b class known) is h

      pub differing_inside : ClashAt → i < length known
      differing_inside h = differing_place b (class_of b h.classes) known i (differing_of (class_of b h.classes) h.holds)

      pub differing_at : (f : FormulaId) → slice_get known i ≡ Some f → ClashAt → DiffersAt f
      differing_at f at h = weaker_classes b c (λ class. IsClash b class known k) (λ class. differs class (formula_at b f) ≡ true) (λ class d. differing_there b class known i f at (differing_of class d)) h

    module _ (i j : ℕ) (is : k ≡ clash.Opposed i j) where
      opposed_of : (class : Classing) → IsClash b class known k → IsClash b class known (clash.Opposed i j)
      opposed_of class h = subst (IsClash b class known) is h

      pub opposed_inside : ClashAt → (i < length known) × (j < length known)
      opposed_inside h = opposed_places b (class_of b h.classes) known i j (opposed_of (class_of b h.classes) h.holds)

      pub opposed_at : (f g : FormulaId) → slice_get known i ≡ Some f → slice_get known j ≡ Some g → ClashAt → OpposedAt f g
      opposed_at f g at_f at_g h =
          weaker_classes b c (λ class. IsClash b class known k) (λ class. AreOpposed class (formula_at b f) (formula_at b g)) (λ class o. opposed_there b class known i j f g at_f at_g (opposed_of class o)) h

    pub values_at : (s t : TermId) → k ≡ clash.Values s t → ClashAt → AtClasses b c (λ class. AreOneClass b class s t)
    values_at s t is h = weaker_classes b c (λ class. IsClash b class known k) (λ class. AreOneClass b class s t) (λ class v. subst (IsClash b class known) is v) h

  module _ (known : List FormulaId) (f : FormulaId) (a : Against) where
    abbrev pub AgainstAt : Type 0
    AgainstAt = AtClasses b c (λ class. IsAgainst b class known f a)

    pub against_differs : a ≡ against.Classes → AgainstAt → DiffersAt f
    against_differs is h = weaker_classes b c (λ class. IsAgainst b class known f a) (λ class. differs class (formula_at b f) ≡ true) (λ class d. subst (IsAgainst b class known f) is d) h

    module _ (i : ℕ) (is : a ≡ against.Known i) where
      against_of : (class : Classing) → IsAgainst b class known f a → IsAgainst b class known f (against.Known i)
      against_of class h = subst (IsAgainst b class known f) is h

      pub against_inside : AgainstAt → i < length known
      against_inside h = against_place b (class_of b h.classes) known f i (against_of (class_of b h.classes) h.holds)

      pub against_at : (g : FormulaId) → slice_get known i ≡ Some g → AgainstAt → OpposedAt f g
      against_at g at h = weaker_classes b c (λ class. IsAgainst b class known f a) (λ class. AreOpposed class (formula_at b f) (formula_at b g)) (λ class o. against_there b class known f i g at (against_of class o)) h
