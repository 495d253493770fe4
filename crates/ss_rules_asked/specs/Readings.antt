-- What reads and counts of terms in code stand for.
use Rattle.std.specs.Prelude.{◌≡◌, List, [], ◌∷◌, map, Bool, true, false, Option, Some, None, option_map, IfSome}
use Rattle.ss_logic.specs.Terms.{Term, Terms, no_terms, term_then}
use Rattle.ss_logic.specs.Formulas.{Equal, Formula, Literal}
use Rattle.ss_logic.specs.Reads.{is_constant_store}
use Rattle.ss_logic.specs.Asked as spec
use Rattle.ss_logic.specs.Asked.{numeral}
use Rattle.ss_terms.specs.declared.forms.TermId.{TermId}
use Rattle.ss_terms.specs.Forms.{Forms, term_at, terms_at, HasTerm, HasTerms}
use Rattle.ss_rules_asked.specs.declared.forms.Others.{Others}
use Rattle.ss_rules_asked.specs.declared.forms.Others.TheVariants as others
use Rattle.ss_rules_asked.specs.declared.forms.Reading.{Reading}
use Rattle.ss_rules_asked.specs.declared.forms.Counts.{Counts}

-- what an equation of a constant for stores is
abbrev pub first_is_constant : Terms → Bool
first_is_constant (term_then x (term_then y no_terms)) = is_constant_store x
first_is_constant ts = false

abbrev pub is_store_equation : Formula → Bool
is_store_equation (Literal sign Equal ts) = first_is_constant ts
is_store_equation f = false

-- there is no term
abbrev pub nothing : List TermId → Bool
nothing [] = true
nothing (t ∷ ts) = false

abbrev pub first_of_two : Terms → Option Term
first_of_two (term_then x (term_then y no_terms)) = Some x
first_of_two ts = None

abbrev pub others_at : Forms → Others → List Term
others_at b others.Nothing = []
others_at b (others.Object o) = term_at b o ∷ []
others_at b (others.Field o f) = term_at b o ∷ numeral f ∷ []
others_at b (others.Element a i) = term_at b a ∷ term_at b i ∷ []

abbrev pub reading_at : Forms → Reading → spec.Reading
reading_at b r = record { kind = r.kind; store = term_at b r.store; others = others_at b r.others }

abbrev pub counts_at : Forms → Counts → spec.Counts
counts_at b c = record { term = term_at b c.term; class = term_at b c.class }

abbrev pub HasOthers : Forms → Others → Type 0
HasOthers b others.Nothing = Unit {0}
HasOthers b (others.Object o) = HasTerm b o
HasOthers b (others.Field o f) = HasTerm b o
HasOthers b (others.Element a i) = HasTerm b a × HasTerm b i

abbrev pub HasReading : Forms → Reading → Type 0
HasReading b r = HasTerm b r.store × HasOthers b r.others

abbrev pub HasCount : Forms → Counts → Type 0
HasCount b c = HasTerm b c.term × HasTerm b c.class

-- the bank has it, where there is one, and it stands for this
pub record IsReading (b : Forms) (r : Option Reading) (o : Option spec.Reading) : Type 0 where
  pub has : IfSome r (HasReading b)
  pub is : option_map (reading_at b) r ≡ o

pub record IsOne (b : Forms) (r : Option TermId) (o : Option Term) : Type 0 where
  pub has : IfSome r (HasTerm b)
  pub is : option_map (term_at b) r ≡ o

pub record IsCount (b : Forms) (r : Option Counts) (o : Option spec.Counts) : Type 0 where
  pub has : IfSome r (HasCount b)
  pub is : option_map (counts_at b) r ≡ o

-- ---- lists of them

abbrev pub readings_at : Forms → List Reading → List spec.Reading
readings_at b rs = map (reading_at b) rs

abbrev pub all_counts_at : Forms → List Counts → List spec.Counts
all_counts_at b cs = map (counts_at b) cs

abbrev pub HasReadings : Forms → List Reading → Type 0
HasReadings b [] = Unit {0}
HasReadings b (r ∷ rs) = HasReading b r × HasReadings b rs

abbrev pub HasCounts : Forms → List Counts → Type 0
HasCounts b [] = Unit {0}
HasCounts b (c ∷ cs) = HasCount b c × HasCounts b cs

pub record AreReadings (b : Forms) (rs : List Reading) (these : List spec.Reading) : Type 0 where
  pub has : HasReadings b rs
  pub are : readings_at b rs ≡ these

pub record AreCounts (b : Forms) (cs : List Counts) (these : List spec.Counts) : Type 0 where
  pub has : HasCounts b cs
  pub are : all_counts_at b cs ≡ these

pub record AreTerms (b : Forms) (ts : List TermId) (these : List Term) : Type 0 where
  pub has : HasTerms b ts
  pub are : terms_at b ts ≡ these
