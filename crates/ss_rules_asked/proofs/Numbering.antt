-- Arguments of another number say nothing.
use Rattle.std.proofs.Common.{◌≡◌, ℕ, ◌<◌, ◌≤◌, List, [], ◌∷◌, length, Bool, refl, sym, ◌∙◌, ap, subst, arith, get_or, Option, Some, None}
use Rattle.ss_logic.specs.declared.Sort.{Sort}
use Rattle.ss_logic.specs.declared.Sort.TheVariants as sort
use Rattle.ss_logic.specs.Terms as tree
use Rattle.ss_logic.specs.Terms.{Term, Terms, no_terms, term_then, App, terms_from}
use Rattle.ss_logic.specs.declared.RuleName.{RuleName}
use Rattle.ss_logic.specs.Reads as reads
use Rattle.ss_logic.specs.Rules as rules
use Rattle.ss_logic.specs.Asked as spec
use Rattle.ss_terms.specs.Lists.{SmallVec}
use Rattle.ss_terms.specs.declared.forms.TermId.{TermId}
use Rattle.ss_terms.specs.declared.forms.Symbol.{Symbol}
use Rattle.ss_terms.specs.declared.forms.Term.TheVariants.{App as AppForm}
use Rattle.ss_terms.specs.Forms.{Forms, symbol_of, term_at, terms_at, HasTerm, HasTerms, IsTermForm}
use Rattle.ss_terms.proofs.Trees.{AreTermsBelow-more}
use Rattle.ss_rules_asked.specs.Readings.{nothing, first_of_two, IsOne}

pub object-short : (b : Forms) (n : ℕ) (ts : List TermId) → length ts < 2 → spec.object_reading n (terms_from (terms_at b ts)) ≡ None
object-short b n [] h = refl
object-short b n (t ∷ []) h = refl
object-short b n (t ∷ u ∷ ts) h = absurd (omega arith)

pub object-long : (b : Forms) (n : ℕ) (ts : List TermId) → 3 ≤ length ts → spec.object_reading n (terms_from (terms_at b ts)) ≡ None
object-long b n [] h = absurd (omega arith)
object-long b n (t ∷ []) h = absurd (omega arith)
object-long b n (t ∷ u ∷ []) h = absurd (omega arith)
object-long b n (t ∷ u ∷ v ∷ ts) h = refl

pub field-short : (b : Forms) (f : ℕ) (ts : List TermId) → length ts < 2 → spec.field_reading f (terms_from (terms_at b ts)) ≡ None
field-short b f [] h = refl
field-short b f (t ∷ []) h = refl
field-short b f (t ∷ u ∷ ts) h = absurd (omega arith)

pub field-long : (b : Forms) (f : ℕ) (ts : List TermId) → 3 ≤ length ts → spec.field_reading f (terms_from (terms_at b ts)) ≡ None
field-long b f [] h = absurd (omega arith)
field-long b f (t ∷ []) h = absurd (omega arith)
field-long b f (t ∷ u ∷ []) h = absurd (omega arith)
field-long b f (t ∷ u ∷ v ∷ ts) h = refl

pub element-short : (b : Forms) (r : Sort) (ts : List TermId) → length ts < 3 → spec.element_reading r (terms_from (terms_at b ts)) ≡ None
element-short b r [] h = refl
element-short b r (t ∷ []) h = refl
element-short b r (t ∷ u ∷ []) h = refl
element-short b r (t ∷ u ∷ v ∷ ts) h = absurd (omega arith)

pub element-long : (b : Forms) (r : Sort) (ts : List TermId) → 4 ≤ length ts → spec.element_reading r (terms_from (terms_at b ts)) ≡ None
element-long b r [] h = absurd (omega arith)
element-long b r (t ∷ []) h = absurd (omega arith)
element-long b r (t ∷ u ∷ []) h = absurd (omega arith)
element-long b r (t ∷ u ∷ v ∷ []) h = absurd (omega arith)
element-long b r (t ∷ u ∷ v ∷ x ∷ ts) h = refl

pub next-short : (b : Forms) (ts : List TermId) → length ts < 1 → spec.next_reading (terms_from (terms_at b ts)) ≡ None
next-short b [] h = refl
next-short b (t ∷ ts) h = absurd (omega arith)

pub next-long : (b : Forms) (ts : List TermId) → 2 ≤ length ts → spec.next_reading (terms_from (terms_at b ts)) ≡ None
next-long b [] h = absurd (omega arith)
next-long b (t ∷ []) h = absurd (omega arith)
next-long b (t ∷ u ∷ ts) h = refl

pub only-short : (b : Forms) (ts : List TermId) → length ts < 1 → spec.only_one (terms_from (terms_at b ts)) ≡ None
only-short b [] h = refl
only-short b (t ∷ ts) h = absurd (omega arith)

pub only-long : (b : Forms) (ts : List TermId) → 2 ≤ length ts → spec.only_one (terms_from (terms_at b ts)) ≡ None
only-long b [] h = absurd (omega arith)
only-long b (t ∷ []) h = absurd (omega arith)
only-long b (t ∷ u ∷ ts) h = refl

pub second-short : (b : Forms) (s : Term) (ts : List TermId) → length ts < 2 → spec.second_where_first s (terms_from (terms_at b ts)) ≡ None
second-short b s [] h = refl
second-short b s (t ∷ []) h = refl
second-short b s (t ∷ u ∷ ts) h = absurd (omega arith)

pub second-long : (b : Forms) (s : Term) (ts : List TermId) → 3 ≤ length ts → spec.second_where_first s (terms_from (terms_at b ts)) ≡ None
second-long b s [] h = absurd (omega arith)
second-long b s (t ∷ []) h = absurd (omega arith)
second-long b s (t ∷ u ∷ []) h = absurd (omega arith)
second-long b s (t ∷ u ∷ v ∷ ts) h = refl

pub count-short : (b : Forms) (ts : List TermId) → length ts < 2 → spec.counts_of (terms_from (terms_at b ts)) ≡ None
count-short b [] h = refl
count-short b (t ∷ []) h = refl
count-short b (t ∷ u ∷ ts) h = absurd (omega arith)

pub count-long : (b : Forms) (ts : List TermId) → 3 ≤ length ts → spec.counts_of (terms_from (terms_at b ts)) ≡ None
count-long b [] h = absurd (omega arith)
count-long b (t ∷ []) h = absurd (omega arith)
count-long b (t ∷ u ∷ []) h = absurd (omega arith)
count-long b (t ∷ u ∷ v ∷ ts) h = refl

pub first-short : (b : Forms) (ts : List TermId) → length ts < 2 → first_of_two (terms_from (terms_at b ts)) ≡ None
first-short b [] h = refl
first-short b (t ∷ []) h = refl
first-short b (t ∷ u ∷ ts) h = absurd (omega arith)

pub first-long : (b : Forms) (ts : List TermId) → 3 ≤ length ts → first_of_two (terms_from (terms_at b ts)) ≡ None
first-long b [] h = absurd (omega arith)
first-long b (t ∷ []) h = absurd (omega arith)
first-long b (t ∷ u ∷ []) h = absurd (omega arith)
first-long b (t ∷ u ∷ v ∷ ts) h = refl

pub asked_next-short : (b : Forms) (ts : List TermId) → length ts < 1 → spec.asked_of_next (terms_from (terms_at b ts)) ≡ []
asked_next-short b [] h = refl
asked_next-short b (t ∷ ts) h = absurd (omega arith)

pub asked_next-long : (b : Forms) (ts : List TermId) → 2 ≤ length ts → spec.asked_of_next (terms_from (terms_at b ts)) ≡ []
asked_next-long b [] h = absurd (omega arith)
asked_next-long b (t ∷ []) h = absurd (omega arith)
asked_next-long b (t ∷ u ∷ ts) h = refl

pub asked_two-short : (b : Forms) (name : RuleName) (ts : List TermId) → length ts < 2 → spec.asked_of_two name (terms_from (terms_at b ts)) ≡ []
asked_two-short b name [] h = refl
asked_two-short b name (t ∷ []) h = refl
asked_two-short b name (t ∷ u ∷ ts) h = absurd (omega arith)

pub asked_two-long : (b : Forms) (name : RuleName) (ts : List TermId) → 3 ≤ length ts → spec.asked_of_two name (terms_from (terms_at b ts)) ≡ []
asked_two-long b name [] h = absurd (omega arith)
asked_two-long b name (t ∷ []) h = absurd (omega arith)
asked_two-long b name (t ∷ u ∷ []) h = absurd (omega arith)
asked_two-long b name (t ∷ u ∷ v ∷ ts) h = refl

-- ---- arguments of a term of the bank

pub arguments_there : (b : Forms) (t : TermId) (f : Symbol) (v : SmallVec TermId) (ts : List TermId) → ts ≡ v.items → HasTerm b t → IsTermForm b t (AppForm f v) → HasTerms b ts
arguments_there b t f v ts e h n = subst (HasTerms b) (sym e) (AreTermsBelow-more t.0 (length b.terms) (omega (arith, h)) v.items n.below)

-- ---- stores

pub constant-cases : (b : Forms) (k : ℕ) (ts : List TermId) → nothing ts ≡ reads.is_constant_store (App (tree.Constant sort.Store k) (terms_from (terms_at b ts)))
constant-cases b k [] = refl
constant-cases b k (t ∷ ts) = refl

before-one : (k : ℕ) (ts : Terms) → spec.only_one ts ≡ rules.store_before (App (tree.New k) ts)
before-one k no_terms = refl
before-one k (term_then t no_terms) = refl
before-one k (term_then t (term_then u ts)) = refl

before-two : (k : ℕ) (ts : Terms) → first_of_two ts ≡ rules.store_before (App (tree.NewArray k) ts)
before-two k no_terms = refl
before-two k (term_then t no_terms) = refl
before-two k (term_then t (term_then u no_terms)) = refl
before-two k (term_then t (term_then u (term_then v ts))) = refl

pub before_object : (b : Forms) (k : ℕ) (ts : Terms) (r : Option TermId) → IsOne b r (spec.only_one ts) → IsOne b r (rules.store_before (App (tree.New k) ts))
before_object b k ts r is = subst (IsOne b r) (before-one k ts) is

pub before_array : (b : Forms) (k : ℕ) (ts : Terms) (r : Option TermId) → IsOne b r (first_of_two ts) → IsOne b r (rules.store_before (App (tree.NewArray k) ts))
before_array b k ts r is = subst (IsOne b r) (before-two k ts) is

pub first-two : (b : Forms) (ts : List TermId) (d : TermId) → HasTerms b ts → 2 ≤ length ts → length ts < 3 → IsOne b (Some (get_or ts 0 d)) (first_of_two (terms_from (terms_at b ts)))
first-two b [] d h m l = absurd (omega arith)
first-two b (t ∷ []) d h m l = absurd (omega arith)
first-two b (t ∷ u ∷ []) d h m l = record { has = h.0; is = refl }
first-two b (t ∷ u ∷ v ∷ ts) d h m l = absurd (omega arith)
