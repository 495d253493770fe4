-- Only equations of constants for stores say what a constant equals.
use Rattle.std.proofs.Common.{◌≡◌, ℕ, ◌+◌, ◌<◌, ◌≤◌, List, [], ◌∷◌, ◌++◌, length, map, take, get_or, Bool, true, false, refl, sym, ◌∙◌, ap, subst, arith, Option, Some, None, if◌then◌else◌}
use Rattle.std.specs.Prelude.{flat_map, filter}
use Rattle.std.proofs.lemmas.Bool.{false≢true}
use Rattle.std.proofs.lemmas.List.{append-nil, map_push, take_more}
use Rattle.std.proofs.lemmas.List.Elements.{filter-append}
use Rattle.ss_logic.specs.Terms.{Term, Terms, no_terms, term_then, terms_from}
use Rattle.ss_logic.specs.Formulas.{Predicate, Equal, AtMost, Sub, Allocated, Committed, Ready, IsGroup, Good, Formula, Literal, And, Or, Forall, Exists}
use Rattle.ss_logic.specs.Equal.{same_term, equal_terms}
use Rattle.ss_logic.specs.Reads.{is_constant_store}
use Rattle.ss_logic.specs.Asked.{Reading, Asked, second_where_first, equals, asked_of_equal, asked_at_equal, asked_at_read, asked_over}
use Rattle.ss_terms.specs.declared.forms.TermId.{TermId}
use Rattle.ss_terms.specs.declared.forms.FormulaId.{FormulaId}
use Rattle.ss_terms.specs.Forms.{Forms, term_at, terms_at, HasFormula, HasFormulas}
use Rattle.ss_rules_asked.specs.Readings.{first_is_constant, is_store_equation}

differ : (s x : Term) (r : Bool) → same_term s x ≡ r → is_constant_store s ≡ true → is_constant_store x ≡ false → r ≡ false
differ s x true e c d = absurd (false≢true (sym d ∙ ap is_constant_store (sym (equal_terms s x e)) ∙ c))
differ s x false e c d = refl

nothing_second : (s x y : Term) (r : Bool) → same_term s x ≡ r → r ≡ false → second_where_first s (term_then x (term_then y no_terms)) ≡ None
nothing_second s x y r e f = ap (λ v. if v then Some y else None) (e ∙ f)

no_second : (s : Term) (ts : Terms) → is_constant_store s ≡ true → first_is_constant ts ≡ false → second_where_first s ts ≡ None
no_second s no_terms c d = refl
no_second s (term_then x no_terms) c d = refl
no_second s (term_then x (term_then y no_terms)) c d = nothing_second s x y (same_term s x) refl (differ s x (same_term s x) refl c d)
no_second s (term_then x (term_then y (term_then z ts))) c d = refl

says_nothing : (s : Term) (f : Formula) → is_constant_store s ≡ true → is_store_equation f ≡ false → equals s f ≡ None
says_nothing s (Literal sign Equal ts) c d = no_second s ts c d
says_nothing s (Literal sign AtMost ts) c d = refl
says_nothing s (Literal sign Sub ts) c d = refl
says_nothing s (Literal sign Allocated ts) c d = refl
says_nothing s (Literal sign Committed ts) c d = refl
says_nothing s (Literal sign Ready ts) c d = refl
says_nothing s (Literal sign IsGroup ts) c d = refl
says_nothing s (Literal sign Good ts) c d = refl
says_nothing s (And fs) c d = refl
says_nothing s (Or fs) c d = refl
says_nothing s (Forall ss f) c d = refl
says_nothing s (Exists ss f) c d = refl

with_one : (r : Reading) (f : Formula) (fs : List Formula) (v : Bool) → is_store_equation f ≡ v → is_constant_store r.store ≡ true → flat_map (asked_at_equal r) (filter is_store_equation fs) ≡ flat_map (asked_at_equal r) fs →
    flat_map (asked_at_equal r) (if v then f ∷ filter is_store_equation fs else filter is_store_equation fs) ≡ flat_map (asked_at_equal r) (f ∷ fs)
with_one r f fs true e c h = ap (λ xs. asked_at_equal r f ++ xs) h
with_one r f fs false e c h = h ∙ ap (λ o. asked_of_equal r o ++ flat_map (asked_at_equal r) fs) (sym (says_nothing r.store f c e))

only_these : (r : Reading) (fs : List Formula) → is_constant_store r.store ≡ true → flat_map (asked_at_equal r) (filter is_store_equation fs) ≡ flat_map (asked_at_equal r) fs
only_these r [] c = refl
only_these r (f ∷ fs) c = with_one r f fs (is_store_equation f) refl c (only_these r fs c)

at_one : (r : Reading) (fs : List Formula) (v : Bool) → is_constant_store r.store ≡ v → (if v then flat_map (asked_at_equal r) (filter is_store_equation fs) else asked_over r) ≡ (if v then flat_map (asked_at_equal r) fs else asked_over r)
at_one r fs true e = only_these r fs e
at_one r fs false e = refl

pub only_equations : (fs : List Formula) (rs : List Reading) → flat_map (asked_at_read (filter is_store_equation fs)) rs ≡ flat_map (asked_at_read fs) rs
only_equations fs [] = refl
only_equations fs (r ∷ rs) =
    ap (λ xs. xs ++ flat_map (asked_at_read (filter is_store_equation fs)) rs) (at_one r fs (is_constant_store r.store) refl)
    ∙ ap (λ xs. asked_at_read fs r ++ xs) (only_equations fs rs)

-- ---- gathering them

pub kept_next : {X Y : Type 0} (at : X → Y) (p : Y → Bool) (items kept more : List X) (i : ℕ) (d : X) → i < length items → map at kept ≡ filter p (map at (take i items)) → map at more ≡ map at kept ++ filter p (at (get_or items i d) ∷ []) →
    map at more ≡ filter p (map at (take (i + 1) items))
kept_next at p items kept more i d within before next =
    next
    ∙ ap (λ xs. xs ++ filter p (at (get_or items i d) ∷ [])) before
    ∙ sym (filter-append p (map at (take i items)) (at (get_or items i d) ∷ []))
    ∙ ap (filter p) (sym (map_push at (take i items) (get_or items i d)))
    ∙ ap (λ xs. filter p (map at xs)) (sym (take_more items i d within))

shown : {Y : Type 0} (p : Y → Bool) (y : Y) (r : Bool) → p y ≡ r → r ≡ true → filter p (y ∷ []) ≡ y ∷ []
shown p y r e holds = rw (e ∙ holds) refl

hidden : {Y : Type 0} (p : Y → Bool) (y : Y) (r : Bool) → p y ≡ r → r ≡ false → filter p (y ∷ []) ≡ []
hidden p y r e fails = rw (e ∙ fails) refl

pub pushed : {X Y : Type 0} (at : X → Y) (p : Y → Bool) (kept more : List X) (x : X) (r : Bool) → r ≡ p (at x) → r ≡ true → more ≡ kept ++ x ∷ [] → map at more ≡ map at kept ++ filter p (at x ∷ [])
pushed at p kept more x r e holds written = ap (map at) written ∙ map_push at kept x ∙ ap (λ ys. map at kept ++ ys) (sym (shown p (at x) r (sym e) holds))

pub left_out : {X Y : Type 0} (at : X → Y) (p : Y → Bool) (kept : List X) (x : X) (r : Bool) → r ≡ p (at x) → r ≡ false → map at kept ≡ map at kept ++ filter p (at x ∷ [])
left_out at p kept x r e fails = sym (ap (λ ys. map at kept ++ ys) (hidden p (at x) r (sym e) fails) ∙ append-nil (map at kept))

-- ---- arguments of another number

pub constant-short : (b : Forms) (ts : List TermId) → length ts < 2 → first_is_constant (terms_from (terms_at b ts)) ≡ false
constant-short b [] h = refl
constant-short b (t ∷ []) h = refl
constant-short b (t ∷ u ∷ ts) h = absurd (omega arith)

pub constant-long : (b : Forms) (ts : List TermId) → 3 ≤ length ts → first_is_constant (terms_from (terms_at b ts)) ≡ false
constant-long b [] h = absurd (omega arith)
constant-long b (t ∷ []) h = absurd (omega arith)
constant-long b (t ∷ u ∷ []) h = absurd (omega arith)
constant-long b (t ∷ u ∷ v ∷ ts) h = refl

pub has_one_more : (b : Forms) (fs more : List FormulaId) (f : FormulaId) → more ≡ fs ++ f ∷ [] → HasFormulas b fs → HasFormula b f → HasFormulas b more
has_one_more b fs more f e h k = subst (HasFormulas b) (sym e) (last fs h)
  where
    last : (gs : List FormulaId) → HasFormulas b gs → HasFormulas b (gs ++ f ∷ [])
    last [] j = (k, tt)
    last (g ∷ gs) j = (j.0, last gs j.1)

pub constant-two : (b : Forms) (ts : List TermId) (d : TermId) → 2 ≤ length ts → length ts < 3 → is_constant_store (term_at b (get_or ts 0 d)) ≡ first_is_constant (terms_from (terms_at b ts))
constant-two b [] d h l = absurd (omega arith)
constant-two b (t ∷ []) d h l = absurd (omega arith)
constant-two b (t ∷ u ∷ []) d h l = refl
constant-two b (t ∷ u ∷ v ∷ ts) d h l = absurd (omega arith)
