-- What fits no rule, by its form.
use Rattle.std.proofs.Common.{◌≡◌, ◌≢◌, ℕ, ℤ, pos, ◌+◌, ◌-◌, ◌<◌, ◌≤◌, List, [], ◌∷◌, length, map, drop, get_or, Bool, true, false, Option, Some, None, refl, sym, ◌∙◌, ap, subst, arith}
use Rattle.std.specs.Prelude.{◌==◌, ◌&&◌, ◌||◌, neg_ℤ, unsigned_abs}
use Rattle.std.specs.List.{list_any}
use Rattle.std.proofs.lemmas.List.{drop_more}
use Rattle.std.proofs.lemmas.Bool.{ne_eqb, false≢true, false_from_ne_true}
use Rattle.ss_core.specs.Tree.{ClassTree}
use Rattle.ss_core.specs.View.{class_of}
use Rattle.ss_core.specs.declared.class.Class.{Class}
use Rattle.ss_logic.specs.declared.Sort.TheVariants as sort
use Rattle.ss_logic.specs.Terms.{Number, Null, ClassName, Next, Add, Multiply, Quotient, Remainder, Pair, Term, App, no_terms, term_then, app, terms_from, have_sorts}
use Rattle.ss_logic.specs.Formulas.{Formula}
use Rattle.ss_logic.specs.Equal.{same_term, equal_terms, same_term_equal}
use Rattle.ss_logic.specs.Shapes.{when, number, null_term, next_of, owner_of, equal, at_most, given, all_of, literal_of, class_of_term}
use Rattle.ss_logic.specs.Rules.{split_of, pairs_agree, stands_beside, division}
use Rattle.ss_terms.specs.declared.forms.TermId.{TermId}
use Rattle.ss_terms.specs.Forms.{Forms, terms_at, term_at}
use Rattle.ss_rules_basic.specs.Arguments.{is_null_term, store_of_next, parts_of}

pub no_number : (b : Forms) (n : ℤ) (ts : List TermId) → 1 ≤ length ts → None ≡ literal_of (App (Number n) (terms_from (terms_at b ts)))
no_number b n [] h = absurd (omega arith)
no_number b n (t ∷ ts) h = refl

pub no_class : (b : Forms) (n : ℕ) (ts : List TermId) → 1 ≤ length ts → None ≡ class_of_term (App (ClassName n) (terms_from (terms_at b ts)))
no_class b n [] h = absurd (omega arith)
no_class b n (t ∷ ts) h = refl

pub no_null : (b : Forms) (ts : List TermId) → 1 ≤ length ts → false ≡ is_null_term (App Null (terms_from (terms_at b ts)))
no_null b [] h = absurd (omega arith)
no_null b (t ∷ ts) h = refl

-- ---- tests of one term

none_some : {A : Type 0} (a : A) → None ≡ Some a → ⊥
none_some a e = cc

unlike : (x y : Term) → (x ≡ y → ⊥) → same_term x y ≡ false
unlike x y h = false_from_ne_true (same_term x y) (λ e. h (equal_terms x y e))

alike : (a b : Bool) → (a ≡ true → b ≡ true) → (b ≡ true → a ≡ true) → a ≡ b
alike true b f g = sym (f refl)
alike false true f g = g refl
alike false false f g = refl

pub null_tested : (t : Term) → is_null_term t ≡ same_term t null_term
null_tested (App Null no_terms) = sym (same_term_equal null_term null_term refl)
null_tested t = sym (unlike t null_term (λ e. false≢true (ap is_null_term e)))

pub next_tested : (x y : Term) → same_term x y ≡ same_term (next_of x) (next_of y)
next_tested x y = alike (same_term x y) (same_term (next_of x) (next_of y))
    (λ e. same_term_equal (next_of x) (next_of y) (ap next_of (equal_terms x y e)))
    (λ e. let n = equal_terms (next_of x) (next_of y) e in let s : x ≡ y = cc in same_term_equal x y s)

pub owner_tested : (s x y : Term) → same_term x y ≡ same_term (owner_of s x) (owner_of s y)
owner_tested s x y = alike (same_term x y) (same_term (owner_of s x) (owner_of s y))
    (λ e. same_term_equal (owner_of s x) (owner_of s y) (ap (owner_of s) (equal_terms x y e)))
    (λ e. let n = equal_terms (owner_of s x) (owner_of s y) e in let s : x ≡ y = cc in same_term_equal x y s)

-- the next reference of a store, or a term that is none
next_from : (t s : Term) → store_of_next t ≡ Some s → t ≡ next_of s
next_from (App Next (term_then r no_terms)) s e = let same : r ≡ s = cc in ap next_of same
next_from t s e = absurd (none_some s e)

pub next_here : (t r s : Term) → store_of_next t ≡ Some r → same_term r s ≡ same_term t (next_of s)
next_here t r s e = next_tested r s ∙ ap (λ x. same_term x (next_of s)) (sym (next_from t r e))

pub no_next : (t s : Term) → store_of_next t ≡ None → same_term t (next_of s) ≡ false
no_next t s e = unlike t (next_of s) (λ h. none_some s (sym e ∙ ap store_of_next h))

-- ---- pairs

pub split_many : (cs : List ClassTree) (n : ℕ) (b : Forms) (ts : List TermId) → 3 ≤ length ts → split_of cs n (terms_at b ts) ≡ None
split_many cs n b [] h = absurd (omega arith)
split_many cs n b (t ∷ []) h = absurd (omega arith)
split_many cs n b (t ∷ u ∷ []) h = absurd (omega arith)
split_many cs n b (t ∷ u ∷ v ∷ ts) h = many (term_at b t) (term_at b u) (term_at b v) (terms_at b ts)
  where
    many : (x y z : Term) (xs : List Term) → split_of cs n (x ∷ y ∷ z ∷ xs) ≡ None
    many (App Pair (term_then a (term_then d no_terms))) (App Pair (term_then e (term_then f no_terms))) z xs = refl
    many x y z xs = refl

-- the two parts that a term has make it
pair_of_parts : (x o t : Term) → parts_of x ≡ Some (o, t) → x ≡ app Pair (o ∷ t ∷ [])
pair_of_parts (App Pair (term_then a (term_then b no_terms))) o t e =
    let both : ◌≡◌ {A = Term × Term} (a, b) (o, t) = cc in
    ap (λ (p : Term × Term). app Pair (p.0 ∷ p.1 ∷ [])) both
pair_of_parts x o t e = absurd (none_some (o, t) e)

module _ (cs : List ClassTree) (n : ℕ) (x y o t u v : Term) (left : parts_of x ≡ Some (o, t)) (right : parts_of y ≡ Some (u, v)) where
  abbrev Sorted : Bool
  Sorted = have_sorts cs (sort.Rest ∷ sort.Rest ∷ []) (x ∷ y ∷ [])

  split_pairs : split_of cs n (x ∷ y ∷ []) ≡ when (n == 1 && Sorted) (pairs_agree x y o t u v)
  split_pairs = rw (pair_of_parts x o t left, pair_of_parts y u v right) refl

  pub split_other : n ≢ 1 → split_of cs n (x ∷ y ∷ []) ≡ None
  split_other h = split_pairs ∙ ap (λ b. when (b && Sorted) (pairs_agree x y o t u v)) (ne_eqb n 1 h)

  pub split_sorted : (b : Bool) → n ≡ 1 → b ≡ Sorted → split_of cs n (x ∷ y ∷ []) ≡ when b (pairs_agree x y o t u v)
  split_sorted b h s = split_pairs ∙ rw (h, ← s) refl

-- ---- classes

pub beside_here : (ds : List Class) (i : ℕ) (d : Class) (t : ℕ) → i < length ds → true ≡ list_any (λ u. u == t) (class_of (get_or ds i d)).also → stands_beside (map class_of (drop i ds)) t ≡ true
beside_here ds i d t h e = ap (λ xs. stands_beside (map class_of xs) t) (drop_more ds i d h) ∙ ap (λ b. b || stands_beside (map class_of (drop (i + 1) ds)) t) (sym e)

pub beside_later : (ds : List Class) (i : ℕ) (d : Class) (t : ℕ) → i < length ds → false ≡ list_any (λ u. u == t) (class_of (get_or ds i d)).also →
    stands_beside (map class_of (drop i ds)) t ≡ stands_beside (map class_of (drop (i + 1) ds)) t
beside_later ds i d t h e = ap (λ xs. stands_beside (map class_of xs) t) (drop_more ds i d h) ∙ ap (λ b. b || stands_beside (map class_of (drop (i + 1) ds)) t) (sym e)

-- ---- division, with any bounds of the remainder

abbrev pub division_within : Term → ℤ → ℤ → ℤ → Formula
division_within x d most least =
    let y = number d in
    let q = app Quotient (x ∷ y ∷ []) in
    let r = app Remainder (x ∷ y ∷ []) in
    all_of (
    equal x (app Add (app Multiply (y ∷ q ∷ []) ∷ r ∷ []))
    ∷ given (at_most (number (pos 0)) x ∷ []) (at_most (number (pos 0)) r)
    ∷ given (at_most x (number (pos 0)) ∷ []) (at_most r (number (pos 0)))
    ∷ at_most r (number most)
    ∷ at_most (number least) r
    ∷ [])

pub division_bounds : (x : Term) (d most least : ℤ) → most ≡ pos (unsigned_abs d - 1) → least ≡ neg_ℤ (pos (unsigned_abs d - 1)) → division_within x d most least ≡ division x d
division_bounds x d most least e f = ap (λ m. division_within x d m least) e ∙ ap (λ m. division_within x d (pos (unsigned_abs d - 1)) m) f
