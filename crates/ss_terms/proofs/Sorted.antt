-- The tests of sorts, by the sorts of the program's fields.
use Rattle.std.proofs.Common.{◌≡◌, ℕ, ◌+◌, ◌<◌, List, [], ◌∷◌, ◌++◌, length, map, Bool, true, false, ◌&&◌, refl, sym, ◌∙◌, ap, subst, get_or, drop, append_assoc, arith}
use Rattle.std.proofs.lemmas.Bool.{true≢false, ltb-true}
use Rattle.std.proofs.lemmas.List.{drop_more}
use Rattle.std.specs.Bool.{Decides}
use Rattle.std.specs.Prelude.{nat_lt}
use Rattle.ss_core.specs.Tree.{ClassTree, FieldTree}
use Rattle.ss_core.specs.View.{class_of}
use Rattle.ss_core.specs.declared.class.Class.{Class}
use Rattle.ss_core.specs.Chain.{fields_of_class, fields_from}
use Rattle.ss_logic.specs.declared.Sort.{Sort}
use Rattle.ss_logic.specs.Terms.{Term, Terms, Bound, App, term_then, no_terms, same_sort, same_sorts, sort_of, sorts_of, is_well_sorted, are_well_sorted, takes, terms_from, term_list}
use Rattle.ss_logic.proofs.Truth.{equal_sorts, same_sort_refl}
use Rattle.ss_terms.specs.Forms.{sort_of_field, sort_of_declaration, class_sorts, field_sorts}

-- ---- the fields of a program

declared_sorts : (t : ℕ) (fs : List FieldTree) → map sort_of_field (fields_of_class t fs) ≡ map sort_of_declaration fs
declared_sorts t [] = refl
declared_sorts t (f ∷ fs) = ap (λ ss. sort_of_declaration f ∷ ss) (declared_sorts t fs)

map-append : {A B : Type 0} (f : A → B) (xs ys : List A) → map f (xs ++ ys) ≡ map f xs ++ map f ys
map-append f [] ys = refl
map-append f (x ∷ xs) ys = ap (λ zs. f x ∷ zs) (map-append f xs ys)

sorts_anywhere : (t u : ℕ) (cs : List ClassTree) → map sort_of_field (fields_from t cs) ≡ map sort_of_field (fields_from u cs)
sorts_anywhere t u [] = refl
sorts_anywhere t u (c ∷ cs) =
    map-append sort_of_field (fields_of_class t c.fields) (fields_from (t + 2) cs)
    ∙ ap (λ ss. ss ++ map sort_of_field (fields_from (t + 2) cs)) (declared_sorts t c.fields ∙ sym (declared_sorts u c.fields))
    ∙ ap (λ ss. map sort_of_field (fields_of_class u c.fields) ++ ss) (sorts_anywhere (t + 2) (u + 2) cs)
    ∙ sym (map-append sort_of_field (fields_of_class u c.fields) (fields_from (u + 2) cs))

pub first_class : (c : ClassTree) (cs : List ClassTree) → field_sorts (c ∷ cs) ≡ class_sorts c ++ field_sorts cs
first_class c cs =
    map-append sort_of_field (fields_of_class 4 c.fields) (fields_from (4 + 2) cs)
    ∙ ap (λ ss. ss ++ map sort_of_field (fields_from (4 + 2) cs)) (declared_sorts 4 c.fields)
    ∙ ap (λ ss. class_sorts c ++ ss) (sorts_anywhere (4 + 2) 4 cs)

-- one more class
class_more : (ds : List Class) (i : ℕ) (d : Class) (before after all : List Sort) → i < length ds →
    after ≡ before ++ class_sorts (class_of (get_or ds i d)) → before ++ field_sorts (map class_of (drop i ds)) ≡ all → after ++ field_sorts (map class_of (drop (i + 1) ds)) ≡ all
class_more ds i d before after all h e was =
    ap (λ ss. ss ++ field_sorts (map class_of (drop (i + 1) ds))) e
    ∙ append_assoc before (class_sorts (class_of (get_or ds i d))) (field_sorts (map class_of (drop (i + 1) ds)))
    ∙ ap (λ ss. before ++ ss) (sym (first_class (class_of (get_or ds i d)) (map class_of (drop (i + 1) ds))))
    ∙ ap (λ cs. before ++ field_sorts (map class_of cs)) (sym (drop_more ds i d h))
    ∙ was

pub class_next : (es ds : List Class) → ds ≡ es → (i : ℕ) (x : Class) → x ≡ get_or ds i x → i < length ds → (before after all : List Sort) →
    after ≡ before ++ class_sorts (class_of x) → before ++ field_sorts (map class_of (drop i es)) ≡ all → after ++ field_sorts (map class_of (drop (i + 1) es)) ≡ all
class_next es ds v i x is h before after all e was =
    let h' : i < length es = subst (λ xs. i < length xs) v h in
    let is' : x ≡ get_or es i x = subst (λ xs. x ≡ get_or xs i x) v is in
    class_more es i x before after all h' (e ∙ ap (λ y. before ++ class_sorts (class_of y)) is') was

-- ---- tests

same_sorts_refl : (ss : List Sort) → same_sorts ss ss ≡ true
same_sorts_refl [] = refl
same_sorts_refl (s ∷ ss) = ap (λ b. b && same_sorts ss ss) (same_sort_refl s) ∙ same_sorts_refl ss

and_both : (a b : Bool) → (a && b) ≡ true → (a ≡ true) × (b ≡ true)
and_both true b h = (refl, h)
and_both false b h = absurd (true≢false (sym h))

equal_lists : (ss rs : List Sort) → same_sorts ss rs ≡ true → ss ≡ rs
equal_lists [] [] h = refl
equal_lists [] (r ∷ rs) h = absurd (true≢false (sym h))
equal_lists (s ∷ ss) [] h = absurd (true≢false (sym h))
equal_lists (s ∷ ss) (r ∷ rs) h =
    let p = and_both (same_sort s r) (same_sorts ss rs) h in
    ap (λ x. x ∷ ss) (equal_sorts s r p.0) ∙ ap (λ xs. r ∷ xs) (equal_lists ss rs p.1)

same_tests : (a b : Bool) → (a ≡ true → b ≡ true) → (b ≡ true → a ≡ true) → a ≡ b
same_tests true b f g = sym (f refl)
same_tests false true f g = absurd (true≢false (sym (g refl)))
same_tests false false f g = refl

-- a test that decides equality is the test of sorts
pub sorts_tested : (b : Bool) (ss rs : List Sort) → Decides b (ss ≡ rs) → b ≡ same_sorts ss rs
sorts_tested b ss rs d =
    same_tests b (same_sorts ss rs) (λ t. subst (λ xs. same_sorts ss xs ≡ true) (d.0 t) (same_sorts_refl ss)) (λ t. d.1 (equal_lists ss rs t))

-- ---- a term without unbound names is well sorted everywhere

none_below : (k : ℕ) → nat_lt k 0 ≡ true → ⊥
none_below k h = let l = ltb-true k 0 h in omega (arith, l)

module _ (cs : List ClassTree) (bound : List Sort) where
  pub closed_sort : (t : Term) → is_well_sorted cs [] t ≡ true → sort_of cs bound t ≡ sort_of cs [] t
  closed_sort (Bound k) h = absurd (none_below k h)
  closed_sort (App f ts) h = refl

  mutual
    pub closed_sorted : (t : Term) → is_well_sorted cs [] t ≡ true → is_well_sorted cs bound t ≡ true
    closed_sorted (Bound k) h = absurd (none_below k h)
    closed_sorted (App f ts) h =
        let p = and_both (takes cs f (sorts_of cs [] ts)) (are_well_sorted cs [] ts) h in
        ap (λ ss. takes cs f ss && are_well_sorted cs bound ts) (closed_sorts ts p.1)
        ∙ ap (λ b. b && are_well_sorted cs bound ts) p.0
        ∙ all_closed_sorted ts p.1

    all_closed_sorted : (ts : Terms) → are_well_sorted cs [] ts ≡ true → are_well_sorted cs bound ts ≡ true
    all_closed_sorted no_terms h = refl
    all_closed_sorted (term_then t ts) h =
        let p = and_both (is_well_sorted cs [] t) (are_well_sorted cs [] ts) h in
        ap (λ b. b && are_well_sorted cs bound ts) (closed_sorted t p.0) ∙ all_closed_sorted ts p.1

    closed_sorts : (ts : Terms) → are_well_sorted cs [] ts ≡ true → sorts_of cs bound ts ≡ sorts_of cs [] ts
    closed_sorts no_terms h = refl
    closed_sorts (term_then t ts) h =
        let p = and_both (is_well_sorted cs [] t) (are_well_sorted cs [] ts) h in
        ap (λ s. s ∷ sorts_of cs bound ts) (closed_sort t p.0) ∙ ap (λ ss. sort_of cs [] t ∷ ss) (closed_sorts ts p.1)

pub list_back : (ts : List Term) → term_list (terms_from ts) ≡ ts
list_back [] = refl
list_back (t ∷ ts) = ap (λ us. t ∷ us) (list_back ts)
