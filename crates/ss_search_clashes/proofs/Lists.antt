-- Elements of lists.
use Rattle.std.proofs.Common.{◌≡◌, ℕ, zero, suc, ◌≤◌, List, [], ◌∷◌, ◌++◌, length, take, drop, Some, refl, sym, ◌∙◌, ap, subst, inl, inr, ◌⊎◌, ⊎_elim, arith, append_assoc}
use Rattle.std.specs.Prelude.{slice_get}
use Rattle.std.proofs.lemmas.List.{take_all}
use Rattle.ss_terms.specs.declared.forms.TermId.{TermId}
use Rattle.ss_equality_rules.specs.Names.{Has}
use Rattle.ss_search_clashes.specs.Ways.{each_pair}
use Rattle.ss_equality_rules.proofs.Lists.{has_left, has_right, has_more, has_cases, has_none}

pub has_append : {A : Type 0} (xs ys : List A) (x : A) → Has (xs ++ ys) x → Has xs x ⊎ Has ys x
has_append [] ys x h = inr h
has_append (z ∷ xs) ys x h = ⊎_elim
    (λ a. ⊎_elim (λ l. inl (has_more z xs x l)) (λ r. inr r) (has_append xs ys x a))
    (λ is. inl (record { at = 0; is = ap Some is }))
    (has_cases z (xs ++ ys) x h)

pub one_there : {A : Type 0} (xs : List A) (i : ℕ) (x y : A) → slice_get xs i ≡ Some x → slice_get xs i ≡ Some y → x ≡ y
one_there xs i x y a b = let both : Some x ≡ Some y = sym a ∙ b in cc

pub nothing_after : {A : Type 0} (xs : List A) → xs ++ [] ≡ xs
nothing_after [] = refl
nothing_after (x ∷ xs) = ap (λ ys. x ∷ ys) (nothing_after xs)

-- what was written back into a whole list is the list
pub written_whole : {A : Type 0} (n : ℕ) (xs old : List A) → n ≡ length xs → take n (xs ++ drop (length xs) old) ≡ xs
written_whole n xs old e = ap (λ k. take k (xs ++ drop (length xs) old)) e ∙ front xs (drop (length xs) old)
  where
    front : {A : Type 0} (xs ys : List A) → take (length xs) (xs ++ ys) ≡ xs
    front [] ys = refl
    front (x ∷ xs) ys = ap (λ zs. x ∷ zs) (front xs ys)

-- ---- two lists, pair by pair

module _ {A : Type 0} (f : TermId → TermId → List A) where
  pub pairs_next : (i : ℕ) (xs ys : List TermId) (x y : TermId) → slice_get xs i ≡ Some x → slice_get ys i ≡ Some y →
      each_pair f (take (suc i) xs) (take (suc i) ys) ≡ each_pair f (take i xs) (take i ys) ++ f x y
  pairs_next i [] ys x y p q = cc
  pairs_next i (a ∷ xs) [] x y p q = cc
  pairs_next zero (a ∷ xs) (c ∷ ys) x y p q = let one : a ≡ x = cc in let two : c ≡ y = cc in nothing_after (f a c) ∙ ap (λ z. f z c) one ∙ ap (f x) two
  pairs_next (suc i) (a ∷ xs) (c ∷ ys) x y p q = ap (λ zs. f a c ++ zs) (pairs_next i xs ys x y p q) ∙ sym (append_assoc (f a c) (each_pair f (take i xs) (take i ys)) (f x y))

  pub pairs_all : (xs ys : List TermId) (n : ℕ) → length xs ≤ n → length xs ≡ length ys → each_pair f (take n xs) (take n ys) ≡ each_pair f xs ys
  pairs_all xs ys n h l = ap (λ zs. each_pair f zs (take n ys)) (take_all n xs h) ∙ ap (each_pair f xs) (take_all n ys (omega (arith, h, l)))

  -- where something of a pair is
  pub record IsOfPair (xs ys : List TermId) (z : A) : Type 0 where
    pub at : ℕ
    pub left : TermId
    pub right : TermId
    pub at_left : slice_get xs at ≡ Some left
    pub at_right : slice_get ys at ≡ Some right
    pub has : Has (f left right) z

  pub of_pair : (xs ys : List TermId) (z : A) → Has (each_pair f xs ys) z → IsOfPair xs ys z
  of_pair [] ys z h = absurd (has_none z h)
  of_pair (x ∷ xs) [] z h = absurd (has_none z h)
  of_pair (x ∷ xs) (y ∷ ys) z h = ⊎_elim
      (λ here. record { at = 0; left = x; right = y; at_left = refl; at_right = refl; has = here })
      (λ there. let p = of_pair xs ys z there in record { at = suc p.at; left = p.left; right = p.right; at_left = p.at_left; at_right = p.at_right; has = p.has })
      (has_append (f x y) (each_pair f xs ys) z h)

  pub has_pair : (i : ℕ) (xs ys : List TermId) (x y : TermId) (z : A) → slice_get xs i ≡ Some x → slice_get ys i ≡ Some y → Has (f x y) z → Has (each_pair f xs ys) z
  has_pair i [] ys x y z p q h = cc
  has_pair i (a ∷ xs) [] x y z p q h = cc
  has_pair zero (a ∷ xs) (c ∷ ys) x y z p q h = let one : x ≡ a = cc in let two : y ≡ c = cc in has_left (f a c) (each_pair f xs ys) z (subst (λ u. Has (f u c) z) one (subst (λ u. Has (f x u) z) two h))
  has_pair (suc i) (a ∷ xs) (c ∷ ys) x y z p q h = has_right (f a c) (each_pair f xs ys) z (has_pair i xs ys x y z p q h)
