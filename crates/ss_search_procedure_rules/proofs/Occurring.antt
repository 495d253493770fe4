-- What occurs in fewer formulas occurs in more.
use Rattle.std.proofs.Common.{◌≡◌, ℕ, suc, ◌+◌, ◌<◌, ◌≤◌, List, [], ◌∷◌, ◌++◌, Bool, true, false, if◌then◌else◌, refl, sym, ap, subst, inl, inr, ◌⊎◌, ⊎_elim, arith}
use Rattle.std.specs.Prelude.{flat_map}
use Rattle.std.specs.List.{Contains, list_any}
use Rattle.std.proofs.lemmas.List.Elements.{Contains-append_left, Contains-append_right, Contains-append_cases, Contains-push, Contains-push_cases}
use Rattle.ss_logic.specs.Terms.{Term, Bound, App, Terms, no_terms, term_then}
use Rattle.ss_logic.specs.Formulas.{Formula, Literal, And, Or, Forall, Exists}
use Rattle.ss_logic.specs.Equal.{same_term, equal_terms, same_formula, equal_formulas}
use Rattle.ss_logic.specs.Occurring.{with_formula, with_formulas, with_term, with_arguments, with_terms_of, with_terms_of_all}
use Rattle.ss_logic.specs.Includes.{Includes}
use Rattle.ss_logic.proofs.Lists.{contains_head, contains_cons, contains_split, contains_none, any_at, flat_from, flat_to}

-- ---- formulas, each once

old_or_new : (found : List Formula) (g f : Formula) (b : Bool) → Contains (if b then found else found ++ g ∷ []) f → Contains found f ⊎ (g ≡ f)
old_or_new found g f true h = inl h
old_or_new found g f false h = Contains-push_cases found g f h

pub from_formulas : (xs found : List Formula) (f : Formula) → Contains (with_formulas found xs) f → Contains found f ⊎ Contains xs f
from_formulas [] found f h = inl h
from_formulas (x ∷ xs) found f h = ⊎_elim
    (λ a. ⊎_elim (λ b. inl b) (λ e. inr (subst (Contains (x ∷ xs)) e (contains_head x xs))) (old_or_new found x f (list_any (same_formula x) found) a))
    (λ b. inr (contains_cons x xs f b))
    (from_formulas xs (with_formula found x) f h)

stays : (found : List Formula) (g f : Formula) (b : Bool) → Contains found f → Contains (if b then found else found ++ g ∷ []) f
stays found g f true h = h
stays found g f false h = Contains-append_left found (g ∷ []) f h

is_there : (found : List Formula) (g : Formula) (b : Bool) → (b ≡ true → Contains found g) → Contains (if b then found else found ++ g ∷ []) g
is_there found g true h = h refl
is_there found g false h = Contains-push found g

among : (found : List Formula) (g : Formula) → list_any (same_formula g) found ≡ true → Contains found g
among found g t = let r = any_at (same_formula g) found t in subst (Contains found) (sym (equal_formulas g r.0 r.2)) r.1

pub to_formulas : (xs found : List Formula) (f : Formula) → Contains found f ⊎ Contains xs f → Contains (with_formulas found xs) f
to_formulas [] found f h = ⊎_elim (λ a. a) (λ b. absurd (contains_none f b)) h
to_formulas (x ∷ xs) found f h = to_formulas xs (with_formula found x) f (⊎_elim
    (λ a. inl (stays found x f (list_any (same_formula x) found) a))
    (λ b. ⊎_elim
    (λ e. inl (subst (Contains (with_formula found x)) e (is_there found x (list_any (same_formula x) found) (among found x))))
    (λ k. inr k)
    (contains_split x xs f b))
    h)

pub from_collected : (h : Formula → List Formula) (fs : List Formula) (g : Formula) → Contains (with_formulas [] (flat_map h fs)) g → (f : Formula) × Contains fs f × Contains (h f) g
from_collected h fs g k = ⊎_elim (λ a. absurd (contains_none g a)) (λ b. flat_from h fs g b) (from_formulas (flat_map h fs) [] g k)

pub to_collected : (h : Formula → List Formula) (fs : List Formula) (f g : Formula) → Contains fs f → Contains (h f) g → Contains (with_formulas [] (flat_map h fs)) g
to_collected h fs f g a b = to_formulas (flat_map h fs) [] g (inr (flat_to h fs f g a b))

-- ---- terms

abbrev mutual
  pub subterms : Term → List Term
  subterms (Bound k) = []
  subterms (App f ts) = App f ts ∷ all_subterms ts

  pub all_subterms : Terms → List Term
  all_subterms no_terms = []
  all_subterms (term_then t ts) = subterms t ++ all_subterms ts

abbrev mutual
  size : Term → ℕ
  size (Bound k) = 1
  size (App f ts) = suc (sizes ts)

  sizes : Terms → ℕ
  sizes no_terms = 0
  sizes (term_then t ts) = size t + sizes ts

mutual
  small : (t x : Term) → Contains (subterms t) x → size x ≤ size t
  small (Bound k) x h = absurd (contains_none x h)
  small (App f ts) x h = ⊎_elim (λ e. let s = ap size e in omega (arith, s)) (λ k. let s = all_small ts x k in omega (arith, s)) (contains_split (App f ts) (all_subterms ts) x h)

  all_small : (ts : Terms) (x : Term) → Contains (all_subterms ts) x → size x ≤ sizes ts
  all_small no_terms x h = absurd (contains_none x h)
  all_small (term_then t ts) x h = ⊎_elim (λ k. let s = small t x k in omega (arith, s)) (λ k. let s = all_small ts x k in omega (arith, s)) (Contains-append_cases (subterms t) (all_subterms ts) x h)

from_new : (t : Term) (ts : Terms) (found : List Term) (x : Term) (b : Bool) → (Contains (with_arguments (found ++ t ∷ []) ts) x → Contains (found ++ t ∷ []) x ⊎ Contains (all_subterms ts) x) →
    Contains (if b then found else with_arguments (found ++ t ∷ []) ts) x → Contains found x ⊎ Contains (t ∷ all_subterms ts) x
from_new t ts found x true g h = inl h
from_new t ts found x false g h = ⊎_elim
    (λ a. ⊎_elim (λ b. inl b) (λ e. inr (subst (Contains (t ∷ all_subterms ts)) e (contains_head t (all_subterms ts)))) (Contains-push_cases found t x a))
    (λ b. inr (contains_cons t (all_subterms ts) x b))
    (g h)

mutual
  from_term : (t : Term) (found : List Term) (x : Term) → Contains (with_term found t) x → Contains found x ⊎ Contains (subterms t) x
  from_term (Bound k) found x h = inl h
  from_term (App f ts) found x h = from_new (App f ts) ts found x (list_any (same_term (App f ts)) found) (from_arguments ts (found ++ App f ts ∷ []) x) h

  from_arguments : (ts : Terms) (found : List Term) (x : Term) → Contains (with_arguments found ts) x → Contains found x ⊎ Contains (all_subterms ts) x
  from_arguments no_terms found x h = inl h
  from_arguments (term_then t ts) found x h = ⊎_elim
      (λ a. ⊎_elim (λ b. inl b) (λ b. inr (Contains-append_left (subterms t) (all_subterms ts) x b)) (from_term t found x a))
      (λ b. inr (Contains-append_right (subterms t) (all_subterms ts) x b))
      (from_arguments ts (with_term found t) x h)

-- each term smaller than this has its subterms there
abbrev Full : ℕ → List Term → Type 0
Full m found = (u : Term) → Contains found u → size u < m → Includes found (subterms u)

record Grows (m : ℕ) (found more new : List Term) : Type 0 where
  full : Full m more
  has : Includes more new
  keeps : Includes more found

term_there : (found : List Term) (t : Term) → list_any (same_term t) found ≡ true → Contains found t
term_there found t e = let r = any_at (same_term t) found e in subst (Contains found) (sym (equal_terms t r.0 r.2)) r.1

module _ (t : Term) (ts : Terms) (is : subterms t ≡ t ∷ all_subterms ts) (bigger : size t ≡ suc (sizes ts)) (found : List Term) (m : ℕ) (in_m : size t < m) (full : Full m found) where
  full_with : Full (size t) (found ++ t ∷ [])
  full_with u h s = ⊎_elim
      (λ a x k. Contains-append_left found (t ∷ []) x (full u a (omega (arith, s, in_m)) x k))
      (λ e. let z = ap size e in absurd (omega (arith, z, s)))
      (Contains-push_cases found t u h)

  full_after : Grows (size t) (found ++ t ∷ []) (with_arguments (found ++ t ∷ []) ts) (all_subterms ts) → Grows m found (with_arguments (found ++ t ∷ []) ts) (subterms t)
  full_after g = record { full = whole; has = subst (Includes more) (sym is) with_all; keeps = λ x h. g.keeps x (Contains-append_left found (t ∷ []) x h) }
    where
      more : List Term
      more = with_arguments (found ++ t ∷ []) ts

      with_all : Includes (with_arguments (found ++ t ∷ []) ts) (t ∷ all_subterms ts)
      with_all x h = ⊎_elim (λ e. subst (Contains (with_arguments (found ++ t ∷ []) ts)) e (g.keeps t (Contains-push found t))) (λ k. g.has x k) (contains_split t (all_subterms ts) x h)

      whole : Full m (with_arguments (found ++ t ∷ []) ts)
      whole u h s = ⊎_elim
          (λ a. ⊎_elim
          (λ b x k. g.keeps x (Contains-append_left found (t ∷ []) x (full u b s x k)))
          (λ e. subst (λ w. Includes (with_arguments (found ++ t ∷ []) ts) (subterms w)) e (subst (Includes (with_arguments (found ++ t ∷ []) ts)) (sym is) with_all))
          (Contains-push_cases found t u a))
          (λ b. let z = all_small ts u b in g.full u h (omega (arith, z, bigger)))
          (from_arguments ts (found ++ t ∷ []) u h)

  grown : (b : Bool) → (b ≡ true → Contains found t) → ((n : ℕ) → sizes ts < n → Full n (found ++ t ∷ []) → Grows n (found ++ t ∷ []) (with_arguments (found ++ t ∷ []) ts) (all_subterms ts)) →
      Grows m found (if b then found else with_arguments (found ++ t ∷ []) ts) (subterms t)
  grown true there rest = record { full = full; has = full t (there refl) in_m; keeps = λ x h. h }
  grown false there rest = full_after (rest (size t) (omega (arith, bigger)) full_with)

mutual
  term_grows : (t : Term) (found : List Term) (m : ℕ) → size t < m → Full m found → Grows m found (with_term found t) (subterms t)
  term_grows (Bound k) found m s h = record { full = h; has = λ x e. absurd (contains_none x e); keeps = λ x e. e }
  term_grows (App f ts) found m s h = grown (App f ts) ts refl refl found m s h (list_any (same_term (App f ts)) found) (term_there found (App f ts)) (arguments_grow ts (found ++ App f ts ∷ []))

  arguments_grow : (ts : Terms) (found : List Term) (m : ℕ) → sizes ts < m → Full m found → Grows m found (with_arguments found ts) (all_subterms ts)
  arguments_grow no_terms found m s h = record { full = h; has = λ x e. absurd (contains_none x e); keeps = λ x e. e }
  arguments_grow (term_then t ts) found m s h =
      let a = term_grows t found m (omega (arith, s)) h in
      let b = arguments_grow ts (with_term found t) m (omega (arith, s)) a.full in
      record {
        full = b.full;
        has = λ x k. ⊎_elim (λ l. b.keeps x (a.has x l)) (λ r. b.has x r) (Contains-append_cases (subterms t) (all_subterms ts) x k);
        keeps = λ x k. b.keeps x (a.keeps x k);
      }

-- ---- the terms of atoms

abbrev pub terms_in : Formula → List Term
terms_in (Literal sign p ts) = all_subterms ts
terms_in (And fs) = []
terms_in (Or fs) = []
terms_in (Forall ss f) = []
terms_in (Exists ss f) = []

from_one : (f : Formula) (found : List Term) (x : Term) → Contains (with_terms_of found f) x → Contains found x ⊎ Contains (terms_in f) x
from_one (Literal sign p ts) found x h = from_arguments ts found x h
from_one (And fs) found x h = inl h
from_one (Or fs) found x h = inl h
from_one (Forall ss f) found x h = inl h
from_one (Exists ss f) found x h = inl h

pub from_all : (fs : List Formula) (found : List Term) (x : Term) → Contains (with_terms_of_all found fs) x → Contains found x ⊎ ((f : Formula) × Contains fs f × Contains (terms_in f) x)
from_all [] found x h = inl h
from_all (f ∷ fs) found x h = ⊎_elim
    (λ a. ⊎_elim (λ b. inl b) (λ b. inr (f, contains_head f fs, b)) (from_one f found x a))
    (λ r. inr (r.0, contains_cons f fs r.0 r.1, r.2))
    (from_all fs (with_terms_of found f) x h)

one_grows : (f : Formula) (found : List Term) → ((m : ℕ) → Full m found) → ((m : ℕ) → Full m (with_terms_of found f)) × Includes (with_terms_of found f) (terms_in f) × Includes (with_terms_of found f) found
one_grows (Literal sign p ts) found h =
    let g = arguments_grow ts found (suc (sizes ts)) (omega arith) (h (suc (sizes ts))) in
    (λ m. full_at ts found h m, g.has, g.keeps)
  where
    full_at : (ts : Terms) (found : List Term) → ((m : ℕ) → Full m found) → (m : ℕ) → Full m (with_arguments found ts)
    full_at ts found h m u k s = (arguments_grow ts found (suc (sizes ts + m)) (omega arith) (h (suc (sizes ts + m)))).full u k (omega (arith, s))
one_grows (And fs) found h = (h, λ x e. absurd (contains_none x e), λ x e. e)
one_grows (Or fs) found h = (h, λ x e. absurd (contains_none x e), λ x e. e)
one_grows (Forall ss f) found h = (h, λ x e. absurd (contains_none x e), λ x e. e)
one_grows (Exists ss f) found h = (h, λ x e. absurd (contains_none x e), λ x e. e)

all_grow : (fs : List Formula) (found : List Term) → ((m : ℕ) → Full m found) → ((f : Formula) → Contains fs f → Includes (with_terms_of_all found fs) (terms_in f)) × Includes (with_terms_of_all found fs) found
all_grow [] found h = (λ f k. absurd (contains_none f k), λ x e. e)
all_grow (f ∷ fs) found h =
    let a = one_grows f found h in
    let b = all_grow fs (with_terms_of found f) a.0 in (
      λ g k. ⊎_elim (λ e x l. b.1 x (a.1 x (subst (λ w. Contains (terms_in w) x) (sym e) l))) (λ l. b.0 g l) (contains_split f fs g k),
      λ x k. b.1 x (a.2 x k),
    )

nothing_full : (m : ℕ) → Full m []
nothing_full m u h s = absurd (contains_none u h)

-- the terms of more atoms
pub terms_of_more : (fs gs : List Formula) → Includes gs fs → Includes (with_terms_of_all [] gs) (with_terms_of_all [] fs)
terms_of_more fs gs i x h = ⊎_elim
    (λ a. absurd (contains_none x a))
    (λ r. (all_grow gs [] nothing_full).0 r.0 (i r.0 r.1) x r.2)
    (from_all fs [] x h)

-- the terms of an atom are among those of all atoms
pub all_there : (gs : List Formula) (g : Formula) → Contains gs g → (x : Term) → Contains (terms_in g) x → Contains (with_terms_of_all [] gs) x
all_there gs g c x h = (all_grow gs [] nothing_full).0 g c x h
