-- What stands for the bound names of a trigger where it matches.
use Rattle.std.proofs.Common.{◌≡◌, ℕ, zero, suc, ◌<◌, ◌≤◌, List, [], ◌∷◌, length, Bool, true, false, Option, Some, None, refl, sym, ◌∙◌, ap, subst, ⊎_elim, arith}
use Rattle.std.specs.Prelude.{slice_get, slice_set, if◌then◌else◌}
use Rattle.std.specs.List.{list_any}
use Rattle.std.proofs.lemmas.Bool.{and_parts, cases_lt}
use Rattle.ss_logic.specs.Terms.{Term, Bound, App, Terms, no_terms, term_then, term_list}
use Rattle.ss_logic.specs.Equal.{same_term, equal_terms, same_symbol}
use Rattle.ss_logic.proofs.Options.{if_some, and_then_some}
use Rattle.ss_logic.specs.Matching.{is_bound, has_bound, with_found, matched, all_matched}

pub none_is : {A P : Type 0} (x : A) → None ≡ Some x → P
none_is x e = absurd (let no : ⊥ = cc in no)

pub some_is : {A : Type 0} (x y : A) → Some x ≡ Some y → x ≡ y
some_is x y e = cc

-- ---- places of a list

set_count : {A : Type 0} (xs : List A) (k : ℕ) (v : A) → length (slice_set xs k v) ≡ length xs
set_count [] k v = refl
set_count (x ∷ xs) zero v = refl
set_count (x ∷ xs) (suc k) v = ap suc (set_count xs k v)

set_there : {A : Type 0} (xs : List A) (k : ℕ) (x v : A) → slice_get xs k ≡ Some x → slice_get (slice_set xs k v) k ≡ Some v
set_there [] k x v e = none_is x e
set_there (y ∷ xs) zero x v e = refl
set_there (y ∷ xs) (suc k) x v e = set_there xs k x v e

-- what differs from what stood there stands elsewhere
set_elsewhere : {A : Type 0} (xs : List A) (k j : ℕ) (x y v : A) → (x ≡ y → ⊥) → slice_get xs k ≡ Some x → slice_get xs j ≡ Some y → slice_get (slice_set xs k v) j ≡ Some y
set_elsewhere [] k j x y v n e f = none_is x e
set_elsewhere (z ∷ xs) zero zero x y v n e f = absurd (n (some_is x y (sym e ∙ f)))
set_elsewhere (z ∷ xs) zero (suc j) x y v n e f = f
set_elsewhere (z ∷ xs) (suc k) zero x y v n e f = f
set_elsewhere (z ∷ xs) (suc k) (suc j) x y v n e f = set_elsewhere xs k j x y v n e f

-- ---- matching keeps what stands for a bound name

-- the term stands for the bound name
abbrev pub Stands : List (Option Term) → ℕ → Term → Type 0
Stands found k u = slice_get found k ≡ Some (Some u)

pub record Goes (found more : List (Option Term)) : Type 0 where
  pub count : length more ≡ length found
  pub keeps : (k : ℕ) (u : Term) → Stands found k u → Stands more k u

stays : (found : List (Option Term)) → Goes found found
stays found = record { count = refl; keeps = λ k u h. h }

goes_on : (found more all : List (Option Term)) → Goes found more → Goes more all → Goes found all
goes_on found more all g h = record { count = h.count ∙ g.count; keeps = λ k u s. h.keeps k u (g.keeps k u s) }

not_there : (u : Term) → ◌≡◌ {A = Option Term} None (Some u) → ⊥
not_there u e = cc

with_found_goes : (found more : List (Option Term)) (k : ℕ) (t : Term) (o : Option (Option Term)) → slice_get found k ≡ o → with_found found k t o ≡ Some more → Goes found more × Stands more k t
with_found_goes found more k t (Some None) at e =
    let same : slice_set found k (Some t) ≡ more = some_is (slice_set found k (Some t)) more e in
    subst (λ xs. Goes found xs × Stands xs k t) same (
      record { count = set_count found k (Some t); keeps = λ j u h. set_elsewhere found k j None (Some u) (Some t) (not_there u) at h },
      set_there found k None (Some t) at,
    )
with_found_goes found more k t (Some (Some u)) at e = by (same_term t u) refl e
  where
    by : (b : Bool) → same_term t u ≡ b → (if b then Some found else None) ≡ Some more → Goes found more × Stands more k t
    by true s e =
        let same : found ≡ more = some_is found more e in
        subst (λ xs. Goes found xs × Stands xs k t) same (stays found, at ∙ ap (λ x. Some (Some x)) (sym (equal_terms t u s)))
    by false s e = none_is more e
with_found_goes found more k t None at e = none_is more e

matched_bound : (found more : List (Option Term)) (k : ℕ) (t : Term) → matched found (Bound k) t ≡ Some more → Goes found more × Stands more k t
matched_bound found more k t e = with_found_goes found more k t (slice_get found k) refl e

mutual
  matched_goes : (found : List (Option Term)) (p t : Term) (more : List (Option Term)) → matched found p t ≡ Some more → Goes found more
  matched_goes found (Bound k) t more e = (matched_bound found more k t e).0
  matched_goes found (App f ts) (App g us) more e = all_matched_goes found ts us more (if_some (same_symbol f g) (all_matched found ts us) more e).1
  matched_goes found (App f ts) (Bound k) more e = none_is more e

  all_matched_goes : (found : List (Option Term)) (ts us : Terms) (more : List (Option Term)) → all_matched found ts us ≡ Some more → Goes found more
  all_matched_goes found no_terms no_terms more e = subst (Goes found) (some_is found more e) (stays found)
  all_matched_goes found (term_then t ts) (term_then u us) more e =
      let r = and_then_some (λ (next : List (Option Term)). all_matched next ts us) (matched found t u) more e in
      goes_on found r.0 more (matched_goes found t u r.0 r.1) (all_matched_goes r.0 ts us more r.2)
  all_matched_goes found no_terms (term_then u us) more e = none_is more e
  all_matched_goes found (term_then t ts) no_terms more e = none_is more e

-- ---- the bound names among arguments that match

-- where the argument is a bound name, this term stands for it
abbrev StandsFor : List (Option Term) → Term → Term → Type 0
StandsFor found (Bound k) u = Stands found k u
StandsFor found (App f ts) u = Unit {0}

abbrev pub AllStand : List (Option Term) → Terms → Terms → Type 0
AllStand found no_terms no_terms = Unit {0}
AllStand found no_terms (term_then u us) = ⊥
AllStand found (term_then t ts) no_terms = ⊥
AllStand found (term_then t ts) (term_then u us) = StandsFor found t u × AllStand found ts us

first_stands : (found more all : List (Option Term)) (t u : Term) → matched found t u ≡ Some more → Goes more all → StandsFor all t u
first_stands found more all (Bound k) u e g = g.keeps k u (matched_bound found more k u e).1
first_stands found more all (App f ts) u e g = tt

pub all_stand : (found : List (Option Term)) (ts us : Terms) (all : List (Option Term)) → all_matched found ts us ≡ Some all → Goes found all × AllStand all ts us
all_stand found no_terms no_terms all e = (subst (Goes found) (some_is found all e) (stays found), tt)
all_stand found (term_then t ts) (term_then u us) all e =
    let r = and_then_some (λ (next : List (Option Term)). all_matched next ts us) (matched found t u) all e in
    let rest = all_stand r.0 ts us all r.2 in
    (goes_on found r.0 all (matched_goes found t u r.0 r.1) rest.0, (first_stands found r.0 all t u r.1 rest.0, rest.1))
all_stand found no_terms (term_then u us) all e = none_is all e
all_stand found (term_then t ts) no_terms all e = none_is all e

pub bound_there : (n : ℕ) (ts : Terms) → has_bound n ts ≡ true → (k : ℕ) → k < n → list_any (is_bound k) (term_list ts) ≡ true
bound_there zero ts h k l = absurd (omega (arith, l))
bound_there (suc n) ts h k l =
    let p = and_parts (list_any (is_bound n) (term_list ts)) (has_bound n ts) h in
    ⊎_elim
    (λ (a : k < n). bound_there n ts p.1 k a)
    (λ (a : n ≤ k). let e : n ≡ k = omega (arith, a, l) in subst (λ j. list_any (is_bound j) (term_list ts) ≡ true) e p.0)
    (cases_lt k n)
