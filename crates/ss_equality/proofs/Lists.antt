-- Lists of users, as a vector of vectors.
use Rattle.std.proofs.Common.{◌≡◌, ℕ, zero, suc, ◌<◌, ◌≤◌, List, [], ◌∷◌, ◌++◌, length, Result, Ok, Err, refl, sym, ◌∙◌, ap, subst, ⊎_elim, get_or, set, length-set, arith}
use Rattle.std.specs.Prelude.{Vec, OnErr}
use Rattle.std.specs.declared.alloc.Global.{Global}
use Rattle.std.proofs.lemmas.List.{map-set, map_push, get_or-map, set-get_or, length-map, get_or-set_same, get_or-set_other, set_past}
use Rattle.std.proofs.lemmas.Bool.{cases_lt, cases_eq}
use Rattle.ss_terms.specs.declared.forms.TermId.{TermId}
use Rattle.ss_terms.specs.Forms.{TermShape, BoundShape, AppShape, AreTermsBelow, TermBelow}
use Rattle.ss_equality_rules.specs.Names.{Has}
use Rattle.ss_equality_rules.proofs.Lists.{has_left, has_last}
use Rattle.ss_equality_rules.specs.Classes.{lists_of}

pub list_at : (vs : List (Vec ℕ Global)) (k : ℕ) (v : Vec ℕ Global) → k < length vs → v ≡ get_or vs k v → v.items ≡ get_or (lists_of vs) k []
list_at vs k v h e = ap (λ z. z.items) e ∙ sym (get_or-map (λ z. z.items) vs k v [] h)

pub changed_list : (vs : List (Vec ℕ Global)) (k : ℕ) (v w : Vec ℕ Global) (g : List ℕ → List ℕ) → k < length vs → v ≡ get_or vs k v → w.items ≡ g v.items →
    lists_of (set vs k w) ≡ set (lists_of vs) k (g (get_or (lists_of vs) k []))
changed_list vs k v w g h e items = map-set (λ z. z.items) vs k w ∙ ap (set (lists_of vs) k) (items ∙ ap g (list_at vs k v h e))

pub unchanged_list : (vs : List (Vec ℕ Global)) (k : ℕ) (v w : Vec ℕ Global) → k < length vs → v ≡ get_or vs k v → w.items ≡ v.items → lists_of (set vs k w) ≡ lists_of vs
unchanged_list vs k v w h e items = changed_list vs k v w (λ l. l) h e items ∙ set-get_or (lists_of vs) k []

pub lists_long : (vs : List (Vec ℕ Global)) → length (lists_of vs) ≡ length vs
lists_long vs = length-map vs (λ v. v.items)

pub unchanged_in_err : {T E : Type 0} (r : Result T E) (vs : List (Vec ℕ Global)) (k : ℕ) (v w : Vec ℕ Global) → k < length vs → v ≡ get_or vs k v → w.items ≡ v.items → OnErr r (lists_of (set vs k w) ≡ lists_of vs)
unchanged_in_err (Ok t) vs k v w h e items = tt
unchanged_in_err (Err z) vs k v w h e items = unchanged_list vs k v w h e items

-- ---- one more user

module _ (us us' : List (List ℕ)) (k u : ℕ) (added : us' ≡ set us k (get_or us k [] ++ u ∷ [])) where
  pub added_keeps : (r w : ℕ) → Has (get_or us r []) w → Has (get_or us' r []) w
  added_keeps r w h = subst (λ xs. Has (get_or xs r []) w) (sym added) (⊎_elim
      (λ same. ⊎_elim
      (λ inside. subst (λ l. Has l w) (sym (ap (λ z. get_or (set us k (get_or us k [] ++ u ∷ [])) z []) same ∙ get_or-set_same us k (get_or us k [] ++ u ∷ []) [] inside)) (has_left (get_or us k []) (u ∷ []) w (subst (λ z. Has (get_or us z []) w) same h)))
      (λ past. subst (λ xs. Has (get_or xs r []) w) (sym (set_past us k (get_or us k [] ++ u ∷ []) past)) h)
      (cases_lt k (length us)))
      (λ other. subst (λ l. Has l w) (sym (get_or-set_other us k r (get_or us k [] ++ u ∷ []) [] other)) h)
      (cases_eq r k))

  pub added_has : k < length us → Has (get_or us' k []) u
  added_has inside = subst (λ xs. Has (get_or xs k []) u) (sym added) (subst (λ l. Has l u) (sym (get_or-set_same us k (get_or us k [] ++ u ∷ []) [] inside)) (has_last (get_or us k []) u))

pub added_long : (vs vs' : List (Vec ℕ Global)) (k : ℕ) (l : List ℕ) → lists_of vs' ≡ set (lists_of vs) k l → length vs' ≡ length vs
added_long vs vs' k l e = sym (lists_long vs') ∙ ap length e ∙ length-set (lists_of vs) k l ∙ lists_long vs

pub terms_below_at : (n : ℕ) (ts : List TermId) → AreTermsBelow n ts → (i : ℕ) (d : TermId) → i < length ts → (get_or ts i d).0 < n
terms_below_at n [] b i d h = absurd (omega (arith, h))
terms_below_at n (t ∷ ts) b zero d h = b.0
terms_below_at n (t ∷ ts) b (suc i) d h = terms_below_at n ts b.1 i d (omega (arith, h))

pub terms_upward : (i j : ℕ) → i ≤ j → (ts : List TermId) → AreTermsBelow i ts → AreTermsBelow j ts
terms_upward i j l [] b = tt
terms_upward i j l (t ∷ ts) b = (omega (arith, l, b.0), terms_upward i j l ts b.1)

pub form_upward : (i j : ℕ) → i ≤ j → (n : TermShape) → TermBelow i n → TermBelow j n
form_upward i j l (BoundShape k) b = tt
form_upward i j l (AppShape f ts) b = terms_upward i j l ts b

pub no_users_pushed : (us : List (List ℕ)) (r : ℕ) → get_or (us ++ [] ∷ []) r [] ≡ get_or us r []
no_users_pushed [] zero = refl
no_users_pushed [] (suc r) = refl
no_users_pushed (l ∷ us) zero = refl
no_users_pushed (l ∷ us) (suc r) = no_users_pushed us r

pub list_pushed : (vs vs' : List (Vec ℕ Global)) (v : Vec ℕ Global) → vs' ≡ vs ++ v ∷ [] → v.items ≡ [] → lists_of vs' ≡ lists_of vs ++ [] ∷ []
list_pushed vs vs' v e none = ap lists_of e ∙ map_push (λ z. z.items) vs v ∙ ap (λ l. lists_of vs ++ l ∷ []) none
