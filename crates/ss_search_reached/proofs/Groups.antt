-- Terms in groups by their classes, and pairs of them.
use Rattle.std.proofs.Common.{◌≡◌, ℕ, zero, suc, ◌+◌, ◌<◌, ◌≤◌, List, [], ◌∷◌, ◌++◌, length, take, set, get_or, refl, sym, ◌∙◌, ap, subst, inl, inr, ◌⊎◌, ⊎_elim, arith}
use Rattle.std.specs.Prelude.{Vec}
use Rattle.std.specs.List.{Contains}
use Rattle.std.specs.declared.alloc.Global.{Global}
use Rattle.std.proofs.lemmas.Bool.{cases_eq, cases_lt}
use Rattle.std.proofs.lemmas.List.{map-set, map_push, get_or-map, get_or-set_same, get_or-set_other, take_more, take_all}
use Rattle.std.proofs.lemmas.List.Elements.{Contains-append_left, Contains-append_right, Contains-append_cases}
use Rattle.ss_terms.specs.declared.forms.TermId.{TermId}
use Rattle.ss_equality_rules.specs.Equal.{class_number}
use Rattle.ss_logic.specs.Includes.{Includes}
use Rattle.ss_logic.proofs.Lists.{contains_none}
use Rattle.ss_linear.specs.Contradictions.{Pairs}
use Rattle.ss_search_reached.specs.Groups.{lists_in, group_at, AreGrouped, ArePaired, ArePairs, ArePairsBelow}
use Rattle.ss_search_reached.proofs.Lists.{single}

-- ---- groups

pub list_at : (vs : List (Vec TermId Global)) (k : ℕ) (v : Vec TermId Global) → k < length vs → v ≡ get_or vs k v → v.items ≡ get_or (lists_in vs) k []
list_at vs k v h e = ap (λ z. z.items) e ∙ sym (get_or-map (λ z. z.items) vs k v [] h)

pub put_at : (vs : List (Vec TermId Global)) (k : ℕ) (v w : Vec TermId Global) (t : TermId) → k < length vs → v ≡ get_or vs k v → w.items ≡ v.items ++ t ∷ [] → lists_in (set vs k w) ≡ set (lists_in vs) k (get_or (lists_in vs) k [] ++ t ∷ [])
put_at vs k v w t h e items = map-set (λ z. z.items) vs k w ∙ ap (set (lists_in vs) k) (items ∙ ap (λ l. l ++ t ∷ []) (list_at vs k v h e))

-- an empty group at the end
none_pushed : (gs : List (List TermId)) (k : ℕ) → get_or (gs ++ [] ∷ []) k [] ≡ get_or gs k []
none_pushed [] zero = refl
none_pushed [] (suc k) = refl
none_pushed (g ∷ gs) zero = refl
none_pushed (g ∷ gs) (suc k) = none_pushed gs k

pub room_pushed : (vs vs' : List (Vec TermId Global)) (v : Vec TermId Global) (k : ℕ) → vs' ≡ vs ++ v ∷ [] → v.items ≡ [] → get_or (lists_in vs') k [] ≡ get_or (lists_in vs) k []
room_pushed vs vs' v k e none = ap (λ xs. get_or xs k []) (ap lists_in e ∙ map_push (λ z. z.items) vs v ∙ ap (λ l. lists_in vs ++ l ∷ []) none) ∙ none_pushed (lists_in vs) k

pub no_groups : (classes : List ℕ) (ts : List TermId) (gs : List (List TermId)) → gs ≡ [] → AreGrouped classes (take 0 ts) gs
no_groups classes ts gs e = subst (AreGrouped classes (take 0 ts)) (sym e) (record { all = λ t c. absurd (contains_none t c); only = λ k t c. absurd (contains_none t (empty k t c)) })
  where
    empty : (k : ℕ) (t : TermId) → Contains (group_at [] k) t → Contains [] t
    empty zero t c = c
    empty (suc k) t c = c

module _ (classes : List ℕ) (ts : List TermId) (i : ℕ) (d t : TermId) (gs gs' gs'' : List (List TermId)) (number : ℕ) (within : i < length ts) (is : t ≡ get_or ts i d) (h : AreGrouped classes (take i ts) gs)
    (same : (k : ℕ) → get_or gs' k [] ≡ get_or gs k []) (class : number ≡ class_number classes t) (room : number < length gs') (added : gs'' ≡ set gs' number (get_or gs' number [] ++ t ∷ [])) where
  there : group_at gs'' number ≡ group_at gs number ++ t ∷ []
  there = ap (λ xs. get_or xs number []) added ∙ get_or-set_same gs' number (get_or gs' number [] ++ t ∷ []) [] room ∙ ap (λ l. l ++ t ∷ []) (same number)

  elsewhere : (k : ℕ) → (k ≡ number → ⊥) → group_at gs'' k ≡ group_at gs k
  elsewhere k n = ap (λ xs. get_or xs k []) added ∙ get_or-set_other gs' number k (get_or gs' number [] ++ t ∷ []) [] n ∙ same k

  keeps : (k : ℕ) → Includes (group_at gs'' k) (group_at gs k)
  keeps k x c = ⊎_elim
      (λ e. subst (λ j. Contains (group_at gs'' j) x) (sym e) (subst (λ l. Contains l x) (sym there) (Contains-append_left (group_at gs number) (t ∷ []) x (subst (λ j. Contains (group_at gs j) x) e c))))
      (λ n. subst (λ l. Contains l x) (sym (elsewhere k n)) c)
      (cases_eq k number)

  seen : take (i + 1) ts ≡ take i ts ++ t ∷ []
  seen = take_more ts i d within ∙ ap (λ x. take i ts ++ x ∷ []) (sym is)

  pub one_more_grouped : AreGrouped classes (take (i + 1) ts) gs''
  one_more_grouped = record {
    all = λ x c. ⊎_elim
        (λ k. keeps (class_number classes x) x (h.all x k))
        (λ k. subst (λ y. Contains (group_at gs'' (class_number classes y)) y) (single t x k)
        (subst (λ j. Contains (group_at gs'' j) t) class (subst (λ l. Contains l t) (sym there) (Contains-append_right (group_at gs number) (t ∷ []) t (0, omega arith, refl)))))
        (Contains-append_cases (take i ts) (t ∷ []) x (subst (λ xs. Contains xs x) seen c));
    only = λ k x c. ⊎_elim
        (λ e. ⊎_elim
        (λ l. let r = h.only number x l in (before x r.0, r.1 ∙ sym e))
        (λ l. (last x l, ap (class_number classes) (sym (single t x l)) ∙ sym class ∙ sym e))
        (Contains-append_cases (group_at gs number) (t ∷ []) x (subst (λ l. Contains l x) there (subst (λ j. Contains (group_at gs'' j) x) e c))))
        (λ n. let r = h.only k x (subst (λ l. Contains l x) (elsewhere k n) c) in (before x r.0, r.1))
        (cases_eq k number);
  }
    where
      before : (x : TermId) → Contains (take i ts) x → Contains (take (i + 1) ts) x
      before x c = subst (λ xs. Contains xs x) (sym seen) (Contains-append_left (take i ts) (t ∷ []) x c)

      last : (x : TermId) → Contains (t ∷ []) x → Contains (take (i + 1) ts) x
      last x c = subst (λ xs. Contains xs x) (sym seen) (Contains-append_right (take i ts) (t ∷ []) x c)

pub all_grouped : (classes : List ℕ) (ts : List TermId) (i : ℕ) (gs : List (List TermId)) → length ts ≤ i → AreGrouped classes (take i ts) gs → AreGrouped classes ts gs
all_grouped classes ts i gs h a = subst (λ xs. AreGrouped classes xs gs) (take_all i ts h) a

-- ---- pairs

pub nothing_paired : (ss ts : List TermId) (ps : Pairs) → ss ≡ [] ⊎ ts ≡ [] → ArePaired ss ts ps ps
nothing_paired ss ts ps e = record {
  kept = λ p c. c;
  all = λ s t c d. ⊎_elim (λ n. absurd (contains_none s (subst (λ xs. Contains xs s) n c))) (λ n. absurd (contains_none t (subst (λ xs. Contains xs t) n d))) e;
  only = λ p c. inl c;
}

-- with more of the second, and with more of the first
pub paired_right : (ss ts us : List TermId) (ps qs rs : Pairs) → ArePaired ss ts ps qs → ArePaired ss us qs rs → ArePaired ss (ts ++ us) ps rs
paired_right ss ts us ps qs rs a b = record {
  kept = λ p c. b.kept p (a.kept p c);
  all = λ s t c d. ⊎_elim
      (λ k. ⊎_elim (λ e. inl e) (λ l. inr (b.kept (s, t) l)) (a.all s t c k))
      (λ k. b.all s t c k)
      (Contains-append_cases ts us t d);
  only = λ p c. ⊎_elim
      (λ k. ⊎_elim (λ l. inl l) (λ l. inr (l.0, Contains-append_left ts us p.1 l.1)) (a.only p k))
      (λ k. inr (k.0, Contains-append_right ts us p.1 k.1))
      (b.only p c);
}

pub paired_left : (ss us ts : List TermId) (ps qs rs : Pairs) → ArePaired ss ts ps qs → ArePaired us ts qs rs → ArePaired (ss ++ us) ts ps rs
paired_left ss us ts ps qs rs a b = record {
  kept = λ p c. b.kept p (a.kept p c);
  all = λ s t c d. ⊎_elim
      (λ k. ⊎_elim (λ e. inl e) (λ l. inr (b.kept (s, t) l)) (a.all s t k d))
      (λ k. b.all s t k d)
      (Contains-append_cases ss us s c);
  only = λ p c. ⊎_elim
      (λ k. ⊎_elim (λ l. inl l) (λ l. inr (Contains-append_left ss us p.0 l.0, l.1)) (a.only p k))
      (λ k. inr (Contains-append_right ss us p.0 k.0, k.1))
      (b.only p c);
}

pub more_right : (s : TermId) (ts : List TermId) (i : ℕ) (d t : TermId) (ps qs rs : Pairs) → i < length ts → t ≡ get_or ts i d → ArePaired (s ∷ []) (take i ts) ps qs → ArePaired (s ∷ []) (t ∷ []) qs rs → ArePaired (s ∷ []) (take (i + 1) ts) ps rs
more_right s ts i d t ps qs rs h e a b = subst (λ xs. ArePaired (s ∷ []) xs ps rs) (sym (take_more ts i d h ∙ ap (λ x. take i ts ++ x ∷ []) (sym e))) (paired_right (s ∷ []) (take i ts) (t ∷ []) ps qs rs a b)

pub more_left : (ts : List TermId) (i : ℕ) (d s : TermId) (ps qs rs : Pairs) → i < length ts → s ≡ get_or ts i d → ArePaired (take i ts) ts ps qs → ArePaired (s ∷ []) ts qs rs → ArePaired (take (i + 1) ts) ts ps rs
more_left ts i d s ps qs rs h e a b = subst (λ xs. ArePaired xs ts ps rs) (sym (take_more ts i d h ∙ ap (λ x. take i ts ++ x ∷ []) (sym e))) (paired_left (take i ts) (s ∷ []) ts ps qs rs a b)

-- ---- pairs of groups

pub no_pairs : (gs : List (List TermId)) (ps : Pairs) → ps ≡ [] → ArePairsBelow gs 0 ps
no_pairs gs ps e = record {
  all = λ k h s t c d. absurd (omega (arith, h));
  only = λ p c. absurd (contains_none p (subst (λ xs. Contains xs p) e c));
}

pub more_pairs : (gs : List (List TermId)) (n : ℕ) (g : List TermId) (ps qs : Pairs) → g ≡ group_at gs n → ArePairsBelow gs n ps → ArePaired g g ps qs → ArePairsBelow gs (n + 1) qs
more_pairs gs n g ps qs e a b = record {
  all = λ k h s t c d. ⊎_elim
      (λ l. ⊎_elim (λ same. inl same) (λ m. inr (b.kept (s, t) m)) (a.all k l s t c d))
      (λ l.
      let here : k ≡ n = omega (arith, h, l) in
      b.all s t (subst (λ xs. Contains xs s) (ap (group_at gs) here ∙ sym e) c) (subst (λ xs. Contains xs t) (ap (group_at gs) here ∙ sym e) d))
      (cases_lt k n);
  only = λ p c. ⊎_elim
      (λ k. a.only p k)
      (λ k. (n, subst (λ xs. Contains xs p.0) e k.0, subst (λ xs. Contains xs p.1) e k.1))
      (b.only p c);
}

past_groups : (gs : List (List TermId)) (k : ℕ) (t : TermId) → Contains (group_at gs k) t → k < length gs
past_groups [] zero t c = absurd (contains_none t c)
past_groups [] (suc k) t c = absurd (contains_none t c)
past_groups (g ∷ gs) zero t c = omega arith
past_groups (g ∷ gs) (suc k) t c = let r = past_groups gs k t c in omega (arith, r)

pub all_pairs : (classes : List ℕ) (ts : List TermId) (gs : List (List TermId)) (n : ℕ) (ps : Pairs) → length gs ≤ n → AreGrouped classes ts gs → ArePairsBelow gs n ps → ArePairs classes ts ps
all_pairs classes ts gs n ps h g a = record {
  all = λ s t c d e.
      let there : Contains (group_at gs (class_number classes t)) s = subst (λ k. Contains (group_at gs k) s) e (g.all s c) in
      let within = past_groups gs (class_number classes t) t (g.all t d) in
      a.all (class_number classes t) (omega (arith, h, within)) s t there (g.all t d);
  only = λ p c.
      let r = a.only p c in
      let x = g.only r.0 p.0 r.1 in
      let y = g.only r.0 p.1 r.2 in
      (x.0, y.0, x.1 ∙ sym y.1);
}
