-- Neighbours in groups by classes: where their equalities are so at some numbers, those of each two terms of one class are.
use Rattle.std.proofs.Common.{◌≡◌, ℕ, zero, suc, ◌+◌, ◌<◌, ◌≤◌, ◌==◌, ℤ, List, [], ◌∷◌, ◌++◌, length, map, filter, drop, get_or, Bool, true, false, not, ◌&&◌, refl, sym, ◌∙◌, ap, subst, append_assoc, inl, inr, ◌⊎◌, ⊎_elim, arith}
use Rattle.std.specs.List.{Contains}
use Rattle.std.proofs.lemmas.Bool.{eqb-true, eq-eqb, and_from, and_parts, false≢true}
use Rattle.std.proofs.lemmas.List.{append-nil, drop_more, drop_all}
use Rattle.std.proofs.lemmas.List.Elements.{Contains-append_left, Contains-append_right, Contains-append_cases}
use Rattle.ss_core.specs.Tree.{ClassTree}
use Rattle.ss_logic.specs.Terms.{Term}
use Rattle.ss_logic.specs.Shapes.{equal}
use Rattle.ss_logic.specs.Sums.{sum_fact_of}
use Rattle.ss_linear.specs.Contradictions.{equality_at, equalities_at, Pairs}
use Rattle.ss_linear.specs.Met.{Meets, MeetsSome, AllMet, AllSaid, Follow}
use Rattle.ss_linear.proofs.Seen.{Comes, same_number, sides, equal_meets}
use Rattle.ss_terms.specs.declared.forms.TermId.{TermId}
use Rattle.ss_terms.specs.Forms.{Forms, term_at}
use Rattle.ss_equality_rules.specs.Equal.{class_number}
use Rattle.ss_logic.proofs.Lists.{contains_head, contains_cons, contains_none, contains_split, contains_filter, from_filter, map_from, map_to}
use Rattle.ss_search_reached.specs.Groups.{group_at, AreGrouped, AreAmong, ArePairs, neighbours, neighbours_in, AreChained}
use Rattle.ss_search_reached.proofs.Lists.{single}

-- ---- neighbours, one by one

abbrev pub beside : TermId → TermId → TermId × TermId
beside s t = (s, t)

neighbours_next : (ts : List TermId) (i : ℕ) (d : TermId) → suc i < length ts → neighbours (drop i ts) ≡ (get_or ts i d, get_or ts (suc i) d) ∷ neighbours (drop (suc i) ts)
neighbours_next [] i d l = absurd (omega (arith, l))
neighbours_next (s ∷ []) i d l = absurd (omega (arith, l))
neighbours_next (s ∷ t ∷ ts) zero d l = refl
neighbours_next (s ∷ t ∷ ts) (suc i) d l = neighbours_next (t ∷ ts) i d (omega (arith, l))

-- the last one has none after it
neighbours_last : (ts : List TermId) (i : ℕ) → length ts ≤ suc i → neighbours (drop i ts) ≡ []
neighbours_last [] zero l = refl
neighbours_last [] (suc i) l = refl
neighbours_last (t ∷ []) zero l = refl
neighbours_last (t ∷ []) (suc i) l = neighbours_last [] i (omega arith)
neighbours_last (s ∷ t ∷ ts) zero l = absurd (omega (arith, l))
neighbours_last (s ∷ t ∷ ts) (suc i) l = neighbours_last (t ∷ ts) i (omega (arith, l))

pub next_there : (ts : List TermId) (i : ℕ) (d : TermId) (old new : Pairs) → i + 1 < length ts → new ≡ old ++ (get_or ts i d, get_or ts (i + 1) d) ∷ [] → new ++ neighbours (drop (i + 1) ts) ≡ old ++ neighbours (drop i ts)
next_there ts i d old new l is =
    let next : suc i ≡ i + 1 = omega arith in
    let both = subst (λ (n : ℕ). neighbours (drop i ts) ≡ (get_or ts i d, get_or ts n d) ∷ neighbours (drop n ts)) next (neighbours_next ts i d (omega (arith, l))) in
    ap (λ (ps : Pairs). ps ++ neighbours (drop (i + 1) ts)) is
    ∙ append_assoc old ((get_or ts i d, get_or ts (i + 1) d) ∷ []) (neighbours (drop (i + 1) ts))
    ∙ ap (λ (ps : Pairs). old ++ ps) (sym both)

pub next_missing : (ts : List TermId) (i : ℕ) (old : Pairs) → length ts ≤ i + 1 → old ++ neighbours (drop (i + 1) ts) ≡ old ++ neighbours (drop i ts)
next_missing ts i old l = ap (λ (ps : Pairs). old ++ ps) (neighbours_last ts (i + 1) (omega (arith, l)) ∙ sym (neighbours_last ts i (omega (arith, l))))

pub neighbours_all : (ts : List TermId) (i : ℕ) (ps all : Pairs) → length ts ≤ i → ps ++ neighbours (drop i ts) ≡ all → ps ≡ all
neighbours_all ts i ps all l h = sym (append-nil ps) ∙ ap (λ (us : List TermId). ps ++ neighbours us) (sym (drop_all i ts l)) ∙ h

-- ---- those of groups

pub groups_more : (gs : List (List TermId)) (i : ℕ) (g : List TermId) (old new all : Pairs) → i < length gs → g ≡ group_at gs i → new ≡ old ++ neighbours g → old ++ neighbours_in (drop i gs) ≡ all → new ++ neighbours_in (drop (i + 1) gs) ≡ all
groups_more gs i g old new all l e is h =
    ap (λ (ps : Pairs). ps ++ neighbours_in (drop (i + 1) gs)) is
    ∙ append_assoc old (neighbours g) (neighbours_in (drop (i + 1) gs))
    ∙ ap (λ (ts : List TermId). old ++ (neighbours ts ++ neighbours_in (drop (i + 1) gs))) e
    ∙ ap (λ (hs : List (List TermId)). old ++ neighbours_in hs) (sym (drop_more gs i [] l))
    ∙ h

pub groups_all : (gs : List (List TermId)) (i : ℕ) (ps all : Pairs) → length gs ≤ i → ps ++ neighbours_in (drop i gs) ≡ all → ps ≡ all
groups_all gs i ps all l h = sym (append-nil ps) ∙ ap (λ (hs : List (List TermId)). ps ++ neighbours_in hs) (sym (drop_all i gs l)) ∙ h

in_groups : (gs : List (List TermId)) (k : ℕ) (p : TermId × TermId) → Contains (neighbours (group_at gs k)) p → Contains (neighbours_in gs) p
in_groups [] zero p c = absurd (contains_none p c)
in_groups [] (suc k) p c = absurd (contains_none p c)
in_groups (g ∷ gs) zero p c = Contains-append_left (neighbours g) (neighbours_in gs) p c
in_groups (g ∷ gs) (suc k) p c = Contains-append_right (neighbours g) (neighbours_in gs) p (in_groups gs k p c)

from_neighbours : (g : List TermId) (p : TermId × TermId) → Contains (neighbours g) p → Contains g p.0 × Contains g p.1
from_neighbours [] p c = absurd (contains_none p c)
from_neighbours (s ∷ []) p c = absurd (contains_none p c)
from_neighbours (s ∷ t ∷ ts) p c = ⊎_elim
    (λ e. subst (λ (q : TermId × TermId). Contains (s ∷ t ∷ ts) q.0 × Contains (s ∷ t ∷ ts) q.1) e (contains_head s (t ∷ ts), contains_cons s (t ∷ ts) t (contains_head t ts)))
    (λ k. let r = from_neighbours (t ∷ ts) p k in (contains_cons s (t ∷ ts) p.0 r.0, contains_cons s (t ∷ ts) p.1 r.1))
    (contains_split (beside s t) (neighbours (t ∷ ts)) p c)

from_groups : (gs : List (List TermId)) (p : TermId × TermId) → Contains (neighbours_in gs) p → (k : ℕ) × Contains (group_at gs k) p.0 × Contains (group_at gs k) p.1
from_groups [] p c = absurd (contains_none p c)
from_groups (g ∷ gs) p c = ⊎_elim
    (λ k. let r = from_neighbours g p k in (zero, r.0, r.1))
    (λ k. let r = from_groups gs p k in (suc r.0, r.1, r.2))
    (Contains-append_cases (neighbours g) (neighbours_in gs) p c)

pub chain_among : (classes : List ℕ) (ts : List TermId) (ps : Pairs) → AreChained classes ts ps → AreAmong classes ts ps
chain_among classes ts ps a = λ p c.
    let r = from_groups a.groups p (subst (λ (qs : Pairs). Contains qs p) a.links c) in
    let x = a.grouped.only r.0 p.0 r.1 in
    let y = a.grouped.only r.0 p.1 r.2 in
    (x.0, y.0, x.1 ∙ sym y.1)

-- ---- each two different terms of one class

-- each of the first terms with each of the others
abbrev pub crossed : List TermId → List TermId → Pairs
crossed [] ts = []
crossed (s ∷ ss) ts = map (beside s) ts ++ crossed ss ts

to_crossed : (ss ts : List TermId) (s t : TermId) → Contains ss s → Contains ts t → Contains (crossed ss ts) (s, t)
to_crossed [] ts s t c d = absurd (contains_none s c)
to_crossed (u ∷ ss) ts s t c d = ⊎_elim
    (λ e. Contains-append_left (map (beside u) ts) (crossed ss ts) (s, t) (subst (λ (w : TermId). Contains (map (beside u) ts) (beside w t)) e (map_to (beside u) ts t d)))
    (λ k. Contains-append_right (map (beside u) ts) (crossed ss ts) (s, t) (to_crossed ss ts s t k d))
    (contains_split u ss s c)

from_crossed : (ss ts : List TermId) (p : TermId × TermId) → Contains (crossed ss ts) p → Contains ss p.0 × Contains ts p.1
from_crossed [] ts p c = absurd (contains_none p c)
from_crossed (u ∷ ss) ts p c = ⊎_elim
    (λ k. let r = map_from (beside u) ts p k in subst (λ (q : TermId × TermId). Contains (u ∷ ss) q.0 × Contains ts q.1) r.2 (contains_head u ss, r.1))
    (λ k. let r = from_crossed ss ts p k in (contains_cons u ss p.0 r.0, r.1))
    (Contains-append_cases (map (beside u) ts) (crossed ss ts) p c)

module _ (classes : List ℕ) (ts : List TermId) where
  abbrev pub is_pair : TermId × TermId → Bool
  is_pair p = not (p.0.0 == p.1.0) && (class_number classes p.0 == class_number classes p.1)

  abbrev pub two_of_one : Pairs
  two_of_one = filter is_pair (crossed ts ts)

  apart : (p : TermId × TermId) → Contains two_of_one p → p.0.0 ≡ p.1.0 → ⊥
  apart p c e =
      let r = and_parts (not (p.0.0 == p.1.0)) (class_number classes p.0 == class_number classes p.1) (from_filter is_pair (crossed ts ts) p c).1 in
      false≢true (sym (ap not (eq-eqb p.0.0 p.1.0 e)) ∙ r.0)

  pub all_two : ArePairs classes ts two_of_one
  all_two = record {
    all = λ s t c d e. by s t c d e (s.0 == t.0) refl;
    only = λ p c.
        let f = from_filter is_pair (crossed ts ts) p c in
        let q = from_crossed ts ts p f.0 in
        let r = and_parts (not (p.0.0 == p.1.0)) (class_number classes p.0 == class_number classes p.1) f.1 in
        (q.0, q.1, eqb-true (class_number classes p.0) (class_number classes p.1) r.1);
  }
    where
      by : (s t : TermId) → Contains ts s → Contains ts t → class_number classes s ≡ class_number classes t → (v : Bool) → (s.0 == t.0) ≡ v → (s.0 ≡ t.0) ⊎ Contains two_of_one (s, t)
      by s t c d e true same = inl (eqb-true s.0 t.0 same)
      by s t c d e false other = inr (contains_filter is_pair (crossed ts ts) (s, t) (to_crossed ts ts s t c d)
          (and_from (not (s.0 == t.0)) (class_number classes s == class_number classes t) (ap not other) (eq-eqb (class_number classes s) (class_number classes t) e)))

-- ---- at numbers at which the equalities of neighbours are so

module _ (cs : List ClassTree) (b : Forms) (v : Term → ℤ) where
  abbrev IsSaid : TermId × TermId → Type 0
  IsSaid p = MeetsSome v (sum_fact_of cs (equality_at b p))

  abbrev IsMet : TermId × TermId → Type 0
  IsMet p = Meets v (sum_fact_of cs (equality_at b p))

  abbrev ComesTo : ℤ → TermId → Type 0
  ComesTo z t = Comes v z (term_at b t)

  said_at : (ps : Pairs) → AllSaid cs v (equalities_at b ps) → (p : TermId × TermId) → Contains ps p → IsSaid p
  said_at [] h p c = absurd (contains_none p c)
  said_at (q ∷ ps) h p c = ⊎_elim (λ e. subst (λ (r : TermId × TermId). IsSaid r) e h.0) (λ k. said_at ps h.1 p k) (contains_split q ps p c)

  met_all : (ps : Pairs) → ((p : TermId × TermId) → Contains ps p → IsMet p) → AllMet cs v (equalities_at b ps)
  met_all [] h = tt
  met_all (p ∷ ps) h = (h p (contains_head p ps), met_all ps (λ q c. h q (contains_cons p ps q c)))

  -- those after a term come to its number
  along : (z : ℤ) (s : TermId) → ComesTo z s → (ts : List TermId) → ((p : TermId × TermId) → Contains (neighbours (s ∷ ts)) p → IsSaid p) → (t : TermId) → Contains ts t → ComesTo z t
  along z s c [] h t k = absurd (contains_none t k)
  along z s c (u ∷ ts) h t k =
      let one = sides v (term_at b s) (term_at b u) cs (h (s, u) (contains_head (beside s u) (neighbours (u ∷ ts)))) in
      let here : ComesTo z u = subst (λ (n : ℤ). ComesTo n u) (same_number v one.number z (term_at b s) one.left c) one.right in
      ⊎_elim
      (λ e. subst (λ (x : TermId). ComesTo z x) e here)
      (λ m. along z u here ts (λ p l. h p (contains_cons (beside s u) (neighbours (u ∷ ts)) p l)) t m)
      (contains_split u ts t k)

  all_come : (z : ℤ) (s : TermId) → ComesTo z s → (ts : List TermId) → ((p : TermId × TermId) → Contains (neighbours (s ∷ ts)) p → IsSaid p) → (t : TermId) → Contains (s ∷ ts) t → ComesTo z t
  all_come z s c ts h t k = ⊎_elim (λ e. subst (λ (x : TermId). ComesTo z x) e c) (λ m. along z s c ts h t m) (contains_split s ts t k)

  two_met : (g : List TermId) → ((p : TermId × TermId) → Contains (neighbours g) p → IsSaid p) → (s t : TermId) → Contains g s → Contains g t → (s.0 ≡ t.0 → ⊥) → Meets v (sum_fact_of cs (equal (term_at b s) (term_at b t)))
  two_met [] h s t c d other = absurd (contains_none s c)
  two_met (x ∷ []) h s t c d other = absurd (other (ap (λ (u : TermId). u.0) (sym (single x s c) ∙ single x t d)))
  two_met (x ∷ y ∷ ts) h s t c d other =
      let one = sides v (term_at b x) (term_at b y) cs (h (x, y) (contains_head (beside x y) (neighbours (y ∷ ts)))) in
      equal_meets v (term_at b s) (term_at b t) cs one.number (all_come one.number x one.left (y ∷ ts) h s c) (all_come one.number x one.left (y ∷ ts) h t d)

pub two_follow : (cs : List ClassTree) (b : Forms) (classes : List ℕ) (ts : List TermId) (gs : List (List TermId)) → AreGrouped classes ts gs → Follow cs (equalities_at b (two_of_one classes ts)) (equalities_at b (neighbours_in gs))
two_follow cs b classes ts gs grouped = λ v said. met_all cs b v (two_of_one classes ts) (λ p c.
    let r = (all_two classes ts).only p c in
    let k = class_number classes p.0 in
    two_met cs b v (group_at gs k) (λ q l. said_at cs b v (neighbours_in gs) said q (in_groups gs k q l)) p.0 p.1 (grouped.all p.0 r.0) (subst (λ (j : ℕ). Contains (group_at gs j) p.1) (sym r.2) (grouped.all p.1 r.1)) (apart classes ts p c))
