-- What the edges of known differences say of them.
use Rattle.std.proofs.Common.{◌≡◌, ◌⊎◌, inl, inr, ⊎_elim, ℕ, zero, suc, ◌^◌, ◌<◌, ◌≤◌, ℤ, pos, negsuc, ◌+ℤ◌, ◌-ℤ◌, ◌*ℤ◌, ◌≤ℤ◌, List, [], ◌∷◌, ◌++◌, length, get_or, Bool, true, false, Option, Some, None, refl, sym, ◌∙◌, ap, subst, arith}
use Rattle.std.specs.Prelude.{slice_get, if◌then◌else◌}
use Rattle.std.specs.List.{All, AllZip, AllByRecursion, Contains}
use Rattle.std.proofs.lemmas.Int.{ints}
use borrow.Author.Differences.{product_is}
use Rattle.ss_core.specs.Tree.{ClassTree}
use Rattle.ss_logic.specs.Terms.{Term}
use Rattle.ss_logic.specs.Formulas.{Formula}
use Rattle.ss_logic.specs.Equal.{same_term, equal_terms, same_term_equal}
use Rattle.ss_logic.proofs.Numbers.{le_from}
use Rattle.ss_logic.proofs.Options.{and_then_some}
use Rattle.ss_logic.specs.Sums.{SumFact, sum_fact_of, sum_of}
use Rattle.ss_logic.proofs.NumbersInSums.{one_times}
use Rattle.ss_linear_paths.specs.declared.edges.Edge.{Edge}
use Rattle.ss_linear_paths.specs.Edges.{label, no_edge, edge_at, IsMet, weight_of, rise, IsCycle}
use Rattle.ss_linear_rules.specs.Two.{IsFalse, fact_at}
use Rattle.ss_linear_rules.specs.Valued.{sum_at, IsMetBy, MeetsDifferences, fact_value, total, IsUsed}
use Rattle.ss_linear_rules.specs.Nodes.{place, number_at, node_number, AreOnce, IsEnd, IsEdgeOf, IsNetwork, no_origin, origins_at, end_value}
use Rattle.ss_logic.proofs.Summed.{some_is}
use Rattle.ss_linear_rules.proofs.Cancelling.{contradict}

either : (b : Bool) → (b ≡ true) ⊎ (b ≡ false)
either true = inl refl
either false = inr refl

-- ---- lists

got_inside : {A : Type 0} (xs : List A) (i : ℕ) (x : A) → slice_get xs i ≡ Some x → i < length xs
got_inside [] i x h = let no : ⊥ = cc in absurd no
got_inside (y ∷ xs) zero x h = omega arith
got_inside (y ∷ xs) (suc i) x h = let l : i < length xs = got_inside xs i x h in omega arith

inside_got : {A : Type 0} (xs : List A) (i : ℕ) → i < length xs → (x : A) × (slice_get xs i ≡ Some x)
inside_got [] i l = absurd (omega arith)
inside_got (y ∷ xs) zero l = (y, refl)
inside_got (y ∷ xs) (suc i) l = inside_got xs i (omega arith)

got_first : {A : Type 0} (xs ys : List A) (i : ℕ) (x : A) → slice_get xs i ≡ Some x → slice_get (xs ++ ys) i ≡ Some x
got_first [] ys i x h = let no : ⊥ = cc in absurd no
got_first (y ∷ xs) ys zero x h = h
got_first (y ∷ xs) ys (suc i) x h = got_first xs ys i x h

zip_at : {A B : Type 0} (R : A → B → Type 0) (xs : List A) (ys : List B) (i : ℕ) (d : A) (e : B) → AllZip R xs ys → i < length xs → R (get_or xs i d) (get_or ys i e)
zip_at R [] [] i d e h l = absurd (omega arith)
zip_at R [] (y ∷ ys) i d e h l = absurd h
zip_at R (x ∷ xs) [] i d e h l = absurd h
zip_at R (x ∷ xs) (y ∷ ys) zero d e h l = h.0
zip_at R (x ∷ xs) (y ∷ ys) (suc i) d e h l = zip_at R xs ys i d e h.1 (omega arith)

zip_length : {A B : Type 0} (R : A → B → Type 0) (xs : List A) (ys : List B) → AllZip R xs ys → length xs ≡ length ys
zip_length R [] [] h = refl
zip_length R [] (y ∷ ys) h = absurd h
zip_length R (x ∷ xs) [] h = absurd h
zip_length R (x ∷ xs) (y ∷ ys) h = ap suc (zip_length R xs ys h.1)

pub zip_weaker : {A B : Type 0} (R S : A → B → Type 0) → ((x : A) (y : B) → R x y → S x y) → (xs : List A) (ys : List B) → AllZip R xs ys → AllZip S xs ys
zip_weaker R S f [] [] h = tt
zip_weaker R S f [] (y ∷ ys) h = absurd h
zip_weaker R S f (x ∷ xs) [] h = absurd h
zip_weaker R S f (x ∷ xs) (y ∷ ys) h = (f x y h.0, zip_weaker R S f xs ys h.1)

-- ---- numbers of nodes

number_got : (v : Term → ℤ) (xs : List Term) (i : ℕ) (t : Term) → slice_get xs i ≡ Some t → number_at v xs i ≡ v t
number_got v [] i t h = let no : ⊥ = cc in absurd no
number_got v (x ∷ xs) zero t h = ap v (some_is x t h)
number_got v (x ∷ xs) (suc i) t h = number_got v xs i t h

number_first : (v : Term → ℤ) (xs ys : List Term) (i : ℕ) → i < length xs → number_at v (xs ++ ys) i ≡ number_at v xs i
number_first v [] ys i l = absurd (omega arith)
number_first v (x ∷ xs) ys zero l = refl
number_first v (x ∷ xs) ys (suc i) l = number_first v xs ys i (omega arith)

node_first : (v : Term → ℤ) (xs ys : List Term) (n : ℕ) → n < suc (length xs) → node_number v (xs ++ ys) n ≡ node_number v xs n
node_first v xs ys zero l = refl
node_first v xs ys (suc i) l = ap (λ z. pos 0 -ℤ z) (number_first v xs ys i (omega arith))

length_first : (xs ys : List Term) → length xs ≤ length (xs ++ ys)
length_first [] ys = omega arith
length_first (x ∷ xs) ys = let l = length_first xs ys in omega arith

-- an edge stays what it is where there are more terms
pub edge_still : (cs : List ClassTree) (known : List Formula) (xs ys : List Term) (e : Edge) (o : ℕ × ℤ) → IsEdgeOf cs known xs e o → IsEdgeOf cs known (xs ++ ys) e o
edge_still cs known xs ys e o h =
    let l = length_first xs ys in
    let a = h.from in
    let b = h.to in
    record {
      from = omega arith;
      to = omega arith;
      small = h.small;
      used = h.used;
      value = λ v. h.value v ∙ sym (ap (λ x. (x -ℤ node_number v (xs ++ ys) e.from) -ℤ e.weight) (node_first v xs ys e.to h.to) ∙ ap (λ x. (node_number v xs e.to -ℤ x) -ℤ e.weight) (node_first v xs ys e.from h.from));
    }

pub end_still : (xs ys : List Term) (o : Option Term) (n : ℕ) → IsEnd xs o n → IsEnd (xs ++ ys) o n
end_still xs ys None n h = h
end_still xs ys (Some t) n h = (h.0, h.1, got_first xs ys h.0 t h.2)

pub end_number : (v : Term → ℤ) (xs : List Term) (o : Option Term) (n : ℕ) → IsEnd xs o n → node_number v xs n ≡ pos 0 -ℤ end_value v o
end_number v xs None n h = ap (node_number v xs) h
end_number v xs (Some t) n h = ap (node_number v xs) h.1 ∙ ap (λ z. pos 0 -ℤ z) (number_got v xs h.0 t h.2)

pub end_inside : (xs : List Term) (o : Option Term) (n : ℕ) → IsEnd xs o n → n < suc (length xs)
end_inside xs None n h = omega arith
end_inside xs (Some t) n h = let l = got_inside xs h.0 t h.2 in let e = h.1 in omega arith

-- ---- each term once

pub place_most : (xs : List Term) (t : Term) → place xs t ≤ length xs
place_most [] t = omega arith
place_most (x ∷ xs) t = by_test (same_term x t) (place_most xs t)
  where
    by_test : (b : Bool) → place xs t ≤ length xs → (if b then 0 else suc (place xs t)) ≤ suc (length xs)
    by_test true l = omega arith
    by_test false l = omega arith

pub place_first : (xs ys : List Term) (t : Term) → place xs t < length xs → place (xs ++ ys) t ≡ place xs t
place_first [] ys t l = absurd (omega arith)
place_first (x ∷ xs) ys t l = by_test (same_term x t) (place_first xs ys t) l
  where
    by_test : (b : Bool) → (place xs t < length xs → place (xs ++ ys) t ≡ place xs t) → (if b then 0 else suc (place xs t)) < suc (length xs) → (if b then 0 else suc (place (xs ++ ys) t)) ≡ (if b then 0 else suc (place xs t))
    by_test true further k = refl
    by_test false further k = ap suc (further (omega arith))

-- a term that isn't there is past one more that is another
pub place_past : (xs : List Term) (t u : Term) → place xs u ≡ length xs → same_term t u ≡ false → place (xs ++ t ∷ []) u ≡ suc (length xs)
place_past [] t u h e = ap (λ b. if b then 0 else 1) e
place_past (x ∷ xs) t u h e = by_test (same_term x u) (λ k. place_past xs t u k e) h
  where
    by_test : (b : Bool) → (place xs u ≡ length xs → place (xs ++ t ∷ []) u ≡ suc (length xs)) → (if b then 0 else suc (place xs u)) ≡ suc (length xs) → (if b then 0 else suc (place (xs ++ t ∷ []) u)) ≡ suc (suc (length xs))
    by_test true further k = absurd (omega arith)
    by_test false further k = ap suc (further (omega arith))

pub place_last : (xs : List Term) (t : Term) → place xs t ≡ length xs → place (xs ++ t ∷ []) t ≡ length xs
place_last [] t h = ap (λ b. if b then 0 else 1) (same_term_equal t t refl)
place_last (x ∷ xs) t h = by_test (same_term x t) (place_last xs t) h
  where
    by_test : (b : Bool) → (place xs t ≡ length xs → place (xs ++ t ∷ []) t ≡ length xs) → (if b then 0 else suc (place xs t)) ≡ suc (length xs) → (if b then 0 else suc (place (xs ++ t ∷ []) t)) ≡ suc (length xs)
    by_test true further k = absurd (omega arith)
    by_test false further k = ap suc (further (omega arith))

got_pushed : (xs : List Term) (t : Term) (i : ℕ) (u : Term) → slice_get (xs ++ t ∷ []) i ≡ Some u → (slice_get xs i ≡ Some u) ⊎ ((i ≡ length xs) × (t ≡ u))
got_pushed [] t zero u h = inr (refl, some_is t u h)
got_pushed [] t (suc i) u h = let no : ⊥ = cc in absurd no
got_pushed (x ∷ xs) t zero u h = inl h
got_pushed (x ∷ xs) t (suc i) u h = ⊎_elim (λ a. inl a) (λ b. inr (ap suc b.0, b.1)) (got_pushed xs t i u h)

pub once_pushed : (xs : List Term) (t : Term) → place xs t ≡ length xs → AreOnce xs → AreOnce (xs ++ t ∷ [])
once_pushed xs t new h i u e =
    ⊎_elim
    (λ a.
    let at : place xs u ≡ i = h i u a in
    let l = got_inside xs i u a in
    place_first xs (t ∷ []) u (omega arith) ∙ at)
    (λ b. subst (λ w. place (xs ++ t ∷ []) w ≡ i) b.1 (place_last xs t new ∙ sym b.0))
    (got_pushed xs t i u e)

pub got_last : (xs : List Term) (t : Term) → slice_get (xs ++ t ∷ []) (length xs) ≡ Some t
got_last [] t = refl
got_last (x ∷ xs) t = got_last xs t

pub got_place : (xs : List Term) (t : Term) → place xs t < length xs → slice_get xs (place xs t) ≡ Some t
got_place [] t l = absurd (omega arith)
got_place (x ∷ xs) t l = by_test (got_place xs t) (same_term x t) refl l
  where
    by_test : (place xs t < length xs → slice_get xs (place xs t) ≡ Some t) → (b : Bool) → same_term x t ≡ b → (if b then 0 else suc (place xs t)) < suc (length xs) → slice_get (x ∷ xs) (if b then 0 else suc (place xs t)) ≡ Some t
    by_test further true e k = ap Some (equal_terms x t e)
    by_test further false e k = further (omega arith)

pub none_once : AreOnce []
none_once i t h = let no : ⊥ = cc in absurd no

-- ---- a cycle of edges

used_all : (cs : List ClassTree) (known : List Formula) (xs : List Term) (es : List Edge) (os : List (ℕ × ℤ)) (ks : List ℕ) → AllZip (IsEdgeOf cs known xs) es os → All (λ k. k < length es) ks → AllByRecursion (λ p. IsUsed cs known p) (origins_at os ks)
used_all cs known xs es os [] h all = tt
used_all cs known xs es os (k ∷ ks) h all =
    let e = zip_at (IsEdgeOf cs known xs) es os k no_edge no_origin h (all 0 0 (omega arith)) in
    (e.used, used_all cs known xs es os ks h (λ i d l. all (suc i) d (omega arith)))

total_is : (cs : List ClassTree) (known : List Formula) (xs : List Term) (es : List Edge) (os : List (ℕ × ℤ)) (ks : List ℕ) (v : Term → ℤ) → AllZip (IsEdgeOf cs known xs) es os → All (λ k. k < length es) ks → total cs known v (origins_at os ks) ≡ rise es (node_number v xs) ks -ℤ weight_of es ks
total_is cs known xs es os [] v h all = refl
total_is cs known xs es os (k ∷ ks) v h all =
    let e = zip_at (IsEdgeOf cs known xs) es os k no_edge no_origin h (all 0 0 (omega arith)) in
    let here : (get_or os k no_origin).1 *ℤ fact_value v (fact_at cs known (get_or os k no_origin).0) ≡ (node_number v xs (edge_at es k).to -ℤ node_number v xs (edge_at es k).from) -ℤ (edge_at es k).weight = e.value v in
    let rest = total_is cs known xs es os ks v h (λ i d l. all (suc i) d (omega arith)) in
    omega (arith, ints)

origins_length : (os : List (ℕ × ℤ)) (ks : List ℕ) → length (origins_at os ks) ≡ length ks
origins_length os [] = refl
origins_length os (k ∷ ks) = ap suc (origins_length os ks)

pub cycle_contradicts : (cs : List ClassTree) (known : List Formula) (xs : List Term) (es : List Edge) (os : List (ℕ × ℤ)) (ks : List ℕ) → AllZip (IsEdgeOf cs known xs) es os → IsCycle es ks → length ks < 2 ^ 63 → (f : Formula) × (sum_of cs known (pos 1) (origins_at os ks) ≡ Some f) × IsFalse f
cycle_contradicts cs known xs es os ks h c few =
    let n = origins_length os ks in
    contradict cs known (origins_at os ks) (pos 0 -ℤ weight_of es ks) (used_all cs known xs es os ks h c.edges) (omega arith)
    (λ v.
    let t = total_is cs known xs es os ks v h c.edges in
    let z : rise es (node_number v xs) ks ≡ pos 0 = c.closed (node_number v xs) in
    omega (arith, ints))
    (let less = c.negative in omega (arith, ints))

-- ---- numbers that meet all edges

labelled : (ls : List ℤ) (xs : List Term) (n : ℕ) → AreOnce xs → n < suc (length xs) → node_number (λ t. label ls 0 -ℤ label ls (suc (place xs t))) xs n ≡ label ls n -ℤ label ls 0
labelled ls xs zero once l = omega (arith, ints)
labelled ls xs (suc i) once l =
    let t = inside_got xs i (omega arith) in
    let at = number_got (λ t. label ls 0 -ℤ label ls (suc (place xs t))) xs i t.0 t.1 ∙ ap (λ j. label ls 0 -ℤ label ls (suc j)) (once i t.0 t.1) in
    omega (arith, ints)

met_by : (b : Bool) (z : ℤ) → z ≤ℤ pos 0 → (b ≡ true → pos 0 ≤ℤ z) → IsMetBy b z
met_by true z low high = let h : pos 0 ≤ℤ z = high refl in omega (arith, ints)
met_by false z low high = le_from z (pos 0) low

less_one_times : (z : ℤ) → negsuc 0 *ℤ z ≡ pos 0 -ℤ z
less_one_times z = omega (arith, ints, product_is (negsuc 0) z)

-- what an edge that is met says, at these numbers
edge_says : (cs : List ClassTree) (known : List Formula) (xs : List Term) (es : List Edge) (os : List (ℕ × ℤ)) (ls : List ℤ) (o : ℕ × ℤ) → AreOnce xs → AllZip (IsEdgeOf cs known xs) es os → All (IsMet ls) es → Contains os o → (o.1 *ℤ fact_value (λ t. label ls 0 -ℤ label ls (suc (place xs t))) (fact_at cs known o.0)) ≤ℤ pos 0
edge_says cs known xs es os ls o once h met c =
    let n = zip_length (IsEdgeOf cs known xs) es os h in
    let inside : c.0 < length es = (let l = c.1 in omega arith) in
    let e : IsEdgeOf cs known xs (get_or es c.0 no_edge) o = subst (λ p. IsEdgeOf cs known xs (get_or es c.0 no_edge) p) c.2 (zip_at (IsEdgeOf cs known xs) es os c.0 no_edge o h inside) in
    let value = e.value (λ t. label ls 0 -ℤ label ls (suc (place xs t))) in
    let to = labelled ls xs (get_or es c.0 no_edge).to once e.to in
    let from = labelled ls xs (get_or es c.0 no_edge).from once e.from in
    let m : label ls (get_or es c.0 no_edge).to ≤ℤ (label ls (get_or es c.0 no_edge).from +ℤ (get_or es c.0 no_edge).weight) = met c.0 no_edge inside in
    omega (arith, ints)

known_inside : (cs : List ClassTree) (fs : List Formula) (k : ℕ) (fact : SumFact) → fact_at cs fs k ≡ Some fact → k < length fs
known_inside cs fs k fact e = let p = and_then_some (sum_fact_of cs) (slice_get fs k) fact e in got_inside fs k p.0 p.1

pub labels_meet : (cs : List ClassTree) (known : List Formula) (xs : List Term) (es : List Edge) (os : List (ℕ × ℤ)) (ls : List ℤ) → IsNetwork cs known xs es os (length known) → All (IsMet ls) es → MeetsDifferences cs known (λ t. label ls 0 -ℤ label ls (suc (place xs t)))
labels_meet cs known xs es os ls n met k fact is d =
    let l = known_inside cs known k fact is in
    let edges = n.all k l fact is d in
    let one = edge_says cs known xs es os ls (k, pos 1) n.once n.edges met edges.0 in
    let same : fact_value (λ t. label ls 0 -ℤ label ls (suc (place xs t))) (fact_at cs known k) ≡ sum_at (λ t. label ls 0 -ℤ label ls (suc (place xs t))) fact.sum = ap (fact_value (λ t. label ls 0 -ℤ label ls (suc (place xs t)))) is in
    let times = one_times (fact_value (λ t. label ls 0 -ℤ label ls (suc (place xs t))) (fact_at cs known k)) in
    met_by fact.is_equality (sum_at (λ t. label ls 0 -ℤ label ls (suc (place xs t))) fact.sum)
    (omega (arith, ints))
    (λ e.
    let two = edge_says cs known xs es os ls (k, negsuc 0) n.once n.edges met (edges.1 e) in
    let less = less_one_times (fact_value (λ t. label ls 0 -ℤ label ls (suc (place xs t))) (fact_at cs known k)) in
    omega (arith, ints))
