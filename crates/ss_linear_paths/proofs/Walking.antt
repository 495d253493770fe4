-- What is so of paths, and of the numbers of their nodes.
use Rattle.std.proofs.Common.{◌≡◌, ◌≢◌, ◌⊎◌, inl, inr, ⊎_elim, ℕ, zero, suc, ◌+◌, ◌-◌, ◌*◌, ◌^◌, ◌<◌, ◌≤◌, List, [], ◌∷◌, ◌++◌, length, get_or, set, take, drop, Bool, true, false, eqb, ◌||◌, refl, sym, ◌∙◌, ap, subst, arith}
use Rattle.std.specs.Prelude.{ℤ, pos, negsuc, ◌+ℤ◌, ◌-ℤ◌, ◌<ℤ◌, ◌≤ℤ◌, unsigned_abs, Vec, Option, None, IfNone}
use Rattle.std.specs.declared.alloc.Global.{Global}
use Rattle.std.specs.List.{All, IsDistinct, AllByRecursion, list_any}
use Rattle.std.proofs.lemmas.Int.{ints}
use Rattle.std.proofs.lemmas.Bool.{eqb-true, eq-eqb}
use Rattle.std.proofs.lemmas.List.{get_or-set_same, get_or-set_other, map-set, length-set, length-map}
use Rattle.std.proofs.lemmas.List.Elements.{All-nil, All-cons, All-take, All-from_get_or}
use Rattle.std.proofs.lemmas.Map.Steps.{length-le_from_distinct_below}
use Rattle.ss_linear_paths.specs.declared.edges.Edge.{Edge}
use Rattle.ss_linear_paths.specs.Edges.{label, no_edge, edge_at, HasNodes, AreSmall, IsWithin, IsMet, weight_of, rise, IsCycle}
use Rattle.ss_linear_paths.specs.Paths.{lists, path_at, back, passed, IsPath, IsReached, AreReached, IsSettled, IsRound, IsLooked}

either : (b : Bool) → (b ≡ true) ⊎ (b ≡ false)
either true = inl refl
either false = inr refl

le_le : (a b c : ℤ) → a ≤ℤ b → b ≤ℤ c → a ≤ℤ c
le_le a b c p q = omega (arith, ints)

-- ---- along a path

-- lower numbers leave it one
pub lower : (es : List Edge) (ls new : List ℤ) (v : ℕ) (ks : List ℕ) → ((u : ℕ) → label new u ≤ℤ label ls u) → IsPath es ls v ks → IsPath es new v ks
lower es ls new v [] below p = le_le (label new v) (label ls v) (pos 0) (below v) p
lower es ls new v (k ∷ ks) below p = (p.0, p.1, le_le (label new v) (label ls v) (weight_of es (k ∷ ks)) (below v) p.2, lower es ls new (edge_at es k).from ks below p.3)

pub falls : (es : List Edge) (ls : List ℤ) (v : ℕ) (ks : List ℕ) → IsPath es ls v ks → label ls v ≤ℤ weight_of es ks
falls es ls v [] p = p
falls es ls v (k ∷ ks) p = p.2

pub back_path : (es : List Edge) (ls : List ℤ) (v : ℕ) (ks : List ℕ) (i : ℕ) → IsPath es ls v ks → IsPath es ls (back es v ks i) (drop i ks)
back_path es ls v ks zero p = p
back_path es ls v [] (suc i) p = p
back_path es ls v (k ∷ ks) (suc i) p = back_path es ls (edge_at es k).from ks i p.3

pub weights : (es : List Edge) (ks : List ℕ) (i : ℕ) → weight_of es ks ≡ weight_of es (take i ks) +ℤ weight_of es (drop i ks)
weights es ks zero = omega (arith, ints)
weights es [] (suc i) = refl
weights es (k ∷ ks) (suc i) = let h = weights es ks i in omega (arith, ints)

pub linked : (es : List Edge) (ls : List ℤ) (v : ℕ) (ks : List ℕ) (i : ℕ) (f : ℕ → ℤ) → IsPath es ls v ks → rise es f (take i ks) ≡ f v -ℤ f (back es v ks i)
linked es ls v ks zero f p = omega (arith, ints)
linked es ls v [] (suc i) f p = omega (arith, ints)
linked es ls v (k ∷ ks) (suc i) f p =
    let h = linked es ls (edge_at es k).from ks i f p.3 in
    let e : f (edge_at es k).to ≡ f v = ap f p.1 in
    omega (arith, ints)

pub edges_of : (es : List Edge) (ls : List ℤ) (v : ℕ) (ks : List ℕ) → IsPath es ls v ks → All (λ k. k < length es) ks
edges_of es ls v [] p = All-nil (λ k. k < length es)
edges_of es ls v (k ∷ ks) p = All-cons (λ k. k < length es) k ks p.0 (edges_of es ls (edge_at es k).from ks p.3)

pub back_more : (es : List Edge) (v : ℕ) (ks : List ℕ) (i : ℕ) → i < length ks → back es v ks (i + 1) ≡ (edge_at es (get_or ks i 0)).from
back_more es v [] i h = absurd (omega arith)
back_more es v (k ∷ ks) zero h = refl
back_more es v (k ∷ ks) (suc i) h =
    let e : suc i + 1 ≡ suc (i + 1) = omega arith in
    ap (λ n. back es v (k ∷ ks) n) e ∙ back_more es (edge_at es k).from ks i (omega arith)

-- ---- its nodes

unequal : (a b : ℕ) → eqb a b ≡ false → a ≢ b
unequal a b f e = let g : eqb a b ≡ true = eq-eqb a b e in cc

differs : (a b : ℕ) → (b ≢ a) → eqb a b ≡ false
differs a b n = ⊎_elim (λ t. absurd (n (sym (eqb-true a b t)))) (λ f. f) (either (eqb a b))

-- a node to which no part of the path leads back isn't among them
pub absent : (es : List Edge) (v : ℕ) (ks : List ℕ) (w : ℕ) → ((i : ℕ) → i ≤ length ks → back es v ks i ≢ w) → AllByRecursion (λ y. eqb w y ≡ false) (passed es v ks)
absent es v [] w h = (differs w v (h 0 (omega arith)), tt)
absent es v (k ∷ ks) w h = (differs w v (h 0 (omega arith)), absent es (edge_at es k).from ks w (λ i l. h (suc i) (omega arith)))

first_or : (q v : ℕ) (b : Bool) → (eqb q v || b) ≡ true → (q ≡ v) ⊎ (b ≡ true)
first_or q v b e = ⊎_elim (λ t. inl (eqb-true q v t)) (λ f. inr (let g : b ≡ true = rw f at e in g)) (either (eqb q v))

from_inside : (n : ℕ) (es : List Edge) (k : ℕ) → HasNodes n es → k < length es → (edge_at es k).from < n
from_inside n es k nodes l = (nodes k no_edge l).0

pub inside : (n : ℕ) (es : List Edge) (ls : List ℤ) (v : ℕ) (ks : List ℕ) → HasNodes n es → v < n → IsPath es ls v ks → (q : ℕ) → list_any (eqb q) (passed es v ks) ≡ true → q < n
inside n es ls v [] nodes l p q e = ⊎_elim (λ s. subst (λ x. x < n) (sym s) l) (λ f. absurd (let g : false ≡ true = f in cc)) (first_or q v false e)
inside n es ls v (k ∷ ks) nodes l p q e =
    ⊎_elim
    (λ s. subst (λ x. x < n) (sym s) l)
    (λ f. inside n es ls (edge_at es k).from ks nodes (from_inside n es k nodes p.0) p.3 q f)
    (first_or q v (list_any (eqb q) (passed es (edge_at es k).from ks)) e)

passed_length : (es : List Edge) (v : ℕ) (ks : List ℕ) → length (passed es v ks) ≡ suc (length ks)
passed_length es v [] = refl
passed_length es v (k ∷ ks) = ap suc (passed_length es (edge_at es k).from ks)

-- a path that passes no node twice has fewer edges than there are nodes
pub short : (n : ℕ) (es : List Edge) (ls : List ℤ) (v : ℕ) (ks : List ℕ) → HasNodes n es → v < n → IsReached es ls v ks → length ks < n
short n es ls v ks nodes l r =
    let h : length (passed es v ks) ≤ n = length-le_from_distinct_below (passed es v ks) n r.apart (inside n es ls v ks nodes l r.path) in
    let e = passed_length es v ks in
    omega arith

-- ---- sizes

small_weight : (w : ℤ) → unsigned_abs w < 2 ^ 64 → (w ≤ℤ pos (2 ^ 64 - 1)) × (pos 0 ≤ℤ (w +ℤ pos (2 ^ 64 - 1)))
small_weight (pos n) h = (omega (arith, ints), omega (arith, ints))
small_weight (negsuc n) h = (omega (arith, ints), omega (arith, ints))

pub bounds : (es : List Edge) (ls : List ℤ) (v : ℕ) (ks : List ℕ) → AreSmall es → IsPath es ls v ks → (weight_of es ks ≤ℤ pos (length ks * (2 ^ 64 - 1))) × (pos 0 ≤ℤ (weight_of es ks +ℤ pos (length ks * (2 ^ 64 - 1))))
bounds es ls v [] small p = (omega (arith, ints), omega (arith, ints))
bounds es ls v (k ∷ ks) small p =
    let h = bounds es ls (edge_at es k).from ks small p.3 in
    let w = small_weight (edge_at es k).weight (small k no_edge p.0) in
    (omega (arith, ints), omega (arith, ints))

-- the number of a node and the weight of an edge
pub sum_bounds : (n : ℕ) (es : List Edge) (ls : List ℤ) (v : ℕ) (ks : List ℕ) (w : ℤ) → n < 2 ^ 63 → HasNodes n es → AreSmall es → v < n → IsReached es ls v ks → unsigned_abs w < 2 ^ 64 → ((label ls v +ℤ w) <ℤ pos (2 ^ 127)) × (pos 0 ≤ℤ ((label ls v +ℤ w) +ℤ pos (2 ^ 127)))
sum_bounds n es ls v ks w few nodes small l r h =
    let b = bounds es ls v ks small r.path in
    let s = short n es ls v ks nodes l r in
    let e = r.exact in
    let x = small_weight w h in
    (omega (arith, ints), omega (arith, ints))

-- ---- a cycle

pub closes : (es : List Edge) (ls : List ℤ) (k : ℕ) (ks : List ℕ) (i : ℕ) → k < length es → IsReached es ls (edge_at es k).from ks → back es (edge_at es k).from ks i ≡ (edge_at es k).to → (label ls (edge_at es k).from +ℤ (edge_at es k).weight) <ℤ label ls (edge_at es k).to → IsCycle es (k ∷ take i ks)
closes es ls k ks i l r is less = record {
  edges = All-cons (λ k. k < length es) k (take i ks) l (All-take (λ k. k < length es) i ks (edges_of es ls (edge_at es k).from ks r.path));
  closed = λ p.
      let h = linked es ls (edge_at es k).from ks i p r.path in
      let e : p (back es (edge_at es k).from ks i) ≡ p (edge_at es k).to = ap p is in
      omega (arith, ints);
  negative =
      let h = weights es ks i in
      let e = r.exact in
      let f : label ls (back es (edge_at es k).from ks i) ≤ℤ weight_of es (drop i ks) = falls es ls (back es (edge_at es k).from ks i) (drop i ks) (back_path es ls (edge_at es k).from ks i r.path) in
      let g : label ls (back es (edge_at es k).from ks i) ≡ label ls (edge_at es k).to = ap (λ v. label ls v) is in
      omega (arith, ints);
}

-- ---- a number that is lowered

pub lowered : (ls : List ℤ) (v : ℕ) (x : ℤ) → v < length ls → x <ℤ label ls v → (u : ℕ) → label (set ls v x) u ≤ℤ label ls u
lowered ls v x l less u =
    ⊎_elim
    (λ t.
    let is : u ≡ v = eqb-true u v t in
    let here : label (set ls v x) v ≡ x = get_or-set_same ls v x (pos 0) l in
    let there : label (set ls v x) v ≤ℤ label ls v = omega (arith, ints) in
    subst (λ w. label (set ls v x) w ≤ℤ label ls w) (sym is) there)
    (λ f.
    let other : label (set ls v x) u ≡ label ls u = get_or-set_other ls v u x (pos 0) (unequal u v f) in
    omega (arith, ints))
    (either (eqb u v))

label_other : (ls : List ℤ) (v : ℕ) (x : ℤ) (u : ℕ) → u ≢ v → label (set ls v x) u ≡ label ls u
label_other ls v x u n = get_or-set_other ls v u x (pos 0) n

path_other : (ps : List (List ℕ)) (v : ℕ) (ks : List ℕ) (u : ℕ) → u ≢ v → path_at (set ps v ks) u ≡ path_at ps u
path_other ps v ks u n = get_or-set_other ps v u ks [] n

-- the edge k isn't met, and the path to its first node doesn't pass its second
pub record IsOpen (n : ℕ) (es : List Edge) (ls : List ℤ) (ps : List (List ℕ)) (k : ℕ) (x : ℤ) : Type 0 where
  pub reached : AreReached n es ls ps
  pub nodes : HasNodes n es
  pub there : k < length es
  pub sum : x ≡ label ls (edge_at es k).from +ℤ (edge_at es k).weight
  pub less : x <ℤ label ls (edge_at es k).to
  pub avoids : (i : ℕ) → i ≤ length (path_at ps (edge_at es k).from) → back es (edge_at es k).from (path_at ps (edge_at es k).from) i ≢ (edge_at es k).to

from_below : (n : ℕ) (es : List Edge) (ls : List ℤ) (ps : List (List ℕ)) (k : ℕ) (x : ℤ) → IsOpen n es ls ps k x → (edge_at es k).from < n
from_below n es ls ps k x o = (o.nodes k no_edge o.there).0

to_below : (n : ℕ) (es : List Edge) (ls : List ℤ) (ps : List (List ℕ)) (k : ℕ) (x : ℤ) → IsOpen n es ls ps k x → (edge_at es k).to < n
to_below n es ls ps k x o = (o.nodes k no_edge o.there).1

to_in_labels : (n : ℕ) (es : List Edge) (ls : List ℤ) (ps : List (List ℕ)) (k : ℕ) (x : ℤ) → IsOpen n es ls ps k x → (edge_at es k).to < length ls
to_in_labels n es ls ps k x o = let l = to_below n es ls ps k x o in let e = o.reached.labels in omega arith

to_in_paths : (n : ℕ) (es : List Edge) (ls : List ℤ) (ps : List (List ℕ)) (k : ℕ) (x : ℤ) → IsOpen n es ls ps k x → (edge_at es k).to < length ps
to_in_paths n es ls ps k x o = let l = to_below n es ls ps k x o in let e = o.reached.paths in omega arith

label_here : (n : ℕ) (es : List Edge) (ls : List ℤ) (ps : List (List ℕ)) (k : ℕ) (x : ℤ) → IsOpen n es ls ps k x → label (set ls (edge_at es k).to x) (edge_at es k).to ≡ x
label_here n es ls ps k x o = get_or-set_same ls (edge_at es k).to x (pos 0) (to_in_labels n es ls ps k x o)

path_here : (n : ℕ) (es : List Edge) (ls : List ℤ) (ps : List (List ℕ)) (k : ℕ) (x : ℤ) (ks : List ℕ) → IsOpen n es ls ps k x → path_at (set ps (edge_at es k).to ks) (edge_at es k).to ≡ ks
path_here n es ls ps k x ks o = get_or-set_same ps (edge_at es k).to ks [] (to_in_paths n es ls ps k x o)

below_all : (n : ℕ) (es : List Edge) (ls : List ℤ) (ps : List (List ℕ)) (k : ℕ) (x : ℤ) → IsOpen n es ls ps k x → (u : ℕ) → label (set ls (edge_at es k).to x) u ≤ℤ label ls u
below_all n es ls ps k x o = lowered ls (edge_at es k).to x (to_in_labels n es ls ps k x o) o.less

-- what is so of the second node
reached_here : (n : ℕ) (es : List Edge) (ls : List ℤ) (ps : List (List ℕ)) (k : ℕ) (x : ℤ) → IsOpen n es ls ps k x → IsReached es (set ls (edge_at es k).to x) (edge_at es k).to (k ∷ path_at ps (edge_at es k).from)
unfolding IsDistinct
reached_here n es ls ps k x o =
    let r = o.reached.each (edge_at es k).from (from_below n es ls ps k x o) in
    let h = label_here n es ls ps k x o in
    let e = r.exact in
    let s = o.sum in
    record {
      exact = omega (arith, ints);
      path = (o.there, refl, omega (arith, ints), lower es ls (set ls (edge_at es k).to x) (edge_at es k).from (path_at ps (edge_at es k).from) (below_all n es ls ps k x o) r.path);
      apart = (absent es (edge_at es k).from (path_at ps (edge_at es k).from) (edge_at es k).to o.avoids, r.apart);
    }

-- and of another one
reached_other : (n : ℕ) (es : List Edge) (ls : List ℤ) (ps : List (List ℕ)) (k : ℕ) (x : ℤ) (u : ℕ) → IsOpen n es ls ps k x → u < n → u ≢ (edge_at es k).to → IsReached es (set ls (edge_at es k).to x) u (path_at ps u)
reached_other n es ls ps k x u o l d =
    let r = o.reached.each u l in
    record {
      exact = label_other ls (edge_at es k).to x u d ∙ r.exact;
      path = lower es ls (set ls (edge_at es k).to x) u (path_at ps u) (below_all n es ls ps k x o) r.path;
      apart = r.apart;
    }

reached_each : (n : ℕ) (es : List Edge) (ls : List ℤ) (ps : List (List ℕ)) (k : ℕ) (x : ℤ) (u : ℕ) → IsOpen n es ls ps k x → u < n → IsReached es (set ls (edge_at es k).to x) u (path_at (set ps (edge_at es k).to (k ∷ path_at ps (edge_at es k).from)) u)
reached_each n es ls ps k x u o l =
    ⊎_elim
    (λ t.
    let is : (edge_at es k).to ≡ u = sym (eqb-true u (edge_at es k).to t) in
    let here : IsReached es (set ls (edge_at es k).to x) (edge_at es k).to (path_at (set ps (edge_at es k).to (k ∷ path_at ps (edge_at es k).from)) (edge_at es k).to) = subst (λ ks. IsReached es (set ls (edge_at es k).to x) (edge_at es k).to ks) (sym (path_here n es ls ps k x (k ∷ path_at ps (edge_at es k).from) o)) (reached_here n es ls ps k x o) in
    subst (λ w. IsReached es (set ls (edge_at es k).to x) w (path_at (set ps (edge_at es k).to (k ∷ path_at ps (edge_at es k).from)) w)) is here)
    (λ f.
    let d : u ≢ (edge_at es k).to = unequal u (edge_at es k).to f in
    subst (λ ks. IsReached es (set ls (edge_at es k).to x) u ks) (sym (path_other ps (edge_at es k).to (k ∷ path_at ps (edge_at es k).from) u d)) (reached_other n es ls ps k x u o l d))
    (either (eqb u (edge_at es k).to))

pub relaxed : (n : ℕ) (es : List Edge) (ls : List ℤ) (ps : List (List ℕ)) (k : ℕ) (x : ℤ) → IsOpen n es ls ps k x → AreReached n es (set ls (edge_at es k).to x) (set ps (edge_at es k).to (k ∷ path_at ps (edge_at es k).from))
relaxed n es ls ps k x o = record {
  labels = length-set ls (edge_at es k).to x ∙ o.reached.labels;
  paths = length-set ps (edge_at es k).to (k ∷ path_at ps (edge_at es k).from) ∙ o.reached.paths;
  each = λ u l. reached_each n es ls ps k x u o l;
}

-- ---- rounds

-- an edge stays settled
settled_still : (n : ℕ) (es : List Edge) (ls : List ℤ) (ps : List (List ℕ)) (k : ℕ) (x : ℤ) (r : ℕ) (e : Edge) → IsOpen n es ls ps k x → r ≤ suc (length (path_at ps (edge_at es k).from)) → IsSettled ls ps r e → IsSettled (set ls (edge_at es k).to x) (set ps (edge_at es k).to (k ∷ path_at ps (edge_at es k).from)) r e
settled_still n es ls ps k x r e o long s =
    ⊎_elim
    (λ t.
    let is : (edge_at es k).to ≡ e.from = sym (eqb-true e.from (edge_at es k).to t) in
    let here : length (path_at (set ps (edge_at es k).to (k ∷ path_at ps (edge_at es k).from)) (edge_at es k).to) ≡ suc (length (path_at ps (edge_at es k).from)) = ap length (path_here n es ls ps k x (k ∷ path_at ps (edge_at es k).from) o) in
    let there : length (path_at (set ps (edge_at es k).to (k ∷ path_at ps (edge_at es k).from)) e.from) ≡ suc (length (path_at ps (edge_at es k).from)) = subst (λ w. length (path_at (set ps (edge_at es k).to (k ∷ path_at ps (edge_at es k).from)) w) ≡ suc (length (path_at ps (edge_at es k).from))) is here in
    inr (omega arith))
    (λ f.
    let d : e.from ≢ (edge_at es k).to = unequal e.from (edge_at es k).to f in
    ⊎_elim
    (λ met.
    let same : label (set ls (edge_at es k).to x) e.from ≡ label ls e.from = label_other ls (edge_at es k).to x e.from d in
    let low : label (set ls (edge_at es k).to x) e.to ≤ℤ label ls e.to = below_all n es ls ps k x o e.to in
    inl (omega (arith, ints)))
    (λ deep. inr (subst (λ ks. r ≤ length ks) (sym (path_other ps (edge_at es k).to (k ∷ path_at ps (edge_at es k).from) e.from d)) deep))
    s)
    (either (eqb e.from (edge_at es k).to))

-- the edge itself is met then
met_here : (n : ℕ) (es : List Edge) (ls : List ℤ) (ps : List (List ℕ)) (k : ℕ) (x : ℤ) → IsOpen n es ls ps k x → IsMet (set ls (edge_at es k).to x) (edge_at es k)
met_here n es ls ps k x o =
    let h = label_here n es ls ps k x o in
    let d : (edge_at es k).from ≢ (edge_at es k).to = o.avoids 0 (omega arith) in
    let same : label (set ls (edge_at es k).to x) (edge_at es k).from ≡ label ls (edge_at es k).from = label_other ls (edge_at es k).to x (edge_at es k).from d in
    let s = o.sum in
    omega (arith, ints)

-- the path to its first node had as many edges as rounds were made
long_enough : (n : ℕ) (es : List Edge) (ls : List ℤ) (ps : List (List ℕ)) (k : ℕ) (x : ℤ) (r : ℕ) → IsOpen n es ls ps k x → IsRound es ls ps r k → r ≤ length (path_at ps (edge_at es k).from)
long_enough n es ls ps k x r o h =
    ⊎_elim
    (λ met. let s = o.sum in let less = o.less in absurd (omega (arith, ints)))
    (λ deep. deep)
    ((h k o.there).0)

pub round_goes_on : (n : ℕ) (es : List Edge) (ls : List ℤ) (ps : List (List ℕ)) (k : ℕ) (x : ℤ) (r : ℕ) → IsOpen n es ls ps k x → IsRound es ls ps r k → IsRound es (set ls (edge_at es k).to x) (set ps (edge_at es k).to (k ∷ path_at ps (edge_at es k).from)) r (k + 1)
round_goes_on n es ls ps k x r o h j l =
    let long = long_enough n es ls ps k x r o h in (
      settled_still n es ls ps k x r (edge_at es j) o (omega arith) ((h j l).0),
      λ b.
          ⊎_elim
          (λ t.
          let is : k ≡ j = sym (eqb-true j k t) in
          subst (λ w. IsSettled (set ls (edge_at es k).to x) (set ps (edge_at es k).to (k ∷ path_at ps (edge_at es k).from)) (r + 1) (edge_at es w)) is (inl (met_here n es ls ps k x o)))
          (λ f.
          let d : j ≢ k = unequal j k f in
          let before : j < k = omega arith in
          settled_still n es ls ps k x (r + 1) (edge_at es j) o (omega arith) ((h j l).1 before))
          (either (eqb j k)),
    )

pub round_looked : (n : ℕ) (es : List Edge) (ls : List ℤ) (ps : List (List ℕ)) (k : ℕ) (x : ℤ) → IsOpen n es ls ps k x → IsLooked n es ls ps k (set ls (edge_at es k).to x) (set ps (edge_at es k).to (k ∷ path_at ps (edge_at es k).from)) (k + 1)
round_looked n es ls ps k x o = record {
  reached = relaxed n es ls ps k x o;
  round = λ r h. round_goes_on n es ls ps k x r o h;
}

-- an edge that is met changes nothing
pub looked_met : (n : ℕ) (es : List Edge) (ls : List ℤ) (ps : List (List ℕ)) (k : ℕ) → AreReached n es ls ps → IsMet ls (edge_at es k) → IsLooked n es ls ps k ls ps (k + 1)
looked_met n es ls ps k a met = record {
  reached = a;
  round = λ r h j l. (
    (h j l).0,
    λ b.
        ⊎_elim
        (λ t. let is : k ≡ j = sym (eqb-true j k t) in subst (λ w. IsSettled ls ps (r + 1) (edge_at es w)) is (inl met))
        (λ f. let d : j ≢ k = unequal j k f in let before : j < k = omega arith in (h j l).1 before)
        (either (eqb j k)),
  );
}

pub looked_none : (n : ℕ) (es : List Edge) (ls : List ℤ) (ps : List (List ℕ)) (k : ℕ) → AreReached n es ls ps → IsLooked n es ls ps k ls ps k
looked_none n es ls ps k a = record { reached = a; round = λ r h. h }

pub looked_more : (n : ℕ) (es : List Edge) (ls : List ℤ) (ps : List (List ℕ)) (i : ℕ) (ls' : List ℤ) (ps' : List (List ℕ)) (j : ℕ) (ls'' : List ℤ) (ps'' : List (List ℕ)) (m : ℕ) → IsLooked n es ls ps i ls' ps' j → IsLooked n es ls' ps' j ls'' ps'' m → IsLooked n es ls ps i ls'' ps'' m
looked_more n es ls ps i ls' ps' j ls'' ps'' m a b = record { reached = b.reached; round = λ r h. b.round r (a.round r h) }

-- a whole round is one more
pub next_round : (n : ℕ) (es : List Edge) (ls : List ℤ) (ps : List (List ℕ)) (ls' : List ℤ) (ps' : List (List ℕ)) (r : ℕ) → IsLooked n es ls ps 0 ls' ps' (length es) → IsRound es ls ps r 0 → IsRound es ls' ps' (r + 1) 0
next_round n es ls ps ls' ps' r a h j l = ((a.round r h j l).1 l, λ b. absurd (omega arith))

-- after as many rounds as there are nodes each edge is met
pub all_met : (n : ℕ) (es : List Edge) (ls : List ℤ) (ps : List (List ℕ)) → AreReached n es ls ps → HasNodes n es → IsRound es ls ps n 0 → All (IsMet ls) es
all_met n es ls ps a nodes h = All-from_get_or (IsMet ls) es no_edge (λ j l.
    ⊎_elim
    (λ met. met)
    (λ deep.
    let s = short n es ls (edge_at es j).from (path_at ps (edge_at es j).from) nodes (from_inside n es j nodes l) (a.each (edge_at es j).from (from_inside n es j nodes l)) in
    absurd (omega arith))
    ((h j l).0))

-- ---- the start

pub zeros : (ls : List ℤ) → ((v : ℕ) → label ls v ≡ pos 0) → (v : ℕ) → label (ls ++ pos 0 ∷ []) v ≡ pos 0
zeros [] h zero = refl
zeros [] h (suc v) = refl
zeros (x ∷ ls) h zero = h 0
zeros (x ∷ ls) h (suc v) = zeros ls (λ u. h (suc u)) v

pub empties : (vs : List (Vec ℕ Global)) (w : Vec ℕ Global) → w.items ≡ [] → ((v : ℕ) → path_at (lists vs) v ≡ []) → (v : ℕ) → path_at (lists (vs ++ w ∷ [])) v ≡ []
empties [] w e h zero = e
empties [] w e h (suc v) = refl
empties (x ∷ vs) w e h zero = h 0
empties (x ∷ vs) w e h (suc v) = empties vs w e (λ u. h (suc u)) v

pub started : (n : ℕ) (es : List Edge) (ls : List ℤ) (ps : List (List ℕ)) → length ls ≡ n → length ps ≡ n → ((v : ℕ) → label ls v ≡ pos 0) → ((v : ℕ) → path_at ps v ≡ []) → AreReached n es ls ps
unfolding IsDistinct
started n es ls ps a b zero_labels no_paths = record {
  labels = a;
  paths = b;
  each = λ v l. subst (λ ks. IsReached es ls v ks) (sym (no_paths v)) (record { exact = zero_labels v; path = (let e = zero_labels v in omega (arith, ints)); apart = (tt, tt) });
}

pub no_round : (es : List Edge) (ls : List ℤ) (ps : List (List ℕ)) → IsRound es ls ps 0 0
no_round es ls ps j l = (inr (omega arith), λ b. absurd (omega arith))

-- ---- in the code

pub edge_within : (n : ℕ) (es : List Edge) (ls : List ℤ) (ps : List (List ℕ)) (k : ℕ) → n < 2 ^ 63 → AreReached n es ls ps → HasNodes n es → AreSmall es → k < length es → IsWithin (label ls (edge_at es k).from +ℤ (edge_at es k).weight)
edge_within n es ls ps k few a nodes small l =
    sum_bounds n es ls (edge_at es k).from (path_at ps (edge_at es k).from) (edge_at es k).weight few nodes small
    ((nodes k no_edge l).0) (a.each (edge_at es k).from ((nodes k no_edge l).0)) (small k no_edge l)

pub there : (vs : List (Vec ℕ Global)) (k : ℕ) (v : Vec ℕ Global) → k < length vs → (get_or vs k v).items ≡ path_at (lists vs) k
there [] k v l = absurd (omega arith)
there (x ∷ vs) zero v l = refl
there (x ∷ vs) (suc k) v l = there vs k v (omega arith)

pub lists_set : (vs : List (Vec ℕ Global)) (k : ℕ) (w : Vec ℕ Global) → lists (set vs k w) ≡ set (lists vs) k w.items
lists_set vs k w = map-set (λ v. v.items) vs k w

pub lists_length : (vs : List (Vec ℕ Global)) → length (lists vs) ≡ length vs
lists_length vs = length-map vs (λ v. v.items)

-- the number and the path of the second node were put
pub looked_put : (n : ℕ) (es : List Edge) (ls : List ℤ) (ps : List (List ℕ)) (k : ℕ) (x : ℤ) (ks : List ℕ) (new_ls : List ℤ) (new_ps : List (List ℕ)) → IsOpen n es ls ps k x → ks ≡ k ∷ path_at ps (edge_at es k).from → new_ls ≡ set ls (edge_at es k).to x → new_ps ≡ set ps (edge_at es k).to ks → IsLooked n es ls ps k new_ls new_ps (k + 1)
looked_put n es ls ps k x ks new_ls new_ps o path labels paths =
    subst (λ l. IsLooked n es ls ps k l new_ps (k + 1)) (sym labels)
    (subst (λ p. IsLooked n es ls ps k (set ls (edge_at es k).to x) p (k + 1)) (sym (paths ∙ ap (λ p. set ps (edge_at es k).to p) path))
    (round_looked n es ls ps k x o))

-- edges that were looked at one after the other
pub looked_on : (n m : ℕ) (es : List Edge) (ls : List ℤ) (ps : List (List ℕ)) (ls' : List ℤ) (ps' : List (List ℕ)) (j : ℕ) (ls'' : List ℤ) (ps'' : List (List ℕ)) (i : ℕ) → m ≡ n → IsLooked n es ls ps 0 ls' ps' j → IsLooked m es ls' ps' j ls'' ps'' i → IsLooked n es ls ps 0 ls'' ps'' i
looked_on n m es ls ps ls' ps' j ls'' ps'' i same a b =
    looked_more n es ls ps 0 ls' ps' j ls'' ps'' i a (subst (λ k. IsLooked k es ls' ps' j ls'' ps'' i) same b)

pub reached_as : (n m : ℕ) (es : List Edge) (ls : List ℤ) (ps : List (List ℕ)) → n ≡ m → AreReached n es ls ps → AreReached m es ls ps
reached_as n m es ls ps e a = subst (λ k. AreReached k es ls ps) e a

pub met_at_last : (n i : ℕ) (es : List Edge) (ls : List ℤ) (ps : List (List ℕ)) → i ≡ n → AreReached n es ls ps → HasNodes n es → IsRound es ls ps i 0 → All (IsMet ls) es
met_at_last n i es ls ps e a nodes h = all_met n es ls ps a nodes (subst (λ k. IsRound es ls ps k 0) e h)

pub met_each : (es : List Edge) (ls : List ℤ) (n : ℕ) → length es ≤ n → ((j : ℕ) → j < n → IsMet ls (edge_at es j)) → All (IsMet ls) es
met_each es ls n l h = All-from_get_or (IsMet ls) es no_edge (λ j b. h j (omega arith))

pub none_gives : {A : Type 0} (o : Option A) (P : Type 0) → o ≡ None → IfNone o P → P
none_gives o P e h = subst (λ x. IfNone x P) e h
