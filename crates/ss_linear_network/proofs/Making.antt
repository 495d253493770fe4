-- Networks that are made.
use Rattle.std.proofs.Common.{◌≡◌, ◌≢◌, ◌⊎◌, inl, inr, ⊎_elim, ℕ, zero, suc, ◌+◌, ◌^◌, ◌<◌, ◌≤◌, ℤ, pos, negsuc, ◌+ℤ◌, ◌-ℤ◌, ◌*ℤ◌, ◌<ℤ◌, List, [], ◌∷◌, ◌++◌, length, get_or, take, map, Bool, true, false, cond, ◌&&◌, eqb, Option, Some, None, Result, Ok, Err, refl, sym, ◌∙◌, ap, subst, FitsSigned, arith}
use Rattle.std.specs.Prelude.{unsigned_abs, nat_eq, nat_lt, slice_get, unwrap_or, if◌then◌else◌, SomeIff, IfSome, OnOk}
use Rattle.std.specs.List.{AllZip, Contains}
use Rattle.std.specs.Map.{lookup}
use Rattle.std.proofs.lemmas.Bool.{eqb-true, eq-eqb, ltb-true}
use Rattle.std.proofs.lemmas.Int.{ints}
use Rattle.std.proofs.lemmas.List.{length-map, take_more}
use Rattle.std.proofs.lemmas.List.Elements.{All-append, All-cons, All-nil}
use Rattle.indexmap.specs.IndexMap.{get}
use mir.Syntax.{w128}
use Rattle.ss_core.specs.Tree.{ClassTree}
use Rattle.ss_logic.specs.Terms.{Term}
use Rattle.ss_logic.specs.Formulas.{Formula}
use Rattle.ss_logic.specs.Equal.{same_term, equal_terms}
use Rattle.ss_logic.specs.Sums.{SumFact, is_weight}
use Rattle.ss_logic.proofs.NumbersInSums.{one_times}
use borrow.Author.Differences.{product_is}
use Rattle.ss_terms.specs.declared.forms.TermId.{TermId}
use Rattle.ss_terms.specs.Forms.{Forms, term_at, terms_at, HasTerm, HasTerms, AreTermsBelow}
use Rattle.ss_terms.specs.Apart.{AreApart}
use Rattle.ss_linear_paths.specs.declared.edges.Edge.{Edge}
use Rattle.ss_linear_paths.specs.Edges.{label, HasNodes, AreSmall}
use Rattle.ss_linear_rules.specs.Two.{fact_at, is_difference, parts_left, are_opposite}
use Rattle.ss_linear_rules.specs.Valued.{fact_value, parts_at}
use Rattle.ss_linear_rules.specs.Nodes.{place, node_number, AreOnce, IsEnd, IsEdgeOf, HasEdges, IsNetwork, no_origin, origins_at}
use Rattle.ss_linear_rules.proofs.Networks.{edge_still, end_still, end_number, end_inside, place_most, place_first, place_past, place_last, once_pushed, got_last, got_place, none_once, zip_weaker}
use Rattle.ss_logic.proofs.Summed.{some_is}
use Rattle.ss_linear_network.specs.declared.nodes.Nodes.{Nodes}
use Rattle.ss_linear_network.specs.declared.network.Difference.{Difference}
use Rattle.ss_linear_network.specs.declared.network.Network.{Network}
use Rattle.ss_linear_network.specs.declared.network.Numbers.{Numbers}
use Rattle.ss_linear_network.specs.Made.{AreNodesOf, term_of, HasEnd, edges_of, places_of, IsDifferenceOf, IsSound, numbers_at}

either : (b : Bool) → (b ≡ true) ⊎ (b ≡ false)
either true = inl refl
either false = inr refl

-- ---- lists

append_nil : {A : Type 0} (xs : List A) → xs ++ [] ≡ xs
append_nil [] = refl
append_nil (x ∷ xs) = ap (λ ys. x ∷ ys) (append_nil xs)

assoc : {A : Type 0} (xs ys zs : List A) → (xs ++ ys) ++ zs ≡ xs ++ (ys ++ zs)
assoc [] ys zs = refl
assoc (x ∷ xs) ys zs = ap (λ r. x ∷ r) (assoc xs ys zs)

mapped_pushed : {A B : Type 0} (f : A → B) (xs : List A) (x : A) → map f (xs ++ x ∷ []) ≡ map f xs ++ f x ∷ []
mapped_pushed f [] x = refl
mapped_pushed f (y ∷ xs) x = ap (λ r. f y ∷ r) (mapped_pushed f xs x)

length_more : {A : Type 0} (xs ys : List A) → length (xs ++ ys) ≡ length xs + length ys
length_more [] ys = omega arith
length_more (x ∷ xs) ys = let h = length_more xs ys in omega arith

zip_more : {A B : Type 0} (R : A → B → Type 0) (xs : List A) (ys : List B) (zs : List A) (ws : List B) → AllZip R xs ys → AllZip R zs ws → AllZip R (xs ++ zs) (ys ++ ws)
zip_more R [] [] zs ws h k = k
zip_more R [] (y ∷ ys) zs ws h k = absurd h
zip_more R (x ∷ xs) [] zs ws h k = absurd h
zip_more R (x ∷ xs) (y ∷ ys) zs ws h k = (h.0, zip_more R xs ys zs ws h.1 k)

contains_first : {A : Type 0} (xs ys : List A) (x : A) → Contains xs x → Contains (xs ++ ys) x
contains_first xs ys x h = let e = length_more xs ys in let l = h.1 in (h.0, omega arith, kept xs ys h.0 x h.1 ∙ h.2)
  where
    kept : {A : Type 0} (xs ys : List A) (i : ℕ) (d : A) → i < length xs → get_or (xs ++ ys) i d ≡ get_or xs i d
    kept [] ys i d l = absurd (omega arith)
    kept (x ∷ xs) ys zero d l = refl
    kept (x ∷ xs) ys (suc i) d l = kept xs ys i d (omega arith)

contains_last : {A : Type 0} (xs ys : List A) (x : A) → Contains ys x → Contains (xs ++ ys) x
contains_last xs ys x h = let e = length_more xs ys in let l = h.1 in (length xs + h.0, omega arith, past xs ys h.0 x ∙ h.2)
  where
    past : {A : Type 0} (xs ys : List A) (i : ℕ) (d : A) → get_or (xs ++ ys) (length xs + i) d ≡ get_or ys i d
    past [] ys i d = ap (λ n. get_or ys n d) (omega arith)
    past (x ∷ xs) ys i d = let e : suc (length xs) + i ≡ suc (length xs + i) = omega arith in ap (λ n. get_or (x ∷ (xs ++ ys)) n d) e ∙ past xs ys i d

-- ---- terms with their nodes

have_pushed : (n : ℕ) (ts : List TermId) (t : TermId) → AreTermsBelow n ts → t.0 < n → AreTermsBelow n (ts ++ t ∷ [])
have_pushed n [] t h l = (l, tt)
have_pushed n (u ∷ ts) t h l = (h.0, have_pushed n ts t h.1 l)

pub no_nodes : (b : Forms) (n : Nodes) → n.terms.items ≡ [] → n.places.entries ≡ [] → AreNodesOf b n
no_nodes b n empty unplaced = record {
  terms = subst (λ (ts : List TermId). HasTerms b ts) (sym empty) tt;
  places = λ t l.
      ap (λ (o : Option ℕ). unwrap_or o (length n.terms.items)) (none t.0)
      ∙ ap length empty
      ∙ sym (ap (λ (ts : List TermId). place (terms_at b ts) (term_at b t)) empty);
  within = λ k p e. let is : None ≡ Some p = sym (none k) ∙ e in let no : ⊥ = cc in absurd no;
}
  where
    none : (k : ℕ) → get nat_eq n.places k ≡ None
    none k = ap (lookup (nat_eq k)) unplaced

-- what is looked up is the place, or there is none
pub looked_up : (b : Forms) (n : Nodes) (t : TermId) (o : Option ℕ) (at : ℕ) → AreNodesOf b n → HasTerm b t → get nat_eq n.places t.0 ≡ o → at ≡ unwrap_or o (length n.terms.items) → at ≡ place (terms_at b n.terms.items) (term_at b t)
looked_up b n t o at h l e is = is ∙ ap (λ (p : Option ℕ). unwrap_or p (length n.terms.items)) (sym e) ∙ h.places t l

pub place_within : (b : Forms) (ts : List TermId) (t : TermId) (at : ℕ) → at ≡ place (terms_at b ts) (term_at b t) → at ≤ length ts
place_within b ts t at e =
    let n = length-map ts (term_at b) in
    let most = place_most (terms_at b ts) (term_at b t) in
    omega arith

pub none_there : (b : Forms) (ts : List TermId) (t : TermId) (at : ℕ) → at ≡ place (terms_at b ts) (term_at b t) → length ts ≤ at → place (terms_at b ts) (term_at b t) ≡ length ts
none_there b ts t at e l = let most = place_within b ts t at e in omega arith

-- one more term, which is new
module _ (b : Forms) (apart : AreApart b) (old new : Nodes) (t : TermId) (h : AreNodesOf b old) (has : HasTerm b t) (unknown : place (terms_at b old.terms.items) (term_at b t) ≡ length old.terms.items)
    (pushed : new.terms.items ≡ old.terms.items ++ t ∷ []) (placed : (k : ℕ) → get nat_eq new.places k ≡ cond (eqb t.0 k) (Some (length old.terms.items)) (get nat_eq old.places k)) where
  as_many : length (terms_at b old.terms.items) ≡ length old.terms.items
  as_many = length-map old.terms.items (term_at b)

  longer : length new.terms.items ≡ suc (length old.terms.items)
  longer = let e = ap length pushed in let m = length_more old.terms.items (t ∷ []) in omega arith

  listed : terms_at b new.terms.items ≡ terms_at b old.terms.items ++ term_at b t ∷ []
  listed = ap (terms_at b) pushed ∙ mapped_pushed (term_at b) old.terms.items t

  last_place : place (terms_at b old.terms.items) (term_at b t) ≡ length (terms_at b old.terms.items)
  last_place = unknown ∙ sym as_many

  -- the term itself
  own_place : (u : TermId) → same_term (term_at b t) (term_at b u) ≡ true → length old.terms.items ≡ place (terms_at b old.terms.items ++ term_at b t ∷ []) (term_at b u)
  own_place u e =
      sym as_many
      ∙ sym (place_last (terms_at b old.terms.items) (term_at b t) last_place)
      ∙ ap (place (terms_at b old.terms.items ++ term_at b t ∷ [])) (equal_terms (term_at b t) (term_at b u) e)

  -- another one
  other_place : (u : TermId) → HasTerm b u → same_term (term_at b t) (term_at b u) ≡ false → (o : Option ℕ) → get nat_eq old.places u.0 ≡ o → unwrap_or o (length new.terms.items) ≡ place (terms_at b old.terms.items ++ term_at b t ∷ []) (term_at b u)
  other_place u l e (Some p) is =
      let inside : p < length old.terms.items = h.within u.0 p is in
      let at : p ≡ place (terms_at b old.terms.items) (term_at b u) = looked_up b old u (Some p) p h l is refl in
      let many = as_many in
      at ∙ sym (place_first (terms_at b old.terms.items) (term_at b t ∷ []) (term_at b u) (omega arith))
  other_place u l e None is =
      let at : length old.terms.items ≡ place (terms_at b old.terms.items) (term_at b u) = looked_up b old u None (length old.terms.items) h l is refl in
      longer ∙ ap suc (sym as_many) ∙ sym (place_past (terms_at b old.terms.items) (term_at b t) (term_at b u) (sym at ∙ sym as_many) e)

  more_places : (u : TermId) → HasTerm b u → unwrap_or (get nat_eq new.places u.0) (length new.terms.items) ≡ place (terms_at b new.terms.items) (term_at b u)
  more_places u l =
      ap (λ (o : Option ℕ). unwrap_or o (length new.terms.items)) (placed u.0)
      ∙ by_test (eqb t.0 u.0) (sym (apart.terms t u has l))
      ∙ sym (ap (λ (xs : List Term). place xs (term_at b u)) listed)
    where
      by_test : (c : Bool) → same_term (term_at b t) (term_at b u) ≡ c → unwrap_or (cond c (Some (length old.terms.items)) (get nat_eq old.places u.0)) (length new.terms.items) ≡ place (terms_at b old.terms.items ++ term_at b t ∷ []) (term_at b u)
      by_test true e = own_place u e
      by_test false e = other_place u l e (get nat_eq old.places u.0) refl

  more_within : (k p : ℕ) → get nat_eq new.places k ≡ Some p → p < length new.terms.items
  more_within k p e = by_test (eqb t.0 k) (sym (placed k) ∙ e)
    where
      by_test : (c : Bool) → cond c (Some (length old.terms.items)) (get nat_eq old.places k) ≡ Some p → p < length new.terms.items
      by_test true is = let same : length old.terms.items ≡ p = some_is (length old.terms.items) p is in let m = longer in omega arith
      by_test false is = let inside = h.within k p is in let m = longer in omega arith

  pub nodes_added : AreNodesOf b new
  nodes_added = record {
    terms = subst (λ (ts : List TermId). HasTerms b ts) (sym pushed) (have_pushed (length b.terms) old.terms.items t h.terms has);
    places = more_places;
    within = more_within;
  }

  pub end_added : (n : ℕ) → n ≡ suc (length old.terms.items) → HasEnd b old.terms.items new.terms.items (Some (term_at b t)) n
  end_added n size = record {
    more = (term_at b t ∷ [], listed);
    once = λ o. subst (λ (xs : List Term). AreOnce xs) (sym listed) (once_pushed (terms_at b old.terms.items) (term_at b t) last_place o);
    end = (length (terms_at b old.terms.items), size ∙ ap suc (sym as_many), ap (λ (xs : List Term). slice_get xs (length (terms_at b old.terms.items))) listed ∙ got_last (terms_at b old.terms.items) (term_at b t));
  }

-- ---- ends

pub no_end : (b : Forms) (ts : List TermId) → HasEnd b ts ts None 0
no_end b ts = record { more = ([], sym (append_nil (terms_at b ts))); once = λ o. o; end = refl }

pub end_found : (b : Forms) (ts : List TermId) (t : TermId) (at : ℕ) → at ≡ place (terms_at b ts) (term_at b t) → at < length ts → HasEnd b ts ts (Some (term_at b t)) (at + 1)
end_found b ts t at e l =
    let n = length-map ts (term_at b) in
    record {
      more = ([], sym (append_nil (terms_at b ts)));
      once = λ o. o;
      end = (at, omega arith, ap (λ i. slice_get (terms_at b ts) i) e ∙ got_place (terms_at b ts) (term_at b t) (omega arith));
    }

-- ---- numbers

and_right : (a b : Bool) → (a && b) ≡ true → b ≡ true
and_right true b h = h
and_right false b h = let no : ⊥ = cc in absurd no

negated_size : (z : ℤ) → unsigned_abs z < 2 ^ 64 → unsigned_abs (pos 0 -ℤ z) < 2 ^ 64
negated_size (pos zero) h = h
negated_size (pos (suc n)) h = subst (λ z. unsigned_abs z < 2 ^ 64) (let e : negsuc n ≡ pos 0 -ℤ pos (suc n) = omega (arith, ints) in e) h
negated_size (negsuc n) h = subst (λ z. unsigned_abs z < 2 ^ 64) (let e : pos (suc n) ≡ pos 0 -ℤ negsuc n = omega (arith, ints) in e) h

sized : (z : ℤ) → unsigned_abs z < 2 ^ 64 → (z <ℤ pos (2 ^ 64)) × (pos 0 <ℤ (z +ℤ pos (2 ^ 64)))
sized (pos n) h = (omega (arith, ints), omega (arith, ints))
sized (negsuc n) h = (omega (arith, ints), omega (arith, ints))

pub negated_fits : (z : ℤ) → unsigned_abs z < 2 ^ 64 → FitsSigned w128 (pos 0 -ℤ z)
negated_fits z h = let s = sized z h in omega (arith, ints, s.0, s.1)

-- ---- the edges of a difference

plain_weighs : (b : Bool) → is_weight b (pos 1) ≡ true
plain_weighs true = refl
plain_weighs false = refl

less_one_times : (z : ℤ) → negsuc 0 *ℤ z ≡ pos 0 -ℤ z
less_one_times z = omega (arith, ints, product_is (negsuc 0) z)

-- what the fact comes to
module _ (b : Forms) (cs : List ClassTree) (known : List Formula) (k : ℕ) (d : Difference) (xs : List Term) (m n : ℕ) (h : IsDifferenceOf b cs known k d) (from : IsEnd xs (term_of b d.plus) m) (to : IsEnd xs (term_of b d.minus) n) where
  value : (v : Term → ℤ) → fact_value v (fact_at cs known k) ≡ (node_number v xs n -ℤ node_number v xs m) +ℤ d.constant
  value v =
      let plus = end_number v xs (term_of b d.plus) m from in
      let minus = end_number v xs (term_of b d.minus) n to in
      let parts = h.parts v in
      let constant = h.constant in
      let said : fact_value v (fact_at cs known k) ≡ parts_at v h.fact.sum.parts +ℤ h.fact.sum.constant = ap (fact_value v) h.is in
      omega (arith, ints)

  small : unsigned_abs d.constant < 2 ^ 64
  small =
      let s : nat_lt (unsigned_abs h.fact.sum.constant) (2 ^ 64) ≡ true = and_right (are_opposite (parts_left h.fact.sum.parts)) (nat_lt (unsigned_abs h.fact.sum.constant) (2 ^ 64)) h.difference in
      subst (λ (z : ℤ). unsigned_abs z < 2 ^ 64) h.constant (ltb-true (unsigned_abs h.fact.sum.constant) (2 ^ 64) s)

  forth_edge : IsEdgeOf cs known xs (record { from = m; to = n; weight = pos 0 -ℤ d.constant }) (k, pos 1)
  forth_edge = record {
    from = end_inside xs (term_of b d.plus) m from;
    to = end_inside xs (term_of b d.minus) n to;
    small = negated_size d.constant small;
    used = record { fact = h.fact; is = h.is; difference = h.difference; weighs = plain_weighs h.fact.is_equality; unit = inl refl };
    value = λ v.
        let e = value v in
        let t = one_times (fact_value v (fact_at cs known k)) in
        omega (arith, ints);
  }

  back_edge : d.is_equality ≡ true → IsEdgeOf cs known xs (record { from = n; to = m; weight = d.constant }) (k, negsuc 0)
  back_edge eq = record {
    from = end_inside xs (term_of b d.minus) n to;
    to = end_inside xs (term_of b d.plus) m from;
    small = small;
    used = record { fact = h.fact; is = h.is; difference = h.difference; weighs = ap (λ c. is_weight c (negsuc 0)) (h.equality ∙ eq); unit = inr refl };
    value = λ v.
        let e = value v in
        let t = less_one_times (fact_value v (fact_at cs known k)) in
        omega (arith, ints);
  }

  pub made_edges : AllZip (IsEdgeOf cs known xs) (edges_of d m n) (places_of k d)
  made_edges = (forth_edge, by_test d.is_equality refl)
    where
      by_test : (c : Bool) → d.is_equality ≡ c → AllZip (IsEdgeOf cs known xs) (if c then record { from = n; to = m; weight = d.constant } ∷ [] else []) (if c then (k, negsuc 0) ∷ [] else [])
      by_test true eq = (back_edge eq, tt)
      by_test false eq = tt

  pub listed_edges : HasEdges cs known (places_of k d) k
  listed_edges fact is difference = (
    (0, omega arith, refl),
    λ eq.
        let same : h.fact ≡ fact = some_is h.fact fact (sym h.is ∙ is) in
        let equal : d.is_equality ≡ true = sym h.equality ∙ ap (λ (f : SumFact). f.is_equality) same ∙ eq in
        subst (λ (os : List (ℕ × ℤ)). Contains os (k, negsuc 0)) (sym (ap (λ c. (k, pos 1) ∷ (if c then (k, negsuc 0) ∷ [] else [])) equal)) (1, omega arith, refl),
  )

has_first : (cs : List ClassTree) (known : List Formula) (os ps : List (ℕ × ℤ)) (j : ℕ) → HasEdges cs known os j → HasEdges cs known (os ++ ps) j
has_first cs known os ps j h fact is d = (contains_first os ps (j, pos 1) (h fact is d).0, λ eq. contains_first os ps (j, negsuc 0) ((h fact is d).1 eq))

has_last : (cs : List ClassTree) (known : List Formula) (os ps : List (ℕ × ℤ)) (j : ℕ) → HasEdges cs known ps j → HasEdges cs known (os ++ ps) j
has_last cs known os ps j h fact is d = (contains_last os ps (j, pos 1) (h fact is d).0, λ eq. contains_last os ps (j, negsuc 0) ((h fact is d).1 eq))

-- the network with the edges of one more fact
network_more : (b : Forms) (cs : List ClassTree) (known : List Formula) (k : ℕ) (d : Difference) (xs ts : List Term) (es : List Edge) (os : List (ℕ × ℤ)) (m n : ℕ) → IsNetwork cs known xs es os k → IsDifferenceOf b cs known k d → AreOnce (xs ++ ts) → IsEnd (xs ++ ts) (term_of b d.plus) m → IsEnd (xs ++ ts) (term_of b d.minus) n → IsNetwork cs known (xs ++ ts) (es ++ edges_of d m n) (os ++ places_of k d) (k + 1)
network_more b cs known k d xs ts es os m n w h once from to = record {
  once = once;
  edges = zip_more (IsEdgeOf cs known (xs ++ ts)) es os (edges_of d m n) (places_of k d) (zip_weaker (IsEdgeOf cs known xs) (IsEdgeOf cs known (xs ++ ts)) (λ e o. edge_still cs known xs ts e o) es os w.edges) (made_edges b cs known k d (xs ++ ts) m n h from to);
  all = λ j l.
      ⊎_elim
      (λ t. let is : k ≡ j = sym (eqb-true j k t) in subst (λ i. HasEdges cs known (os ++ places_of k d) i) is (has_last cs known os (places_of k d) k (listed_edges b cs known k d (xs ++ ts) m n h from to)))
      (λ f.
      let differ : j ≢ k = (λ e. let g : eqb j k ≡ true = eq-eqb j k e in cc) in
      has_first cs known os (places_of k d) j (w.all j (omega arith)))
      (either (eqb j k));
}

-- what is made of a network by the next fact
pub network_added : (b : Forms) (cs : List ClassTree) (known : List Formula) (k : ℕ) (d : Difference) (ts us ws : List TermId) (es new_es : List Edge) (os new_os : List (ℕ × ℤ)) (m n : ℕ) → HasEnd b ts us (term_of b d.plus) m → HasEnd b us ws (term_of b d.minus) n → new_es ≡ es ++ edges_of d m n → new_os ≡ os ++ places_of k d → IsNetwork cs known (terms_at b ts) es os k → IsDifferenceOf b cs known k d → IsNetwork cs known (terms_at b ws) new_es new_os (k + 1)
network_added b cs known k d ts us ws es new_es os new_os m n plus minus edges origins w h =
    let all : terms_at b ws ≡ terms_at b ts ++ (plus.more.0 ++ minus.more.0) = minus.more.1 ∙ ap (λ (xs : List Term). xs ++ minus.more.0) plus.more.1 ∙ assoc (terms_at b ts) plus.more.0 minus.more.0 in
    let once : AreOnce (terms_at b ws) = minus.once (plus.once w.once) in
    let from : IsEnd (terms_at b ws) (term_of b d.plus) m = subst (λ (xs : List Term). IsEnd xs (term_of b d.plus) m) (sym minus.more.1) (end_still (terms_at b us) minus.more.0 (term_of b d.plus) m plus.end) in
    let made = network_more b cs known k d (terms_at b ts) (plus.more.0 ++ minus.more.0) es os m n w h
    (subst (λ (xs : List Term). AreOnce xs) all once)
    (subst (λ (xs : List Term). IsEnd xs (term_of b d.plus) m) all from)
    (subst (λ (xs : List Term). IsEnd xs (term_of b d.minus) n) all minus.end) in
    subst (λ (xs : List Term). IsNetwork cs known xs new_es new_os (k + 1)) (sym all)
    (subst (λ (x : List Edge). IsNetwork cs known (terms_at b ts ++ (plus.more.0 ++ minus.more.0)) x new_os (k + 1)) (sym edges)
    (subst (λ (o : List (ℕ × ℤ)). IsNetwork cs known (terms_at b ts ++ (plus.more.0 ++ minus.more.0)) (es ++ edges_of d m n) o (k + 1)) (sym origins) made))

-- a known fact that is no difference has no edge
pub network_passed : (cs : List ClassTree) (known : List Formula) (xs : List Term) (es : List Edge) (os : List (ℕ × ℤ)) (k : ℕ) → ((fact : SumFact) → fact_at cs known k ≡ Some fact → is_difference fact ≡ true → ⊥) → IsNetwork cs known xs es os k → IsNetwork cs known xs es os (k + 1)
network_passed cs known xs es os k none w = record {
  once = w.once;
  edges = w.edges;
  all = λ j l.
      ⊎_elim
      (λ t. let is : k ≡ j = sym (eqb-true j k t) in subst (λ i. HasEdges cs known os i) is (λ fact e d. absurd (none fact e d)))
      (λ f.
      let differ : j ≢ k = (λ e. let g : eqb j k ≡ true = eq-eqb j k e in cc) in
      w.all j (omega arith))
      (either (eqb j k));
}

pub no_network : (b : Forms) (cs : List ClassTree) (known : List Formula) → IsNetwork cs known [] [] [] 0
no_network b cs known = record { once = none_once; edges = tt; all = λ j l. absurd (omega arith) }

-- ---- it stays sound

more_nodes : (m n : ℕ) (es : List Edge) → m ≤ n → HasNodes m es → HasNodes n es
more_nodes m n es l h = λ i e b. let f = (h i e b).0 in let t = (h i e b).1 in (omega arith, omega arith)

made_nodes : (d : Difference) (m n q : ℕ) → m < q → n < q → HasNodes q (edges_of d m n)
made_nodes d m n q a b = All-cons (λ e. (e.from < q) × (e.to < q)) (record { from = m; to = n; weight = pos 0 -ℤ d.constant }) (if d.is_equality then record { from = n; to = m; weight = d.constant } ∷ [] else []) (a, b) (by_test d.is_equality)
  where
    by_test : (c : Bool) → HasNodes q (if c then record { from = n; to = m; weight = d.constant } ∷ [] else [])
    by_test true = All-cons (λ e. (e.from < q) × (e.to < q)) (record { from = n; to = m; weight = d.constant }) [] (b, a) (All-nil (λ e. (e.from < q) × (e.to < q)))
    by_test false = All-nil (λ e. (e.from < q) × (e.to < q))

made_small : (d : Difference) (m n : ℕ) → unsigned_abs d.constant < 2 ^ 64 → AreSmall (edges_of d m n)
made_small d m n h = All-cons (λ (e : Edge). unsigned_abs e.weight < 2 ^ 64) (record { from = m; to = n; weight = pos 0 -ℤ d.constant }) (if d.is_equality then record { from = n; to = m; weight = d.constant } ∷ [] else []) (negated_size d.constant h) (by_test d.is_equality)
  where
    by_test : (c : Bool) → AreSmall (if c then record { from = n; to = m; weight = d.constant } ∷ [] else [])
    by_test true = All-cons (λ (e : Edge). unsigned_abs e.weight < 2 ^ 64) (record { from = n; to = m; weight = d.constant }) [] h (All-nil (λ (e : Edge). unsigned_abs e.weight < 2 ^ 64))
    by_test false = All-nil (λ (e : Edge). unsigned_abs e.weight < 2 ^ 64)

made_same : (d : Difference) (k m n : ℕ) → length (edges_of d m n) ≡ length (places_of k d)
made_same d k m n = by_test d.is_equality
  where
    by_test : (c : Bool) → length {A = Edge} (record { from = m; to = n; weight = pos 0 -ℤ d.constant } ∷ (if c then record { from = n; to = m; weight = d.constant } ∷ [] else [])) ≡ length {A = ℕ × ℤ} ((k, pos 1) ∷ (if c then (k, negsuc 0) ∷ [] else []))
    by_test true = refl
    by_test false = refl

pub sound_added : (b : Forms) (k : ℕ) (d : Difference) (old new : Network) (us : List TermId) (m n : ℕ) → HasEnd b old.nodes.terms.items us (term_of b d.plus) m → HasEnd b us new.nodes.terms.items (term_of b d.minus) n → unsigned_abs d.constant < 2 ^ 64 → new.edges.items ≡ old.edges.items ++ edges_of d m n → new.origins.items ≡ old.origins.items ++ places_of k d → IsSound old → IsSound new
sound_added b k d old new us m n plus minus small edges origins s =
    let old_length = length-map old.nodes.terms.items (term_at b) in
    let mid_length = length-map us (term_at b) in
    let new_length = length-map new.nodes.terms.items (term_at b) in
    let first : length (terms_at b us) ≡ length (terms_at b old.nodes.terms.items) + length plus.more.0 = ap length plus.more.1 ∙ length_more (terms_at b old.nodes.terms.items) plus.more.0 in
    let second : length (terms_at b new.nodes.terms.items) ≡ length (terms_at b us) + length minus.more.0 = ap length minus.more.1 ∙ length_more (terms_at b us) minus.more.0 in
    let from = end_inside (terms_at b us) (term_of b d.plus) m plus.end in
    let to = end_inside (terms_at b new.nodes.terms.items) (term_of b d.minus) n minus.end in
    let q : length old.nodes.terms.items + 1 ≤ length new.nodes.terms.items + 1 = omega arith in
    let e = length_more old.edges.items (edges_of d m n) in
    let o = length_more old.origins.items (places_of k d) in
    let es = ap length edges in
    let os = ap length origins in
    let made = made_same d k m n in
    let same = s.places in
    record {
      nodes = subst (λ (x : List Edge). HasNodes (length new.nodes.terms.items + 1) x) (sym edges)
          (All-append (λ (e : Edge). (e.from < length new.nodes.terms.items + 1) × (e.to < length new.nodes.terms.items + 1)) old.edges.items (edges_of d m n)
          (more_nodes (length old.nodes.terms.items + 1) (length new.nodes.terms.items + 1) old.edges.items q s.nodes)
          (made_nodes d m n (length new.nodes.terms.items + 1) (omega arith) (omega arith)));
      small = subst (λ (x : List Edge). AreSmall x) (sym edges) (All-append (λ (e : Edge). unsigned_abs e.weight < 2 ^ 64) old.edges.items (edges_of d m n) s.small (made_small d m n small));
      places = omega arith;
    }

-- ---- results

pub on_three : {T E : Type 0} (r : Result T E) (A B C D : Type 0) → (A → B → C → D) → OnOk r A → OnOk r B → OnOk r C → OnOk r D
on_three (Ok x) A B C D f a b c = f a b c
on_three (Err e) A B C D f a b c = tt

-- ---- numbers of terms

pub some_if : (P : Type 0) (r : Option ℤ) (v w : ℤ) → SomeIff r P v → v ≡ w → IfSome r (λ z. z ≡ w)
some_if P None v w h e = tt
some_if P (Some x) v w h e = h.1 ∙ e

pub number_is : (b : Forms) (n : Numbers) (t : TermId) (at : ℕ) (x y : ℤ) → at ≡ place (terms_at b n.nodes.terms.items) (term_at b t) → x ≡ label n.labels.items 0 → y ≡ label n.labels.items (at + 1) → x -ℤ y ≡ numbers_at b n (term_at b t)
number_is b n t at x y e first own =
    let place_is : at + 1 ≡ suc (place (terms_at b n.nodes.terms.items) (term_at b t)) = omega arith in
    ap (λ z. z -ℤ y) first ∙ ap (λ z. label n.labels.items 0 -ℤ z) (own ∙ ap (label n.labels.items) place_is)

-- ---- the facts of edges

origins_pushed : (os : List (ℕ × ℤ)) (ks : List ℕ) (k : ℕ) → origins_at os (ks ++ k ∷ []) ≡ origins_at os ks ++ get_or os k no_origin ∷ []
origins_pushed os [] k = refl
origins_pushed os (j ∷ ks) k = ap (λ r. get_or os j no_origin ∷ r) (origins_pushed os ks k)

pub origins_more : (os : List (ℕ × ℤ)) (ks : List ℕ) (i : ℕ) → i < length ks → origins_at os (take (i + 1) ks) ≡ origins_at os (take i ks) ++ get_or os (get_or ks i 0) no_origin ∷ []
origins_more os ks i l = ap (origins_at os) (take_more ks i 0 l) ∙ origins_pushed os (take i ks) (get_or ks i 0)

-- two edges, pushed one after the other
pub pushed_two : {A : Type 0} (c : Bool) (xs ys zs : List A) (x y : A) → c ≡ true → ys ≡ xs ++ x ∷ [] → zs ≡ ys ++ y ∷ [] → zs ≡ xs ++ x ∷ (if c then y ∷ [] else [])
pushed_two c xs ys zs x y e a b = b ∙ ap (λ r. r ++ y ∷ []) a ∙ assoc xs (x ∷ []) (y ∷ []) ∙ ap (λ t. xs ++ x ∷ (if t then y ∷ [] else [])) (sym e)

pub pushed_one : {A : Type 0} (c : Bool) (xs ys : List A) (x y : A) → c ≡ false → ys ≡ xs ++ x ∷ [] → ys ≡ xs ++ x ∷ (if c then y ∷ [] else [])
pushed_one c xs ys x y e a = a ∙ ap (λ t. xs ++ x ∷ (if t then y ∷ [] else [])) (sym e)
