-- How what is open and what is closed goes on, for parts built of parts: an open one goes on with a token that f knows, and
-- a closed one never does.
use Rattle.std.proofs.Common.{◌≡◌, ℕ, zero, suc, List, [], ◌∷◌, ◌++◌, Option, Some, None, Bool, true, false, refl, sym, ap, subst, ◌∙◌, append_assoc}
use Rattle.std.proofs.lemmas.List.{append-nil}
use Rattle.ss_grammar.specs.Language.{Done, After, Take, Bind, Starts}
use Rattle.ss_grammar.proofs.Facts.{Facts, Any, Apart, Cut, same, longer, shorter, cut, known}
use Rattle.ss_grammar.proofs.Good.{Good, some_at}
use Rattle.ss_grammar.proofs.KnotOpen.{Ends_open}
use Rattle.ss_grammar.proofs.Nearest.{Tail}
use Rattle.ss_grammar_expressions.specs.First.{Choose, Chosen}

module _ {T A B : Type 0} (f : T → Option B) (open_ : A → Bool) where
  -- nothing is open, and nothing goes on so
  pub never_open : (L : ℕ → List T → A → Type 0) (first goes : T → Bool) (empty : Bool) → Facts (Any L) first goes empty → ((t : T) → goes t ≡ true → known (f t) ≡ true → ⊥) → ((d : ℕ) (u : List T) (a : A) → L d u a → open_ a ≡ false) → Ends_open f open_ L
  never_open L first goes empty facts apart not_open = record {
    closed = λ u a t m c o p q k. apart t (facts.goings u t m a c p q) k;
    opened = λ d u a t o p k. absurd (let e : false ≡ true = sym (not_open d u a p) ∙ o in cc);
  }

  -- nothing is open
  abbrev pub Shut : (ℕ → List T → A → Type 0) → Type 0
  Shut L = (d : ℕ) (u : List T) (a : A) → L d u a → open_ a ≡ false

  pub done_shut : (v : A) → open_ v ≡ false → Shut (λ d. Done v)
  done_shut v e d u a p = ap open_ p.1 ∙ e

  pub bind_shut : {C : Type 0} (L : ℕ → List T → C → Type 0) (K : C → ℕ → List T → A → Type 0) → ((x : C) → Shut (K x)) → Shut (λ d. Bind (L d) (λ x. K x d))
  bind_shut L K each d u a p = each p.first d p.back a p.goes_on

  pub take_shut : {C : Type 0} (h : T → Option C) (L : C → ℕ → List T → A → Type 0) → ((b : C) → Shut (L b)) → Shut (λ d. Take h (λ b. L b d))
  take_shut h L each d [] a p = absurd p
  take_shut {C} h L each d (s ∷ u) a p = at (h s) p
    where
      at : (o : Option C) → After o (λ b. L b d) u a → open_ a ≡ false
      at None q = absurd q
      at (Some b) q = each b d u a q

  -- nothing stands at the lowest level
  pub above_ends : (L : ℕ → List T → A → Type 0) → ((u : List T) (a : A) → L 0 u a → ⊥) → Ends_open f open_ (λ d. L (suc d)) → Ends_open f open_ L
  above_ends L never r = record { closed = λ u a t m c o p q k. closed p.0 q.0 u a t m c o p.1 q.1 k; opened = opened }
    where
      closed : (d e : ℕ) (u : List T) (a : A) (t : T) (m : List T) (c : A) → open_ a ≡ false → L d u a → L e (u ++ t ∷ m) c → known (f t) ≡ true → ⊥
      closed zero e u a t m c o p q k = never u a p
      closed (suc d) zero u a t m c o p q k = never (u ++ t ∷ m) c q
      closed (suc d) (suc e) u a t m c o p q k = r.closed u a t m c o (d, p) (e, q) k

      opened : (d : ℕ) (u : List T) (a : A) (t : T) → open_ a ≡ true → L d u a → known (f t) ≡ true → Starts (L d) (u ++ t ∷ [])
      opened zero u a t o p k = absurd (never u a p)
      opened (suc d) u a t o p k = r.opened d u a t o p k

  -- the same language under another name
  pub same_ends : (L M : ℕ → List T → A → Type 0) → ((d : ℕ) (ts : List T) (v : A) → L d ts v → M d ts v) → ((d : ℕ) (ts : List T) (v : A) → M d ts v → L d ts v) → Ends_open f open_ L → Ends_open f open_ M
  same_ends L M to back r = record {
    closed = λ u a t m c o p q k. r.closed u a t m c o (p.0, back p.0 u a p.1) (q.0, back q.0 (u ++ t ∷ m) c q.1) k;
    opened = λ d u a t o p k.
        let s = r.opened d u a t o (back d u a p) k in
        record { more = s.more; value = s.value; reads = to d ((u ++ t ∷ []) ++ s.more) s.value s.reads };
  }

  -- a token, and what is after it
  module _ {C : Type 0} (h : T → Option C) (L : C → ℕ → List T → A → Type 0) (each : (b : C) → Ends_open f open_ (L b)) where
    after_closed : (o : Option C) (d e : ℕ) (u : List T) (a : A) (t : T) (m : List T) (c : A) → open_ a ≡ false → After o (λ b. L b d) u a → After o (λ b. L b e) (u ++ t ∷ m) c → known (f t) ≡ true → ⊥
    after_closed None d e u a t m c o p q k = p
    after_closed (Some b) d e u a t m c o p q k = (each b).closed u a t m c o (d, p) (e, q) k

    take_closed : (d e : ℕ) (u : List T) (a : A) (t : T) (m : List T) (c : A) → open_ a ≡ false → Take h (λ b. L b d) u a → Take h (λ b. L b e) (u ++ t ∷ m) c → known (f t) ≡ true → ⊥
    take_closed d e [] a t m c o p q k = p
    take_closed d e (s ∷ u) a t m c o p q k = after_closed (h s) d e u a t m c o p q k

    after_opened : (o : Option C) (d : ℕ) (u : List T) (a : A) (t : T) → open_ a ≡ true → After o (λ b. L b d) u a → known (f t) ≡ true → Starts (After o (λ b. L b d)) (u ++ t ∷ [])
    after_opened None d u a t o p k = absurd p
    after_opened (Some b) d u a t o p k =
        let s = (each b).opened d u a t o p k in
        record { more = s.more; value = s.value; reads = s.reads }

    take_opened : (d : ℕ) (u : List T) (a : A) (t : T) → open_ a ≡ true → Take h (λ b. L b d) u a → known (f t) ≡ true → Starts (Take h (λ b. L b d)) (u ++ t ∷ [])
    take_opened d [] a t o p k = absurd p
    take_opened d (s ∷ u) a t o p k =
        let r = after_opened (h s) d u a t o p k in
        record { more = r.more; value = r.value; reads = r.reads }

    pub take_ends : Ends_open f open_ (λ d. Take h (λ b. L b d))
    take_ends = record { closed = λ u a t m c o p q k. take_closed p.0 q.0 u a t m c o p.1 q.1 k; opened = take_opened }

  -- one or the other, by the first token
  module _ (h : T → Bool) (L M : ℕ → List T → A → Type 0) (one : Ends_open f open_ L) (two : Ends_open f open_ M) where
    chosen_closed : (b : Bool) (d e : ℕ) (u : List T) (a : A) (t : T) (m : List T) (c : A) → open_ a ≡ false → Chosen b (L d) (M d) u a → Chosen b (L e) (M e) (u ++ t ∷ m) c → known (f t) ≡ true → ⊥
    chosen_closed true d e u a t m c o p q k = one.closed u a t m c o (d, p) (e, q) k
    chosen_closed false d e u a t m c o p q k = two.closed u a t m c o (d, p) (e, q) k

    chosen_opened : (b : Bool) (d : ℕ) (u : List T) (a : A) (t : T) → open_ a ≡ true → Chosen b (L d) (M d) u a → known (f t) ≡ true → Starts (Chosen b (L d) (M d)) (u ++ t ∷ [])
    chosen_opened true d u a t o p k = one.opened d u a t o p k
    chosen_opened false d u a t o p k = two.opened d u a t o p k

    module _ (never : (d : ℕ) (v : A) → M d [] v → ⊥) where
      choose_closed : (d e : ℕ) (u : List T) (a : A) (t : T) (m : List T) (c : A) → open_ a ≡ false → Choose h (L d) (M d) u a → Choose h (L e) (M e) (u ++ t ∷ m) c → known (f t) ≡ true → ⊥
      choose_closed d e [] a t m c o p q k = never d a p
      choose_closed d e (s ∷ u) a t m c o p q k = chosen_closed (h s) d e (s ∷ u) a t m c o p q k

      choose_opened : (d : ℕ) (u : List T) (a : A) (t : T) → open_ a ≡ true → Choose h (L d) (M d) u a → known (f t) ≡ true → Starts (Choose h (L d) (M d)) (u ++ t ∷ [])
      choose_opened d [] a t o p k = absurd (never d a p)
      choose_opened d (s ∷ u) a t o p k =
          let r = chosen_opened (h s) d (s ∷ u) a t o p k in
          record { more = r.more; value = r.value; reads = r.reads }

      pub choose_ends : Ends_open f open_ (λ d. Choose h (L d) (M d))
      choose_ends = record { closed = λ u a t m c o p q k. choose_closed p.0 q.0 u a t m c o p.1 q.1 k; opened = choose_opened }

  -- a value made of one part
  module _ {C : Type 0} (open_of : C → Bool) (L : ℕ → List T → C → Type 0) (make : C → A) (kept : (x : C) → open_ (make x) ≡ open_of x) (ends : Ends_open f open_of L) where
    abbrev made : ℕ → List T → A → Type 0
    made d = Bind (L d) (λ x. Done (make x))

    whole_front : (d : ℕ) (u : List T) (a : A) (p : made d u a) → p.front ≡ u
    whole_front d u a p = sym (p.parts ∙ ap (λ y. p.front ++ y) p.goes_on.0 ∙ append-nil p.front)

    of_open : (d : ℕ) (u : List T) (a : A) (p : made d u a) → open_of p.first ≡ open_ a
    of_open d u a p = sym (ap open_ p.goes_on.1 ∙ kept p.first)

    pub made_ends : Ends_open f open_ made
    made_ends = record {
      closed = λ u a t m c o p q k.
          ends.closed u p.1.first t m q.1.first (of_open p.0 u a p.1 ∙ o) (p.0, subst (λ y. L p.0 y p.1.first) (whole_front p.0 u a p.1) p.1.reads) (q.0, subst (λ y. L q.0 y q.1.first) (whole_front q.0 (u ++ t ∷ m) c q.1) q.1.reads) k;
      opened = λ d u a t o p k.
          let s = ends.opened d u p.first t (of_open d u a p ∙ o) (subst (λ y. L d y p.first) (whole_front d u a p) p.reads) k in
          record { more = s.more; value = make s.value; reads = record { first = s.value; front = (u ++ t ∷ []) ++ s.more; back = []; parts = sym (append-nil ((u ++ t ∷ []) ++ s.more)); reads = s.reads; goes_on = (refl, refl) } };
    }

  -- one after the other: the second part ends the whole
  module _ {C : Type 0} (L : ℕ → List T → C → Type 0) (K : C → ℕ → List T → A → Type 0) (first1 goes1 : T → Bool) (empty1 : Bool) (one : Facts (Any L) first1 goes1 empty1) (apart : Apart (Any L) (λ x. Any (K x))) (ahead : (t : T) → goes1 t ≡ true → known (f t) ≡ true → ⊥) (each : (x : C) → Ends_open f open_ (K x)) where
    abbrev both : ℕ → List T → A → Type 0
    both d = Bind (L d) (λ x. K x d)

    first_longer : (d e : ℕ) (x y : C) (front back : List T) (a : A) (t s : T) (m z w : List T) → L d front x → L e (front ++ s ∷ z) y → K x d back a → back ++ t ∷ m ≡ s ∷ w → known (f t) ≡ true → ⊥
    first_longer d e x y front [] a t s m z w l l' p q k =
        let h : t ≡ s = cc in
        ahead t (one.goings front t z x y (d, l) (e, subst (λ r. L e (front ++ r ∷ z) y) (sym h) l')) k
    first_longer d e x y front (r ∷ back) a t s m z w l l' p q k =
        let h : r ≡ s = cc in
        apart front x s z y back a (d, l) (e, l') (d, subst (λ g. K x d (g ∷ back) a) h p)

    both_closed : (d e : ℕ) (u : List T) (a : A) (t : T) (m : List T) (c : A) → open_ a ≡ false → both d u a → both e (u ++ t ∷ m) c → known (f t) ≡ true → ⊥
    both_closed d e u a t m c o p q k = at (cut q.front p.front q.back (p.back ++ t ∷ m) (sym q.parts ∙ ap (λ y. y ++ t ∷ m) p.parts ∙ append_assoc p.front p.back (t ∷ m)))
      where
        at : Cut q.front p.front q.back (p.back ++ t ∷ m) → ⊥
        at (same i j) =
            let x : q.first ≡ p.first = one.one p.front q.first p.first (e, subst (λ y. L e y q.first) i q.reads) (d, p.reads) in
            (each p.first).closed p.back a t m c o (d, p.goes_on) (e, subst (λ y. K y e (p.back ++ t ∷ m) c) x (subst (λ y. K q.first e y c) j q.goes_on)) k
        at (longer s x i j) = first_longer d e p.first q.first p.front p.back a t s m x (x ++ q.back) p.reads (subst (λ y. L e y q.first) i q.reads) p.goes_on j k
        at (shorter s x i j) = apart q.front q.first s x p.first (x ++ (p.back ++ t ∷ m)) c (e, q.reads) (d, subst (λ y. L d y p.first) i p.reads) (e, subst (λ y. K q.first e y c) j q.goes_on)

    both_opened : (d : ℕ) (u : List T) (a : A) (t : T) → open_ a ≡ true → both d u a → known (f t) ≡ true → Starts (both d) (u ++ t ∷ [])
    both_opened d u a t o p k =
        let s = (each p.first).opened d p.back a t o p.goes_on k in
        let i : ((p.front ++ p.back) ++ t ∷ []) ++ s.more ≡ p.front ++ ((p.back ++ t ∷ []) ++ s.more) = simp append_assoc in
        let e : (u ++ t ∷ []) ++ s.more ≡ p.front ++ ((p.back ++ t ∷ []) ++ s.more) = ap (λ y. (y ++ t ∷ []) ++ s.more) p.parts ∙ i in
        record { more = s.more; value = s.value; reads = record { first = p.first; front = p.front; back = (p.back ++ t ∷ []) ++ s.more; parts = e; reads = p.reads; goes_on = s.reads } }

    pub both_ends : Ends_open f open_ both
    both_ends = record { closed = λ u a t m c o p q k. both_closed p.0 q.0 u a t m c o p.1 q.1 k; opened = both_opened }

  -- ---- a part with a tail that the nearest part has

  module _ (G : ℕ → List T → A → Type 0) (first goes : T → Bool) (good : Good G first goes false) (ends : Ends_open f open_ G) (alone : A → A) (two : A → A → A) (alone_open : (a : A) → open_ (alone a) ≡ true) (two_open : (a b : A) → open_ (two a b) ≡ open_ b) where
    abbrev pub side : A → B → ℕ → List T → A → Type 0
    side a b d = Bind (G d) (λ c. Done (two a c))

    abbrev tail : Bool → A → ℕ → List T → A → Type 0
    tail o a d = Tail f (side a) alone o a d

    abbrev pub tailed : ℕ → List T → A → Type 0
    tailed d = Bind (G d) (λ a. tail (open_ a) a d)

    record Second (x : A) (o : Bool) (d : ℕ) (back : List T) (a : A) : Type 0 where
      token : T
      more : List T
      inner : A
      parts : back ≡ token ∷ more
      begins : known (f token) ≡ true
      is_closed : o ≡ false
      made : a ≡ two x inner
      reads : G d more inner

    side_of : (x : A) (d : ℕ) (s : T) (z : List T) (a : A) (o : Option B) → f s ≡ o → After o (λ b. side x b d) z a → Second x false d (s ∷ z) a
    side_of x d s z a None e p = absurd p
    side_of x d s z a (Some b) e p =
        let h : z ≡ p.front = p.parts ∙ ap (λ y. p.front ++ y) p.goes_on.0 ∙ append-nil p.front in
        record { token = s; more = z; inner = p.first; parts = refl; begins = ap known e; is_closed = refl; made = p.goes_on.1; reads = subst (λ y. G d y p.first) (sym h) p.reads }

    -- a tail that isn't empty
    second : (o : Bool) (x : A) (d : ℕ) (s : T) (z : List T) (a : A) → tail o x d (s ∷ z) a → Second x o d (s ∷ z) a
    second true x d s z a p = absurd (let e : s ∷ z ≡ [] = p.0 in cc)
    second false x d s z a p = side_of x d s z a (f s) refl p

    -- a tail whose whole is closed
    closed_second : (o : Bool) (x : A) (d : ℕ) (back : List T) (a : A) → open_ a ≡ false → tail o x d back a → Second x o d back a
    closed_second true x d back a c p = absurd (let e : true ≡ false = sym (alone_open x) ∙ sym (ap open_ p.1) ∙ c in cc)
    closed_second false x d [] a c p = absurd (let e : true ≡ false = sym (alone_open x) ∙ sym (ap open_ p) ∙ c in cc)
    closed_second false x d (s ∷ z) a c p = second false x d s z a p

    tailed_closed : (d e : ℕ) (u : List T) (a : A) (t : T) (m : List T) (c : A) → open_ a ≡ false → tailed d u a → tailed e (u ++ t ∷ m) c → known (f t) ≡ true → ⊥
    tailed_closed d e u a t m c o p q k = at (cut q.front p.front q.back (p.back ++ t ∷ m) (sym q.parts ∙ ap (λ y. y ++ t ∷ m) p.parts ∙ append_assoc p.front p.back (t ∷ m)))
      where
        r : Second p.first (open_ p.first) d p.back a
        r = closed_second (open_ p.first) p.first d p.back a o p.goes_on

        at : Cut q.front p.front q.back (p.back ++ t ∷ m) → ⊥
        at (same i j) =
            let b : q.back ≡ r.token ∷ (r.more ++ t ∷ m) = j ∙ ap (λ y. y ++ t ∷ m) r.parts in
            let s = second (open_ q.first) q.first e r.token (r.more ++ t ∷ m) c (subst (λ y. tail (open_ q.first) q.first e y c) b q.goes_on) in
            let g : r.more ++ t ∷ m ≡ s.more = (let h : r.token ∷ (r.more ++ t ∷ m) ≡ s.token ∷ s.more = s.parts in cc) in
            ends.closed r.more r.inner t m s.inner (sym (two_open p.first r.inner) ∙ sym (ap open_ r.made) ∙ o) (d, r.reads) (e, subst (λ y. G e y s.inner) (sym g) s.reads) k
        at (longer s x i j) =
            let b : r.token ∷ (r.more ++ t ∷ m) ≡ s ∷ (x ++ q.back) = sym (ap (λ y. y ++ t ∷ m) r.parts) ∙ j in
            let h : r.token ≡ s = cc in
            ends.closed p.front p.first s x q.first r.is_closed (d, p.reads) (e, subst (λ y. G e y q.first) i q.reads) (subst (λ y. known (f y) ≡ true) h r.begins)
        at (shorter s x i j) =
            let v = second (open_ q.first) q.first e s (x ++ (p.back ++ t ∷ m)) c (subst (λ y. tail (open_ q.first) q.first e y c) j q.goes_on) in
            let h : v.token ≡ s = (let g : s ∷ (x ++ (p.back ++ t ∷ m)) ≡ v.token ∷ v.more = v.parts in cc) in
            ends.closed q.front q.first s x p.first v.is_closed (e, q.reads) (d, subst (λ y. G d y p.first) i p.reads) (subst (λ y. known (f y) ≡ true) h v.begins)

    no_tail : (o : Bool) (x : A) (d : ℕ) → tail o x d [] (alone x)
    no_tail true x d = (refl, refl)
    no_tail false x d = refl

    make_side : (d : ℕ) (x y : A) (t : T) (z : List T) → known (f t) ≡ true → G d z y → tail false x d (t ∷ z) (two x y)
    make_side d x y t z k l = at (f t) k
      where
        at : (o : Option B) → known o ≡ true → After o (λ b. side x b d) z (two x y)
        at None h = absurd cc
        at (Some b) h = record { first = y; front = z; back = []; parts = sym (append-nil z); reads = l; goes_on = (refl, refl) }

    make_tailed : (d : ℕ) (fr z : List T) (x y : A) (t : T) → known (f t) ≡ true → G d fr x → open_ x ≡ false → G d z y → tailed d (fr ++ t ∷ z) (two x y)
    make_tailed d fr z x y t k l c g = record { first = x; front = fr; back = t ∷ z; parts = refl; reads = l; goes_on = subst (λ o. tail o x d (t ∷ z) (two x y)) (sym c) (make_side d x y t z k g) }

    goes_open : (d : ℕ) (fr bk : List T) (x a : A) (t : T) → known (f t) ≡ true → G d fr x → (o : Bool) → open_ x ≡ o → tail o x d bk a → open_ a ≡ true → Starts (tailed d) ((fr ++ bk) ++ t ∷ [])
    goes_open d fr bk x a t k l true c p h =
        let s = ends.opened d fr x t c l k in
        let e : fr ≡ fr ++ bk = sym (append-nil fr) ∙ ap (λ y. fr ++ y) (sym p.0) in
        subst (λ y. Starts (tailed d) (y ++ t ∷ [])) e (record { more = s.more; value = alone s.value; reads = record { first = s.value; front = (fr ++ t ∷ []) ++ s.more; back = []; parts = sym (append-nil ((fr ++ t ∷ []) ++ s.more)); reads = s.reads; goes_on = no_tail (open_ s.value) s.value d } })
    goes_open d fr [] x a t k l false c p h =
        let s = some_at G good.grows good.some d in
        let e : fr ++ t ∷ s.more ≡ ((fr ++ []) ++ t ∷ []) ++ s.more = ap (λ y. y ++ t ∷ s.more) (sym (append-nil fr)) ∙ sym (append_assoc (fr ++ []) (t ∷ []) s.more) in
        record { more = s.more; value = two x s.value; reads = subst (λ y. tailed d y (two x s.value)) e (make_tailed d fr s.more x s.value t k l c s.reads) }
    goes_open d fr (r ∷ bk) x a t k l false c p h =
        let v = second false x d r bk a p in
        let j : r ∷ bk ≡ v.token ∷ v.more = v.parts in
        let s = ends.opened d v.more v.inner t (sym (two_open x v.inner) ∙ sym (ap open_ v.made) ∙ h) v.reads k in
        let i : fr ++ v.token ∷ ((v.more ++ t ∷ []) ++ s.more) ≡ ((fr ++ v.token ∷ v.more) ++ t ∷ []) ++ s.more = simp append_assoc in
        let e : fr ++ v.token ∷ ((v.more ++ t ∷ []) ++ s.more) ≡ ((fr ++ r ∷ bk) ++ t ∷ []) ++ s.more = i ∙ ap (λ y. ((fr ++ y) ++ t ∷ []) ++ s.more) (sym j) in
        record { more = s.more; value = two x s.value; reads = subst (λ y. tailed d y (two x s.value)) e (make_tailed d fr ((v.more ++ t ∷ []) ++ s.more) x s.value v.token v.begins l c s.reads) }

    tailed_opened : (d : ℕ) (u : List T) (a : A) (t : T) → open_ a ≡ true → tailed d u a → known (f t) ≡ true → Starts (tailed d) (u ++ t ∷ [])
    tailed_opened d u a t h p k = subst (λ y. Starts (tailed d) (y ++ t ∷ [])) (sym p.parts) (goes_open d p.front p.back p.first a t k p.reads (open_ p.first) refl p.goes_on h)

    pub tailed_ends : Ends_open f open_ tailed
    tailed_ends = record { closed = λ u a t m c o p q k. tailed_closed p.0 q.0 u a t m c o p.1 q.1 k; opened = tailed_opened }
