-- A tail that belongs to the nearest part that can have it, as `else` does.
use Rattle.std.proofs.Common.{◌≡◌, ℕ, ◌<◌, List, [], ◌∷◌, ◌++◌, Option, Some, None, Result, Ok, Bool, true, false, refl, sym, ap, subst, append_assoc}
use Rattle.std.specs.Prelude.{◌||◌, ◌&&◌}
use Rattle.ss_grammar.specs.declared.fault.Fault.{Fault}
use Rattle.ss_grammar.specs.Language.{Done, Maybe, Bind, Starts, Ends, Finds}
use Rattle.ss_grammar.specs.Reading.{◌>>=◌, maybe, after}
use Rattle.ss_grammar.proofs.Facts.{Any, Apart, known}
use Rattle.ss_grammar.proofs.Good.{Good, bind_good_by}
use Rattle.ss_grammar.proofs.Finding.{find_done, find_bind_by, find_maybes}
use Rattle.ss_grammar.proofs.Knot.{ReadsTo}

-- a part that is open can have the tail itself, so here it stands alone
abbrev pub Tail : {T A B C : Type 0} → (T → Option B) → (B → ℕ → List T → C → Type 0) → (A → C) → Bool → A → ℕ → List T → C → Type 0
Tail f K alone true a d = Done (alone a)
Tail f K alone false a d = Maybe f (λ b. K b d) (alone a)

module _ {T A B C : Type 0} (f : T → Option B) (L : ℕ → List T → A → Type 0) (open_ : A → Bool) (first goes : T → Bool) (alone : A → C) (K : A → B → ℕ → List T → C → Type 0) (first2 goes2 : T → Bool) (tail : (a : A) → Good (λ d. Tail f (K a) alone (open_ a) a d) (λ t. known (f t)) goes2 true)
    -- what isn't open never goes on with the tail's first token, and what is open does at some level
    (closed : (u : List T) (a : A) (t : T) (m : List T) (c : A) → open_ a ≡ false → Any L u a → Any L (u ++ t ∷ m) c → known (f t) ≡ true → ⊥)
    (opened : (u : List T) (a : A) (t : T) → open_ a ≡ true → Any L u a → known (f t) ≡ true → (e : ℕ) × Starts (L e) (u ++ t ∷ [])) where
  abbrev tails : A → ℕ → List T → C → Type 0
  tails a d = Tail f (K a) alone (open_ a) a d

  none_open : (a : A) (o : Bool) (d : ℕ) (t : T) (z : List T) (v : C) → Tail f (K a) alone o a d (t ∷ z) v → o ≡ false
  none_open a true d t z v p = absurd (let e : t ∷ z ≡ [] = p.0 in cc)
  none_open a false d t z v p = refl

  tail_apart : Apart (Any L) (λ a. Any (tails a))
  tail_apart u a t m c z v l l' k =
      closed u a t m c (none_open a (open_ a) k.0 t z v k.1) l l' ((tail a).facts.firsts t z v k)

  pub nearest_good : Good L first goes false → Good (λ d. Bind (L d) (λ a. tails a d)) (λ t. first t || (false && known (f t))) (λ t. goes2 t || (true && goes t)) (false && true)
  nearest_good g = bind_good_by L tails first goes (λ t. known (f t)) goes2 false true g tail tail_apart

  module _ (n : ℕ) (p : ℕ → List T → Result (A × List T) (Fault × List T)) (k : A → B → ℕ → List T → Result (C × List T) (Fault × List T)) (one : ReadsTo n L first goes false p) (two : (a : A) (b : B) (d : ℕ) → d < n → (ts : List T) → Finds (K a b) d ts (k a b d ts)) where
    -- an open part has taken every tail that it could
    no_tail : (d : ℕ) (front : List T) (a : A) (t : T) (rest : List T) → open_ a ≡ true → L d front a → ((e : ℕ) → Ends (L e) front (t ∷ rest)) → (o : Option B) → f t ≡ o → o ≡ None
    no_tail d front a t rest e l en None h = refl
    no_tail d front a t rest e l en (Some b) h =
        let s = opened front a t e (d, l) (ap known h) in
        absurd (en s.0 s.1.more s.1.value (subst (λ y. L s.0 y s.1.value) (append_assoc front (t ∷ []) s.1.more) s.1.reads))

    open_tail : (d : ℕ) (front : List T) (a : A) (ts : List T) → open_ a ≡ true → L d front a → ((e : ℕ) → Ends (L e) front ts) → maybe f (λ b. k a b d) (alone a) ts ≡ Ok (alone a, ts)
    open_tail d front a [] e l en = refl
    open_tail d front a (t ∷ rest) e l en = ap (λ o. after o (λ b. k a b d) (Ok (alone a, t ∷ rest)) rest) (no_tail d front a t rest e l en (f t) refl)

    find_tail : (d : ℕ) → d < n → (front : List T) (a : A) (ts : List T) → L d front a → ((e : ℕ) → Ends (L e) front ts) → (o : Bool) → open_ a ≡ o → Finds (λ d. Tail f (K a) alone o a d) d ts (maybe f (λ b. k a b d) (alone a) ts)
    find_tail d lt front a ts l en true e = subst (λ r. Finds (λ d. Done (alone a)) d ts r) (sym (open_tail d front a ts e l en)) (find_done (alone a) d ts)
    find_tail d lt front a ts l en false e = find_maybes f (K a) (λ b. k a b d) (alone a) d ts (λ b t rest q. two a b d lt rest)

    pub find_nearest : (d : ℕ) → d < n → (ts : List T) → Finds (λ d. Bind (L d) (λ a. tails a d)) d ts (p d ts >>= λ x. maybe f (λ b. k x.0 b d) (alone x.0) x.1)
    find_nearest d lt ts =
        find_bind_by L tails first goes (λ t. known (f t)) goes2 false true one.good tail tail_apart d ts (p d ts) (λ x. maybe f (λ b. k x.0 b d) (alone x.0) x.1) (one.finds d lt ts) (λ a front rest e l en. find_tail d lt front a rest l en (open_ a) refl)
