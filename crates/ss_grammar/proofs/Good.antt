-- Families of languages by level: each part of a grammar has these properties, which follow from those of its parts.
use Rattle.std.proofs.Common.{◌≡◌, ℕ, zero, suc, ◌+◌, List, [], ◌∷◌, ◌++◌, Option, Some, None, Bool, true, false, refl, sym, subst, arith}
use Rattle.std.specs.Prelude.{◌||◌, ◌&&◌}
use Rattle.ss_grammar.specs.Language.{Done, After, Take, Maybe, Bind, Times, Many, Inside, Starts}
use Rattle.ss_grammar.proofs.Facts.{Facts, Any, known, no_token, narrow, widen, done_facts, take_facts, maybe_facts, bind_facts, bind_facts_by, Apart, apart_by}

-- a higher level has all that a lower one has
abbrev pub Grows : {T A : Type 0} → (ℕ → List T → A → Type 0) → Type 0
Grows {T} {A} L = (d : ℕ) (ts : List T) (v : A) → L d ts v → L (suc d) ts v

-- a family whose lists have the facts at every level, whose levels grow, and which has a list at the lowest level
pub record Good {T A : Type 0} (L : ℕ → List T → A → Type 0) (first goes : T → Bool) (empty : Bool) : Type 0 where
  pub facts : Facts (Any L) first goes empty
  pub grows : Grows L
  pub some : Starts (L 0) []

pub some_at : {T A : Type 0} (L : ℕ → List T → A → Type 0) → Grows L → Starts (L 0) [] → (d : ℕ) → Starts (L d) []
some_at L grows some zero = some
some_at L grows some (suc d) =
    let s = some_at L grows some d in
    record { more = s.more; value = s.value; reads = grows d s.more s.value s.reads }

pub grown : {T A : Type 0} (L : ℕ → List T → A → Type 0) → Grows L → (k d : ℕ) (ts : List T) (v : A) → L d ts v → L (k + d) ts v
grown L grows zero d ts v p = let e : d ≡ zero + d = omega arith in subst (λ n. L n ts v) e p
grown L grows (suc k) d ts v p = let e : suc (k + d) ≡ suc k + d = omega arith in subst (λ n. L n ts v) e (grows (k + d) ts v (grown L grows k d ts v p))

-- ---- done

pub done_good : {T A : Type 0} (a : A) → Good (λ d. Done {T = T} {A = A} a) no_token no_token true
done_good {T} {A} a = record {
  facts = narrow (Done {T = T} {A = A} a) (Any (λ d. Done {T = T} {A = A} a)) no_token no_token true (λ ts v p. p.1) (done_facts a);
  grows = λ d ts v p. p;
  some = record { more = []; value = a; reads = (refl, refl) };
}

-- ---- one level deeper

any_inside : {T A : Type 0} (L : ℕ → List T → A → Type 0) (d : ℕ) (ts : List T) (v : A) → Inside L d ts v → Any L ts v
any_inside L zero ts v p = absurd p
any_inside L (suc d) ts v p = (d, p)

pub inside_facts : {T A : Type 0} (L : ℕ → List T → A → Type 0) (first goes : T → Bool) (empty : Bool) → Facts (Any L) first goes empty → Facts (Any (Inside L)) first goes empty
inside_facts L first goes empty f = narrow (Any L) (Any (Inside L)) first goes empty (λ ts v p. any_inside L p.0 ts v p.1) f

pub inside_grows : {T A : Type 0} (L : ℕ → List T → A → Type 0) → Grows L → Grows (Inside L)
inside_grows L grows zero ts v p = absurd p
inside_grows L grows (suc d) ts v p = grows d ts v p

-- ---- one token, and what is read after it

after_in : {T A B : Type 0} (o : Option B) (K M : B → List T → A → Type 0) → ((b : B) (ts : List T) (v : A) → K b ts v → M b ts v) → (ts : List T) (v : A) → After o K ts v → After o M ts v
after_in None K M h ts v p = p
after_in (Some b) K M h ts v p = h b ts v p

pub take_in : {T A B : Type 0} (f : T → Option B) (K M : B → List T → A → Type 0) → ((b : B) (ts : List T) (v : A) → K b ts v → M b ts v) → (ts : List T) (v : A) → Take f K ts v → Take f M ts v
take_in f K M h [] v p = p
take_in f K M h (t ∷ ts) v p = after_in (f t) K M h ts v p

pub maybe_in : {T A B : Type 0} (f : T → Option B) (K M : B → List T → A → Type 0) (a : A) → ((b : B) (ts : List T) (v : A) → K b ts v → M b ts v) → (ts : List T) (v : A) → Maybe f K a ts v → Maybe f M a ts v
maybe_in f K M a h [] v p = p
maybe_in f K M a h (t ∷ ts) v p = after_in (f t) K M h ts v p

module _ {T A B : Type 0} (f : T → Option B) (K : B → ℕ → List T → A → Type 0) (first goes : T → Bool) (empty : Bool) (facts : (b : B) → Facts (Any (K b)) first goes empty) (grows : (b : B) → Grows (K b)) where
  pub take_good : Starts (Take f (λ b. K b 0)) [] → Good (λ d. Take f (λ b. K b d)) (λ t. known (f t)) goes false
  take_good some = record {
    facts = narrow (Take f (λ b. Any (K b))) (Any (λ d. Take f (λ b. K b d))) (λ t. known (f t)) goes false (λ ts v p. take_in f (λ b. K b p.0) (λ b. Any (K b)) (λ b ts v q. (p.0, q)) ts v p.1) (take_facts f (λ b. Any (K b)) first goes empty facts);
    grows = λ d ts v p. take_in f (λ b. K b d) (λ b. K b (suc d)) (λ b ts v q. grows b d ts v q) ts v p;
    some = some;
  }

  pub maybe_good : (a : A) → Good (λ d. Maybe f (λ b. K b d) a) (λ t. known (f t)) (λ t. known (f t) || goes t) true
  maybe_good a = record {
    facts = narrow (Maybe f (λ b. Any (K b)) a) (Any (λ d. Maybe f (λ b. K b d) a)) (λ t. known (f t)) (λ t. known (f t) || goes t) true (λ ts v p. maybe_in f (λ b. K b p.0) (λ b. Any (K b)) a (λ b ts v q. (p.0, q)) ts v p.1) (maybe_facts f (λ b. Any (K b)) first goes empty facts a);
    grows = λ d ts v p. maybe_in f (λ b. K b d) (λ b. K b (suc d)) a (λ b ts v q. grows b d ts v q) ts v p;
    some = record { more = []; value = a; reads = refl };
  }

-- ---- one after the other

pub bind_in : {T A B : Type 0} (L M : List T → A → Type 0) (K N : A → List T → B → Type 0) → ((ts : List T) (v : A) → L ts v → M ts v) → ((a : A) (ts : List T) (v : B) → K a ts v → N a ts v) → (ts : List T) (v : B) → Bind L K ts v → Bind M N ts v
bind_in L M K N h i ts v p = record { first = p.first; front = p.front; back = p.back; parts = p.parts; reads = h p.front p.first p.reads; goes_on = i p.first p.back v p.goes_on }

pub bind_good_by : {T A B : Type 0} (L : ℕ → List T → A → Type 0) (K : A → ℕ → List T → B → Type 0) (first1 goes1 first2 goes2 : T → Bool) (empty1 empty2 : Bool) (one : Good L first1 goes1 empty1) (two : (a : A) → Good (K a) first2 goes2 empty2) (apart : Apart (Any L) (λ a. Any (K a))) → Good (λ d. Bind (L d) (λ a. K a d)) (λ t. first1 t || (empty1 && first2 t)) (λ t. goes2 t || (empty2 && goes1 t)) (empty1 && empty2)
bind_good_by L K first1 goes1 first2 goes2 empty1 empty2 one two apart = record {
  facts = narrow (Bind (Any L) (λ a. Any (K a))) (Any (λ d. Bind (L d) (λ a. K a d))) (λ t. first1 t || (empty1 && first2 t)) (λ t. goes2 t || (empty2 && goes1 t)) (empty1 && empty2) (λ ts v p. bind_in (L p.0) (Any L) (λ a. K a p.0) (λ a. Any (K a)) (λ ts v q. (p.0, q)) (λ a ts v q. (p.0, q)) ts v p.1) (bind_facts_by (Any L) (λ a. Any (K a)) first1 goes1 first2 goes2 empty1 empty2 one.facts (λ a. (two a).facts) apart);
  grows = λ d ts v p. bind_in (L d) (L (suc d)) (λ a. K a d) (λ a. K a (suc d)) (one.grows d) (λ a. (two a).grows d) ts v p;
  some =
      let l = one.some in
      let k = (two l.value).some in
      record { more = l.more ++ k.more; value = k.value; reads = record { first = l.value; front = l.more; back = k.more; parts = refl; reads = l.reads; goes_on = k.reads } };
}

pub bind_good : {T A B : Type 0} (L : ℕ → List T → A → Type 0) (K : A → ℕ → List T → B → Type 0) (first1 goes1 first2 goes2 : T → Bool) (empty1 empty2 : Bool) (one : Good L first1 goes1 empty1) (two : (a : A) → Good (K a) first2 goes2 empty2) (apart : (t : T) → goes1 t ≡ true → first2 t ≡ true → ⊥) → Good (λ d. Bind (L d) (λ a. K a d)) (λ t. first1 t || (empty1 && first2 t)) (λ t. goes2 t || (empty2 && goes1 t)) (empty1 && empty2)
bind_good L K first1 goes1 first2 goes2 empty1 empty2 one two apart = bind_good_by L K first1 goes1 first2 goes2 empty1 empty2 one two (apart_by (Any L) (λ a. Any (K a)) first1 goes1 first2 goes2 empty1 empty2 one.facts (λ a. (two a).facts) apart)

-- ---- any number of times

module _ {T A B R : Type 0} (f : T → Option B) (join : A → B → R → A) where
  pub times_in : (K M : B → List T → R → Type 0) → ((b : B) (ts : List T) (v : R) → K b ts v → M b ts v) → (n : ℕ) (a : A) (ts : List T) (v : A) → Times f K join n a ts v → Times f M join n a ts v
  times_in K M h zero a ts v p = p
  times_in K M h (suc n) a ts v p =
      maybe_in f (λ b. Bind (K b) (λ r. Times f K join n (join a b r))) (λ b. Bind (M b) (λ r. Times f M join n (join a b r))) a (λ b. bind_in (K b) (M b) (λ r. Times f K join n (join a b r)) (λ r. Times f M join n (join a b r)) (h b) (λ r. times_in K M h n (join a b r))) ts v p

  nil_maybe : (K : B → List T → A → Type 0) (a : A) (ts : List T) (v : A) → Done a ts v → Maybe f K a ts v
  nil_maybe K a [] v p = p.1
  nil_maybe K a (t ∷ ts) v p = absurd (let e : t ∷ ts ≡ [] = p.0 in cc)

  pub times_more : (K : B → List T → R → Type 0) (n : ℕ) (a : A) (ts : List T) (v : A) → Times f K join n a ts v → Times f K join (suc n) a ts v
  times_more K zero a ts v p = nil_maybe (λ b. Bind (K b) (λ r. Times f K join zero (join a b r))) a ts v p
  times_more K (suc n) a ts v p =
      maybe_in f (λ b. Bind (K b) (λ r. Times f K join n (join a b r))) (λ b. Bind (K b) (λ r. Times f K join (suc n) (join a b r))) a (λ b. bind_in (K b) (K b) (λ r. Times f K join n (join a b r)) (λ r. Times f K join (suc n) (join a b r)) (λ ts v q. q) (λ r. times_more K n (join a b r))) ts v p

  pub times_up : (K : B → List T → R → Type 0) (k n : ℕ) (a : A) (ts : List T) (v : A) → Times f K join n a ts v → Times f K join (k + n) a ts v
  times_up K k n a ts v p = grown (λ n. Times f K join n a) (λ n ts v p. times_more K n a ts v p) k n ts v p

module _ {T A B R : Type 0} (f : T → Option B) (join : A → B → R → A) (K : B → List T → R → Type 0) (first goes : T → Bool) (empty : Bool) (facts : (b : B) → Facts (K b) first goes empty) (apart : (t : T) → goes t ≡ true → known (f t) ≡ true → ⊥) where
  abbrev on : T → Bool
  on t = known (f t) || goes t

  wider_goes : (a b : Bool) → (a || ((a || b) || b)) ≡ true → (a || b) ≡ true
  wider_goes true b e = refl
  wider_goes false true e = refl
  wider_goes false false e = e

  times_facts : (n : ℕ) (a : A) → Facts (Times f K join n a) (λ t. known (f t)) on true
  times_facts zero a = widen (Done a) no_token no_token (λ t. known (f t)) on true (λ t e. absurd cc) (λ t e. absurd cc) (done_facts a)
  times_facts (suc n) a =
      let inner : (b : B) → Facts (Bind (K b) (λ r. Times f K join n (join a b r))) (λ t. first t || (empty && known (f t))) (λ t. on t || (true && goes t)) (empty && true) = λ b. bind_facts (K b) (λ r. Times f K join n (join a b r)) first goes (λ t. known (f t)) on empty true (facts b) (λ r. times_facts n (join a b r)) apart in
      widen (Times f K join (suc n) a) (λ t. known (f t)) (λ t. known (f t) || (on t || (true && goes t))) (λ t. known (f t)) on true (λ t e. e) (λ t e. wider_goes (known (f t)) (goes t) e) (maybe_facts f (λ b. Bind (K b) (λ r. Times f K join n (join a b r))) (λ t. first t || (empty && known (f t))) (λ t. on t || (true && goes t)) (empty && true) inner a)

  both_at : (n m : ℕ) (a : A) (ts : List T) (v : A) → Times f K join m a ts v → Times f K join (n + m) a ts v
  both_at n m a ts v p = times_up f join K n m a ts v p

  pub many_facts : (a : A) → Facts (Many f K join a) (λ t. known (f t)) on true
  many_facts a = record {
    one = λ u v w p q.
        let e : q.0 + p.0 ≡ p.0 + q.0 = omega arith in
        (times_facts (p.0 + q.0) a).one u v w (subst (λ n. Times f K join n a u v) e (both_at q.0 p.0 a u v p.1)) (both_at p.0 q.0 a u w q.1);
    firsts = λ t m v p. (times_facts p.0 a).firsts t m v p.1;
    goings = λ u t m v w p q.
        let e : q.0 + p.0 ≡ p.0 + q.0 = omega arith in
        (times_facts (p.0 + q.0) a).goings u t m v w (subst (λ n. Times f K join n a u v) e (both_at q.0 p.0 a u v p.1)) (both_at p.0 q.0 a (u ++ t ∷ m) w q.1);
    empties = λ v p. refl;
  }

pub many_good_of : {T A B R : Type 0} (f : T → Option B) (join : A → B → R → A) (K : B → ℕ → List T → R → Type 0) (first goes : T → Bool) (empty : Bool) (facts : (b : B) → Facts (Any (K b)) first goes empty) (grows : (b : B) → Grows (K b)) (apart : (t : T) → goes t ≡ true → known (f t) ≡ true → ⊥) (a : A) → Good (λ d. Many f (λ b. K b d) join a) (λ t. known (f t)) (λ t. known (f t) || goes t) true
many_good_of f join K first goes empty facts grows apart a = record {
  facts = narrow (Many f (λ b. Any (K b)) join a) (Any (λ d. Many f (λ b. K b d) join a)) (λ t. known (f t)) (λ t. known (f t) || goes t) true (λ ts v p. (p.1.0, times_in f join (λ b. K b p.0) (λ b. Any (K b)) (λ b ts v q. (p.0, q)) p.1.0 a ts v p.1.1)) (many_facts f join (λ b. Any (K b)) first goes empty facts apart a);
  grows = λ d ts v p. (p.0, times_in f join (λ b. K b d) (λ b. K b (suc d)) (λ b. grows b d) p.0 a ts v p.1);
  some = record { more = []; value = a; reads = (0, (refl, refl)) };
}

-- where each takes a token at least after the one that is known
pub many_good : {T A B R : Type 0} (f : T → Option B) (join : A → B → R → A) (K : B → ℕ → List T → R → Type 0) (first goes : T → Bool) (facts : (b : B) → Facts (Any (K b)) first goes false) (grows : (b : B) → Grows (K b)) (apart : (t : T) → goes t ≡ true → known (f t) ≡ true → ⊥) (a : A) → Good (λ d. Many f (λ b. K b d) join a) (λ t. known (f t)) (λ t. known (f t) || goes t) true
many_good f join K first goes facts grows apart a = many_good_of f join K first goes false facts grows apart a

-- one more turn is one of many
pub many_from : {T A B R : Type 0} (f : T → Option B) (join : A → B → R → A) (K : B → List T → R → Type 0) (a : A) (ts : List T) (v : A) → Maybe f (λ b. Bind (K b) (λ r. Many f K join (join a b r))) a ts v → Many f K join a ts v
many_from f join K a [] v p = (0, (refl, p))
many_from f join K a (t ∷ ts) v p = at (f t) refl
  where
    at : (o : Option _) → f t ≡ o → Many f K join a (t ∷ ts) v
    at None e = absurd (subst (λ o. After o (λ b. Bind (K b) (λ r. Many f K join (join a b r))) ts v) e p)
    at (Some b) e =
        let q = subst (λ o. After o (λ b. Bind (K b) (λ r. Many f K join (join a b r))) ts v) e p in
        let back : After (Some b) (λ b. Bind (K b) (λ r. Times f K join q.goes_on.0 (join a b r))) ts v = record { first = q.first; front = q.front; back = q.back; parts = q.parts; reads = q.reads; goes_on = q.goes_on.1 } in
        (suc q.goes_on.0, subst (λ o. After o (λ b. Bind (K b) (λ r. Times f K join q.goes_on.0 (join a b r))) ts v) (sym e) back)

pub many_to : {T A B R : Type 0} (f : T → Option B) (join : A → B → R → A) (K : B → List T → R → Type 0) (a : A) (n : ℕ) (ts : List T) (v : A) → Times f K join n a ts v → Maybe f (λ b. Bind (K b) (λ r. Many f K join (join a b r))) a ts v
many_to f join K a zero ts v p = nil_maybe f join (λ b. Bind (K b) (λ r. Many f K join (join a b r))) a ts v p
many_to f join K a (suc n) ts v p =
    maybe_in f (λ b. Bind (K b) (λ r. Times f K join n (join a b r))) (λ b. Bind (K b) (λ r. Many f K join (join a b r))) a (λ b. bind_in (K b) (K b) (λ r. Times f K join n (join a b r)) (λ r. Many f K join (join a b r)) (λ ts v q. q) (λ r ts v q. (n, q))) ts v p

-- ---- from each level by itself

pub any_facts : {T A : Type 0} (L : ℕ → List T → A → Type 0) (first goes : T → Bool) (empty : Bool) → Grows L → ((d : ℕ) → Facts (L d) first goes empty) → Facts (Any L) first goes empty
any_facts L first goes empty grows f = record {
  one = λ u v w p q.
      let e : q.0 + p.0 ≡ p.0 + q.0 = omega arith in
      (f (p.0 + q.0)).one u v w (subst (λ n. L n u v) e (grown L grows q.0 p.0 u v p.1)) (grown L grows p.0 q.0 u w q.1);
  firsts = λ t m v p. (f p.0).firsts t m v p.1;
  goings = λ u t m v w p q.
      let e : q.0 + p.0 ≡ p.0 + q.0 = omega arith in
      (f (p.0 + q.0)).goings u t m v w (subst (λ n. L n u v) e (grown L grows q.0 p.0 u v p.1)) (grown L grows p.0 q.0 (u ++ t ∷ m) w q.1);
  empties = λ v p. (f p.0).empties v p.1;
}

pub good_from : {T A : Type 0} (L : ℕ → List T → A → Type 0) (first goes : T → Bool) (empty : Bool) → ((d : ℕ) → Facts (L d) first goes empty) → Grows L → Starts (L 0) [] → Good L first goes empty
good_from L first goes empty f grows some = record { facts = any_facts L first goes empty grows f; grows = grows; some = some }

-- any token may come first, and nothing may be in it
abbrev pub any_token : {T : Type 0} → T → Bool
any_token t = true

pub loose : {T A : Type 0} (L : List T → A → Type 0) (first goes goes' : T → Bool) (empty : Bool) → ((t : T) → goes t ≡ true → goes' t ≡ true) → Facts L first goes empty → Facts L any_token goes' true
loose L first goes goes' empty gs f = record {
  one = f.one;
  firsts = λ t m v p. refl;
  goings = λ u t m v w p q. gs t (f.goings u t m v w p q);
  empties = λ v p. refl;
}

pub many_in : {T A B R : Type 0} (f : T → Option B) (join : A → B → R → A) (K M : B → List T → R → Type 0) → ((b : B) (ts : List T) (v : R) → K b ts v → M b ts v) → (a : A) (ts : List T) (v : A) → Many f K join a ts v → Many f M join a ts v
many_in f join K M h a ts v p = (p.0, times_in f join K M h p.0 a ts v p.1)
