-- Each way of reading finds what its language says, where the readers of its parts are right below a level.
use Rattle.std.proofs.Common.{◌≡◌, ℕ, zero, suc, ◌<◌, List, [], ◌∷◌, length, Option, Some, None, Result, Ok, Err, Bool, true, false, refl, sym, subst, arith}
use Rattle.std.specs.Prelude.{◌||◌, ◌&&◌}
use Rattle.ss_grammar.specs.declared.fault.Fault.{Fault}
use Rattle.ss_grammar.specs.declared.fault.Fault.TheVariants.{Expected, TooDeep}
use Rattle.ss_grammar.specs.Language.{Done, Take, Maybe, Bind, Many, Inside, Starts, Finds}
use Rattle.ss_grammar.specs.Reading.{◌>>=◌, take, maybe, times}
use Rattle.ss_grammar.proofs.Knot.{ReadsTo}
use Rattle.ss_grammar.proofs.Facts.{Facts, Any, known, no_token, narrow}
use Rattle.ss_grammar.proofs.Good.{Good, Grows, inside_facts, inside_grows, done_good, take_good, maybe_good, bind_good, many_good, any_token, some_at}
use Rattle.ss_grammar.proofs.Finding.{find_same, find_take, find_none, find_nil, find_deep, find_inside, find_done, find_takes, find_maybes, find_bind, find_many}

pub wide : {T A : Type 0} (L : ℕ → List T → A → Type 0) (first goes first' goes' : T → Bool) (empty empty' : Bool) → ((t : T) → first t ≡ true → first' t ≡ true) → ((t : T) → goes t ≡ true → goes' t ≡ true) → (empty ≡ true → empty' ≡ true) → Good L first goes empty → Good L first' goes' empty'
wide L first goes first' goes' empty empty' fs gs es g = record {
  facts = record { one = g.facts.one; firsts = λ t m v p. fs t (g.facts.firsts t m v p); goings = λ u t m v w p q. gs t (g.facts.goings u t m v w p q); empties = λ v p. es (g.facts.empties v p) };
  grows = g.grows;
  some = g.some;
}

-- whichever token it begins with
pub to_any : {T A : Type 0} (n : ℕ) (L : ℕ → List T → A → Type 0) (first goes : T → Bool) (p : ℕ → List T → Result (A × List T) (Fault × List T)) → ReadsTo n L first goes false p → ReadsTo n L any_token goes false p
to_any n L first goes p r = record { good = wide L first goes any_token goes false false (λ t e. refl) (λ t e. e) (λ e. e) r.good; finds = r.finds }

pub to_done : {T A : Type 0} (n : ℕ) (a : A) → ReadsTo n (λ d. Done {T = T} a) no_token no_token true (λ d ts. Ok (a, ts))
to_done n a = record { good = done_good a; finds = λ d lt ts. find_done a d ts }

pub to_take : {T A B : Type 0} (n : ℕ) (f : T → Option B) (K : B → ℕ → List T → A → Type 0) (first goes : T → Bool) (empty : Bool) (k : B → ℕ → List T → Result (A × List T) (Fault × List T)) → ((b : B) → ReadsTo n (K b) first goes empty (k b)) → (t : T) (b : B) → f t ≡ Some b → ReadsTo n (λ d. Take f (λ b. K b d)) (λ t. known (f t)) goes false (λ d. take f (λ b. k b d))
to_take n f K first goes empty k r t b e =
    let s : Starts (Take f (λ b. K b 0)) [] = record { more = t ∷ (r b).good.some.more; value = (r b).good.some.value; reads = rw e ((r b).good.some.reads) } in
    let g = take_good f K first goes empty (λ b. (r b).good.facts) (λ b. (r b).good.grows) s in
    record { good = g; finds = λ d lt ts. find_takes f K (λ b. k b d) d (some_at (λ d. Take f (λ b. K b d)) g.grows g.some d) ts (λ b t rest e. (r b).finds d lt rest) }

or_false : (a b : Bool) → (a || (false && b)) ≡ true → a ≡ true
or_false true b e = refl
or_false false b e = e

-- both parts take a token at least
pub to_maybe : {T A B : Type 0} (n : ℕ) (f : T → Option B) (K : B → ℕ → List T → A → Type 0) (first goes : T → Bool) (k : B → ℕ → List T → Result (A × List T) (Fault × List T)) → ((b : B) → ReadsTo n (K b) first goes false (k b)) → (a : A) → ReadsTo n (λ d. Maybe f (λ b. K b d) a) (λ t. known (f t)) (λ t. known (f t) || goes t) true (λ d. maybe f (λ b. k b d) a)
to_maybe n f K first goes k r a = record {
  good = maybe_good f K first goes false (λ b. (r b).good.facts) (λ b. (r b).good.grows) a;
  finds = λ d lt ts. find_maybes f K (λ b. k b d) a d ts (λ b t rest e. (r b).finds d lt rest);
}

-- the second part may be empty
pub to_opt : {T A B : Type 0} (n : ℕ) (L : ℕ → List T → A → Type 0) (K : A → ℕ → List T → B → Type 0) (first1 goes1 first2 goes2 : T → Bool) (p : ℕ → List T → Result (A × List T) (Fault × List T)) (k : A → ℕ → List T → Result (B × List T) (Fault × List T)) → ReadsTo n L first1 goes1 false p → ((a : A) → ReadsTo n (K a) first2 goes2 true (k a)) → ((t : T) → goes1 t ≡ true → first2 t ≡ true → ⊥) → ReadsTo n (λ d. Bind (L d) (λ a. K a d)) first1 (λ t. goes2 t || goes1 t) false (λ d ts. p d ts >>= λ x. k x.0 d x.1)
to_opt n L K first1 goes1 first2 goes2 p k one two apart = record {
  good = wide (λ d. Bind (L d) (λ a. K a d)) (λ t. first1 t || (false && first2 t)) (λ t. goes2 t || (true && goes1 t)) first1 (λ t. goes2 t || goes1 t) (false && true) false (λ t e. or_false (first1 t) (first2 t) e) (λ t e. e) (λ e. e) (bind_good L K first1 goes1 first2 goes2 false true one.good (λ a. (two a).good) apart);
  finds = λ d lt ts. find_bind L K first1 goes1 first2 goes2 false true one.good (λ a. (two a).good) apart d ts (p d ts) (λ x. k x.0 d x.1) (one.finds d lt ts) (λ a front rest e. (two a).finds d lt rest);
}

pub to_then : {T A B : Type 0} (n : ℕ) (L : ℕ → List T → A → Type 0) (K : A → ℕ → List T → B → Type 0) (first1 goes1 first2 goes2 : T → Bool) (p : ℕ → List T → Result (A × List T) (Fault × List T)) (k : A → ℕ → List T → Result (B × List T) (Fault × List T)) → ReadsTo n L first1 goes1 false p → ((a : A) → ReadsTo n (K a) first2 goes2 false (k a)) → ((t : T) → goes1 t ≡ true → first2 t ≡ true → ⊥) → ReadsTo n (λ d. Bind (L d) (λ a. K a d)) first1 goes2 false (λ d ts. p d ts >>= λ x. k x.0 d x.1)
to_then n L K first1 goes1 first2 goes2 p k one two apart = record {
  good = wide (λ d. Bind (L d) (λ a. K a d)) (λ t. first1 t || (false && first2 t)) (λ t. goes2 t || (false && goes1 t)) first1 goes2 (false && false) false (λ t e. or_false (first1 t) (first2 t) e) (λ t e. or_false (goes2 t) (goes1 t) e) (λ e. e) (bind_good L K first1 goes1 first2 goes2 false false one.good (λ a. (two a).good) apart);
  finds = λ d lt ts. find_bind L K first1 goes1 first2 goes2 false false one.good (λ a. (two a).good) apart d ts (p d ts) (λ x. k x.0 d x.1) (one.finds d lt ts) (λ a front rest e. (two a).finds d lt rest);
}

-- a value made of one part
pub to_as : {T A B : Type 0} (n : ℕ) (L : ℕ → List T → A → Type 0) (first goes : T → Bool) (p : ℕ → List T → Result (A × List T) (Fault × List T)) (f : A → B) → ReadsTo n L first goes false p → ReadsTo n (λ d. Bind (L d) (λ a. Done (f a))) first goes false (λ d ts. p d ts >>= λ x. Ok (f x.0, x.1))
to_as n L first goes p f one = record {
  good = wide (λ d. Bind (L d) (λ a. Done (f a))) (λ t. first t || (false && no_token t)) (λ t. no_token t || (true && goes t)) first goes (false && true) false (λ t e. or_false (first t) (no_token t) e) (λ t e. e) (λ e. e) (bind_good L (λ a d. Done (f a)) first goes no_token no_token false true one.good (λ a. done_good (f a)) (λ t g h. absurd cc));
  finds = λ d lt ts. find_bind L (λ a d. Done (f a)) first goes no_token no_token false true one.good (λ a. done_good (f a)) (λ t g h. absurd cc) d ts (p d ts) (λ x. Ok (f x.0, x.1)) (one.finds d lt ts) (λ a front rest e. find_done (f a) d rest);
}

-- the first part may be empty
pub to_after : {T A B : Type 0} (n : ℕ) (L : ℕ → List T → A → Type 0) (K : A → ℕ → List T → B → Type 0) (first1 goes1 first2 goes2 : T → Bool) (p : ℕ → List T → Result (A × List T) (Fault × List T)) (k : A → ℕ → List T → Result (B × List T) (Fault × List T)) → ReadsTo n L first1 goes1 true p → ((a : A) → ReadsTo n (K a) first2 goes2 false (k a)) → ((t : T) → goes1 t ≡ true → first2 t ≡ true → ⊥) → ReadsTo n (λ d. Bind (L d) (λ a. K a d)) (λ t. first1 t || first2 t) goes2 false (λ d ts. p d ts >>= λ x. k x.0 d x.1)
to_after n L K first1 goes1 first2 goes2 p k one two apart = record {
  good = wide (λ d. Bind (L d) (λ a. K a d)) (λ t. first1 t || (true && first2 t)) (λ t. goes2 t || (false && goes1 t)) (λ t. first1 t || first2 t) goes2 (true && false) false (λ t e. e) (λ t e. or_false (goes2 t) (goes1 t) e) (λ e. e) (bind_good L K first1 goes1 first2 goes2 true false one.good (λ a. (two a).good) apart);
  finds = λ d lt ts. find_bind L K first1 goes1 first2 goes2 true false one.good (λ a. (two a).good) apart d ts (p d ts) (λ x. k x.0 d x.1) (one.finds d lt ts) (λ a front rest e. (two a).finds d lt rest);
}

pub to_many : {T A B R : Type 0} (n : ℕ) (f : T → Option B) (K : B → ℕ → List T → R → Type 0) (join : A → B → R → A) (first goes : T → Bool) (k : B → ℕ → List T → Result (R × List T) (Fault × List T)) → ((b : B) → ReadsTo n (K b) first goes false (k b)) → ((t : T) → goes t ≡ true → known (f t) ≡ true → ⊥) → (a : A) → ReadsTo n (λ d. Many f (λ b. K b d) join a) (λ t. known (f t)) (λ t. known (f t) || goes t) true (λ d ts. times f (λ b. k b d) join (length ts) a ts)
to_many n f K join first goes k r apart a =
    let g = λ (a : _). many_good f join K first goes (λ b. (r b).good.facts) (λ b. (r b).good.grows) apart a in
    record { good = g a; finds = λ d lt ts. find_many f join K first goes (λ b. (r b).good) g apart (λ b. k b d) d (λ b ts. (r b).finds d lt ts) (length ts) a ts (omega arith) }

-- larger sets
pub to_wide : {T A : Type 0} (n : ℕ) (L : ℕ → List T → A → Type 0) (first goes first' goes' : T → Bool) (empty empty' : Bool) (p : ℕ → List T → Result (A × List T) (Fault × List T)) → ((t : T) → first t ≡ true → first' t ≡ true) → ((t : T) → goes t ≡ true → goes' t ≡ true) → (empty ≡ true → empty' ≡ true) → ReadsTo n L first goes empty p → ReadsTo n L first' goes' empty' p
to_wide n L first goes first' goes' empty empty' p fs gs es r = record { good = wide L first goes first' goes' empty empty' fs gs es r.good; finds = r.finds }

-- the same language under another name
pub to_same : {T A : Type 0} (n : ℕ) (L M : ℕ → List T → A → Type 0) (first goes : T → Bool) (empty : Bool) (p : ℕ → List T → Result (A × List T) (Fault × List T)) → ((d : ℕ) (ts : List T) (v : A) → L d ts v → M d ts v) → ((d : ℕ) (ts : List T) (v : A) → M d ts v → L d ts v) → ReadsTo n L first goes empty p → ReadsTo n M first goes empty p
to_same n L M first goes empty p to back r = record {
  good = record {
    facts = narrow (Any L) (Any M) first goes empty (λ ts v q. (q.0, back q.0 ts v q.1)) r.good.facts;
    grows = λ d ts v q. to (suc d) ts v (r.good.grows d ts v (back d ts v q));
    some = record { more = r.good.some.more; value = r.good.some.value; reads = to 0 r.good.some.more r.good.some.value r.good.some.reads };
  };
  finds = λ d lt ts. find_same L M to back d ts (p d ts) (r.finds d lt ts);
}

-- ---- heads, some of which open a level

-- one level deeper, where a level is opened
abbrev pub Pick : {T A : Type 0} → Bool → (ℕ → List T → A → Type 0) → ℕ → List T → A → Type 0
Pick true M d = Inside M d
Pick false M d = M d

-- reading it: with no level left the token that would open one is a fault
abbrev pub pick : {T A : Type 0} → Bool → ℕ → (ℕ → List T → Result (A × List T) (Fault × List T)) → T → List T → Result (A × List T) (Fault × List T)
pick false d m t ts = m d ts
pick true zero m t ts = Err (TooDeep, t ∷ ts)
pick true (suc d) m t ts = m d ts

-- reading by what the first token was known as
abbrev pub heads_as : {T A B : Type 0} → Option B → (B → Bool) → (B → ℕ → List T → Result (A × List T) (Fault × List T)) → ℕ → T → List T → Result (A × List T) (Fault × List T)
heads_as None opens m d t ts = Err (Expected, t ∷ ts)
heads_as (Some b) opens m d t ts = pick (opens b) d (m b) t ts

-- reading by the first token, some of which open a level
abbrev pub heads : {T A B : Type 0} → (T → Option B) → (B → Bool) → (B → ℕ → List T → Result (A × List T) (Fault × List T)) → ℕ → List T → Result (A × List T) (Fault × List T)
heads f opens m d [] = Err (Expected, [])
heads f opens m d (t ∷ ts) = heads_as (f t) opens m d t ts

module _ {T A B : Type 0} (n : ℕ) (f : T → Option B) (opens : B → Bool) (M : B → ℕ → List T → A → Type 0) (m : B → ℕ → List T → Result (A × List T) (Fault × List T)) (goes : T → Bool) (open_part : (b : B) → opens b ≡ true → ReadsTo n (M b) any_token goes true (m b)) (leaf_part : (b : B) → opens b ≡ false → ReadsTo (suc n) (M b) any_token goes true (m b)) where
  abbrev picks : B → ℕ → List T → A → Type 0
  picks b d = Pick (opens b) (M b) d

  pick_facts : (b : B) → Facts (Any (picks b)) any_token goes true
  pick_facts b = at (opens b) refl
    where
      at : (o : Bool) → opens b ≡ o → Facts (Any (λ d. Pick (opens b) (M b) d)) any_token goes true
      at true e = subst (λ o. Facts (Any (λ d. Pick o (M b) d)) any_token goes true) (sym e) (inside_facts (M b) any_token goes true (open_part b e).good.facts)
      at false e = subst (λ o. Facts (Any (λ d. Pick o (M b) d)) any_token goes true) (sym e) (leaf_part b e).good.facts

  pick_grows : (b : B) → Grows (picks b)
  pick_grows b = at (opens b) refl
    where
      at : (o : Bool) → opens b ≡ o → Grows (λ d. Pick (opens b) (M b) d)
      at true e = subst (λ o. Grows (λ d. Pick o (M b) d)) (sym e) (inside_grows (M b) (open_part b e).good.grows)
      at false e = subst (λ o. Grows (λ d. Pick o (M b) d)) (sym e) (leaf_part b e).good.grows

  pub to_heads : Starts (Take f (λ b. Pick (opens b) (M b) 0)) [] → ReadsTo (suc n) (λ d. Take f (λ b. Pick (opens b) (M b) d)) (λ t. known (f t)) goes false (heads f opens m)
  to_heads some = record { good = g; finds = look }
    where
      g : Good (λ d. Take f (λ b. Pick (opens b) (M b) d)) (λ t. known (f t)) goes false
      g = take_good f picks any_token goes true pick_facts pick_grows some

      some_d : (d : ℕ) → Starts (Take f (λ b. Pick (opens b) (M b) d)) []
      some_d d = some_at (λ d. Take f (λ b. Pick (opens b) (M b) d)) g.grows g.some d

      picked : (t : T) (b : B) → f t ≡ Some b → (d : ℕ) → d < suc n → (ts : List T) → (o : Bool) → opens b ≡ o → Finds (λ d. Take f (λ b. Pick (opens b) (M b) d)) d (t ∷ ts) (pick o d (m b) t ts)
      picked t b e d lt ts false h = find_take f picks t b e d ts (m b d ts) (subst (λ o. Finds (λ d. Pick o (M b) d) d ts (m b d ts)) (sym h) ((leaf_part b h).finds d lt ts))
      picked t b e zero lt ts true h = find_deep f picks t b e zero ts (some_d zero) (λ ts v p. subst (λ o. Pick o (M b) zero ts v) h p) (subst (λ o. Starts (Pick o (M b) (suc zero)) []) (sym h) (record { more = (open_part b h).good.some.more; value = (open_part b h).good.some.value; reads = (open_part b h).good.some.reads }))
      picked t b e (suc d) lt ts true h = find_take f picks t b e (suc d) ts (m b d ts) (subst (λ o. Finds (λ d. Pick o (M b) d) (suc d) ts (m b d ts)) (sym h) (find_same (Inside (M b)) (λ d. Pick true (M b) d) (λ d ts v p. p) (λ d ts v p. p) (suc d) ts (m b d ts) (find_inside (M b) d ts (m b d ts) ((open_part b h).finds d (omega arith) ts))))

      headed : (t : T) (d : ℕ) → d < suc n → (ts : List T) → (o : Option B) → f t ≡ o → Finds (λ d. Take f (λ b. Pick (opens b) (M b) d)) d (t ∷ ts) (heads_as o opens m d t ts)
      headed t d lt ts None e = find_none f picks t e d ts (some_d d)
      headed t d lt ts (Some b) e = picked t b e d lt ts (opens b) refl

      look : (d : ℕ) → d < suc n → (ts : List T) → Finds (λ d. Take f (λ b. Pick (opens b) (M b) d)) d ts (heads f opens m d ts)
      look d lt [] = find_nil f picks d (some_d d)
      look d lt (t ∷ ts) = headed t d lt ts (f t) refl
