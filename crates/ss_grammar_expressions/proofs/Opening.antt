-- Parts that stand after a token, where some tokens open a level of nesting.
use Rattle.std.proofs.Common.{◌≡◌, ℕ, zero, suc, ◌<◌, ◌≤◌, List, [], ◌∷◌, ◌++◌, length, Option, Some, None, Result, Ok, Err, Bool, true, false, refl, sym, ap, subst, arith}
use Rattle.std.specs.Prelude.{◌||◌}
use Rattle.std.proofs.lemmas.List.{length-append, append-nil}
use Rattle.ss_grammar.specs.declared.fault.Fault.{Fault}
use Rattle.ss_grammar.specs.declared.fault.Fault.TheVariants.{Expected, TooDeep}
use Rattle.ss_grammar.specs.Language.{Take, Maybe, Bind, Many, Inside, Starts, Ends, Finds, After}
use Rattle.ss_grammar.specs.Reading.{◌>>=◌, take, times, maybe, after}
use Rattle.ss_grammar.proofs.Facts.{Facts, Any, known, narrow}
use Rattle.ss_grammar.proofs.Good.{Good, Grows, inside_facts, inside_grows, take_good, maybe_good, many_good_of, many_from, many_to, some_at, bind_in}
use Rattle.ss_grammar.proofs.Finding.{find_same, find_inside, find_some, find_other, find_end, find_bind, find_maybes, find_take, find_none, find_nil, find_deep}
use Rattle.ss_grammar.proofs.Knot.{ReadsTo}
use Rattle.ss_grammar.proofs.Parts.{Pick, pick}
use Rattle.ss_grammar_expressions.specs.First.{tokened, tokened_as}
use Rattle.ss_grammar_expressions.proofs.First.{Alive}

-- ---- the levels above the lowest

pub shift_good : {T A : Type 0} (L : ℕ → List T → A → Type 0) (first goes : T → Bool) (empty : Bool) → Good L first goes empty → Good (λ d. L (suc d)) first goes empty
shift_good L first goes empty g = record { facts = narrow (Any L) (Any (λ d. L (suc d))) first goes empty (λ ts v p. (suc p.0, p.1)) g.facts; grows = λ d. g.grows (suc d); some = some_at L g.grows g.some 1 }

pub shift : {T A : Type 0} (L : ℕ → List T → A → Type 0) (d : ℕ) (ts : List T) (r : Result (A × List T) (Fault × List T)) → Finds L (suc d) ts r → Finds (λ d. L (suc d)) d ts r
shift L d ts (Ok x) g = record { front = g.front; parts = g.parts; reads = g.reads; ends = λ e. g.ends (suc e) }
shift L d ts (Err (Expected, rest)) g = record { front = g.front; parts = g.parts; starts = g.starts; not_whole = λ e. g.not_whole (suc e); ends = λ e. g.ends (suc e) }
shift L d ts (Err (TooDeep, rest)) g = record { front = g.front; opening = g.opening; behind = g.behind; parts = g.parts; opens = g.opens; starts = g.starts; ends = g.ends; deeper = g.deeper }

fewer_ends : {T A : Type 0} (L M : List T → A → Type 0) → ((ts : List T) (v : A) → M ts v → L ts v) → (u rest : List T) → Ends L u rest → Ends M u rest
fewer_ends L M sub u [] en = tt
fewer_ends L M sub u (t ∷ rest) en = λ more v p. en more v (sub (u ++ t ∷ more) v p)

pub unshift : {T A : Type 0} (L : ℕ → List T → A → Type 0) → Grows L → (d : ℕ) (ts : List T) (r : Result (A × List T) (Fault × List T)) → Finds (λ d. L (suc d)) d ts r → Finds L (suc d) ts r
unshift L grows d ts (Ok x) g = record { front = g.front; parts = g.parts; reads = g.reads; ends = λ e. fewer_ends (L (suc e)) (L e) (grows e) g.front x.1 (g.ends e) }
unshift L grows d ts (Err (Expected, rest)) g = record { front = g.front; parts = g.parts; starts = g.starts; not_whole = λ e v p. g.not_whole e v (grows e g.front v p); ends = λ e. fewer_ends (L (suc e)) (L e) (grows e) g.front rest (g.ends e) }
unshift L grows d ts (Err (TooDeep, rest)) g = record { front = g.front; opening = g.opening; behind = g.behind; parts = g.parts; opens = g.opens; starts = g.starts; ends = g.ends; deeper = g.deeper }

pub to_above : {T A : Type 0} (n : ℕ) (L : ℕ → List T → A → Type 0) (first goes : T → Bool) (empty : Bool) (p : ℕ → List T → Result (A × List T) (Fault × List T)) → ReadsTo (suc n) L first goes empty p → ReadsTo n (λ d. L (suc d)) first goes empty (λ d. p (suc d))
to_above n L first goes empty p r = record { good = shift_good L first goes empty r.good; finds = λ d lt ts. shift L d ts (p (suc d) ts) (r.finds (suc d) (omega arith) ts) }

-- at a token that opens a level too many
find_maybe_deep : {T A B : Type 0} (f : T → Option B) (K : B → ℕ → List T → A → Type 0) (a : A) (t : T) (b : B) → f t ≡ Some b → (d : ℕ) (ts : List T) → ((ts : List T) (v : A) → K b d ts v → ⊥) → Starts (K b (suc d)) [] → Finds (λ d. Maybe f (λ b. K b d) a) d (t ∷ ts) (Err (TooDeep, t ∷ ts))
find_maybe_deep {T} {A} {B} f K a t b e d ts never s = record {
  front = [];
  opening = t;
  behind = ts;
  parts = refl;
  opens = refl;
  starts = record { more = []; value = a; reads = refl };
  ends = λ more v p. never more v (subst (λ (o : Option B). After o (λ b. K b d) more v) e p);
  deeper = record { more = s.more; value = s.value; reads = subst (λ (o : Option B). After o (λ b. K b (suc d)) s.more s.value) (sym e) s.reads };
}

module _ {T B R : Type 0} (n : ℕ) (f : T → Option B) (opens : B → Bool) (M : B → ℕ → List T → R → Type 0) (m : B → ℕ → List T → Result (R × List T) (Fault × List T)) (first goes : T → Bool) (empty : Bool) (open_part : (b : B) → opens b ≡ true → ReadsTo n (M b) first goes empty (m b)) (leaf_part : (b : B) → opens b ≡ false → ReadsTo (suc n) (M b) first goes empty (m b)) where
  abbrev picks : B → ℕ → List T → R → Type 0
  picks b d = Pick (opens b) (M b) d

  pick_facts : (b : B) → Facts (Any (picks b)) first goes empty
  pick_facts b = at (opens b) refl
    where
      at : (o : Bool) → opens b ≡ o → Facts (Any (λ d. Pick (opens b) (M b) d)) first goes empty
      at true e = subst (λ o. Facts (Any (λ d. Pick o (M b) d)) first goes empty) (sym e) (inside_facts (M b) first goes empty (open_part b e).good.facts)
      at false e = subst (λ o. Facts (Any (λ d. Pick o (M b) d)) first goes empty) (sym e) (leaf_part b e).good.facts

  pick_grows : (b : B) → Grows (picks b)
  pick_grows b = at (opens b) refl
    where
      at : (o : Bool) → opens b ≡ o → Grows (λ d. Pick (opens b) (M b) d)
      at true e = subst (λ o. Grows (λ d. Pick o (M b) d)) (sym e) (inside_grows (M b) (open_part b e).good.grows)
      at false e = subst (λ o. Grows (λ d. Pick o (M b) d)) (sym e) (leaf_part b e).good.grows

  -- one level is enough for some list
  lives : (b : B) → Starts (picks b 1) []
  lives b = at (opens b) refl
    where
      at : (o : Bool) → opens b ≡ o → Starts (Pick (opens b) (M b) 1) []
      at true e = subst (λ o. Starts (Pick o (M b) 1) []) (sym e) (record { more = (open_part b e).good.some.more; value = (open_part b e).good.some.value; reads = (open_part b e).good.some.reads })
      at false e = subst (λ o. Starts (Pick o (M b) 1) []) (sym e) (some_at (M b) (leaf_part b e).good.grows (leaf_part b e).good.some 1)

  pub head_alive : (t : T) (b : B) → f t ≡ Some b → Alive (λ d. Take f (λ b. Pick (opens b) (M b) d)) t
  head_alive t b e = (1, record { more = (lives b).more; value = (lives b).value; reads = subst (λ (o : Option B). After o (λ b. picks b 1) (lives b).more (lives b).value) (sym e) (lives b).reads })

  never : (b : B) → opens b ≡ true → (ts : List T) (v : R) → picks b zero ts v → ⊥
  never b h ts v p = subst (λ o. Pick o (M b) zero ts v) h p

  -- what reading after the token finds, where it may be read
  leaf_finds : (b : B) (d : ℕ) → d < suc n → opens b ≡ false → (ts : List T) → Finds (picks b) d ts (m b d ts)
  leaf_finds b d lt h ts = subst (λ o. Finds (λ d. Pick o (M b) d) d ts (m b d ts)) (sym h) ((leaf_part b h).finds d lt ts)

  open_finds : (b : B) (d : ℕ) → suc d < suc n → opens b ≡ true → (ts : List T) → Finds (picks b) (suc d) ts (m b d ts)
  open_finds b d lt h ts = subst (λ o. Finds (λ d. Pick o (M b) d) (suc d) ts (m b d ts)) (sym h) (find_same (Inside (M b)) (λ d. Pick true (M b) d) (λ d ts v p. p) (λ d ts v p. p) (suc d) ts (m b d ts) (find_inside (M b) d ts (m b d ts) ((open_part b h).finds d (omega arith) ts)))

  -- ---- the token and what is after it

  module _ (turn : ℕ → B × T → List T → Result (R × List T) (Fault × List T)) (agree : (d : ℕ) (b : B) (t : T) (ts : List T) → pick (opens b) d (m b) t ts ≡ turn d (b, t) ts) (some : Starts (Take f (λ b. Pick (opens b) (M b) 0)) []) where
    take_good_open : Good (λ d. Take f (λ b. Pick (opens b) (M b) d)) (λ t. known (f t)) goes false
    take_good_open = take_good f picks first goes empty pick_facts pick_grows some

    take_some : (d : ℕ) → Starts (Take f (λ b. Pick (opens b) (M b) d)) []
    take_some d = some_at (λ d. Take f (λ b. Pick (opens b) (M b) d)) take_good_open.grows take_good_open.some d

    take_picked : (t : T) (b : B) → f t ≡ Some b → (d : ℕ) → d < suc n → (ts : List T) (o : Bool) → opens b ≡ o → Finds (λ d. Take f (λ b. Pick (opens b) (M b) d)) d (t ∷ ts) (pick o d (m b) t ts)
    take_picked t b e d lt ts false h = find_take f picks t b e d ts (m b d ts) (leaf_finds b d lt h ts)
    take_picked t b e zero lt ts true h = find_deep f picks t b e zero ts (take_some zero) (never b h) (lives b)
    take_picked t b e (suc d) lt ts true h = find_take f picks t b e (suc d) ts (m b d ts) (open_finds b d lt h ts)

    take_at : (t : T) (o : Option B) → f t ≡ o → (d : ℕ) → d < suc n → (ts : List T) → Finds (λ d. Take f (λ b. Pick (opens b) (M b) d)) d (t ∷ ts) (after (tokened_as o t) (turn d) (Err (Expected, t ∷ ts)) ts)
    take_at t None e d lt ts = find_none f picks t e d ts (take_some d)
    take_at t (Some b) e d lt ts = subst (λ r. Finds (λ d. Take f (λ b. Pick (opens b) (M b) d)) d (t ∷ ts) r) (agree d b t ts) (take_picked t b e d lt ts (opens b) refl)

    pub to_take_open : ReadsTo (suc n) (λ d. Take f (λ b. Pick (opens b) (M b) d)) (λ t. known (f t)) goes false (λ d. take (tokened f) (turn d))
    to_take_open = record { good = take_good_open; finds = look }
      where
        look : (d : ℕ) → d < suc n → (ts : List T) → Finds (λ d. Take f (λ b. Pick (opens b) (M b) d)) d ts (take (tokened f) (turn d) ts)
        look d lt [] = find_nil f picks d (take_some d)
        look d lt (t ∷ ts) = take_at t (f t) refl d lt ts

  -- ---- the same or nothing

  module _ (a : R) (turn : ℕ → B × T → List T → Result (R × List T) (Fault × List T)) (agree : (d : ℕ) (b : B) (t : T) (ts : List T) → pick (opens b) d (m b) t ts ≡ turn d (b, t) ts) where
    maybe_picked : (t : T) (b : B) → f t ≡ Some b → (d : ℕ) → d < suc n → (ts : List T) (o : Bool) → opens b ≡ o → Finds (λ d. Maybe f (λ b. Pick (opens b) (M b) d) a) d (t ∷ ts) (pick o d (m b) t ts)
    maybe_picked t b e d lt ts false h = find_some f picks a t b e d ts (m b d ts) (leaf_finds b d lt h ts)
    maybe_picked t b e zero lt ts true h = find_maybe_deep f picks a t b e zero ts (never b h) (lives b)
    maybe_picked t b e (suc d) lt ts true h = find_some f picks a t b e (suc d) ts (m b d ts) (open_finds b d lt h ts)

    maybe_at : (t : T) (o : Option B) → f t ≡ o → (d : ℕ) → d < suc n → (ts : List T) → Finds (λ d. Maybe f (λ b. Pick (opens b) (M b) d) a) d (t ∷ ts) (after (tokened_as o t) (turn d) (Ok (a, t ∷ ts)) ts)
    maybe_at t None e d lt ts = find_other f picks a t e d ts
    maybe_at t (Some b) e d lt ts = subst (λ r. Finds (λ d. Maybe f (λ b. Pick (opens b) (M b) d) a) d (t ∷ ts) r) (agree d b t ts) (maybe_picked t b e d lt ts (opens b) refl)

    pub to_maybe_open : ReadsTo (suc n) (λ d. Maybe f (λ b. Pick (opens b) (M b) d) a) (λ t. known (f t)) (λ t. known (f t) || goes t) true (λ d. maybe (tokened f) (turn d) a)
    to_maybe_open = record { good = maybe_good f picks first goes empty pick_facts pick_grows a; finds = look }
      where
        look : (d : ℕ) → d < suc n → (ts : List T) → Finds (λ d. Maybe f (λ b. Pick (opens b) (M b) d) a) d ts (maybe (tokened f) (turn d) a ts)
        look d lt [] = find_end f picks a d
        look d lt (t ∷ ts) = maybe_at t (f t) refl d lt ts

shorter_rest : {T : Type 0} (t : T) (ts u rest : List T) (n : ℕ) → length (t ∷ ts) ≤ suc n → ts ≡ u ++ rest → length rest ≤ n
shorter_rest t ts u rest n le e = omega (arith, ap length e, length-append u rest)

-- ---- any number of times

module _ {T A B R : Type 0} (n : ℕ) (f : T → Option B) (opens : B → Bool) (M : B → ℕ → List T → R → Type 0) (m : B → ℕ → List T → Result (R × List T) (Fault × List T)) (first goes : T → Bool) (empty : Bool) (open_part : (b : B) → opens b ≡ true → ReadsTo n (M b) first goes empty (m b)) (leaf_part : (b : B) → opens b ≡ false → ReadsTo (suc n) (M b) first goes empty (m b)) (join : A → B → R → A) (apart : (t : T) → goes t ≡ true → known (f t) ≡ true → ⊥) (turn : ℕ → B × T → List T → Result (R × List T) (Fault × List T)) (agree : (d : ℕ) (b : B) (t : T) (ts : List T) → pick (opens b) d (m b) t ts ≡ turn d (b, t) ts) where
  abbrev afters : B → ℕ → List T → R → Type 0
  afters b d = Pick (opens b) (M b) d

  facts_of : (b : B) → Facts (Any (afters b)) first goes empty
  facts_of = pick_facts n f opens M m first goes empty open_part leaf_part

  grows_of : (b : B) → Grows (afters b)
  grows_of = pick_grows n f opens M m first goes empty open_part leaf_part

  many : (a : A) → Good (λ d. Many f (λ b. afters b d) join a) (λ t. known (f t)) (λ t. known (f t) || goes t) true
  many a = many_good_of f join afters first goes empty facts_of grows_of apart a

  abbrev then_more : A → B → ℕ → List T → A → Type 0
  then_more a b d = Bind (afters b d) (λ r. Many f (λ b. afters b d) join (join a b r))

  to_many_of : (a : A) (d : ℕ) (ts : List T) (r : Result (A × List T) (Fault × List T)) → Finds (λ d. Maybe f (λ b. then_more a b d) a) d ts r → Finds (λ d. Many f (λ b. afters b d) join a) d ts r
  to_many_of a d ts r g = find_same (λ d. Maybe f (λ b. then_more a b d) a) (λ d. Many f (λ b. afters b d) join a) (λ d ts v p. many_from f join (λ b. afters b d) a ts v p) (λ d ts v p. many_to f join (λ b. afters b d) a p.0 ts v p.1) d ts r g

  abbrev joins : A → B × T → R → A
  joins a x r = join a x.0 r

  living : (b : B) → Starts (afters b 1) []
  living = lives n f opens M m first goes empty open_part leaf_part

  then_never : (a : A) (b : B) → opens b ≡ true → (ts : List T) (v : A) → then_more a b zero ts v → ⊥
  then_never a b h ts v p = never n f opens M m first goes empty open_part leaf_part b h p.front p.first p.reads

  then_lives : (a : A) (b : B) → Starts (then_more a b 1) []
  then_lives a b = record {
    more = (living b).more;
    value = join a b (living b).value;
    reads = record { first = (living b).value; front = (living b).more; back = []; parts = sym (append-nil (living b).more); reads = (living b).reads; goes_on = (0, (refl, refl)) };
  }

  then_grows : (a : A) (b : B) → Grows (then_more a b)
  then_grows a b d ts v p = bind_in (afters b d) (afters b (suc d)) (λ r. Many f (λ b. afters b d) join (join a b r)) (λ r. Many f (λ b. afters b (suc d)) join (join a b r)) (λ ts v q. grows_of b d ts v q) (λ r ts v q. (many (join a b r)).grows d ts v q) ts v p

  leaf_good : (b : B) → opens b ≡ false → Good (afters b) first goes empty
  leaf_good b h = subst (λ o. Good (λ d. Pick o (M b) d) first goes empty) (sym h) (leaf_part b h).good

  above_good : (b : B) → Good (λ d. afters b (suc d)) first goes empty
  above_good b = record { facts = narrow (Any (afters b)) (Any (λ d. afters b (suc d))) first goes empty (λ ts v p. (suc p.0, p.1)) (facts_of b); grows = λ d. grows_of b (suc d); some = living b }

  module _ (k : ℕ) (d : ℕ) (more : (a : A) (ts : List T) → length ts ≤ k → Finds (λ d. Many f (λ b. afters b d) join a) d ts (times (tokened f) (turn d) joins k a ts)) where
    leaf_bound : (a : A) (b : B) (t : T) (ts : List T) (r : Result (R × List T) (Fault × List T)) → length (t ∷ ts) ≤ suc k → opens b ≡ false → Finds (afters b) d ts r → Finds (then_more a b) d ts (r >>= λ x. times (tokened f) (turn d) joins k (join a b x.0) x.1)
    leaf_bound a b t ts r le h g = find_bind (afters b) (λ r d. Many f (λ b. afters b d) join (join a b r)) first goes (λ t. known (f t)) (λ t. known (f t) || goes t) empty true (leaf_good b h) (λ r. many (join a b r)) apart d ts r (λ x. times (tokened f) (turn d) joins k (join a b x.0) x.1) g (λ r front z parts. more (join a b r) z (shorter_rest t ts front z k le parts))

  module _ (k : ℕ) (d : ℕ) (more : (a : A) (ts : List T) → length ts ≤ k → Finds (λ d. Many f (λ b. afters b d) join a) (suc d) ts (times (tokened f) (turn (suc d)) joins k a ts)) where
    open_bound : (a : A) (b : B) (t : T) (ts : List T) (r : Result (R × List T) (Fault × List T)) → length (t ∷ ts) ≤ suc k → Finds (afters b) (suc d) ts r → Finds (then_more a b) (suc d) ts (r >>= λ x. times (tokened f) (turn (suc d)) joins k (join a b x.0) x.1)
    open_bound a b t ts r le g =
        unshift (then_more a b) (then_grows a b) d ts (r >>= λ x. times (tokened f) (turn (suc d)) joins k (join a b x.0) x.1)
        (find_bind (λ d. afters b (suc d)) (λ r d. Many f (λ b. afters b (suc d)) join (join a b r)) first goes (λ t. known (f t)) (λ t. known (f t) || goes t) empty true (above_good b) (λ r. shift_good (λ d. Many f (λ b. afters b d) join (join a b r)) (λ t. known (f t)) (λ t. known (f t) || goes t) true (many (join a b r))) apart d ts r (λ x. times (tokened f) (turn (suc d)) joins k (join a b x.0) x.1) (shift (afters b) d ts r g) (λ r front z parts. shift (λ d. Many f (λ b. afters b d) join (join a b r)) d z (times (tokened f) (turn (suc d)) joins k (join a b r) z) (more (join a b r) z (shorter_rest t ts front z k le parts))))

  many_picked : (k : ℕ) (d : ℕ) → d < suc n → (more : (a : A) (ts : List T) → length ts ≤ k → Finds (λ d. Many f (λ b. afters b d) join a) d ts (times (tokened f) (turn d) joins k a ts)) → (a : A) (t : T) (b : B) → f t ≡ Some b → (ts : List T) → length (t ∷ ts) ≤ suc k → (o : Bool) → opens b ≡ o → Finds (λ d. Maybe f (λ b. then_more a b d) a) d (t ∷ ts) (pick o d (m b) t ts >>= λ x. times (tokened f) (turn d) joins k (join a b x.0) x.1)
  many_picked k d lt more a t b e ts le false h = find_some f (then_more a) a t b e d ts (m b d ts >>= λ x. times (tokened f) (turn d) joins k (join a b x.0) x.1) (leaf_bound k d more a b t ts (m b d ts) le h (leaf_finds n f opens M m first goes empty open_part leaf_part b d lt h ts))
  many_picked k zero lt more a t b e ts le true h = find_maybe_deep f (then_more a) a t b e zero ts (then_never a b h) (then_lives a b)
  many_picked k (suc d) lt more a t b e ts le true h = find_some f (then_more a) a t b e (suc d) ts (m b d ts >>= λ x. times (tokened f) (turn (suc d)) joins k (join a b x.0) x.1) (open_bound k d more a b t ts (m b d ts) le (open_finds n f opens M m first goes empty open_part leaf_part b d lt h ts))

  many_at : (k : ℕ) (d : ℕ) → d < suc n → (more : (a : A) (ts : List T) → length ts ≤ k → Finds (λ d. Many f (λ b. afters b d) join a) d ts (times (tokened f) (turn d) joins k a ts)) → (a : A) (t : T) (o : Option B) → f t ≡ o → (ts : List T) → length (t ∷ ts) ≤ suc k → Finds (λ d. Maybe f (λ b. then_more a b d) a) d (t ∷ ts) (after (tokened_as o t) (λ x rest. turn d x rest >>= λ y. times (tokened f) (turn d) joins k (joins a x y.0) y.1) (Ok (a, t ∷ ts)) ts)
  many_at k d lt more a t None e ts le = find_other f (then_more a) a t e d ts
  many_at k d lt more a t (Some b) e ts le = subst (λ r. Finds (λ d. Maybe f (λ b. then_more a b d) a) d (t ∷ ts) (r >>= λ x. times (tokened f) (turn d) joins k (join a b x.0) x.1)) (agree d b t ts) (many_picked k d lt more a t b e ts le (opens b) refl)

  find_times : (d : ℕ) → d < suc n → (k : ℕ) (a : A) (ts : List T) → length ts ≤ k → Finds (λ d. Many f (λ b. afters b d) join a) d ts (times (tokened f) (turn d) joins k a ts)
  find_times d lt zero a [] le = to_many_of a d [] (Ok (a, [])) (find_end f (then_more a) a d)
  find_times d lt zero a (t ∷ ts) le = absurd (omega arith)
  find_times d lt (suc k) a [] le = to_many_of a d [] (Ok (a, [])) (find_end f (then_more a) a d)
  find_times d lt (suc k) a (t ∷ ts) le = to_many_of a d (t ∷ ts) (times (tokened f) (turn d) joins (suc k) a (t ∷ ts)) (many_at k d lt (λ a ts l. find_times d lt k a ts l) a t (f t) refl ts le)

  pub to_many_open_of : (a : A) → ReadsTo (suc n) (λ d. Many f (λ b. Pick (opens b) (M b) d) join a) (λ t. known (f t)) (λ t. known (f t) || goes t) true (λ d ts. times (tokened f) (turn d) (λ a x r. join a x.0 r) (length ts) a ts)
  to_many_open_of a = record { good = many a; finds = λ d lt ts. find_times d lt (length ts) a ts (omega arith) }

-- where each takes a token at least after the one that is known
pub to_many_open : {T A B R : Type 0} (n : ℕ) (f : T → Option B) (opens : B → Bool) (M : B → ℕ → List T → R → Type 0) (m : B → ℕ → List T → Result (R × List T) (Fault × List T)) (first goes : T → Bool) (open_part : (b : B) → opens b ≡ true → ReadsTo n (M b) first goes false (m b)) (leaf_part : (b : B) → opens b ≡ false → ReadsTo (suc n) (M b) first goes false (m b)) (join : A → B → R → A) (apart : (t : T) → goes t ≡ true → known (f t) ≡ true → ⊥) (turn : ℕ → B × T → List T → Result (R × List T) (Fault × List T)) (agree : (d : ℕ) (b : B) (t : T) (ts : List T) → pick (opens b) d (m b) t ts ≡ turn d (b, t) ts) (a : A) → ReadsTo (suc n) (λ d. Many f (λ b. Pick (opens b) (M b) d) join a) (λ t. known (f t)) (λ t. known (f t) || goes t) true (λ d ts. times (tokened f) (turn d) (λ a x r. join a x.0 r) (length ts) a ts)
to_many_open n f opens M m first goes open_part leaf_part join apart turn agree a = to_many_open_of n f opens M m first goes false open_part leaf_part join apart turn agree a

-- a token and what is after it, or nothing, where no level is opened
pub to_maybe_plain : {T A B : Type 0} (n : ℕ) (f : T → Option B) (K : B → ℕ → List T → A → Type 0) (first goes : T → Bool) (empty : Bool) (k : B → ℕ → List T → Result (A × List T) (Fault × List T)) → ((b : B) → ReadsTo n (K b) first goes empty (k b)) → (a : A) → ReadsTo n (λ d. Maybe f (λ b. K b d) a) (λ t. known (f t)) (λ t. known (f t) || goes t) true (λ d. maybe f (λ b. k b d) a)
to_maybe_plain n f K first goes empty k r a = record {
  good = maybe_good f K first goes empty (λ b. (r b).good.facts) (λ b. (r b).good.grows) a;
  finds = λ d lt ts. find_maybes f K (λ b. k b d) a d ts (λ b t rest e. (r b).finds d lt rest);
}
