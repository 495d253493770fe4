-- Reading where what is read depends on the first token.
use Rattle.std.proofs.Common.{◌≡◌, ℕ, suc, ◌<◌, List, [], ◌∷◌, ◌++◌, Result, Ok, Err, Bool, true, false, refl, sym, subst, ◌∙◌, arith}
use Rattle.ss_grammar.specs.declared.fault.Fault.{Fault}
use Rattle.ss_grammar.specs.declared.fault.Fault.TheVariants.{Expected, TooDeep}
use Rattle.ss_grammar.specs.Language.{Starts, Ends, Finds}
use Rattle.ss_grammar.proofs.Facts.{Facts, Any}
use Rattle.ss_grammar.proofs.Good.{Good, Grows, some_at}
use Rattle.ss_grammar.proofs.Knot.{ReadsTo}
use Rattle.ss_grammar_expressions.specs.First.{ByFirst, Nothing, Chosen, Choose, Only, Here, chosen, choose, refuse, only, here}

-- at some level a list of L begins with t
abbrev pub Alive : {T A : Type 0} → (ℕ → List T → A → Type 0) → T → Type 0
Alive L t = (k : ℕ) × Starts (L k) (t ∷ [])

-- how L and M stand where nothing is left: M has it only where L has it, or where L has longer lists that begin with t
pub data Ending {T A : Type 0} (L M : ℕ → List T → A → Type 0) (t : T) : Type 0 where
  alike : ((d : ℕ) (v : A) → M d [] v → L d [] v) → Ending L M t
  longer : Alive L t → Ending L M t

module _ {T A : Type 0} (S : T → ℕ → List T → A → Type 0) (M : ℕ → List T → A → Type 0) where
  abbrev by : ℕ → List T → A → Type 0
  by d = ByFirst (λ t. S t d) (M d)

  module _ (first goes : T → Bool) (empty : Bool) (none : Facts (Any M) first goes empty) (each_grows : (t : T) → Grows (S t)) (none_grows : Grows M) (behind_none : empty ≡ true → (t : T) → first t ≡ true → goes t ≡ true) (loose : T → Bool) (each : (t : T) → Facts (Any (S t)) loose goes true) (begins : (t : T) (m : List T) (d : ℕ) (v : A) → S t d (t ∷ m) v → first t ≡ true) where
    by_one : (u : List T) (d e : ℕ) (v w : A) → by d u v → by e u w → v ≡ w
    by_one [] d e v w p q = none.one [] v w (d, p) (e, q)
    by_one (t ∷ u) d e v w p q = (each t).one (t ∷ u) v w (d, p) (e, q)

    by_goings : (u : List T) (t : T) (m : List T) (d e : ℕ) (v w : A) → by d u v → by e (u ++ t ∷ m) w → goes t ≡ true
    by_goings [] t m d e v w p q = behind_none (none.empties v (d, p)) t (begins t m e w q)
    by_goings (s ∷ u) t m d e v w p q = (each s).goings (s ∷ u) t m v w (d, p) (e, q)

    by_grows : (d : ℕ) (ts : List T) (v : A) → by d ts v → by (suc d) ts v
    by_grows d [] v p = none_grows d [] v p
    by_grows d (t ∷ ts) v p = each_grows t d (t ∷ ts) v p

    pub by_good : Starts (by 0) [] → Good (λ d. ByFirst (λ t. S t d) (M d)) first goes empty
    by_good some = record {
      facts = record {
        one = λ u v w p q. by_one u p.0 q.0 v w p.1 q.1;
        firsts = λ t m v p. begins t m p.0 v p.1;
        goings = λ u t m v w p q. by_goings u t m p.0 q.0 v w p.1 q.1;
        empties = λ v p. none.empties v p;
      };
      grows = by_grows;
      some = some;
    }

  module _ (some : (d : ℕ) → Starts (by d) []) (t : T) (nil_to : (d : ℕ) (v : A) → S t d [] v → M d [] v) (ending : Ending (S t) M t) (ts : List T) where
    to_by : (d : ℕ) (front rest : List T) (v : A) → t ∷ ts ≡ front ++ rest → S t d front v → by d front v
    to_by d [] rest v q a = nil_to d v a
    to_by d (r ∷ front) rest v q a = let h : t ≡ r = cc in subst (λ y. by d (y ∷ front) v) h (subst (λ y. S t d (y ∷ front) v) (sym h) a)

    ends_by : (d : ℕ) (front rest : List T) → t ∷ ts ≡ front ++ rest → Ends (S t d) front rest → Ends (by d) front rest
    ends_by d [] [] q en = tt
    ends_by d [] (s ∷ rest) q en = let h : t ≡ s = cc in λ more v a. en more v (subst (λ y. S y d (s ∷ more) v) (sym h) a)
    ends_by d (s ∷ front) [] q en = tt
    ends_by d (s ∷ front) (r ∷ rest) q en = let h : t ≡ s = cc in λ more v a. en more v (subst (λ y. S y d (s ∷ (front ++ r ∷ more)) v) (sym h) a)

    starts_by : (d : ℕ) (front rest : List T) → t ∷ ts ≡ front ++ rest → Starts (S t d) front → Starts (by d) front
    starts_by d [] rest q s = some d
    starts_by d (r ∷ front) rest q s = let h : t ≡ r = cc in record { more = s.more; value = s.value; reads = subst (λ y. S y d (r ∷ (front ++ s.more)) s.value) h s.reads }

    not_nil : (rest : List T) → t ∷ ts ≡ rest → ((e : ℕ) (v : A) → S t e [] v → ⊥) → ((e : ℕ) → Ends (S t e) [] rest) → Ending (S t) M t → (e : ℕ) (v : A) → M e [] v → ⊥
    not_nil [] q never en end e v a = cc
    not_nil (r ∷ rest) q never en (alike back) e v a = never e v (back e v a)
    not_nil (r ∷ rest) q never en (longer l) e v a = let h : t ≡ r = cc in en l.0 l.1.more l.1.value (subst (λ y. S t l.0 (y ∷ l.1.more) l.1.value) h l.1.reads)

    whole_by : (front rest : List T) → t ∷ ts ≡ front ++ rest → ((e : ℕ) (v : A) → S t e front v → ⊥) → ((e : ℕ) → Ends (S t e) front rest) → (e : ℕ) (v : A) → by e front v → ⊥
    whole_by [] rest q never en e v a = not_nil rest q never en ending e v a
    whole_by (r ∷ front) rest q never en e v a = let h : t ≡ r = cc in never e v (subst (λ y. S y e (r ∷ front) v) (sym h) a)

    deeper_by : (d : ℕ) (front behind rest : List T) (o : T) → t ∷ ts ≡ front ++ rest → rest ≡ o ∷ behind → Starts (S t d) (front ++ o ∷ []) → Starts (by d) (front ++ o ∷ [])
    deeper_by d [] behind rest o q r s = let h : t ≡ o = (let g : t ∷ ts ≡ o ∷ behind = q ∙ r in cc) in record { more = s.more; value = s.value; reads = subst (λ y. S y d (o ∷ s.more) s.value) h s.reads }
    deeper_by d (x ∷ front) behind rest o q r s = let h : t ≡ x = cc in record { more = s.more; value = s.value; reads = subst (λ y. S y d (x ∷ ((front ++ o ∷ []) ++ s.more)) s.value) h s.reads }

    pub find_by : (d : ℕ) (r : Result (A × List T) (Fault × List T)) → Finds (S t) d (t ∷ ts) r → Finds (λ d. ByFirst (λ t. S t d) (M d)) d (t ∷ ts) r
    find_by d (Ok x) g = record { front = g.front; parts = g.parts; reads = to_by d g.front x.1 x.0 g.parts g.reads; ends = λ e. ends_by e g.front x.1 g.parts (g.ends e) }
    find_by d (Err (Expected, rest)) g = record { front = g.front; parts = g.parts; starts = starts_by d g.front rest g.parts g.starts; not_whole = whole_by g.front rest g.parts g.not_whole g.ends; ends = λ e. ends_by e g.front rest g.parts (g.ends e) }
    find_by d (Err (TooDeep, rest)) g = record { front = g.front; opening = g.opening; behind = g.behind; parts = g.parts; opens = g.opens; starts = starts_by d g.front rest g.parts g.starts; ends = ends_by d g.front rest g.parts g.ends; deeper = deeper_by (suc d) g.front g.behind rest g.opening g.parts g.opens g.deeper }

nothing_facts : {T A : Type 0} (first goes : T → Bool) (empty : Bool) → Facts (Any (λ (d : ℕ). Nothing {T = T} {A = A})) first goes empty
nothing_facts first goes empty = record { one = λ u v w p q. absurd p.1; firsts = λ t m v p. absurd p.1; goings = λ u t m v w p q. absurd p.1; empties = λ v p. absurd p.1 }

loose_empty : {T A : Type 0} (L : List T → A → Type 0) (first goes : T → Bool) (empty : Bool) → Facts L first goes empty → Facts L first goes true
loose_empty L first goes empty f = record { one = f.one; firsts = f.firsts; goings = f.goings; empties = λ v p. refl }

no_nil : {T A : Type 0} (L : ℕ → List T → A → Type 0) (first goes : T → Bool) → Facts (Any L) first goes false → (d : ℕ) (v : A) → L d [] v → ⊥
no_nil L first goes f d v a = let e : false ≡ true = f.empties v (d, a) in cc

-- ---- the place of the first token

module _ {T P A : Type 0} (n : ℕ) (f : T → P) (L : P → ℕ → List T → A → Type 0) (first goes : T → Bool) (p : P → ℕ → List T → Result (A × List T) (Fault × List T)) (r : (x : P) → ReadsTo n (L x) first goes false (p x)) (sample : (t : T) × (z : List T) × (v : A) × L (f t) 0 (t ∷ z) v) where
  abbrev here_none : ℕ → List T → A → Type 0
  here_none d = Nothing

  here_good : Good (λ d. Here f (λ x. L x d)) first goes false
  here_good = by_good (λ t. L (f t)) here_none first goes false (nothing_facts first goes false) (λ t. (r (f t)).good.grows) (λ d ts v q. absurd q) (λ e t h. absurd cc) first (λ t. loose_empty (Any (L (f t))) first goes false (r (f t)).good.facts) (λ t m d v q. (r (f t)).good.facts.firsts t m v (d, q)) (record { more = sample.0 ∷ sample.1; value = sample.2; reads = sample.3 })

  here_some : (d : ℕ) → Starts (Here f (λ x. L x d)) []
  here_some d = some_at (λ d. Here f (λ x. L x d)) here_good.grows here_good.some d

  pub to_here : ReadsTo n (λ d. Here f (λ x. L x d)) first goes false (λ d. here f (λ x. p x d))
  to_here = record { good = here_good; finds = look }
    where
      look : (d : ℕ) → d < n → (ts : List T) → Finds (λ d. Here f (λ x. L x d)) d ts (here f (λ x. p x d) ts)
      look d lt [] = record { front = []; parts = refl; starts = here_some d; not_whole = λ e v q. q; ends = λ e. tt }
      look d lt (t ∷ ts) = find_by (λ t. L (f t)) here_none here_some t (λ e v q. no_nil (L (f t)) first goes (r (f t)).good.facts e v q) (alike (λ e v q. absurd q)) ts d (p (f t) d (t ∷ ts)) ((r (f t)).finds d lt (t ∷ ts))

-- ---- only where f knows the first token

module _ {T A : Type 0} (n : ℕ) (f : T → Bool) (L : ℕ → List T → A → Type 0) (first goes : T → Bool) (p : ℕ → List T → Result (A × List T) (Fault × List T)) (r : ReadsTo n L first goes false p) (begin : T → Bool) (begin_sub : (t : T) → f t ≡ true → begin t ≡ true) (sample : (t : T) × (z : List T) × (v : A) × (f t ≡ true) × L 0 (t ∷ z) v) where
  abbrev only_each : T → ℕ → List T → A → Type 0
  only_each t d = Chosen (f t) (L d) Nothing

  abbrev only_none : ℕ → List T → A → Type 0
  only_none d = Nothing

  only_facts : (b : Bool) → Facts (Any (λ d. Chosen b (L d) Nothing)) first goes true
  only_facts true = loose_empty (Any L) first goes false r.good.facts
  only_facts false = nothing_facts first goes true

  only_grows : (b : Bool) → Grows (λ d. Chosen b (L d) Nothing)
  only_grows true = r.good.grows
  only_grows false = λ d ts v q. absurd q

  only_begins : (t : T) (m : List T) (d : ℕ) (v : A) → only_each t d (t ∷ m) v → begin t ≡ true
  only_begins t m d v q = begin_sub t (at (f t) refl q)
    where
      at : (b : Bool) → f t ≡ b → Chosen b (L d) Nothing (t ∷ m) v → f t ≡ true
      at true e q = e
      at false e q = absurd q

  only_good : Good (λ d. Only f (L d)) begin goes false
  only_good = by_good only_each only_none begin goes false (nothing_facts begin goes false) (λ t. only_grows (f t)) (λ d ts v q. absurd q) (λ e t h. absurd cc) first (λ t. only_facts (f t)) only_begins
      (record { more = sample.0 ∷ sample.1; value = sample.2; reads = subst (λ b. Chosen b (L 0) Nothing (sample.0 ∷ sample.1) sample.2) (sym sample.3) sample.4 })

  only_some : (d : ℕ) → Starts (Only f (L d)) []
  only_some d = some_at (λ d. Only f (L d)) only_good.grows only_good.some d

  pub to_only : ReadsTo n (λ d. Only f (L d)) begin goes false (λ d. only f (p d))
  to_only = record { good = only_good; finds = look }
    where
      nil : (b : Bool) (e : ℕ) (v : A) → Chosen b (L e) Nothing [] v → ⊥
      nil true e v q = no_nil L first goes r.good.facts e v q
      nil false e v q = q

      at : (d : ℕ) → d < n → (t : T) (ts : List T) (b : Bool) → f t ≡ b → Finds (λ d. Only f (L d)) d (t ∷ ts) (chosen b (p d) refuse (t ∷ ts))
      at d lt t ts true e = find_by only_each only_none only_some t (nil (f t)) (alike (λ e v q. absurd q)) ts d (p d (t ∷ ts)) (subst (λ b. Finds (λ d. Chosen b (L d) Nothing) d (t ∷ ts) (p d (t ∷ ts))) (sym e) (r.finds d lt (t ∷ ts)))
      at d lt t ts false e = record { front = []; parts = refl; starts = only_some d; not_whole = λ e v q. q; ends = λ k more v q. subst (λ b. Chosen b (L k) Nothing (t ∷ more) v) e q }

      look : (d : ℕ) → d < n → (ts : List T) → Finds (λ d. Only f (L d)) d ts (only f (p d) ts)
      look d lt [] = record { front = []; parts = refl; starts = only_some d; not_whole = λ e v q. q; ends = λ e. tt }
      look d lt (t ∷ ts) = at d lt t ts (f t) refl

-- ---- one or the other

module _ {T A : Type 0} (n : ℕ) (f : T → Bool) (L M : ℕ → List T → A → Type 0) (first goes : T → Bool) (empty : Bool) (l m : ℕ → List T → Result (A × List T) (Fault × List T)) (begin : T → Bool) (one : ReadsTo n L begin goes false l) (begin_sub : (t : T) → f t ≡ true → first t ≡ true) (two : ReadsTo n M first goes empty m) (behind_none : empty ≡ true → (t : T) → first t ≡ true → goes t ≡ true) (alive : empty ≡ true → 0 < n → (t : T) → f t ≡ true → Alive L t) (sample : (t : T) × (z : List T) × (v : A) × (f t ≡ true) × L 0 (t ∷ z) v) where
  abbrev choose_each : T → ℕ → List T → A → Type 0
  choose_each t d = Chosen (f t) (L d) (M d)

  any_first : T → Bool
  any_first t = true

  choose_facts : (b : Bool) → Facts (Any (λ d. Chosen b (L d) (M d))) any_first goes true
  unfolding any_first
  choose_facts true = record { one = one.good.facts.one; firsts = λ t m v p. refl; goings = one.good.facts.goings; empties = λ v p. refl }
  choose_facts false = record { one = two.good.facts.one; firsts = λ t m v p. refl; goings = two.good.facts.goings; empties = λ v p. refl }

  choose_begins : (t : T) (m : List T) (d : ℕ) (v : A) → choose_each t d (t ∷ m) v → first t ≡ true
  choose_begins t m d v q = at (f t) refl q
    where
      at : (b : Bool) → f t ≡ b → Chosen b (L d) (M d) (t ∷ m) v → first t ≡ true
      at true e q = begin_sub t e
      at false e q = two.good.facts.firsts t m v (d, q)

  choose_grows : (b : Bool) → Grows (λ d. Chosen b (L d) (M d))
  choose_grows true = one.good.grows
  choose_grows false = two.good.grows

  choose_good : Good (λ d. Choose f (L d) (M d)) first goes empty
  choose_good = by_good choose_each M first goes empty two.good.facts (λ t. choose_grows (f t)) two.good.grows behind_none any_first (λ t. choose_facts (f t)) choose_begins
      (record { more = sample.0 ∷ sample.1; value = sample.2; reads = subst (λ b. Chosen b (L 0) (M 0) (sample.0 ∷ sample.1) sample.2) (sym sample.3) sample.4 })

  choose_some : (d : ℕ) → Starts (Choose f (L d) (M d)) []
  choose_some d = some_at (λ d. Choose f (L d) (M d)) choose_good.grows choose_good.some d

  ending_of : 0 < n → (b : Bool) → empty ≡ b → (t : T) → f t ≡ true → Ending L M t
  ending_of lt true e t h = longer (alive e lt t h)
  ending_of lt false e t h = alike (λ d v q. absurd (let g : empty ≡ true = two.good.facts.empties v (d, q) in cc))

  -- where nothing is left, M's list is read
  find_nil : (d : ℕ) (r : Result (A × List T) (Fault × List T)) → Finds M d [] r → Finds (λ d. Choose f (L d) (M d)) d [] r
  find_nil d (Ok x) g = at g.front x.1 g.parts g.reads
    where
      at : (front rest : List T) → [] ≡ front ++ rest → M d front x.0 → Finds (λ d. Choose f (L d) (M d)) d [] (Ok (x.0, rest))
      at [] [] q a = record { front = []; parts = refl; reads = a; ends = λ e. tt }
      at [] (s ∷ rest) q a = absurd cc
      at (s ∷ front) rest q a = absurd cc
  find_nil d (Err (Expected, rest)) g = at g.front rest g.parts g.not_whole
    where
      at : (front rest : List T) → [] ≡ front ++ rest → ((e : ℕ) (v : A) → M e front v → ⊥) → Finds (λ d. Choose f (L d) (M d)) d [] (Err (Expected, rest))
      at [] [] q never = record { front = []; parts = refl; starts = choose_some d; not_whole = never; ends = λ e. tt }
      at [] (s ∷ rest) q never = absurd cc
      at (s ∷ front) rest q never = absurd cc
  find_nil d (Err (TooDeep, rest)) g = absurd (at g.front rest g.parts g.opens)
    where
      at : (front rest : List T) → [] ≡ front ++ rest → rest ≡ g.opening ∷ g.behind → ⊥
      at [] rest q o = let h : [] ≡ g.opening ∷ g.behind = q ∙ o in cc
      at (s ∷ front) rest q o = cc

  pub to_choose : ReadsTo n (λ d. Choose f (L d) (M d)) first goes empty (λ d. choose f (l d) (m d))
  to_choose = record { good = choose_good; finds = look }
    where
      at : (d : ℕ) → d < n → (t : T) (ts : List T) (b : Bool) → f t ≡ b → Finds (λ d. Choose f (L d) (M d)) d (t ∷ ts) (chosen b (l d) (m d) (t ∷ ts))
      at d lt t ts true e = find_by choose_each M choose_some t (λ k v q. absurd (no_nil L begin goes one.good.facts k v (subst (λ b. Chosen b (L k) (M k) [] v) e q))) (subst (λ b. Ending (λ d. Chosen b (L d) (M d)) M t) (sym e) (ending_of (omega arith) empty refl t e)) ts d (l d (t ∷ ts)) (subst (λ b. Finds (λ d. Chosen b (L d) (M d)) d (t ∷ ts) (l d (t ∷ ts))) (sym e) (one.finds d lt (t ∷ ts)))
      at d lt t ts false e = find_by choose_each M choose_some t (λ k v q. subst (λ b. Chosen b (L k) (M k) [] v) e q) (alike (λ k v q. subst (λ b. Chosen b (L k) (M k) [] v) (sym e) q)) ts d (m d (t ∷ ts)) (subst (λ b. Finds (λ d. Chosen b (L d) (M d)) d (t ∷ ts) (m d (t ∷ ts))) (sym e) (two.finds d lt (t ∷ ts)))

      look : (d : ℕ) → d < n → (ts : List T) → Finds (λ d. Choose f (L d) (M d)) d ts (choose f (l d) (m d) ts)
      look d lt [] = find_nil d (m d []) (two.finds d lt [])
      look d lt (t ∷ ts) = at d lt t ts (f t) refl
