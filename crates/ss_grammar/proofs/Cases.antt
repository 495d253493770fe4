-- A choice by the first token, where one side has no single token at its front: f knows the token, and K goes on after it; else L.
use Rattle.std.proofs.Common.{◌≡◌, ℕ, suc, ◌<◌, List, [], ◌∷◌, ◌++◌, Option, Some, None, Result, Ok, Err, Bool, true, false, refl, sym, subst, ◌∙◌}
use Rattle.std.specs.Prelude.{◌||◌}
use Rattle.ss_grammar.specs.declared.fault.Fault.{Fault}
use Rattle.ss_grammar.specs.declared.fault.Fault.TheVariants.{Expected, TooDeep}
use Rattle.ss_grammar.specs.Language.{Starts, Ends, Finds}
use Rattle.ss_grammar.proofs.Facts.{known}
use Rattle.ss_grammar.proofs.Good.{Good, any_token, some_at}
use Rattle.ss_grammar.proofs.Finding.{find_lead}
use Rattle.ss_grammar.proofs.Knot.{ReadsTo}

-- after a known token K, from any other token on L
abbrev pub CaseAs : {T A B : Type 0} → Option B → (B → List T → A → Type 0) → (List T → A → Type 0) → T → List T → A → Type 0
CaseAs None K L t ts v = L (t ∷ ts) v
CaseAs (Some b) K L t ts v = K b ts v

-- K after a token that f knows, else L
abbrev pub Case : {T A B : Type 0} → (T → Option B) → (B → List T → A → Type 0) → (List T → A → Type 0) → List T → A → Type 0
Case f K L [] v = L [] v
Case f K L (t ∷ ts) v = CaseAs (f t) K L t ts v

-- the same, read
abbrev pub case_as : {T A B : Type 0} → Option B → (B → List T → Result (A × List T) (Fault × List T)) → (List T → Result (A × List T) (Fault × List T)) → T → List T → Result (A × List T) (Fault × List T)
case_as None k p t ts = p (t ∷ ts)
case_as (Some b) k p t ts = k b ts

-- reading K after a token that f knows, else L
abbrev pub case_of : {T A B : Type 0} → (T → Option B) → (B → List T → Result (A × List T) (Fault × List T)) → (List T → Result (A × List T) (Fault × List T)) → List T → Result (A × List T) (Fault × List T)
case_of f k p [] = p []
case_of f k p (t ∷ ts) = case_as (f t) k p t ts

module _ {T A B : Type 0} (n : ℕ) (f : T → Option B) (K : B → ℕ → List T → A → Type 0) (L : ℕ → List T → A → Type 0) (first goes : T → Bool) (k : B → ℕ → List T → Result (A × List T) (Fault × List T)) (p : ℕ → List T → Result (A × List T) (Fault × List T)) (one : (b : B) → ReadsTo n (K b) any_token goes true (k b)) (two : ReadsTo n L first goes false p) where
  abbrev cases : ℕ → List T → A → Type 0
  cases d = Case f (λ b. K b d) (L d)

  at_one : (o : Option B) (t : T) (u : List T) (d e : ℕ) (v w : A) → CaseAs o (λ b. K b d) (L d) t u v → CaseAs o (λ b. K b e) (L e) t u w → v ≡ w
  at_one None t u d e v w a b = two.good.facts.one (t ∷ u) v w (d, a) (e, b)
  at_one (Some c) t u d e v w a b = (one c).good.facts.one u v w (d, a) (e, b)

  at_goings : (o : Option B) (s : T) (u : List T) (t : T) (m : List T) (d e : ℕ) (v w : A) → CaseAs o (λ b. K b d) (L d) s u v → CaseAs o (λ b. K b e) (L e) s (u ++ t ∷ m) w → goes t ≡ true
  at_goings None s u t m d e v w a b = two.good.facts.goings (s ∷ u) t m v w (d, a) (e, b)
  at_goings (Some c) s u t m d e v w a b = (one c).good.facts.goings u t m v w (d, a) (e, b)

  at_firsts : (o : Option B) (t : T) (m : List T) (d : ℕ) (v : A) → CaseAs o (λ b. K b d) (L d) t m v → (known o || first t) ≡ true
  at_firsts None t m d v a = two.good.facts.firsts t m v (d, a)
  at_firsts (Some c) t m d v a = refl

  at_grows : (o : Option B) (t : T) (m : List T) (d : ℕ) (v : A) → CaseAs o (λ b. K b d) (L d) t m v → CaseAs o (λ b. K b (suc d)) (L (suc d)) t m v
  at_grows None t m d v a = two.good.grows d (t ∷ m) v a
  at_grows (Some c) t m d v a = (one c).good.grows d m v a

  no_nil : (d : ℕ) (v : A) → L d [] v → ⊥
  no_nil d v a = let e : false ≡ true = two.good.facts.empties v (d, a) in cc

  all_one : (u : List T) (d e : ℕ) (v w : A) → cases d u v → cases e u w → v ≡ w
  all_one [] d e v w a b = absurd (no_nil d v a)
  all_one (t ∷ u) d e v w a b = at_one (f t) t u d e v w a b

  all_goings : (u : List T) (t : T) (m : List T) (d e : ℕ) (v w : A) → cases d u v → cases e (u ++ t ∷ m) w → goes t ≡ true
  all_goings [] t m d e v w a b = absurd (no_nil d v a)
  all_goings (s ∷ u) t m d e v w a b = at_goings (f s) s u t m d e v w a b

  all_grows : (d : ℕ) (ts : List T) (v : A) → cases d ts v → cases (suc d) ts v
  all_grows d [] v a = two.good.grows d [] v a
  all_grows d (t ∷ ts) v a = at_grows (f t) t ts d v a

  case_good : Starts (cases 0) [] → Good (λ d. Case f (λ b. K b d) (L d)) (λ t. known (f t) || first t) goes false
  case_good some = record {
    facts = record {
      one = λ u v w a b. all_one u a.0 b.0 v w a.1 b.1;
      firsts = λ t m v a. at_firsts (f t) t m a.0 v a.1;
      goings = λ u t m v w a b. all_goings u t m a.0 b.0 v w a.1 b.1;
      empties = λ v a. absurd (no_nil a.0 v a.1);
    };
    grows = all_grows;
    some = some;
  }

  -- where f doesn't know the first token, both languages have the same lists that begin with it
  module _ (some : Starts (cases 0) []) (t : T) (ts : List T) (e : f t ≡ None) where
    to_case : (d : ℕ) (z : List T) (v : A) → L d (t ∷ z) v → cases d (t ∷ z) v
    to_case d z v a = subst (λ o. CaseAs o (λ b. K b d) (L d) t z v) (sym e) a

    from_case : (d : ℕ) (z : List T) (v : A) → cases d (t ∷ z) v → L d (t ∷ z) v
    from_case d z v a = subst (λ o. CaseAs o (λ b. K b d) (L d) t z v) e a

    ends_case : (d : ℕ) (front rest : List T) → t ∷ ts ≡ front ++ rest → Ends (L d) front rest → Ends (cases d) front rest
    ends_case d [] [] q en = tt
    ends_case d [] (s ∷ rest) q en = let h : t ≡ s = cc in λ more v a. en more v (subst (λ y. L d (y ∷ more) v) h (from_case d more v (subst (λ y. cases d (y ∷ more) v) (sym h) a)))
    ends_case d (s ∷ front) [] q en = tt
    ends_case d (s ∷ front) (r ∷ rest) q en = let h : t ≡ s = cc in λ more v a. en more v (subst (λ y. L d (y ∷ (front ++ r ∷ more)) v) h (from_case d (front ++ r ∷ more) v (subst (λ y. cases d (y ∷ (front ++ r ∷ more)) v) (sym h) a)))

    starts_case : (d : ℕ) (front rest : List T) → t ∷ ts ≡ front ++ rest → Starts (L d) front → Starts (cases d) front
    starts_case d [] rest q s = some_at (λ d. Case f (λ b. K b d) (L d)) all_grows some d
    starts_case d (r ∷ front) rest q s =
        let h : t ≡ r = cc in
        record { more = s.more; value = s.value; reads = subst (λ y. cases d (y ∷ (front ++ s.more)) s.value) h (to_case d (front ++ s.more) s.value (subst (λ y. L d (y ∷ (front ++ s.more)) s.value) (sym h) s.reads)) }

    whole_case : (d : ℕ) (front rest : List T) (v : A) → t ∷ ts ≡ front ++ rest → cases d front v → L d front v
    whole_case d [] rest v q a = a
    whole_case d (r ∷ front) rest v q a = let h : t ≡ r = cc in subst (λ y. L d (y ∷ front) v) h (from_case d front v (subst (λ y. cases d (y ∷ front) v) (sym h) a))

    back_case : (d : ℕ) (front rest : List T) (v : A) → t ∷ ts ≡ front ++ rest → L d front v → cases d front v
    back_case d [] rest v q a = a
    back_case d (r ∷ front) rest v q a = let h : t ≡ r = cc in subst (λ y. cases d (y ∷ front) v) h (to_case d front v (subst (λ y. L d (y ∷ front) v) (sym h) a))

    deeper_case : (d : ℕ) (front behind rest : List T) (o : T) → t ∷ ts ≡ front ++ rest → rest ≡ o ∷ behind → Starts (L d) (front ++ o ∷ []) → Starts (cases d) (front ++ o ∷ [])
    deeper_case d [] behind rest o q r s = let h : t ≡ o = (let g : t ∷ ts ≡ o ∷ behind = q ∙ r in cc) in record { more = s.more; value = s.value; reads = subst (λ y. cases d (y ∷ s.more) s.value) h (to_case d s.more s.value (subst (λ y. L d (y ∷ s.more) s.value) (sym h) s.reads)) }
    deeper_case d (x ∷ front) behind rest o q r s = let h : t ≡ x = cc in record { more = s.more; value = s.value; reads = subst (λ y. cases d (y ∷ ((front ++ o ∷ []) ++ s.more)) s.value) h (to_case d ((front ++ o ∷ []) ++ s.more) s.value (subst (λ y. L d (y ∷ ((front ++ o ∷ []) ++ s.more)) s.value) (sym h) s.reads)) }

    other : (d : ℕ) (r : Result (A × List T) (Fault × List T)) → Finds L d (t ∷ ts) r → Finds (λ d. Case f (λ b. K b d) (L d)) d (t ∷ ts) r
    other d (Ok x) g = record { front = g.front; parts = g.parts; reads = back_case d g.front x.1 x.0 g.parts g.reads; ends = λ e. ends_case e g.front x.1 g.parts (g.ends e) }
    other d (Err (Expected, rest)) g = record { front = g.front; parts = g.parts; starts = starts_case d g.front rest g.parts g.starts; not_whole = λ e v a. g.not_whole e v (whole_case e g.front rest v g.parts a); ends = λ e. ends_case e g.front rest g.parts (g.ends e) }
    other d (Err (TooDeep, rest)) g = record { front = g.front; opening = g.opening; behind = g.behind; parts = g.parts; opens = g.opens; starts = starts_case d g.front rest g.parts g.starts; ends = ends_case d g.front rest g.parts g.ends; deeper = deeper_case (suc d) g.front g.behind rest g.opening g.parts g.opens g.deeper }

  module _ (some : Starts (cases 0) []) where
    nothing_left : (d : ℕ) (r : Result (A × List T) (Fault × List T)) → Finds L d [] r → Finds (λ d. Case f (λ b. K b d) (L d)) d [] r
    nothing_left d (Ok x) g = absurd (no_front g.front x.1 g.parts g.reads)
      where
        no_front : (front rest : List T) → [] ≡ front ++ rest → L d front x.0 → ⊥
        no_front [] rest q a = no_nil d x.0 a
        no_front (s ∷ front) rest q a = cc
    nothing_left d (Err (Expected, rest)) g = at g.front rest g.parts
      where
        at : (front rest : List T) → [] ≡ front ++ rest → Finds (λ d. Case f (λ b. K b d) (L d)) d [] (Err (Expected, rest))
        at [] [] q = record { front = []; parts = refl; starts = some_at (λ d. Case f (λ b. K b d) (L d)) all_grows some d; not_whole = λ e v a. no_nil e v a; ends = λ e. tt }
        at [] (s ∷ rest) q = absurd cc
        at (s ∷ front) rest q = absurd cc
    nothing_left d (Err (TooDeep, rest)) g = absurd (at g.front rest g.parts g.opens)
      where
        at : (front rest : List T) → [] ≡ front ++ rest → rest ≡ g.opening ∷ g.behind → ⊥
        at [] rest q o = let h : [] ≡ g.opening ∷ g.behind = q ∙ o in cc
        at (s ∷ front) rest q o = cc

    pub to_cases : ReadsTo n (λ d. Case f (λ b. K b d) (L d)) (λ t. known (f t) || first t) goes false (λ d. case_of f (λ b. k b d) (p d))
    to_cases = record { good = case_good some; finds = look }
      where
        headed : (d : ℕ) → d < n → (t : T) (ts : List T) (o : Option B) → f t ≡ o → Finds (λ d. Case f (λ b. K b d) (L d)) d (t ∷ ts) (case_as o (λ b. k b d) (p d) t ts)
        headed d lt t ts None e = other some t ts e d (p d (t ∷ ts)) (two.finds d lt (t ∷ ts))
        headed d lt t ts (Some b) e = find_lead (K b) cases t (λ d z v a. subst (λ o. CaseAs o (λ b. K b d) (L d) t z v) (sym e) a) (λ d z v a. subst (λ o. CaseAs o (λ b. K b d) (L d) t z v) e a) d ts (k b d ts) ((one b).finds d lt ts)

        look : (d : ℕ) → d < n → (ts : List T) → Finds (λ d. Case f (λ b. K b d) (L d)) d ts (case_of f (λ b. k b d) (p d) ts)
        look d lt [] = nothing_left d (p d []) (two.finds d lt [])
        look d lt (t ∷ ts) = headed d lt t ts (f t) refl
