-- What is known of each language, whoever reads it.
use Rattle.std.proofs.Common.{◌≡◌, ℕ, List, [], ◌∷◌, ◌++◌, Option, Some, None, Bool, true, false, refl, sym, ap, subst, ◌∙◌, append_assoc}
use Rattle.std.specs.Prelude.{◌||◌, ◌&&◌}
use Rattle.ss_grammar.specs.Language.{Done, After, Take, Maybe, Bind}

-- two ways to cut one list
pub data Cut {T : Type 0} (w1 u1 w2 u2 : List T) : Type 0 where
  same : w1 ≡ u1 → w2 ≡ u2 → Cut w1 u1 w2 u2
  longer : (t : T) (x : List T) → w1 ≡ u1 ++ t ∷ x → u2 ≡ t ∷ (x ++ w2) → Cut w1 u1 w2 u2
  shorter : (t : T) (x : List T) → u1 ≡ w1 ++ t ∷ x → w2 ≡ t ∷ (x ++ u2) → Cut w1 u1 w2 u2

cut_under : {T : Type 0} (s t : T) (w1 u1 w2 u2 : List T) → s ≡ t → Cut w1 u1 w2 u2 → Cut (s ∷ w1) (t ∷ u1) w2 u2
cut_under s t w1 u1 w2 u2 e (same p q) = same (cc) q
cut_under s t w1 u1 w2 u2 e (longer a x p q) = longer a x (cc) q
cut_under s t w1 u1 w2 u2 e (shorter a x p q) = shorter a x (cc) q

pub cut : {T : Type 0} (w1 u1 w2 u2 : List T) → w1 ++ w2 ≡ u1 ++ u2 → Cut w1 u1 w2 u2
cut [] [] w2 u2 e = same refl e
cut [] (t ∷ u1) w2 u2 e = shorter t u1 refl e
cut (t ∷ w1) [] w2 u2 e = longer t w1 refl (sym e)
cut (s ∷ w1) (t ∷ u1) w2 u2 e =
    let h : s ≡ t = cc in
    let r : w1 ++ w2 ≡ u1 ++ u2 = cc in
    cut_under s t w1 u1 w2 u2 h (cut w1 u1 w2 u2 r)

-- A language is read one way; first has the tokens that its lists may begin with, goes those with which a list of it
-- goes on to a longer one, and empty says whether nothing at all may be in it.
pub record Facts {T A : Type 0} (L : List T → A → Type 0) (first goes : T → Bool) (empty : Bool) : Type 0 where
  pub one : (u : List T) (v w : A) → L u v → L u w → v ≡ w
  pub firsts : (t : T) (m : List T) (v : A) → L (t ∷ m) v → first t ≡ true
  pub goings : (u : List T) (t : T) (m : List T) (v w : A) → L u v → L (u ++ t ∷ m) w → goes t ≡ true
  pub empties : (v : A) → L [] v → empty ≡ true

-- the empty set of tokens
abbrev pub no_token : {T : Type 0} → T → Bool
no_token t = false

nil_front : {T : Type 0} (u : List T) (t : T) (m : List T) → u ++ t ∷ m ≡ [] → ⊥
nil_front [] t m e = cc
nil_front (a ∷ u) t m e = cc

pub done_facts : {T A : Type 0} (a : A) → Facts (Done {T = T} {A = A} a) no_token no_token true
done_facts {T} {A} a = record {
  one = λ u v w p q. p.1 ∙ sym q.1;
  firsts = λ t m v p. absurd (nil_front [] t m p.0);
  goings = λ u t m v w p q. absurd (nil_front u t m q.0);
  empties = λ v p. refl;
}

-- whether a token is known
abbrev pub known : {B : Type 0} → Option B → Bool
known None = false
known (Some b) = true

pub or_left : (a b : Bool) → a ≡ true → (a || b) ≡ true
or_left true b e = refl
or_left false b e = absurd cc

pub or_right : (a b : Bool) → b ≡ true → (a || b) ≡ true
or_right true b e = refl
or_right false b e = e

pub and_both : (a b : Bool) → a ≡ true → b ≡ true → (a && b) ≡ true
and_both true b e f = f
and_both false b e f = absurd cc

-- ---- one token, and what is read after it

module _ {T A B : Type 0} (f : T → Option B) (K : B → List T → A → Type 0) (first goes : T → Bool) (empty : Bool) (facts : (b : B) → Facts (K b) first goes empty) where
  after_one : (o : Option B) (u : List T) (v w : A) → After o K u v → After o K u w → v ≡ w
  after_one None u v w p q = absurd p
  after_one (Some b) u v w p q = (facts b).one u v w p q

  after_goings : (o : Option B) (u : List T) (t : T) (m : List T) (v w : A) → After o K u v → After o K (u ++ t ∷ m) w → goes t ≡ true
  after_goings None u t m v w p q = absurd p
  after_goings (Some b) u t m v w p q = (facts b).goings u t m v w p q

  after_known : (o : Option B) (u : List T) (v : A) → After o K u v → known o ≡ true
  after_known None u v p = absurd p
  after_known (Some b) u v p = refl

  take_one : (u : List T) (v w : A) → Take f K u v → Take f K u w → v ≡ w
  take_one [] v w p q = absurd p
  take_one (t ∷ u) v w p q = after_one (f t) u v w p q

  take_goings : (u : List T) (t : T) (m : List T) (v w : A) → Take f K u v → Take f K (u ++ t ∷ m) w → goes t ≡ true
  take_goings [] t m v w p q = absurd p
  take_goings (s ∷ u) t m v w p q = after_goings (f s) u t m v w p q

  pub take_facts : Facts (Take f K) (λ t. known (f t)) goes false
  take_facts = record {
    one = take_one;
    firsts = λ t m v p. after_known (f t) m v p;
    goings = take_goings;
    empties = λ v p. absurd p;
  }

  maybe_one : (a : A) (u : List T) (v w : A) → Maybe f K a u v → Maybe f K a u w → v ≡ w
  maybe_one a [] v w p q = p ∙ sym q
  maybe_one a (t ∷ u) v w p q = after_one (f t) u v w p q

  maybe_goings : (a : A) (u : List T) (t : T) (m : List T) (v w : A) → Maybe f K a u v → Maybe f K a (u ++ t ∷ m) w → (known (f t) || goes t) ≡ true
  maybe_goings a [] t m v w p q = or_left (known (f t)) (goes t) (after_known (f t) m w q)
  maybe_goings a (s ∷ u) t m v w p q = or_right (known (f t)) (goes t) (after_goings (f s) u t m v w p q)

  pub maybe_facts : (a : A) → Facts (Maybe f K a) (λ t. known (f t)) (λ t. known (f t) || goes t) true
  maybe_facts a = record {
    one = maybe_one a;
    firsts = λ t m v p. after_known (f t) m v p;
    goings = maybe_goings a;
    empties = λ v p. refl;
  }

-- ---- one after the other

-- the first part never goes on with a token with which the second part begins
abbrev pub Apart : {T A B : Type 0} → (List T → A → Type 0) → (A → List T → B → Type 0) → Type 0
Apart {T} {A} {B} L K = (u : List T) (a : A) (t : T) (m : List T) (c : A) (z : List T) (v : B) → L u a → L (u ++ t ∷ m) c → K a (t ∷ z) v → ⊥

pub apart_by : {T A B : Type 0} (L : List T → A → Type 0) (K : A → List T → B → Type 0) (first1 goes1 first2 goes2 : T → Bool) (empty1 empty2 : Bool) → Facts L first1 goes1 empty1 → ((a : A) → Facts (K a) first2 goes2 empty2) → ((t : T) → goes1 t ≡ true → first2 t ≡ true → ⊥) → Apart L K
apart_by L K first1 goes1 first2 goes2 empty1 empty2 one two apart u a t m c z v l l' k = apart t (one.goings u t m a c l l') ((two a).firsts t z v k)

module _ {T A B : Type 0} (L : List T → A → Type 0) (K : A → List T → B → Type 0) (first1 goes1 first2 goes2 : T → Bool) (empty1 empty2 : Bool) (one : Facts L first1 goes1 empty1) (two : (a : A) → Facts (K a) first2 goes2 empty2) (apart : Apart L K) where
  bind_one : (u : List T) (v w : B) → Bind L K u v → Bind L K u w → v ≡ w
  bind_one u v w p q = at (cut q.front p.front q.back p.back (sym q.parts ∙ p.parts))
    where
      at : Cut q.front p.front q.back p.back → v ≡ w
      at (same e f) =
          let a : q.first ≡ p.first = one.one p.front q.first p.first (subst (λ y. L y q.first) e q.reads) p.reads in
          let k : K p.first p.back w = subst (λ y. K y p.back w) a (subst (λ y. K q.first y w) f q.goes_on) in
          (two p.first).one p.back v w p.goes_on k
      at (longer t x e f) =
          absurd (apart p.front p.first t x q.first (x ++ q.back) v p.reads (subst (λ y. L y q.first) e q.reads) (subst (λ y. K p.first y v) f p.goes_on))
      at (shorter t x e f) =
          absurd (apart q.front q.first t x p.first (x ++ p.back) w q.reads (subst (λ y. L y p.first) e p.reads) (subst (λ y. K q.first y w) f q.goes_on))

  last_goes : (a : A) (front back : List T) (t s : T) (m x z : List T) (v b : B) (c : A) → K a back v → back ++ t ∷ m ≡ s ∷ z → L front a → L (front ++ s ∷ x) c → (goes2 t || (empty2 && goes1 t)) ≡ true
  last_goes a front [] t s m x z v b c k e l l' =
      let st : t ≡ s = cc in
      or_right (goes2 t) (empty2 && goes1 t) (and_both empty2 (goes1 t) ((two a).empties v k) (one.goings front t x a c l (subst (λ y. L (front ++ y ∷ x) c) (sym st) l')))
  last_goes a front (r ∷ back) t s m x z v b c k e l l' =
      let rs : r ≡ s = cc in
      absurd (apart front a s x c back v l l' (subst (λ y. K a (y ∷ back) v) rs k))

  bind_goings : (u : List T) (t : T) (m : List T) (v w : B) → Bind L K u v → Bind L K (u ++ t ∷ m) w → (goes2 t || (empty2 && goes1 t)) ≡ true
  bind_goings u t m v w p q = at (cut q.front p.front q.back (p.back ++ t ∷ m) (sym q.parts ∙ ap (λ y. y ++ t ∷ m) p.parts ∙ append_assoc p.front p.back (t ∷ m)))
    where
      at : Cut q.front p.front q.back (p.back ++ t ∷ m) → (goes2 t || (empty2 && goes1 t)) ≡ true
      at (same e f) =
          let a : q.first ≡ p.first = one.one p.front q.first p.first (subst (λ y. L y q.first) e q.reads) p.reads in
          let k : K p.first (p.back ++ t ∷ m) w = subst (λ y. K y (p.back ++ t ∷ m) w) a (subst (λ y. K q.first y w) f q.goes_on) in
          or_left (goes2 t) (empty2 && goes1 t) ((two p.first).goings p.back t m v w p.goes_on k)
      at (longer s x e f) = last_goes p.first p.front p.back t s m x (x ++ q.back) v w q.first p.goes_on f p.reads (subst (λ y. L y q.first) e q.reads)
      at (shorter s x e f) =
          absurd (apart q.front q.first s x p.first (x ++ (p.back ++ t ∷ m)) w q.reads (subst (λ y. L y p.first) e p.reads) (subst (λ y. K q.first y w) f q.goes_on))

  bind_firsts : (t : T) (m : List T) (v : B) → Bind L K (t ∷ m) v → (first1 t || (empty1 && first2 t)) ≡ true
  bind_firsts t m v p = at p.front refl
    where
      at : (front : List T) → p.front ≡ front → (first1 t || (empty1 && first2 t)) ≡ true
      at [] e =
          let b : p.back ≡ t ∷ m = sym (p.parts ∙ ap (λ y. y ++ p.back) e) in
          or_right (first1 t) (empty1 && first2 t) (and_both empty1 (first2 t) (one.empties p.first (subst (λ y. L y p.first) e p.reads)) ((two p.first).firsts t m v (subst (λ y. K p.first y v) b p.goes_on)))
      at (s ∷ x) e =
          let b : t ∷ m ≡ s ∷ (x ++ p.back) = p.parts ∙ ap (λ y. y ++ p.back) e in
          let h : s ≡ t = cc in
          or_left (first1 t) (empty1 && first2 t) (subst (λ y. first1 y ≡ true) h (one.firsts s x p.first (subst (λ y. L y p.first) e p.reads)))

  bind_empties : (v : B) → Bind L K [] v → (empty1 && empty2) ≡ true
  bind_empties v p = at p.front p.back refl refl
    where
      at : (front back : List T) → p.front ≡ front → p.back ≡ back → (empty1 && empty2) ≡ true
      at [] [] e f = and_both empty1 empty2 (one.empties p.first (subst (λ y. L y p.first) e p.reads)) ((two p.first).empties v (subst (λ y. K p.first y v) f p.goes_on))
      at (s ∷ x) back e f = absurd (let b : s ∷ (x ++ p.back) ≡ [] = sym (p.parts ∙ ap (λ y. y ++ p.back) e) in cc)
      at [] (s ∷ x) e f = absurd (let b : s ∷ x ≡ [] = sym (p.parts ∙ ap (λ y. y ++ p.back) e ∙ f) in cc)

  pub bind_facts_by : Facts (Bind L K) (λ t. first1 t || (empty1 && first2 t)) (λ t. goes2 t || (empty2 && goes1 t)) (empty1 && empty2)
  bind_facts_by = record {
    one = bind_one;
    firsts = bind_firsts;
    goings = bind_goings;
    empties = bind_empties;
  }

pub bind_facts : {T A B : Type 0} (L : List T → A → Type 0) (K : A → List T → B → Type 0) (first1 goes1 first2 goes2 : T → Bool) (empty1 empty2 : Bool) (one : Facts L first1 goes1 empty1) (two : (a : A) → Facts (K a) first2 goes2 empty2) (apart : (t : T) → goes1 t ≡ true → first2 t ≡ true → ⊥) → Facts (Bind L K) (λ t. first1 t || (empty1 && first2 t)) (λ t. goes2 t || (empty2 && goes1 t)) (empty1 && empty2)
bind_facts L K first1 goes1 first2 goes2 empty1 empty2 one two apart = bind_facts_by L K first1 goes1 first2 goes2 empty1 empty2 one two (apart_by L K first1 goes1 first2 goes2 empty1 empty2 one two apart)

-- ---- fewer lists, and all levels

-- whatever the level
abbrev pub Any : {T A : Type 0} → (ℕ → List T → A → Type 0) → List T → A → Type 0
Any L ts v = (d : ℕ) × L d ts v

pub narrow : {T A : Type 0} (L M : List T → A → Type 0) (first goes : T → Bool) (empty : Bool) → ((ts : List T) (v : A) → M ts v → L ts v) → Facts L first goes empty → Facts M first goes empty
narrow L M first goes empty in_L f = record {
  one = λ u v w p q. f.one u v w (in_L u v p) (in_L u w q);
  firsts = λ t m v p. f.firsts t m v (in_L (t ∷ m) v p);
  goings = λ u t m v w p q. f.goings u t m v w (in_L u v p) (in_L (u ++ t ∷ m) w q);
  empties = λ v p. f.empties v (in_L [] v p);
}

-- larger sets
pub widen : {T A : Type 0} (L : List T → A → Type 0) (first goes first' goes' : T → Bool) (empty : Bool) → ((t : T) → first t ≡ true → first' t ≡ true) → ((t : T) → goes t ≡ true → goes' t ≡ true) → Facts L first goes empty → Facts L first' goes' empty
widen L first goes first' goes' empty fs gs f = record {
  one = f.one;
  firsts = λ t m v p. fs t (f.firsts t m v p);
  goings = λ u t m v w p q. gs t (f.goings u t m v w p q);
  empties = f.empties;
}
