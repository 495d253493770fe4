-- Sets of tokens as lists of numbers: each kind of token has one.
use Rattle.std.proofs.Common.{◌≡◌, ℕ, List, [], ◌∷◌, ◌++◌, length, Option, Some, Result, Ok, Bool, true, false, not, refl, sym, ap, subst, eqb}
use Rattle.std.specs.Prelude.{◌||◌, ◌&&◌, ◌+◌}
use Rattle.std.proofs.lemmas.Bool.{eqb-true}
use Rattle.ss_ast.specs.Tokens.{Kind, AWord, ASymbol, AName, ANumber, AText, AnEnd, word_number}
use Rattle.ss_grammar.specs.declared.fault.Fault.{Fault}
use Rattle.ss_grammar.specs.Language.{Done, Take, Bind, Many}
use Rattle.ss_grammar.specs.Reading.{◌>>=◌, take, times}
use Rattle.ss_grammar.proofs.Facts.{known, no_token, or_left}
use Rattle.ss_grammar.proofs.Good.{bind_good}
use Rattle.ss_grammar.proofs.Finding.{find_bind}
use Rattle.ss_grammar.proofs.Knot.{ReadsTo}
use Rattle.ss_grammar.proofs.Parts.{to_wide, to_done, to_take, to_many}
use Rattle.ss_grammar_expressions.specs.Heads.{symbol_number, Piece, AToken, LeftOut}

abbrev pub code_of : Kind → ℕ
code_of (ASymbol s) = symbol_number s
code_of (AWord w) = 40 + word_number w
code_of (AName n) = 32
code_of (ANumber n) = 33
code_of (AText s) = 34
code_of AnEnd = 35

abbrev pub code : Piece → ℕ
code (AToken t) = code_of t.kind
code LeftOut = 36

abbrev pub mem : ℕ → List ℕ → Bool
mem c [] = false
mem c (x ∷ l) = eqb c x || mem c l

abbrev pub In : List ℕ → Piece → Bool
In l t = mem (code t) l

abbrev pub subset : List ℕ → List ℕ → Bool
subset [] m = true
subset (x ∷ l) m = mem x m && subset l m

abbrev pub disjoint : List ℕ → List ℕ → Bool
disjoint [] m = true
disjoint (x ∷ l) m = not (mem x m) && disjoint l m

and_one : (a b : Bool) → (a && b) ≡ true → a ≡ true
and_one true b e = refl
and_one false b e = absurd cc

and_two : (a b : Bool) → (a && b) ≡ true → b ≡ true
and_two true b e = e
and_two false b e = absurd cc

or_cases : (a b : Bool) (C : Type 0) → (a || b) ≡ true → (a ≡ true → C) → (b ≡ true → C) → C
or_cases true b C e f g = f refl
or_cases false b C e f g = g e

pub subset_in : (c : ℕ) (l m : List ℕ) → subset l m ≡ true → mem c l ≡ true → mem c m ≡ true
subset_in c [] m s e = absurd cc
subset_in c (x ∷ l) m s e = or_cases (eqb c x) (mem c l) (mem c m ≡ true) e
    (λ h. subst (λ y. mem y m ≡ true) (sym (eqb-true c x h)) (and_one (mem x m) (subset l m) s))
    (λ h. subset_in c l m (and_two (mem x m) (subset l m) s) h)

not_both : (b : Bool) → not b ≡ true → b ≡ true → ⊥
not_both true e f = cc
not_both false e f = cc

pub disjoint_in : (c : ℕ) (l m : List ℕ) → disjoint l m ≡ true → mem c l ≡ true → mem c m ≡ true → ⊥
disjoint_in c [] m s e f = cc
disjoint_in c (x ∷ l) m s e f = or_cases (eqb c x) (mem c l) ⊥ e
    (λ h. not_both (mem x m) (and_one (not (mem x m)) (disjoint l m) s) (subst (λ y. mem y m ≡ true) (eqb-true c x h) f))
    (λ h. disjoint_in c l m (and_two (not (mem x m)) (disjoint l m) s) h f)

pub in_left : (c : ℕ) (l m : List ℕ) → mem c l ≡ true → mem c (l ++ m) ≡ true
in_left c [] m e = absurd cc
in_left c (x ∷ l) m e = or_cases (eqb c x) (mem c l) (mem c ((x ∷ l) ++ m) ≡ true) e
    (λ h. ap (λ b. b || mem c (l ++ m)) h)
    (λ h. or_true (eqb c x) (mem c (l ++ m)) (in_left c l m h))
  where
    or_true : (a b : Bool) → b ≡ true → (a || b) ≡ true
    or_true true b e = refl
    or_true false b e = e

pub in_right : (c : ℕ) (l m : List ℕ) → mem c m ≡ true → mem c (l ++ m) ≡ true
in_right c [] m e = e
in_right c (x ∷ l) m e = or_true (eqb c x) (mem c (l ++ m)) (in_right c l m e)
  where
    or_true : (a b : Bool) → b ≡ true → (a || b) ≡ true
    or_true true b e = refl
    or_true false b e = e

-- l where b holds
abbrev pub when : Bool → List ℕ → List ℕ
when true l = l
when false l = []

pub or_in : (c : ℕ) (l m : List ℕ) (b : Bool) → (mem c l || (b && mem c m)) ≡ true → mem c (l ++ when b m) ≡ true
or_in c l m true e = or_cases (mem c l) (mem c m) (mem c (l ++ m) ≡ true) e (λ h. in_left c l m h) (λ h. in_right c l m h)
or_in c l m false e = or_cases (mem c l) false (mem c (l ++ []) ≡ true) e (λ h. in_left c l [] h) (λ h. absurd cc)

-- ---- parts whose sets are lists

abbrev pub PartOf : {A : Type 0} → ℕ → (ℕ → List Piece → A → Type 0) → List ℕ → List ℕ → Bool → (ℕ → List Piece → Result (A × List Piece) (Fault × List Piece)) → Type 0
PartOf n L f g e p = ReadsTo n L (In f) (In g) e p

module _ {A : Type 0} (n : ℕ) where
  -- larger sets
  pub larger : (L : ℕ → List Piece → A → Type 0) (f g f' g' : List ℕ) (e : Bool) (p : ℕ → List Piece → Result (A × List Piece) (Fault × List Piece)) → subset f f' ≡ true → subset g g' ≡ true → PartOf n L f g e p → PartOf n L f' g' e p
  larger L f g f' g' e p s r q = to_wide n L (In f) (In g) (In f') (In g') e e p (λ t h. subset_in (code t) f f' s h) (λ t h. subset_in (code t) g g' r h) (λ h. h) q

  -- from sets of another form
  pub listed : (L : ℕ → List Piece → A → Type 0) (first goes : Piece → Bool) (f g : List ℕ) (e : Bool) (p : ℕ → List Piece → Result (A × List Piece) (Fault × List Piece)) → ((t : Piece) → first t ≡ true → In f t ≡ true) → ((t : Piece) → goes t ≡ true → In g t ≡ true) → ReadsTo n L first goes e p → PartOf n L f g e p
  listed L first goes f g e p s r q = to_wide n L first goes (In f) (In g) e e p s r (λ h. h) q

  pub done : (a : A) → PartOf n (λ d. Done a) [] [] true (λ d ts. Ok (a, ts))
  done a = listed (λ d. Done a) no_token no_token [] [] true (λ d ts. Ok (a, ts)) (λ t h. absurd cc) (λ t h. absurd cc) (to_done n a)

  -- whether it may be empty is forgotten
  pub may_be_empty : (L : ℕ → List Piece → A → Type 0) (f g : List ℕ) (e : Bool) (p : ℕ → List Piece → Result (A × List Piece) (Fault × List Piece)) → PartOf n L f g e p → PartOf n L f g true p
  may_be_empty L f g e p q = to_wide n L (In f) (In g) (In f) (In g) e true p (λ t h. h) (λ t h. h) (λ h. refl) q

module _ {A B : Type 0} (n : ℕ) where
  -- one token and what is after it
  pub token : (h : Piece → Option B) (hs : List ℕ) → ((t : Piece) → known (h t) ≡ true → In hs t ≡ true) → (K : B → ℕ → List Piece → A → Type 0) (f g : List ℕ) (e : Bool) (k : B → ℕ → List Piece → Result (A × List Piece) (Fault × List Piece)) → ((b : B) → PartOf n (K b) f g e (k b)) → (t : Piece) (b : B) → h t ≡ Some b → PartOf n (λ d. Take h (λ b. K b d)) hs g false (λ d. take h (λ b. k b d))
  token h hs sub K f g e k r t b i = listed n (λ d. Take h (λ b. K b d)) (λ t. known (h t)) (In g) hs g false (λ d. take h (λ b. k b d)) sub (λ t h. h) (to_take n h K (In f) (In g) e k r t b i)

  -- one after the other
  pub seq : (e1 e2 : Bool) (L : ℕ → List Piece → A → Type 0) (K : A → ℕ → List Piece → B → Type 0) (f1 g1 f2 g2 : List ℕ) (p : ℕ → List Piece → Result (A × List Piece) (Fault × List Piece)) (k : A → ℕ → List Piece → Result (B × List Piece) (Fault × List Piece)) → PartOf n L f1 g1 e1 p → ((a : A) → PartOf n (K a) f2 g2 e2 (k a)) → disjoint g1 f2 ≡ true → PartOf n (λ d. Bind (L d) (λ a. K a d)) (f1 ++ when e1 f2) (g2 ++ when e2 g1) (e1 && e2) (λ d ts. p d ts >>= λ x. k x.0 d x.1)
  seq e1 e2 L K f1 g1 f2 g2 p k one two s = listed n (λ d. Bind (L d) (λ a. K a d)) (λ t. In f1 t || (e1 && In f2 t)) (λ t. In g2 t || (e2 && In g1 t)) (f1 ++ when e1 f2) (g2 ++ when e2 g1) (e1 && e2) (λ d ts. p d ts >>= λ x. k x.0 d x.1)
      (λ t h. or_in (code t) f1 f2 e1 h) (λ t h. or_in (code t) g2 g1 e2 h)
      (record {
        good = bind_good L K (In f1) (In g1) (In f2) (In g2) e1 e2 one.good (λ a. (two a).good) (λ t h i. disjoint_in (code t) g1 f2 s h i);
        finds = λ d lt ts. find_bind L K (In f1) (In g1) (In f2) (In g2) e1 e2 one.good (λ a. (two a).good) (λ t h i. disjoint_in (code t) g1 f2 s h i) d ts (p d ts) (λ x. k x.0 d x.1) (one.finds d lt ts) (λ a front rest e. (two a).finds d lt rest);
      })

module _ {A B R : Type 0} (n : ℕ) where
  -- any number of a token and what is after it
  pub many : (h : Piece → Option B) (hs : List ℕ) → ((t : Piece) → known (h t) ≡ true → In hs t ≡ true) → (K : B → ℕ → List Piece → R → Type 0) (join : A → B → R → A) (f g : List ℕ) (k : B → ℕ → List Piece → Result (R × List Piece) (Fault × List Piece)) → ((b : B) → PartOf n (K b) f g false (k b)) → disjoint g hs ≡ true → (a : A) → PartOf n (λ d. Many h (λ b. K b d) join a) hs (hs ++ g) true (λ d ts. times h (λ b. k b d) join (length ts) a ts)
  many h hs sub K join f g k r s a = listed n (λ d. Many h (λ b. K b d) join a) (λ t. known (h t)) (λ t. known (h t) || In g t) hs (hs ++ g) true (λ d ts. times h (λ b. k b d) join (length ts) a ts) sub
      (λ t q. or_in (code t) hs g true (or_widen (known (h t)) (In hs t) (In g t) (sub t) q))
      (to_many n h K join (In f) (In g) k r (λ t q i. disjoint_in (code t) g hs s q (sub t i)) a)
    where
      or_widen : (x y z : Bool) → (x ≡ true → y ≡ true) → (x || z) ≡ true → (y || z) ≡ true
      or_widen true y z i q = or_left y z (i refl)
      or_widen false true z i q = refl
      or_widen false false z i q = q
