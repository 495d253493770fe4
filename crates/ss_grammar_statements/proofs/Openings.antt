-- Reading what stands after a token, where some tokens open a level: a family of languages for each of them.
use Rattle.std.proofs.Common.{◌≡◌, ℕ, zero, suc, List, [], ◌∷◌, ◌++◌, length, Option, Some, None, Bool, true, false, refl, sym, subst}
use Rattle.std.specs.Prelude.{◌||◌}
use Rattle.ss_grammar.specs.Language.{Take, Many, Starts}
use Rattle.ss_grammar.specs.Reading.{take, times}
use Rattle.ss_grammar.proofs.Facts.{known}
use Rattle.ss_grammar.proofs.Good.{take_in, many_in}
use Rattle.ss_grammar.proofs.Parts.{Pick, pick, to_same}
use Rattle.ss_grammar_expressions.specs.First.{tokened}
use Rattle.ss_grammar_expressions.specs.Heads.{Piece, or_left_out}
use Rattle.ss_grammar_expressions.specs.Grammar.{Held}
use Rattle.ss_grammar_expressions.specs.Parser.{Gets, opened, held}
use Rattle.ss_grammar_expressions.proofs.First.{Alive}
use Rattle.ss_grammar_expressions.proofs.Opening.{to_take_open, to_many_open_of, head_alive}
use Rattle.ss_grammar_expressions.proofs.Sets.{code, In, or_in, disjoint, disjoint_in, PartOf, listed}
use Rattle.ss_grammar_expressions.proofs.Levels.{may_open, held_to_on}
use Rattle.ss_grammar_statements.proofs.Parts.{or_widen}

-- from the next level on, where a level is opened
abbrev pub Lifted : {A : Type 0} → Bool → (ℕ → List Piece → A → Type 0) → ℕ → List Piece → A → Type 0
Lifted true L d = L (suc d)
Lifted false L d = L d

abbrev pub lifted : {A : Type 0} → Bool → (ℕ → Gets A) → ℕ → Gets A
lifted true p d = p (suc d)
lifted false p d = p d

pub pick_same : {A : Type 0} (o : Bool) (p : ℕ → Gets A) (d : ℕ) (t : Piece) (ts : List Piece) → pick o d (lifted o p) t ts ≡ opened o d (p d) t ts
pick_same true p zero t ts = refl
pick_same true p (suc d) t ts = refl
pick_same false p d t ts = refl

module _ {A B : Type 0} (L : B → ℕ → List Piece → A → Type 0) (opens : B → Bool) (never : (b : B) → opens b ≡ true → (ts : List Piece) (v : A) → L b 0 ts v → ⊥) where
  abbrev pub part : B → ℕ → List Piece → A → Type 0
  part b d = Lifted (opens b) (L b) d

  pub there : (d : ℕ) (b : B) (ts : List Piece) (v : A) → Pick (opens b) (part b) d ts v → L b d ts v
  there d b ts v q = at d (opens b) q
    where
      at : (d : ℕ) (o : Bool) → Pick o (λ d. Lifted o (L b) d) d ts v → L b d ts v
      at zero true p = absurd p
      at (suc d) true p = p
      at d false p = p

  pub back : (d : ℕ) (b : B) (ts : List Piece) (v : A) → L b d ts v → Pick (opens b) (part b) d ts v
  back d b ts v q = at d (opens b) refl q
    where
      at : (d : ℕ) (o : Bool) → opens b ≡ o → L b d ts v → Pick o (λ d. Lifted o (L b) d) d ts v
      at zero true e p = absurd (never b e ts v p)
      at (suc d) true e p = p
      at d false e p = p

module _ {A B : Type 0} (n : ℕ) (h : Piece → Option B) (hs : List ℕ) (sub : (t : Piece) → known (h t) ≡ true → In hs t ≡ true) (opens : B → Bool) (L : B → ℕ → List Piece → A → Type 0) (p : B → ℕ → Gets A) (f g : List ℕ) (e : Bool) (never : (b : B) → opens b ≡ true → (ts : List Piece) (v : A) → L b 0 ts v → ⊥) (open_part : (b : B) → opens b ≡ true → PartOf n (λ d. L b (suc d)) f g e (λ d. p b (suc d))) (leaf_part : (b : B) → opens b ≡ false → PartOf (suc n) (L b) f g e (p b)) where
  abbrev parts : B → ℕ → List Piece → A → Type 0
  parts b d = Lifted (opens b) (L b) d

  abbrev readers : B → ℕ → Gets A
  readers b d = lifted (opens b) (p b) d

  open_lifted : (b : B) → opens b ≡ true → PartOf n (parts b) f g e (readers b)
  open_lifted b q = subst (λ o. PartOf n (λ d. Lifted o (L b) d) f g e (λ d. lifted o (p b) d)) (sym q) (open_part b q)

  leaf_lifted : (b : B) → opens b ≡ false → PartOf (suc n) (parts b) f g e (readers b)
  leaf_lifted b q = subst (λ o. PartOf (suc n) (λ d. Lifted o (L b) d) f g e (λ d. lifted o (p b) d)) (sym q) (leaf_part b q)

  agree : (d : ℕ) (b : B) (t : Piece) (ts : List Piece) → pick (opens b) d (readers b) t ts ≡ opened (opens b) d (p b d) t ts
  agree d b t ts = pick_same (opens b) (p b) d t ts

  pub take_heads : Starts (Take h (λ b. L b 0)) [] → PartOf (suc n) (λ d. Take h (λ b. L b d)) hs g false (λ d. take (tokened h) (λ x. opened (opens x.0) d (p x.0 d) x.1))
  take_heads s = to_same (suc n) (λ d. Take h (λ b. Pick (opens b) (parts b) d)) (λ d. Take h (λ b. L b d)) (In hs) (In g) false (λ d. take (tokened h) (λ x. opened (opens x.0) d (p x.0 d) x.1))
      (λ d ts v q. take_in h (λ b. Pick (opens b) (parts b) d) (λ b. L b d) (there L opens never d) ts v q)
      (λ d ts v q. take_in h (λ b. L b d) (λ b. Pick (opens b) (parts b) d) (back L opens never d) ts v q)
      (listed (suc n) (λ d. Take h (λ b. Pick (opens b) (parts b) d)) (λ t. known (h t)) (In g) hs g false (λ d. take (tokened h) (λ x. opened (opens x.0) d (p x.0 d) x.1)) sub (λ t q. q)
      (to_take_open n h opens parts readers (In f) (In g) e open_lifted leaf_lifted (λ d x. opened (opens x.0) d (p x.0 d) x.1) agree (record { more = s.more; value = s.value; reads = take_in h (λ b. L b 0) (λ b. Pick (opens b) (parts b) 0) (back L opens never 0) s.more s.value s.reads })))

  pub heads_alive : (t : Piece) → known (h t) ≡ true → Alive (λ d. Take h (λ b. L b d)) t
  heads_alive t k = at (h t) refl k
    where
      at : (o : Option B) → h t ≡ o → known o ≡ true → Alive (λ d. Take h (λ b. L b d)) t
      at None i j = absurd cc
      at (Some b) i j =
          let a = head_alive n h opens parts readers (In f) (In g) e open_lifted leaf_lifted t b i in
          (a.0, record { more = a.1.more; value = a.1.value; reads = take_in h (λ b. Pick (opens b) (parts b) a.0) (λ b. L b a.0) (there L opens never a.0) ((t ∷ []) ++ a.1.more) a.1.value a.1.reads })

module _ {A B R : Type 0} (n : ℕ) (h : Piece → Option B) (hs : List ℕ) (sub : (t : Piece) → known (h t) ≡ true → In hs t ≡ true) (opens : B → Bool) (L : B → ℕ → List Piece → R → Type 0) (p : B → ℕ → Gets R) (f g : List ℕ) (e : Bool) (never : (b : B) → opens b ≡ true → (ts : List Piece) (v : R) → L b 0 ts v → ⊥) (open_part : (b : B) → opens b ≡ true → PartOf n (λ d. L b (suc d)) f g e (λ d. p b (suc d))) (leaf_part : (b : B) → opens b ≡ false → PartOf (suc n) (L b) f g e (p b)) (join : A → B → R → A) (apart : disjoint g hs ≡ true) where
  abbrev turns : B → ℕ → List Piece → R → Type 0
  turns b d = Lifted (opens b) (L b) d

  pub many_heads : (a : A) → PartOf (suc n) (λ d. Many h (λ b. L b d) join a) hs (hs ++ g) true (λ d ts. times (tokened h) (λ x. opened (opens x.0) d (p x.0 d) x.1) (λ a x r. join a x.0 r) (length ts) a ts)
  many_heads a = to_same (suc n) (λ d. Many h (λ b. Pick (opens b) (turns b) d) join a) (λ d. Many h (λ b. L b d) join a) (In hs) (In (hs ++ g)) true (λ d ts. times (tokened h) (λ x. opened (opens x.0) d (p x.0 d) x.1) (λ a x r. join a x.0 r) (length ts) a ts)
      (λ d ts v q. many_in h join (λ b. Pick (opens b) (turns b) d) (λ b. L b d) (there L opens never d) a ts v q)
      (λ d ts v q. many_in h join (λ b. L b d) (λ b. Pick (opens b) (turns b) d) (back L opens never d) a ts v q)
      (listed (suc n) (λ d. Many h (λ b. Pick (opens b) (turns b) d) join a) (λ t. known (h t)) (λ t. known (h t) || In g t) hs (hs ++ g) true (λ d ts. times (tokened h) (λ x. opened (opens x.0) d (p x.0 d) x.1) (λ a x r. join a x.0 r) (length ts) a ts) sub
      (λ t q. or_in (code t) hs g true (or_widen (known (h t)) (In hs t) (In g t) (sub t) q))
      (to_many_open_of n h opens turns (λ b d. lifted (opens b) (p b) d) (In f) (In g) e (open_lifted n h hs sub opens L p f g e never open_part leaf_part) (leaf_lifted n h hs sub opens L p f g e never open_part leaf_part) join (λ t q i. disjoint_in (code t) g hs apart q (sub t i)) (λ d x. opened (opens x.0) d (p x.0 d) x.1) (agree n h hs sub opens L p f g e never open_part leaf_part) a))

-- ---- a token that must come and opens a level

module _ {A B : Type 0} (n : ℕ) (h : Piece → Option B) (hs : List ℕ) (sub : (t : Piece) → known (h t) ≡ true → In hs t ≡ true) (K : ℕ → B → List Piece → A → Type 0) (k : ℕ → B → Gets A) (a : A) (f g : List ℕ) (parts : (b : B) → PartOf n (λ d. K (suc d) b) f g false (λ d. k (suc d) b)) where
  pub held_parts : PartOf (suc n) (λ d. Held (may_open d) h (K d) a) (36 ∷ hs) g false (λ d. take (tokened (or_left_out h)) (held d (k d) a))
  held_parts = held_to_on n h hs sub (λ b d. K (suc d) b) (λ b d. k (suc d) b) a f g false parts K k (λ d b ts v q. q) (λ d b ts v q. q) (λ d b ts. refl)
