-- Parts built of parts one level deeper.
use Rattle.std.proofs.Common.{◌≡◌, ℕ, zero, suc, List, [], ◌∷◌, Option, Some, None, Ok, Bool, true, false, refl, subst, option_map, eqb, ◌+◌, rules}
use Rattle.std.proofs.lemmas.Bool.{eqb-true}
use Rattle.std.specs.Prelude.{◌||◌}
use Rattle.ss_core.specs.declared.names.Place.{Place}
use Rattle.ss_ast.specs.declared.token.Symbol.{Symbol}
use Rattle.ss_ast.specs.declared.token.Word.{Word}
use Rattle.ss_ast.specs.Tokens.{Kind, AWord, ASymbol, AName, ANumber, AText, AnEnd, word_number}
use Rattle.ss_grammar.specs.Language.{Done, Take}
use Rattle.ss_grammar.specs.Reading.{take}
use Rattle.ss_grammar.proofs.Facts.{known}
use Rattle.ss_grammar.proofs.Good.{take_in}
use Rattle.ss_grammar.proofs.Knot.{ReadsTo}
use Rattle.ss_grammar.proofs.Parts.{Pick, pick, to_same, to_wide}
use Rattle.ss_grammar_expressions.specs.First.{tokened}
use Rattle.ss_grammar_expressions.specs.Heads.{Piece, AToken, LeftOut, or_left_out, if_so, symbol_number, symbol_is, the, word_is, the_word}
use Rattle.ss_grammar_expressions.specs.Grammar.{HeldAfter, Held, no_place}
use Rattle.ss_grammar_expressions.specs.Parser.{Gets, held}
use Rattle.ss_grammar_expressions.proofs.Opening.{to_take_open}
use Rattle.ss_grammar_expressions.proofs.Sets.{code, mem, In, subset, subset_in, PartOf, larger, listed, done, may_be_empty, token}

-- whether a level may be opened at depth d
abbrev pub may_open : ℕ → Bool
may_open zero = false
may_open (suc d) = true

known_if : {A : Type 0} (b : Bool) (a : A) → known (if_so b a) ≡ true → b ≡ true
known_if true a h = refl
known_if false a h = absurd cc

or_first : (a b : Bool) → a ≡ true → (a || b) ≡ true
or_first true b e = refl
or_first false b e = absurd cc

pub the_in : (s : Symbol) (t : Piece) → known (the s t) ≡ true → In (symbol_number s ∷ []) t ≡ true
the_in s LeftOut e = absurd cc
the_in s (AToken t) e = at t.place t.kind e
  where
    at : (p : Place) (k : Kind) → known (symbol_is s p k) ≡ true → mem (Rattle.ss_grammar_expressions.proofs.Sets.code_of k) (symbol_number s ∷ []) ≡ true
    at p (ASymbol r) h = or_first (eqb (symbol_number r) (symbol_number s)) false (known_if (eqb (symbol_number r) (symbol_number s)) p h)
    at p (AWord w) h = absurd cc
    at p (AName x) h = absurd cc
    at p (ANumber x) h = absurd cc
    at p (AText x) h = absurd cc
    at p AnEnd h = absurd cc

pub the_word_in : (w : Word) (t : Piece) → known (the_word w t) ≡ true → In ((40 + word_number w) ∷ []) t ≡ true
the_word_in w LeftOut e = absurd cc
the_word_in w (AToken t) e = at t.place t.kind e
  where
    at : (p : Place) (k : Kind) → known (word_is w p k) ≡ true → mem (Rattle.ss_grammar_expressions.proofs.Sets.code_of k) ((40 + word_number w) ∷ []) ≡ true
    at p (ASymbol r) h = absurd cc
    at p (AWord v) h = or_first (eqb (40 + word_number v) (40 + word_number w)) false (shifted (word_number v) (word_number w) (eqb-true (word_number v) (word_number w) (known_if (eqb (word_number v) (word_number w)) p h)))
      where
        same : (a : ℕ) → eqb a a ≡ true
        same a = search rules

        shifted : (a b : ℕ) → a ≡ b → eqb (40 + a) (40 + b) ≡ true
        shifted a b q = subst (λ y. eqb (40 + a) (40 + y) ≡ true) q (same (40 + a))
    at p (AName x) h = absurd cc
    at p (ANumber x) h = absurd cc
    at p (AText x) h = absurd cc
    at p AnEnd h = absurd cc

abbrev pub of : Kind → Piece
of k = AToken (record { kind = k; place = no_place })

module _ {A : Type 0} (n : ℕ) where
  -- this symbol, and then K
  pub symbol : (s : Symbol) (K : Place → ℕ → List Piece → A → Type 0) (f g : List ℕ) (e : Bool) (k : Place → ℕ → Gets A) → the s (of (ASymbol s)) ≡ Some no_place → ((p : Place) → PartOf n (K p) f g e (k p)) → PartOf n (λ d. Take (the s) (λ p. K p d)) (symbol_number s ∷ []) g false (λ d. take (the s) (λ p. k p d))
  symbol s K f g e k i r = token n (the s) (symbol_number s ∷ []) (the_in s) K f g e k r (of (ASymbol s)) no_place i

  -- this word, and then K
  pub word_then : (s : Word) (K : Place → ℕ → List Piece → A → Type 0) (f g : List ℕ) (e : Bool) (k : Place → ℕ → Gets A) → the_word s (of (AWord s)) ≡ Some no_place → ((p : Place) → PartOf n (K p) f g e (k p)) → PartOf n (λ d. Take (the_word s) (λ p. K p d)) ((40 + word_number s) ∷ []) g false (λ d. take (the_word s) (λ p. k p d))
  word_then s K f g e k i r = token n (the_word s) ((40 + word_number s) ∷ []) (the_word_in s) K f g e k r (of (AWord s)) no_place i

  -- the same at each level
  pub by_levels : (L M : ℕ → List Piece → A → Type 0) (f g : List ℕ) (e : Bool) (p : ℕ → Gets A) → ((ts : List Piece) (v : A) → L zero ts v → M zero ts v) → ((ts : List Piece) (v : A) → M zero ts v → L zero ts v) → ((d : ℕ) (ts : List Piece) (v : A) → L (suc d) ts v → M (suc d) ts v) → ((d : ℕ) (ts : List Piece) (v : A) → M (suc d) ts v → L (suc d) ts v) → PartOf n L f g e p → PartOf n M f g e p
  by_levels L M f g e p to0 from0 to from r = to_same n L M (In f) (In g) e p there back r
    where
      there : (d : ℕ) (ts : List Piece) (v : A) → L d ts v → M d ts v
      there zero ts v q = to0 ts v q
      there (suc d) ts v q = to d ts v q

      back : (d : ℕ) (ts : List Piece) (v : A) → M d ts v → L d ts v
      back zero ts v q = from0 ts v q
      back (suc d) ts v q = from d ts v q

-- ---- a token that must come and opens a level

module _ {A B : Type 0} (n : ℕ) (f : Piece → Option B) (hs : List ℕ) (sub : (t : Piece) → known (f t) ≡ true → In hs t ≡ true) (M : B → ℕ → List Piece → A → Type 0) (m : B → ℕ → Gets A) (a : A) (first goes : List ℕ) (e : Bool) (parts : (b : B) → PartOf n (M b) first goes e (m b)) (K : ℕ → B → List Piece → A → Type 0) (k : ℕ → B → Gets A) (to : (d : ℕ) (b : B) (ts : List Piece) (v : A) → M b d ts v → K (suc d) b ts v) (from : (d : ℕ) (b : B) (ts : List Piece) (v : A) → K (suc d) b ts v → M b d ts v) (same : (d : ℕ) (b : B) (ts : List Piece) → m b d ts ≡ k (suc d) b ts) where
  abbrev holds : Option B → Bool
  holds None = false
  holds (Some b) = true

  abbrev holding : Option B → ℕ → List Piece → A → Type 0
  holding None d = Done a
  holding (Some b) d = M b d

  abbrev reads : Option B → ℕ → Gets A
  reads None d ts = Ok (a, ts)
  reads (Some b) d ts = m b d ts

  open_part : (x : Option B) → holds x ≡ true → ReadsTo n (holding x) (In first) (In goes) true (reads x)
  open_part None h = absurd cc
  open_part (Some b) h = may_be_empty n (M b) first goes e (m b) (parts b)

  leaf_part : (x : Option B) → holds x ≡ false → ReadsTo (suc n) (holding x) (In first) (In goes) true (reads x)
  leaf_part None h = to_wide (suc n) (λ d. Done a) (In []) (In []) (In first) (In goes) true true (λ d ts. Ok (a, ts)) (λ t h. absurd cc) (λ t h. absurd cc) (λ h. h) (done (suc n) a)
  leaf_part (Some b) h = absurd cc

  known_held : (t : Piece) → known (or_left_out f t) ≡ true → In (36 ∷ hs) t ≡ true
  known_held LeftOut h = refl
  known_held (AToken t) h = or_second (eqb (code (AToken t)) 36) (In hs (AToken t)) (sub (AToken t) (at (f (AToken t)) h))
    where
      or_second : (x y : Bool) → y ≡ true → (x || y) ≡ true
      or_second true y q = refl
      or_second false y q = q

      at : (o : Option B) → known (option_map Some o) ≡ true → known o ≡ true
      at None q = absurd cc
      at (Some b) q = refl

  agree : (d : ℕ) (x : Option B) (t : Piece) (ts : List Piece) → pick (holds x) d (reads x) t ts ≡ held d (k d) a (x, t) ts
  agree zero None t ts = refl
  agree (suc d) None t ts = refl
  agree zero (Some b) t ts = refl
  agree (suc d) (Some b) t ts = same d b ts

  there : (d : ℕ) (x : Option B) (ts : List Piece) (v : A) → Pick (holds x) (holding x) d ts v → HeldAfter (may_open d) (K d) a x ts v
  there zero None ts v q = q
  there (suc d) None ts v q = q
  there zero (Some b) ts v q = q
  there (suc d) (Some b) ts v q = to d b ts v q

  back : (d : ℕ) (x : Option B) (ts : List Piece) (v : A) → HeldAfter (may_open d) (K d) a x ts v → Pick (holds x) (holding x) d ts v
  back zero None ts v q = q
  back (suc d) None ts v q = q
  back zero (Some b) ts v q = q
  back (suc d) (Some b) ts v q = from d b ts v q

  pub held_to_on : PartOf (suc n) (λ d. Held (may_open d) f (K d) a) (36 ∷ hs) goes false (λ d. take (tokened (or_left_out f)) (held d (k d) a))
  held_to_on = to_same (suc n) (λ d. Take (or_left_out f) (λ x. Pick (holds x) (holding x) d)) (λ d. Held (may_open d) f (K d) a) (In (36 ∷ hs)) (In goes) false (λ d. take (tokened (or_left_out f)) (held d (k d) a))
      (λ d ts v q. take_in (or_left_out f) (λ x. Pick (holds x) (holding x) d) (HeldAfter (may_open d) (K d) a) (there d) ts v q)
      (λ d ts v q. take_in (or_left_out f) (HeldAfter (may_open d) (K d) a) (λ x. Pick (holds x) (holding x) d) (back d) ts v q)
      (listed (suc n) (λ d. Take (or_left_out f) (λ x. Pick (holds x) (holding x) d)) (λ t. known (or_left_out f t)) (In goes) (36 ∷ hs) goes false (λ d. take (tokened (or_left_out f)) (held d (k d) a)) known_held (λ t h. h)
      (to_take_open n (or_left_out f) holds holding reads (In first) (In goes) true open_part leaf_part (λ d. held d (k d) a) agree (record { more = LeftOut ∷ []; value = a; reads = (refl, refl) })))

-- where nothing goes on after it
pub held_to : {A B : Type 0} (n : ℕ) (f : Piece → Option B) (hs : List ℕ) (sub : (t : Piece) → known (f t) ≡ true → In hs t ≡ true) (M : B → ℕ → List Piece → A → Type 0) (m : B → ℕ → Gets A) (a : A) (first : List ℕ) (e : Bool) (parts : (b : B) → PartOf n (M b) first [] e (m b)) (K : ℕ → B → List Piece → A → Type 0) (k : ℕ → B → Gets A) (to : (d : ℕ) (b : B) (ts : List Piece) (v : A) → M b d ts v → K (suc d) b ts v) (from : (d : ℕ) (b : B) (ts : List Piece) (v : A) → K (suc d) b ts v → M b d ts v) (same : (d : ℕ) (b : B) (ts : List Piece) → m b d ts ≡ k (suc d) b ts) → PartOf (suc n) (λ d. Held (may_open d) f (K d) a) (36 ∷ hs) [] false (λ d. take (tokened (or_left_out f)) (held d (k d) a))
held_to n f hs sub M m a first e parts K k to from same = held_to_on n f hs sub M m a first [] e parts K k to from same
