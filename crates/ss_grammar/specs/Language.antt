-- Languages with values: which lists of tokens are read as which value. A language is a relation, and says
-- nothing of how it is read. It comes in levels: level d has what is nested at most d deep.
use Rattle.std.specs.Prelude.{◌≡◌, ℕ, zero, suc, List, [], ◌∷◌, ◌++◌, Option, Some, None, Result, Ok, Err}
use Rattle.ss_grammar.specs.declared.fault.Fault.{Fault}
use Rattle.ss_grammar.specs.declared.fault.Fault.TheVariants.{Expected, TooDeep}

-- nothing more is read, and the value is this
abbrev pub Done : {T A : Type 0} → A → List T → A → Type 0
Done a ts v = (ts ≡ []) × (v ≡ a)

-- what is read after a token, where it was known
abbrev pub After : {T A B : Type 0} → Option B → (B → List T → A → Type 0) → List T → A → Type 0
After None K ts v = ⊥
After (Some b) K ts v = K b ts v

-- one token that f knows, and what is read after it
abbrev pub Take : {T A B : Type 0} → (T → Option B) → (B → List T → A → Type 0) → List T → A → Type 0
Take f K [] v = ⊥
Take f K (t ∷ ts) v = After (f t) K ts v

-- the same, or nothing with the value a
abbrev pub Maybe : {T A B : Type 0} → (T → Option B) → (B → List T → A → Type 0) → A → List T → A → Type 0
Maybe f K a [] v = v ≡ a
Maybe f K a (t ∷ ts) v = After (f t) K ts v

-- one text and then another, which may depend on the first one's value
pub record Bind {T A B : Type 0} (L : List T → A → Type 0) (K : A → List T → B → Type 0) (ts : List T) (v : B) : Type 0 where
  pub first : A
  pub front : List T
  pub back : List T
  pub parts : ts ≡ front ++ back
  pub reads : L front first
  pub goes_on : K first back v

-- at most n times one more: a token that f knows, what is read after it, and join makes the next value of the value so far
abbrev pub Times : {T A B R : Type 0} → (T → Option B) → (B → List T → R → Type 0) → (A → B → R → A) → ℕ → A → List T → A → Type 0
Times f K join zero a ts v = Done a ts v
Times f K join (suc n) a ts v = Maybe f (λ b. Bind (K b) (λ r. Times f K join n (join a b r))) a ts v

-- any number of times
abbrev pub Many : {T A B R : Type 0} → (T → Option B) → (B → List T → R → Type 0) → (A → B → R → A) → A → List T → A → Type 0
Many f K join a ts v = (n : ℕ) × Times f K join n a ts v

-- one level deeper
abbrev pub Inside : {T A : Type 0} → (ℕ → List T → A → Type 0) → ℕ → List T → A → Type 0
Inside L zero ts v = ⊥
Inside L (suc d) ts v = L d ts v

-- a part of a grammar that stands in itself, one level deeper each time: F0 where no level is left
abbrev pub Tower : {T A : Type 0} → (List T → A → Type 0) → ((List T → A → Type 0) → List T → A → Type 0) → ℕ → List T → A → Type 0
Tower F0 F zero = F0
Tower F0 F (suc d) = F (Tower F0 F d)

-- no list of the language begins with u and the token after it
abbrev pub Ends : {T A : Type 0} → (List T → A → Type 0) → List T → List T → Type 0
Ends {T} {A} L u [] = Unit {0}
Ends {T} {A} L u (t ∷ rest) = (more : List T) (v : A) → L (u ++ t ∷ more) v → ⊥

-- a list of the language begins with u
pub record Starts {T A : Type 0} (L : List T → A → Type 0) (u : List T) : Type 0 where
  pub more : List T
  pub value : A
  pub reads : L (u ++ more) value

-- The longest front of ts that a list of the language begins with is in the language, at level d.
pub record Accepts {T A : Type 0} (L : ℕ → List T → A → Type 0) (d : ℕ) (ts : List T) (v : A) (rest : List T) : Type 0 where
  pub front : List T
  pub parts : ts ≡ front ++ rest
  pub reads : L d front v
  pub ends : (e : ℕ) → Ends (L e) front rest

-- It isn't in the language at any level: with the first token of the rest no list of the language goes on.
pub record Refuses {T A : Type 0} (L : ℕ → List T → A → Type 0) (d : ℕ) (ts : List T) (rest : List T) : Type 0 where
  pub front : List T
  pub parts : ts ≡ front ++ rest
  pub starts : Starts (L d) front
  pub not_whole : (e : ℕ) (v : A) → L e front v → ⊥
  pub ends : (e : ℕ) → Ends (L e) front rest

-- With the first token of the rest only lists go on that are nested deeper than d.
pub record IsDeep {T A : Type 0} (L : ℕ → List T → A → Type 0) (d : ℕ) (ts : List T) (rest : List T) : Type 0 where
  pub front : List T
  pub opening : T
  pub behind : List T
  pub parts : ts ≡ front ++ rest
  pub opens : rest ≡ opening ∷ behind
  pub starts : Starts (L d) front
  pub ends : Ends (L d) front rest
  pub deeper : Starts (L (suc d)) (front ++ opening ∷ [])

-- what reading at level d found: a value and the rest, or a fault and the rest where it stands
abbrev pub Finds : {T A : Type 0} → (ℕ → List T → A → Type 0) → ℕ → List T → Result (A × List T) (Fault × List T) → Type 0
Finds L d ts (Ok x) = Accepts L d ts x.0 x.1
Finds L d ts (Err (Expected, rest)) = Refuses L d ts rest
Finds L d ts (Err (TooDeep, rest)) = IsDeep L d ts rest
