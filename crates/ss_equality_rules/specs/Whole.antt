-- When a log of joins and a table of signatures say exactly what the merges say.
use Rattle.std.specs.Prelude.{◌≡◌, ℕ, zero, suc, ◌<◌, ◌≤◌, ◌⊎◌, List, [], ◌∷◌, ◌++◌, length, map, take, Some, None, Option, slice_get, slice_index_or}
use Rattle.ss_terms.specs.declared.forms.TermId.{TermId}
use Rattle.ss_terms.specs.declared.forms.Symbol.{Symbol}
use Rattle.ss_terms.specs.declared.forms.Term.{Term}
use Rattle.ss_terms.specs.Forms.{TermShape, AppShape, term_shape}
use Rattle.ss_equality_rules.specs.declared.Merge.{Merge}
use Rattle.ss_equality_rules.specs.declared.Stand.{Stand}
use Rattle.ss_equality_rules.specs.declared.Join.{Join}
use Rattle.ss_equality_rules.specs.declared.Pending.{Pending}
use Rattle.ss_equality_rules.specs.Names.{Has, name, named}
use Rattle.ss_equality_rules.specs.Classes.{Classed}

-- ---- signatures: a function at names of classes, with a term that has it

abbrev pub Signature : Type 0
Signature = TermShape × ℕ

abbrev pub signature : Term × ℕ → Signature
signature e = (term_shape e.0, e.1)

-- no signature stands twice
pub record AreApart (sigs : List Signature) : Type 0 where
  pub apart : (i j : ℕ) (s t : Signature) → slice_get sigs i ≡ Some s → slice_get sigs j ≡ Some t → s.0 ≡ t.0 → i ≡ j

-- the two terms are one function at arguments in the same classes
pub record AreCongruent (fs : List TermShape) (es : List Join) (x y : ℕ) : Type 0 where
  pub function : Symbol
  pub lefts : List TermId
  pub rights : List TermId
  pub left : slice_get fs x ≡ Some (AppShape function lefts)
  pub right : slice_get fs y ≡ Some (AppShape function rights)
  pub same : map (named es) lefts ≡ map (named es) rights

pub record IsMergeOf (ms : List Merge) (x y k : ℕ) : Type 0 where
  pub merge : Merge
  pub at : slice_get ms k ≡ Some merge
  pub sides : (merge.left.0 ≡ x) × (merge.right.0 ≡ y) ⊎ ((merge.left.0 ≡ y) × (merge.right.0 ≡ x))

-- why two terms are equal: the merge with this number, or the same function at equal arguments
abbrev pub IsCause : List TermShape → List Merge → List Join → ℕ → ℕ → Option ℕ → Type 0
IsCause fs ms es x y (Some k) = IsMergeOf ms x y k
IsCause fs ms es x y None = AreCongruent fs es x y

pub record AreCaused (fs : List TermShape) (ms : List Merge) (es : List Join) : Type 0 where
  pub cause : (j : ℕ) (e : Join) → slice_get es j ≡ Some e → IsCause fs ms (take j es) e.left e.right e.why

-- each signature is that of its term
pub record AreSignatures (fs : List TermShape) (es : List Join) (sigs : List Signature) : Type 0 where
  pub term : (i : ℕ) (f : Symbol) (ks : List TermId) (v : ℕ) → slice_get sigs i ≡ Some (AppShape f ks, v) →
      (xs : List TermId) × (slice_get fs v ≡ Some (AppShape f xs)) × (map (named es) xs ≡ map (named es) ks)

-- a term with the signature of this one has the same name as this one
pub record IsSigned (es : List Join) (sigs : List Signature) (q : ℕ → ℕ) (f : Symbol) (xs : List TermId) (w : ℕ) : Type 0 where
  pub term : ℕ
  pub found : Has sigs (AppShape f (map (named es) xs), term)
  pub same : q w ≡ q term

pub record IsWhole (fs : List TermShape) (ms : List Merge) (es : List Join) (sigs : List Signature) : Type 0 where
  pub caused : AreCaused fs ms es
  pub signatures : AreSignatures fs es sigs
  pub signed : (w : ℕ) (f : Symbol) (xs : List TermId) → slice_get fs w ≡ Some (AppShape f xs) → IsSigned es sigs (name es) f xs w
  pub merged : (k : ℕ) (m : Merge) → slice_get ms k ≡ Some m → name es m.left.0 ≡ name es m.right.0

-- ---- on the way: pairs wait to be joined, and some terms wait for their signatures

-- names that hold the classes and what waits
pub record Respects (es : List Join) (ps : List Pending) (q : ℕ → ℕ) : Type 0 where
  pub classes : (x y : ℕ) → name es x ≡ name es y → q x ≡ q y
  pub waiting : (p : Pending) → Has ps p → q p.left ≡ q p.right

pub record IsOnTheWay (fs : List TermShape) (ms : List Merge) (es : List Join) (sigs : List Signature) (ps : List Pending) (ws : List ℕ) : Type 0 where
  pub caused : AreCaused fs ms es
  pub signatures : AreSignatures fs es sigs
  pub causes : (p : Pending) → Has ps p → IsCause fs ms es p.left p.right p.why
  pub left_below : (p : Pending) → Has ps p → p.left < length fs
  pub right_below : (p : Pending) → Has ps p → p.right < length fs
  pub signed : (q : ℕ → ℕ) → Respects es ps q → (w : ℕ) (f : Symbol) (xs : List TermId) → slice_get fs w ≡ Some (AppShape f xs) → IsSigned es sigs q f xs w ⊎ Has ws w
  pub merged : (q : ℕ → ℕ) → Respects es ps q → (k : ℕ) (m : Merge) → slice_get ms k ≡ Some m → q m.left.0 ≡ q m.right.0

-- so many numbers from one on
unfoldable pub numbers : ℕ → ℕ → List ℕ
numbers from zero = []
numbers from (suc n) = from ∷ numbers (suc from) n

-- what a signature of a term is, if it has one
abbrev pub IsKeyOf : Classed → ℕ → Option Term → Type 0
IsKeyOf c w None = (f : Symbol) (xs : List TermId) → slice_get c.forms w ≡ Some (AppShape f xs) → ⊥
IsKeyOf c w (Some k) = (f : Symbol) × (xs : List TermId) × (slice_get c.forms w ≡ Some (AppShape f xs)) × (term_shape k ≡ AppShape f (map (named c.log) xs))

-- one state on the way leads to another
pub record Goes (old new : Classed) (sigs sigs' : List Signature) (ps ps' : List Pending) (ws ws' : List ℕ) : Type 0 where
  pub goes : (ms : List Merge) → IsOnTheWay old.forms ms old.log sigs ps ws → IsOnTheWay new.forms ms new.log sigs' ps' ws'

pub record Begins {A : Type 0} (front whole : List A) : Type 0 where
  pub rest : List A
  pub is : whole ≡ front ++ rest

-- ---- the state before each merge is kept

abbrev pub merges_of : List Stand → List Merge
merges_of ss = map (λ s. s.merge) ss

-- how many joins, and how many signatures, there are with the first k merges
abbrev pub joins_at : List Stand → List Join → ℕ → ℕ
joins_at ss es k = slice_index_or (map (λ s. s.joins) ss) k (length es)

abbrev pub signatures_at : List Stand → List Signature → ℕ → ℕ
signatures_at ss sigs k = slice_index_or (map (λ s. s.signatures) ss) k (length sigs)

pub record IsKept (fs : List TermShape) (ss : List Stand) (es : List Join) (sigs : List Signature) : Type 0 where
  pub empty : fs ≡ [] → ss ≡ []
  pub joins_rise : (j k : ℕ) → j ≤ k → k ≤ length ss → joins_at ss es j ≤ joins_at ss es k
  pub signatures_rise : (j k : ℕ) → j ≤ k → k ≤ length ss → signatures_at ss sigs j ≤ signatures_at ss sigs k
  pub whole : (k : ℕ) → k ≤ length ss → IsWhole fs (take k (merges_of ss)) (take (joins_at ss es k) es) (take (signatures_at ss sigs k) sigs)
