-- Parts that other parts are built of, whatever stands in them.
use Rattle.std.proofs.Common.{◌≡◌, ℕ, List, [], ◌∷◌, ◌++◌, Option, Some, None, Bool, true, false, refl, sym, ap, subst}
use Rattle.std.specs.Prelude.{◌||◌}
use Rattle.ss_core.specs.declared.names.Place.{Place}
use Rattle.ss_ast.specs.declared.token.Symbol.{Symbol}
use Rattle.ss_ast.specs.declared.token.Symbol.TheVariants as symbol
use Rattle.ss_ast.specs.Tokens.{ASymbol}
use Rattle.ss_grammar.specs.Language.{Done, After, Take, Maybe, Bind}
use Rattle.ss_grammar.specs.Reading.{take, maybe}
use Rattle.ss_grammar.proofs.Facts.{known, or_left}
use Rattle.ss_grammar.proofs.Parts.{to_wide, to_then}
use Rattle.ss_grammar_expressions.specs.Heads.{Piece, is, found, symbol_number, the}
use Rattle.ss_grammar_expressions.specs.Grammar.{no_place}
use Rattle.ss_grammar_expressions.specs.Parser.{Gets, give}
use Rattle.ss_grammar_expressions.proofs.First.{to_choose}
use Rattle.ss_grammar_expressions.proofs.Opening.{to_maybe_plain}
use Rattle.ss_grammar_expressions.proofs.Sets.{code, In, in_left, in_right, or_in, disjoint, disjoint_in, PartOf, listed, done}
use Rattle.ss_grammar_expressions.proofs.Levels.{the_in, of, symbol}
use Rattle.ss_grammar_statements.specs.Grammar.{Ended, Optional}
use Rattle.ss_grammar_statements.specs.Parser.{ended, some_of, optional}

pub or_widen : (x y z : Bool) → (x ≡ true → y ≡ true) → (x || z) ≡ true → (y || z) ≡ true
or_widen true y z i q = or_left y z (i refl)
or_widen false true z i q = refl
or_widen false false z i q = q

-- a token and what is after it, or nothing
pub perhaps : {A B : Type 0} (n : ℕ) (h : Piece → Option B) (hs : List ℕ) → ((t : Piece) → known (h t) ≡ true → In hs t ≡ true) → (K : B → ℕ → List Piece → A → Type 0) (f g : List ℕ) (e : Bool) (k : B → ℕ → Gets A) → ((b : B) → PartOf n (K b) f g e (k b)) → (a : A) → PartOf n (λ d. Maybe h (λ b. K b d) a) hs (hs ++ g) true (λ d. maybe h (λ b. k b d) a)
perhaps n h hs sub K f g e k r a = listed n (λ d. Maybe h (λ b. K b d) a) (λ t. known (h t)) (λ t. known (h t) || In g t) hs (hs ++ g) true (λ d. maybe h (λ b. k b d) a) sub
    (λ t q. or_in (code t) hs g true (or_widen (known (h t)) (In hs t) (In g t) (sub t) q))
    (to_maybe_plain n h K (In f) (In g) e k r a)

module _ {A : Type 0} (n : ℕ) (L : ℕ → List Piece → A → Type 0) (f g : List ℕ) (p : ℕ → Gets A) (r : PartOf n L f g false p) where
  pub ended_to : disjoint g (19 ∷ []) ≡ true → PartOf n (λ d. Ended (L d)) f [] false (λ d. ended (p d))
  unfolding ended
  ended_to s = to_then n L (λ a d. Take (the symbol.Semicolon) (λ _. Done a)) (In f) (In g) (In (19 ∷ [])) (In []) p (λ a d. take (the symbol.Semicolon) (λ _. give a)) r
      (λ a. symbol n symbol.Semicolon (λ _ d. Done a) [] [] true (λ _ d. give a) refl (λ _. done n a))
      (λ t h i. disjoint_in (code t) g (19 ∷ []) s h i)

  module _ (s : Symbol) (same : the s (of (ASymbol s)) ≡ Some no_place) where
    abbrev none : ℕ → List Piece → Option A → Type 0
    none d = Take (the s) (λ _. Done None)

    abbrev some : ℕ → List Piece → Option A → Type 0
    some d = Bind (L d) (λ a. Take (the s) (λ _. Done (Some a)))

    none_to : PartOf n none (symbol_number s ∷ []) [] false (λ d. take (the s) (λ _. give None))
    none_to = symbol n s (λ _ d. Done None) [] [] true (λ _ d. give None) same (λ _. done n None)

    some_to : disjoint g (symbol_number s ∷ []) ≡ true → PartOf n some f [] false (λ d. some_of s (p d))
    unfolding some_of
    some_to j = to_then n L (λ a d. Take (the s) (λ _. Done (Some a))) (In f) (In g) (In (symbol_number s ∷ [])) (In []) p (λ a d. take (the s) (λ _. give (Some a))) r
        (λ a. symbol n s (λ _ d. Done (Some a)) [] [] true (λ _ d. give (Some a)) same (λ _. done n (Some a)))
        (λ t h i. disjoint_in (code t) g (symbol_number s ∷ []) j h i)

    pub optional_to : disjoint g (symbol_number s ∷ []) ≡ true → PartOf n (λ d. Optional s (L d)) (symbol_number s ∷ f) [] false (λ d. optional s (p d))
    unfolding optional
    optional_to j = to_choose n (is (the s)) none some (In (symbol_number s ∷ f)) (In []) false (λ d. take (the s) (λ _. give None)) (λ d. some_of s (p d)) (In (symbol_number s ∷ [])) none_to
        (λ t h. in_left (code t) (symbol_number s ∷ []) f (the_in s t h))
        (to_wide n some (In f) (In []) (In (symbol_number s ∷ f)) (In []) false false (λ d. some_of s (p d)) (λ t h. in_right (code t) (symbol_number s ∷ []) f h) (λ t h. h) (λ h. h) (some_to j))
        (λ h. absurd cc) (λ h. absurd cc)
        (of (ASymbol s), [], None, ap found same, subst (λ (o : Option Place). After {T = Piece} {A = Option A} o (λ _. Done {T = Piece} {A = Option A} None) [] None) (sym same) (refl, refl))
