-- Reading chains of operators and whole expressions finds what the grammar says.
use Rattle.std.proofs.Common.{◌≡◌, ℕ, zero, suc, List, [], ◌∷◌, ◌++◌, length, Ok, Bool, true, false, refl}
use Rattle.std.specs.Prelude.{◌||◌}
use Rattle.ss_core.specs.declared.names.Place.{Place}
use Rattle.ss_ast.specs.declared.token.Symbol.TheVariants as symbol
use Rattle.ss_ast.specs.Expressions.{ExprTree, IffOf, ImpliesOf, BinaryOf, IsOf, AsOf}
use Rattle.ss_grammar.specs.Language.{Done, Maybe, Bind, Many}
use Rattle.ss_grammar.specs.Reading.{◌>>=◌, times}
use Rattle.ss_grammar.proofs.Facts.{known}
use Rattle.ss_grammar.proofs.Parts.{Pick, pick, to_as}
use Rattle.ss_grammar_expressions.specs.First.{Here, here}
use Rattle.ss_grammar_expressions.specs.Heads.{Piece, place_at, the, LinkHead, Operation, IsHead, AsHead, link_head}
use Rattle.ss_grammar_expressions.specs.Grammar.{Part, TheImplication, Value, Parts, Deeper, PlainType, joined, Unary, LinkAfter, Chain, ImplicationFrom, Implication, ExpressionFrom, WholeExpression}
use Rattle.ss_grammar_expressions.specs.Parser.{Gets, Inner, opened, plain_type, unary, link_after, chain, joins, right_side, implication_end, implication_from, implication, iff_end, expression_from, whole_expression}
use Rattle.ss_grammar_expressions.proofs.Opening.{to_maybe_open, to_maybe_plain}
use Rattle.ss_grammar_expressions.proofs.Sets.{code, In, subset, subset_in, disjoint, PartOf, larger, listed, done, seq, many}
use Rattle.ss_grammar_expressions.proofs.Levels.{may_open, the_in, by_levels}
use Rattle.ss_grammar_expressions.proofs.Pieces.{Ranks, unary_first, unary_goes, imp_goes, expr_goes, ranks1, ranks2, ranks3, ranks4, ranks5, ranks6}
use Rattle.ss_grammar_expressions.proofs.Expressions.{inner_parts, inner_readers, plain_type_to}
use Rattle.ss_grammar_expressions.proofs.Unaries.{number_piece, from_unary}

abbrev link_first : List ℕ
link_first = 50 ∷ 51 ∷ 52 ∷ unary_first

module _ (n : ℕ) (U : (i : Part) → ℕ → List Piece → Value i → Type 0) (u : (i : Part) → ℕ → Gets (Value i)) where
  abbrev V : ℕ → Parts
  V d = inner_parts U d

  abbrev w : ℕ → Inner
  w d = inner_readers u d

  abbrev X : ℕ → List Piece → ExprTree → Type 0
  X d = Unary (may_open d) (V d)

  abbrev x : ℕ → Gets ExprTree
  x d = unary d (w d)

  abbrev Chains : ℕ → Place → ExprTree → ℕ → List Piece → ExprTree → Type 0
  Chains k p a d = Chain (may_open d) (V d) k p a

  abbrev chains : ℕ → Place → ExprTree → ℕ → Gets ExprTree
  chains k p a d = chain d (w d) k p a

  abbrev Operands : ℕ → ℕ → List Piece → ExprTree → Type 0
  Operands k d = Here place_at (λ q. Bind (X d) (Chain (may_open d) (V d) k q))

  abbrev operands : ℕ → ℕ → Gets ExprTree
  operands k d = here place_at (λ q ts. x d ts >>= λ b. chains k q b.0 d b.1)

  -- a chain of no operators
  chain_nil : (k : ℕ) (p : Place) (a : ExprTree) (d : ℕ) → Chains k p a d [] a
  chain_nil zero p a d = (refl, refl)
  chain_nil (suc k) p a d = record { first = a; front = []; back = []; parts = refl; reads = chain_nil k p a d; goes_on = (0, (refl, refl)) }

  module _ (r : PartOf (suc n) X unary_first unary_goes false x) (sample : (z : List Piece) × (v : ExprTree) × X 0 (number_piece ∷ z) v) where
    link_to : (k : ℕ) (g : List ℕ) → subset (17 ∷ []) g ≡ true → subset g g ≡ true → PartOf (suc n) (Operands k) unary_first g false (operands k) → (h : LinkHead) → PartOf (suc n) (λ d. LinkAfter (may_open d) (V d) (Operands k d) h) link_first g false (λ d. link_after d (w d) (operands k d) h)
    unfolding link_after
    link_to k g s s' o (Operation op) = larger (suc n) (λ d. LinkAfter (may_open d) (V d) (Operands k d) (Operation op)) unary_first g link_first g false (λ d. link_after d (w d) (operands k d) (Operation op)) refl s' (to_as (suc n) (Operands k) (In unary_first) (In g) (operands k) (λ b p a. BinaryOf p op a b) o)
    link_to k g s s' o IsHead = larger (suc n) (λ d. LinkAfter (may_open d) (V d) (Operands k d) IsHead) (32 ∷ 50 ∷ 51 ∷ 52 ∷ []) (17 ∷ []) link_first g false (λ d. link_after d (w d) (operands k d) IsHead) refl s (to_as (suc n) (λ d. PlainType (may_open d)) (In (32 ∷ 50 ∷ 51 ∷ 52 ∷ [])) (In (17 ∷ [])) plain_type (λ t p a. IsOf p a t) (plain_type_to n))
    link_to k g s s' o AsHead = larger (suc n) (λ d. LinkAfter (may_open d) (V d) (Operands k d) AsHead) (32 ∷ 50 ∷ 51 ∷ 52 ∷ []) (17 ∷ []) link_first g false (λ d. link_after d (w d) (operands k d) AsHead) refl s (to_as (suc n) (λ d. PlainType (may_open d)) (In (32 ∷ 50 ∷ 51 ∷ 52 ∷ [])) (In (17 ∷ [])) plain_type (λ t p a. AsOf p a t) (plain_type_to n))

    -- one rank more: f has the operators of lower ranks, hs those of this one
    step : (k : ℕ) (hs f : List ℕ) → Ranks (suc k) hs → disjoint unary_goes f ≡ true → subset (17 ∷ []) (f ++ unary_goes) ≡ true → subset (f ++ unary_goes) (f ++ unary_goes) ≡ true → subset ((f ++ unary_goes) ++ unary_goes) (f ++ unary_goes) ≡ true → disjoint (f ++ unary_goes) hs ≡ true → subset (f ++ hs) (hs ++ f) ≡ true → subset ((hs ++ (f ++ unary_goes)) ++ (f ++ unary_goes)) ((hs ++ f) ++ unary_goes) ≡ true → ((p : Place) (a : ExprTree) → PartOf (suc n) (Chains k p a) f (f ++ unary_goes) true (chains k p a)) → (p : Place) (a : ExprTree) → PartOf (suc n) (Chains (suc k) p a) (hs ++ f) ((hs ++ f) ++ unary_goes) true (chains (suc k) p a)
    unfolding chain
    step k hs f ranked s1 s2 s7 s3 s4 s5 s6 lower p a =
        let o : PartOf (suc n) (Operands k) unary_first (f ++ unary_goes) false (operands k) = larger (suc n) (Operands k) unary_first ((f ++ unary_goes) ++ unary_goes) unary_first (f ++ unary_goes) false (operands k) refl s3 (from_unary (suc n) X x r sample true (λ p a d. Chains k p a d) (λ p a d. chains k p a d) f (f ++ unary_goes) s1 lower (λ p a. chain_nil k p a 0)) in
        larger (suc n) (Chains (suc k) p a) (f ++ hs) ((hs ++ (f ++ unary_goes)) ++ (f ++ unary_goes)) (hs ++ f) ((hs ++ f) ++ unary_goes) true (chains (suc k) p a) s5 s6
        (seq (suc n) true true (Chains k p a) (λ b d. Many (link_head (suc k)) (LinkAfter (may_open d) (V d) (Operands k d)) (joined p) b) f (f ++ unary_goes) hs (hs ++ (f ++ unary_goes)) (chains k p a) (λ b d ts. times (link_head (suc k)) (link_after d (w d) (operands k d)) (joins d (w d) p) (length ts) b ts) (lower p a)
        (λ b. many (suc n) (link_head (suc k)) hs ranked (λ h d. LinkAfter (may_open d) (V d) (Operands k d) h) (joined p) link_first (f ++ unary_goes) (λ h d. link_after d (w d) (operands k d) h) (link_to k (f ++ unary_goes) s2 s7 o) s4 b) s4)

    chain0 : (p : Place) (a : ExprTree) → PartOf (suc n) (Chains 0 p a) [] ([] ++ unary_goes) true (chains 0 p a)
    unfolding chain
    chain0 p a = larger (suc n) (Chains 0 p a) [] [] [] unary_goes true (chains 0 p a) refl refl (done (suc n) a)

    abbrev set1 : List ℕ
    set1 = 28 ∷ 29 ∷ 30 ∷ []

    abbrev set2 : List ℕ
    set2 = 26 ∷ 27 ∷ set1

    abbrev set3 : List ℕ
    set3 = 24 ∷ 4 ∷ 25 ∷ 5 ∷ 59 ∷ 60 ∷ set2

    abbrev set4 : List ℕ
    set4 = 2 ∷ 3 ∷ set3

    abbrev set5 : List ℕ
    set5 = 6 ∷ set4

    abbrev set6 : List ℕ
    set6 = 7 ∷ set5

    chain1 : (p : Place) (a : ExprTree) → PartOf (suc n) (Chains 1 p a) set1 (set1 ++ unary_goes) true (chains 1 p a)
    chain1 = step 0 (28 ∷ 29 ∷ 30 ∷ []) [] ranks1 refl refl refl refl refl refl refl chain0

    chain2 : (p : Place) (a : ExprTree) → PartOf (suc n) (Chains 2 p a) set2 (set2 ++ unary_goes) true (chains 2 p a)
    chain2 = step 1 (26 ∷ 27 ∷ []) set1 ranks2 refl refl refl refl refl refl refl chain1

    chain3 : (p : Place) (a : ExprTree) → PartOf (suc n) (Chains 3 p a) set3 (set3 ++ unary_goes) true (chains 3 p a)
    chain3 = step 2 (24 ∷ 4 ∷ 25 ∷ 5 ∷ 59 ∷ 60 ∷ []) set2 ranks3 refl refl refl refl refl refl refl chain2

    chain4 : (p : Place) (a : ExprTree) → PartOf (suc n) (Chains 4 p a) set4 (set4 ++ unary_goes) true (chains 4 p a)
    chain4 = step 3 (2 ∷ 3 ∷ []) set3 ranks4 refl refl refl refl refl refl refl chain3

    chain5 : (p : Place) (a : ExprTree) → PartOf (suc n) (Chains 5 p a) set5 (set5 ++ unary_goes) true (chains 5 p a)
    chain5 = step 4 (6 ∷ []) set4 ranks5 refl refl refl refl refl refl refl chain4

    chain6 : (p : Place) (a : ExprTree) → PartOf (suc n) (Chains 6 p a) set6 (set6 ++ unary_goes) true (chains 6 p a)
    chain6 = step 5 (7 ∷ []) set5 ranks6 refl refl refl refl refl refl refl chain5

    -- ---- `==>` and `<==>`

    module _ (imp : PartOf n (U TheImplication) unary_first imp_goes false (u TheImplication)) where
      abbrev implied : Place → ExprTree → ℕ → List Piece → ExprTree → Type 0
      implied p b d = Bind (U TheImplication d) (λ c. Done (ImpliesOf p b c))

      abbrev ImpliesEnd : Place → ExprTree → ℕ → List Piece → ExprTree → Type 0
      ImpliesEnd p b d = Maybe (the symbol.Implies) (λ _. Deeper (may_open d) (Bind (V d TheImplication) (λ c. Done (ImpliesOf p b c)))) b

      or_goes : (t : Piece) → (known (the symbol.Implies t) || In imp_goes t) ≡ true → In imp_goes t ≡ true
      or_goes t h = or_one (known (the symbol.Implies t)) (In imp_goes t) h (λ e. subset_in (code t) (1 ∷ []) imp_goes refl (the_in symbol.Implies t e))
        where
          or_one : (a b : Bool) → (a || b) ≡ true → (a ≡ true → b ≡ true) → b ≡ true
          or_one true b e f = f refl
          or_one false b e f = e

      implies_end_to : (p : Place) (b : ExprTree) → PartOf (suc n) (ImpliesEnd p b) (1 ∷ []) imp_goes true (λ d. implication_end d (w d) p b)
      unfolding implication_end right_side
      implies_end_to p b = by_levels (suc n) (λ d. Maybe (the symbol.Implies) (λ _. Pick true (implied p b) d) b) (ImpliesEnd p b) (1 ∷ []) imp_goes true (λ d. implication_end d (w d) p b) (λ ts v q. q) (λ ts v q. q) (λ d ts v q. q) (λ d ts v q. q)
          (listed (suc n) (λ d. Maybe (the symbol.Implies) (λ _. Pick true (implied p b) d) b) (λ t. known (the symbol.Implies t)) (λ t. known (the symbol.Implies t) || In imp_goes t) (1 ∷ []) imp_goes true (λ d. implication_end d (w d) p b) (the_in symbol.Implies) or_goes
          (to_maybe_open n (the symbol.Implies) (λ _. true) (λ _. implied p b) (λ _ d. right_side (suc d) (λ i. u i d) p b) (In unary_first) (In imp_goes) false (λ _ h. to_as n (U TheImplication) (In unary_first) (In imp_goes) (u TheImplication) (λ c. ImpliesOf p b c) imp) (λ _ h. absurd cc) b (λ d y. opened true d (right_side d (w d) p b) y.1) agree))
        where
          agree : (d : ℕ) (y : Place) (t : Piece) (ts : List Piece) → pick true d (λ d. right_side (suc d) (λ i. u i d) p b) t ts ≡ opened true d (right_side d (w d) p b) t ts
          agree zero y t ts = refl
          agree (suc d) y t ts = refl

      implication_from_to : (p : Place) (a : ExprTree) → PartOf (suc n) (λ d. ImplicationFrom (may_open d) (V d) p a) (1 ∷ set6) imp_goes true (λ d. implication_from d (w d) p a)
      unfolding implication_from
      implication_from_to p a = larger (suc n) (λ d. ImplicationFrom (may_open d) (V d) p a) (set6 ++ 1 ∷ []) (imp_goes ++ (set6 ++ unary_goes)) (1 ∷ set6) imp_goes true (λ d. implication_from d (w d) p a) refl refl
          (seq (suc n) true true (Chains 6 p a) (ImpliesEnd p) set6 (set6 ++ unary_goes) (1 ∷ []) imp_goes (chains 6 p a) (λ b d. implication_end d (w d) p b) (chain6 p a) (implies_end_to p) refl)

      implication_nil : (p : Place) (a : ExprTree) (d : ℕ) → ImplicationFrom (may_open d) (V d) p a [] a
      implication_nil p a d = record { first = a; front = []; back = []; parts = refl; reads = chain_nil 6 p a d; goes_on = refl }

      pub implication_to : PartOf (suc n) (λ d. Implication (may_open d) (V d)) unary_first imp_goes false (λ d. implication d (w d))
      unfolding implication
      implication_to = larger (suc n) (λ d. Implication (may_open d) (V d)) unary_first (imp_goes ++ unary_goes) unary_first imp_goes false (λ d. implication d (w d)) refl refl
          (from_unary (suc n) X x r sample true (λ p a d. ImplicationFrom (may_open d) (V d) p a) (λ p a d. implication_from d (w d) p a) (1 ∷ set6) imp_goes refl implication_from_to (λ p a. implication_nil p a 0))

      iff_to : (p : Place) (b : ExprTree) → PartOf (suc n) (λ d. Maybe (the symbol.Iff) (λ _. Bind (Implication (may_open d) (V d)) (λ c. Done (IffOf p b c))) b) (0 ∷ []) expr_goes true (λ d. iff_end d (w d) p b)
      unfolding iff_end
      iff_to p b = listed (suc n) (λ d. Maybe (the symbol.Iff) (λ _. Bind (Implication (may_open d) (V d)) (λ c. Done (IffOf p b c))) b) (λ t. known (the symbol.Iff t)) (λ t. known (the symbol.Iff t) || In imp_goes t) (0 ∷ []) expr_goes true (λ d. iff_end d (w d) p b) (the_in symbol.Iff) (λ t h. or_two (known (the symbol.Iff t)) (In imp_goes t) (In expr_goes t) h (λ e. subset_in (code t) (0 ∷ []) expr_goes refl (the_in symbol.Iff t e)) (λ e. subset_in (code t) imp_goes expr_goes refl e))
          (to_maybe_plain (suc n) (the symbol.Iff) (λ _ d. Bind (Implication (may_open d) (V d)) (λ c. Done (IffOf p b c))) (In unary_first) (In imp_goes) false (λ _ d ts. implication d (w d) ts >>= λ c. Ok (IffOf p b c.0, c.1)) (λ _. to_as (suc n) (λ d. Implication (may_open d) (V d)) (In unary_first) (In imp_goes) (λ d. implication d (w d)) (λ c. IffOf p b c) implication_to) b)
        where
          or_two : (a b c : Bool) → (a || b) ≡ true → (a ≡ true → c ≡ true) → (b ≡ true → c ≡ true) → c ≡ true
          or_two true b c e f g = f refl
          or_two false b c e f g = g e

      pub expression_from_to : (p : Place) (a : ExprTree) → PartOf (suc n) (λ d. ExpressionFrom (may_open d) (V d) p a) (0 ∷ 1 ∷ set6) expr_goes true (λ d. expression_from d (w d) p a)
      unfolding expression_from
      expression_from_to p a = larger (suc n) (λ d. ExpressionFrom (may_open d) (V d) p a) ((1 ∷ set6) ++ 0 ∷ []) (expr_goes ++ imp_goes) (0 ∷ 1 ∷ set6) expr_goes true (λ d. expression_from d (w d) p a) refl refl
          (seq (suc n) true true (λ d. ImplicationFrom (may_open d) (V d) p a) (λ b d. Maybe (the symbol.Iff) (λ _. Bind (Implication (may_open d) (V d)) (λ c. Done (IffOf p b c))) b) (1 ∷ set6) imp_goes (0 ∷ []) expr_goes (λ d. implication_from d (w d) p a) (λ b d. iff_end d (w d) p b) (implication_from_to p a) (iff_to p) refl)

      pub expression_nil : (p : Place) (a : ExprTree) (d : ℕ) → ExpressionFrom (may_open d) (V d) p a [] a
      expression_nil p a d = record { first = a; front = []; back = []; parts = refl; reads = implication_nil p a d; goes_on = refl }

      pub expression_to : PartOf (suc n) (λ d. WholeExpression (may_open d) (V d)) unary_first expr_goes false (λ d. whole_expression d (w d))
      unfolding whole_expression
      expression_to = larger (suc n) (λ d. WholeExpression (may_open d) (V d)) unary_first (expr_goes ++ unary_goes) unary_first expr_goes false (λ d. whole_expression d (w d)) refl refl
          (from_unary (suc n) X x r sample true (λ p a d. ExpressionFrom (may_open d) (V d) p a) (λ p a d. expression_from d (w d) p a) (0 ∷ 1 ∷ set6) expr_goes refl expression_from_to (λ p a. expression_nil p a 0))
