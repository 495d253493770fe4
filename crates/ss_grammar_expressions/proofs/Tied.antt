-- Reading finds what the grammar says, for each part at each level.
use Rattle.std.proofs.Common.{◌≡◌, ℕ, zero, suc, List, [], ◌∷◌, ◌++◌, Option, Some, Bool, true, false, refl, sym, ap, subst, eqb, pos, arith}
use Rattle.std.specs.Prelude.{◌||◌}
use Rattle.ss_core.specs.declared.names.Place.{Place}
use Rattle.ss_ast.specs.declared.token.Symbol.TheVariants as symbol
use Rattle.ss_ast.specs.Tokens.{ASymbol}
use Rattle.ss_ast.specs.Expressions.{ExprTree, NumberOf, BaseOf}
use Rattle.ss_grammar.specs.Language.{Done, Take, Starts, Finds}
use Rattle.ss_grammar.specs.Reading.{take}
use Rattle.ss_grammar.proofs.Facts.{known}
use Rattle.ss_grammar.proofs.Parts.{to_same}
use Rattle.ss_grammar.proofs.Knot.{ReadsTo}
use Rattle.ss_grammar_expressions.specs.Heads.{Piece, if_so, castable}
use Rattle.ss_grammar_expressions.specs.Grammar.{Part, TheUnary, TheImplication, TheExpression, TheTypeEnd, TheNamed, TheRange, AnExpr, Value, NoParts, named, type_of, no_place, Production, AtLevel, Expression}
use Rattle.ss_grammar_expressions.specs.Parser.{Gets, give, production, reading}
use Rattle.ss_grammar_expressions.proofs.Knots.{PartTo, Towers, Overs, towers_reads}
use Rattle.ss_grammar_expressions.proofs.Sets.{code, In, PartOf, larger, done, may_be_empty, token}
use Rattle.ss_grammar_expressions.proofs.Levels.{may_open, of}
use Rattle.ss_grammar_expressions.proofs.Pieces.{unary_first, unary_goes, imp_goes, expr_goes}
use Rattle.ss_grammar_expressions.proofs.Expressions.{inner_parts, inner_readers, type_end_to, range_to}
use Rattle.ss_grammar_expressions.proofs.Unaries.{number_piece, type_set, named_set, unary_to, unary_starts, unary_alive}
use Rattle.ss_grammar_expressions.proofs.Chains.{implication_to, expression_to}
use Rattle.ss_grammar_expressions.proofs.Whole.{named_to}

abbrev pub firsts : Part → List ℕ
firsts TheUnary = unary_first
firsts TheImplication = unary_first
firsts TheExpression = unary_first
firsts (TheTypeEnd t) = type_set
firsts (TheNamed x) = named_set
firsts TheRange = 36 ∷ 15 ∷ []

abbrev pub goings : Part → List ℕ
goings TheUnary = unary_goes
goings TheImplication = imp_goes
goings TheExpression = expr_goes
goings (TheTypeEnd t) = type_set
goings (TheNamed x) = named_set
goings TheRange = []

abbrev pub empties : Part → Bool
empties TheUnary = false
empties TheImplication = false
empties TheExpression = false
empties (TheTypeEnd t) = true
empties (TheNamed x) = true
empties TheRange = false

abbrev pub samples : Part → List Piece
samples TheUnary = number_piece ∷ []
samples _ = []

abbrev pub musts : Part → Piece → Bool
musts TheUnary t = castable t
musts _ t = false

abbrev pub lowest : (i : Part) → List Piece → Value i → Type 0
lowest = Production false NoParts

abbrev pub above : ((i : Part) → List Piece → Value i → Type 0) → (i : Part) → List Piece → Value i → Type 0
above = Production true

abbrev pub Over : ((i : Part) → ℕ → List Piece → Value i → Type 0) → (i : Part) → ℕ → List Piece → Value i → Type 0
Over U i = Overs Value lowest above (λ i. In (firsts i)) (λ i. In (goings i)) empties samples musts U i

abbrev pub over : ((i : Part) → ℕ → Gets (Value i)) → (i : Part) → ℕ → Gets (Value i)
over u i d = production d (inner_readers u d) i

module _ (n : ℕ) (U : (i : Part) → ℕ → List Piece → Value i → Type 0) (u : (i : Part) → ℕ → Gets (Value i)) (parts : (i : Part) → PartTo n (U i) (In (firsts i)) (In (goings i)) (empties i) (samples i) (musts i) (u i)) where
  there : (i : Part) (d : ℕ) (ts : List Piece) (v : Value i) → Production (may_open d) (inner_parts U d) i ts v → Over U i d ts v
  there i zero ts v q = q
  there i (suc d) ts v q = q

  back : (i : Part) (d : ℕ) (ts : List Piece) (v : Value i) → Over U i d ts v → Production (may_open d) (inner_parts U d) i ts v
  back i zero ts v q = q
  back i (suc d) ts v q = q

  unary_part : PartOf (suc n) (λ d. Production (may_open d) (inner_parts U d) TheUnary) unary_first unary_goes false (over u TheUnary)
  unary_part = unary_to n U u (parts TheUnary).reads (parts TheUnary).starts (parts TheUnary).alive (parts TheExpression).reads (λ t. (parts (TheTypeEnd t)).reads) (λ x. (parts (TheNamed x)).reads) (parts TheRange).reads

  sample : (z : List Piece) × (v : ExprTree) × Production (may_open 0) (inner_parts U 0) TheUnary (number_piece ∷ z) v
  sample = ([], NumberOf no_place (pos 0), (0, (refl, refl)))

  pub level : (i : Part) → PartOf (suc n) (λ d. Production (may_open d) (inner_parts U d) i) (firsts i) (goings i) (empties i) (over u i)
  level TheUnary = unary_part
  level TheImplication = implication_to n U u unary_part sample (parts TheImplication).reads
  level TheExpression = expression_to n U u unary_part sample (parts TheImplication).reads
  level (TheTypeEnd t) = larger (suc n) (λ d. Production (may_open d) (inner_parts U d) (TheTypeEnd t)) type_set (31 ∷ 17 ∷ []) type_set type_set true (over u (TheTypeEnd t)) refl refl (type_end_to n t)
  level (TheNamed x) = named_to n U u (parts TheExpression).reads (parts TheRange).reads (parts TheImplication).reads unary_part x
  level TheRange = range_to n U u (parts TheExpression).reads (parts TheRange).reads

  level_over : (i : Part) → PartOf (suc n) (Over U i) (firsts i) (goings i) (empties i) (over u i)
  level_over i = to_same (suc n) (λ d. Production (may_open d) (inner_parts U d) i) (Over U i) (In (firsts i)) (In (goings i)) (empties i) (over u i) (there i) (back i) (level i)

  pub body : (i : Part) → PartTo (suc n) (Over U i) (In (firsts i)) (In (goings i)) (empties i) (samples i) (musts i) (over u i)
  body TheUnary = record {
    reads = level_over TheUnary;
    starts = unary_starts n U u (parts TheUnary).reads (parts TheUnary).starts (parts TheUnary).alive (parts TheExpression).reads (λ t. (parts (TheTypeEnd t)).reads) (λ x. (parts (TheNamed x)).reads) (parts TheRange).reads;
    alive = λ lt t h.
        let a = unary_alive n U u (parts TheUnary).reads (parts TheUnary).starts (parts TheUnary).alive (parts TheExpression).reads (λ t. (parts (TheTypeEnd t)).reads) (λ x. (parts (TheNamed x)).reads) (parts TheRange).reads t h in
        (a.0, record { more = a.1.more; value = a.1.value; reads = there TheUnary a.0 ((t ∷ []) ++ a.1.more) a.1.value a.1.reads });
  }
  body TheImplication = record { reads = level_over TheImplication; starts = (level_over TheImplication).good.some; alive = λ lt t h. absurd cc }
  body TheExpression = record { reads = level_over TheExpression; starts = (level_over TheExpression).good.some; alive = λ lt t h. absurd cc }
  body (TheTypeEnd t) = record { reads = level_over (TheTypeEnd t); starts = (level_over (TheTypeEnd t)).good.some; alive = λ lt t h. absurd cc }
  body (TheNamed x) = record { reads = level_over (TheNamed x); starts = (level_over (TheNamed x)).good.some; alive = λ lt t h. absurd cc }
  body TheRange = record { reads = level_over TheRange; starts = (level_over TheRange).good.some; alive = λ lt t h. absurd cc }

-- ---- some language to begin with at the lowest level, where it isn't used

abbrev code_is : ℕ → Piece → Option Place
code_is c t = if_so (eqb (code t) c) no_place

code_in : (c : ℕ) (t : Piece) → known (code_is c t) ≡ true → In (c ∷ []) t ≡ true
code_in c t h = at (eqb (code t) c) h
  where
    at : (b : Bool) → known (if_so b no_place) ≡ true → (b || false) ≡ true
    at true q = refl
    at false q = absurd cc

abbrev seed_code : Part → ℕ
seed_code TheUnary = 33
seed_code TheImplication = 33
seed_code TheExpression = 33
seed_code (TheTypeEnd t) = 31
seed_code (TheNamed x) = 31
seed_code TheRange = 15

abbrev seed_value : (i : Part) → Value i
seed_value TheUnary = BaseOf no_place
seed_value TheImplication = BaseOf no_place
seed_value TheExpression = BaseOf no_place
seed_value (TheTypeEnd t) = type_of t false false
seed_value (TheNamed x) = AnExpr (named x)
seed_value TheRange = (BaseOf no_place, BaseOf no_place)

abbrev pub seed : (i : Part) → ℕ → List Piece → Value i → Type 0
seed i d = Take (code_is (seed_code i)) (λ _. Done (seed_value i))

one_seed : (i : Part) (t : Piece) → code_is (seed_code i) t ≡ Some no_place → PartOf 0 (seed i) (seed_code i ∷ []) [] false (λ d. take (code_is (seed_code i)) (λ _. give (seed_value i)))
one_seed i t e = token 0 (code_is (seed_code i)) (seed_code i ∷ []) (code_in (seed_code i)) (λ _ d. Done (seed_value i)) [] [] true (λ _ d. give (seed_value i)) (λ _. done 0 (seed_value i)) t no_place e

abbrev seed_reader : (i : Part) → ℕ → Gets (Value i)
seed_reader i d = take (code_is (seed_code i)) (λ _. give (seed_value i))

pub seeded : (i : Part) → PartOf 0 (seed i) (firsts i) (goings i) (empties i) (seed_reader i)
seeded TheUnary = larger 0 (seed TheUnary) (33 ∷ []) [] unary_first unary_goes false (seed_reader TheUnary) refl refl (one_seed TheUnary number_piece refl)
seeded TheImplication = larger 0 (seed TheImplication) (33 ∷ []) [] unary_first imp_goes false (seed_reader TheImplication) refl refl (one_seed TheImplication number_piece refl)
seeded TheExpression = larger 0 (seed TheExpression) (33 ∷ []) [] unary_first expr_goes false (seed_reader TheExpression) refl refl (one_seed TheExpression number_piece refl)
seeded (TheTypeEnd t) = larger 0 (seed (TheTypeEnd t)) (31 ∷ []) [] type_set type_set true (seed_reader (TheTypeEnd t)) refl refl (may_be_empty 0 (seed (TheTypeEnd t)) (31 ∷ []) [] false (seed_reader (TheTypeEnd t)) (one_seed (TheTypeEnd t) (of (ASymbol symbol.Bang)) refl))
seeded (TheNamed x) = larger 0 (seed (TheNamed x)) (31 ∷ []) [] named_set named_set true (seed_reader (TheNamed x)) refl refl (may_be_empty 0 (seed (TheNamed x)) (31 ∷ []) [] false (seed_reader (TheNamed x)) (one_seed (TheNamed x) (of (ASymbol symbol.Bang)) refl))
seeded TheRange = larger 0 (seed TheRange) (15 ∷ []) [] (36 ∷ 15 ∷ []) [] false (seed_reader TheRange) refl refl (one_seed TheRange (of (ASymbol symbol.Open)) refl)

pub seed_starts : (i : Part) → Starts (seed i 0) (samples i)
seed_starts TheUnary = record { more = []; value = BaseOf no_place; reads = (refl, refl) }
seed_starts TheImplication = (seeded TheImplication).good.some
seed_starts TheExpression = (seeded TheExpression).good.some
seed_starts (TheTypeEnd t) = (seeded (TheTypeEnd t)).good.some
seed_starts (TheNamed x) = (seeded (TheNamed x)).good.some
seed_starts TheRange = (seeded TheRange).good.some

-- ---- the knot

abbrev Tied : ℕ → (i : Part) → List Piece → Value i → Type 0
Tied d i = Towers Value lowest above (λ i. In (firsts i)) (λ i. In (goings i)) empties samples musts d i

tied_there : (i : Part) (d : ℕ) (ts : List Piece) (v : Value i) → Tied d i ts v → AtLevel d i ts v
tied_there i d ts v q = subst (λ (L : (i : Part) → List Piece → Value i → Type 0). L i ts v) (same d) q
  where
    same : (d : ℕ) → Towers Value lowest above (λ i. In (firsts i)) (λ i. In (goings i)) empties samples musts d ≡ AtLevel d
    same zero = refl
    same (suc d) = ap above (same d)

tied_back : (i : Part) (d : ℕ) (ts : List Piece) (v : Value i) → AtLevel d i ts v → Tied d i ts v
tied_back i d ts v q = subst (λ (L : (i : Part) → List Piece → Value i → Type 0). L i ts v) (sym (same d)) q
  where
    same : (d : ℕ) → Towers Value lowest above (λ i. In (firsts i)) (λ i. In (goings i)) empties samples musts d ≡ AtLevel d
    same zero = refl
    same (suc d) = ap above (same d)

same_reader : (i : Part) (d : ℕ) (ts : List Piece) → over (λ i d. reading d i) i d ts ≡ reading d i ts
unfolding reading
same_reader i zero ts = refl
same_reader i (suc d) ts = refl

tied_reads : (n : ℕ) (i : Part) → ReadsTo n (λ d. Tied d i) (In (firsts i)) (In (goings i)) (empties i) (λ d. reading d i)
tied_reads n i = (towers_reads Value lowest above (λ i. In (firsts i)) (λ i. In (goings i)) empties samples musts over body seed (λ i. (seeded i).good) seed_starts (λ i d. reading d i) same_reader n i).reads

pub reads_all : (n : ℕ) (i : Part) → ReadsTo n (λ d. AtLevel d i) (In (firsts i)) (In (goings i)) (empties i) (λ d. reading d i)
reads_all n i = to_same n (λ d. Tied d i) (λ d. AtLevel d i) (In (firsts i)) (In (goings i)) (empties i) (λ d. reading d i) (tied_there i) (tied_back i) (tied_reads n i)

-- reading an expression at depth d finds what the grammar says
pub expression_finds : (d : ℕ) (ts : List Piece) → Finds Expression d ts (reading d TheExpression ts)
expression_finds d ts = (reads_all (suc d) TheExpression).finds d (omega arith) ts

pub expression_one : (d e : ℕ) (ts : List Piece) (a b : ExprTree) → Expression d ts a → Expression e ts b → a ≡ b
expression_one d e ts a b p q = (reads_all 0 TheExpression).good.facts.one ts a b (d, p) (e, q)
