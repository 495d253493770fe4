-- All parts of expressions and of statements, tied together: reading a block finds what the grammar says.
use Rattle.std.proofs.Common.{◌≡◌, ℕ, zero, suc, List, [], ◌∷◌, ◌++◌, None, Bool, true, false, refl, sym, ap, subst, arith}
use Rattle.ss_ast.specs.declared.token.Symbol.TheVariants as symbol
use Rattle.ss_ast.specs.Statements.{BlockTree, EmptyOf, NoMore}
use Rattle.ss_grammar.specs.Language.{Done, Take, Starts, Finds}
use Rattle.ss_grammar.specs.Reading.{take}
use Rattle.ss_grammar.proofs.Good.{Good}
use Rattle.ss_grammar.proofs.Parts.{to_same}
use Rattle.ss_grammar.proofs.KnotOpen.{Ends_open}
use Rattle.ss_grammar_expressions.specs.First.{tokened}
use Rattle.ss_grammar_expressions.specs.Heads.{Piece, or_left_out, the}
use Rattle.ss_grammar_expressions.specs.Grammar.{Part, TheUnary, TheImplication, TheExpression, TheTypeEnd, TheNamed, TheRange, Value, NoParts, no_place, AtLevel, WholeExpression}
use Rattle.ss_grammar_expressions.specs.Grammar.{Production as ExprProduction}
use Rattle.ss_grammar_expressions.specs.Parser.{Gets, give, held, reading, below}
use Rattle.ss_grammar_expressions.specs.Parser.{production as expr_production}
use Rattle.ss_grammar_expressions.proofs.Knots.{PartTo, Towers, Overs, towers_read_open, towers_end}
use Rattle.ss_grammar_expressions.proofs.Sets.{In, disjoint, PartOf, larger, done}
use Rattle.ss_grammar_expressions.proofs.Levels.{may_open, symbol}
use Rattle.ss_grammar_expressions.proofs.Pieces.{unary_first, expr_goes}
use Rattle.ss_grammar_expressions.proofs.Expressions.{inner_parts, inner_readers}
use Rattle.ss_grammar_expressions.proofs.Tied.{firsts, goings, empties, samples, musts, Over, over, level, seed, seeded, seed_starts}
use Rattle.ss_grammar_expressions.proofs.Tied.{body as expr_body}
use Rattle.ss_grammar_statements.specs.Grammar.{Nest, TheStatements, TheGoverned, TheHeading, Listed, HeadingTree, Nested, NoNests, open_if, Production, NestedAt, left_out_block, WholeBlock, Block}
use Rattle.ss_grammar_statements.specs.Parser.{block_after, nested_production, nested, nested_below, block}
use Rattle.ss_grammar_statements.proofs.Pieces.{other_first}
use Rattle.ss_grammar_statements.proofs.Open.{never_open, same_ends, done_shut, take_shut}
use Rattle.ss_grammar_statements.proofs.Governed.{else_set, an_else, no_else, list_first, heading_first, inner_nests, inner_nesting}
use Rattle.ss_grammar_statements.proofs.Statements.{statements_to, other_to, heading_to, others_end, whole_block_to}

-- a part of an expression or of a statement
data AnyPart : Type 0 where
  OfExpr : Part → AnyPart
  OfStmt : Nest → AnyPart

abbrev AnyValue : AnyPart → Type 0
AnyValue (OfExpr i) = Value i
AnyValue (OfStmt i) = Nested i

abbrev nest_firsts : Nest → List ℕ
nest_firsts TheStatements = list_first
nest_firsts TheGoverned = other_first
nest_firsts TheHeading = heading_first

abbrev nest_goings : Nest → List ℕ
nest_goings TheStatements = []
nest_goings TheGoverned = else_set
nest_goings TheHeading = []

abbrev all_firsts : AnyPart → List ℕ
all_firsts (OfExpr i) = firsts i
all_firsts (OfStmt i) = nest_firsts i

abbrev all_goings : AnyPart → List ℕ
all_goings (OfExpr i) = goings i
all_goings (OfStmt i) = nest_goings i

abbrev all_empties : AnyPart → Bool
all_empties (OfExpr i) = empties i
all_empties (OfStmt i) = false

abbrev all_samples : AnyPart → List Piece
all_samples (OfExpr i) = samples i
all_samples (OfStmt i) = []

abbrev all_musts : AnyPart → Piece → Bool
all_musts (OfExpr i) = musts i
all_musts (OfStmt i) = λ t. false

abbrev nest_opens : (i : Nest) → Nested i → Bool
nest_opens TheStatements = λ v. false
nest_opens TheGoverned = open_if
nest_opens TheHeading = λ v. false

abbrev all_opens : (i : AnyPart) → AnyValue i → Bool
all_opens (OfExpr i) = λ v. false
all_opens (OfStmt i) = nest_opens i

abbrev All : Type 1
All = (i : AnyPart) → List Piece → AnyValue i → Type 0

abbrev lowest : All
lowest (OfExpr i) = ExprProduction false NoParts i
lowest (OfStmt i) = Production false NoParts NoNests i

abbrev above : All → All
above P (OfExpr i) = ExprProduction true (λ j. P (OfExpr j)) i
above P (OfStmt i) = Production true (λ j. P (OfExpr j)) (λ j. P (OfStmt j)) i

abbrev Overall : ((i : AnyPart) → ℕ → List Piece → AnyValue i → Type 0) → (i : AnyPart) → ℕ → List Piece → AnyValue i → Type 0
Overall U i = Overs AnyValue lowest above (λ i. In (all_firsts i)) (λ i. In (all_goings i)) all_empties all_samples all_musts U i

abbrev overall : ((i : AnyPart) → ℕ → Gets (AnyValue i)) → (i : AnyPart) → ℕ → Gets (AnyValue i)
overall u (OfExpr i) d = expr_production d (inner_readers (λ j. u (OfExpr j)) d) i
overall u (OfStmt i) d = nested_production d (inner_readers (λ j. u (OfExpr j)) d) (inner_nesting (λ j. u (OfStmt j)) d) i

-- no expression goes on with an `else`
expr_apart : (i : Part) → disjoint (goings i) else_set ≡ true
expr_apart TheUnary = refl
expr_apart TheImplication = refl
expr_apart TheExpression = refl
expr_apart (TheTypeEnd t) = refl
expr_apart (TheNamed x) = refl
expr_apart TheRange = refl

module _ (n : ℕ) (U : (i : AnyPart) → ℕ → List Piece → AnyValue i → Type 0) (u : (i : AnyPart) → ℕ → Gets (AnyValue i)) (parts : (i : AnyPart) → PartTo n (U i) (In (all_firsts i)) (In (all_goings i)) (all_empties i) (all_samples i) (all_musts i) (u i)) (ends : (i : AnyPart) → Ends_open an_else (all_opens i) (U i)) where
  abbrev EU : (i : Part) → ℕ → List Piece → Value i → Type 0
  EU i = U (OfExpr i)

  abbrev eu : (i : Part) → ℕ → Gets (Value i)
  eu i = u (OfExpr i)

  abbrev SU : (i : Nest) → ℕ → List Piece → Nested i → Type 0
  SU i = U (OfStmt i)

  abbrev su : (i : Nest) → ℕ → Gets (Nested i)
  su i = u (OfStmt i)

  -- ---- expressions

  expr_there : (i : Part) (d : ℕ) (ts : List Piece) (v : Value i) → Over EU i d ts v → Overall U (OfExpr i) d ts v
  expr_there i zero ts v q = q
  expr_there i (suc d) ts v q = q

  expr_back : (i : Part) (d : ℕ) (ts : List Piece) (v : Value i) → Overall U (OfExpr i) d ts v → Over EU i d ts v
  expr_back i zero ts v q = q
  expr_back i (suc d) ts v q = q

  expr_part : (i : Part) → PartTo (suc n) (Overall U (OfExpr i)) (In (firsts i)) (In (goings i)) (empties i) (samples i) (musts i) (over eu i)
  expr_part i =
      let b = expr_body n EU eu (λ j. parts (OfExpr j)) i in
      record {
        reads = to_same (suc n) (Over EU i) (Overall U (OfExpr i)) (In (firsts i)) (In (goings i)) (empties i) (over eu i) (expr_there i) (expr_back i) b.reads;
        starts = record { more = b.starts.more; value = b.starts.value; reads = expr_there i 0 (samples i ++ b.starts.more) b.starts.value b.starts.reads };
        alive = λ lt t h. let a = b.alive lt t h in (a.0, record { more = a.1.more; value = a.1.value; reads = expr_there i a.0 ((t ∷ []) ++ a.1.more) a.1.value a.1.reads });
      }

  expr_ends : (i : Part) → Ends_open an_else (all_opens (OfExpr i)) (Overall U (OfExpr i))
  expr_ends i = never_open an_else (all_opens (OfExpr i)) (Overall U (OfExpr i)) (In (firsts i)) (In (goings i)) (empties i) (expr_part i).reads.good.facts (no_else (goings i) (expr_apart i)) (λ d t a p. refl)

  -- ---- statements

  whole : PartOf (suc n) (λ d. WholeExpression (may_open d) (inner_parts EU d)) unary_first expr_goes false (λ d. over eu TheExpression d)
  whole = level n EU eu (λ j. parts (OfExpr j)) TheExpression

  abbrev Leveled : (i : Nest) → ℕ → List Piece → Nested i → Type 0
  Leveled i d = Production (may_open d) (inner_parts EU d) (inner_nests SU d) i

  nest_there : (i : Nest) (d : ℕ) (ts : List Piece) (v : Nested i) → Leveled i d ts v → Overall U (OfStmt i) d ts v
  nest_there i zero ts v q = q
  nest_there i (suc d) ts v q = q

  nest_back : (i : Nest) (d : ℕ) (ts : List Piece) (v : Nested i) → Overall U (OfStmt i) d ts v → Leveled i d ts v
  nest_back i zero ts v q = q
  nest_back i (suc d) ts v q = q

  leveled : (i : Nest) → PartOf (suc n) (Leveled i) (nest_firsts i) (nest_goings i) false (overall u (OfStmt i))
  leveled TheStatements = statements_to n EU eu SU su (parts (OfExpr TheExpression)).reads (parts (OfExpr TheRange)).reads whole (parts (OfStmt TheStatements)).reads (parts (OfStmt TheGoverned)).reads (ends (OfStmt TheGoverned)) (parts (OfStmt TheHeading)).reads
  leveled TheGoverned = other_to n EU eu SU su (parts (OfExpr TheExpression)).reads (parts (OfExpr TheRange)).reads whole (parts (OfStmt TheStatements)).reads (parts (OfStmt TheGoverned)).reads (ends (OfStmt TheGoverned)) (parts (OfStmt TheHeading)).reads
  leveled TheHeading = heading_to n EU eu SU su (parts (OfExpr TheExpression)).reads (parts (OfExpr TheRange)).reads whole (parts (OfStmt TheStatements)).reads (parts (OfStmt TheGoverned)).reads (ends (OfStmt TheGoverned)) (parts (OfStmt TheHeading)).reads

  nest_reads : (i : Nest) → PartOf (suc n) (Overall U (OfStmt i)) (nest_firsts i) (nest_goings i) false (overall u (OfStmt i))
  nest_reads i = to_same (suc n) (Leveled i) (Overall U (OfStmt i)) (In (nest_firsts i)) (In (nest_goings i)) false (overall u (OfStmt i)) (nest_there i) (nest_back i) (leveled i)

  nest_part : (i : Nest) → PartTo (suc n) (Overall U (OfStmt i)) (In (nest_firsts i)) (In (nest_goings i)) false [] (λ t. false) (overall u (OfStmt i))
  nest_part i = record { reads = nest_reads i; starts = (nest_reads i).good.some; alive = λ lt t h. absurd cc }

  nest_ends : (i : Nest) → Ends_open an_else (nest_opens i) (Overall U (OfStmt i))
  nest_ends TheStatements = never_open an_else (nest_opens TheStatements) (Overall U (OfStmt TheStatements)) (In list_first) (In []) false (nest_reads TheStatements).good.facts (no_else [] refl) (λ d t a p. refl)
  nest_ends TheGoverned = same_ends an_else open_if (Leveled TheGoverned) (Overall U (OfStmt TheGoverned)) (nest_there TheGoverned) (nest_back TheGoverned) (others_end n EU eu SU su (parts (OfExpr TheExpression)).reads (parts (OfExpr TheRange)).reads whole (parts (OfStmt TheStatements)).reads (parts (OfStmt TheGoverned)).reads (ends (OfStmt TheGoverned)) (parts (OfStmt TheHeading)).reads)
  nest_ends TheHeading = never_open an_else (nest_opens TheHeading) (Overall U (OfStmt TheHeading)) (In heading_first) (In []) false (nest_reads TheHeading).good.facts (no_else [] refl) (λ d t a p. refl)

  body : (i : AnyPart) → PartTo (suc n) (Overall U i) (In (all_firsts i)) (In (all_goings i)) (all_empties i) (all_samples i) (all_musts i) (overall u i) × Ends_open an_else (all_opens i) (Overall U i)
  body (OfExpr i) = (expr_part i, expr_ends i)
  body (OfStmt i) = (nest_part i, nest_ends i)

-- ---- some language to begin with at the lowest level, where it isn't used

abbrev an_end : Listed
an_end = record { statements = NoMore; end = no_place }

abbrev a_heading : HeadingTree
a_heading = record { first = None; test = None; step = None }

abbrev nest_seed : (i : Nest) → ℕ → List Piece → Nested i → Type 0
nest_seed TheStatements d = Take (the symbol.CloseBrace) (λ _. Done an_end)
nest_seed TheGoverned d = Take (the symbol.Semicolon) (λ _. Done (EmptyOf no_place))
nest_seed TheHeading d = Take (the symbol.Semicolon) (λ _. Done a_heading)

abbrev nest_seed_reader : (i : Nest) → ℕ → Gets (Nested i)
nest_seed_reader TheStatements d = take (the symbol.CloseBrace) (λ _. give an_end)
nest_seed_reader TheGoverned d = take (the symbol.Semicolon) (λ _. give (EmptyOf no_place))
nest_seed_reader TheHeading d = take (the symbol.Semicolon) (λ _. give a_heading)

nest_seeded : (i : Nest) → PartOf 0 (nest_seed i) (nest_firsts i) (nest_goings i) false (nest_seed_reader i)
nest_seeded TheStatements = larger 0 (nest_seed TheStatements) (14 ∷ []) [] list_first [] false (nest_seed_reader TheStatements) refl refl (symbol 0 symbol.CloseBrace (λ _ d. Done an_end) [] [] true (λ _ d. give an_end) refl (λ _. done 0 an_end))
nest_seeded TheGoverned = larger 0 (nest_seed TheGoverned) (19 ∷ []) [] other_first else_set false (nest_seed_reader TheGoverned) refl refl (symbol 0 symbol.Semicolon (λ _ d. Done (EmptyOf no_place)) [] [] true (λ _ d. give (EmptyOf no_place)) refl (λ _. done 0 (EmptyOf no_place)))
nest_seeded TheHeading = larger 0 (nest_seed TheHeading) (19 ∷ []) [] heading_first [] false (nest_seed_reader TheHeading) refl refl (symbol 0 symbol.Semicolon (λ _ d. Done a_heading) [] [] true (λ _ d. give a_heading) refl (λ _. done 0 a_heading))

nest_seed_ends : (i : Nest) → Ends_open an_else (nest_opens i) (nest_seed i)
nest_seed_ends TheStatements = never_open an_else (nest_opens TheStatements) (nest_seed TheStatements) (In list_first) (In []) false (nest_seeded TheStatements).good.facts (no_else [] refl) (λ d t a p. refl)
nest_seed_ends TheGoverned = never_open an_else open_if (nest_seed TheGoverned) (In (19 ∷ [])) (In []) false (symbol 0 symbol.Semicolon (λ _ d. Done (EmptyOf no_place)) [] [] true (λ _ d. give (EmptyOf no_place)) refl (λ _. done 0 (EmptyOf no_place))).good.facts (no_else [] refl) (take_shut an_else open_if (the symbol.Semicolon) (λ _ d. Done (EmptyOf no_place)) (λ _. done_shut an_else open_if (EmptyOf no_place) refl))
nest_seed_ends TheHeading = never_open an_else (nest_opens TheHeading) (nest_seed TheHeading) (In heading_first) (In []) false (nest_seeded TheHeading).good.facts (no_else [] refl) (λ d t a p. refl)

abbrev any_seed : (i : AnyPart) → ℕ → List Piece → AnyValue i → Type 0
any_seed (OfExpr i) = seed i
any_seed (OfStmt i) = nest_seed i

any_seeded : (i : AnyPart) → Good (any_seed i) (In (all_firsts i)) (In (all_goings i)) (all_empties i)
any_seeded (OfExpr i) = (seeded i).good
any_seeded (OfStmt i) = (nest_seeded i).good

any_starts : (i : AnyPart) → Starts (any_seed i 0) (all_samples i)
any_starts (OfExpr i) = seed_starts i
any_starts (OfStmt i) = (nest_seeded i).good.some

any_ends : (i : AnyPart) → Ends_open an_else (all_opens i) (any_seed i)
any_ends (OfExpr i) = never_open an_else (all_opens (OfExpr i)) (seed i) (In (firsts i)) (In (goings i)) (empties i) (seeded i).good.facts (no_else (goings i) (expr_apart i)) (λ d t a p. refl)
any_ends (OfStmt i) = nest_seed_ends i

-- ---- the knot

abbrev Tied : ℕ → All
Tied d = Towers AnyValue lowest above (λ i. In (all_firsts i)) (λ i. In (all_goings i)) all_empties all_samples all_musts d

abbrev any_reading : (i : AnyPart) → ℕ → Gets (AnyValue i)
any_reading (OfExpr i) d = reading d i
any_reading (OfStmt i) d = nested d i

same_reading : (i : AnyPart) (d : ℕ) (ts : List Piece) → overall any_reading i d ts ≡ any_reading i d ts
unfolding reading nested
same_reading (OfExpr i) zero ts = refl
same_reading (OfExpr i) (suc d) ts = refl
same_reading (OfStmt i) zero ts = refl
same_reading (OfStmt i) (suc d) ts = refl

tied_part : (n : ℕ) (i : AnyPart) → PartTo n (λ d. Tied d i) (In (all_firsts i)) (In (all_goings i)) (all_empties i) (all_samples i) (all_musts i) (any_reading i)
tied_part n i = towers_read_open AnyValue lowest above (λ i. In (all_firsts i)) (λ i. In (all_goings i)) all_empties all_samples all_musts an_else all_opens overall body any_seed any_seeded any_starts any_ends any_reading same_reading n i

tied_ends : (i : AnyPart) → Ends_open an_else (all_opens i) (λ d. Tied d i)
tied_ends i = towers_end AnyValue lowest above (λ i. In (all_firsts i)) (λ i. In (all_goings i)) all_empties all_samples all_musts an_else all_opens overall body any_seed any_seeded any_starts any_ends i

same_exprs : (d : ℕ) → (λ (i : Part). Tied d (OfExpr i)) ≡ AtLevel d
same_exprs zero = refl
same_exprs (suc d) = ap (ExprProduction true) (same_exprs d)

same_nests : (d : ℕ) → (λ (i : Nest). Tied d (OfStmt i)) ≡ NestedAt d
same_nests zero = refl
same_nests (suc d) = subst (λ (P : (i : Part) → List Piece → Value i → Type 0). (λ (i : Nest). Tied (suc d) (OfStmt i)) ≡ Production true P (NestedAt d)) (same_exprs d) (ap (Production true (λ i. Tied d (OfExpr i))) (same_nests d))

-- ---- blocks

module _ (n : ℕ) where
  abbrev EX : (i : Part) → ℕ → List Piece → Value i → Type 0
  EX i d = Tied d (OfExpr i)

  abbrev ex : (i : Part) → ℕ → Gets (Value i)
  ex i d = reading d i

  abbrev SX : (i : Nest) → ℕ → List Piece → Nested i → Type 0
  SX i d = Tied d (OfStmt i)

  abbrev sx : (i : Nest) → ℕ → Gets (Nested i)
  sx i d = nested d i

  abbrev Blocks : ℕ → List Piece → BlockTree → Type 0
  Blocks d = WholeBlock (may_open d) (inner_parts EX d) (inner_nests SX d)

  abbrev blocks : ℕ → Gets BlockTree
  blocks d = take (tokened (or_left_out (the symbol.OpenBrace))) (held d (block_after d (inner_readers ex d) (inner_nesting sx d)) left_out_block)

  blocks_to : PartOf (suc n) Blocks (36 ∷ 13 ∷ []) [] false blocks
  blocks_to = whole_block_to n EX ex SX sx (tied_part n (OfExpr TheExpression)).reads (tied_part n (OfExpr TheRange)).reads (level n EX ex (λ j. tied_part n (OfExpr j)) TheExpression) (tied_part n (OfStmt TheStatements)).reads (tied_part n (OfStmt TheGoverned)).reads (tied_ends (OfStmt TheGoverned)) (tied_part n (OfStmt TheHeading)).reads

  same_blocks : (d : ℕ) → Blocks d ≡ Block d
  same_blocks zero = refl
  same_blocks (suc d) = subst (λ (P : (i : Part) → List Piece → Value i → Type 0). Blocks (suc d) ≡ WholeBlock true P (NestedAt d)) (same_exprs d) (ap (WholeBlock true (λ i. Tied d (OfExpr i))) (same_nests d))

  same_block : (d : ℕ) (ts : List Piece) → blocks d ts ≡ block d ts
  unfolding block below nested_below
  same_block zero ts = refl
  same_block (suc d) ts = refl

  above_to : PartOf (suc n) Block (36 ∷ 13 ∷ []) [] false blocks
  above_to = to_same (suc n) Blocks Block (In (36 ∷ 13 ∷ [])) (In []) false blocks (λ d ts v q. subst (λ (L : List Piece → BlockTree → Type 0). L ts v) (same_blocks d) q) (λ d ts v q. subst (λ (L : List Piece → BlockTree → Type 0). L ts v) (sym (same_blocks d)) q) blocks_to

  -- a block, read
  pub block_to : PartOf n Block (36 ∷ 13 ∷ []) [] false block
  block_to = record { good = above_to.good; finds = λ d lt ts. subst (λ r. Finds Block d ts r) (same_block d ts) (above_to.finds d (omega arith) ts) }

-- reading a block at depth d finds what the grammar says
pub block_finds : (d : ℕ) (ts : List Piece) → Finds Block d ts (block d ts)
block_finds d ts = (block_to (suc d)).finds d (omega arith) ts

pub block_one : (d e : ℕ) (ts : List Piece) (a b : BlockTree) → Block d ts a → Block e ts b → a ≡ b
block_one d e ts a b p q = (block_to 0).good.facts.one ts a b (d, p) (e, q)

-- a deeper level has all that a lower one has
pub block_grows : (d : ℕ) (ts : List Piece) (v : BlockTree) → Block d ts v → Block (suc d) ts v
block_grows d ts v p = (block_to 0).good.grows d ts v p
