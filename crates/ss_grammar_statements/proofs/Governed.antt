-- Reading what stands after the `(` of a statement finds what the grammar says, and an `else` has the nearest `if`.
use Rattle.std.proofs.Common.{◌≡◌, ℕ, zero, suc, List, [], ◌∷◌, Option, Some, None, Ok, Bool, true, false, refl, sym, ap}
use Rattle.std.specs.Prelude.{◌||◌, ◌&&◌}
use Rattle.std.proofs.lemmas.List.{append-nil}
use Rattle.ss_core.specs.declared.names.Place.{Place}
use Rattle.ss_ast.specs.declared.token.Word.TheVariants as word
use Rattle.ss_ast.specs.declared.token.Symbol.TheVariants as symbol
use Rattle.ss_ast.specs.Tokens.{ASymbol}
use Rattle.ss_ast.specs.Expressions.{NameTree, ExprTree}
use Rattle.ss_ast.specs.Statements.{BlockOf, StmtTree, InBlock, IfOf, IfElseOf, WhileOf, ForOf, ExposeOf}
use Rattle.ss_grammar.specs.Language.{Done, Take, Maybe, Bind}
use Rattle.ss_grammar.specs.Reading.{◌>>=◌}
use Rattle.ss_grammar.proofs.Facts.{Any, known, no_token, apart_by}
use Rattle.ss_grammar.proofs.Good.{Good, done_good, maybe_good, bind_in}
use Rattle.ss_grammar.proofs.Parts.{wide, to_as, to_same}
use Rattle.ss_grammar.proofs.KnotOpen.{Ends_open}
use Rattle.ss_grammar.proofs.Nearest.{Tail, nearest_good, find_nearest}
use Rattle.ss_grammar_expressions.specs.Heads.{Piece, is, the, the_word}
use Rattle.ss_grammar_expressions.specs.Grammar.{Part, TheExpression, Value, Parts, AnyName, join_argument, ParenEnd, WholeExpression, no_place}
use Rattle.ss_grammar_expressions.specs.Parser.{Gets, Inner, name_at, paren_end, whole_expression}
use Rattle.ss_grammar_expressions.proofs.First.{to_choose}
use Rattle.ss_grammar_expressions.proofs.Opening.{to_above}
use Rattle.ss_grammar_expressions.proofs.Sets.{code, In, subset_in, disjoint, disjoint_in, PartOf, larger, seq, many}
use Rattle.ss_grammar_expressions.proofs.Levels.{may_open, the_in, the_word_in, of, symbol}
use Rattle.ss_grammar_expressions.proofs.Pieces.{unary_first, expr_goes}
use Rattle.ss_grammar_expressions.proofs.Expressions.{inner_parts, inner_readers, paren_end_to, name_to}
use Rattle.ss_grammar_statements.specs.Grammar.{Ended, Nest, TheStatements, TheGoverned, TheHeading, HeadingTree, Nested, Nests, NoNests, open_if, BlockAfter, InnerBlock, Governed, ElseEnd, IfEnd, Invariants, WhileEnd, ForEnd, AtEnd, ExposeEnd}
use Rattle.ss_grammar_statements.specs.Parser.{Nesting, no_nesting, ended, block_after, inner_block, in_block, governed, other_side, else_end, if_end, invariants, while_body, while_end, for_body, for_end, at_end, expose_body, expose_end}
use Rattle.ss_grammar_statements.proofs.Pieces.{start_first, stmt_first, other_first}
use Rattle.ss_grammar_statements.proofs.Parts.{perhaps, ended_to}
use Rattle.ss_grammar_statements.proofs.Open.{never_open, same_ends, choose_ends, made_ends, both_ends, tailed_ends}

-- `else`, with which a statement may go on
abbrev pub else_set : List ℕ
else_set = 62 ∷ []

abbrev pub an_else : Piece → Option Place
an_else = the_word word.Else

abbrev pub list_first : List ℕ
list_first = 14 ∷ stmt_first

abbrev pub heading_first : List ℕ
heading_first = 19 ∷ start_first

pub else_in : (t : Piece) → known (an_else t) ≡ true → In else_set t ≡ true
else_in t h = the_word_in word.Else t h

-- `else` isn't in the set g
pub no_else : (g : List ℕ) → disjoint g else_set ≡ true → (t : Piece) → In g t ≡ true → known (an_else t) ≡ true → ⊥
no_else g s t h k = disjoint_in (code t) g else_set s h (else_in t k)

abbrev pub Elses : (ℕ → List Piece → StmtTree → Type 0) → Type 0
Elses L = Ends_open an_else open_if L

-- one after the other, where the second part ends the whole
pub seq_ends : {C : Type 0} (n : ℕ) (e1 e2 : Bool) (L : ℕ → List Piece → C → Type 0) (K : C → ℕ → List Piece → StmtTree → Type 0) (f1 g1 f2 g2 : List ℕ) (p : ℕ → Gets C) (k : C → ℕ → Gets StmtTree) → PartOf n L f1 g1 e1 p → ((x : C) → PartOf n (K x) f2 g2 e2 (k x)) → disjoint g1 f2 ≡ true → disjoint g1 else_set ≡ true → ((x : C) → Elses (K x)) → Elses (λ d. Bind (L d) (λ x. K x d))
seq_ends n e1 e2 L K f1 g1 f2 g2 p k one two s t each = both_ends an_else open_if L K (In f1) (In g1) e1 one.good.facts (apart_by (Any L) (λ x. Any (K x)) (In f1) (In g1) (In f2) (In g2) e1 e2 one.good.facts (λ x. (two x).good.facts) (λ y h i. disjoint_in (code y) g1 f2 s h i)) (no_else g1 t) each

abbrev pub inner_nests : ((i : Nest) → ℕ → List Piece → Nested i → Type 0) → ℕ → Nests
inner_nests W zero = NoNests
inner_nests W (suc d) = λ i. W i d

abbrev pub inner_nesting : ((i : Nest) → ℕ → Gets (Nested i)) → ℕ → Nesting
inner_nesting s zero = no_nesting
inner_nesting s (suc d) = λ i. s i d

module _ (n : ℕ) (U : (i : Part) → ℕ → List Piece → Value i → Type 0) (u : (i : Part) → ℕ → Gets (Value i)) (W : (i : Nest) → ℕ → List Piece → Nested i → Type 0) (s : (i : Nest) → ℕ → Gets (Nested i)) (inner : PartOf n (U TheExpression) unary_first expr_goes false (u TheExpression)) (whole : PartOf (suc n) (λ d. WholeExpression (may_open d) (inner_parts U d)) unary_first expr_goes false (λ d. whole_expression d (inner_readers u d))) (lists : PartOf n (W TheStatements) list_first [] false (s TheStatements)) (other_part : PartOf n (W TheGoverned) other_first else_set false (s TheGoverned)) (other_ends : Elses (W TheGoverned)) (heads : PartOf n (W TheHeading) heading_first [] false (s TheHeading)) where
  abbrev V : ℕ → Parts
  V d = λ i. U i d

  abbrev w : ℕ → Inner
  w d = λ i. u i d

  abbrev X : ℕ → Nests
  X d = λ i. W i d

  abbrev x : ℕ → Nesting
  x d = λ i. s i d

  -- ---- blocks

  pub block_after_to : (p : Place) → PartOf n (λ d. BlockAfter (V d) (X d) p) list_first [] false (λ d. block_after (suc d) (w d) (x d) p)
  unfolding block_after
  block_after_to p = to_as n (W TheStatements) (In list_first) (In []) (s TheStatements) (λ b. BlockOf p b.statements b.end) lists

  inner_block_to : PartOf n (λ d. InnerBlock (V d) (X d)) (13 ∷ []) [] false (λ d. inner_block (suc d) (w d) (x d))
  unfolding inner_block
  inner_block_to = symbol n symbol.OpenBrace (λ p d. BlockAfter (V d) (X d) p) list_first [] false (λ p d. block_after (suc d) (w d) (x d) p) refl block_after_to

  abbrev Blocks : ℕ → List Piece → StmtTree → Type 0
  Blocks d = Bind (InnerBlock (V d) (X d)) (λ b. Done (InBlock b))

  in_block_to : PartOf n Blocks (13 ∷ []) [] false (λ d. in_block (suc d) (w d) (x d))
  unfolding in_block
  in_block_to = to_as n (λ d. InnerBlock (V d) (X d)) (In (13 ∷ [])) (In []) (λ d. inner_block (suc d) (w d) (x d)) (λ b. InBlock b) inner_block_to

  -- ---- governed statements

  abbrev Governs : ℕ → List Piece → StmtTree → Type 0
  Governs d = Governed (V d) (X d)

  abbrev governs : ℕ → Gets StmtTree
  governs d = governed (suc d) (w d) (x d)

  a_block : (t : Piece) × (z : List Piece) × (v : StmtTree) × (is (the symbol.OpenBrace) t ≡ true) × Blocks 0 (t ∷ z) v
  a_block =
      let l = lists.good.some in
      let b = BlockOf no_place l.value.statements l.value.end in (
        of (ASymbol symbol.OpenBrace),
        l.more,
        InBlock b,
        refl,
        record {
          first = b;
          front = of (ASymbol symbol.OpenBrace) ∷ l.more;
          back = [];
          parts = sym (append-nil (of (ASymbol symbol.OpenBrace) ∷ l.more));
          reads = record { first = l.value; front = l.more; back = []; parts = sym (append-nil l.more); reads = l.reads; goes_on = (refl, refl) };
          goes_on = (refl, refl);
        },
      )

  governed_to : PartOf n Governs stmt_first else_set false governs
  unfolding governed
  governed_to = to_choose n (is (the symbol.OpenBrace)) Blocks (W TheGoverned) (In stmt_first) (In else_set) false (λ d. in_block (suc d) (w d) (x d)) (s TheGoverned) (In (13 ∷ []))
      (larger n Blocks (13 ∷ []) [] (13 ∷ []) else_set false (λ d. in_block (suc d) (w d) (x d)) refl refl in_block_to)
      (λ t h. subset_in (code t) (13 ∷ []) stmt_first refl (the_in symbol.OpenBrace t h))
      (larger n (W TheGoverned) other_first else_set stmt_first else_set false (s TheGoverned) refl refl other_part)
      (λ h. absurd cc) (λ h. absurd cc) a_block

  blocks_ends : Elses Blocks
  blocks_ends = never_open an_else open_if Blocks (In (13 ∷ [])) (In []) false in_block_to.good.facts (no_else [] refl) (λ d u a p. ap open_if p.goes_on.1)

  governed_ends : Elses Governs
  governed_ends = choose_ends an_else open_if (is (the symbol.OpenBrace)) Blocks (W TheGoverned) blocks_ends other_ends (λ d v p. let e : false ≡ true = other_part.good.facts.empties v (d, p) in cc)

  -- ---- `if` and `else`

  abbrev Sides : Place → ExprTree → StmtTree → Place → ℕ → List Piece → StmtTree → Type 0
  Sides p e a b d = Bind (Governs d) (λ c. Done (IfElseOf p e a c))

  abbrev sides : Place → ExprTree → StmtTree → Place → ℕ → Gets StmtTree
  sides p e a b d = other_side (suc d) (w d) (x d) p e a

  side_to : (p : Place) (e : ExprTree) (a : StmtTree) (b : Place) → PartOf n (Sides p e a b) stmt_first else_set false (sides p e a b)
  unfolding other_side
  side_to p e a b = to_as n Governs (In stmt_first) (In else_set) governs (λ c. IfElseOf p e a c) governed_to

  abbrev Tails : Place → ExprTree → StmtTree → Bool → ℕ → List Piece → StmtTree → Type 0
  Tails p e a o d = Tail an_else (Sides p e a) (IfOf p e) o a d

  or_same : (a b : Bool) → (a || b) ≡ true → (a ≡ true → b ≡ true) → b ≡ true
  or_same true b h f = f refl
  or_same false b h f = h

  tail_good : (p : Place) (e : ExprTree) (a : StmtTree) → Good (λ d. Tails p e a (open_if a) d) (λ t. known (an_else t)) (In else_set) true
  tail_good p e a = at (open_if a)
    where
      at : (o : Bool) → Good (λ d. Tails p e a o d) (λ t. known (an_else t)) (In else_set) true
      at true = wide (λ d. Done (IfOf p e a)) no_token no_token (λ t. known (an_else t)) (In else_set) true true (λ t h. absurd cc) (λ t h. absurd cc) (λ h. h) (done_good (IfOf p e a))
      at false = wide (λ d. Maybe an_else (λ b. Sides p e a b d) (IfOf p e a)) (λ t. known (an_else t)) (λ t. known (an_else t) || In else_set t) (λ t. known (an_else t)) (In else_set) true true (λ t h. h) (λ t h. or_same (known (an_else t)) (In else_set t) h (else_in t)) (λ h. h)
          (maybe_good an_else (Sides p e a) (In stmt_first) (In else_set) false (λ b. (side_to p e a b).good.facts) (λ b. (side_to p e a b).good.grows) (IfOf p e a))

  abbrev Tailed : Place → ExprTree → ℕ → List Piece → StmtTree → Type 0
  Tailed p e d = Bind (Governs d) (λ a. Tails p e a (open_if a) d)

  abbrev Ifs : Place → ExprTree → ℕ → List Piece → StmtTree → Type 0
  Ifs p e d = Bind (Governs d) (λ a. ElseEnd (V d) (X d) p e a (open_if a))

  abbrev ifs : Place → ExprTree → ℕ → Gets StmtTree
  ifs p e d ts = governs d ts >>= λ a. else_end (suc d) (w d) (x d) p e a.0 a.1

  end_there : (p : Place) (e : ExprTree) (a : StmtTree) (o : Bool) (d : ℕ) (ts : List Piece) (v : StmtTree) → Tails p e a o d ts v → ElseEnd (V d) (X d) p e a o ts v
  end_there p e a true d ts v q = q
  end_there p e a false d ts v q = q

  end_back : (p : Place) (e : ExprTree) (a : StmtTree) (o : Bool) (d : ℕ) (ts : List Piece) (v : StmtTree) → ElseEnd (V d) (X d) p e a o ts v → Tails p e a o d ts v
  end_back p e a true d ts v q = q
  end_back p e a false d ts v q = q

  ifs_there : (p : Place) (e : ExprTree) (d : ℕ) (ts : List Piece) (v : StmtTree) → Tailed p e d ts v → Ifs p e d ts v
  ifs_there p e d ts v q = bind_in (Governs d) (Governs d) (λ a. Tails p e a (open_if a) d) (λ a. ElseEnd (V d) (X d) p e a (open_if a)) (λ ts v r. r) (λ a. end_there p e a (open_if a) d) ts v q

  ifs_back : (p : Place) (e : ExprTree) (d : ℕ) (ts : List Piece) (v : StmtTree) → Ifs p e d ts v → Tailed p e d ts v
  ifs_back p e d ts v q = bind_in (Governs d) (Governs d) (λ a. ElseEnd (V d) (X d) p e a (open_if a)) (λ a. Tails p e a (open_if a) d) (λ ts v r. r) (λ a. end_back p e a (open_if a) d) ts v q

  or_left_only : (a b : Bool) → (a || (false && b)) ≡ true → a ≡ true
  or_left_only true b h = refl
  or_left_only false b h = h

  or_twice : (a : Bool) → (a || (true && a)) ≡ true → a ≡ true
  or_twice true h = refl
  or_twice false h = h

  tailed_to : (p : Place) (e : ExprTree) → PartOf n (Tailed p e) stmt_first else_set false (ifs p e)
  unfolding else_end
  tailed_to p e = record {
    good = wide (Tailed p e) (λ t. In stmt_first t || (false && known (an_else t))) (λ t. In else_set t || (true && In else_set t)) (In stmt_first) (In else_set) (false && true) false (λ t h. or_left_only (In stmt_first t) (known (an_else t)) h) (λ t h. or_twice (In else_set t) h) (λ h. h)
        (nearest_good an_else Governs open_if (In stmt_first) (In else_set) (IfOf p e) (Sides p e) (In stmt_first) (In else_set) (tail_good p e) governed_ends.closed (λ v a t h l k. (l.0, governed_ends.opened l.0 v a t h l.1 k)) governed_to.good);
    finds = λ d lt ts. find_nearest an_else Governs open_if (In stmt_first) (In else_set) (IfOf p e) (Sides p e) (In stmt_first) (In else_set) (tail_good p e) governed_ends.closed (λ v a t h l k. (l.0, governed_ends.opened l.0 v a t h l.1 k)) n governs (sides p e) governed_to (λ a b. (side_to p e a b).finds) d lt ts;
  }

  ifs_to : (p : Place) (e : ExprTree) → PartOf n (Ifs p e) stmt_first else_set false (ifs p e)
  ifs_to p e = to_same n (Tailed p e) (Ifs p e) (In stmt_first) (In else_set) false (ifs p e) (ifs_there p e) (ifs_back p e) (tailed_to p e)

  ifs_ends : (p : Place) (e : ExprTree) → Elses (Ifs p e)
  ifs_ends p e = same_ends an_else open_if (Tailed p e) (Ifs p e) (ifs_there p e) (ifs_back p e) (tailed_ends an_else open_if Governs (In stmt_first) (In else_set) governed_to.good governed_ends (IfOf p e) (IfElseOf p e) (λ a. refl) (λ a b. refl))

  abbrev Tests : ℕ → List Piece → ExprTree → Type 0
  Tests d = ParenEnd (U TheExpression d)

  abbrev tests : ℕ → Gets ExprTree
  tests d = paren_end (u TheExpression d)

  test_to : PartOf n Tests unary_first [] false tests
  test_to = paren_end_to n (U TheExpression) (u TheExpression) inner

  pub if_end_to : (p : Place) → PartOf n (λ d. IfEnd (V d) (X d) p) unary_first else_set false (λ d. if_end (suc d) (w d) (x d) p)
  unfolding if_end
  if_end_to p = seq n false false Tests (Ifs p) unary_first [] stmt_first else_set tests (ifs p) test_to (ifs_to p) refl

  pub if_end_ends : (p : Place) → Elses (λ d. IfEnd (V d) (X d) p)
  if_end_ends p = seq_ends n false false Tests (Ifs p) unary_first [] stmt_first else_set tests (ifs p) test_to (ifs_to p) refl refl (ifs_ends p)

  -- ---- loops

  whole_above : PartOf n (λ d. WholeExpression true (V d)) unary_first expr_goes false (λ d. whole_expression (suc d) (w d))
  whole_above = to_above n (λ d. WholeExpression (may_open d) (inner_parts U d)) (In unary_first) (In expr_goes) false (λ d. whole_expression d (inner_readers u d)) whole

  invariants_to : PartOf n (λ d. Invariants (V d) (X d)) (70 ∷ []) (70 ∷ []) true (λ d. invariants (suc d) (w d) (x d))
  unfolding invariants
  invariants_to = many n (the_word word.Invariant) (70 ∷ []) (the_word_in word.Invariant) (λ _ d. Ended (WholeExpression true (V d))) join_argument unary_first [] (λ _ d. ended (whole_expression (suc d) (w d)))
      (λ _. ended_to n (λ d. WholeExpression true (V d)) unary_first expr_goes (λ d. whole_expression (suc d) (w d)) whole_above refl) refl []

  module _ (make : List ExprTree → StmtTree → StmtTree) (kept : (is : List ExprTree) (a : StmtTree) → open_if (make is a) ≡ open_if a) where
    abbrev Bodies : List ExprTree → ℕ → List Piece → StmtTree → Type 0
    Bodies is d = Bind (Governs d) (λ a. Done (make is a))

    abbrev bodies : List ExprTree → ℕ → Gets StmtTree
    bodies is d ts = governs d ts >>= λ a. Ok (make is a.0, a.1)

    body_to : (is : List ExprTree) → PartOf n (Bodies is) stmt_first else_set false (bodies is)
    body_to is = to_as n Governs (In stmt_first) (In else_set) governs (make is) governed_to

    loop_to : PartOf n (λ d. Bind (Invariants (V d) (X d)) (λ is. Bodies is d)) (70 ∷ stmt_first) else_set false (λ d ts. invariants (suc d) (w d) (x d) ts >>= λ is. bodies is.0 d is.1)
    loop_to = seq n true false (λ d. Invariants (V d) (X d)) Bodies (70 ∷ []) (70 ∷ []) stmt_first else_set (λ d. invariants (suc d) (w d) (x d)) bodies invariants_to body_to refl

    loop_ends : Elses (λ d. Bind (Invariants (V d) (X d)) (λ is. Bodies is d))
    loop_ends = seq_ends n true false (λ d. Invariants (V d) (X d)) Bodies (70 ∷ []) (70 ∷ []) stmt_first else_set (λ d. invariants (suc d) (w d) (x d)) bodies invariants_to body_to refl refl (λ is. made_ends an_else open_if open_if Governs (make is) (kept is) governed_ends)

  abbrev Whiles : Place → ExprTree → ℕ → List Piece → StmtTree → Type 0
  Whiles p e d = Bind (Invariants (V d) (X d)) (λ is. Bind (Governs d) (λ a. Done (WhileOf p e is a)))

  while_body_to : (p : Place) (e : ExprTree) → PartOf n (Whiles p e) (70 ∷ stmt_first) else_set false (λ d. while_body (suc d) (w d) (x d) p e)
  unfolding while_body
  while_body_to p e = loop_to (WhileOf p e) (λ is a. refl)

  pub while_end_to : (p : Place) → PartOf n (λ d. WhileEnd (V d) (X d) p) unary_first else_set false (λ d. while_end (suc d) (w d) (x d) p)
  unfolding while_end
  while_end_to p = seq n false false Tests (Whiles p) unary_first [] (70 ∷ stmt_first) else_set tests (λ e d. while_body (suc d) (w d) (x d) p e) test_to (while_body_to p) refl

  pub while_end_ends : (p : Place) → Elses (λ d. WhileEnd (V d) (X d) p)
  while_end_ends p = seq_ends n false false Tests (Whiles p) unary_first [] (70 ∷ stmt_first) else_set tests (λ e d. while_body (suc d) (w d) (x d) p e) test_to (while_body_to p) refl refl (λ e. loop_ends (WhileOf p e) (λ is a. refl))

  abbrev Fors : Place → HeadingTree → ℕ → List Piece → StmtTree → Type 0
  Fors p h d = Bind (Invariants (V d) (X d)) (λ is. Bind (Governs d) (λ a. Done (ForOf p h.first h.test h.step is a)))

  for_body_to : (p : Place) (h : HeadingTree) → PartOf n (Fors p h) (70 ∷ stmt_first) else_set false (λ d. for_body (suc d) (w d) (x d) p h)
  unfolding for_body
  for_body_to p h = loop_to (ForOf p h.first h.test h.step) (λ is a. refl)

  pub for_end_to : (p : Place) → PartOf n (λ d. ForEnd (V d) (X d) p) heading_first else_set false (λ d. for_end (suc d) (w d) (x d) p)
  unfolding for_end
  for_end_to p = seq n false false (W TheHeading) (Fors p) heading_first [] (70 ∷ stmt_first) else_set (s TheHeading) (λ h d. for_body (suc d) (w d) (x d) p h) heads (for_body_to p) refl

  pub for_end_ends : (p : Place) → Elses (λ d. ForEnd (V d) (X d) p)
  for_end_ends p = seq_ends n false false (W TheHeading) (Fors p) heading_first [] (70 ∷ stmt_first) else_set (s TheHeading) (λ h d. for_body (suc d) (w d) (x d) p h) heads (for_body_to p) refl refl (λ h. loop_ends (ForOf p h.first h.test h.step) (λ is a. refl))

  -- ---- `expose`

  at_end_to : PartOf n (λ d. AtEnd (V d) (X d)) (69 ∷ []) (69 ∷ []) true (λ d. at_end (suc d) (w d) (x d))
  unfolding at_end
  at_end_to = perhaps n (the_word word.At) (69 ∷ []) (the_word_in word.At) (λ _ d. Bind AnyName (λ y. Done (Some y))) (32 ∷ []) [] false (λ _ d ts. name_at ts >>= λ y. Ok (Some y.0, y.1))
      (λ _. to_as n (λ d. AnyName) (In (32 ∷ [])) (In []) (λ d. name_at) (λ y. Some y) (name_to n)) None

  abbrev Exposed : Place → ExprTree → Option NameTree → ℕ → List Piece → StmtTree → Type 0
  Exposed p e y d = Take (the symbol.Close) (λ _. Bind (InnerBlock (V d) (X d)) (λ b. Done (ExposeOf p e y b)))

  exposed_to : (p : Place) (e : ExprTree) (y : Option NameTree) → PartOf n (Exposed p e y) (16 ∷ []) [] false (λ d. expose_body (suc d) (w d) (x d) p e y)
  unfolding expose_body
  exposed_to p e y = symbol n symbol.Close (λ _ d. Bind (InnerBlock (V d) (X d)) (λ b. Done (ExposeOf p e y b))) (13 ∷ []) [] false (λ _ d ts. inner_block (suc d) (w d) (x d) ts >>= λ b. Ok (ExposeOf p e y b.0, b.1)) refl
      (λ _. to_as n (λ d. InnerBlock (V d) (X d)) (In (13 ∷ [])) (In []) (λ d. inner_block (suc d) (w d) (x d)) (λ b. ExposeOf p e y b) inner_block_to)

  abbrev Ats : Place → ExprTree → ℕ → List Piece → StmtTree → Type 0
  Ats p e d = Bind (AtEnd (V d) (X d)) (λ y. Exposed p e y d)

  at_to : (p : Place) (e : ExprTree) → PartOf n (Ats p e) (69 ∷ 16 ∷ []) [] false (λ d ts. at_end (suc d) (w d) (x d) ts >>= λ y. expose_body (suc d) (w d) (x d) p e y.0 y.1)
  at_to p e = seq n true false (λ d. AtEnd (V d) (X d)) (λ y d. Exposed p e y d) (69 ∷ []) (69 ∷ []) (16 ∷ []) [] (λ d. at_end (suc d) (w d) (x d)) (λ y d. expose_body (suc d) (w d) (x d) p e y) at_end_to (exposed_to p e) refl

  pub expose_end_to : (p : Place) → PartOf n (λ d. ExposeEnd (V d) (X d) p) unary_first [] false (λ d. expose_end (suc d) (w d) (x d) p)
  unfolding expose_end
  expose_end_to p = seq n false false (U TheExpression) (Ats p) unary_first expr_goes (69 ∷ 16 ∷ []) [] (u TheExpression) (λ e d ts. at_end (suc d) (w d) (x d) ts >>= λ y. expose_body (suc d) (w d) (x d) p e y.0 y.1) inner (at_to p) refl
