-- Reading what begins as a declaration or a simple statement finds what the grammar says.
use Rattle.std.proofs.Common.{◌≡◌, ℕ, suc, List, [], ◌∷◌, ◌++◌, None, Bool, true, false, refl, pos}
use Rattle.ss_core.specs.declared.names.Place.{Place}
use Rattle.ss_ast.specs.declared.token.Symbol.TheVariants as symbol
use Rattle.ss_ast.specs.Tokens.{ASymbol, AName}
use Rattle.ss_ast.specs.Expressions.{NameTree, TypeTree, ExprTree, ElementOf, NumberOf}
use Rattle.ss_ast.specs.Statements.{DeclaratorTree, ForInitTree, SimpleFirst, AloneOf}
use Rattle.ss_grammar.specs.Language.{Done, Take, Bind}
use Rattle.ss_grammar.specs.Reading.{◌>>=◌, take}
use Rattle.ss_grammar_expressions.specs.First.{tokened}
use Rattle.ss_grammar_expressions.specs.Heads.{Piece, is, the}
use Rattle.ss_grammar_expressions.specs.Grammar.{Part, TheExpression, TheRange, Value, Parts, NoParts, BangEnd, type_of, IndexEnd, head_of, named, no_place, WholeExpression}
use Rattle.ss_grammar_expressions.specs.Parser.{Gets, Inner, give, opened, bang_end, index_end, whole_expression}
use Rattle.ss_grammar_expressions.proofs.First.{to_choose}
use Rattle.ss_grammar_expressions.proofs.Opening.{to_above}
use Rattle.ss_grammar_expressions.proofs.Sets.{code, In, subset_in, PartOf, larger, done, may_be_empty, seq}
use Rattle.ss_grammar_expressions.proofs.Levels.{may_open, the_in, of, symbol}
use Rattle.ss_grammar_expressions.proofs.Pieces.{unary_first, postfix_set, expr_goes}
use Rattle.ss_grammar_expressions.proofs.Expressions.{inner_parts, inner_readers, bang_to, index_end_to}
use Rattle.ss_grammar_expressions.proofs.Unaries.{number_piece}
use Rattle.ss_grammar_statements.specs.Heads.{NextHead, NextName, NextBang, NextBracket, next_head, next_opens, StartHead, TypeFirst, NameFirst, PrimFirst, start_head, start_opens}
use Rattle.ss_grammar_statements.specs.Grammar.{declared, declares, DeclsFrom, Declared, PostAfter, SimpleThen, SimpleFrom, ElementOrArray, NextAfter, NameAfter, StartAfter, ForInit}
use Rattle.ss_grammar_statements.specs.Parser.{decls_from, declaration, post_after, simple_then, simple_from, array_declared, element_first, element_or_declared, next_behind, name_after, start_after, for_init}
use Rattle.ss_grammar_statements.proofs.Pieces.{simple_set, start_first, decls_goes, simple_goes, start_goes, next_in, start_in}
use Rattle.ss_grammar_statements.proofs.Openings.{take_heads, heads_alive}
use Rattle.ss_grammar_statements.proofs.Declarations.{decls_from_to, declared_to, typed_to}
use Rattle.ss_grammar_statements.proofs.Paths.{post_set, post_never, post_open, post_leaf, simple_then_to, simple_from_to}

-- a `[` opens a level, and so does a `(`
next_never : (x : NameTree) (h : NextHead) → next_opens h ≡ true → (ts : List Piece) (v : ForInitTree) → NextAfter false NoParts x h ts v → ⊥
next_never x (NextName m) e ts v q = cc
next_never x NextBang e ts v q = cc
next_never x NextBracket e ts v q = q

pub start_never : (h : StartHead) → start_opens h ≡ true → (ts : List Piece) (v : ForInitTree) → StartAfter false NoParts h ts v → ⊥
start_never (TypeFirst t) e ts v q = cc
start_never (NameFirst n) e ts v q = cc
start_never (PrimFirst h) e ts v q = post_never h e q.front q.first q.reads

-- what may stand after a name, and after any first token
abbrev pub name_set : List ℕ
name_set = 32 ∷ 31 ∷ 17 ∷ 22 ∷ 15 ∷ simple_set

abbrev pub start_set : List ℕ
start_set = simple_set ++ post_set

module _ (n : ℕ) (U : (i : Part) → ℕ → List Piece → Value i → Type 0) (u : (i : Part) → ℕ → Gets (Value i)) (inner : PartOf n (U TheExpression) unary_first expr_goes false (u TheExpression)) (range_part : PartOf n (U TheRange) (36 ∷ 15 ∷ []) [] false (u TheRange)) (whole : PartOf (suc n) (λ d. WholeExpression (may_open d) (inner_parts U d)) unary_first expr_goes false (λ d. whole_expression d (inner_readers u d))) where
  abbrev V : ℕ → Parts
  V d = inner_parts U d

  abbrev w : ℕ → Inner
  w d = inner_readers u d

  -- ---- after Name "["

  declared_above : (t : TypeTree) → PartOf n (λ d. Declared true (V (suc d)) t) (32 ∷ []) decls_goes false (λ d. declaration (suc d) (w (suc d)) t)
  declared_above t = to_above n (λ d. Declared (may_open d) (V d) t) (In (32 ∷ [])) (In decls_goes) false (λ d. declaration d (w d) t) (declared_to n U u whole t)

  from_above : (p : Place) (a : ExprTree) → PartOf n (λ d. SimpleFrom true (V (suc d)) p a) (postfix_set ++ simple_set) simple_goes true (λ d. simple_from (suc d) (w (suc d)) p a)
  from_above p a = to_above n (λ d. SimpleFrom (may_open d) (V d) p a) (In (postfix_set ++ simple_set)) (In simple_goes) true (λ d. simple_from d (w d) p a) (simple_from_to n U u inner range_part whole p a)

  abbrev Arrays : NameTree → ℕ → List Piece → ForInitTree → Type 0
  Arrays x d = Take (the symbol.CloseBracket) (λ _. Bind BangEnd (λ s. Declared true (V (suc d)) (type_of (head_of x) true s)))

  abbrev Elements : NameTree → ℕ → List Piece → ForInitTree → Type 0
  Elements x d = Bind (IndexEnd (U TheExpression d)) (λ i. SimpleFrom true (V (suc d)) x.place (ElementOf x.place (named x) i))

  array_to : (x : NameTree) → PartOf n (Arrays x) (18 ∷ []) decls_goes false (λ d. array_declared (suc d) (w (suc d)) x)
  unfolding array_declared
  array_to x = symbol n symbol.CloseBracket (λ _ d. Bind BangEnd (λ s. Declared true (V (suc d)) (type_of (head_of x) true s))) (31 ∷ 32 ∷ []) decls_goes false (λ _ d ts. bang_end ts >>= λ s. declaration (suc d) (w (suc d)) (type_of (head_of x) true s.0) s.1) refl
      (λ _. seq n true false (λ d. BangEnd) (λ s d. Declared true (V (suc d)) (type_of (head_of x) true s)) (31 ∷ []) (31 ∷ []) (32 ∷ []) decls_goes (λ d. bang_end) (λ s d. declaration (suc d) (w (suc d)) (type_of (head_of x) true s)) (bang_to n) (λ s. declared_above (type_of (head_of x) true s)) refl)

  element_to : (x : NameTree) → PartOf n (Elements x) unary_first simple_goes false (λ d. element_first (suc d) (w (suc d)) x)
  unfolding element_first
  element_to x = seq n false true (λ d. IndexEnd (U TheExpression d)) (λ i d. SimpleFrom true (V (suc d)) x.place (ElementOf x.place (named x) i)) unary_first [] (postfix_set ++ simple_set) simple_goes (λ d. index_end (u TheExpression d)) (λ i d. simple_from (suc d) (w (suc d)) x.place (ElementOf x.place (named x) i)) (index_end_to n (U TheExpression) (u TheExpression) inner)
      (λ i. from_above x.place (ElementOf x.place (named x) i)) refl

  abbrev a_sample : NameTree
  a_sample = record { text = []; place = no_place }

  abbrev a_declarator : DeclaratorTree
  a_declarator = declared a_sample None

  -- after a declared name nothing more need come
  decls_nil : (o : Bool) (V : Parts) → DeclsFrom o V a_sample [] (a_declarator ∷ [])
  decls_nil o V = record { first = a_declarator; front = []; back = []; parts = refl; reads = refl; goes_on = (0, (refl, refl)) }

  declared_sample : (o : Bool) (V : Parts) (t : TypeTree) → Declared o V t (of (AName []) ∷ []) (declares t (a_declarator ∷ []))
  declared_sample o V t = record {
    first = a_declarator ∷ [];
    front = of (AName []) ∷ [];
    back = [];
    parts = refl;
    reads = record { first = a_sample; front = of (AName []) ∷ []; back = []; parts = refl; reads = (refl, refl); goes_on = decls_nil o V };
    goes_on = (refl, refl);
  }

  array_sample : (x : NameTree) → (t : Piece) × (z : List Piece) × (v : ForInitTree) × (is (the symbol.CloseBracket) t ≡ true) × Arrays x 0 (t ∷ z) v
  array_sample x = (
    of (ASymbol symbol.CloseBracket),
    of (AName []) ∷ [],
    declares (type_of (head_of x) true false) (a_declarator ∷ []),
    refl,
    record { first = false; front = []; back = of (AName []) ∷ []; parts = refl; reads = refl; goes_on = declared_sample true (V 1) (type_of (head_of x) true false) },
  )

  element_or_array_to : (x : NameTree) → PartOf n (λ d. ElementOrArray true (V (suc d)) x) (18 ∷ unary_first) start_goes false (λ d. element_or_declared (suc d) (w (suc d)) x)
  unfolding element_or_declared
  element_or_array_to x = to_choose n (is (the symbol.CloseBracket)) (Arrays x) (Elements x) (In (18 ∷ unary_first)) (In start_goes) false (λ d. array_declared (suc d) (w (suc d)) x) (λ d. element_first (suc d) (w (suc d)) x) (In (18 ∷ []))
      (larger n (Arrays x) (18 ∷ []) decls_goes (18 ∷ []) start_goes false (λ d. array_declared (suc d) (w (suc d)) x) refl refl (array_to x))
      (λ t h. subset_in (code t) (18 ∷ []) (18 ∷ unary_first) refl (the_in symbol.CloseBracket t h))
      (larger n (Elements x) unary_first simple_goes (18 ∷ unary_first) start_goes false (λ d. element_first (suc d) (w (suc d)) x) refl refl (element_to x))
      (λ h. absurd cc) (λ h. absurd cc) (array_sample x)

  -- ---- after a name

  abbrev Nexts : NameTree → NextHead → ℕ → List Piece → ForInitTree → Type 0
  Nexts x h d = NextAfter (may_open d) (V d) x h

  abbrev nexts : NameTree → NextHead → ℕ → Gets ForInitTree
  nexts x h d = next_behind d (w d) x h

  abbrev next_set : List ℕ
  next_set = 23 ∷ 21 ∷ 32 ∷ 18 ∷ unary_first

  next_open : (x : NameTree) (h : NextHead) → next_opens h ≡ true → PartOf n (λ d. Nexts x h (suc d)) next_set start_goes true (λ d. nexts x h (suc d))
  unfolding next_behind
  next_open x (NextName m) e = absurd cc
  next_open x NextBang e = absurd cc
  next_open x NextBracket e = larger n (λ d. Nexts x NextBracket (suc d)) (18 ∷ unary_first) start_goes next_set start_goes true (λ d. nexts x NextBracket (suc d)) refl refl
      (may_be_empty n (λ d. Nexts x NextBracket (suc d)) (18 ∷ unary_first) start_goes false (λ d. nexts x NextBracket (suc d)) (element_or_array_to x))

  next_leaf : (x : NameTree) (h : NextHead) → next_opens h ≡ false → PartOf (suc n) (Nexts x h) next_set start_goes true (nexts x h)
  unfolding next_behind
  next_leaf x (NextName m) e = larger (suc n) (Nexts x (NextName m)) ((23 ∷ 21 ∷ []) ++ []) ([] ++ decls_goes) next_set start_goes true (nexts x (NextName m)) refl refl
      (seq (suc n) true true (λ d. DeclsFrom (may_open d) (V d) m) (λ cs d. Done (declares (type_of (head_of x) false false) cs)) (23 ∷ 21 ∷ []) decls_goes [] [] (λ d. decls_from d (w d) m) (λ cs d. give (declares (type_of (head_of x) false false) cs)) (decls_from_to n U u whole m) (λ cs. done (suc n) (declares (type_of (head_of x) false false) cs)) refl)
  next_leaf x NextBang e = larger (suc n) (Nexts x NextBang) (32 ∷ []) decls_goes next_set start_goes true (nexts x NextBang) refl refl
      (may_be_empty (suc n) (Nexts x NextBang) (32 ∷ []) decls_goes false (nexts x NextBang) (declared_to n U u whole (type_of (head_of x) false true)))
  next_leaf x NextBracket e = absurd cc

  abbrev Headed : NameTree → ℕ → List Piece → ForInitTree → Type 0
  Headed x d = Take next_head (NextAfter (may_open d) (V d) x)

  abbrev headed : NameTree → ℕ → Gets ForInitTree
  headed x d = take (tokened next_head) (λ y. opened (next_opens y.0) d (next_behind d (w d) x y.0) y.1)

  name_sample : (x : NameTree) → (t : Piece) × (z : List Piece) × (v : ForInitTree) × (is next_head t ≡ true) × Headed x 0 (t ∷ z) v
  name_sample x = (
    of (AName []),
    [],
    declares (type_of (head_of x) false false) (a_declarator ∷ []),
    refl,
    record { first = a_declarator ∷ []; front = []; back = []; parts = refl; reads = decls_nil false NoParts; goes_on = (refl, refl) },
  )

  headed_to : (x : NameTree) → PartOf (suc n) (Headed x) (32 ∷ 31 ∷ 17 ∷ []) start_goes false (headed x)
  headed_to x = take_heads n next_head (32 ∷ 31 ∷ 17 ∷ []) next_in next_opens (Nexts x) (nexts x) next_set start_goes true (next_never x) (next_open x) (next_leaf x)
      (record { more = (name_sample x).0 ∷ (name_sample x).1; value = (name_sample x).2; reads = (name_sample x).4 })

  pub name_after_to : (x : NameTree) → PartOf (suc n) (λ d. NameAfter (may_open d) (V d) x) name_set start_goes true (λ d. name_after d (w d) x)
  unfolding name_after
  name_after_to x = to_choose (suc n) (is next_head) (Headed x) (λ d. SimpleFrom (may_open d) (V d) x.place (named x)) (In name_set) (In start_goes) true (headed x) (λ d. simple_from d (w d) x.place (named x)) (In (32 ∷ 31 ∷ 17 ∷ [])) (headed_to x)
      (λ t h. subset_in (code t) (32 ∷ 31 ∷ 17 ∷ []) name_set refl (next_in t h))
      (larger (suc n) (λ d. SimpleFrom (may_open d) (V d) x.place (named x)) (postfix_set ++ simple_set) simple_goes name_set start_goes true (λ d. simple_from d (w d) x.place (named x)) refl refl (simple_from_to n U u inner range_part whole x.place (named x)))
      (λ h t k. subset_in (code t) name_set start_goes refl k)
      (λ h lt t k. heads_alive n next_head (32 ∷ 31 ∷ 17 ∷ []) next_in next_opens (Nexts x) (nexts x) next_set start_goes true (next_never x) (next_open x) (next_leaf x) t k)
      (name_sample x)

  -- ---- all beginnings

  abbrev Starters : StartHead → ℕ → List Piece → ForInitTree → Type 0
  Starters h d = StartAfter (may_open d) (V d) h

  abbrev starters : StartHead → ℕ → Gets ForInitTree
  starters h d = start_after d (w d) h

  then_above : (a : ExprTree) → PartOf n (λ d. SimpleThen true (V (suc d)) a) simple_set simple_goes true (λ d. simple_then (suc d) (w (suc d)) a)
  then_above a = to_above n (λ d. SimpleThen (may_open d) (V d) a) (In simple_set) (In simple_goes) true (λ d. simple_then d (w d) a) (simple_then_to n U u inner range_part whole a)

  pub start_open : (h : StartHead) → start_opens h ≡ true → PartOf n (λ d. Starters h (suc d)) start_set start_goes true (λ d. starters h (suc d))
  unfolding start_after
  start_open (TypeFirst t) e = absurd cc
  start_open (NameFirst x) e = absurd cc
  start_open (PrimFirst h) e = larger n (λ d. Starters (PrimFirst h) (suc d)) (post_set ++ simple_set) (simple_goes ++ postfix_set) start_set start_goes true (λ d. starters (PrimFirst h) (suc d)) refl refl
      (seq n true true (λ d. PostAfter true (V (suc d)) h) (λ a d. SimpleThen true (V (suc d)) a) post_set postfix_set simple_set simple_goes (λ d. post_after (suc d) (w (suc d)) h) (λ a d. simple_then (suc d) (w (suc d)) a) (post_open n U u inner range_part whole h e) then_above refl)

  pub start_leaf : (h : StartHead) → start_opens h ≡ false → PartOf (suc n) (Starters h) start_set start_goes true (starters h)
  unfolding start_after
  start_leaf (TypeFirst t) e = larger (suc n) (Starters (TypeFirst t)) (17 ∷ 31 ∷ 32 ∷ []) decls_goes start_set start_goes true (starters (TypeFirst t)) refl refl
      (may_be_empty (suc n) (Starters (TypeFirst t)) (17 ∷ 31 ∷ 32 ∷ []) decls_goes false (starters (TypeFirst t)) (typed_to n U u whole t))
  start_leaf (NameFirst x) e = larger (suc n) (Starters (NameFirst x)) name_set start_goes start_set start_goes true (starters (NameFirst x)) refl refl (name_after_to x)
  start_leaf (PrimFirst h) e = larger (suc n) (Starters (PrimFirst h)) (post_set ++ simple_set) (simple_goes ++ postfix_set) start_set start_goes true (starters (PrimFirst h)) refl refl
      (seq (suc n) true true (λ d. PostAfter (may_open d) (V d) h) (λ a d. SimpleThen (may_open d) (V d) a) post_set postfix_set simple_set simple_goes (λ d. post_after d (w d) h) (λ a d. simple_then d (w d) a) (post_leaf n U u inner range_part whole h e) (simple_then_to n U u inner range_part whole) refl)

  abbrev number : ExprTree
  number = NumberOf no_place (pos 0)

  abbrev alone : ForInitTree
  alone = SimpleFirst (AloneOf number)

  -- a number alone
  pub start_number : (o : Bool) (V : Parts) → ForInit o V (number_piece ∷ []) alone
  start_number o V = record {
    first = number;
    front = [];
    back = [];
    parts = refl;
    reads = record { first = number; front = []; back = []; parts = refl; reads = (refl, refl); goes_on = (0, (refl, refl)) };
    goes_on = record { first = AloneOf number; front = []; back = []; parts = refl; reads = refl; goes_on = (refl, refl) };
  }

  pub for_init_to : PartOf (suc n) (λ d. ForInit (may_open d) (V d)) start_first start_goes false (λ d. for_init d (w d))
  unfolding for_init
  for_init_to = take_heads n start_head start_first start_in start_opens Starters starters start_set start_goes true start_never start_open start_leaf (record { more = number_piece ∷ []; value = alone; reads = start_number false NoParts })
