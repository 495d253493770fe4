-- Reading an expression finds what the grammar says: a term for each production.
use Rattle.std.proofs.Common.{◌≡◌, ℕ, zero, suc, List, [], ◌∷◌, ◌++◌, length, Ok, Bool, true, false, refl}
use Rattle.std.specs.Prelude.{◌||◌}
use Rattle.ss_core.specs.declared.names.Place.{Place}
use Rattle.ss_ast.specs.declared.token.Word.TheVariants as word
use Rattle.ss_ast.specs.declared.token.Symbol.{Symbol}
use Rattle.ss_ast.specs.declared.token.Symbol.TheVariants as symbol
use Rattle.ss_core.specs.declared.expr.Quantifier.{Quantifier}
use Rattle.ss_ast.specs.Tokens.{AWord, ASymbol, AName}
use Rattle.ss_ast.specs.Expressions.{NameTree, IntType, ExprTree, MemberOf, ElementOf, CallOf, BaseOf, OldOf, NewOf, NewArrayOf, QuantifiedOf, Behind, arguments}
use Rattle.ss_grammar.specs.Language.{Done, Take, Maybe, Bind, Many}
use Rattle.ss_grammar.specs.Reading.{◌>>=◌, take, maybe, times}
use Rattle.ss_grammar.proofs.Facts.{known}
use Rattle.ss_grammar.proofs.Parts.{Pick, pick, to_as, to_same}
use Rattle.ss_grammar.proofs.Good.{many_in}
use Rattle.ss_grammar_expressions.specs.First.{tokened}
use Rattle.ss_grammar_expressions.specs.Heads.{Piece, is, the, the_word, a_name, TypeHead, type_head, PostfixHead, DotHead, IndexHead, CallHead, postfix_head, postfix_opens, NewKind, ArrayKind, ObjectKind, new_head}
use Rattle.ss_grammar_expressions.specs.Grammar.{Part, TheExpression, TheRange, Value, Parts, NoParts, Held, Brackets, BangEnd, type_of, TypeEnd, PlainType, AnyName, join_argument, Args, ArgsEnd, IndexEnd, ParenEnd, joined, no_place, PostfixAfter, Postfixes, NewEnd, New, Old, RangeEnd, Range, Body, Bound, Quantified}
use Rattle.ss_grammar_expressions.specs.Parser.{Gets, Inner, give, nothing, opened, closing_bracket, brackets, bang_end, type_end, plain_type, name_at, args, some_args, args_end, index_end, paren_end, postfix_after, postfix, postfixes, new_after, new_end, new, old_after, old, range_high, range_end, range, body, bound, bound_name, bounds_and_body, quantified_after, quantified}
use Rattle.ss_grammar_expressions.proofs.First.{to_choose}
use Rattle.ss_grammar_expressions.proofs.Opening.{to_maybe_open, to_many_open, to_maybe_plain}
use Rattle.ss_grammar_expressions.proofs.Sets.{code, In, subset_in, PartOf, larger, listed, done, token, seq, many}
use Rattle.ss_grammar_expressions.proofs.Levels.{may_open, the_in, of, symbol, word_then, by_levels, held_to}
use Rattle.ss_grammar_expressions.proofs.Pieces.{unary_first, postfix_set, expr_goes, postfix_in, name_in, type_in, new_in}

-- ---- types

bracket_parts : (n : ℕ) → PartOf n (λ d. Take (the symbol.CloseBracket) (λ _. Done true)) (18 ∷ []) [] false (λ d. closing_bracket)
bracket_parts n = symbol n symbol.CloseBracket (λ _ d. Done true) [] [] true (λ _ d. give true) refl (λ _. done n true)

pub brackets_to : (n : ℕ) → PartOf (suc n) (λ d. Brackets (may_open d)) (17 ∷ []) (17 ∷ []) true brackets
unfolding brackets
brackets_to n = by_levels (suc n) (λ d. Maybe (the symbol.OpenBracket) (λ _. Pick true (λ d. Take (the symbol.CloseBracket) (λ _. Done true)) d) false) (λ d. Brackets (may_open d)) (17 ∷ []) (17 ∷ []) true brackets (λ ts v q. q) (λ ts v q. q) (λ d ts v q. q) (λ d ts v q. q)
    (listed (suc n) (λ d. Maybe (the symbol.OpenBracket) (λ _. Pick true (λ d. Take (the symbol.CloseBracket) (λ _. Done true)) d) false) (λ t. known (the symbol.OpenBracket t)) (λ t. known (the symbol.OpenBracket t) || In [] t) (17 ∷ []) (17 ∷ []) true (λ d. maybe (tokened (the symbol.OpenBracket)) (λ x. opened true d closing_bracket x.1) false)
    (the_in symbol.OpenBracket) (λ t h. the_in symbol.OpenBracket t (or_none (known (the symbol.OpenBracket t)) h))
    (to_maybe_open n (the symbol.OpenBracket) (λ _. true) (λ _ d. Take (the symbol.CloseBracket) (λ _. Done true)) (λ _ d. closing_bracket) (In (18 ∷ [])) (In []) false (λ _ h. bracket_parts n) (λ _ h. absurd cc) false (λ d x. opened true d closing_bracket x.1) agree))
  where
    or_none : (a : Bool) → (a || false) ≡ true → a ≡ true
    or_none true h = refl
    or_none false h = absurd cc

    agree : (d : ℕ) (b : Place) (t : Piece) (ts : List Piece) → pick true d (λ d. closing_bracket) t ts ≡ opened true d closing_bracket t ts
    agree zero b t ts = refl
    agree (suc d) b t ts = refl

or_nothing : (a : Bool) → (a || false) ≡ true → a ≡ true
or_nothing true h = refl
or_nothing false h = absurd cc

pub bang_to : (n : ℕ) → PartOf n (λ d. BangEnd) (31 ∷ []) (31 ∷ []) true (λ d. bang_end)
unfolding bang_end
bang_to n = listed n (λ d. BangEnd) (λ t. known (the symbol.Bang t)) (λ t. known (the symbol.Bang t) || In [] t) (31 ∷ []) (31 ∷ []) true (λ d. bang_end) (the_in symbol.Bang) (λ t h. the_in symbol.Bang t (or_nothing (known (the symbol.Bang t)) h))
    (to_maybe_plain n (the symbol.Bang) (λ _ d. Done true) (In []) (In []) true (λ _ d. give true) (λ _. done n true) false)

pub type_end_to : (n : ℕ) (t : TypeHead) → PartOf (suc n) (λ d. TypeEnd (may_open d) t) (17 ∷ 31 ∷ []) (31 ∷ 17 ∷ []) true (λ d. type_end d t)
unfolding type_end
type_end_to n t = seq (suc n) true true (λ d. Brackets (may_open d)) (λ b d. Bind BangEnd (λ s. Done (type_of t b s))) (17 ∷ []) (17 ∷ []) (31 ∷ []) (31 ∷ []) brackets (λ b d ts. bang_end ts >>= λ s. Ok (type_of t b s.0, s.1)) (brackets_to n)
    (λ b. seq (suc n) true true (λ d. BangEnd) (λ s d. Done (type_of t b s)) (31 ∷ []) (31 ∷ []) [] [] (λ d. bang_end) (λ s d. give (type_of t b s)) (bang_to (suc n)) (λ s. done (suc n) (type_of t b s)) refl) refl

pub plain_type_to : (n : ℕ) → PartOf (suc n) (λ d. PlainType (may_open d)) (32 ∷ 50 ∷ 51 ∷ 52 ∷ []) (17 ∷ []) false plain_type
unfolding plain_type
plain_type_to n = token (suc n) type_head (32 ∷ 50 ∷ 51 ∷ 52 ∷ []) type_in (λ t d. Bind (Brackets (may_open d)) (λ b. Done (type_of t b false))) (17 ∷ []) (17 ∷ []) true (λ t d ts. brackets d ts >>= λ b. Ok (type_of t b.0 false, b.1))
    (λ t. seq (suc n) true true (λ d. Brackets (may_open d)) (λ b d. Done (type_of t b false)) (17 ∷ []) (17 ∷ []) [] [] brackets (λ b d. give (type_of t b false)) (brackets_to n) (λ b. done (suc n) (type_of t b false)) refl)
    (of (AWord word.Int)) (record { place = no_place; name = IntType }) refl

pub name_to : (n : ℕ) → PartOf n (λ d. AnyName) (32 ∷ []) [] false (λ d. name_at)
name_to n = token n a_name (32 ∷ []) name_in (λ x d. Done x) [] [] true (λ x d. give x) (λ x. done n x) (of (AName [])) (record { text = []; place = no_place }) refl

-- ---- lists of arguments, and what ends a bracket; E is an expression

module _ (n : ℕ) (E : ℕ → List Piece → ExprTree → Type 0) (e : ℕ → Gets ExprTree) (r : PartOf n E unary_first expr_goes false e) where
  abbrev ends : (s : Symbol) → ℕ → List Piece → ExprTree → Type 0
  ends s d = Bind (E d) (λ x. Take (the s) (λ _. Done x))

  pub index_end_to : PartOf n (λ d. IndexEnd (E d)) unary_first [] false (λ d. index_end (e d))
  unfolding index_end
  index_end_to = seq n false false E (λ x d. Take (the symbol.CloseBracket) (λ _. Done x)) unary_first expr_goes (18 ∷ []) [] e (λ x d. take (the symbol.CloseBracket) (λ _. give x)) r
      (λ x. symbol n symbol.CloseBracket (λ _ d. Done x) [] [] true (λ _ d. give x) refl (λ _. done n x)) refl

  pub paren_end_to : PartOf n (λ d. ParenEnd (E d)) unary_first [] false (λ d. paren_end (e d))
  unfolding paren_end
  paren_end_to = seq n false false E (λ x d. Take (the symbol.Close) (λ _. Done x)) unary_first expr_goes (16 ∷ []) [] e (λ x d. take (the symbol.Close) (λ _. give x)) r
      (λ x. symbol n symbol.Close (λ _ d. Done x) [] [] true (λ _ d. give x) refl (λ _. done n x)) refl

  arguments_to : PartOf n (λ d. Args (E d)) unary_first (21 ∷ expr_goes) false (λ d. args (e d))
  unfolding args
  arguments_to = larger n (λ d. Args (E d)) unary_first ((21 ∷ expr_goes) ++ expr_goes) unary_first (21 ∷ expr_goes) false (λ d. args (e d)) refl refl
      (seq n false true E (λ x d. Many (the symbol.Comma) (λ _. E d) join_argument (x ∷ [])) unary_first expr_goes (21 ∷ []) (21 ∷ expr_goes) e (λ x d ts. times (the symbol.Comma) (λ _. e d) join_argument (length ts) (x ∷ []) ts) r
      (λ x. many n (the symbol.Comma) (21 ∷ []) (the_in symbol.Comma) (λ _ d. E d) join_argument unary_first expr_goes (λ _ d. e d) (λ _. r) refl (x ∷ [])) refl)

  some_args_to : PartOf n (λ d. Bind (Args (E d)) (λ es. Take (the symbol.Close) (λ _. Done es))) unary_first [] false (λ d. some_args (e d))
  unfolding some_args
  some_args_to = seq n false false (λ d. Args (E d)) (λ es d. Take (the symbol.Close) (λ _. Done es)) unary_first (21 ∷ expr_goes) (16 ∷ []) [] (λ d. args (e d)) (λ es d. take (the symbol.Close) (λ _. give es)) arguments_to
      (λ es. symbol n symbol.Close (λ _ d. Done es) [] [] true (λ _ d. give es) refl (λ _. done n es)) refl

  no_args_to : PartOf n (λ d. Take (the symbol.Close) (λ _. Done {A = List ExprTree} [])) (16 ∷ unary_first) [] false (λ d. take (the symbol.Close) (λ _. give []))
  no_args_to = larger n (λ d. Take (the symbol.Close) (λ _. Done [])) (16 ∷ []) [] (16 ∷ unary_first) [] false (λ d. take (the symbol.Close) (λ _. give [])) refl refl
      (symbol n symbol.Close (λ _ d. Done []) [] [] true (λ _ d. give []) refl (λ _. done n []))

  pub args_end_to : PartOf n (λ d. ArgsEnd (E d)) (16 ∷ unary_first) [] false (λ d. args_end (e d))
  unfolding args_end
  args_end_to = to_choose n (is (the symbol.Close)) (λ d. Take (the symbol.Close) (λ _. Done [])) (λ d. Bind (Args (E d)) (λ es. Take (the symbol.Close) (λ _. Done es))) (In (16 ∷ unary_first)) (In []) false (λ d. take (the symbol.Close) (λ _. give [])) (λ d. some_args (e d)) (In (16 ∷ unary_first)) no_args_to (λ t h. subset_in (code t) (16 ∷ []) (16 ∷ unary_first) refl (the_in symbol.Close t h))
      (larger n (λ d. Bind (Args (E d)) (λ es. Take (the symbol.Close) (λ _. Done es))) unary_first [] (16 ∷ unary_first) [] false (λ d. some_args (e d)) refl refl some_args_to)
      (λ h. absurd cc) (λ h. absurd cc) (of (ASymbol symbol.Close), [], [], refl, (refl, refl))

-- ---- paths, and what begins with a word

abbrev pub inner_parts : ((i : Part) → ℕ → List Piece → Value i → Type 0) → ℕ → Parts
inner_parts U zero = NoParts
inner_parts U (suc d) = λ i. U i d

abbrev pub inner_readers : ((i : Part) → ℕ → Gets (Value i)) → ℕ → Inner
inner_readers u zero = nothing
inner_readers u (suc d) = λ i. u i d

module _ (n : ℕ) (U : (i : Part) → ℕ → List Piece → Value i → Type 0) (u : (i : Part) → ℕ → Gets (Value i)) (inner : PartOf n (U TheExpression) unary_first expr_goes false (u TheExpression)) (range_part : PartOf n (U TheRange) (36 ∷ 15 ∷ []) [] false (u TheRange)) where
  abbrev V : ℕ → Parts
  V d = inner_parts U d

  abbrev w : ℕ → Inner
  w d = inner_readers u d

  -- one level deeper, made of an inner part
  made : {A B : Type 0} (L : ℕ → List Piece → A → Type 0) (f : List ℕ) (p : ℕ → Gets A) (make : A → B) → PartOf n L f [] false p → PartOf n (λ d. Bind (L d) (λ a. Done (make a))) f [] false (λ d ts. p d ts >>= λ x. Ok (make x.0, x.1))
  made L f p make r = to_as n L (In f) (In []) p make r

  abbrev postfix_part : PostfixHead → ℕ → List Piece → Behind → Type 0
  postfix_part DotHead d = Bind AnyName (λ x. Done (λ p a. MemberOf p a x))
  postfix_part IndexHead d = Bind (IndexEnd (U TheExpression d)) (λ x. Done (λ p a. ElementOf p a x))
  postfix_part CallHead d = Bind (ArgsEnd (U TheExpression d)) (λ x. Done (λ p a. CallOf p a (arguments x)))

  abbrev postfix_reader : PostfixHead → ℕ → Gets Behind
  postfix_reader h d = postfix_after (suc d) (λ i. u i d) h

  abbrev postfix_first : List ℕ
  postfix_first = 32 ∷ 16 ∷ unary_first

  postfix_open : (h : PostfixHead) → postfix_opens h ≡ true → PartOf n (postfix_part h) postfix_first [] false (postfix_reader h)
  unfolding postfix_after
  postfix_open DotHead e = absurd cc
  postfix_open IndexHead e = larger n (postfix_part IndexHead) unary_first [] postfix_first [] false (postfix_reader IndexHead) refl refl (made (λ d. IndexEnd (U TheExpression d)) unary_first (λ d. index_end (u TheExpression d)) (λ x p a. ElementOf p a x) (index_end_to n (U TheExpression) (u TheExpression) inner))
  postfix_open CallHead e = larger n (postfix_part CallHead) (16 ∷ unary_first) [] postfix_first [] false (postfix_reader CallHead) refl refl (made (λ d. ArgsEnd (U TheExpression d)) (16 ∷ unary_first) (λ d. args_end (u TheExpression d)) (λ x p a. CallOf p a (arguments x)) (args_end_to n (U TheExpression) (u TheExpression) inner))

  postfix_leaf : (h : PostfixHead) → postfix_opens h ≡ false → PartOf (suc n) (postfix_part h) postfix_first [] false (postfix_reader h)
  unfolding postfix_after
  postfix_leaf DotHead e = larger (suc n) (postfix_part DotHead) (32 ∷ []) [] postfix_first [] false (postfix_reader DotHead) refl refl (to_as (suc n) (λ d. AnyName) (In (32 ∷ [])) (In []) (λ d. name_at) (λ x p a. MemberOf p a x) (name_to (suc n)))
  postfix_leaf IndexHead e = absurd cc
  postfix_leaf CallHead e = absurd cc

  postfix_agree : (d : ℕ) (h : PostfixHead) (t : Piece) (ts : List Piece) → pick (postfix_opens h) d (postfix_reader h) t ts ≡ postfix d (w d) (h, t) ts
  unfolding postfix_after
  postfix_agree zero DotHead t ts = refl
  postfix_agree (suc d) DotHead t ts = refl
  postfix_agree zero IndexHead t ts = refl
  postfix_agree (suc d) IndexHead t ts = refl
  postfix_agree zero CallHead t ts = refl
  postfix_agree (suc d) CallHead t ts = refl

  postfix_there : (d : ℕ) (h : PostfixHead) (ts : List Piece) (v : Behind) → Pick (postfix_opens h) (postfix_part h) d ts v → PostfixAfter (may_open d) (V d) h ts v
  postfix_there zero DotHead ts v q = q
  postfix_there (suc d) DotHead ts v q = q
  postfix_there zero IndexHead ts v q = q
  postfix_there (suc d) IndexHead ts v q = q
  postfix_there zero CallHead ts v q = q
  postfix_there (suc d) CallHead ts v q = q

  postfix_back : (d : ℕ) (h : PostfixHead) (ts : List Piece) (v : Behind) → PostfixAfter (may_open d) (V d) h ts v → Pick (postfix_opens h) (postfix_part h) d ts v
  postfix_back zero DotHead ts v q = q
  postfix_back (suc d) DotHead ts v q = q
  postfix_back zero IndexHead ts v q = q
  postfix_back (suc d) IndexHead ts v q = q
  postfix_back zero CallHead ts v q = q
  postfix_back (suc d) CallHead ts v q = q

  pub postfixes_to : (p : Place) (a : ExprTree) → PartOf (suc n) (λ d. Postfixes (may_open d) (V d) p a) postfix_set postfix_set true (λ d. postfixes d (w d) p a)
  unfolding postfixes
  postfixes_to p a = to_same (suc n) (λ d. Many postfix_head (λ h. Pick (postfix_opens h) (postfix_part h) d) (joined p) a) (λ d. Postfixes (may_open d) (V d) p a) (In postfix_set) (In postfix_set) true (λ d. postfixes d (w d) p a)
      (λ d ts v q. many_in postfix_head (joined p) (λ h. Pick (postfix_opens h) (postfix_part h) d) (PostfixAfter (may_open d) (V d)) (postfix_there d) a ts v q)
      (λ d ts v q. many_in postfix_head (joined p) (PostfixAfter (may_open d) (V d)) (λ h. Pick (postfix_opens h) (postfix_part h) d) (postfix_back d) a ts v q)
      (listed (suc n) (λ d. Many postfix_head (λ h. Pick (postfix_opens h) (postfix_part h) d) (joined p) a) (λ t. known (postfix_head t)) (λ t. known (postfix_head t) || In [] t) postfix_set postfix_set true (λ d. postfixes d (w d) p a) postfix_in (λ t h. postfix_in t (or_nothing (known (postfix_head t)) h))
      (to_many_open n postfix_head postfix_opens postfix_part postfix_reader (In postfix_first) (In []) postfix_open postfix_leaf (joined p) (λ t h i. absurd cc) (λ d. postfix d (w d)) postfix_agree a))

  -- `old`
  pub old_to : (p : Place) → PartOf (suc n) (λ d. Old (may_open d) (V d) p) (36 ∷ 15 ∷ []) [] false (λ d. old d (w d) p)
  unfolding old old_after
  old_to p = held_to n (the symbol.Open) (15 ∷ []) (the_in symbol.Open) (λ _ d. Bind (ParenEnd (U TheExpression d)) (λ e. Done (OldOf p e))) (λ _ d ts. paren_end (u TheExpression d) ts >>= λ e. Ok (OldOf p e.0, e.1)) (BaseOf p) unary_first false
      (λ _. made (λ d. ParenEnd (U TheExpression d)) unary_first (λ d. paren_end (u TheExpression d)) (λ e. OldOf p e) (paren_end_to n (U TheExpression) (u TheExpression) inner))
      (λ d _. Bind (ParenEnd (V d TheExpression)) (λ e. Done (OldOf p e))) (λ d _. old_after d (w d) p) (λ d b ts v q. q) (λ d b ts v q. q) (λ d b ts. refl)

  -- `new`
  abbrev new_part : Place → TypeHead → NewKind → ℕ → List Piece → ExprTree → Type 0
  new_part p t k d = NewEnd true (λ i. U i d) p t k

  new_part_to : (p : Place) (t : TypeHead) (k : NewKind) → PartOf n (new_part p t k) (16 ∷ unary_first) [] false (λ d. new_after (suc d) (λ i. u i d) p t k)
  unfolding new_after
  new_part_to p t ArrayKind = larger n (new_part p t ArrayKind) unary_first [] (16 ∷ unary_first) [] false (λ d. new_after (suc d) (λ i. u i d) p t ArrayKind) refl refl (made (λ d. IndexEnd (U TheExpression d)) unary_first (λ d. index_end (u TheExpression d)) (λ e. NewArrayOf p t.place t.name e) (index_end_to n (U TheExpression) (u TheExpression) inner))
  new_part_to p t (ObjectKind x) = made (λ d. ArgsEnd (U TheExpression d)) (16 ∷ unary_first) (λ d. args_end (u TheExpression d)) (λ es. NewOf p (record { text = x; place = t.place }) (arguments es)) (args_end_to n (U TheExpression) (u TheExpression) inner)

  new_there : (p : Place) (t : TypeHead) (d : ℕ) (k : NewKind) (ts : List Piece) (v : ExprTree) → new_part p t k d ts v → NewEnd (may_open (suc d)) (V (suc d)) p t k ts v
  new_there p t d k ts v q = q

  new_end_to : (p : Place) (t : TypeHead) → PartOf (suc n) (λ d. Held (may_open d) (new_head t.name) (NewEnd (may_open d) (V d) p t) (BaseOf p)) (36 ∷ 17 ∷ 15 ∷ []) [] false (λ d. new_end d (w d) p t)
  unfolding new_end
  new_end_to p t = held_to n (new_head t.name) (17 ∷ 15 ∷ []) (new_in t.name) (new_part p t) (λ k d. new_after (suc d) (λ i. u i d) p t k) (BaseOf p) (16 ∷ unary_first) false (new_part_to p t)
      (λ d. NewEnd (may_open d) (V d) p t) (λ d k. new_after d (w d) p t k) (λ d b ts v q. q) (λ d b ts v q. q) (λ d b ts. refl)

  pub new_to : (p : Place) → PartOf (suc n) (λ d. New (may_open d) (V d) p) (32 ∷ 50 ∷ 51 ∷ 52 ∷ []) [] false (λ d. new d (w d) p)
  unfolding new
  new_to p = token (suc n) type_head (32 ∷ 50 ∷ 51 ∷ 52 ∷ []) type_in (λ t d. Held (may_open d) (new_head t.name) (NewEnd (may_open d) (V d) p t) (BaseOf p)) (36 ∷ 17 ∷ 15 ∷ []) [] false (λ t d. new_end d (w d) p t) (new_end_to p) (of (AWord word.Int)) (record { place = no_place; name = IntType }) refl

  -- quantifiers
  range_high_to : (low : ExprTree) → PartOf n (λ d. Take (the symbol.Colon) (λ _. Bind (ParenEnd (U TheExpression d)) (λ high. Done (low, high)))) (20 ∷ []) [] false (λ d. range_high (suc d) (λ i. u i d) low)
  unfolding range_high
  range_high_to low = symbol n symbol.Colon (λ _ d. Bind (ParenEnd (U TheExpression d)) (λ high. Done (low, high))) unary_first [] false (λ _ d ts. paren_end (u TheExpression d) ts >>= λ high. Ok ((low, high.0), high.1)) refl (λ _. made (λ d. ParenEnd (U TheExpression d)) unary_first (λ d. paren_end (u TheExpression d)) (λ high. (low, high)) (paren_end_to n (U TheExpression) (u TheExpression) inner))

  range_end_to : PartOf n (λ d. RangeEnd true (λ i. U i d)) unary_first [] false (λ d. range_end (suc d) (λ i. u i d))
  unfolding range_end
  range_end_to = seq n false false (U TheExpression) (λ low d. Take (the symbol.Colon) (λ _. Bind (ParenEnd (U TheExpression d)) (λ high. Done (low, high)))) unary_first expr_goes (20 ∷ []) [] (u TheExpression) (λ low d. range_high (suc d) (λ i. u i d) low) inner range_high_to refl

  pub range_to : PartOf (suc n) (λ d. Range (may_open d) (V d)) (36 ∷ 15 ∷ []) [] false (λ d. range d (w d))
  unfolding range
  range_to = held_to n (the symbol.Open) (15 ∷ []) (the_in symbol.Open) (λ _ d. RangeEnd true (λ i. U i d)) (λ _ d. range_end (suc d) (λ i. u i d)) (BaseOf no_place, BaseOf no_place) unary_first false (λ _. range_end_to)
      (λ d _. RangeEnd (may_open d) (V d)) (λ d _. range_end d (w d)) (λ d b ts v q. q) (λ d b ts v q. q) (λ d b ts. refl)

  body_to : PartOf n (λ d. Body true (λ i. U i d)) (19 ∷ []) [] false (λ d. body (suc d) (λ i. u i d))
  unfolding body
  body_to = symbol n symbol.Semicolon (λ _ d. Bind (U TheExpression d) (λ e. Take (the symbol.CloseBrace) (λ _. Done e))) unary_first [] false (λ _ d ts. u TheExpression d ts >>= λ e. take (the symbol.CloseBrace) (λ _. give e.0) e.1) refl
      (λ _. seq n false false (U TheExpression) (λ e d. Take (the symbol.CloseBrace) (λ _. Done e)) unary_first expr_goes (14 ∷ []) [] (u TheExpression) (λ e d. take (the symbol.CloseBrace) (λ _. give e)) inner (λ e. symbol n symbol.CloseBrace (λ _ d. Done e) [] [] true (λ _ d. give e) refl (λ _. done n e)) refl)

  bound_to : PartOf n (λ d. Bound true (λ i. U i d)) (50 ∷ []) [] false (λ d. bound (suc d) (λ i. u i d))
  unfolding bound bound_name
  bound_to = word_then n word.Int (λ _ d. Bind AnyName (λ x. Take (the_word word.In) (λ _. Done x))) (32 ∷ []) [] false (λ _ d ts. name_at ts >>= λ x. take (the_word word.In) (λ _. give x.0) x.1) refl
      (λ _. seq n false false (λ d. AnyName) (λ x d. Take (the_word word.In) (λ _. Done x)) (32 ∷ []) [] (78 ∷ []) [] (λ d. name_at) (λ x d. take (the_word word.In) (λ _. give x)) (name_to n) (λ x. word_then n word.In (λ _ d. Done x) [] [] true (λ _ d. give x) refl (λ _. done n x)) refl)

  bounds_and_body_to : (p : Place) (q : Quantifier) (x : NameTree) → PartOf n (λ d. Bind (U TheRange d) (λ r. Bind (Body true (λ i. U i d)) (λ e. Done (QuantifiedOf p q x r.0 r.1 e)))) (36 ∷ 15 ∷ []) [] false (λ d. bounds_and_body (suc d) (λ i. u i d) p q x)
  unfolding bounds_and_body
  bounds_and_body_to p q x = seq n false false (U TheRange) (λ r d. Bind (Body true (λ i. U i d)) (λ e. Done (QuantifiedOf p q x r.0 r.1 e))) (36 ∷ 15 ∷ []) [] (19 ∷ []) [] (u TheRange) (λ r d ts. body (suc d) (λ i. u i d) ts >>= λ e. Ok (QuantifiedOf p q x r.0 r.1 e.0, e.1)) range_part
      (λ r. made (λ d. Body true (λ i. U i d)) (19 ∷ []) (λ d. body (suc d) (λ i. u i d)) (λ e. QuantifiedOf p q x r.0 r.1 e) body_to) refl

  quantified_end_to : (p : Place) (q : Quantifier) → PartOf n (λ d. Bind (Bound true (λ i. U i d)) (λ x. Bind (U TheRange d) (λ r. Bind (Body true (λ i. U i d)) (λ e. Done (QuantifiedOf p q x r.0 r.1 e))))) (50 ∷ []) [] false (λ d. quantified_after (suc d) (λ i. u i d) p q)
  unfolding quantified_after
  quantified_end_to p q = seq n false false (λ d. Bound true (λ i. U i d)) (λ x d. Bind (U TheRange d) (λ r. Bind (Body true (λ i. U i d)) (λ e. Done (QuantifiedOf p q x r.0 r.1 e)))) (50 ∷ []) [] (36 ∷ 15 ∷ []) [] (λ d. bound (suc d) (λ i. u i d)) (λ x d. bounds_and_body (suc d) (λ i. u i d) p q x) bound_to (bounds_and_body_to p q) refl

  pub quantified_to : (p : Place) (q : Quantifier) → PartOf (suc n) (λ d. Quantified (may_open d) (V d) p q) (36 ∷ 13 ∷ []) [] false (λ d. quantified d (w d) p q)
  unfolding quantified
  quantified_to p q = held_to n (the symbol.OpenBrace) (13 ∷ []) (the_in symbol.OpenBrace) (λ _ d. Bind (Bound true (λ i. U i d)) (λ x. Bind (U TheRange d) (λ r. Bind (Body true (λ i. U i d)) (λ e. Done (QuantifiedOf p q x r.0 r.1 e))))) (λ _ d. quantified_after (suc d) (λ i. u i d) p q) (BaseOf p) (50 ∷ []) false (λ _. quantified_end_to p q)
      (λ d _. Bind (Bound (may_open d) (V d)) (λ x. Bind (V d TheRange) (λ r. Bind (Body (may_open d) (V d)) (λ e. Done (QuantifiedOf p q x r.0 r.1 e))))) (λ d _. quantified_after d (w d) p q) (λ d b ts v q. q) (λ d b ts v q. q) (λ d b ts. refl)
