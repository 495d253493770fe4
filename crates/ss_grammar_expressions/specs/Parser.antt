-- Reading by the grammar, from left to right. At depth d, w reads the parts that stand one level deeper.
use Rattle.std.specs.Prelude.{ℕ, zero, suc, Bool, true, false, List, [], ◌∷◌, length, Option, Some, None, Result, Ok, Err, negsuc}
use Rattle.ss_core.specs.declared.names.Place.{Place}
use Rattle.ss_ast.specs.declared.token.Word.TheVariants as word
use Rattle.ss_ast.specs.declared.token.Symbol.TheVariants as symbol
use Rattle.ss_core.specs.declared.expr.Quantifier.{Quantifier}
use Rattle.ss_ast.specs.Expressions.{NameTree, TypeTree, ExprTree, IffOf, ImpliesOf, BinaryOf, IsOf, AsOf, NegateOf, NotOf, CastOf, MemberOf, ElementOf, CallOf, BaseOf, NumberOf, ParenOf, OldOf, NewOf, NewArrayOf, QuantifiedOf, Behind, arguments}
use Rattle.ss_grammar.specs.declared.fault.Fault.{Fault}
use Rattle.ss_grammar.specs.declared.fault.Fault.TheVariants.{Expected, TooDeep}
use Rattle.ss_grammar.specs.Reading.{◌>>=◌, take, maybe, times}
use Rattle.ss_grammar_expressions.specs.First.{choose, only, here, tokened}
use Rattle.ss_grammar_expressions.specs.Heads.{Piece, place_at, or_left_out, is, the, the_word, a_name, the_least, TypeHead, type_word, type_head, LinkHead, Operation, IsHead, AsHead, link_head, PostfixHead, DotHead, IndexHead, CallHead, postfix_head, postfix_opens, Head, NegateHead, NotHead, OpenHead, Leaf, OldHead, NewHead, QuantifierHead, unary_head, head_opens, castable, NamedHead, BangAfter, BracketAfter, named_head, named_opens, NewKind, ArrayKind, ObjectKind, new_head}
use Rattle.ss_grammar_expressions.specs.Grammar.{Part, TheUnary, TheImplication, TheExpression, TheTypeEnd, TheNamed, TheRange, Value, Enclosed, AType, AnExpr, type_of, join_argument, head_of, named, no_place}

abbrev pub Gets : Type 0 → Type 0
Gets A = List Piece → Result (A × List Piece) (Fault × List Piece)

abbrev pub Inner : Type 0
Inner = (i : Part) → Gets (Value i)

abbrev pub give : {A : Type 0} → A → Gets A
give a ts = Ok (a, ts)

-- after the token t, which may open a level
abbrev pub opened : {A : Type 0} → Bool → ℕ → Gets A → Piece → Gets A
opened false d k t ts = k ts
opened true zero k t ts = Err (TooDeep, t ∷ ts)
opened true (suc d) k t ts = k ts

-- the same after a token that must come, or a part left out, which is read as a
abbrev pub held : {A B : Type 0} → ℕ → (B → Gets A) → A → Option B × Piece → Gets A
held d k a (None, t) ts = Ok (a, ts)
held d k a (Some b, t) ts = opened true d (k b) t ts

-- ---- types and arguments

abbrev pub closing_bracket : Gets Bool
closing_bracket = take (the symbol.CloseBracket) (λ _. give true)

unfoldable pub brackets : ℕ → Gets Bool
brackets d = maybe (tokened (the symbol.OpenBracket)) (λ x. opened true d closing_bracket x.1) false

unfoldable pub bang_end : Gets Bool
bang_end = maybe (the symbol.Bang) (λ _. give true) false

unfoldable pub type_end : ℕ → TypeHead → Gets TypeTree
type_end d t ts = brackets d ts >>= λ b. bang_end b.1 >>= λ s. Ok (type_of t b.0 s.0, s.1)

unfoldable pub plain_type : ℕ → Gets TypeTree
plain_type d = take type_head (λ t ts. brackets d ts >>= λ b. Ok (type_of t b.0 false, b.1))

abbrev pub name_at : Gets NameTree
name_at = take a_name give

unfoldable pub args : Gets ExprTree → Gets (List ExprTree)
args e ts = e ts >>= λ x. times (the symbol.Comma) (λ _. e) join_argument (length x.1) (x.0 ∷ []) x.1

unfoldable pub some_args : Gets ExprTree → Gets (List ExprTree)
some_args e ts = args e ts >>= λ es. take (the symbol.Close) (λ _. give es.0) es.1

unfoldable pub args_end : Gets ExprTree → Gets (List ExprTree)
args_end e = choose (is (the symbol.Close)) (take (the symbol.Close) (λ _. give [])) (some_args e)

unfoldable pub index_end : Gets ExprTree → Gets ExprTree
index_end e ts = e ts >>= λ x. take (the symbol.CloseBracket) (λ _. give x.0) x.1

unfoldable pub paren_end : Gets ExprTree → Gets ExprTree
paren_end e ts = e ts >>= λ x. take (the symbol.Close) (λ _. give x.0) x.1

module _ (d : ℕ) (w : Inner) where
  -- ---- paths

  unfoldable pub postfix_after : PostfixHead → Gets Behind
  postfix_after DotHead ts = name_at ts >>= λ n. Ok ((λ p a. MemberOf p a n.0), n.1)
  postfix_after IndexHead ts = index_end (w TheExpression) ts >>= λ e. Ok ((λ p a. ElementOf p a e.0), e.1)
  postfix_after CallHead ts = args_end (w TheExpression) ts >>= λ es. Ok ((λ p a. CallOf p a (arguments es.0)), es.1)

  abbrev pub postfix : PostfixHead × Piece → Gets Behind
  postfix x = opened (postfix_opens x.0) d (postfix_after x.0) x.1

  abbrev pub joins : {H : Type 0} → Place → ExprTree → H → Behind → ExprTree
  joins p a _ b = b p a

  unfoldable pub postfixes : Place → ExprTree → Gets ExprTree
  postfixes p a ts = times (tokened postfix_head) postfix (joins p) (length ts) a ts

  unfoldable pub new_after : Place → TypeHead → NewKind → Gets ExprTree
  new_after p t ArrayKind ts = index_end (w TheExpression) ts >>= λ e. Ok (NewArrayOf p t.place t.name e.0, e.1)
  new_after p t (ObjectKind n) ts = args_end (w TheExpression) ts >>= λ es. Ok (NewOf p (record { text = n; place = t.place }) (arguments es.0), es.1)

  unfoldable pub new_end : Place → TypeHead → Gets ExprTree
  new_end p t = take (tokened (or_left_out (new_head t.name))) (held d (new_after p t) (BaseOf p))

  unfoldable pub new : Place → Gets ExprTree
  new p = take type_head (new_end p)

  unfoldable pub old_after : Place → Gets ExprTree
  old_after p ts = paren_end (w TheExpression) ts >>= λ e. Ok (OldOf p e.0, e.1)

  unfoldable pub old : Place → Gets ExprTree
  old p = take (tokened (or_left_out (the symbol.Open))) (held d (λ _. old_after p) (BaseOf p))

  unfoldable pub range_high : ExprTree → Gets (ExprTree × ExprTree)
  range_high low = take (the symbol.Colon) (λ _ ts. paren_end (w TheExpression) ts >>= λ high. Ok ((low, high.0), high.1))

  unfoldable pub range_end : Gets (ExprTree × ExprTree)
  range_end ts = w TheExpression ts >>= λ low. range_high low.0 low.1

  unfoldable pub range : Gets (ExprTree × ExprTree)
  range = take (tokened (or_left_out (the symbol.Open))) (held d (λ _. range_end) (BaseOf no_place, BaseOf no_place))

  unfoldable pub body : Gets ExprTree
  body = take (the symbol.Semicolon) (λ _ ts. w TheExpression ts >>= λ e. take (the symbol.CloseBrace) (λ _. give e.0) e.1)

  unfoldable pub bound_name : Gets NameTree
  bound_name ts = name_at ts >>= λ n. take (the_word word.In) (λ _. give n.0) n.1

  unfoldable pub bound : Gets NameTree
  bound = take (the_word word.Int) (λ _. bound_name)

  unfoldable pub bounds_and_body : Place → Quantifier → NameTree → Gets ExprTree
  bounds_and_body p q n ts = w TheRange ts >>= λ r. body r.1 >>= λ e. Ok (QuantifiedOf p q n r.0.0 r.0.1 e.0, e.1)

  unfoldable pub quantified_after : Place → Quantifier → Gets ExprTree
  quantified_after p q ts = bound ts >>= λ n. bounds_and_body p q n.0 n.1

  unfoldable pub quantified : Place → Quantifier → Gets ExprTree
  quantified p q = take (tokened (or_left_out (the symbol.OpenBrace))) (held d (λ _. quantified_after p q) (BaseOf p))

  -- ---- casts and parentheses

  unfoldable pub cast_end : Place → TypeTree → Gets ExprTree
  cast_end p t ts = w TheUnary ts >>= λ e. Ok (CastOf p t e.0, e.1)

  unfoldable pub cast_only : Place → TypeTree → Gets ExprTree
  cast_only p t = only castable (cast_end p t)

  abbrev pub after_paren : Place → ExprTree → Gets ExprTree
  after_paren p e = postfixes p (ParenOf p e)

  unfoldable pub bare_end : Place → NameTree → Gets ExprTree
  bare_end p n = choose castable (cast_end p (type_of (head_of n) false false)) (after_paren p (named n))

  unfoldable pub closed : Place → Enclosed → Gets ExprTree
  closed p (AType t) = cast_only p t
  closed p (AnExpr e) = after_paren p e

  unfoldable pub word_paren : Place → TypeHead → Gets ExprTree
  word_paren p t ts = w (TheTypeEnd t) ts >>= λ x. take (the symbol.Close) (λ _. cast_only p x.0) x.1

  unfoldable pub enclosed : Place → NameTree → Gets ExprTree
  enclosed p n ts = w (TheNamed n) ts >>= λ x. take (the symbol.Close) (λ _. closed p x.0) x.1

  unfoldable pub name_paren : Place → NameTree → Gets ExprTree
  name_paren p n = choose (is (the symbol.Close)) (take (the symbol.Close) (λ _. bare_end p n)) (enclosed p n)

  unfoldable pub other_paren : Place → Gets ExprTree
  other_paren p ts = paren_end (w TheExpression) ts >>= λ e. after_paren p e.0 e.1

  unfoldable pub paren : Place → Gets ExprTree
  paren p = choose (is type_word) (take type_word (word_paren p)) (choose (is a_name) (take a_name (name_paren p)) (other_paren p))

  unfoldable pub negation : Place → Gets ExprTree
  negation p ts = w TheUnary ts >>= λ e. Ok (NegateOf p e.0, e.1)

  unfoldable pub negated : Place → Gets ExprTree
  negated p = choose (is the_least) (take the_least (λ _. postfixes p (NumberOf p (negsuc 2147483647)))) (negation p)

  unfoldable pub unary_after : Head → Gets ExprTree
  unary_after (NegateHead p) ts = negated p ts
  unary_after (NotHead p) ts = w TheUnary ts >>= λ e. Ok (NotOf p e.0, e.1)
  unary_after (OpenHead p) ts = paren p ts
  unary_after (Leaf p v) ts = postfixes p v ts
  unary_after (OldHead p) ts = old p ts >>= λ e. postfixes p e.0 e.1
  unary_after (NewHead p) ts = new p ts >>= λ e. postfixes p e.0 e.1
  unary_after (QuantifierHead p q) ts = quantified p q ts >>= λ e. postfixes p e.0 e.1

  unfoldable pub unary : Gets ExprTree
  unary = take (tokened unary_head) (λ x. opened (head_opens x.0) d (unary_after x.0) x.1)

  -- ---- operators

  unfoldable pub link_after : Gets ExprTree → LinkHead → Gets Behind
  link_after e (Operation op) ts = e ts >>= λ b. Ok ((λ p a. BinaryOf p op a b.0), b.1)
  link_after e IsHead ts = plain_type d ts >>= λ t. Ok ((λ p a. IsOf p a t.0), t.1)
  link_after e AsHead ts = plain_type d ts >>= λ t. Ok ((λ p a. AsOf p a t.0), t.1)

  unfoldable pub chain : ℕ → Place → ExprTree → Gets ExprTree
  chain zero p a ts = Ok (a, ts)
  chain (suc k) p a ts = chain k p a ts >>= λ x. times (link_head (suc k)) (link_after (here place_at (λ q ts. unary ts >>= λ b. chain k q b.0 b.1))) (joins p) (length x.1) x.0 x.1

  unfoldable pub operand : ℕ → Gets ExprTree
  operand k = here place_at (λ q ts. unary ts >>= λ b. chain k q b.0 b.1)

  unfoldable pub right_side : Place → ExprTree → Gets ExprTree
  right_side p b ts = w TheImplication ts >>= λ c. Ok (ImpliesOf p b c.0, c.1)

  unfoldable pub implication_end : Place → ExprTree → Gets ExprTree
  implication_end p b = maybe (tokened (the symbol.Implies)) (λ x. opened true d (right_side p b) x.1) b

  unfoldable pub implication_from : Place → ExprTree → Gets ExprTree
  implication_from p a ts = chain 6 p a ts >>= λ b. implication_end p b.0 b.1

  unfoldable pub implication : Gets ExprTree
  implication = here place_at (λ p ts. unary ts >>= λ a. implication_from p a.0 a.1)

  unfoldable pub iff_end : Place → ExprTree → Gets ExprTree
  iff_end p b = maybe (the symbol.Iff) (λ _ ts. implication ts >>= λ c. Ok (IffOf p b c.0, c.1)) b

  unfoldable pub expression_from : Place → ExprTree → Gets ExprTree
  expression_from p a ts = implication_from p a ts >>= λ b. iff_end p b.0 b.1

  unfoldable pub whole_expression : Gets ExprTree
  whole_expression = here place_at (λ p ts. unary ts >>= λ a. expression_from p a.0 a.1)

  -- ---- after `(` and a name

  unfoldable pub rest_of : Place → ExprTree → Gets ExprTree
  rest_of p a ts = postfixes p a ts >>= λ b. expression_from p b.0 b.1

  unfoldable pub array_end : NameTree → Gets Enclosed
  array_end n = take (the symbol.CloseBracket) (λ _ ts. bang_end ts >>= λ s. Ok (AType (type_of (head_of n) true s.0), s.1))

  unfoldable pub element_end : NameTree → Gets Enclosed
  element_end n ts = index_end (w TheExpression) ts >>= λ i. rest_of n.place (ElementOf n.place (named n) i.0) i.1 >>= λ e. Ok (AnExpr e.0, e.1)

  unfoldable pub element_or_array : NameTree → Gets Enclosed
  element_or_array n = choose (is (the symbol.CloseBracket)) (array_end n) (element_end n)

  unfoldable pub named_after : NameTree → NamedHead → Gets Enclosed
  named_after n BangAfter ts = Ok (AType (type_of (head_of n) false true), ts)
  named_after n BracketAfter ts = element_or_array n ts

  unfoldable pub named_rest : NameTree → Gets Enclosed
  named_rest n ts = rest_of n.place (named n) ts >>= λ e. Ok (AnExpr e.0, e.1)

  unfoldable pub named_end : NameTree → Gets Enclosed
  named_end n = choose (is named_head) (take (tokened named_head) (λ x. opened (named_opens x.0) d (named_after n x.0) x.1)) (named_rest n)

  -- ---- all parts

  abbrev pub production : Inner
  production TheUnary = unary
  production TheImplication = implication
  production TheExpression = whole_expression
  production (TheTypeEnd t) = type_end d t
  production (TheNamed n) = named_end n
  production TheRange = range

abbrev pub nothing : Inner
nothing i ts = Err (Expected, ts)

-- reading a part at depth d
unfoldable pub reading : ℕ → Inner
reading zero = production zero nothing
reading (suc d) = production (suc d) (reading d)

-- reading one level deeper
unfoldable pub below : ℕ → Inner
below zero = nothing
below (suc d) = reading d
