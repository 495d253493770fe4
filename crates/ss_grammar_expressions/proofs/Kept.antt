-- No part of an expression takes a piece that ends the text.
use Rattle.std.proofs.Common.{◌≡◌, ℕ, zero, suc, List, [], ◌∷◌, ◌++◌, Option, Some, None, Bool, true, false, refl, sym, subst, ◌∙◌}
use Rattle.ss_core.specs.declared.names.Place.{Place}
use Rattle.ss_ast.specs.declared.token.Word.{Word}
use Rattle.ss_ast.specs.declared.token.Symbol.{Symbol}
use Rattle.ss_ast.specs.declared.token.Symbol.TheVariants as symbol
use Rattle.ss_ast.specs.declared.token.Word.TheVariants as word
use Rattle.ss_core.specs.declared.expr.Quantifier.{Quantifier}
use Rattle.ss_ast.specs.Tokens.{Kind, AWord, ASymbol, AName, ANumber, AText, AnEnd}
use Rattle.ss_ast.specs.Expressions.{NameTree, TypeNameTree, TypeTree, ExprTree, Behind, BaseOf, OldOf, QuantifiedOf}
use Rattle.ss_grammar.specs.Language.{Done, After, Take, Maybe, Bind, Times, Many}
use Rattle.ss_grammar_expressions.specs.First.{ByFirst, Nothing, Chosen, Choose, Only, Here}
use Rattle.ss_grammar_expressions.specs.Heads.{Piece, AToken, LeftOut, place_at, or_left_out, is, the, the_word, a_name, the_least, TypeHead, type_word, type_head, LinkHead, Operation, IsHead, AsHead, link_head, PostfixHead, DotHead, IndexHead, CallHead, postfix_head, Head, NegateHead, NotHead, OpenHead, Leaf, OldHead, NewHead, QuantifierHead, unary_head, castable, NamedHead, BangAfter, BracketAfter, named_head, NewKind, ArrayKind, ObjectKind, new_head}
use Rattle.ss_grammar_expressions.specs.Ends.{is_end, TakesNoEnd}
use Rattle.ss_grammar_expressions.specs.Grammar as grammar
use Rattle.ss_grammar_expressions.specs.Grammar.{Part, TheUnary, TheImplication, TheExpression, TheTypeEnd, TheNamed, TheRange, Value, Parts, NoParts, no_place, Enclosed, AType, AnExpr}

-- a language none of whose lists has an end in it
abbrev pub Kept : {A : Type 0} → (List Piece → A → Type 0) → Type 0
Kept {A} L = (ts : List Piece) (v : A) → L ts v → TakesNoEnd ts

-- a token that f knows is no end
abbrev pub Knows : {B : Type 0} → (Piece → Option B) → Type 0
Knows {B} f = (t : Piece) (b : B) → f t ≡ Some b → is_end t ≡ false

kept_append : (xs ys : List Piece) → TakesNoEnd xs → TakesNoEnd ys → TakesNoEnd (xs ++ ys)
kept_append [] ys p q = q
kept_append (x ∷ xs) ys p q = (p.0, kept_append xs ys p.1 q)

pub kept_done : {A : Type 0} (a : A) → Kept (Done {T = Piece} a)
kept_done a [] v p = tt
kept_done a (t ∷ ts) v p = absurd (let e : t ∷ ts ≡ [] = p.0 in cc)

kept_after : {A B : Type 0} (o : Option B) (K : B → List Piece → A → Type 0) (t : Piece) → ((b : B) → o ≡ Some b → is_end t ≡ false) → ((b : B) → Kept (K b)) → (ts : List Piece) (v : A) → After o K ts v → TakesNoEnd (t ∷ ts)
kept_after None K t f k ts v p = absurd p
kept_after (Some b) K t f k ts v p = (f b refl, k b ts v p)

pub kept_take : {A B : Type 0} (f : Piece → Option B) (K : B → List Piece → A → Type 0) → Knows f → ((b : B) → Kept (K b)) → Kept (Take f K)
kept_take f K g k [] v p = absurd p
kept_take f K g k (t ∷ ts) v p = kept_after (f t) K t (g t) k ts v p

pub kept_maybe : {A B : Type 0} (f : Piece → Option B) (K : B → List Piece → A → Type 0) (a : A) → Knows f → ((b : B) → Kept (K b)) → Kept (Maybe f K a)
kept_maybe f K a g k [] v p = tt
kept_maybe f K a g k (t ∷ ts) v p = kept_after (f t) K t (g t) k ts v p

pub kept_bind : {A B : Type 0} (L : List Piece → A → Type 0) (K : A → List Piece → B → Type 0) → Kept L → ((a : A) → Kept (K a)) → Kept (Bind L K)
kept_bind L K l k ts v p = subst TakesNoEnd (sym p.parts) (kept_append p.front p.back (l p.front p.first p.reads) (k p.first p.back v p.goes_on))

kept_times : {A B R : Type 0} (f : Piece → Option B) (K : B → List Piece → R → Type 0) (join : A → B → R → A) → Knows f → ((b : B) → Kept (K b)) → (n : ℕ) (a : A) → Kept (Times f K join n a)
kept_times f K join g k zero a = kept_done a
kept_times f K join g k (suc n) a = kept_maybe f (λ b. Bind (K b) (λ r. Times f K join n (join a b r))) a g (λ b. kept_bind (K b) (λ r. Times f K join n (join a b r)) (k b) (λ r. kept_times f K join g k n (join a b r)))

pub kept_many : {A B R : Type 0} (f : Piece → Option B) (K : B → List Piece → R → Type 0) (join : A → B → R → A) → Knows f → ((b : B) → Kept (K b)) → (a : A) → Kept (Many f K join a)
kept_many f K join g k a ts v p = kept_times f K join g k p.0 a ts v p.1

kept_chosen : {A : Type 0} (b : Bool) (L M : List Piece → A → Type 0) → Kept L → Kept M → Kept (Chosen b L M)
kept_chosen true L M l m = l
kept_chosen false L M l m = m

pub kept_choose : {A : Type 0} (f : Piece → Bool) (L M : List Piece → A → Type 0) → Kept L → Kept M → Kept (Choose f L M)
kept_choose f L M l m [] v p = m [] v p
kept_choose f L M l m (t ∷ ts) v p = kept_chosen (f t) L M l m (t ∷ ts) v p

kept_nothing : {A : Type 0} → Kept (Nothing {T = Piece} {A = A})
kept_nothing ts v p = absurd p

pub kept_only : {A : Type 0} (f : Piece → Bool) (L : List Piece → A → Type 0) → Kept L → Kept (Only f L)
kept_only f L l [] v p = absurd p
kept_only f L l (t ∷ ts) v p = kept_chosen (f t) L Nothing l kept_nothing (t ∷ ts) v p

pub kept_here : {A : Type 0} (L : Place → List Piece → A → Type 0) → ((p : Place) → Kept (L p)) → Kept (Here place_at L)
kept_here L l [] v p = absurd p
kept_here L l (t ∷ ts) v p = l (place_at t) (t ∷ ts) v p

pub kept_deeper : {A : Type 0} (o : Bool) (L : List Piece → A → Type 0) → Kept L → Kept (grammar.Deeper o L)
kept_deeper true L l = l
kept_deeper false L l = kept_nothing

kept_held_after : {A B : Type 0} (o : Bool) (K : B → List Piece → A → Type 0) (a : A) → ((b : B) → Kept (K b)) → (x : Option B) → Kept (grammar.HeldAfter o K a x)
kept_held_after o K a k None = kept_done a
kept_held_after o K a k (Some b) = kept_deeper o (K b) (k b)

-- ---- tokens

-- a function that does not know the end of the text
pub knows : {B : Type 0} (f : Piece → Option B) → ((p : Place) → f (AToken (record { kind = AnEnd; place = p })) ≡ None) → Knows f
knows f none LeftOut b e = refl
knows {B} f none (AToken t) b e = at t.kind t.place e
  where
    at : (k : Kind) (p : Place) → f (AToken (record { kind = k; place = p })) ≡ Some b → is_end (AToken (record { kind = k; place = p })) ≡ false
    at (AWord w) p e = refl
    at (ASymbol r) p e = refl
    at (AName n) p e = refl
    at (ANumber n) p e = refl
    at (AText n) p e = refl
    at AnEnd p e = absurd (let g : None ≡ Some b = sym (none p) ∙ e in cc)

pub knows_symbol : (s : Symbol) → Knows (the s)
knows_symbol s = knows (the s) (λ p. refl)

pub knows_word : (w : Word) → Knows (the_word w)
knows_word w = knows (the_word w) (λ p. refl)

pub kept_held : {A B : Type 0} (o : Bool) (f : Piece → Option B) (K : B → List Piece → A → Type 0) (a : A) → Knows (or_left_out f) → ((b : B) → Kept (K b)) → Kept (grammar.Held o f K a)
kept_held o f K a g k = kept_take _ _ g (kept_held_after o K a k)

-- ---- the productions

closing : {A : Type 0} (s : Symbol) (a : A) → Kept (Take (the s) (λ _. Done a))
closing s a = kept_take _ _ (knows_symbol s) (λ _. kept_done a)

brackets : (o : Bool) → Kept (grammar.Brackets o)
brackets o = kept_maybe _ _ _ (knows_symbol symbol.OpenBracket) (λ _. kept_deeper o _ (closing symbol.CloseBracket true))

pub bang_end : Kept grammar.BangEnd
bang_end = kept_maybe _ _ _ (knows_symbol symbol.Bang) (λ _. kept_done true)

pub type_end : (o : Bool) (t : TypeHead) → Kept (grammar.TypeEnd o t)
type_end o t = kept_bind _ _ (brackets o) (λ b. kept_bind _ _ bang_end (λ s. kept_done _))

plain_type : (o : Bool) → Kept (grammar.PlainType o)
plain_type o = kept_take _ _ (knows type_head (λ p. refl)) (λ t. kept_bind _ _ (brackets o) (λ b. kept_done _))

pub any_name : Kept grammar.AnyName
any_name = kept_take _ _ (knows a_name (λ p. refl)) (λ n. kept_done n)

module _ (E : List Piece → ExprTree → Type 0) (e : Kept E) where
  args : Kept (grammar.Args E)
  args = kept_bind _ _ e (λ a. kept_many _ _ _ (knows_symbol symbol.Comma) (λ _. e) _)

  pub args_end : Kept (grammar.ArgsEnd E)
  args_end = kept_choose _ _ _ (closing symbol.Close []) (kept_bind _ _ args (λ es. closing symbol.Close es))

  pub index_end : Kept (grammar.IndexEnd E)
  index_end = kept_bind _ _ e (λ a. closing symbol.CloseBracket a)

  pub paren_end : Kept (grammar.ParenEnd E)
  paren_end = kept_bind _ _ e (λ a. closing symbol.Close a)

module _ (V : Parts) (kv : (i : Part) → Kept (V i)) (o : Bool) where
  postfix_after : (h : PostfixHead) → Kept (grammar.PostfixAfter o V h)
  postfix_after DotHead = kept_bind _ _ any_name (λ n. kept_done _)
  postfix_after IndexHead = kept_deeper o _ (kept_bind _ _ (index_end (V TheExpression) (kv TheExpression)) (λ e. kept_done _))
  postfix_after CallHead = kept_deeper o _ (kept_bind _ _ (args_end (V TheExpression) (kv TheExpression)) (λ es. kept_done _))

  pub postfixes : (p : Place) (a : ExprTree) → Kept (grammar.Postfixes o V p a)
  postfixes p a = kept_many _ _ _ (knows postfix_head (λ p. refl)) postfix_after a

  new_end : (p : Place) (t : TypeHead) (k : NewKind) → Kept (grammar.NewEnd o V p t k)
  new_end p t ArrayKind = kept_bind _ _ (index_end (V TheExpression) (kv TheExpression)) (λ e. kept_done _)
  new_end p t (ObjectKind n) = kept_bind _ _ (args_end (V TheExpression) (kv TheExpression)) (λ es. kept_done _)

  pub new : (p : Place) → Kept (grammar.New o V p)
  new p = kept_take _ _ (knows type_head (λ p. refl)) (λ t. kept_held o (new_head t.name) (grammar.NewEnd o V p t) (BaseOf p) (knows (or_left_out (new_head t.name)) (λ p. refl)) (new_end p t))

  pub old : (p : Place) → Kept (grammar.Old o V p)
  old p = kept_held o (the symbol.Open) (λ _. Bind (grammar.ParenEnd (V TheExpression)) (λ e. Done (OldOf p e))) (BaseOf p) (knows (or_left_out (the symbol.Open)) (λ p. refl)) (λ _. kept_bind _ _ (paren_end (V TheExpression) (kv TheExpression)) (λ e. kept_done (OldOf p e)))

  range_end : Kept (grammar.RangeEnd o V)
  range_end = kept_bind _ _ (kv TheExpression) (λ low. kept_take _ _ (knows_symbol symbol.Colon) (λ _. kept_bind _ _ (paren_end (V TheExpression) (kv TheExpression)) (λ high. kept_done _)))

  range : Kept (grammar.Range o V)
  range = kept_held o (the symbol.Open) (λ _. grammar.RangeEnd o V) (BaseOf no_place, BaseOf no_place) (knows (or_left_out (the symbol.Open)) (λ p. refl)) (λ _. range_end)

  body : Kept (grammar.Body o V)
  body = kept_take _ _ (knows_symbol symbol.Semicolon) (λ _. kept_bind _ _ (kv TheExpression) (λ e. closing symbol.CloseBrace e))

  bound : Kept (grammar.Bound o V)
  bound = kept_take _ _ (knows_word word.Int) (λ _. kept_bind _ _ any_name (λ n. kept_take _ _ (knows_word word.In) (λ _. kept_done n)))

  pub quantified : (p : Place) (q : Quantifier) → Kept (grammar.Quantified o V p q)
  quantified p q = kept_held o (the symbol.OpenBrace) (λ _. Bind (grammar.Bound o V) (λ n. Bind (V TheRange) (λ r. Bind (grammar.Body o V) (λ e. Done (QuantifiedOf p q n r.0 r.1 e))))) (BaseOf p) (knows (or_left_out (the symbol.OpenBrace)) (λ p. refl)) (λ _. kept_bind _ _ bound (λ n. kept_bind _ _ (kv TheRange) (λ r. kept_bind _ _ body (λ e. kept_done (QuantifiedOf p q n r.0 r.1 e)))))

module _ (V : Parts) (kv : (i : Part) → Kept (V i)) where
  cast_end : (p : Place) (t : TypeTree) → Kept (grammar.CastEnd V p t)
  cast_end p t = kept_bind _ _ (kv TheUnary) (λ e. kept_done _)

  cast_only : (p : Place) (t : TypeTree) → Kept (grammar.CastOnly V p t)
  cast_only p t = kept_only castable _ (cast_end p t)

  after_paren : (p : Place) (e : ExprTree) → Kept (grammar.AfterParen V p e)
  after_paren p e = postfixes V kv true p _

  bare_end : (p : Place) (n : NameTree) → Kept (grammar.BareEnd V p n)
  bare_end p n = kept_choose castable _ _ (cast_end p _) (after_paren p _)

  enclosed : (p : Place) (c : Enclosed) → Kept (grammar.Closed V p c)
  enclosed p (AType t) = cast_only p t
  enclosed p (AnExpr e) = after_paren p e

  word_paren : (p : Place) → Kept (grammar.WordParen V p)
  word_paren p = kept_take _ _ (knows type_word (λ p. refl)) (λ w. kept_bind _ _ (kv (TheTypeEnd w)) (λ t. kept_take _ _ (knows_symbol symbol.Close) (λ _. cast_only p t)))

  name_after : (p : Place) (n : NameTree) → Kept (grammar.NameAfter V p n)
  name_after p n = kept_choose _ _ _ (kept_take _ _ (knows_symbol symbol.Close) (λ _. bare_end p n)) (kept_bind _ _ (kv (TheNamed n)) (λ c. kept_take _ _ (knows_symbol symbol.Close) (λ _. enclosed p c)))

  name_paren : (p : Place) → Kept (grammar.NameParen V p)
  name_paren p = kept_take _ _ (knows a_name (λ p. refl)) (name_after p)

  other_paren : (p : Place) → Kept (grammar.OtherParen V p)
  other_paren p = kept_bind _ _ (paren_end (V TheExpression) (kv TheExpression)) (λ e. after_paren p e)

  paren : (p : Place) → Kept (grammar.Paren V p)
  paren p = kept_choose _ _ _ (word_paren p) (kept_choose _ _ _ (name_paren p) (other_paren p))

  negated : (p : Place) → Kept (grammar.Negated V p)
  negated p = kept_choose _ _ _ (kept_take _ _ (knows the_least (λ p. refl)) (λ _. postfixes V kv true p _)) (kept_bind _ _ (kv TheUnary) (λ e. kept_done _))

module _ (V : Parts) (kv : (i : Part) → Kept (V i)) (o : Bool) where
  unary_after : (h : Head) → Kept (grammar.UnaryAfter o V h)
  unary_after (NegateHead p) = kept_deeper o _ (negated V kv p)
  unary_after (NotHead p) = kept_deeper o _ (kept_bind _ _ (kv TheUnary) (λ e. kept_done _))
  unary_after (OpenHead p) = kept_deeper o _ (paren V kv p)
  unary_after (Leaf p v) = postfixes V kv o p v
  unary_after (OldHead p) = kept_bind _ _ (old V kv o p) (λ a. postfixes V kv o p a)
  unary_after (NewHead p) = kept_bind _ _ (new V kv o p) (λ a. postfixes V kv o p a)
  unary_after (QuantifierHead p q) = kept_bind _ _ (quantified V kv o p q) (λ a. postfixes V kv o p a)

  unary : Kept (grammar.Unary o V)
  unary = kept_take _ _ (knows unary_head (λ p. refl)) unary_after

  link_after : (E : List Piece → ExprTree → Type 0) → Kept E → (h : LinkHead) → Kept (grammar.LinkAfter o V E h)
  link_after E e (Operation op) = kept_bind _ _ e (λ b. kept_done _)
  link_after E e IsHead = kept_bind _ _ (plain_type o) (λ t. kept_done _)
  link_after E e AsHead = kept_bind _ _ (plain_type o) (λ t. kept_done _)

  chain : (k : ℕ) (p : Place) (a : ExprTree) → Kept (grammar.Chain o V k p a)
  chain zero p a = kept_done a
  chain (suc k) p a = kept_bind _ _ (chain k p a) (λ b. kept_many _ _ _ (knows (link_head (suc k)) (λ p. refl)) (link_after _ (kept_here _ (λ q. kept_bind _ _ unary (λ c. chain k q c)))) b)

  implication_from : (p : Place) (a : ExprTree) → Kept (grammar.ImplicationFrom o V p a)
  implication_from p a = kept_bind _ _ (chain 6 p a) (λ b. kept_maybe _ _ _ (knows_symbol symbol.Implies) (λ _. kept_deeper o _ (kept_bind _ _ (kv TheImplication) (λ c. kept_done _))))

  implication : Kept (grammar.Implication o V)
  implication = kept_here _ (λ p. kept_bind _ _ unary (λ a. implication_from p a))

  expression_from : (p : Place) (a : ExprTree) → Kept (grammar.ExpressionFrom o V p a)
  expression_from p a = kept_bind _ _ (implication_from p a) (λ b. kept_maybe _ _ _ (knows_symbol symbol.Iff) (λ _. kept_bind _ _ implication (λ c. kept_done _)))

  pub whole_expression : Kept (grammar.WholeExpression o V)
  whole_expression = kept_here _ (λ p. kept_bind _ _ unary (λ a. expression_from p a))

  rest_of : (p : Place) (a : ExprTree) → Kept (grammar.RestOf o V p a)
  rest_of p a = kept_bind _ _ (postfixes V kv o p a) (λ b. expression_from p b)

  element_or_array : (n : NameTree) → Kept (grammar.ElementOrArray o V n)
  element_or_array n = kept_choose _ _ _ (kept_take _ _ (knows_symbol symbol.CloseBracket) (λ _. kept_bind _ _ bang_end (λ s. kept_done _))) (kept_bind _ _ (index_end (V TheExpression) (kv TheExpression)) (λ i. kept_bind _ _ (rest_of n.place _) (λ e. kept_done _)))

  named_after : (n : NameTree) (h : NamedHead) → Kept (grammar.NamedAfter o V n h)
  named_after n BangAfter = kept_done _
  named_after n BracketAfter = kept_deeper o _ (element_or_array n)

  named_part : (n : NameTree) → Kept (grammar.Named o V n)
  named_part n = kept_choose _ _ _ (kept_take _ _ (knows named_head (λ p. refl)) (named_after n)) (kept_bind _ _ (rest_of n.place _) (λ e. kept_done _))

  production : (i : Part) → Kept (grammar.Production o V i)
  production TheUnary = unary
  production TheImplication = implication
  production TheExpression = whole_expression
  production (TheTypeEnd t) = type_end o t
  production (TheNamed n) = named_part n
  production TheRange = range V kv o

pub no_parts : (i : Part) → Kept (NoParts i)
no_parts i ts v p = absurd p

pub at_level : (d : ℕ) (i : Part) → Kept (grammar.AtLevel d i)
at_level zero i = production NoParts no_parts false i
at_level (suc d) i = production (grammar.AtLevel d) (at_level d) true i
