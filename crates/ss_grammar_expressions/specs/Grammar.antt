-- The grammar of expressions. Each line in quotes is the production that the definition below it states.
--
-- Levels: a level of nesting is open from each `{`, `(` and `[` to its partner, from each prefix `!`, `-` and cast to the
-- end of its operand, and from each `==>` to the end of its right side. Expression d has what is nested at most d deep.
-- A production speaks of the expressions of its own level and, as V, of those one level deeper. `o` says whether a level
-- may still be opened.
use Rattle.std.specs.Prelude.{ℕ, zero, suc, Bool, true, false, List, [], ◌∷◌, ◌++◌, Option, Some, None, negsuc}
use Rattle.ss_core.specs.declared.names.Place.{Place}
use Rattle.ss_ast.specs.declared.token.Word.TheVariants as word
use Rattle.ss_ast.specs.declared.token.Symbol.TheVariants as symbol
use Rattle.ss_core.specs.declared.expr.Quantifier.{Quantifier}
use Rattle.ss_ast.specs.Expressions.{NameTree, ClassType, TypeTree, ExprTree, IffOf, ImpliesOf, BinaryOf, IsOf, AsOf, NegateOf, NotOf, CastOf, MemberOf, ElementOf, CallOf, BaseOf, NumberOf, NameOf, ParenOf, OldOf, NewOf, NewArrayOf, QuantifiedOf, Behind, arguments}
use Rattle.ss_grammar.specs.Language.{Done, Take, Maybe, Bind, Many}
use Rattle.ss_grammar_expressions.specs.First.{Nothing, Choose, Only, Here}
use Rattle.ss_grammar_expressions.specs.Heads.{Piece, place_at, or_left_out, is, the, the_word, a_name, the_least, TypeHead, type_word, type_head, LinkHead, Operation, IsHead, AsHead, link_head, PostfixHead, DotHead, IndexHead, CallHead, postfix_head, Head, NegateHead, NotHead, OpenHead, Leaf, OldHead, NewHead, QuantifierHead, unary_head, castable, NamedHead, BangAfter, BracketAfter, named_head, NewKind, ArrayKind, ObjectKind, new_head}

-- ---- parts of expressions that stand one level deeper, and what each is read as

pub data Part : Type 0 where
  TheUnary : Part
  -- the right side of a `==>`
  TheImplication : Part
  TheExpression : Part
  -- what is after `(` and a type's word
  TheTypeEnd : TypeHead → Part
  -- what is after `(` and a name
  TheNamed : NameTree → Part
  -- the bounds of a quantifier
  TheRange : Part

-- between two parentheses a type or an expression
pub data Enclosed : Type 0 where
  AType : TypeTree → Enclosed
  AnExpr : ExprTree → Enclosed

abbrev pub Value : Part → Type 0
Value TheUnary = ExprTree
Value TheImplication = ExprTree
Value TheExpression = ExprTree
Value (TheTypeEnd t) = TypeTree
Value (TheNamed n) = Enclosed
Value TheRange = ExprTree × ExprTree

abbrev pub Parts : Type 1
Parts = (i : Part) → List Piece → Value i → Type 0

-- one level deeper, where one may be opened
abbrev pub Deeper : {A : Type 0} → Bool → (List Piece → A → Type 0) → List Piece → A → Type 0
Deeper false L = Nothing
Deeper true L = L

-- after a token that must come and opens a level, or a part left out, which is read as a
abbrev pub HeldAfter : {A B : Type 0} → Bool → (B → List Piece → A → Type 0) → A → Option B → List Piece → A → Type 0
HeldAfter o K a None = Done a
HeldAfter o K a (Some b) = Deeper o (K b)

abbrev pub Held : {A B : Type 0} → Bool → (Piece → Option B) → (B → List Piece → A → Type 0) → A → List Piece → A → Type 0
Held o f K a = Take (or_left_out f) (HeldAfter o K a)

-- ---- types and arguments

-- [ "[" "]" ]
abbrev pub Brackets : Bool → List Piece → Bool → Type 0
Brackets o = Maybe (the symbol.OpenBracket) (λ _. Deeper o (Take (the symbol.CloseBracket) (λ _. Done true))) false

-- [ "!" ]
abbrev pub BangEnd : List Piece → Bool → Type 0
BangEnd = Maybe (the symbol.Bang) (λ _. Done true) false

abbrev pub type_of : TypeHead → Bool → Bool → TypeTree
type_of t b s = record { place = t.place; name = t.name; is_array = b; non_null = s }

-- what stands after the word or name that a type begins with: [ "[" "]" ] [ "!" ]
abbrev pub TypeEnd : Bool → TypeHead → List Piece → TypeTree → Type 0
TypeEnd o t = Bind (Brackets o) (λ b. Bind BangEnd (λ s. Done (type_of t b s)))

-- a type after `is` and `as`, where a `!` isn't read
abbrev pub PlainType : Bool → List Piece → TypeTree → Type 0
PlainType o = Take type_head (λ t. Bind (Brackets o) (λ b. Done (type_of t b false)))

abbrev pub AnyName : List Piece → NameTree → Type 0
AnyName = Take a_name Done

abbrev pub join_argument : List ExprTree → Place → ExprTree → List ExprTree
join_argument es _ e = es ++ e ∷ []

-- Args = E { "," E }
abbrev pub Args : (List Piece → ExprTree → Type 0) → List Piece → List ExprTree → Type 0
Args E = Bind E (λ e. Many (the symbol.Comma) (λ _. E) join_argument (e ∷ []))

-- [ Args ] ")"
abbrev pub ArgsEnd : (List Piece → ExprTree → Type 0) → List Piece → List ExprTree → Type 0
ArgsEnd E = Choose (is (the symbol.Close)) (Take (the symbol.Close) (λ _. Done [])) (Bind (Args E) (λ es. Take (the symbol.Close) (λ _. Done es)))

-- E "]" and E ")"
abbrev pub IndexEnd : (List Piece → ExprTree → Type 0) → List Piece → ExprTree → Type 0
IndexEnd E = Bind E (λ e. Take (the symbol.CloseBracket) (λ _. Done e))

abbrev pub ParenEnd : (List Piece → ExprTree → Type 0) → List Piece → ExprTree → Type 0
ParenEnd E = Bind E (λ e. Take (the symbol.Close) (λ _. Done e))

-- a name as the beginning of a type, and as an expression
abbrev pub head_of : NameTree → TypeHead
head_of n = record { place = n.place; name = ClassType n.text }

abbrev pub named : NameTree → ExprTree
named n = NameOf n.place n.text

abbrev pub no_place : Place
no_place = record { line = 1; column = 1 }

-- what is read after a part that begins at p is joined to it
abbrev pub joined : {H : Type 0} → Place → ExprTree → H → Behind → ExprTree
joined p a _ b = b p a

module _ (o : Bool) (V : Parts) where
  -- ---- paths: Post = Prim { "." Name | "[" Expr "]" | "(" [ Args ] ")" }

  abbrev pub PostfixAfter : PostfixHead → List Piece → Behind → Type 0
  PostfixAfter DotHead = Bind AnyName (λ n. Done (λ p a. MemberOf p a n))
  PostfixAfter IndexHead = Deeper o (Bind (IndexEnd (V TheExpression)) (λ e. Done (λ p a. ElementOf p a e)))
  PostfixAfter CallHead = Deeper o (Bind (ArgsEnd (V TheExpression)) (λ es. Done (λ p a. CallOf p a (arguments es))))

  -- what stands after the beginning a of a path
  abbrev pub Postfixes : Place → ExprTree → List Piece → ExprTree → Type 0
  Postfixes p a = Many postfix_head PostfixAfter (joined p) a

  -- what is after `new`: Name "(" [ Args ] ")" | ElemType "[" Expr "]"
  abbrev pub NewEnd : Place → TypeHead → NewKind → List Piece → ExprTree → Type 0
  NewEnd p t ArrayKind = Bind (IndexEnd (V TheExpression)) (λ e. Done (NewArrayOf p t.place t.name e))
  NewEnd p t (ObjectKind n) = Bind (ArgsEnd (V TheExpression)) (λ es. Done (NewOf p (record { text = n; place = t.place }) (arguments es)))

  abbrev pub New : Place → List Piece → ExprTree → Type 0
  New p = Take type_head (λ t. Held o (new_head t.name) (NewEnd p t) (BaseOf p))

  -- what is after `old`: "(" Expr ")"
  abbrev pub Old : Place → List Piece → ExprTree → Type 0
  Old p = Held o (the symbol.Open) (λ _. Bind (ParenEnd (V TheExpression)) (λ e. Done (OldOf p e))) (BaseOf p)

  -- Expr ":" Expr ")"
  abbrev pub RangeEnd : List Piece → ExprTree × ExprTree → Type 0
  RangeEnd = Bind (V TheExpression) (λ low. Take (the symbol.Colon) (λ _. Bind (ParenEnd (V TheExpression)) (λ high. Done (low, high))))

  abbrev pub Range : List Piece → ExprTree × ExprTree → Type 0
  Range = Held o (the symbol.Open) (λ _. RangeEnd) (BaseOf no_place, BaseOf no_place)

  -- ";" Expr "}"
  abbrev pub Body : List Piece → ExprTree → Type 0
  Body = Take (the symbol.Semicolon) (λ _. Bind (V TheExpression) (λ e. Take (the symbol.CloseBrace) (λ _. Done e)))

  -- "int" Name "in"
  abbrev pub Bound : List Piece → NameTree → Type 0
  Bound = Take (the_word word.Int) (λ _. Bind AnyName (λ n. Take (the_word word.In) (λ _. Done n)))

  -- what is after `forall` and `exists`: "{" "int" Name "in" "(" Expr ":" Expr ")" ";" Expr "}"
  abbrev pub Quantified : Place → Quantifier → List Piece → ExprTree → Type 0
  Quantified p q = Held o (the symbol.OpenBrace) (λ _. Bind Bound (λ n. Bind (V TheRange) (λ r. Bind Body (λ e. Done (QuantifiedOf p q n r.0 r.1 e))))) (BaseOf p)

module _ (V : Parts) where
  -- ---- casts and parentheses

  -- the operand of a cast to t, whose `(` is at p
  abbrev pub CastEnd : Place → TypeTree → List Piece → ExprTree → Type 0
  CastEnd p t = Bind (V TheUnary) (λ e. Done (CastOf p t e))

  abbrev pub CastOnly : Place → TypeTree → List Piece → ExprTree → Type 0
  CastOnly p t = Only castable (CastEnd p t)

  abbrev pub AfterParen : Place → ExprTree → List Piece → ExprTree → Type 0
  AfterParen p e = Postfixes true V p (ParenOf p e)

  -- after `( Name )`, which is a cast where the next token may begin the operand of one
  abbrev pub BareEnd : Place → NameTree → List Piece → ExprTree → Type 0
  BareEnd p n = Choose castable (CastEnd p (type_of (head_of n) false false)) (AfterParen p (named n))

  abbrev pub Closed : Place → Enclosed → List Piece → ExprTree → Type 0
  Closed p (AType t) = CastOnly p t
  Closed p (AnExpr e) = AfterParen p e

  -- after `(`: a type's word
  abbrev pub WordParen : Place → List Piece → ExprTree → Type 0
  WordParen p = Take type_word (λ w. Bind (V (TheTypeEnd w)) (λ t. Take (the symbol.Close) (λ _. CastOnly p t)))

  -- a name
  abbrev pub NameAfter : Place → NameTree → List Piece → ExprTree → Type 0
  NameAfter p n = Choose (is (the symbol.Close)) (Take (the symbol.Close) (λ _. BareEnd p n)) (Bind (V (TheNamed n)) (λ c. Take (the symbol.Close) (λ _. Closed p c)))

  abbrev pub NameParen : Place → List Piece → ExprTree → Type 0
  NameParen p = Take a_name (NameAfter p)

  -- anything else
  abbrev pub OtherParen : Place → List Piece → ExprTree → Type 0
  OtherParen p = Bind (ParenEnd (V TheExpression)) (λ e. AfterParen p e)

  -- "(" Type ")" Unary | "(" Expr ")"
  abbrev pub Paren : Place → List Piece → ExprTree → Type 0
  Paren p = Choose (is type_word) (WordParen p) (Choose (is a_name) (NameParen p) (OtherParen p))

  -- "-" Unary, where `-` and the least number are one literal
  abbrev pub Negated : Place → List Piece → ExprTree → Type 0
  Negated p = Choose (is the_least) (Take the_least (λ _. Postfixes true V p (NumberOf p (negsuc 2147483647)))) (Bind (V TheUnary) (λ e. Done (NegateOf p e)))

module _ (o : Bool) (V : Parts) where
  -- what stands after the first token of a unary expression
  abbrev pub UnaryAfter : Head → List Piece → ExprTree → Type 0
  UnaryAfter (NegateHead p) = Deeper o (Negated V p)
  UnaryAfter (NotHead p) = Deeper o (Bind (V TheUnary) (λ e. Done (NotOf p e)))
  UnaryAfter (OpenHead p) = Deeper o (Paren V p)
  UnaryAfter (Leaf p v) = Postfixes o V p v
  UnaryAfter (OldHead p) = Bind (Old o V p) (Postfixes o V p)
  UnaryAfter (NewHead p) = Bind (New o V p) (Postfixes o V p)
  UnaryAfter (QuantifierHead p q) = Bind (Quantified o V p q) (Postfixes o V p)

  -- Unary = ( "-" | "!" ) Unary | "(" Type ")" Unary | Post
  abbrev pub Unary : List Piece → ExprTree → Type 0
  Unary = Take unary_head UnaryAfter

  -- ---- operators

  -- one operator and what is after it, where E is an operand
  abbrev pub LinkAfter : (List Piece → ExprTree → Type 0) → LinkHead → List Piece → Behind → Type 0
  LinkAfter E (Operation op) = Bind E (λ e. Done (λ p a. BinaryOf p op a e))
  LinkAfter E IsHead = Bind (PlainType o) (λ t. Done (λ p a. IsOf p a t))
  LinkAfter E AsHead = Bind (PlainType o) (λ t. Done (λ p a. AsOf p a t))

  -- what stands after the first unary expression, a, of operations up to rank k:
  -- Mul = Unary { ( "*" | "/" | "%" ) Unary }              of rank 1
  -- Add = Mul { ( "+" | "-" ) Mul }                        of rank 2
  -- Rel = Add { ( "<" | "<=" | ">" | ">=" ) Add | ( "is" | "as" ) Type }    of rank 3
  -- Eq = Rel { ( "==" | "!=" ) Rel }                       of rank 4
  -- And = Eq { "&&" Eq }                                   of rank 5
  -- Or = And { "||" And }                                  of rank 6
  abbrev pub Chain : ℕ → Place → ExprTree → List Piece → ExprTree → Type 0
  Chain zero p a = Done a
  Chain (suc k) p a = Bind (Chain k p a) (Many (link_head (suc k)) (LinkAfter (Here place_at (λ q. Bind Unary (Chain k q)))) (joined p))

  -- Imp = Or [ "==>" Imp ], from its first unary expression on
  abbrev pub ImplicationFrom : Place → ExprTree → List Piece → ExprTree → Type 0
  ImplicationFrom p a = Bind (Chain 6 p a) (λ b. Maybe (the symbol.Implies) (λ _. Deeper o (Bind (V TheImplication) (λ c. Done (ImpliesOf p b c)))) b)

  abbrev pub Implication : List Piece → ExprTree → Type 0
  Implication = Here place_at (λ p. Bind Unary (ImplicationFrom p))

  -- Expr = Imp [ "<==>" Imp ]
  abbrev pub ExpressionFrom : Place → ExprTree → List Piece → ExprTree → Type 0
  ExpressionFrom p a = Bind (ImplicationFrom p a) (λ b. Maybe (the symbol.Iff) (λ _. Bind Implication (λ c. Done (IffOf p b c))) b)

  abbrev pub WholeExpression : List Piece → ExprTree → Type 0
  WholeExpression = Here place_at (λ p. Bind Unary (ExpressionFrom p))

  -- ---- after `(` and a name: the rest of a type or of an expression

  abbrev pub RestOf : Place → ExprTree → List Piece → ExprTree → Type 0
  RestOf p a = Bind (Postfixes o V p a) (ExpressionFrom p)

  -- after `(` Name `[`
  abbrev pub ElementOrArray : NameTree → List Piece → Enclosed → Type 0
  ElementOrArray n = Choose (is (the symbol.CloseBracket))
      (Take (the symbol.CloseBracket) (λ _. Bind BangEnd (λ s. Done (AType (type_of (head_of n) true s)))))
      (Bind (IndexEnd (V TheExpression)) (λ i. Bind (RestOf n.place (ElementOf n.place (named n) i)) (λ e. Done (AnExpr e))))

  abbrev pub NamedAfter : NameTree → NamedHead → List Piece → Enclosed → Type 0
  NamedAfter n BangAfter = Done (AType (type_of (head_of n) false true))
  NamedAfter n BracketAfter = Deeper o (ElementOrArray n)

  abbrev pub Named : NameTree → List Piece → Enclosed → Type 0
  Named n = Choose (is named_head) (Take named_head (NamedAfter n)) (Bind (RestOf n.place (named n)) (λ e. Done (AnExpr e)))

  -- ---- all parts

  abbrev pub Production : (i : Part) → List Piece → Value i → Type 0
  Production TheUnary = Unary
  Production TheImplication = Implication
  Production TheExpression = WholeExpression
  Production (TheTypeEnd t) = TypeEnd o t
  Production (TheNamed n) = Named n
  Production TheRange = Range o V

abbrev pub NoParts : (i : Part) → List Piece → Value i → Type 0
NoParts i ts v = ⊥

-- the parts that nest at most so deep
abbrev pub AtLevel : ℕ → (i : Part) → List Piece → Value i → Type 0
AtLevel zero = Production false NoParts
AtLevel (suc d) = Production true (AtLevel d)

-- an expression that nests at most d deep
abbrev pub Expression : ℕ → List Piece → ExprTree → Type 0
Expression d = AtLevel d TheExpression
