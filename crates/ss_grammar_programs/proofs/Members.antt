-- Reading members finds what the grammar says.
use Rattle.std.proofs.Common.{◌≡◌, ℕ, suc, List, [], ◌∷◌, ◌++◌, Option, Some, None, Ok, Bool, true, false, refl, sym, ap, subst}
use Rattle.std.proofs.lemmas.List.{append-nil}
use Rattle.ss_core.specs.declared.names.Place.{Place}
use Rattle.ss_ast.specs.declared.token.Word.{Word}
use Rattle.ss_ast.specs.declared.token.Word.TheVariants as word
use Rattle.ss_ast.specs.declared.token.Symbol.{Symbol}
use Rattle.ss_ast.specs.declared.token.Symbol.TheVariants as symbol
use Rattle.ss_ast.specs.declared.class.Modifier.{Modifier}
use Rattle.ss_ast.specs.Tokens.{Kind, AWord, ASymbol, AName, ANumber, AText, AnEnd}
use Rattle.ss_ast.specs.Expressions.{NameTree, TypeTree}
use Rattle.ss_ast.specs.Programs.{MemberKindTree, FieldsOf, InvariantOf, MethodOf, ConstructorOf}
use Rattle.ss_grammar.specs.Language.{Done, After, Take, Bind, Starts}
use Rattle.ss_grammar.specs.Reading.{◌>>=◌, take}
use Rattle.ss_grammar_expressions.specs.First.{Choose, Chosen}
use Rattle.ss_grammar_expressions.specs.Heads.{Piece, AToken, LeftOut, is, found, the, the_word, TypeHead}
use Rattle.ss_grammar_expressions.specs.Grammar.{Expression, AnyName, ArgsEnd, type_of, head_of}
use Rattle.ss_grammar_expressions.specs.Parser.{give, below, type_end, name_at, args_end}
use Rattle.ss_grammar_expressions.proofs.First.{Alive, to_choose}
use Rattle.ss_grammar_expressions.proofs.Sets.{code, In, subset_in, PartOf, larger, token, seq, done}
use Rattle.ss_grammar_expressions.proofs.Levels.{the_in, of, symbol, word_then}
use Rattle.ss_grammar_expressions.proofs.Pieces.{unary_first}
use Rattle.ss_grammar_expressions.proofs.Expressions.{name_to, args_end_to}
use Rattle.ss_grammar_expressions.proofs.Unaries.{type_set}
use Rattle.ss_grammar_statements.specs.Grammar.{declared, Ended, DeclsFrom, Block}
use Rattle.ss_grammar_statements.specs.Parser.{ended, decls_from, block}
use Rattle.ss_grammar_statements.proofs.Pieces.{decls_goes}
use Rattle.ss_grammar_statements.proofs.Parts.{perhaps}
use Rattle.ss_grammar_statements.proofs.Tied.{block_to}
use Rattle.ss_grammar_programs.specs.Again.{Again}
use Rattle.ss_grammar_programs.specs.Heads.{member_word, MemberHead, InvariantFirst, VoidFirst, WordFirst, NameFirst, member_head, begins_member, begins_kind, type_follows, fields_follow}
use Rattle.ss_grammar_programs.specs.Grammar.{AtDepth, push, Opening, attribute_at, Attributes, TypeFrom, Parameters, Clauses, Specified, Fields, Method, base_call, BaseEnd, BaseCall, Constructor, FieldsOrMethod, Typed, KindAfter, MemberKind, join_word, Words, Member}
use Rattle.ss_grammar_programs.specs.Parser.{expression, inner_expression, attributes, parameters, clauses, specified, fields, method, base_end, base_after, base, constructor, fields_or_method, typed, void_method, name_first, kind_after, member_kind, words, member, members}
use Rattle.ss_grammar_programs.proofs.Again.{repeated}
use Rattle.ss_grammar_programs.proofs.Pieces.{words_set, kinds_set, members_set, clauses_set, word_in, kind_in, member_in, type_follows_in, fields_follow_in}
use Rattle.ss_grammar_programs.proofs.Opening.{made, opening_to, inner_to, type_ends_to, declarators_to}
use Rattle.ss_grammar_programs.proofs.Parameters.{attributes_to, parameters_to}
use Rattle.ss_grammar_programs.proofs.Clauses.{a_name_piece, an_empty_name, conditions_to, clauses_to}

-- ---- words

word_to : (n : ℕ) → PartOf n (λ d. Take member_word Done) words_set [] false (λ d. take member_word give)
word_to n = token n member_word words_set word_in (λ m d. Done m) [] [] true (λ m d. give m) (λ m. done n m) (of (AWord word.Public)) None refl

word_alive : (t : Piece) → is member_word t ≡ true → Alive (λ d. Take member_word Done) t
word_alive t h = at (member_word t) refl h
  where
    at : (o : Option (Option Modifier)) → member_word t ≡ o → found o ≡ true → Alive (λ d. Take member_word Done) t
    at None e k = absurd cc
    at (Some m) e k = (0, record { more = []; value = m; reads = subst (λ (o : Option (Option Modifier)). After {T = Piece} {A = Option Modifier} o (Done {T = Piece} {A = Option Modifier}) [] m) (sym e) (refl, refl) })

words_to : (n : ℕ) → PartOf n (λ d. Words) words_set words_set true (λ d. words)
unfolding words
words_to n = repeated n (λ _. is member_word) join_word words_set (λ _. word_in) (λ d. Take member_word Done) words_set [] (λ d. take member_word give) (word_to n) refl (λ lt _ t h. word_alive t h) []

-- one word by itself
one_word : (t : Piece) (m : Option Modifier) → member_word t ≡ Some m → Words (t ∷ []) (join_word [] m)
one_word t m e = (1, subst (λ (b : Bool). Chosen b (Bind (Take member_word Done) (λ r. Done (join_word [] r))) (Done []) (t ∷ []) (join_word [] m)) (sym (ap found e)) (record { first = m; front = t ∷ []; back = []; parts = refl; reads = subst (λ (o : Option (Option Modifier)). After {T = Piece} {A = Option Modifier} o (Done {T = Piece} {A = Option Modifier}) [] m) (sym e) (refl, refl); goes_on = (refl, refl) }))

-- ---- fields

fields_to : (n : ℕ) (t : TypeTree) (x : NameTree) → PartOf (suc n) (λ d. Fields d t x) (23 ∷ 21 ∷ 19 ∷ []) [] false (λ d. fields d t x)
unfolding fields ended
fields_to n t x = made (suc n) (λ d. Ended (AtDepth (λ o V. DeclsFrom o V x) d)) (23 ∷ 21 ∷ 19 ∷ []) [] (λ d. ended (decls_from d (below d) x)) (λ cs. FieldsOf (record { ty = t; declarators = cs }))
    (seq (suc n) true false (AtDepth (λ o V. DeclsFrom o V x)) (λ cs d. Take (the symbol.Semicolon) (λ _. Done cs)) (23 ∷ 21 ∷ []) decls_goes (19 ∷ []) [] (λ d. decls_from d (below d) x) (λ cs d. take (the symbol.Semicolon) (λ _. give cs)) (declarators_to n x)
    (λ cs. symbol (suc n) symbol.Semicolon (λ _ d. Done cs) [] [] true (λ _ d. give cs) refl (λ _. done (suc n) cs)) refl)

-- `;` alone
no_more : (t : TypeTree) (x : NameTree) → Fields 0 t x (of (ASymbol symbol.Semicolon) ∷ []) (FieldsOf (record { ty = t; declarators = declared x None ∷ [] }))
no_more t x = record {
  first = declared x None ∷ [];
  front = of (ASymbol symbol.Semicolon) ∷ [];
  back = [];
  parts = refl;
  reads = record {
    first = declared x None ∷ [];
    front = [];
    back = of (ASymbol symbol.Semicolon) ∷ [];
    parts = refl;
    reads = record { first = declared x None; front = []; back = []; parts = refl; reads = refl; goes_on = (0, (refl, refl)) };
    goes_on = (refl, refl);
  };
  goes_on = (refl, refl);
}

-- ---- members with a block

specified_to : (n : ℕ) → PartOf (suc n) Specified (clauses_set ++ 36 ∷ 13 ∷ []) [] false specified
unfolding specified
specified_to n = seq (suc n) true false Clauses (λ cs d. Bind (Block d) (λ b. Done (cs, b))) clauses_set clauses_set (36 ∷ 13 ∷ []) [] clauses (λ cs d ts. block d ts >>= λ b. Ok ((cs, b.0), b.1)) (clauses_to n)
    (λ cs. made (suc n) Block (36 ∷ 13 ∷ []) [] block (λ b. (cs, b)) (block_to (suc n))) refl

method_to : (n : ℕ) (t : Option TypeTree) (x : NameTree) → PartOf (suc n) (λ d. Method d t x) (36 ∷ 15 ∷ []) [] false (λ d. method d t x)
unfolding method
method_to n t x = seq (suc n) false false Parameters (λ ps d. Bind (Specified d) (λ c. Done (MethodOf t x ps c.0 c.1))) (36 ∷ 15 ∷ []) [] (clauses_set ++ 36 ∷ 13 ∷ []) [] parameters (λ ps d ts. specified d ts >>= λ c. Ok (MethodOf t x ps c.0.0 c.0.1, c.1)) (parameters_to n)
    (λ ps. made (suc n) Specified (clauses_set ++ 36 ∷ 13 ∷ []) [] specified (λ c. MethodOf t x ps c.0 c.1) (specified_to n)) refl

base_end_to : (n : ℕ) (p : Place) → PartOf n (BaseEnd p) (16 ∷ unary_first) [] false (λ d. base_end p (suc d))
unfolding base_end
base_end_to n p = made n (λ d. ArgsEnd (Expression d)) (16 ∷ unary_first) [] (λ d. args_end (inner_expression (suc d))) (λ es. base_call p es) (args_end_to n Expression (λ d. inner_expression (suc d)) (inner_to n))

base_after_to : (n : ℕ) (p : Place) → PartOf (suc n) (Opening (the symbol.Open) (λ _. BaseEnd p) (base_call p [])) (36 ∷ 15 ∷ []) [] false (λ d. base_after d p)
unfolding base_after
base_after_to n p = opening_to n (the symbol.Open) (15 ∷ []) (the_in symbol.Open) (λ _. BaseEnd p) (λ _ d. base_end p (suc d)) (base_call p []) (16 ∷ unary_first) false (λ _. base_end_to n p) (λ d _. base_end p d) (λ d _ ts. refl)

base_to : (n : ℕ) → PartOf (suc n) BaseCall (20 ∷ []) (20 ∷ []) true base
unfolding base
base_to n = perhaps (suc n) (the symbol.Colon) (20 ∷ []) (the_in symbol.Colon) (λ _ d. Take (the_word word.Base) (λ p. Opening (the symbol.Open) (λ _. BaseEnd p) (base_call p []) d)) (54 ∷ []) [] false (λ _ d. take (the_word word.Base) (base_after d))
    (λ _. word_then (suc n) word.Base (λ p. Opening (the symbol.Open) (λ _. BaseEnd p) (base_call p [])) (36 ∷ 15 ∷ []) [] false (λ p d. base_after d p) refl (base_after_to n)) None

constructor_to : (n : ℕ) (x : NameTree) → PartOf (suc n) (λ d. Constructor d x) (36 ∷ 15 ∷ []) [] false (λ d. constructor d x)
unfolding constructor
constructor_to n x = seq (suc n) false false Parameters (λ ps d. Bind (BaseCall d) (λ b. Bind (Specified d) (λ c. Done (ConstructorOf x ps b c.0 c.1)))) (36 ∷ 15 ∷ []) [] (20 ∷ clauses_set ++ 36 ∷ 13 ∷ []) [] parameters (λ ps d ts. base d ts >>= λ b. specified d b.1 >>= λ c. Ok (ConstructorOf x ps b.0 c.0.0 c.0.1, c.1)) (parameters_to n)
    (λ ps. seq (suc n) true false BaseCall (λ b d. Bind (Specified d) (λ c. Done (ConstructorOf x ps b c.0 c.1))) (20 ∷ []) (20 ∷ []) (clauses_set ++ 36 ∷ 13 ∷ []) [] base (λ b d ts. specified d ts >>= λ c. Ok (ConstructorOf x ps b c.0.0 c.0.1, c.1)) (base_to n)
    (λ b. made (suc n) Specified (clauses_set ++ 36 ∷ 13 ∷ []) [] specified (λ c. ConstructorOf x ps b c.0 c.1) (specified_to n)) refl) refl

-- ---- told apart

abbrev behind_first : List ℕ
behind_first = 23 ∷ 21 ∷ 19 ∷ 36 ∷ 15 ∷ []

fields_or_method_to : (n : ℕ) (t : TypeTree) (x : NameTree) → PartOf (suc n) (λ d. FieldsOrMethod d t x) behind_first [] false (λ d. fields_or_method d t x)
unfolding fields_or_method
fields_or_method_to n t x = to_choose (suc n) fields_follow (λ d. Fields d t x) (λ d. Method d (Some t) x) (In behind_first) (In []) false (λ d. fields d t x) (λ d. method d (Some t) x) (In (23 ∷ 21 ∷ 19 ∷ [])) (fields_to n t x)
    (λ u h. subset_in (code u) (23 ∷ 21 ∷ 19 ∷ []) behind_first refl (fields_follow_in u h))
    (larger (suc n) (λ d. Method d (Some t) x) (36 ∷ 15 ∷ []) [] behind_first [] false (λ d. method d (Some t) x) refl refl (method_to n (Some t) x))
    (λ h. absurd cc) (λ h. absurd cc) (of (ASymbol symbol.Semicolon), [], FieldsOf (record { ty = t; declarators = declared x None ∷ [] }), refl, no_more t x)

abbrev typed_first : List ℕ
typed_first = type_set ++ 32 ∷ []

typed_to : (n : ℕ) (t : TypeHead) → PartOf (suc n) (λ d. Typed d t) typed_first [] false (λ d. typed d t)
unfolding typed
typed_to n t = seq (suc n) true false (λ d. TypeFrom d t) (λ y d. Bind AnyName (FieldsOrMethod d y)) type_set type_set (32 ∷ []) [] (λ d. type_end d t) (λ y d ts. name_at ts >>= λ x. fields_or_method d y x.0 x.1) (type_ends_to (suc n) t)
    (λ y. seq (suc n) false false (λ d. AnyName) (λ x d. FieldsOrMethod d y x) (32 ∷ []) [] behind_first [] (λ d. name_at) (λ x d. fields_or_method d y x) (name_to (suc n)) (fields_or_method_to n y) refl) refl

-- a name and `;` after the first token of a type
one_field : (t : TypeHead) → Typed 0 t (a_name_piece ∷ of (ASymbol symbol.Semicolon) ∷ []) (FieldsOf (record { ty = type_of t false false; declarators = declared an_empty_name None ∷ [] }))
one_field t = record {
  first = type_of t false false;
  front = [];
  back = a_name_piece ∷ of (ASymbol symbol.Semicolon) ∷ [];
  parts = refl;
  reads = record { first = false; front = []; back = []; parts = refl; reads = refl; goes_on = record { first = false; front = []; back = []; parts = refl; reads = refl; goes_on = (refl, refl) } };
  goes_on = record { first = an_empty_name; front = a_name_piece ∷ []; back = of (ASymbol symbol.Semicolon) ∷ []; parts = refl; reads = (refl, refl); goes_on = no_more (type_of t false false) an_empty_name };
}

abbrev named_first : List ℕ
named_first = 36 ∷ 15 ∷ typed_first

name_first_to : (n : ℕ) (x : NameTree) → PartOf (suc n) (λ d. Choose type_follows (Typed d (head_of x)) (Constructor d x)) named_first [] false (λ d. name_first d x)
unfolding name_first
name_first_to n x = to_choose (suc n) type_follows (λ d. Typed d (head_of x)) (λ d. Constructor d x) (In named_first) (In []) false (λ d. typed d (head_of x)) (λ d. constructor d x) (In typed_first) (typed_to n (head_of x))
    (λ u h. subset_in (code u) (17 ∷ 31 ∷ 32 ∷ []) named_first refl (type_follows_in u h))
    (larger (suc n) (λ d. Constructor d x) (36 ∷ 15 ∷ []) [] named_first [] false (λ d. constructor d x) refl refl (constructor_to n x))
    (λ h. absurd cc) (λ h. absurd cc) (a_name_piece, of (ASymbol symbol.Semicolon) ∷ [], FieldsOf (record { ty = type_of (head_of x) false false; declarators = declared an_empty_name None ∷ [] }), refl, one_field (head_of x))

abbrev kind_first : List ℕ
kind_first = unary_first ++ named_first

kind_after_to : (n : ℕ) (h : MemberHead) → PartOf (suc n) (λ d. KindAfter d h) kind_first [] false (λ d. kind_after d h)
unfolding kind_after void_method
kind_after_to n InvariantFirst = larger (suc n) (λ d. KindAfter d InvariantFirst) unary_first [] kind_first [] false (λ d. kind_after d InvariantFirst) refl refl (made (suc n) (λ d. Ended (Expression d)) unary_first [] (λ d. ended (expression d)) InvariantOf (conditions_to (suc n)))
kind_after_to n VoidFirst = larger (suc n) (λ d. KindAfter d VoidFirst) (32 ∷ []) [] kind_first [] false (λ d. kind_after d VoidFirst) refl refl
    (seq (suc n) false false (λ d. AnyName) (λ x d. Method d None x) (32 ∷ []) [] (36 ∷ 15 ∷ []) [] (λ d. name_at) (λ x d. method d None x) (name_to (suc n)) (method_to n None) refl)
kind_after_to n (WordFirst t) = larger (suc n) (λ d. KindAfter d (WordFirst t)) typed_first [] kind_first [] false (λ d. kind_after d (WordFirst t)) refl refl (typed_to n t)
kind_after_to n (NameFirst x) = larger (suc n) (λ d. KindAfter d (NameFirst x)) named_first [] kind_first [] false (λ d. kind_after d (NameFirst x)) refl refl (name_first_to n x)

kind_to : (n : ℕ) → PartOf (suc n) MemberKind kinds_set [] false member_kind
unfolding member_kind
kind_to n = token (suc n) member_head kinds_set kind_in (λ h d. KindAfter d h) kind_first [] false (λ h d. kind_after d h) (kind_after_to n) (of (AWord word.Invariant)) InvariantFirst refl

pub member_to : (n : ℕ) → PartOf (suc n) Member members_set [] false member
unfolding member
member_to n = seq (suc n) true false Attributes (λ xs d. Bind Words (λ ms. Bind (MemberKind d) (λ k. Done (record { attributes = xs; modifiers = ms; kind = k })))) (17 ∷ []) (17 ∷ []) (words_set ++ kinds_set) [] attributes (λ xs d ts. words ts >>= λ ms. member_kind d ms.1 >>= λ k. Ok (record { attributes = xs; modifiers = ms.0; kind = k.0 }, k.1)) (attributes_to n)
    (λ xs. seq (suc n) true false (λ d. Words) (λ ms d. Bind (MemberKind d) (λ k. Done (record { attributes = xs; modifiers = ms; kind = k }))) words_set words_set kinds_set [] (λ d. words) (λ ms d ts. member_kind d ts >>= λ k. Ok (record { attributes = xs; modifiers = ms; kind = k.0 }, k.1)) (words_to (suc n))
    (λ ms. made (suc n) MemberKind kinds_set [] member_kind (λ k. record { attributes = xs; modifiers = ms; kind = k }) (kind_to n)) refl) refl

-- ---- a member begins with each of these tokens

abbrev a_kind : Starts (MemberKind 0) []
a_kind = (kind_to 0).good.some

kind_alive : (t : Piece) (h : MemberHead) → member_head t ≡ Some h → Starts (MemberKind 0) (t ∷ [])
kind_alive t h e =
    let s = (kind_after_to 0 h).good.some in
    record { more = s.more; value = s.value; reads = subst (λ (o : Option MemberHead). After {T = Piece} {A = MemberKindTree} o (KindAfter 0) s.more s.value) (sym e) s.reads }

by_kind : (t : Piece) → Starts (MemberKind 0) (t ∷ []) → Alive Member t
by_kind t s = (
  0,
  record {
    more = s.more;
    value = record { attributes = []; modifiers = []; kind = s.value };
    reads = record {
      first = [];
      front = [];
      back = t ∷ s.more;
      parts = refl;
      reads = (0, (refl, refl));
      goes_on = record {
        first = [];
        front = [];
        back = t ∷ s.more;
        parts = refl;
        reads = (0, (refl, refl));
        goes_on = record { first = s.value; front = t ∷ s.more; back = []; parts = sym (append-nil (t ∷ s.more)); reads = s.reads; goes_on = (refl, refl) };
      };
    };
  },
)

by_word : (t : Piece) (m : Option Modifier) → member_word t ≡ Some m → Alive Member t
by_word t m e = (
  0,
  record {
    more = a_kind.more;
    value = record { attributes = []; modifiers = join_word [] m; kind = a_kind.value };
    reads = record {
      first = [];
      front = [];
      back = t ∷ a_kind.more;
      parts = refl;
      reads = (0, (refl, refl));
      goes_on = record {
        first = join_word [] m;
        front = t ∷ [];
        back = a_kind.more;
        parts = refl;
        reads = one_word t m e;
        goes_on = record { first = a_kind.value; front = a_kind.more; back = []; parts = sym (append-nil a_kind.more); reads = a_kind.reads; goes_on = (refl, refl) };
      };
    };
  },
)

abbrev some_kind : Starts (MemberKind 1) []
some_kind = record { more = a_kind.more; value = a_kind.value; reads = (kind_to 0).good.grows 0 a_kind.more a_kind.value a_kind.reads }

by_attribute : (p : Place) → Alive Member (AToken (record { kind = ASymbol symbol.OpenBracket; place = p }))
by_attribute p = (
  1,
  record {
    more = a_name_piece ∷ of (ASymbol symbol.CloseBracket) ∷ some_kind.more;
    value = record { attributes = attribute_at p an_empty_name ∷ []; modifiers = []; kind = some_kind.value };
    reads = record {
      first = attribute_at p an_empty_name ∷ [];
      front = AToken (record { kind = ASymbol symbol.OpenBracket; place = p }) ∷ a_name_piece ∷ of (ASymbol symbol.CloseBracket) ∷ [];
      back = some_kind.more;
      parts = refl;
      reads = (1, record { first = attribute_at p an_empty_name; front = a_name_piece ∷ of (ASymbol symbol.CloseBracket) ∷ []; back = []; parts = refl; reads = record { first = an_empty_name; front = a_name_piece ∷ []; back = of (ASymbol symbol.CloseBracket) ∷ []; parts = refl; reads = (refl, refl); goes_on = (refl, refl) }; goes_on = (refl, refl) });
      goes_on = record {
        first = [];
        front = [];
        back = some_kind.more;
        parts = refl;
        reads = (0, (refl, refl));
        goes_on = record { first = some_kind.value; front = some_kind.more; back = []; parts = sym (append-nil some_kind.more); reads = some_kind.reads; goes_on = (refl, refl) };
      };
    };
  },
)

pub member_alive : (t : Piece) → begins_member t ≡ true → Alive Member t
member_alive LeftOut h = absurd cc
member_alive (AToken t) h = at t.kind t.place h
  where
    sym_at : (s : Symbol) (p : Place) → begins_kind (ASymbol s) ≡ true → Alive Member (AToken (record { kind = ASymbol s; place = p }))
    sym_at symbol.OpenBracket p h = by_attribute p
    sym_at _ p h = absurd cc

    word_at : (w : Word) (p : Place) → begins_kind (AWord w) ≡ true → Alive Member (AToken (record { kind = AWord w; place = p }))
    word_at word.Static p h = by_word (AToken (record { kind = AWord word.Static; place = p })) _ refl
    word_at word.Virtual p h = by_word (AToken (record { kind = AWord word.Virtual; place = p })) _ refl
    word_at word.Override p h = by_word (AToken (record { kind = AWord word.Override; place = p })) _ refl
    word_at word.Public p h = by_word (AToken (record { kind = AWord word.Public; place = p })) None refl
    word_at word.Private p h = by_word (AToken (record { kind = AWord word.Private; place = p })) None refl
    word_at word.Protected p h = by_word (AToken (record { kind = AWord word.Protected; place = p })) None refl
    word_at word.Internal p h = by_word (AToken (record { kind = AWord word.Internal; place = p })) None refl
    word_at word.Invariant p h = let t = AToken (record { kind = AWord word.Invariant; place = p }) in by_kind t (kind_alive t InvariantFirst refl)
    word_at word.Void p h = let t = AToken (record { kind = AWord word.Void; place = p }) in by_kind t (kind_alive t VoidFirst refl)
    word_at word.Int p h = let t = AToken (record { kind = AWord word.Int; place = p }) in by_kind t (kind_alive t _ refl)
    word_at word.Bool p h = let t = AToken (record { kind = AWord word.Bool; place = p }) in by_kind t (kind_alive t _ refl)
    word_at word.Object p h = let t = AToken (record { kind = AWord word.Object; place = p }) in by_kind t (kind_alive t _ refl)
    word_at _ p h = absurd cc

    at : (k : Kind) (p : Place) → begins_kind k ≡ true → Alive Member (AToken (record { kind = k; place = p }))
    at (ASymbol s) p h = sym_at s p h
    at (AWord w) p h = word_at w p h
    at (AName x) p h = let t = AToken (record { kind = AName x; place = p }) in by_kind t (kind_alive t (NameFirst (record { text = x; place = p })) refl)
    at (ANumber x) p h = absurd cc
    at (AText x) p h = absurd cc
    at AnEnd p h = absurd cc

-- any number of members
pub members_to : (n : ℕ) → PartOf (suc n) (λ d. Again (λ _. begins_member) (Member d) push []) members_set members_set true members
unfolding members
members_to n = repeated (suc n) (λ _. begins_member) push members_set (λ _. member_in) Member members_set [] member (member_to n) refl (λ lt _ t h. member_alive t h) []
