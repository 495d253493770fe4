-- What stands after a `(`, told apart by its first tokens, is a cast or an expression in parentheses.
use Rattle.std.proofs.Common.{◌≡◌, ℕ, zero, suc, List, [], ◌∷◌, ◌++◌, Option, Some, None, Bool, true, false, refl, sym, ap, subst, ◌∙◌, append_assoc, ◌⊎◌, inl, inr}
use Rattle.std.proofs.lemmas.List.{append-nil}
use Rattle.ss_core.specs.declared.names.Place.{Place}
use Rattle.ss_ast.specs.declared.token.Symbol.{Symbol}
use Rattle.ss_ast.specs.declared.token.Symbol.TheVariants as symbol
use Rattle.ss_ast.specs.Tokens.{Kind, AWord, ASymbol, AName, ANumber, AText, AnEnd}
use Rattle.ss_ast.specs.Expressions.{NameTree, TypeTree, ExprTree, ElementOf}
use Rattle.ss_grammar.specs.Language.{Done, After, Take, Maybe, Bind, Times, Many}
use Rattle.ss_grammar_expressions.specs.First.{Nothing, Chosen, Choose, Only, Here}
use Rattle.ss_grammar_expressions.specs.Heads.{Piece, AToken, LeftOut, place_at, is, the, TypeHead, type_word, type_head, a_name, castable, NamedHead, BangAfter, BracketAfter, named_head, postfix_head}
use Rattle.ss_grammar_expressions.specs.Grammar.{Part, TheExpression, TheTypeEnd, TheNamed, Parts, NoParts, AtLevel, Enclosed, AType, AnExpr, type_of, head_of, named, joined, Deeper, Brackets, BangEnd, TypeEnd, ParenEnd, IndexEnd, PostfixAfter, Postfixes, CastEnd, CastOnly, AfterParen, BareEnd, Closed, WordParen, NameAfter, NameParen, OtherParen, Paren, UnaryAfter, Chain, ImplicationFrom, ExpressionFrom, WholeExpression, RestOf, ElementOrArray, NamedAfter, Named}
use Rattle.ss_grammar_expressions.specs.Written.{InnerType, Casted}

abbrev name_piece : NameTree → Piece
name_piece n = AToken (record { kind = AName n.text; place = n.place })

module _ (o : Bool) (V : Parts) where
  -- ---- nothing after an expression

  no_chain : (k : ℕ) (p : Place) (a : ExprTree) → Chain o V k p a [] a
  no_chain zero p a = (refl, refl)
  no_chain (suc k) p a = record { first = a; front = []; back = []; parts = refl; reads = no_chain k p a; goes_on = (0, (refl, refl)) }

  no_more : (p : Place) (a : ExprTree) → ExpressionFrom o V p a [] a
  no_more p a = record { first = a; front = []; back = []; parts = refl; reads = record { first = a; front = []; back = []; parts = refl; reads = no_chain 6 p a; goes_on = refl }; goes_on = refl }

  -- a name and what goes on after it
  name_then : (n : NameTree) (ts : List Piece) (e : ExprTree) → RestOf o V n.place (named n) ts e → WholeExpression o V (name_piece n ∷ ts) e
  name_then n ts e q = record { first = q.first; front = name_piece n ∷ q.front; back = q.back; parts = ap (λ (y : List Piece). name_piece n ∷ y) q.parts; reads = q.reads; goes_on = q.goes_on }

  name_alone : (n : NameTree) → WholeExpression o V (name_piece n ∷ []) (named n)
  name_alone n = name_then n [] (named n) (record { first = named n; front = []; back = []; parts = refl; reads = (0, (refl, refl)); goes_on = no_more n.place (named n) })

  no_type_end : (n : NameTree) → TypeEnd o (head_of n) [] (type_of (head_of n) false false)
  no_type_end n = record { first = false; front = []; back = []; parts = refl; reads = refl; goes_on = record { first = false; front = []; back = []; parts = refl; reads = refl; goes_on = (refl, refl) } }

-- ---- after a name

abbrev Read : Bool → Parts → NameTree → List Piece → Enclosed → Type 0
Read o V n ts (AType t) = TypeEnd o (head_of n) ts t
Read o V n ts (AnExpr e) = WholeExpression o V (name_piece n ∷ ts) e

of_choice : {A X : Type 0} (f : Piece → Bool) (L M : List Piece → A → Type 0) (ts : List Piece) (v : A) → (L ts v → X) → (M ts v → X) → Choose f L M ts v → X
of_choice f L M [] v g h p = h p
of_choice {A} {X} f L M (t ∷ ts) v g h p = at (f t) p
  where
    at : (b : Bool) → Chosen b L M (t ∷ ts) v → X
    at true q = g q
    at false q = h q

module _ (o : Bool) (V : Parts) (n : NameTree) where
  rest : (ts : List Piece) (c : Enclosed) → Bind (RestOf o V n.place (named n)) (λ e. Done (AnExpr e)) ts c → Read o V n ts c
  rest ts c q =
      let e : ts ≡ q.front = q.parts ∙ ap (λ y. q.front ++ y) q.goes_on.0 ∙ append-nil q.front in
      subst (λ (x : Enclosed). Read o V n ts x) (sym q.goes_on.1) (name_then o V n ts q.first (subst (λ (y : List Piece). RestOf o V n.place (named n) y q.first) (sym e) q.reads))

-- a symbol at a place
abbrev symbol_piece : Place → Symbol → Piece
symbol_piece p s = AToken (record { kind = ASymbol s; place = p })

module _ (V : Parts) (n : NameTree) where
  array : (p : Place) (ts : List Piece) (c : Enclosed) → Take (the symbol.CloseBracket) (λ _. Bind BangEnd (λ s. Done (AType (type_of (head_of n) true s)))) ts c → Read true V n (symbol_piece p symbol.OpenBracket ∷ ts) c
  array p [] c q = absurd q
  array p (t ∷ ts) c q = at (the symbol.CloseBracket t) refl q
    where
      at : (x : Option Place) → the symbol.CloseBracket t ≡ x → After x (λ _. Bind BangEnd (λ s. Done (AType (type_of (head_of n) true s)))) ts c → Read true V n (symbol_piece p symbol.OpenBracket ∷ t ∷ ts) c
      at None e r = absurd r
      at (Some z) e r = subst (λ (x : Enclosed). Read true V n (symbol_piece p symbol.OpenBracket ∷ t ∷ ts) x) (sym r.goes_on.1) (record { first = true; front = symbol_piece p symbol.OpenBracket ∷ t ∷ []; back = ts; parts = refl; reads = subst (λ (x : Option Place). After {T = Piece} x (λ _. Done true) [] true) (sym e) (refl, refl); goes_on = record { first = r.first; front = r.front; back = r.back; parts = r.parts; reads = r.reads; goes_on = (r.goes_on.0, refl) } })

  element : (p : Place) (ts : List Piece) (c : Enclosed) → Bind (IndexEnd (V TheExpression)) (λ i. Bind (RestOf true V n.place (ElementOf n.place (named n) i)) (λ e. Done (AnExpr e))) ts c → Read true V n (symbol_piece p symbol.OpenBracket ∷ ts) c
  element p ts c q =
      let r = q.goes_on in
      let e : ts ≡ (q.front ++ r.reads.front) ++ r.reads.back = q.parts ∙ ap (λ y. q.front ++ y) (r.parts ∙ ap (λ y. r.front ++ y) r.goes_on.0 ∙ append-nil r.front ∙ r.reads.parts) ∙ sym (append_assoc q.front r.reads.front r.reads.back) in
      rest true V n (symbol_piece p symbol.OpenBracket ∷ ts) c (record {
        first = r.first;
        front = symbol_piece p symbol.OpenBracket ∷ ts;
        back = [];
        parts = sym (append-nil (symbol_piece p symbol.OpenBracket ∷ ts));
        reads = record {
          first = r.reads.first;
          front = symbol_piece p symbol.OpenBracket ∷ (q.front ++ r.reads.front);
          back = r.reads.back;
          parts = ap (λ (y : List Piece). symbol_piece p symbol.OpenBracket ∷ y) e;
          reads = (suc r.reads.reads.0, record { first = λ x a. ElementOf x a q.first; front = q.front; back = r.reads.front; parts = refl; reads = record { first = q.first; front = q.front; back = []; parts = sym (append-nil q.front); reads = q.reads; goes_on = (refl, refl) }; goes_on = r.reads.reads.1 });
          goes_on = r.reads.goes_on;
        };
        goes_on = (refl, r.goes_on.1);
      })

module _ (o : Bool) (V : Parts) (n : NameTree) where
  bracket : (b : Bool) (p : Place) (ts : List Piece) (c : Enclosed) → o ≡ b → Deeper b (ElementOrArray b V n) ts c → Read b V n (symbol_piece p symbol.OpenBracket ∷ ts) c
  bracket false p ts c e q = absurd q
  bracket true p ts c e q = of_choice (is (the symbol.CloseBracket)) (Take (the symbol.CloseBracket) (λ _. Bind BangEnd (λ s. Done (AType (type_of (head_of n) true s))))) (Bind (IndexEnd (V TheExpression)) (λ i. Bind (RestOf true V n.place (ElementOf n.place (named n) i)) (λ x. Done (AnExpr x)))) ts c (array V n p ts c) (element V n p ts c) q

  bang : (p : Place) (ts : List Piece) (c : Enclosed) → Done (AType (type_of (head_of n) false true)) ts c → Read o V n (symbol_piece p symbol.Bang ∷ ts) c
  bang p ts c q = subst (λ (x : Enclosed). Read o V n (symbol_piece p symbol.Bang ∷ ts) x) (sym q.1) (record { first = false; front = []; back = symbol_piece p symbol.Bang ∷ ts; parts = refl; reads = refl; goes_on = record { first = true; front = symbol_piece p symbol.Bang ∷ ts; back = []; parts = sym (append-nil (symbol_piece p symbol.Bang ∷ ts)); reads = (q.0, refl); goes_on = (refl, refl) } })

  headed_symbol : (p : Place) (s : Symbol) (ts : List Piece) (c : Enclosed) → After (named_head (symbol_piece p s)) (NamedAfter o V n) ts c → Read o V n (symbol_piece p s ∷ ts) c
  headed_symbol p symbol.Bang ts c q = bang p ts c q
  headed_symbol p symbol.OpenBracket ts c q = bracket o p ts c refl q
  headed_symbol p _ ts c q = absurd q

  headed : (ts : List Piece) (c : Enclosed) → Take named_head (NamedAfter o V n) ts c → Read o V n ts c
  headed [] c q = absurd q
  headed (LeftOut ∷ ts) c q = absurd q
  headed (AToken t ∷ ts) c q = at t.kind t.place q
    where
      at : (k : Kind) (p : Place) → After (named_head (AToken (record { kind = k; place = p }))) (NamedAfter o V n) ts c → Read o V n (AToken (record { kind = k; place = p }) ∷ ts) c
      at (ASymbol s) p q = headed_symbol p s ts c q
      at (AWord w) p q = absurd q
      at (AName x) p q = absurd q
      at (ANumber x) p q = absurd q
      at (AText x) p q = absurd q
      at AnEnd p q = absurd q

  of_named : (ts : List Piece) (c : Enclosed) → Named o V n ts c → Read o V n ts c
  of_named ts c q = of_choice (is named_head) (Take named_head (NamedAfter o V n)) (Bind (RestOf o V n.place (named n)) (λ e. Done (AnExpr e))) ts c (headed ts c) (rest o V n ts c) q

-- ---- at each level

abbrev Inner : ℕ → NameTree → List Piece → Enclosed → Type 0
Inner d n ts (AType t) = AtLevel d (TheTypeEnd (head_of n)) ts t
Inner d n ts (AnExpr e) = AtLevel d TheExpression (name_piece n ∷ ts) e

inner : (d : ℕ) (n : NameTree) (ts : List Piece) (c : Enclosed) → AtLevel d (TheNamed n) ts c → Inner d n ts c
inner zero n ts (AType t) q = of_named false NoParts n ts (AType t) q
inner zero n ts (AnExpr e) q = of_named false NoParts n ts (AnExpr e) q
inner (suc d) n ts (AType t) q = of_named true (AtLevel d) n ts (AType t) q
inner (suc d) n ts (AnExpr e) q = of_named true (AtLevel d) n ts (AnExpr e) q

alone : (d : ℕ) (n : NameTree) → AtLevel d TheExpression (name_piece n ∷ []) (named n)
alone zero n = name_alone false NoParts n
alone (suc d) n = name_alone true (AtLevel d) n

bare_type : (d : ℕ) (n : NameTree) → AtLevel d (TheTypeEnd (head_of n)) [] (type_of (head_of n) false false)
bare_type zero n = no_type_end false NoParts n
bare_type (suc d) n = no_type_end true (AtLevel d) n

module _ (d : ℕ) (p : Place) where
  abbrev V : Parts
  V = AtLevel d

  abbrev Either : List Piece → ExprTree → Type 0
  Either ts e = Casted V p ts e ⊎ OtherParen V p ts e

  -- after the name and the `)`
  bare : (n : NameTree) (t : Piece) (ts : List Piece) (e : ExprTree) (z : Place) → the symbol.Close t ≡ Some z → BareEnd V p n ts e → Either (name_piece n ∷ t ∷ ts) e
  bare n t ts e z h q = at ts q
    where
      parened : (ts : List Piece) → AfterParen V p (named n) ts e → Either (name_piece n ∷ t ∷ ts) e
      parened ts r = inr (record { first = named n; front = name_piece n ∷ t ∷ []; back = ts; parts = refl; reads = record { first = named n; front = name_piece n ∷ []; back = t ∷ []; parts = refl; reads = alone d n; goes_on = subst (λ (x : Option Place). After {T = Piece} x (λ _. Done (named n)) [] (named n)) (sym h) (refl, refl) }; goes_on = r })

      casted : (ts : List Piece) → CastOnly V p (type_of (head_of n) false false) ts e → Either (name_piece n ∷ t ∷ ts) e
      casted ts r = inl (record { first = type_of (head_of n) false false; front = name_piece n ∷ []; back = t ∷ ts; parts = refl; reads = bare_type d n; goes_on = subst (λ (x : Option Place). After x (λ _. CastOnly V p (type_of (head_of n) false false)) ts e) (sym h) r })

      at : (ts : List Piece) → BareEnd V p n ts e → Either (name_piece n ∷ t ∷ ts) e
      at [] r = parened [] r
      at (u ∷ us) r = pick (castable u) refl r
        where
          pick : (b : Bool) → castable u ≡ b → Chosen b (CastEnd V p (type_of (head_of n) false false)) (AfterParen V p (named n)) (u ∷ us) e → Either (name_piece n ∷ t ∷ u ∷ us) e
          pick true k r = casted (u ∷ us) (subst (λ (b : Bool). Chosen b (CastEnd V p (type_of (head_of n) false false)) Nothing (u ∷ us) e) (sym k) r)
          pick false k r = parened (u ∷ us) r

  after_name : (n : NameTree) (ts : List Piece) (e : ExprTree) → NameAfter V p n ts e → Either (name_piece n ∷ ts) e
  after_name n ts e q = of_choice (is (the symbol.Close)) (Take (the symbol.Close) (λ _. BareEnd V p n)) (Bind (V (TheNamed n)) (λ c. Take (the symbol.Close) (λ _. Closed V p c))) ts e (closed ts) (λ r. enclosed r.first r.front r.back r.parts (inner d n r.front r.first r.reads) r.goes_on) q
    where
      closed : (ts : List Piece) → Take (the symbol.Close) (λ _. BareEnd V p n) ts e → Either (name_piece n ∷ ts) e
      closed [] r = absurd r
      closed (t ∷ us) r = at (the symbol.Close t) refl r
        where
          at : (x : Option Place) → the symbol.Close t ≡ x → After x (λ _. BareEnd V p n) us e → Either (name_piece n ∷ t ∷ us) e
          at None h r = absurd r
          at (Some z) h r = bare n t us e z h r

      enclosed : (c : Enclosed) (front back : List Piece) → ts ≡ front ++ back → Inner d n front c → Take (the symbol.Close) (λ _. Closed V p c) back e → Either (name_piece n ∷ ts) e
      enclosed (AType t) front back h i r = inl (record { first = t; front = name_piece n ∷ front; back = back; parts = ap (λ (y : List Piece). name_piece n ∷ y) h; reads = i; goes_on = r })
      enclosed (AnExpr x) front [] h i r = absurd r
      enclosed (AnExpr x) front (t ∷ us) h i r = at (the symbol.Close t) refl r
        where
          at : (y : Option Place) → the symbol.Close t ≡ y → After y (λ _. AfterParen V p x) us e → Either (name_piece n ∷ ts) e
          at None k s = absurd s
          at (Some z) k s = inr (record { first = x; front = name_piece n ∷ (front ++ t ∷ []); back = us; parts = ap (λ (y : List Piece). name_piece n ∷ y) (h ∙ sym (append_assoc front (t ∷ []) us)); reads = record { first = x; front = name_piece n ∷ front; back = t ∷ []; parts = refl; reads = i; goes_on = subst (λ (y : Option Place). After {T = Piece} y (λ _. Done x) [] x) (sym k) (refl, refl) }; goes_on = s })

  word_first : (t : Piece) (ts : List Piece) (e : ExprTree) → After (type_word t) (λ w. Bind (V (TheTypeEnd w)) (λ y. Take (the symbol.Close) (λ _. CastOnly V p y))) ts e → Either (t ∷ ts) e
  word_first LeftOut ts e q = absurd q
  word_first (AToken t) ts e q = at (type_word (AToken t)) (same t.kind t.place) q
    where
      same : (k : Kind) (z : Place) → (w : TypeHead) → type_word (AToken (record { kind = k; place = z })) ≡ Some w → type_head (AToken (record { kind = k; place = z })) ≡ Some w
      same (AWord x) z w h = h
      same (AName x) z w h = absurd cc
      same (ASymbol x) z w h = absurd cc
      same (ANumber x) z w h = absurd cc
      same (AText x) z w h = absurd cc
      same AnEnd z w h = absurd cc

      at : (y : Option TypeHead) → ((w : TypeHead) → y ≡ Some w → type_head (AToken t) ≡ Some w) → After y (λ w. Bind (V (TheTypeEnd w)) (λ y. Take (the symbol.Close) (λ _. CastOnly V p y))) ts e → Either (AToken t ∷ ts) e
      at None h r = absurd r
      at (Some w) h r = inl (record { first = r.first; front = AToken t ∷ r.front; back = r.back; parts = ap (λ (y : List Piece). AToken t ∷ y) r.parts; reads = subst (λ (y : Option TypeHead). After y (λ w. V (TheTypeEnd w)) r.front r.first) (sym (h w refl)) r.reads; goes_on = r.goes_on })

  name_first : (t : Piece) (ts : List Piece) (e : ExprTree) → After (a_name t) (NameAfter V p) ts e → Either (t ∷ ts) e
  name_first LeftOut ts e q = absurd q
  name_first (AToken t) ts e q = at t.kind t.place q
    where
      at : (k : Kind) (z : Place) → After (a_name (AToken (record { kind = k; place = z }))) (NameAfter V p) ts e → Either (AToken (record { kind = k; place = z }) ∷ ts) e
      at (AName x) z r = after_name (record { text = x; place = z }) ts e r
      at (AWord x) z r = absurd r
      at (ASymbol x) z r = absurd r
      at (ANumber x) z r = absurd r
      at (AText x) z r = absurd r
      at AnEnd z r = absurd r

  words : (ts : List Piece) (e : ExprTree) → WordParen V p ts e → Either ts e
  words [] e q = absurd q
  words (t ∷ ts) e q = word_first t ts e q

  names : (ts : List Piece) (e : ExprTree) → NameParen V p ts e → Either ts e
  names [] e q = absurd q
  names (t ∷ ts) e q = name_first t ts e q

  pub cast_or_parentheses : (ts : List Piece) (e : ExprTree) → Paren V p ts e → Casted V p ts e ⊎ OtherParen V p ts e
  cast_or_parentheses ts e q = of_choice (is type_word) (WordParen V p) (Choose (is a_name) (NameParen V p) (OtherParen V p)) ts e (words ts e) (λ r. of_choice (is a_name) (NameParen V p) (OtherParen V p) ts e (names ts e) (λ s. inr s) r) q
