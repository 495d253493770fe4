-- A cast, as one production, is what stands after a `(`.
use Rattle.std.proofs.Common.{◌≡◌, ℕ, zero, suc, List, [], ◌∷◌, ◌++◌, Option, Some, None, Bool, true, false, refl, sym, ap, subst, ◌∙◌, ◌⊎◌, inl, inr}
use Rattle.ss_core.specs.declared.names.Place.{Place}
use Rattle.ss_ast.specs.declared.token.Word.{Word}
use Rattle.ss_ast.specs.declared.token.Word.TheVariants as word
use Rattle.ss_ast.specs.declared.token.Symbol.{Symbol}
use Rattle.ss_ast.specs.declared.token.Symbol.TheVariants as symbol
use Rattle.ss_ast.specs.Tokens.{Kind, AWord, ASymbol, AName, ANumber, AText, AnEnd}
use Rattle.ss_ast.specs.Expressions.{NameTree, TypeTree, ExprTree, IntType, BoolType, ObjectType, ElementOf}
use Rattle.ss_grammar.specs.Language.{Done, After, Take, Bind}
use Rattle.ss_grammar_expressions.specs.First.{Nothing, Chosen}
use Rattle.ss_grammar_expressions.specs.Heads.{Piece, AToken, LeftOut, is, found, the, TypeHead, type_head, castable, NamedHead, BangAfter, BracketAfter, named_head}
use Rattle.ss_grammar_expressions.specs.Grammar.{TheExpression, TheTypeEnd, TheNamed, Parts, NoParts, AtLevel, Enclosed, AType, AnExpr, type_of, head_of, named, Deeper, Brackets, BangEnd, TypeEnd, IndexEnd, CastEnd, CastOnly, AfterParen, BareEnd, Closed, NameAfter, Paren, RestOf, ElementOrArray, NamedAfter, Named}
use Rattle.ss_grammar_expressions.specs.Written.{InnerType, Casted}

-- ---- what the symbols say

bang_symbol : (p : Place) (s : Symbol) (z : Place) → the symbol.Bang (AToken (record { kind = ASymbol s; place = p })) ≡ Some z → named_head (AToken (record { kind = ASymbol s; place = p })) ≡ Some BangAfter
bang_symbol p symbol.Bang z e = refl
bang_symbol p _ z e = absurd cc

the_bang : (u : Piece) (z : Place) → the symbol.Bang u ≡ Some z → named_head u ≡ Some BangAfter
the_bang LeftOut z e = absurd cc
the_bang (AToken t) z e = at t.kind t.place e
  where
    at : (c : Kind) (p : Place) → the symbol.Bang (AToken (record { kind = c; place = p })) ≡ Some z → named_head (AToken (record { kind = c; place = p })) ≡ Some BangAfter
    at (ASymbol s) p e = bang_symbol p s z e
    at (AWord w) p e = absurd cc
    at (AName x) p e = absurd cc
    at (ANumber x) p e = absurd cc
    at (AText x) p e = absurd cc
    at AnEnd p e = absurd cc

open_symbol : (p : Place) (s : Symbol) (z : Place) → the symbol.OpenBracket (AToken (record { kind = ASymbol s; place = p })) ≡ Some z → named_head (AToken (record { kind = ASymbol s; place = p })) ≡ Some BracketAfter
open_symbol p symbol.OpenBracket z e = refl
open_symbol p _ z e = absurd cc

the_open : (u : Piece) (z : Place) → the symbol.OpenBracket u ≡ Some z → named_head u ≡ Some BracketAfter
the_open LeftOut z e = absurd cc
the_open (AToken t) z e = at t.kind t.place e
  where
    at : (c : Kind) (p : Place) → the symbol.OpenBracket (AToken (record { kind = c; place = p })) ≡ Some z → named_head (AToken (record { kind = c; place = p })) ≡ Some BracketAfter
    at (ASymbol s) p e = open_symbol p s z e
    at (AWord w) p e = absurd cc
    at (AName x) p e = absurd cc
    at (ANumber x) p e = absurd cc
    at (AText x) p e = absurd cc
    at AnEnd p e = absurd cc

not_close_symbol : (p : Place) (s : Symbol) (h : NamedHead) → named_head (AToken (record { kind = ASymbol s; place = p })) ≡ Some h → is (the symbol.Close) (AToken (record { kind = ASymbol s; place = p })) ≡ false
not_close_symbol p symbol.Bang h e = refl
not_close_symbol p symbol.OpenBracket h e = refl
not_close_symbol p _ h e = absurd cc

not_close : (u : Piece) (h : NamedHead) → named_head u ≡ Some h → is (the symbol.Close) u ≡ false
not_close LeftOut h e = absurd cc
not_close (AToken t) h e = at t.kind t.place e
  where
    at : (c : Kind) (p : Place) → named_head (AToken (record { kind = c; place = p })) ≡ Some h → is (the symbol.Close) (AToken (record { kind = c; place = p })) ≡ false
    at (ASymbol s) p e = not_close_symbol p s h e
    at (AWord w) p e = absurd cc
    at (AName x) p e = absurd cc
    at (ANumber x) p e = absurd cc
    at (AText x) p e = absurd cc
    at AnEnd p e = absurd cc

-- ---- the end of a type after a name

-- it begins with a `!` or a `[`, and is read by this
record IsNamed (L : List Piece → Enclosed → Type 0) (ts : List Piece) (t : TypeTree) : Type 0 where
  token : Piece
  rest : List Piece
  parts : ts ≡ token ∷ rest
  head : NamedHead
  headed : named_head token ≡ Some head
  reads : L ts (AType t)

-- it is empty, or such
abbrev Told : NameTree → (List Piece → Enclosed → Type 0) → List Piece → TypeTree → Type 0
Told n L ts t = ((ts ≡ []) × (t ≡ type_of (head_of n) false false)) ⊎ IsNamed L ts t

behind : (o : Bool) (V : Parts) (n : NameTree) (u : Piece) (us : List Piece) (t : TypeTree) (h : NamedHead) → named_head u ≡ Some h → NamedAfter o V n h us (AType t) → IsNamed (Named o V n) (u ∷ us) t
behind o V n u us t h e q = record {
  token = u;
  rest = us;
  parts = refl;
  head = h;
  headed = e;
  reads = subst (λ (x : Option NamedHead). Chosen (found x) (Take named_head (NamedAfter o V n)) (Bind (RestOf o V n.place (named n)) (λ y. Done (AnExpr y))) (u ∷ us) (AType t)) (sym e) (subst (λ (x : Option NamedHead). After x (NamedAfter o V n) us (AType t)) (sym e) q);
}

-- at most a `!`
only_bang : (o : Bool) (V : Parts) (n : NameTree) (b : Bool) (front back : List Piece) (s : Bool) (t : TypeTree) → b ≡ false → BangEnd front s → (back ≡ []) × (t ≡ type_of (head_of n) b s) → Told n (Named o V n) (front ++ back) t
only_bang o V n b [] back s t f q d = inl (d.0, d.1 ∙ ap (λ (x : Bool). type_of (head_of n) x s) f ∙ ap (λ (x : Bool). type_of (head_of n) false x) q)
only_bang o V n b (u ∷ us) back s t f q d = at (the symbol.Bang u) refl q
  where
    at : (x : Option Place) → the symbol.Bang u ≡ x → After x (λ _. Done true) us s → Told n (Named o V n) (u ∷ (us ++ back)) t
    at None e r = absurd r
    at (Some z) e r = inr (behind o V n u (us ++ back) t BangAfter (the_bang u z e) (ap (λ (y : List Piece). y ++ back) r.0 ∙ d.0, ap AType (d.1 ∙ ap (λ (x : Bool). type_of (head_of n) x s) f ∙ ap (λ (x : Bool). type_of (head_of n) false x) r.1)))

-- after a `[`
array_after : (V : Parts) (n : NameTree) (c : Piece) (z : Place) → the symbol.CloseBracket c ≡ Some z → (cs : List Piece) (b : Bool) → (cs ≡ []) × (b ≡ true) → (back : List Piece) (t : TypeTree) → Bind BangEnd (λ s. Done (type_of (head_of n) b s)) back t → ElementOrArray true V n (c ∷ (cs ++ back)) (AType t)
array_after V n c z e cs b d back t r =
    subst (λ (x : Option Place). Chosen (found x) (Take (the symbol.CloseBracket) (λ _. Bind BangEnd (λ s. Done (AType (type_of (head_of n) true s))))) (Bind (IndexEnd (V TheExpression)) (λ i. Bind (RestOf true V n.place (ElementOf n.place (named n) i)) (λ y. Done (AnExpr y)))) (c ∷ (cs ++ back)) (AType t)) (sym e)
    (subst (λ (x : Option Place). After x (λ _. Bind BangEnd (λ s. Done (AType (type_of (head_of n) true s)))) (cs ++ back) (AType t)) (sym e) (record {
      first = r.first;
      front = r.front;
      back = r.back;
      parts = ap (λ (y : List Piece). y ++ back) d.0 ∙ r.parts;
      reads = r.reads;
      goes_on = (r.goes_on.0, ap AType (r.goes_on.1 ∙ ap (λ (x : Bool). type_of (head_of n) x r.first) d.1));
    }))

bracketed : (o : Bool) (V : Parts) (n : NameTree) (u : Piece) → named_head u ≡ Some BracketAfter → (us : List Piece) (b : Bool) → Deeper o (Take (the symbol.CloseBracket) (λ _. Done true)) us b → (back : List Piece) (t : TypeTree) → Bind BangEnd (λ s. Done (type_of (head_of n) b s)) back t → IsNamed (Named o V n) (u ∷ (us ++ back)) t
bracketed false V n u e us b q back t r = absurd q
bracketed true V n u e [] b q back t r = absurd q
bracketed true V n u e (c ∷ cs) b q back t r = at (the symbol.CloseBracket c) refl q
  where
    at : (x : Option Place) → the symbol.CloseBracket c ≡ x → After x (λ _. Done true) cs b → IsNamed (Named true V n) (u ∷ c ∷ (cs ++ back)) t
    at None h d = absurd d
    at (Some z) h d = behind true V n u (c ∷ (cs ++ back)) t BracketAfter e (array_after V n c z h cs b d back t r)

told : (o : Bool) (V : Parts) (n : NameTree) (ts : List Piece) (t : TypeTree) → TypeEnd o (head_of n) ts t → Told n (Named o V n) ts t
told o V n ts t q = subst (λ (y : List Piece). Told n (Named o V n) y t) (sym q.parts) (at q.front q.reads)
  where
    opened : (u : Piece) (us : List Piece) (x : Option Place) → the symbol.OpenBracket u ≡ x → After x (λ _. Deeper o (Take (the symbol.CloseBracket) (λ _. Done true))) us q.first → Told n (Named o V n) (u ∷ (us ++ q.back)) t
    opened u us None e d = absurd d
    opened u us (Some z) e d = inr (bracketed o V n u (the_open u z e) us q.first d q.back t q.goes_on)

    at : (front : List Piece) → Brackets o front q.first → Told n (Named o V n) (front ++ q.back) t
    at [] r = subst (λ (y : List Piece). Told n (Named o V n) y t) (sym q.goes_on.parts) (only_bang o V n q.first q.goes_on.front q.goes_on.back q.goes_on.first t r q.goes_on.reads q.goes_on.goes_on)
    at (u ∷ us) r = opened u us (the symbol.OpenBracket u) refl r

at_level : (d : ℕ) (n : NameTree) (ts : List Piece) (t : TypeTree) → AtLevel d (TheTypeEnd (head_of n)) ts t → Told n (AtLevel d (TheNamed n)) ts t
at_level zero n ts t q = told false NoParts n ts t q
at_level (suc d) n ts t q = told true (AtLevel d) n ts t q

-- ---- after a `(`

module _ (d : ℕ) (p : Place) where
  abbrev V : Parts
  V = AtLevel d

  cast_bare : (n : NameTree) (t : TypeTree) → t ≡ type_of (head_of n) false false → (us : List Piece) (e : ExprTree) → CastOnly V p t us e → BareEnd V p n us e
  cast_bare n t h [] e q = absurd q
  cast_bare n t h (u ∷ us) e q = at (castable u) q
    where
      at : (b : Bool) → Chosen b (CastEnd V p t) Nothing (u ∷ us) e → Chosen b (CastEnd V p (type_of (head_of n) false false)) (AfterParen V p (named n)) (u ∷ us) e
      at true r = subst (λ (x : TypeTree). CastEnd V p x (u ∷ us) e) h r
      at false r = absurd r

  -- after a name alone
  bare : (n : NameTree) (t : TypeTree) → t ≡ type_of (head_of n) false false → (ts : List Piece) (e : ExprTree) → Take (the symbol.Close) (λ _. CastOnly V p t) ts e → NameAfter V p n ts e
  bare n t h [] e q = absurd q
  bare n t h (u ∷ us) e q = at (the symbol.Close u) refl q
    where
      at : (x : Option Place) → the symbol.Close u ≡ x → After x (λ _. CastOnly V p t) us e → NameAfter V p n (u ∷ us) e
      at None k r = absurd r
      at (Some z) k r =
          subst (λ (x : Option Place). Chosen (found x) (Take (the symbol.Close) (λ _. BareEnd V p n)) (Bind (V (TheNamed n)) (λ c. Take (the symbol.Close) (λ _. Closed V p c))) (u ∷ us) e) (sym k)
          (subst (λ (x : Option Place). After x (λ _. BareEnd V p n) us e) (sym k) (cast_bare n t h us e r))

  -- after a name with the end of a type
  ended : (n : NameTree) (front back : List Piece) (t : TypeTree) (e : ExprTree) → IsNamed (V (TheNamed n)) front t → Take (the symbol.Close) (λ _. CastOnly V p t) back e → NameAfter V p n (front ++ back) e
  ended n front back t e i r =
      subst (λ (y : List Piece). NameAfter V p n (y ++ back) e) (sym i.parts)
      (subst (λ (b : Bool). Chosen b (Take (the symbol.Close) (λ _. BareEnd V p n)) (Bind (V (TheNamed n)) (λ c. Take (the symbol.Close) (λ _. Closed V p c))) (i.token ∷ (i.rest ++ back)) e) (sym (not_close i.token i.head i.headed)) (record {
        first = AType t;
        front = i.token ∷ i.rest;
        back = back;
        parts = refl;
        reads = subst (λ (y : List Piece). V (TheNamed n) y (AType t)) i.parts i.reads;
        goes_on = r;
      }))

  behind_name : (n : NameTree) (front back : List Piece) (t : TypeTree) (e : ExprTree) → V (TheTypeEnd (head_of n)) front t → Take (the symbol.Close) (λ _. CastOnly V p t) back e → NameAfter V p n (front ++ back) e
  behind_name n front back t e q r = at (at_level d n front t q)
    where
      at : Told n (V (TheNamed n)) front t → NameAfter V p n (front ++ back) e
      at (inl h) = subst (λ (y : List Piece). NameAfter V p n (y ++ back) e) (sym h.0) (bare n t h.1 back e r)
      at (inr i) = ended n front back t e i r

  -- after the first token of the type
  after_word : (h : TypeHead) (front back : List Piece) (t : TypeTree) (e : ExprTree) → V (TheTypeEnd h) front t → Take (the symbol.Close) (λ _. CastOnly V p t) back e → Bind (V (TheTypeEnd h)) (λ y. Take (the symbol.Close) (λ _. CastOnly V p y)) (front ++ back) e
  after_word h front back t e q r = record { first = t; front = front; back = back; parts = refl; reads = q; goes_on = r }

  word_first : (z : Place) (w : Word) (us back : List Piece) (t : TypeTree) (e : ExprTree) → After (type_head (AToken (record { kind = AWord w; place = z }))) (λ h. V (TheTypeEnd h)) us t → Take (the symbol.Close) (λ _. CastOnly V p t) back e → Paren V p (AToken (record { kind = AWord w; place = z }) ∷ (us ++ back)) e
  word_first z word.Int us back t e q r = after_word (record { place = z; name = IntType }) us back t e q r
  word_first z word.Bool us back t e q r = after_word (record { place = z; name = BoolType }) us back t e q r
  word_first z word.Object us back t e q r = after_word (record { place = z; name = ObjectType }) us back t e q r
  word_first z _ us back t e q r = absurd q

  first : (u : Piece) (us back : List Piece) (t : TypeTree) (e : ExprTree) → After (type_head u) (λ h. V (TheTypeEnd h)) us t → Take (the symbol.Close) (λ _. CastOnly V p t) back e → Paren V p (u ∷ (us ++ back)) e
  first LeftOut us back t e q r = absurd q
  first (AToken k) us back t e q r = at k.kind k.place q
    where
      at : (c : Kind) (z : Place) → After (type_head (AToken (record { kind = c; place = z }))) (λ h. V (TheTypeEnd h)) us t → Paren V p (AToken (record { kind = c; place = z }) ∷ (us ++ back)) e
      at (AWord w) z q = word_first z w us back t e q r
      at (AName x) z q = behind_name (record { text = x; place = z }) us back t e q r
      at (ASymbol s) z q = absurd q
      at (ANumber x) z q = absurd q
      at (AText x) z q = absurd q
      at AnEnd z q = absurd q

  pub cast_is_read : (ts : List Piece) (e : ExprTree) → Casted V p ts e → Paren V p ts e
  cast_is_read ts e q = subst (λ (y : List Piece). Paren V p y e) (sym q.parts) (at q.front q.reads)
    where
      at : (front : List Piece) → InnerType V front q.first → Paren V p (front ++ q.back) e
      at [] r = absurd r
      at (u ∷ us) r = first u us q.back q.first e r q.goes_on
