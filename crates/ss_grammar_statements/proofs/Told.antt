-- After a name: where the name begins a type and a name stands after the type it is a declaration, else a path.
use Rattle.std.proofs.Common.{◌≡◌, ℕ, zero, suc, List, [], ◌∷◌, ◌++◌, Option, Some, None, Bool, true, false, refl, sym, ap, subst, ◌∙◌, ◌⊎◌, inl, inr, option_map}
use Rattle.std.proofs.lemmas.List.{append-nil}
use Rattle.ss_core.specs.declared.names.Place.{Place}
use Rattle.ss_ast.specs.declared.token.Symbol.{Symbol}
use Rattle.ss_ast.specs.declared.token.Symbol.TheVariants as symbol
use Rattle.ss_ast.specs.Tokens.{Kind, ASymbol, AName}
use Rattle.ss_ast.specs.Expressions.{NameTree, TypeTree, ExprTree, ElementOf, Behind}
use Rattle.ss_ast.specs.Statements.{ForInitTree}
use Rattle.ss_grammar.specs.Language.{Done, After, Take, Bind}
use Rattle.ss_grammar.proofs.Facts.{known}
use Rattle.ss_grammar.proofs.Good.{many_from, many_to, bind_in}
use Rattle.ss_grammar_expressions.specs.First.{Chosen}
use Rattle.ss_grammar_expressions.specs.Heads.{Piece, AToken, LeftOut, is, found, the, symbol_is, a_name, name_of, PostfixHead, IndexHead, postfix_head, postfix_of}
use Rattle.ss_grammar_expressions.specs.Grammar.{TheExpression, TheRange, Parts, Deeper, Brackets, BangEnd, TypeEnd, type_of, AnyName, IndexEnd, head_of, named, joined, PostfixAfter, Postfixes}
use Rattle.ss_grammar_expressions.proofs.Sets.{code, In, disjoint, disjoint_in}
use Rattle.ss_grammar_expressions.proofs.Levels.{may_open, the_in}
use Rattle.ss_grammar_expressions.proofs.Pieces.{unary_first, postfix_set, name_in}
use Rattle.ss_grammar_expressions.proofs.Expressions.{inner_parts}
use Rattle.ss_grammar_expressions.proofs.Tied.{reads_all}
use Rattle.ss_grammar_statements.specs.Heads.{NextHead, NextName, NextBang, NextBracket, next_of, next_head}
use Rattle.ss_grammar_statements.specs.Grammar.{declares, DeclsFrom, Declared, SimpleThen, SimpleFrom, ElementOrArray, NextAfter, NameAfter}
use Rattle.ss_grammar_statements.specs.Written.{declares_names}
use Rattle.ss_grammar_statements.proofs.Pieces.{simple_set}
use Rattle.ss_grammar_statements.proofs.Paths.{simple_then_to, simple_from_to}
use Rattle.ss_grammar_statements.proofs.Written.{assoc, unassoc, from_done, to_done, Exprs, exprs, whole_at}

-- ---- the tokens after a name

name_next : (t : Piece) (m : NameTree) → a_name t ≡ Some m → next_head t ≡ Some (NextName m)
name_next LeftOut m e = absurd cc
name_next (AToken t) m e = at t.place t.kind e
  where
    at : (p : Place) (k : Kind) → name_of p k ≡ Some m → next_of p k ≡ Some (NextName m)
    at p (AName n) h = ap (option_map NextName) h
    at p _ h = absurd cc

abbrev unnext : Option NextHead → Option NameTree
unnext (Some (NextName m)) = Some m
unnext _ = None

next_name : (t : Piece) (m : NameTree) → next_head t ≡ Some (NextName m) → a_name t ≡ Some m
next_name LeftOut m e = absurd cc
next_name (AToken t) m e = at t.place t.kind e
  where
    sym : (p : Place) (r : Symbol) → next_of p (ASymbol r) ≡ Some (NextName m) → name_of p (ASymbol r) ≡ Some m
    sym p symbol.Bang h = absurd cc
    sym p symbol.OpenBracket h = absurd cc
    sym p _ h = absurd cc

    at : (p : Place) (k : Kind) → next_of p k ≡ Some (NextName m) → name_of p k ≡ Some m
    at p (AName n) h = ap unnext h
    at p (ASymbol r) h = sym p r h
    at p _ h = absurd cc

bang_next : (t : Piece) → known (the symbol.Bang t) ≡ true → next_head t ≡ Some NextBang
bang_next LeftOut e = absurd cc
bang_next (AToken t) e = at t.place t.kind e
  where
    sym : (p : Place) (r : Symbol) → known (symbol_is symbol.Bang p (ASymbol r)) ≡ true → next_of p (ASymbol r) ≡ Some NextBang
    sym p symbol.Bang h = refl
    sym p _ h = absurd cc

    at : (p : Place) (k : Kind) → known (symbol_is symbol.Bang p k) ≡ true → next_of p k ≡ Some NextBang
    at p (ASymbol r) h = sym p r h
    at p _ h = absurd cc

next_bang : (t : Piece) → next_head t ≡ Some NextBang → known (the symbol.Bang t) ≡ true
next_bang LeftOut e = absurd cc
next_bang (AToken t) e = at t.place t.kind e
  where
    sym : (p : Place) (r : Symbol) → next_of p (ASymbol r) ≡ Some NextBang → known (symbol_is symbol.Bang p (ASymbol r)) ≡ true
    sym p symbol.Bang h = refl
    sym p symbol.OpenBracket h = absurd cc
    sym p _ h = absurd cc

    at : (p : Place) (k : Kind) → next_of p k ≡ Some NextBang → known (symbol_is symbol.Bang p k) ≡ true
    at p (ASymbol r) h = sym p r h
    at p _ h = absurd cc

bracket_next : (t : Piece) → known (the symbol.OpenBracket t) ≡ true → next_head t ≡ Some NextBracket
bracket_next LeftOut e = absurd cc
bracket_next (AToken t) e = at t.place t.kind e
  where
    sym : (p : Place) (r : Symbol) → known (symbol_is symbol.OpenBracket p (ASymbol r)) ≡ true → next_of p (ASymbol r) ≡ Some NextBracket
    sym p symbol.OpenBracket h = refl
    sym p _ h = absurd cc

    at : (p : Place) (k : Kind) → known (symbol_is symbol.OpenBracket p k) ≡ true → next_of p k ≡ Some NextBracket
    at p (ASymbol r) h = sym p r h
    at p _ h = absurd cc

next_bracket : (t : Piece) → next_head t ≡ Some NextBracket → (known (the symbol.OpenBracket t) ≡ true) × (postfix_head t ≡ Some IndexHead)
next_bracket LeftOut e = absurd cc
next_bracket (AToken t) e = at t.place t.kind e
  where
    sym : (p : Place) (r : Symbol) → next_of p (ASymbol r) ≡ Some NextBracket → (known (symbol_is symbol.OpenBracket p (ASymbol r)) ≡ true) × (postfix_of (ASymbol r) ≡ Some IndexHead)
    sym p symbol.OpenBracket h = (refl, refl)
    sym p symbol.Bang h = absurd cc
    sym p _ h = absurd cc

    at : (p : Place) (k : Kind) → next_of p k ≡ Some NextBracket → (known (symbol_is symbol.OpenBracket p k) ≡ true) × (postfix_of k ≡ Some IndexHead)
    at p (ASymbol r) h = sym p r h
    at p _ h = absurd cc

-- a token that f knows, and nothing after it
one_known : {A B : Type 0} (o : Option B) (a : A) → known o ≡ true → After {T = Piece} o (λ _. Done a) [] a
one_known None a h = absurd cc
one_known (Some b) a h = (refl, refl)

one_token : {A B : Type 0} (o : Option B) (a : A) (ts : List Piece) (v : A) → After o (λ _. Done a) ts v → (known o ≡ true) × (ts ≡ []) × (v ≡ a)
one_token None a ts v p = absurd p
one_token (Some b) a ts v p = (refl, p.0, p.1)

deeper_is : {A : Type 0} (b : Bool) (L : List Piece → A → Type 0) (ts : List Piece) (v : A) → Deeper b L ts v → (b ≡ true) × L ts v
deeper_is true L ts v p = (refl, p)
deeper_is false L ts v p = absurd p

to_deeper : {A : Type 0} (b : Bool) (L : List Piece → A → Type 0) (ts : List Piece) (v : A) → b ≡ true → L ts v → Deeper b L ts v
to_deeper true L ts v e p = p
to_deeper false L ts v e p = absurd cc

-- ---- an expression one level deeper

no_expr : (d : ℕ) (v : ExprTree) → inner_parts Exprs d TheExpression [] v → ⊥
no_expr zero v p = p
no_expr (suc d) v p = let e : false ≡ true = (reads_all 0 TheExpression).good.facts.empties v (d, p) in cc

expr_first : (d : ℕ) (t : Piece) (m : List Piece) (v : ExprTree) → inner_parts Exprs d TheExpression (t ∷ m) v → In unary_first t ≡ true
expr_first zero t m v p = absurd p
expr_first (suc d) t m v p = (reads_all 0 TheExpression).good.facts.firsts t m v (d, p)

-- no index begins with `]`
not_index : {B : Type 0} (d : ℕ) (K : ExprTree → List Piece → B → Type 0) (t : Piece) (m : List Piece) (v : B) → known (the symbol.CloseBracket t) ≡ true → Bind (IndexEnd (inner_parts Exprs d TheExpression)) K (t ∷ m) v → ⊥
not_index d K t m v h q = at q.front q.reads q.parts
  where
    inside : (r : Piece) (u : List Piece) (x : ExprTree) → IndexEnd (inner_parts Exprs d TheExpression) (r ∷ u) x → r ≡ t → ⊥
    inside r u x i e = deep i.front i.reads i.parts
      where
        deep : (front : List Piece) → inner_parts Exprs d TheExpression front i.first → r ∷ u ≡ front ++ i.back → ⊥
        deep [] j g = no_expr d i.first j
        deep (s ∷ front) j g =
            let k : s ≡ t = (let y : r ≡ s = cc in sym y ∙ e) in
            disjoint_in (code t) (18 ∷ []) unary_first refl (the_in symbol.CloseBracket t h) (expr_first d t front i.first (subst (λ y. inner_parts Exprs d TheExpression (y ∷ front) i.first) k j))

    at : (front : List Piece) → IndexEnd (inner_parts Exprs d TheExpression) front q.first → t ∷ m ≡ front ++ q.back → ⊥
    at [] i e = at_nil i.front i.reads i.parts
      where
        at_nil : (front : List Piece) → inner_parts Exprs d TheExpression front i.first → [] ≡ front ++ i.back → ⊥
        at_nil [] j g = no_expr d i.first j
        at_nil (s ∷ front) j g = cc
    at (r ∷ front) i e = inside r front q.first i (let y : t ≡ r = cc in sym y)

module _ (d : ℕ) where
  abbrev o : Bool
  o = may_open d

  abbrev V : Parts
  V = inner_parts Exprs d

  -- ---- what cannot come

  not_path : (p : Place) (a : ExprTree) (t : Piece) (m : List Piece) (v : ForInitTree) (s : List ℕ) → In s t ≡ true → disjoint s (postfix_set ++ simple_set) ≡ true → SimpleFrom o V p a (t ∷ m) v → ⊥
  not_path p a t m v s h j q = disjoint_in (code t) s (postfix_set ++ simple_set) j h ((simple_from_to 0 Exprs exprs (reads_all 0 TheExpression) (reads_all 0 TheRange) (whole_at 1) p a).good.facts.firsts t m v (d, q))

  not_end : (a : ExprTree) (t : Piece) (m : List Piece) (v : ForInitTree) → In (17 ∷ []) t ≡ true → SimpleThen o V a (t ∷ m) v → ⊥
  not_end a t m v h q = disjoint_in (code t) (17 ∷ []) simple_set refl h ((simple_then_to 0 Exprs exprs (reads_all 0 TheExpression) (reads_all 0 TheRange) (whole_at 1) a).good.facts.firsts t m v (d, q))

  -- ---- a choice by the token after the name

  choose_next : (n : NameTree) (t : Piece) (h : NextHead) (ts : List Piece) (v : ForInitTree) → next_head t ≡ Some h → NextAfter o V n h ts v → NameAfter o V n (t ∷ ts) v
  choose_next n t h ts v e q = subst (λ (b : Bool). Chosen b (Take next_head (NextAfter o V n)) (SimpleFrom o V n.place (named n)) (t ∷ ts) v) (sym (ap found e)) (subst (λ (x : Option NextHead). After x (NextAfter o V n) ts v) (sym e) q)

  choose_path : (n : NameTree) (t : Piece) (ts : List Piece) (v : ForInitTree) → next_head t ≡ None → SimpleFrom o V n.place (named n) (t ∷ ts) v → NameAfter o V n (t ∷ ts) v
  choose_path n t ts v e q = subst (λ (b : Bool). Chosen b (Take next_head (NextAfter o V n)) (SimpleFrom o V n.place (named n)) (t ∷ ts) v) (sym (ap found e)) q

  chosen_next : (n : NameTree) (t : Piece) (h : NextHead) (ts : List Piece) (v : ForInitTree) → next_head t ≡ Some h → NameAfter o V n (t ∷ ts) v → NextAfter o V n h ts v
  chosen_next n t h ts v e q = subst (λ (x : Option NextHead). After x (NextAfter o V n) ts v) e (subst (λ (b : Bool). Chosen b (Take next_head (NextAfter o V n)) (SimpleFrom o V n.place (named n)) (t ∷ ts) v) (ap found e) q)

  chosen_path : (n : NameTree) (t : Piece) (ts : List Piece) (v : ForInitTree) → next_head t ≡ None → NameAfter o V n (t ∷ ts) v → SimpleFrom o V n.place (named n) (t ∷ ts) v
  chosen_path n t ts v e q = subst (λ (b : Bool). Chosen b (Take next_head (NextAfter o V n)) (SimpleFrom o V n.place (named n)) (t ∷ ts) v) (ap found e) q

  -- ---- a declaration

  abbrev Typed : NameTree → List Piece → ForInitTree → Type 0
  Typed n = Bind (TypeEnd o (head_of n)) (Declared o V)

  -- a type's end and a declaration after it
  typed : (n : NameTree) (b s : Bool) (qf rf back : List Piece) (v : ForInitTree) → Brackets o qf b → BangEnd rf s → Declared o V (type_of (head_of n) b s) back v → Typed n ((qf ++ rf) ++ back) v
  typed n b s qf rf back v p r q = record {
    first = type_of (head_of n) b s;
    front = qf ++ rf;
    back = back;
    parts = refl;
    reads = record { first = b; front = qf; back = rf; parts = refl; reads = p; goes_on = record { first = s; front = rf; back = []; parts = sym (append-nil rf); reads = r; goes_on = (refl, refl) } };
    goes_on = q;
  }

  -- a declared name comes first
  plain_declared : (n : NameTree) (ts : List Piece) (v : ForInitTree) → Declared o V (type_of (head_of n) false false) ts v → NameAfter o V n ts v
  plain_declared n ts v q =
      let c : Bind AnyName (λ m. Bind (DeclsFrom o V m) (λ cs. Done (declares (type_of (head_of n) false false) cs))) ts v = assoc AnyName (DeclsFrom o V) (λ cs. Done (declares (type_of (head_of n) false false) cs)) ts v q in
      subst (λ y. NameAfter o V n y v) (sym c.parts) (at c.front c.first c.back c.reads c.goes_on)
    where
      at : (front : List Piece) (m : NameTree) (back : List Piece) → AnyName front m → NextAfter o V n (NextName m) back v → NameAfter o V n (front ++ back) v
      at [] m back p r = absurd p
      at (t ∷ front) m back p r = in_name (a_name t) refl p
        where
          in_name : (x : Option NameTree) → a_name t ≡ x → After x Done front m → NameAfter o V n (t ∷ (front ++ back)) v
          in_name None e p = absurd p
          in_name (Some k) e p =
              let h : k ≡ m = sym p.1 in
              choose_next n t (NextName m) (front ++ back) v (name_next t m (subst (λ y. a_name t ≡ Some y) h e)) (subst (λ (y : List Piece). NextAfter o V n (NextName m) (y ++ back) v) (sym p.0) r)

  bang_name : (n : NameTree) (s : Bool) (rf back : List Piece) (v : ForInitTree) → BangEnd rf s → Declared o V (type_of (head_of n) false s) back v → NameAfter o V n (rf ++ back) v
  bang_name n s [] back v r q = plain_declared n back v (subst (λ y. Declared o V (type_of (head_of n) false y) back v) r q)
  bang_name n s (t ∷ rf) back v r q =
      let k = one_token (the symbol.Bang t) true rf s r in
      choose_next n t NextBang (rf ++ back) v (bang_next t k.0) (subst (λ (y : List Piece). Declared o V (type_of (head_of n) false true) (y ++ back) v) (sym k.1) (subst (λ y. Declared o V (type_of (head_of n) false y) back v) k.2 q))

  abbrev Arrayed : NameTree → List Piece → ForInitTree → Type 0
  Arrayed n = Bind BangEnd (λ s. Declared o V (type_of (head_of n) true s))

  array_choice : (n : NameTree) (t : Piece) (ts : List Piece) (v : ForInitTree) → known (the symbol.CloseBracket t) ≡ true → Arrayed n ts v → ElementOrArray o V n (t ∷ ts) v
  array_choice n t ts v h q = subst (λ (b : Bool). Chosen b (Take (the symbol.CloseBracket) (λ _. Arrayed n)) (Bind (IndexEnd (V TheExpression)) (λ i. SimpleFrom o V n.place (ElementOf n.place (named n) i))) (t ∷ ts) v) (sym h) (at (the symbol.CloseBracket t) h)
    where
      at : (x : Option Place) → known x ≡ true → After x (λ _. Arrayed n) ts v
      at None e = absurd cc
      at (Some p) e = q

  closed_bracket : (b : Bool) (t : Piece) (qf : List Piece) (x : Option Place) → After x (λ _. Deeper o (Take (the symbol.CloseBracket) (λ _. Done true))) qf b → (known x ≡ true) × (o ≡ true) × Take (the symbol.CloseBracket) (λ _. Done true) qf b
  closed_bracket b t qf None p = absurd p
  closed_bracket b t qf (Some k) p =
      let z = deeper_is o (Take (the symbol.CloseBracket) (λ _. Done true)) qf b p in
      (refl, z.0, z.1)

  brackets_name : (n : NameTree) (b s : Bool) (qf rf back : List Piece) (v : ForInitTree) → Brackets o qf b → BangEnd rf s → Declared o V (type_of (head_of n) b s) back v → NameAfter o V n ((qf ++ rf) ++ back) v
  brackets_name n b s [] rf back v p r q = bang_name n s rf back v r (subst (λ y. Declared o V (type_of (head_of n) y s) back v) p q)
  brackets_name n b s (t ∷ qf) rf back v p r q =
      let z = closed_bracket b t qf (the symbol.OpenBracket t) p in
      choose_next n t NextBracket ((qf ++ rf) ++ back) v (bracket_next t z.0) (to_deeper o (ElementOrArray o V n) ((qf ++ rf) ++ back) v z.1 (at qf z.2))
    where
      at : (qf : List Piece) → Take (the symbol.CloseBracket) (λ _. Done true) qf b → ElementOrArray o V n ((qf ++ rf) ++ back) v
      at [] k = absurd k
      at (y ∷ qf) k =
          let j = one_token (the symbol.CloseBracket y) true qf b k in
          array_choice n y ((qf ++ rf) ++ back) v j.0 (subst (λ (z : List Piece). Arrayed n ((z ++ rf) ++ back) v) (sym j.1) (record { first = s; front = rf; back = back; parts = refl; reads = r; goes_on = subst (λ z. Declared o V (type_of (head_of n) z s) back v) j.2 q }))

  -- a declaration whose type the name begins
  pub typed_name : (n : NameTree) (ts : List Piece) (v : ForInitTree) → Typed n ts v → NameAfter o V n ts v
  typed_name n ts v p =
      let r = p.reads in
      let s = r.goes_on in
      let e : r.back ≡ s.front = s.parts ∙ ap (λ y. s.front ++ y) s.goes_on.0 ∙ append-nil s.front in
      let f : ts ≡ (r.front ++ s.front) ++ p.back = p.parts ∙ ap (λ y. y ++ p.back) (r.parts ∙ ap (λ y. r.front ++ y) e) in
      subst (λ y. NameAfter o V n y v) (sym f) (brackets_name n r.first s.first r.front s.front p.back v r.reads s.reads (subst (λ t. Declared o V t p.back v) s.goes_on.1 p.goes_on))

  -- ---- a path

  abbrev More : Place → ExprTree → List Piece → ExprTree → Type 0
  More p a = Postfixes o V p a

  abbrev indexed : ExprTree → Behind
  indexed e = λ p a. ElementOf p a e

  abbrev Index : List Piece → ExprTree → Type 0
  Index = IndexEnd (V TheExpression)

  abbrev Elements : Place → ExprTree → List Piece → ForInitTree → Type 0
  Elements p a = Bind Index (λ e. SimpleFrom o V p (ElementOf p a e))

  abbrev Indexing : List Piece → Behind → Type 0
  Indexing = Bind Index (λ e. Done (indexed e))

  path_element : (p : Place) (a : ExprTree) (t : Piece) (ts : List Piece) (v : ForInitTree) → In (17 ∷ []) t ≡ true → postfix_head t ≡ Some IndexHead → SimpleFrom o V p a (t ∷ ts) v → (o ≡ true) × Elements p a ts v
  path_element p a t ts v h i q = at q.front q.reads q.parts
    where
      at : (front : List Piece) → More p a front q.first → t ∷ ts ≡ front ++ q.back → (o ≡ true) × Elements p a ts v
      at [] m e = absurd (not_end q.first t ts v h (subst (λ y. SimpleThen o V q.first y v) (sym e) q.goes_on))
      at (r ∷ front) m e =
          let k : r ≡ t = (let y : t ≡ r = cc in sym y) in
          let f : ts ≡ front ++ q.back = cc in
          let w : Bind (PostfixAfter o V IndexHead) (λ b. More p (b p a)) front q.first = subst (λ (x : Option PostfixHead). After x (λ h. Bind (PostfixAfter o V h) (λ b. More p (b p a))) front q.first) (ap postfix_head k ∙ i) (many_to postfix_head (joined p) (PostfixAfter o V) a m.0 (r ∷ front) q.first m.1) in
          let z = deeper_is o Indexing w.front w.first w.reads in
          let x : Bind Indexing (λ b. More p (b p a)) front q.first = record { first = w.first; front = w.front; back = w.back; parts = w.parts; reads = z.1; goes_on = w.goes_on } in
          let y = bind_in Index Index (λ e. Bind (Done (indexed e)) (λ b. More p (b p a))) (λ e. More p (ElementOf p a e)) (λ ts v j. j) (λ e ts v j. from_done (indexed e) (λ b. More p (b p a)) ts v j) front q.first (assoc Index (λ e. Done (indexed e)) (λ b. More p (b p a)) front q.first x) in
          (z.0, assoc Index (λ e. More p (ElementOf p a e)) (SimpleThen o V) ts v (record { first = q.first; front = front; back = q.back; parts = f; reads = y; goes_on = q.goes_on }))

  element_path : (p : Place) (a : ExprTree) (t : Piece) (ts : List Piece) (v : ForInitTree) → o ≡ true → postfix_head t ≡ Some IndexHead → Elements p a ts v → SimpleFrom o V p a (t ∷ ts) v
  element_path p a t ts v l i q =
      let y = unassoc Index (λ e. More p (ElementOf p a e)) (SimpleThen o V) ts v q in
      let x = unassoc Index (λ e. Done (indexed e)) (λ b. More p (b p a)) y.front y.first (bind_in Index Index (λ e. More p (ElementOf p a e)) (λ e. Bind (Done (indexed e)) (λ b. More p (b p a))) (λ ts v j. j) (λ e ts v j. to_done (indexed e) (λ b. More p (b p a)) ts v j) y.front y.first y.reads) in
      let w : Bind (PostfixAfter o V IndexHead) (λ b. More p (b p a)) y.front y.first = record { first = x.first; front = x.front; back = x.back; parts = x.parts; reads = to_deeper o Indexing x.front x.first l x.reads; goes_on = x.goes_on } in
      let m : More p a (t ∷ y.front) y.first = many_from postfix_head (joined p) (PostfixAfter o V) a (t ∷ y.front) y.first (subst (λ (x : Option PostfixHead). After x (λ h. Bind (PostfixAfter o V h) (λ b. More p (b p a))) y.front y.first) (sym i) w) in
      record { first = y.first; front = t ∷ y.front; back = y.back; parts = ap (λ (z : List Piece). t ∷ z) y.parts; reads = m; goes_on = y.goes_on }

  element_choice : (n : NameTree) (ts : List Piece) (v : ForInitTree) → Elements n.place (named n) ts v → ElementOrArray o V n ts v
  element_choice n [] v q = q
  element_choice n (t ∷ ts) v q = at (is (the symbol.CloseBracket) t) refl
    where
      at : (b : Bool) → is (the symbol.CloseBracket) t ≡ b → Chosen (is (the symbol.CloseBracket) t) (Take (the symbol.CloseBracket) (λ _. Arrayed n)) (Elements n.place (named n)) (t ∷ ts) v
      at true e = absurd (not_index d (λ i. SimpleFrom o V n.place (ElementOf n.place (named n) i)) t ts v e q)
      at false e = subst (λ (b : Bool). Chosen b (Take (the symbol.CloseBracket) (λ _. Arrayed n)) (Elements n.place (named n)) (t ∷ ts) v) (sym e) q

  -- a path that the name begins
  pub path_name : (n : NameTree) (ts : List Piece) (v : ForInitTree) → SimpleFrom o V n.place (named n) ts v → NameAfter o V n ts v
  path_name n [] v q = q
  path_name n (t ∷ ts) v q = at (next_head t) refl
    where
      at : (h : Option NextHead) → next_head t ≡ h → NameAfter o V n (t ∷ ts) v
      at None e = choose_path n t ts v e q
      at (Some (NextName m)) e = absurd (not_path n.place (named n) t ts v (32 ∷ []) (name_in t (ap known (next_name t m e))) refl q)
      at (Some NextBang) e = absurd (not_path n.place (named n) t ts v (31 ∷ []) (the_in symbol.Bang t (next_bang t e)) refl q)
      at (Some NextBracket) e =
          let b = next_bracket t e in
          let z = path_element n.place (named n) t ts v (the_in symbol.OpenBracket t b.0) b.1 q in
          choose_next n t NextBracket ts v e (to_deeper o (ElementOrArray o V n) ts v z.0 (element_choice n ts v z.1))

  -- ---- one of the two

  abbrev Told : NameTree → List Piece → ForInitTree → Type 0
  Told n ts v = Typed n ts v ⊎ SimpleFrom o V n.place (named n) ts v

  named_declared : (n m : NameTree) (t : Piece) (ts : List Piece) (v : ForInitTree) → next_head t ≡ Some (NextName m) → NextAfter o V n (NextName m) ts v → Typed n (t ∷ ts) v
  named_declared n m t ts v e q =
      let a : AnyName (t ∷ []) m = subst (λ (x : Option NameTree). After {T = Piece} x Done [] m) (sym (next_name t m e)) (refl, refl) in
      let r : Declared o V (type_of (head_of n) false false) (t ∷ ts) v = record { first = q.first; front = t ∷ q.front; back = q.back; parts = ap (λ (y : List Piece). t ∷ y) q.parts; reads = record { first = m; front = t ∷ []; back = q.front; parts = refl; reads = a; goes_on = q.reads }; goes_on = q.goes_on } in
      typed n false false [] [] (t ∷ ts) v refl refl r

  bracketed : (n : NameTree) (t : Piece) (ts : List Piece) (v : ForInitTree) → next_head t ≡ Some NextBracket → o ≡ true → ElementOrArray o V n ts v → Told n (t ∷ ts) v
  bracketed n t [] v e l q = inr (element_path n.place (named n) t [] v l (next_bracket t e).1 q)
  bracketed n t (s ∷ ts) v e l q = at (the symbol.CloseBracket s) refl
    where
      after : (x : Option Place) → the symbol.CloseBracket s ≡ x → known x ≡ true → After x (λ _. Arrayed n) ts v → Typed n (t ∷ s ∷ ts) v
      after None i h r = absurd r
      after (Some p) i h r =
          let c : Take (the symbol.CloseBracket) (λ _. Done true) (s ∷ []) true = one_known (the symbol.CloseBracket s) true (ap known i ∙ h) in
          let b : Brackets o (t ∷ s ∷ []) true = opened_bracket (the symbol.OpenBracket t) (next_bracket t e).0 (to_deeper o (Take (the symbol.CloseBracket) (λ _. Done true)) (s ∷ []) true l c) in
          subst (λ (y : List Piece). Typed n (t ∷ s ∷ y) v) (sym r.parts) (typed n true r.first (t ∷ s ∷ []) r.front r.back v b r.reads r.goes_on)
        where
          opened_bracket : (x : Option Place) → known x ≡ true → Deeper o (Take (the symbol.CloseBracket) (λ _. Done true)) (s ∷ []) true → After x (λ _. Deeper o (Take (the symbol.CloseBracket) (λ _. Done true))) (s ∷ []) true
          opened_bracket None h k = absurd cc
          opened_bracket (Some y) h k = k

      at : (x : Option Place) → the symbol.CloseBracket s ≡ x → Told n (t ∷ s ∷ ts) v
      at None i = inr (element_path n.place (named n) t (s ∷ ts) v l (next_bracket t e).1 (subst (λ (b : Bool). Chosen b (Take (the symbol.CloseBracket) (λ _. Arrayed n)) (Elements n.place (named n)) (s ∷ ts) v) (ap found i) q))
      at (Some p) i = inl (after (Some p) i refl (subst (λ (x : Option Place). After x (λ _. Arrayed n) ts v) i (subst (λ (b : Bool). Chosen b (Take (the symbol.CloseBracket) (λ _. Arrayed n)) (Elements n.place (named n)) (s ∷ ts) v) (ap found i) q)))

  pub name_told : (n : NameTree) (ts : List Piece) (v : ForInitTree) → NameAfter o V n ts v → Told n ts v
  name_told n [] v q = inr q
  name_told n (t ∷ ts) v q = at (next_head t) refl
    where
      at : (h : Option NextHead) → next_head t ≡ h → Told n (t ∷ ts) v
      at None e = inr (chosen_path n t ts v e q)
      at (Some (NextName m)) e = inl (named_declared n m t ts v e (chosen_next n t (NextName m) ts v e q))
      at (Some NextBang) e = inl (typed n false true [] (t ∷ []) ts v refl (one_known (the symbol.Bang t) true (next_bang t e)) (chosen_next n t NextBang ts v e q))
      at (Some NextBracket) e =
          let z = deeper_is o (ElementOrArray o V n) ts v (chosen_next n t NextBracket ts v e q) in
          bracketed n t ts v e z.0 z.1

  -- ---- where a type and a name come first

  pub declared_is : (t : TypeTree) (ts : List Piece) (v : ForInitTree) → Declared o V t ts v → declares_names v ≡ true
  declared_is t ts v q = ap declares_names q.goes_on.1

  arrayed_is : (n : NameTree) (s : Piece) (ts : List Piece) (v : ForInitTree) → known (the symbol.CloseBracket s) ≡ true → ElementOrArray o V n (s ∷ ts) v → declares_names v ≡ true
  arrayed_is n s ts v h q = at (the symbol.CloseBracket s) (subst (λ (b : Bool). Chosen b (Take (the symbol.CloseBracket) (λ _. Arrayed n)) (Elements n.place (named n)) (s ∷ ts) v) h q)
    where
      at : (x : Option Place) → After x (λ _. Arrayed n) ts v → declares_names v ≡ true
      at None r = absurd r
      at (Some p) r = declared_is (type_of (head_of n) true r.first) r.back v r.goes_on

  -- after a name: what is left of a type, and a name
  pub begun_is : (n m : NameTree) (b s : Bool) (qf rf nf rest : List Piece) (v : ForInitTree) → Brackets o qf b → BangEnd rf s → AnyName nf m → NameAfter o V n ((qf ++ (rf ++ nf)) ++ rest) v → declares_names v ≡ true
  begun_is n m b s [] [] [] rest v p r k q = absurd k
  begun_is n m b s [] [] (t ∷ nf) rest v p r k q = at (a_name t) refl k
    where
      at : (x : Option NameTree) → a_name t ≡ x → After x Done nf m → declares_names v ≡ true
      at None e j = absurd j
      at (Some y) e j = ap declares_names (chosen_next n t (NextName y) (nf ++ rest) v (name_next t y e) q).goes_on.1
  begun_is n m b s [] (t ∷ rf) nf rest v p r k q =
      declared_is (type_of (head_of n) false true) ((rf ++ nf) ++ rest) v (chosen_next n t NextBang ((rf ++ nf) ++ rest) v (bang_next t (one_token (the symbol.Bang t) true rf s r).0) q)
  begun_is n m b s (t ∷ qf) rf nf rest v p r k q =
      let z = closed_bracket b t qf (the symbol.OpenBracket t) p in
      at qf z.2 (deeper_is o (ElementOrArray o V n) ((qf ++ (rf ++ nf)) ++ rest) v (chosen_next n t NextBracket ((qf ++ (rf ++ nf)) ++ rest) v (bracket_next t z.0) q)).1
    where
      at : (qf : List Piece) → Take (the symbol.CloseBracket) (λ _. Done true) qf b → ElementOrArray o V n ((qf ++ (rf ++ nf)) ++ rest) v → declares_names v ≡ true
      at [] j c = absurd j
      at (y ∷ qf) j c = arrayed_is n y ((qf ++ (rf ++ nf)) ++ rest) v (one_token (the symbol.CloseBracket y) true qf b j).0 c
