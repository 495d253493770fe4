-- A term of a `modifies` clause, whose end is told by its tokens, is one of the plain productions, and each of these is such a term.
use Rattle.std.proofs.Common.{◌≡◌, ℕ, zero, suc, List, [], ◌∷◌, ◌++◌, Option, Some, None, Bool, true, false, refl, sym, ap, subst, ◌∙◌, append_assoc}
use Rattle.std.proofs.lemmas.List.{append-nil}
use Rattle.ss_core.specs.declared.names.Place.{Place}
use Rattle.ss_ast.specs.declared.token.Symbol.{Symbol}
use Rattle.ss_ast.specs.declared.token.Symbol.TheVariants as symbol
use Rattle.ss_ast.specs.Tokens.{Kind, AWord, ASymbol, AName, ANumber, AText, AnEnd}
use Rattle.ss_ast.specs.Expressions.{NameTree, ExprTree, Behind, MemberOf, ElementOf, CallOf, arguments}
use Rattle.ss_ast.specs.Programs.{ModifiedTree, AllOf, ElementsOf, OneOf}
use Rattle.ss_grammar.specs.Language.{Done, After, Take, Maybe, Bind, Times, Many, Inside}
use Rattle.ss_grammar_expressions.specs.First.{Chosen, Choose, Here}
use Rattle.ss_grammar_expressions.specs.Heads.{Piece, AToken, LeftOut, place_at, is, found, the, a_name, PostfixHead, DotHead, IndexHead, CallHead, postfix_head, Head, unary_head}
use Rattle.ss_grammar_expressions.specs.Grammar.{TheExpression, Parts, NoParts, AtLevel, AnyName, ArgsEnd, IndexEnd, PostfixAfter, Postfixes, joined, UnaryAfter, Unary, WholeExpression}
use Rattle.ss_grammar_statements.specs.Grammar.{Prim}
use Rattle.ss_grammar_programs.specs.Again.{AtMost, Again}
use Rattle.ss_grammar_programs.specs.Grammar.{AtDepth, Reached, Path, Whole, path_goes, Step, stepped, modified, DotStep, IndexStep, StepAfter, AnyStep, ModifiedFrom, Modified}
use Rattle.ss_grammar_programs.specs.Terms.{PostfixesAt, AllAfter, ElementsAfter, PathThen, Term, all, elements, one}

-- what was read of a term: a path, or a path and what ends it
pub data Read : ℕ → Place → ExprTree → List Piece → Reached → Type 0 where
  path : {d : ℕ} {p : Place} {a : ExprTree} {ts : List Piece} (b : ExprTree) → PostfixesAt d p a ts b → Read d p a ts (Path b)
  ended : {d : ℕ} {p : Place} {a : ExprTree} {ts : List Piece} (m : ModifiedTree) → Bind (PostfixesAt d p a) AllAfter ts m → Read d p a ts (Whole m)
  indexed : {d : ℕ} {p : Place} {a : ExprTree} {ts : List Piece} (m : ModifiedTree) → Bind (PostfixesAt d p a) (ElementsAfter d) ts m → Read d p a ts (Whole m)

-- ---- one postfix more in front

none : (d : ℕ) (p : Place) (a : ExprTree) → PostfixesAt d p a [] a
none zero p a = (0, (refl, refl))
none (suc d) p a = (0, (refl, refl))

-- what a postfix does, at depth d
abbrev Does : ℕ → PostfixHead → List Piece → Behind → Type 0
Does zero h = PostfixAfter false NoParts h
Does (suc d) h = PostfixAfter true (AtLevel d) h

front_many : (K : PostfixHead → List Piece → Behind → Type 0) (p : Place) (h : PostfixHead) (t : Piece) (front back : List Piece) (f : Behind) (a b : ExprTree) → postfix_head t ≡ Some h → K h front f → Many postfix_head K (joined p) (f p a) back b → Many postfix_head K (joined p) a (t ∷ (front ++ back)) b
front_many K p h t front back f a b e k m =
    (suc m.0, subst (λ (o : Option PostfixHead). After o (λ g. Bind (K g) (λ r. Times postfix_head K (joined p) m.0 (joined p a g r))) (front ++ back) b) (sym e) (record { first = f; front = front; back = back; parts = refl; reads = k; goes_on = m.1 }))

front_path : (d : ℕ) (p : Place) (h : PostfixHead) (t : Piece) (front back : List Piece) (f : Behind) (a b : ExprTree) → postfix_head t ≡ Some h → Does d h front f → PostfixesAt d p (f p a) back b → PostfixesAt d p a (t ∷ (front ++ back)) b
front_path zero p h t front back f a b e k m = front_many (PostfixAfter false NoParts) p h t front back f a b e k m
front_path (suc d) p h t front back f a b e k m = front_many (PostfixAfter true (AtLevel d)) p h t front back f a b e k m

front_bind : (d : ℕ) (p : Place) (h : PostfixHead) (t : Piece) (front back : List Piece) (f : Behind) (a : ExprTree) (K : ExprTree → List Piece → ModifiedTree → Type 0) (m : ModifiedTree) → postfix_head t ≡ Some h → Does d h front f → Bind (PostfixesAt d p (f p a)) K back m → Bind (PostfixesAt d p a) K (t ∷ (front ++ back)) m
front_bind d p h t front back f a K m e k b = record {
  first = b.first;
  front = t ∷ (front ++ b.front);
  back = b.back;
  parts = ap (λ (y : List Piece). t ∷ y) (ap (λ y. front ++ y) b.parts ∙ sym (append_assoc front b.front b.back));
  reads = front_path d p h t front b.front f a b.first e k b.reads;
  goes_on = b.goes_on;
}

more : (d : ℕ) (p : Place) (h : PostfixHead) (t : Piece) (front back : List Piece) (f : Behind) (a : ExprTree) (r : Reached) → postfix_head t ≡ Some h → Does d h front f → Read d p (f p a) back r → Read d p a (t ∷ (front ++ back)) r
more d p h t front back f a _ e k (path b q) = path b (front_path d p h t front back f a b e k q)
more d p h t front back f a _ e k (ended m q) = ended m (front_bind d p h t front back f a AllAfter m e k q)
more d p h t front back f a _ e k (indexed m q) = indexed m (front_bind d p h t front back f a (ElementsAfter d) m e k q)

-- ---- after a whole term nothing more is read

whole_done : (d n : ℕ) (p : Place) (m : ModifiedTree) (ts : List Piece) (r : Reached) → AtMost path_goes (AnyStep d) (stepped p) n (Whole m) ts r → (ts ≡ []) × (r ≡ Whole m)
whole_done d zero p m ts r q = q
whole_done d (suc n) p m [] r q = q
whole_done d (suc n) p m (t ∷ ts) r q = q

-- ---- a step

chosen : {A : Type 0} {X : Type 0} (b : Bool) (L M : List Piece → A → Type 0) (ts : List Piece) (v : A) → (L ts v → X) → (M ts v → X) → Chosen b L M ts v → X
chosen true L M ts v f g p = f p
chosen false L M ts v f g p = g p

-- one of the two
choice : {A : Type 0} {X : Type 0} (f : Piece → Bool) (L M : List Piece → A → Type 0) (ts : List Piece) (v : A) → (L ts v → X) → (M ts v → X) → Choose f L M ts v → X
choice f L M [] v g h p = h p
choice f L M (t ∷ ts) v g h p = chosen (f t) L M (t ∷ ts) v g h p

after_end : {A B C : Type 0} (o : Option C) (g : A) (v : B) (front back : List Piece) (s : A) → After o (λ _. Done g) front s → back ≡ [] → After o (λ _. Done v) (front ++ back) v × (s ≡ g)
after_end None g v front back s p e = absurd p
after_end (Some c) g v front back s p e = ((ap (λ y. y ++ back) p.0 ∙ e, refl), p.1)

-- a token and nothing after it
token_end : {A B C : Type 0} (f : Piece → Option C) (g : A) (v : B) (front back : List Piece) (s : A) → Take f (λ _. Done g) front s → back ≡ [] → Take f (λ _. Done v) (front ++ back) v × (s ≡ g)
token_end f g v [] back s p e = absurd p
token_end f g v (x ∷ front) back s p e = after_end (f x) g v front back s p e

after_two : {A B C D : Type 0} (o : Option C) (f : Piece → Option D) (g : A) (v : B) (front back : List Piece) (s : A) → After o (λ _. Take f (λ _. Done g)) front s → back ≡ [] → After o (λ _. Take f (λ _. Done v)) (front ++ back) v × (s ≡ g)
after_two None f g v front back s p e = absurd p
after_two (Some c) f g v front back s p e = token_end f g v front back s p e

two_end : {A B C D : Type 0} (h : Piece → Option C) (f : Piece → Option D) (g : A) (v : B) (front back : List Piece) (s : A) → Take h (λ _. Take f (λ _. Done g)) front s → back ≡ [] → Take h (λ _. Take f (λ _. Done v)) (front ++ back) v × (s ≡ g)
two_end h f g v [] back s p e = absurd p
two_end h f g v (x ∷ front) back s p e = after_two (h x) f g v front back s p e

dot_symbol : (p : Place) (s : Symbol) (K : List Piece → ModifiedTree → Type 0) (ts : List Piece) (m : ModifiedTree) → postfix_head (AToken (record { kind = ASymbol s; place = p })) ≡ Some DotHead → K ts m → Take (the symbol.Dot) (λ _. K) (AToken (record { kind = ASymbol s; place = p }) ∷ ts) m
dot_symbol p symbol.Dot K ts m e k = k
dot_symbol p _ K ts m e k = absurd cc

bracket_symbol : (p : Place) (s : Symbol) (K : List Piece → ModifiedTree → Type 0) (ts : List Piece) (m : ModifiedTree) → postfix_head (AToken (record { kind = ASymbol s; place = p })) ≡ Some IndexHead → K ts m → Take (the symbol.OpenBracket) (λ _. K) (AToken (record { kind = ASymbol s; place = p }) ∷ ts) m
bracket_symbol p symbol.OpenBracket K ts m e k = k
bracket_symbol p _ K ts m e k = absurd cc

dot_first : (t : Piece) (K : List Piece → ModifiedTree → Type 0) (ts : List Piece) (m : ModifiedTree) → postfix_head t ≡ Some DotHead → K ts m → Take (the symbol.Dot) (λ _. K) (t ∷ ts) m
dot_first LeftOut K ts m e k = absurd cc
dot_first (AToken t) K ts m e k = at t.kind t.place e
  where
    at : (c : Kind) (p : Place) → postfix_head (AToken (record { kind = c; place = p })) ≡ Some DotHead → Take (the symbol.Dot) (λ _. K) (AToken (record { kind = c; place = p }) ∷ ts) m
    at (ASymbol s) p e = dot_symbol p s K ts m e k
    at (AWord w) p e = absurd cc
    at (AName n) p e = absurd cc
    at (ANumber n) p e = absurd cc
    at (AText n) p e = absurd cc
    at AnEnd p e = absurd cc

bracket_first : (t : Piece) (K : List Piece → ModifiedTree → Type 0) (ts : List Piece) (m : ModifiedTree) → postfix_head t ≡ Some IndexHead → K ts m → Take (the symbol.OpenBracket) (λ _. K) (t ∷ ts) m
bracket_first LeftOut K ts m e k = absurd cc
bracket_first (AToken t) K ts m e k = at t.kind t.place e
  where
    at : (c : Kind) (p : Place) → postfix_head (AToken (record { kind = c; place = p })) ≡ Some IndexHead → Take (the symbol.OpenBracket) (λ _. K) (AToken (record { kind = c; place = p }) ∷ ts) m
    at (ASymbol s) p e = bracket_symbol p s K ts m e k
    at (AWord w) p e = absurd cc
    at (AName n) p e = absurd cc
    at (ANumber n) p e = absurd cc
    at (AText n) p e = absurd cc
    at AnEnd p e = absurd cc

module _ (n : ℕ) (p : Place) (a : ExprTree) (t : Piece) (front back : List Piece) (s : Step) (r : Reached) where
  abbrev Rest : ℕ → Reached → Type 0
  Rest d x = AtMost path_goes (AnyStep d) (stepped p) n x back r

  abbrev Goal : ℕ → Type 0
  Goal d = Read d p a (t ∷ (front ++ back)) r

  -- the step s is g
  rest_of : (d : ℕ) (g : Step) → s ≡ g → Rest d (s p a) → Rest d (g p a)
  rest_of d g e m = subst (λ (h : Step). Rest d (h p a)) e m

  to_all : (d : ℕ) → postfix_head t ≡ Some DotHead → Take (the symbol.Star) (λ _. Done (λ (q : Place) (b : ExprTree). Whole (AllOf b))) front s → Rest d (s p a) → Goal d
  to_all d e q m =
      let is = (token_end (the symbol.Star) (λ (q : Place) (b : ExprTree). Whole (AllOf b)) (AllOf a) front [] s q refl).1 in
      let w = whole_done d n p (AllOf a) back r (rest_of d (λ q b. Whole (AllOf b)) is m) in
      let k = (token_end (the symbol.Star) (λ (q : Place) (b : ExprTree). Whole (AllOf b)) (AllOf a) front back s q w.0).0 in
      subst (λ (x : Reached). Read d p a (t ∷ (front ++ back)) x) (sym w.1) (ended (AllOf a) (record { first = a; front = []; back = t ∷ (front ++ back); parts = refl; reads = none d p a; goes_on = dot_first t (Take (the symbol.Star) (λ _. Done (AllOf a))) (front ++ back) (AllOf a) e k }))

  to_elements : (d : ℕ) → postfix_head t ≡ Some IndexHead → Take (the symbol.Star) (λ _. Take (the symbol.CloseBracket) (λ _. Done (λ (q : Place) (b : ExprTree). Whole (ElementsOf b)))) front s → Rest (suc d) (s p a) → Goal (suc d)
  to_elements d e q m =
      let is = (two_end (the symbol.Star) (the symbol.CloseBracket) (λ (q : Place) (b : ExprTree). Whole (ElementsOf b)) (ElementsOf a) front [] s q refl).1 in
      let w = whole_done (suc d) n p (ElementsOf a) back r (rest_of (suc d) (λ q b. Whole (ElementsOf b)) is m) in
      let k = (two_end (the symbol.Star) (the symbol.CloseBracket) (λ (q : Place) (b : ExprTree). Whole (ElementsOf b)) (ElementsOf a) front back s q w.0).0 in
      subst (λ (x : Reached). Read (suc d) p a (t ∷ (front ++ back)) x) (sym w.1) (indexed (ElementsOf a) (record { first = a; front = []; back = t ∷ (front ++ back); parts = refl; reads = none (suc d) p a; goes_on = bracket_first t (Take (the symbol.Star) (λ _. Take (the symbol.CloseBracket) (λ _. Done (ElementsOf a)))) (front ++ back) (ElementsOf a) e k }))

  -- a step that is a postfix
  to_more : {X : Type 0} (d : ℕ) (h : PostfixHead) (L : List Piece → X → Type 0) (f : X → Behind) → postfix_head t ≡ Some h → ((us : List Piece) (g : Behind) → Bind L (λ x. Done (f x)) us g → Does d h us g) → ((b : ExprTree) → Rest d (Path b) → Read d p b back r) → Bind L (λ x. Done (λ (q : Place) (b : ExprTree). Path (f x q b))) front s → Rest d (s p a) → Goal d
  to_more d h L f e does again q m =
      more d p h t front back (f q.first) a r e (does front (f q.first) (record { first = q.first; front = q.front; back = q.back; parts = q.parts; reads = q.reads; goes_on = (q.goes_on.0, refl) })) (again (f q.first p a) (rest_of d (λ q1 b. Path (f q.first q1 b)) q.goes_on.1 m))

  step_read : (d : ℕ) (o : Option PostfixHead) → postfix_head t ≡ o → ((b : ExprTree) → Rest d (Path b) → Read d p b back r) → After o (StepAfter d) front s → Rest d (s p a) → Goal d
  step_read d None e again q m = absurd q
  step_read zero (Some DotHead) e again q m = choice (is (the symbol.Star)) (Take (the symbol.Star) (λ _. Done (λ (q : Place) (b : ExprTree). Whole (AllOf b)))) (Bind AnyName (λ i. Done (λ (q : Place) (b : ExprTree). Path (MemberOf q b i)))) front s (λ x. to_all zero e x m) (λ x. to_more zero DotHead AnyName (λ i q b. MemberOf q b i) e (λ us g y. y) again x m) q
  step_read (suc d) (Some DotHead) e again q m = choice (is (the symbol.Star)) (Take (the symbol.Star) (λ _. Done (λ (q : Place) (b : ExprTree). Whole (AllOf b)))) (Bind AnyName (λ i. Done (λ (q : Place) (b : ExprTree). Path (MemberOf q b i)))) front s (λ x. to_all (suc d) e x m) (λ x. to_more (suc d) DotHead AnyName (λ i q b. MemberOf q b i) e (λ us g y. y) again x m) q
  step_read zero (Some IndexHead) e again q m = absurd q
  step_read (suc d) (Some IndexHead) e again q m = choice (is (the symbol.Star)) (Take (the symbol.Star) (λ _. Take (the symbol.CloseBracket) (λ _. Done (λ (q : Place) (b : ExprTree). Whole (ElementsOf b))))) (Bind (IndexEnd (AtLevel d TheExpression)) (λ i. Done (λ (q : Place) (b : ExprTree). Path (ElementOf q b i)))) front s (λ x. to_elements d e x m) (λ x. to_more (suc d) IndexHead (IndexEnd (AtLevel d TheExpression)) (λ i q b. ElementOf q b i) e (λ us g y. y) again x m) q
  step_read zero (Some CallHead) e again q m = absurd q
  step_read (suc d) (Some CallHead) e again q m = to_more (suc d) CallHead (ArgsEnd (AtLevel d TheExpression)) (λ es q b. CallOf q b (arguments es)) e (λ us g y. y) again q m

done_read : (d : ℕ) (p : Place) (a : ExprTree) (ts : List Piece) (r : Reached) → Done (Path a) ts r → Read d p a ts r
done_read d p a ts r q = subst (λ (y : List Piece). Read d p a y r) (sym q.0) (subst (λ (z : Reached). Read d p a [] z) (sym q.1) (path a (none d p a)))

-- one step and what is read after it
stepping : (d n : ℕ) (p : Place) (a : ExprTree) (ts : List Piece) (r : Reached) → ((c : ExprTree) (us : List Piece) → AtMost path_goes (AnyStep d) (stepped p) n (Path c) us r → Read d p c us r) → Bind (AnyStep d) (λ s. AtMost path_goes (AnyStep d) (stepped p) n (stepped p (Path a) s)) ts r → Read d p a ts r
stepping d n p a ts r again b = at b.front b.reads b.parts
  where
    at : (front : List Piece) → AnyStep d front b.first → ts ≡ front ++ b.back → Read d p a ts r
    at [] x e = absurd x
    at (u ∷ front) x e = subst (λ (y : List Piece). Read d p a y r) (sym e) (step_read n p a u front b.back b.first r d (postfix_head u) refl (λ c m. again c b.back m) x b.goes_on)

reads : (d n : ℕ) (p : Place) (a : ExprTree) (ts : List Piece) (r : Reached) → AtMost path_goes (AnyStep d) (stepped p) n (Path a) ts r → Read d p a ts r
reads d zero p a ts r q = done_read d p a ts r q
reads d (suc n) p a [] r q = done_read d p a [] r q
reads d (suc n) p a (t ∷ ts) r q = chosen (is postfix_head t) (Bind (AnyStep d) (λ s. AtMost path_goes (AnyStep d) (stepped p) n (stepped p (Path a) s))) (Done (Path a)) (t ∷ ts) r (λ b. stepping d n p a (t ∷ ts) r (λ c us m. reads d n p c us r m) b) (λ x. done_read d p a (t ∷ ts) r x) q

-- ---- the term

finish : (d : ℕ) (t : Piece) (us : List Piece) (a : ExprTree) (front back : List Piece) → t ∷ us ≡ front ++ back → AtDepth Prim d front a → (m : ModifiedTree) (r : Reached) → Read d (place_at t) a back r → m ≡ modified r → Term d (t ∷ us) m
finish d t us a front back e prim m _ (path b q) is = one (record { first = a; front = front; back = back; parts = e; reads = prim; goes_on = record { first = b; front = back; back = []; parts = sym (append-nil back); reads = q; goes_on = (refl, is) } })
finish d t us a front back e prim m _ (ended w q) is = all (record { first = a; front = front; back = back; parts = e; reads = prim; goes_on = subst (λ (x : ModifiedTree). Bind (PostfixesAt d (place_at t) a) AllAfter back x) (sym is) q })
finish d t us a front back e prim m _ (indexed w q) is = elements (record { first = a; front = front; back = back; parts = e; reads = prim; goes_on = subst (λ (x : ModifiedTree). Bind (PostfixesAt d (place_at t) a) (ElementsAfter d) back x) (sym is) q })

pub is_term : (d : ℕ) (ts : List Piece) (m : ModifiedTree) → Modified d ts m → Term d ts m
is_term d [] m q = absurd q
is_term d (t ∷ us) m q =
    let b = q.goes_on in
    let e : q.back ≡ b.front = b.parts ∙ ap (λ y. b.front ++ y) b.goes_on.0 ∙ append-nil b.front in
    let r : Read d (place_at t) q.first b.front b.first = reads d b.reads.0 (place_at t) q.first b.front b.first b.reads.1 in
    finish d t us q.first q.front q.back q.parts q.reads m b.first (subst (λ (y : List Piece). Read d (place_at t) q.first y b.first) (sym e) r) b.goes_on.1

-- ---- the other way: what doesn't begin with a `*`

abbrev NoStar : List Piece → Type 0
NoStar [] = Unit {0}
NoStar (u ∷ us) = is (the symbol.Star) u ≡ false

past : {A : Type 0} (L M : List Piece → A → Type 0) (us : List Piece) (v : A) → NoStar us → M us v → Choose (is (the symbol.Star)) L M us v
past L M [] v e m = m
past L M (u ∷ us) v e m = subst (λ (b : Bool). Chosen b L M (u ∷ us) v) (sym e) m

name_no_star : (us back : List Piece) (n : NameTree) → AnyName us n → NoStar (us ++ back)
name_no_star [] back n q = absurd q
name_no_star (LeftOut ∷ us) back n q = absurd q
name_no_star (AToken t ∷ us) back n q = at t.kind t.place q
  where
    at : (c : Kind) (p : Place) → After (a_name (AToken (record { kind = c; place = p }))) Done us n → is (the symbol.Star) (AToken (record { kind = c; place = p })) ≡ false
    at (AName x) p q = refl
    at (AWord w) p q = absurd q
    at (ASymbol s) p q = absurd q
    at (ANumber x) p q = absurd q
    at (AText x) p q = absurd q
    at AnEnd p q = absurd q

symbol_no_star : (p : Place) (s : Symbol) (K : Head → List Piece → ExprTree → Type 0) (us : List Piece) (e : ExprTree) → After (unary_head (AToken (record { kind = ASymbol s; place = p }))) K us e → is (the symbol.Star) (AToken (record { kind = ASymbol s; place = p })) ≡ false
symbol_no_star p symbol.Minus K us e q = refl
symbol_no_star p symbol.Bang K us e q = refl
symbol_no_star p symbol.Open K us e q = refl
symbol_no_star p _ K us e q = absurd q

unary_no_star : (w : Piece) (K : Head → List Piece → ExprTree → Type 0) (us : List Piece) (e : ExprTree) → After (unary_head w) K us e → is (the symbol.Star) w ≡ false
unary_no_star LeftOut K us e q = absurd q
unary_no_star (AToken t) K us e q = at t.kind t.place q
  where
    at : (c : Kind) (p : Place) → After (unary_head (AToken (record { kind = c; place = p }))) K us e → is (the symbol.Star) (AToken (record { kind = c; place = p })) ≡ false
    at (ASymbol s) p q = symbol_no_star p s K us e q
    at (AWord w) p q = refl
    at (AName x) p q = refl
    at (ANumber x) p q = refl
    at (AText x) p q = refl
    at AnEnd p q = refl

whole_no_star : (o : Bool) (V : Parts) (us back : List Piece) (e : ExprTree) → WholeExpression o V us e → NoStar (us ++ back)
whole_no_star o V [] back e q = absurd q
whole_no_star o V (u ∷ us) back e q = subst (λ (y : List Piece). NoStar (y ++ back)) (sym q.parts) (at q.front q.reads)
  where
    at : (ws : List Piece) → Unary o V ws q.first → NoStar ((ws ++ q.back) ++ back)
    at [] r = absurd r
    at (w ∷ ws) r = unary_no_star w (UnaryAfter o V) ws q.first r

expression_no_star : (d : ℕ) (us back : List Piece) (e : ExprTree) → AtLevel d TheExpression us e → NoStar (us ++ back)
expression_no_star zero us back e q = whole_no_star false NoParts us back e q
expression_no_star (suc d) us back e q = whole_no_star true (AtLevel d) us back e q

-- ---- what a postfix does, as a step

abbrev as_path : Behind → Step
as_path f = λ q b. Path (f q b)

as_step : {X : Type 0} (L : List Piece → X → Type 0) (g : X → Behind) (us : List Piece) (f : Behind) → Bind L (λ x. Done (g x)) us f → Bind L (λ x. Done (as_path (g x))) us (as_path f)
as_step L g us f q = record { first = q.first; front = q.front; back = q.back; parts = q.parts; reads = q.reads; goes_on = (q.goes_on.0, ap as_path q.goes_on.1) }

dot_back : (us : List Piece) (f : Behind) → Bind AnyName (λ n. Done (λ (p : Place) (a : ExprTree). MemberOf p a n)) us f → DotStep us (as_path f)
dot_back us f q =
    past (Take (the symbol.Star) (λ _. Done (λ (p : Place) (a : ExprTree). Whole (AllOf a)))) (Bind AnyName (λ n. Done (λ (p : Place) (a : ExprTree). Path (MemberOf p a n)))) us (as_path f)
    (subst NoStar (sym q.parts) (name_no_star q.front q.back q.first q.reads))
    (as_step AnyName (λ n p a. MemberOf p a n) us f q)

index_back : (d : ℕ) (us : List Piece) (f : Behind) → Bind (IndexEnd (AtLevel d TheExpression)) (λ i. Done (λ (p : Place) (a : ExprTree). ElementOf p a i)) us f → IndexStep d us (as_path f)
index_back d us f q =
    let r = q.reads in
    past (Take (the symbol.Star) (λ _. Take (the symbol.CloseBracket) (λ _. Done (λ (p : Place) (a : ExprTree). Whole (ElementsOf a))))) (Bind (IndexEnd (AtLevel d TheExpression)) (λ i. Done (λ (p : Place) (a : ExprTree). Path (ElementOf p a i)))) us (as_path f)
    (subst NoStar (sym (q.parts ∙ ap (λ y. y ++ q.back) r.parts ∙ append_assoc r.front r.back q.back)) (expression_no_star d r.front (r.back ++ q.back) r.first r.reads))
    (as_step (IndexEnd (AtLevel d TheExpression)) (λ i p a. ElementOf p a i) us f q)

step_back : (d : ℕ) (h : PostfixHead) (us : List Piece) (f : Behind) → Does d h us f → StepAfter d h us (as_path f)
step_back zero DotHead us f q = dot_back us f q
step_back (suc d) DotHead us f q = dot_back us f q
step_back zero IndexHead us f q = absurd q
step_back (suc d) IndexHead us f q = index_back d us f q
step_back zero CallHead us f q = absurd q
step_back (suc d) CallHead us f q = as_step (ArgsEnd (AtLevel d TheExpression)) (λ es p a. CallOf p a (arguments es)) us f q

-- ---- steps one after the other

abbrev Steps : ℕ → Place → ℕ → Reached → List Piece → Reached → Type 0
Steps d p n x = AtMost path_goes (AnyStep d) (stepped p) n x

abbrev Goes : ℕ → Place → ExprTree → List Piece → Reached → Type 0
Goes d p a ts r = (n : ℕ) × Steps d p n (Path a) ts r

step_more : (d k : ℕ) (p : Place) (a : ExprTree) (t : Piece) (h : PostfixHead) (front back : List Piece) (s : Step) (r : Reached) → postfix_head t ≡ Some h → StepAfter d h front s → Steps d p k (s p a) back r → Steps d p (suc k) (Path a) (t ∷ (front ++ back)) r
step_more d k p a t h front back s r e q m =
    subst (λ (x : Option PostfixHead). Chosen (found x) (Bind (AnyStep d) (λ g. Steps d p k (stepped p (Path a) g))) (Done (Path a)) (t ∷ (front ++ back)) r) (sym e) (record {
      first = s;
      front = t ∷ front;
      back = back;
      parts = refl;
      reads = subst (λ (x : Option PostfixHead). After x (StepAfter d) front s) (sym e) q;
      goes_on = m;
    })

module _ (d : ℕ) (K : PostfixHead → List Piece → Behind → Type 0) (does : (h : PostfixHead) (us : List Piece) (f : Behind) → K h us f → StepAfter d h us (as_path f)) (p : Place) where
  further : (n : ℕ) (a b : ExprTree) (t : Piece) (us rest : List Piece) (r : Reached) → ((c : ExprTree) (vs : List Piece) → Times postfix_head K (joined p) n c vs b → Goes d p c (vs ++ rest) r) → After (postfix_head t) (λ h. Bind (K h) (λ f. Times postfix_head K (joined p) n (joined p a h f))) us b → Goes d p a (t ∷ (us ++ rest)) r
  further n a b t us rest r again q = at (postfix_head t) refl q
    where
      at : (x : Option PostfixHead) → postfix_head t ≡ x → After x (λ h. Bind (K h) (λ f. Times postfix_head K (joined p) n (joined p a h f))) us b → Goes d p a (t ∷ (us ++ rest)) r
      at None e w = absurd w
      at (Some h) e w =
          let g = again (w.first p a) w.back w.goes_on in
          let i : us ++ rest ≡ w.front ++ (w.back ++ rest) = ap (λ y. y ++ rest) w.parts ∙ append_assoc w.front w.back rest in
          (suc g.0, subst (λ (y : List Piece). Steps d p (suc g.0) (Path a) (t ∷ y) r) (sym i) (step_more d g.0 p a t h w.front (w.back ++ rest) (as_path w.first) r e (does h w.front w.first w.reads) g.1))

  extend : (n m : ℕ) (a b : ExprTree) (ts rest : List Piece) (r : Reached) → Times postfix_head K (joined p) n a ts b → Steps d p m (Path b) rest r → Goes d p a (ts ++ rest) r
  extend zero m a b ts rest r q s = (m, subst (λ (y : List Piece). Steps d p m (Path a) (y ++ rest) r) (sym q.0) (subst (λ (x : ExprTree). Steps d p m (Path x) rest r) q.1 s))
  extend (suc n) m a b [] rest r q s = (m, subst (λ (x : ExprTree). Steps d p m (Path x) rest r) q s)
  extend (suc n) m a b (t ∷ us) rest r q s = further n a b t us rest r (λ c vs w. extend n m c b vs rest r w s) q

path_then : (d m : ℕ) (p : Place) (a b : ExprTree) (ts rest : List Piece) (r : Reached) → PostfixesAt d p a ts b → Steps d p m (Path b) rest r → Goes d p a (ts ++ rest) r
path_then zero m p a b ts rest r q s = extend zero (PostfixAfter false NoParts) (step_back zero) p q.0 m a b ts rest r q.1 s
path_then (suc d) m p a b ts rest r q s = extend (suc d) (PostfixAfter true (AtLevel d)) (step_back (suc d)) p q.0 m a b ts rest r q.1 s

-- ---- what ends a term

-- where a token is there, it is the one that is looked for
taken : {A B : Type 0} (f : Piece → Option B) (K : B → List Piece → A → Type 0) (M : List Piece → A → Type 0) (us : List Piece) (v : A) → Take f K us v → Choose (is f) (Take f K) M us v
taken f K M [] v q = absurd q
taken {A} {B} f K M (u ∷ us) v q = at (f u) refl q
  where
    at : (x : Option B) → f u ≡ x → After x K us v → Choose (is f) (Take f K) M (u ∷ us) v
    at None e r = absurd r
    at (Some b) e r = subst (λ (o : Option B). Chosen (found o) (Take f K) M (u ∷ us) v) (sym e) q

dot_symbol_is : (p : Place) (s : Symbol) (z : Place) → the symbol.Dot (AToken (record { kind = ASymbol s; place = p })) ≡ Some z → postfix_head (AToken (record { kind = ASymbol s; place = p })) ≡ Some DotHead
dot_symbol_is p symbol.Dot z e = refl
dot_symbol_is p _ z e = absurd cc

dot_is : (t : Piece) (z : Place) → the symbol.Dot t ≡ Some z → postfix_head t ≡ Some DotHead
dot_is LeftOut z e = absurd cc
dot_is (AToken t) z e = at t.kind t.place e
  where
    at : (c : Kind) (p : Place) → the symbol.Dot (AToken (record { kind = c; place = p })) ≡ Some z → postfix_head (AToken (record { kind = c; place = p })) ≡ Some DotHead
    at (ASymbol s) p e = dot_symbol_is p s z e
    at (AWord w) p e = absurd cc
    at (AName n) p e = absurd cc
    at (ANumber n) p e = absurd cc
    at (AText n) p e = absurd cc
    at AnEnd p e = absurd cc

bracket_symbol_is : (p : Place) (s : Symbol) (z : Place) → the symbol.OpenBracket (AToken (record { kind = ASymbol s; place = p })) ≡ Some z → postfix_head (AToken (record { kind = ASymbol s; place = p })) ≡ Some IndexHead
bracket_symbol_is p symbol.OpenBracket z e = refl
bracket_symbol_is p _ z e = absurd cc

bracket_is : (t : Piece) (z : Place) → the symbol.OpenBracket t ≡ Some z → postfix_head t ≡ Some IndexHead
bracket_is LeftOut z e = absurd cc
bracket_is (AToken t) z e = at t.kind t.place e
  where
    at : (c : Kind) (p : Place) → the symbol.OpenBracket (AToken (record { kind = c; place = p })) ≡ Some z → postfix_head (AToken (record { kind = c; place = p })) ≡ Some IndexHead
    at (ASymbol s) p e = bracket_symbol_is p s z e
    at (AWord w) p e = absurd cc
    at (AName n) p e = absurd cc
    at (ANumber n) p e = absurd cc
    at (AText n) p e = absurd cc
    at AnEnd p e = absurd cc

abbrev all_step : Step
all_step = λ q c. Whole (AllOf c)

abbrev elements_step : Step
elements_step = λ q c. Whole (ElementsOf c)

-- the last step, which is the whole rest
last_step : (d : ℕ) (p : Place) (b : ExprTree) (t : Piece) (h : PostfixHead) (us : List Piece) (s : Step) (w : ModifiedTree) → s p b ≡ Whole w → postfix_head t ≡ Some h → StepAfter d h us s → Steps d p (suc zero) (Path b) (t ∷ us) (Whole w)
last_step d p b t h us s w i e q = subst (λ (y : List Piece). Steps d p (suc zero) (Path b) (t ∷ y) (Whole w)) (append-nil us) (step_more d zero p b t h us [] s (Whole w) e q (refl, sym i))

ends_in_all : (d : ℕ) (p : Place) (b : ExprTree) (ts : List Piece) (m : ModifiedTree) → AllAfter b ts m → Steps d p (suc zero) (Path b) ts (Whole (AllOf b)) × (m ≡ AllOf b)
ends_in_all d p b [] m q = absurd q
ends_in_all d p b (t ∷ us) m q = at (the symbol.Dot t) refl q
  where
    at : (x : Option Place) → the symbol.Dot t ≡ x → After x (λ _. Take (the symbol.Star) (λ _. Done (AllOf b))) us m → Steps d p (suc zero) (Path b) (t ∷ us) (Whole (AllOf b)) × (m ≡ AllOf b)
    at None e r = absurd r
    at (Some z) e r =
        let k = token_end (the symbol.Star) (AllOf b) all_step us [] m r refl in
        let s : Take (the symbol.Star) (λ _. Done all_step) us all_step = subst (λ (y : List Piece). Take (the symbol.Star) (λ _. Done all_step) y all_step) (append-nil us) k.0 in
        (last_step d p b t DotHead us all_step (AllOf b) refl (dot_is t z e) (taken (the symbol.Star) (λ _. Done all_step) (Bind AnyName (λ n. Done (λ (q : Place) (c : ExprTree). Path (MemberOf q c n)))) us all_step s), k.1)

ends_in_elements : (d : ℕ) (p : Place) (b : ExprTree) (ts : List Piece) (m : ModifiedTree) → ElementsAfter d b ts m → Steps d p (suc zero) (Path b) ts (Whole (ElementsOf b)) × (m ≡ ElementsOf b)
ends_in_elements d p b [] m q = absurd q
ends_in_elements zero p b (t ∷ us) m q = at (the symbol.OpenBracket t) q
  where
    at : (x : Option Place) → After x (λ _. Inside (λ _. Take (the symbol.Star) (λ _. Take (the symbol.CloseBracket) (λ _. Done (ElementsOf b)))) zero) us m → Steps zero p (suc zero) (Path b) (t ∷ us) (Whole (ElementsOf b)) × (m ≡ ElementsOf b)
    at None r = absurd r
    at (Some z) r = absurd r
ends_in_elements (suc d) p b (t ∷ us) m q = at (the symbol.OpenBracket t) refl q
  where
    at : (x : Option Place) → the symbol.OpenBracket t ≡ x → After x (λ _. Take (the symbol.Star) (λ _. Take (the symbol.CloseBracket) (λ _. Done (ElementsOf b)))) us m → Steps (suc d) p (suc zero) (Path b) (t ∷ us) (Whole (ElementsOf b)) × (m ≡ ElementsOf b)
    at None e r = absurd r
    at (Some z) e r =
        let k = two_end (the symbol.Star) (the symbol.CloseBracket) (ElementsOf b) elements_step us [] m r refl in
        let s : Take (the symbol.Star) (λ _. Take (the symbol.CloseBracket) (λ _. Done elements_step)) us elements_step = subst (λ (y : List Piece). Take (the symbol.Star) (λ _. Take (the symbol.CloseBracket) (λ _. Done elements_step)) y elements_step) (append-nil us) k.0 in
        (last_step (suc d) p b t IndexHead us elements_step (ElementsOf b) refl (bracket_is t z e) (taken (the symbol.Star) (λ _. Take (the symbol.CloseBracket) (λ _. Done elements_step)) (Bind (IndexEnd (AtLevel d TheExpression)) (λ i. Done (λ (q : Place) (c : ExprTree). Path (ElementOf q c i)))) us elements_step s), k.1)

-- ---- the whole term

finish_back : (d : ℕ) (p : Place) (a : ExprTree) (ts : List Piece) (m : ModifiedTree) (r : Reached) → Goes d p a ts r → m ≡ modified r → ModifiedFrom p a d ts m
finish_back d p a ts m r g i = record { first = r; front = ts; back = []; parts = sym (append-nil ts); reads = g; goes_on = (refl, i) }

one_back : (d : ℕ) (p : Place) (a : ExprTree) (ts : List Piece) (m : ModifiedTree) → Bind (PostfixesAt d p a) (λ b. Done (OneOf b)) ts m → ModifiedFrom p a d ts m
one_back d p a ts m q =
    let i : ts ≡ q.front ++ [] = q.parts ∙ ap (λ y. q.front ++ y) q.goes_on.0 in
    finish_back d p a ts m (Path q.first) (subst (λ (y : List Piece). Goes d p a y (Path q.first)) (sym i) (path_then d zero p a q.first q.front [] (Path q.first) q.reads (refl, refl))) q.goes_on.1

all_back : (d : ℕ) (p : Place) (a : ExprTree) (ts : List Piece) (m : ModifiedTree) → Bind (PostfixesAt d p a) AllAfter ts m → ModifiedFrom p a d ts m
all_back d p a ts m q =
    let s = ends_in_all d p q.first q.back m q.goes_on in
    finish_back d p a ts m (Whole (AllOf q.first)) (subst (λ (y : List Piece). Goes d p a y (Whole (AllOf q.first))) (sym q.parts) (path_then d (suc zero) p a q.first q.front q.back (Whole (AllOf q.first)) q.reads s.0)) s.1

elements_back : (d : ℕ) (p : Place) (a : ExprTree) (ts : List Piece) (m : ModifiedTree) → Bind (PostfixesAt d p a) (ElementsAfter d) ts m → ModifiedFrom p a d ts m
elements_back d p a ts m q =
    let s = ends_in_elements d p q.first q.back m q.goes_on in
    finish_back d p a ts m (Whole (ElementsOf q.first)) (subst (λ (y : List Piece). Goes d p a y (Whole (ElementsOf q.first))) (sym q.parts) (path_then d (suc zero) p a q.first q.front q.back (Whole (ElementsOf q.first)) q.reads s.0)) s.1

after_path : (d : ℕ) (K : ExprTree → List Piece → ModifiedTree → Type 0) → ((p : Place) (a : ExprTree) (us : List Piece) (m : ModifiedTree) → Bind (PostfixesAt d p a) K us m → ModifiedFrom p a d us m) → (ts : List Piece) (m : ModifiedTree) → PathThen d K ts m → Modified d ts m
after_path d K f [] m q = absurd q
after_path d K f (t ∷ us) m q = record { first = q.first; front = q.front; back = q.back; parts = q.parts; reads = q.reads; goes_on = f (place_at t) q.first q.back m q.goes_on }

pub term_is_modified : (d : ℕ) (ts : List Piece) (m : ModifiedTree) → Term d ts m → Modified d ts m
term_is_modified d ts m (all q) = after_path d AllAfter (all_back d) ts m q
term_is_modified d ts m (elements q) = after_path d (ElementsAfter d) (elements_back d) ts m q
term_is_modified d ts m (one q) = after_path d (λ a. Done (OneOf a)) (one_back d) ts m q
