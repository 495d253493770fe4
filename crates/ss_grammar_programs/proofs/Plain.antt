-- Each of the plain productions is what a member is, told apart by its first tokens.
use Rattle.std.proofs.Common.{◌≡◌, ℕ, zero, suc, List, [], ◌∷◌, ◌++◌, Option, Some, None, Bool, true, false, refl, sym, ap, subst, ◌∙◌, ◌⊎◌, inl, inr}
use Rattle.std.specs.Prelude.{option_map}
use Rattle.ss_core.specs.declared.names.Place.{Place}
use Rattle.ss_ast.specs.declared.token.Word.{Word}
use Rattle.ss_ast.specs.declared.token.Word.TheVariants as word
use Rattle.ss_ast.specs.declared.token.Symbol.{Symbol}
use Rattle.ss_ast.specs.declared.token.Symbol.TheVariants as symbol
use Rattle.ss_ast.specs.Tokens.{Kind, AWord, ASymbol, AName, ANumber, AText, AnEnd}
use Rattle.ss_ast.specs.Expressions.{NameTree, TypeTree, IntType, BoolType, ObjectType}
use Rattle.ss_ast.specs.Statements.{DeclaratorTree}
use Rattle.ss_ast.specs.Programs.{MemberKindTree}
use Rattle.ss_grammar.specs.Language.{Done, After, Take, Maybe, Bind, Times, Inside}
use Rattle.ss_grammar_expressions.specs.First.{Chosen, Choose}
use Rattle.ss_grammar_expressions.specs.Heads.{Piece, AToken, LeftOut, or_left_out, the, a_name, TypeHead, type_head}
use Rattle.ss_grammar_expressions.specs.Grammar.{Parts, NoParts, AtLevel, Deeper, HeldAfter, TypeEnd, AnyName, head_of, WholeExpression}
use Rattle.ss_grammar_statements.specs.Grammar.{Initial, DeclsFrom, declared, join_declarator}
use Rattle.ss_grammar_programs.specs.Heads.{type_follows, fields_follow}
use Rattle.ss_grammar_programs.specs.Grammar.{AtDepth, TypeFrom, ParamsEnd, Fields, Method, Constructor, FieldsOrMethod, Typed, MemberKind}
use Rattle.ss_grammar_programs.specs.Written.{IsFields, IsInvariant, IsVoidMethod, IsTypedMethod, IsConstructor, Plainly, fields, invariant, void_method, typed_method, constructor}

abbrev token_at : Place → Kind → Piece
token_at p k = AToken (record { kind = k; place = p })

-- ---- what a list begins with

abbrev Begins : (Piece → Bool) → List Piece → Type 0
Begins f [] = ⊥
Begins f (u ∷ us) = f u ≡ true

abbrev Avoids : (Piece → Bool) → List Piece → Type 0
Avoids f [] = Unit {0}
Avoids f (u ∷ us) = f u ≡ false

abbrev OrEmpty : (Piece → Bool) → List Piece → Type 0
OrEmpty f ts = (ts ≡ []) ⊎ Begins f ts

pick : {A : Type 0} (f : Piece → Bool) (L M : List Piece → A → Type 0) (ts : List Piece) (v : A) → Begins f ts → L ts v → Choose f L M ts v
pick f L M [] v e q = absurd e
pick f L M (u ∷ us) v e q = subst (λ (b : Bool). Chosen b L M (u ∷ us) v) (sym e) q

skip : {A : Type 0} (f : Piece → Bool) (L M : List Piece → A → Type 0) (ts : List Piece) (v : A) → Avoids f ts → M ts v → Choose f L M ts v
skip f L M [] v e q = q
skip f L M (u ∷ us) v e q = subst (λ (b : Bool). Chosen b L M (u ∷ us) v) (sym e) q

begins_more : (f : Piece → Bool) (ts us : List Piece) → Begins f ts → Begins f (ts ++ us)
begins_more f [] us e = absurd e
begins_more f (t ∷ ts) us e = e

one_begins : (f : Piece → Bool) (ts us : List Piece) → OrEmpty f ts → Begins f us → Begins f (ts ++ us)
one_begins f ts us (inl e) b = subst (λ (y : List Piece). Begins f (y ++ us)) (sym e) b
one_begins f ts us (inr x) b = begins_more f ts us x

both_empty : (f : Piece → Bool) (ts us : List Piece) → OrEmpty f ts → OrEmpty f us → OrEmpty f (ts ++ us)
both_empty f ts us (inr x) o = inr (begins_more f ts us x)
both_empty f ts us (inl e) o = subst (λ (y : List Piece). OrEmpty f (y ++ us)) (sym e) o

maybe_begins : {A B : Type 0} (f : Piece → Bool) (g : Piece → Option B) (K : B → List Piece → A → Type 0) (a : A) (ts : List Piece) (v : A) → ((u : Piece) (b : B) → g u ≡ Some b → f u ≡ true) → Maybe g K a ts v → OrEmpty f ts
maybe_begins f g K a [] v h q = inl refl
maybe_begins {A} {B} f g K a (u ∷ us) v h q = at (g u) refl q
  where
    at : (x : Option B) → g u ≡ x → After x K us v → OrEmpty f (u ∷ us)
    at None e r = absurd r
    at (Some b) e r = inr (h u b e)

times_begins : {A B R : Type 0} (f : Piece → Bool) (g : Piece → Option B) (K : B → List Piece → R → Type 0) (join : A → B → R → A) (n : ℕ) (a : A) (ts : List Piece) (v : A) → ((u : Piece) (b : B) → g u ≡ Some b → f u ≡ true) → Times g K join n a ts v → OrEmpty f ts
times_begins f g K join zero a ts v h q = inl q.0
times_begins f g K join (suc n) a ts v h q = maybe_begins f g (λ b. Bind (K b) (λ r. Times g K join n (join a b r))) a ts v h q

take_begins : {A B : Type 0} (f : Piece → Bool) (g : Piece → Option B) (K : B → List Piece → A → Type 0) (ts : List Piece) (v : A) → ((u : Piece) (b : B) → g u ≡ Some b → f u ≡ true) → Take g K ts v → Begins f ts
take_begins f g K [] v h q = absurd q
take_begins {A} {B} f g K (u ∷ us) v h q = at (g u) refl q
  where
    at : (x : Option B) → g u ≡ x → After x K us v → f u ≡ true
    at None e r = absurd r
    at (Some b) e r = h u b e

-- ---- what tokens say

module _ (f : Piece → Bool) (s : Symbol) (b : Bool) (says : (p : Place) (r : Symbol) (z : Place) → the s (token_at p (ASymbol r)) ≡ Some z → f (token_at p (ASymbol r)) ≡ b) where
  by_symbol : (u : Piece) (z : Place) → the s u ≡ Some z → f u ≡ b
  by_symbol LeftOut z e = absurd cc
  by_symbol (AToken t) z e = at t.kind t.place e
    where
      at : (c : Kind) (p : Place) → the s (token_at p c) ≡ Some z → f (token_at p c) ≡ b
      at (ASymbol r) p e = says p r z e
      at (AWord w) p e = absurd cc
      at (AName n) p e = absurd cc
      at (ANumber n) p e = absurd cc
      at (AText n) p e = absurd cc
      at AnEnd p e = absurd cc

equal_says : (p : Place) (r : Symbol) (z : Place) → the symbol.Equal (token_at p (ASymbol r)) ≡ Some z → fields_follow (token_at p (ASymbol r)) ≡ true
equal_says p symbol.Equal z e = refl
equal_says p _ z e = absurd cc

comma_says : (p : Place) (r : Symbol) (z : Place) → the symbol.Comma (token_at p (ASymbol r)) ≡ Some z → fields_follow (token_at p (ASymbol r)) ≡ true
comma_says p symbol.Comma z e = refl
comma_says p _ z e = absurd cc

semicolon_says : (p : Place) (r : Symbol) (z : Place) → the symbol.Semicolon (token_at p (ASymbol r)) ≡ Some z → fields_follow (token_at p (ASymbol r)) ≡ true
semicolon_says p symbol.Semicolon z e = refl
semicolon_says p _ z e = absurd cc

bracket_says : (p : Place) (r : Symbol) (z : Place) → the symbol.OpenBracket (token_at p (ASymbol r)) ≡ Some z → type_follows (token_at p (ASymbol r)) ≡ true
bracket_says p symbol.OpenBracket z e = refl
bracket_says p _ z e = absurd cc

bang_says : (p : Place) (r : Symbol) (z : Place) → the symbol.Bang (token_at p (ASymbol r)) ≡ Some z → type_follows (token_at p (ASymbol r)) ≡ true
bang_says p symbol.Bang z e = refl
bang_says p _ z e = absurd cc

open_begins_no_field : (p : Place) (r : Symbol) (z : Place) → the symbol.Open (token_at p (ASymbol r)) ≡ Some z → fields_follow (token_at p (ASymbol r)) ≡ false
open_begins_no_field p symbol.Open z e = refl
open_begins_no_field p _ z e = absurd cc

open_begins_no_type : (p : Place) (r : Symbol) (z : Place) → the symbol.Open (token_at p (ASymbol r)) ≡ Some z → type_follows (token_at p (ASymbol r)) ≡ false
open_begins_no_type p symbol.Open z e = refl
open_begins_no_type p _ z e = absurd cc

name_says : (u : Piece) (n : NameTree) → a_name u ≡ Some n → type_follows u ≡ true
name_says LeftOut n e = absurd cc
name_says (AToken t) n e = at t.kind t.place e
  where
    at : (c : Kind) (p : Place) → a_name (token_at p c) ≡ Some n → type_follows (token_at p c) ≡ true
    at (AName x) p e = refl
    at (AWord w) p e = absurd cc
    at (ASymbol s) p e = absurd cc
    at (ANumber x) p e = absurd cc
    at (AText x) p e = absurd cc
    at AnEnd p e = absurd cc

-- ---- what stands after a declared name

decls_begin : (o : Bool) (V : Parts) (n : NameTree) (ts : List Piece) (cs : List DeclaratorTree) → DeclsFrom o V n ts cs → OrEmpty fields_follow ts
decls_begin o V n ts cs q =
    let first = maybe_begins fields_follow (the symbol.Equal) (λ _. Bind (WholeExpression o V) (λ e. Done (declared n (Some e)))) (declared n None) q.front q.first (by_symbol fields_follow symbol.Equal true equal_says) q.reads in
    let others = times_begins fields_follow (the symbol.Comma) (λ _. Bind AnyName (Initial o V)) join_declarator q.goes_on.0 (q.first ∷ []) q.back cs (by_symbol fields_follow symbol.Comma true comma_says) q.goes_on.1 in
    subst (OrEmpty fields_follow) (sym q.parts) (both_empty fields_follow q.front q.back first others)

depth_begins : (d : ℕ) (n : NameTree) (ts : List Piece) (cs : List DeclaratorTree) → AtDepth (λ o V. DeclsFrom o V n) d ts cs → OrEmpty fields_follow ts
depth_begins zero n ts cs q = decls_begin false NoParts n ts cs q
depth_begins (suc d) n ts cs q = decls_begin true (AtLevel d) n ts cs q

fields_begin : (d : ℕ) (t : TypeTree) (n : NameTree) (ts : List Piece) (k : MemberKindTree) → Fields d t n ts k → Begins fields_follow ts
fields_begin d t n ts k q =
    let r = q.reads in
    let ends = take_begins fields_follow (the symbol.Semicolon) (λ _. Done r.first) r.back q.first (by_symbol fields_follow symbol.Semicolon true semicolon_says) r.goes_on in
    let starts = begins_more fields_follow (r.front ++ r.back) q.back (one_begins fields_follow r.front r.back (depth_begins d n r.front r.first r.reads) ends) in
    subst (Begins fields_follow) (sym (q.parts ∙ ap (λ y. y ++ q.back) r.parts)) starts

-- ---- parameters

held_avoids : {A : Type 0} (f : Piece → Bool) (K : Option Place → List Piece → A → Type 0) (ts us : List Piece) (v : A) → f LeftOut ≡ false → ((u : Piece) (z : Place) → the symbol.Open u ≡ Some z → f u ≡ false) → Take (or_left_out (the symbol.Open)) K ts v → Avoids f (ts ++ us)
held_avoids f K [] us v l h q = absurd q
held_avoids f K (LeftOut ∷ ts) us v l h q = l
held_avoids f K (AToken t ∷ ts) us v l h q = at (the symbol.Open (AToken t)) refl q
  where
    at : (x : Option Place) → the symbol.Open (AToken t) ≡ x → After (option_map Some x) K ts v → f (AToken t) ≡ false
    at None e r = absurd r
    at (Some z) e r = h (AToken t) z e

method_avoids : (d : ℕ) (t : Option TypeTree) (n : NameTree) (ts : List Piece) (k : MemberKindTree) → Method d t n ts k → Avoids fields_follow ts
method_avoids d t n ts k q = subst (Avoids fields_follow) (sym q.parts) (held_avoids fields_follow (HeldAfter true (λ (_ : Place). Inside ParamsEnd d) []) q.front q.back q.first refl (by_symbol fields_follow symbol.Open false open_begins_no_field) q.reads)

constructor_avoids : (d : ℕ) (n : NameTree) (ts : List Piece) (k : MemberKindTree) → Constructor d n ts k → Avoids type_follows ts
constructor_avoids d n ts k q = subst (Avoids type_follows) (sym q.parts) (held_avoids type_follows (HeldAfter true (λ (_ : Place). Inside ParamsEnd d) []) q.front q.back q.first refl (by_symbol type_follows symbol.Open false open_begins_no_type) q.reads)

-- ---- after a name that begins a type

type_end_begins : (o : Bool) (h : TypeHead) (ts : List Piece) (t : TypeTree) → TypeEnd o h ts t → OrEmpty type_follows ts
type_end_begins o h ts t q =
    let r = q.goes_on in
    let bracket = maybe_begins type_follows (the symbol.OpenBracket) (λ _. Deeper o (Take (the symbol.CloseBracket) (λ _. Done true))) false q.front q.first (by_symbol type_follows symbol.OpenBracket true bracket_says) q.reads in
    let bang = maybe_begins type_follows (the symbol.Bang) (λ _. Done true) false r.front r.first (by_symbol type_follows symbol.Bang true bang_says) r.reads in
    let behind = subst (OrEmpty type_follows) (sym r.parts) (both_empty type_follows r.front r.back bang (inl r.goes_on.0)) in
    subst (OrEmpty type_follows) (sym q.parts) (both_empty type_follows q.front q.back bracket behind)

type_begins : (d : ℕ) (h : TypeHead) (ts : List Piece) (t : TypeTree) → TypeFrom d h ts t → OrEmpty type_follows ts
type_begins zero h ts t q = type_end_begins false h ts t q
type_begins (suc d) h ts t q = type_end_begins true h ts t q

named_begins : {A : Type 0} (L : NameTree → List Piece → A → Type 0) (ts : List Piece) (v : A) → Bind AnyName L ts v → Begins type_follows ts
named_begins L ts v q = subst (Begins type_follows) (sym q.parts) (begins_more type_follows q.front q.back (take_begins type_follows a_name Done q.front q.first name_says q.reads))

-- ---- members

module _ (d : ℕ) where
  as_fields : (t : TypeTree) (ts : List Piece) (k : MemberKindTree) → Bind AnyName (Fields d t) ts k → Bind AnyName (FieldsOrMethod d t) ts k
  as_fields t ts k q = record { first = q.first; front = q.front; back = q.back; parts = q.parts; reads = q.reads; goes_on = pick fields_follow (Fields d t q.first) (Method d (Some t) q.first) q.back k (fields_begin d t q.first q.back k q.goes_on) q.goes_on }

  as_method : (t : TypeTree) (ts : List Piece) (k : MemberKindTree) → Bind AnyName (Method d (Some t)) ts k → Bind AnyName (FieldsOrMethod d t) ts k
  as_method t ts k q = record { first = q.first; front = q.front; back = q.back; parts = q.parts; reads = q.reads; goes_on = skip fields_follow (Fields d t q.first) (Method d (Some t) q.first) q.back k (method_avoids d (Some t) q.first q.back k q.goes_on) q.goes_on }

  typed : (h : TypeHead) (us back : List Piece) (t : TypeTree) (k : MemberKindTree) → TypeFrom d h us t → Bind AnyName (FieldsOrMethod d t) back k → Typed d h (us ++ back) k
  typed h us back t k q r = record { first = t; front = us; back = back; parts = refl; reads = q; goes_on = r }

  word_first : (p : Place) (w : Word) (us back : List Piece) (t : TypeTree) (k : MemberKindTree) → After (type_head (token_at p (AWord w))) (TypeFrom d) us t → Bind AnyName (FieldsOrMethod d t) back k → MemberKind d (token_at p (AWord w) ∷ (us ++ back)) k
  word_first p word.Int us back t k q r = typed (record { place = p; name = IntType }) us back t k q r
  word_first p word.Bool us back t k q r = typed (record { place = p; name = BoolType }) us back t k q r
  word_first p word.Object us back t k q r = typed (record { place = p; name = ObjectType }) us back t k q r
  word_first p _ us back t k q r = absurd q

  name_first : (n : NameTree) (us back : List Piece) (t : TypeTree) (k : MemberKindTree) → TypeFrom d (head_of n) us t → Bind AnyName (FieldsOrMethod d t) back k → Choose type_follows (Typed d (head_of n)) (Constructor d n) (us ++ back) k
  name_first n us back t k q r = pick type_follows (Typed d (head_of n)) (Constructor d n) (us ++ back) k (one_begins type_follows us back (type_begins d (head_of n) us t q) (named_begins (FieldsOrMethod d t) back k r)) (typed (head_of n) us back t k q r)

  type_first : (u : Piece) (us back : List Piece) (t : TypeTree) (k : MemberKindTree) → After (type_head u) (TypeFrom d) us t → Bind AnyName (FieldsOrMethod d t) back k → MemberKind d (u ∷ (us ++ back)) k
  type_first LeftOut us back t k q r = absurd q
  type_first (AToken x) us back t k q r = at x.kind x.place q
    where
      at : (c : Kind) (p : Place) → After (type_head (token_at p c)) (TypeFrom d) us t → MemberKind d (token_at p c ∷ (us ++ back)) k
      at (AWord w) p q = word_first p w us back t k q r
      at (AName n) p q = name_first (record { text = n; place = p }) us back t k q r
      at (ASymbol s) p q = absurd q
      at (ANumber n) p q = absurd q
      at (AText n) p q = absurd q
      at AnEnd p q = absurd q

  typed_member : (ts : List Piece) (k : MemberKindTree) → Bind (Take type_head (TypeFrom d)) (λ t. Bind AnyName (FieldsOrMethod d t)) ts k → MemberKind d ts k
  typed_member ts k q = subst (λ (y : List Piece). MemberKind d y k) (sym q.parts) (at q.front q.reads)
    where
      at : (us : List Piece) → Take type_head (TypeFrom d) us q.first → MemberKind d (us ++ q.back) k
      at [] r = absurd r
      at (u ∷ us) r = type_first u us q.back q.first k r q.goes_on

  constructor_member : (ts : List Piece) (k : MemberKindTree) → IsConstructor d ts k → MemberKind d ts k
  constructor_member ts k q = subst (λ (y : List Piece). MemberKind d y k) (sym q.parts) (at q.front q.reads)
    where
      named : (c : Kind) (p : Place) (us : List Piece) → After (a_name (token_at p c)) Done us q.first → MemberKind d (token_at p c ∷ (us ++ q.back)) k
      named (AName x) p us r =
          let n : NameTree = record { text = x; place = p } in
          let s : Constructor d n q.back k = subst (λ (i : NameTree). Constructor d i q.back k) r.1 q.goes_on in
          subst (λ (y : List Piece). Choose type_follows (Typed d (head_of n)) (Constructor d n) (y ++ q.back) k) (sym r.0) (skip type_follows (Typed d (head_of n)) (Constructor d n) q.back k (constructor_avoids d n q.back k s) s)
      named (AWord w) p us r = absurd r
      named (ASymbol s) p us r = absurd r
      named (ANumber x) p us r = absurd r
      named (AText x) p us r = absurd r
      named AnEnd p us r = absurd r

      at : (us : List Piece) → AnyName us q.first → MemberKind d (us ++ q.back) k
      at [] r = absurd r
      at (LeftOut ∷ us) r = absurd r
      at (AToken t ∷ us) r = named t.kind t.place us r

  invariant_word : (p : Place) (w : Word) (ts : List Piece) (k : MemberKindTree) → IsInvariant d (token_at p (AWord w) ∷ ts) k → MemberKind d (token_at p (AWord w) ∷ ts) k
  invariant_word p word.Invariant ts k q = q
  invariant_word p _ ts k q = absurd q

  void_word : (p : Place) (w : Word) (ts : List Piece) (k : MemberKindTree) → IsVoidMethod d (token_at p (AWord w) ∷ ts) k → MemberKind d (token_at p (AWord w) ∷ ts) k
  void_word p word.Void ts k q = q
  void_word p _ ts k q = absurd q

  invariant_member : (ts : List Piece) (k : MemberKindTree) → IsInvariant d ts k → MemberKind d ts k
  invariant_member [] k q = absurd q
  invariant_member (LeftOut ∷ ts) k q = absurd q
  invariant_member (AToken t ∷ ts) k q = at t.kind t.place q
    where
      at : (c : Kind) (p : Place) → IsInvariant d (token_at p c ∷ ts) k → MemberKind d (token_at p c ∷ ts) k
      at (AWord w) p q = invariant_word p w ts k q
      at (ASymbol s) p q = absurd q
      at (AName n) p q = absurd q
      at (ANumber n) p q = absurd q
      at (AText n) p q = absurd q
      at AnEnd p q = absurd q

  void_member : (ts : List Piece) (k : MemberKindTree) → IsVoidMethod d ts k → MemberKind d ts k
  void_member [] k q = absurd q
  void_member (LeftOut ∷ ts) k q = absurd q
  void_member (AToken t ∷ ts) k q = at t.kind t.place q
    where
      at : (c : Kind) (p : Place) → IsVoidMethod d (token_at p c ∷ ts) k → MemberKind d (token_at p c ∷ ts) k
      at (AWord w) p q = void_word p w ts k q
      at (ASymbol s) p q = absurd q
      at (AName n) p q = absurd q
      at (ANumber n) p q = absurd q
      at (AText n) p q = absurd q
      at AnEnd p q = absurd q

  fields_member : (ts : List Piece) (k : MemberKindTree) → IsFields d ts k → MemberKind d ts k
  fields_member ts k q = typed_member ts k (record { first = q.first; front = q.front; back = q.back; parts = q.parts; reads = q.reads; goes_on = as_fields q.first q.back k q.goes_on })

  method_member : (ts : List Piece) (k : MemberKindTree) → IsTypedMethod d ts k → MemberKind d ts k
  method_member ts k q = typed_member ts k (record { first = q.first; front = q.front; back = q.back; parts = q.parts; reads = q.reads; goes_on = as_method q.first q.back k q.goes_on })

pub plainly_is_member : (d : ℕ) (ts : List Piece) (k : MemberKindTree) → Plainly d ts k → MemberKind d ts k
plainly_is_member d ts k (fields q) = fields_member d ts k q
plainly_is_member d ts k (invariant q) = invariant_member d ts k q
plainly_is_member d ts k (void_method q) = void_member d ts k q
plainly_is_member d ts k (typed_method q) = method_member d ts k q
plainly_is_member d ts k (constructor q) = constructor_member d ts k q
