-- What begins as a declaration or a simple statement is one of the two productions, and both are read so.
use Rattle.std.proofs.Common.{◌≡◌, ℕ, zero, suc, List, [], ◌∷◌, ◌++◌, true, false, refl, sym, ap, subst, ◌∙◌, append_assoc, ◌⊎◌, inl, inr}
use Rattle.std.proofs.lemmas.List.{append-nil}
use Rattle.ss_core.specs.declared.names.Place.{Place}
use Rattle.ss_ast.specs.declared.token.Symbol.{Symbol}
use Rattle.ss_ast.specs.declared.token.Symbol.TheVariants as symbol
use Rattle.ss_ast.specs.declared.token.Word.{Word}
use Rattle.ss_ast.specs.declared.token.Word.TheVariants as word
use Rattle.ss_ast.specs.Tokens.{Kind, AWord, ASymbol, AName, ANumber, AText, AnEnd}
use Rattle.ss_ast.specs.Expressions.{NameTree, ExprTree, NameOf}
use Rattle.ss_ast.specs.Statements.{ForInitTree, SimpleFirst}
use Rattle.ss_grammar.specs.Language.{Done, After, Take, Bind}
use Rattle.ss_grammar_expressions.specs.Heads.{Piece, AToken, LeftOut, TypeHead, type_head, type_head_kind, unary_kind}
use Rattle.ss_grammar_expressions.specs.Grammar.{Parts, TypeEnd, AnyName, Postfixes}
use Rattle.ss_grammar_expressions.proofs.Levels.{may_open}
use Rattle.ss_grammar_expressions.proofs.Expressions.{inner_parts}
use Rattle.ss_grammar_statements.specs.Heads.{PrimHead, LeafPrim, prim_of, prim_head, start_head}
use Rattle.ss_grammar_statements.specs.Grammar.{Declared, PostAfter, Post, SimpleEnd, SimpleThen, SimpleFrom, NameAfter, StartAfter, ForInit}
use Rattle.ss_grammar_statements.specs.Written.{Declaration, Simply, Leveled, Begins, room, declares_names}
use Rattle.ss_grammar_statements.proofs.Written.{assoc, unassoc, from_done, to_done, take_out, take_back, Exprs}
use Rattle.ss_grammar_statements.proofs.Told.{typed_name, path_name, name_told, declared_is, begun_is}

abbrev token_at : Place → Kind → Piece
token_at p k = AToken (record { kind = k; place = p })

module _ (d : ℕ) where
  abbrev V : Parts
  V = inner_parts Exprs d

  abbrev Typed : TypeHead → List Piece → ForInitTree → Type 0
  Typed h = Bind (TypeEnd (may_open d) h) (Declared (may_open d) V)

  abbrev Pathed : PrimHead → List Piece → ForInitTree → Type 0
  Pathed h = Bind (PostAfter (may_open d) V h) (SimpleThen (may_open d) V)

  abbrev Started : Piece → List Piece → ForInitTree → Type 0
  Started t = After (start_head t) (StartAfter (may_open d) V)

  -- ---- a declaration

  typed_word : (p : Place) (w : Word) (ts : List Piece) (v : ForInitTree) → After (type_head_kind p (AWord w)) Typed ts v → Started (token_at p (AWord w)) ts v
  typed_word p word.Int ts v q = q
  typed_word p word.Bool ts v q = q
  typed_word p word.Object ts v q = q
  typed_word p _ ts v q = absurd q

  typed_kind : (p : Place) (k : Kind) (ts : List Piece) (v : ForInitTree) → After (type_head_kind p k) Typed ts v → Started (token_at p k) ts v
  typed_kind p (AWord w) ts v q = typed_word p w ts v q
  typed_kind p (AName n) ts v q = typed_name d (record { text = n; place = p }) ts v q
  typed_kind p _ ts v q = absurd q

  from_declaration : (ts : List Piece) (v : ForInitTree) → Declaration (may_open d) V ts v → ForInit (may_open d) V ts v
  from_declaration ts v p = at ts (take_out type_head (TypeEnd (may_open d)) (Declared (may_open d) V) ts v p)
    where
      at : (ts : List Piece) → Take type_head Typed ts v → ForInit (may_open d) V ts v
      at [] q = absurd q
      at (LeftOut ∷ ts) q = absurd q
      at (AToken t ∷ ts) q = typed_kind t.place t.kind ts v q

  -- ---- a simple statement

  abbrev name_of_path : Place → List ℕ → ExprTree
  name_of_path p n = NameOf p n

  from_path : (p : Place) (n : List ℕ) (ts : List Piece) (v : ForInitTree) → Pathed (LeafPrim p (NameOf p n)) ts v → SimpleFrom (may_open d) V p (NameOf p n) ts v
  from_path p n ts v q =
      from_done (NameOf p n) (λ a. SimpleFrom (may_open d) V p a) ts v (assoc (Done (NameOf p n)) (Postfixes (may_open d) V p) (SimpleThen (may_open d) V) ts v q)

  to_path : (p : Place) (n : List ℕ) (ts : List Piece) (v : ForInitTree) → SimpleFrom (may_open d) V p (NameOf p n) ts v → Pathed (LeafPrim p (NameOf p n)) ts v
  to_path p n ts v q =
      unassoc (Done (NameOf p n)) (Postfixes (may_open d) V p) (SimpleThen (may_open d) V) ts v (to_done (NameOf p n) (λ a. SimpleFrom (may_open d) V p a) ts v q)

  pathed_symbol : (p : Place) (s : Symbol) (ts : List Piece) (v : ForInitTree) → After (prim_of (unary_kind p (ASymbol s))) Pathed ts v → Started (token_at p (ASymbol s)) ts v
  pathed_symbol p symbol.Open ts v q = q
  pathed_symbol p _ ts v q = absurd q

  pathed_word : (p : Place) (w : Word) (ts : List Piece) (v : ForInitTree) → After (prim_of (unary_kind p (AWord w))) Pathed ts v → Started (token_at p (AWord w)) ts v
  pathed_word p word.True ts v q = q
  pathed_word p word.False ts v q = q
  pathed_word p word.Null ts v q = q
  pathed_word p word.This ts v q = q
  pathed_word p word.Base ts v q = q
  pathed_word p word.Result ts v q = q
  pathed_word p word.Old ts v q = q
  pathed_word p word.New ts v q = q
  pathed_word p word.Forall ts v q = q
  pathed_word p word.Exists ts v q = q
  pathed_word p _ ts v q = absurd q

  pathed_kind : (p : Place) (k : Kind) (ts : List Piece) (v : ForInitTree) → After (prim_of (unary_kind p k)) Pathed ts v → Started (token_at p k) ts v
  pathed_kind p (ASymbol s) ts v q = pathed_symbol p s ts v q
  pathed_kind p (AWord w) ts v q = pathed_word p w ts v q
  pathed_kind p (AName n) ts v q = path_name d (record { text = n; place = p }) ts v (from_path p n ts v q)
  pathed_kind p (ANumber n) ts v q = q
  pathed_kind p (AText n) ts v q = q
  pathed_kind p AnEnd ts v q = absurd q

  from_simple : (ts : List Piece) (v : ForInitTree) → Simply (may_open d) V ts v → ForInit (may_open d) V ts v
  from_simple ts v p = at ts (take_out prim_head (PostAfter (may_open d) V) (SimpleThen (may_open d) V) ts v (assoc (Post (may_open d) V) (SimpleEnd (may_open d) V) (λ s. Done (SimpleFirst s)) ts v p))
    where
      at : (ts : List Piece) → Take prim_head Pathed ts v → ForInit (may_open d) V ts v
      at [] q = absurd q
      at (LeftOut ∷ ts) q = absurd q
      at (AToken t ∷ ts) q = pathed_kind t.place t.kind ts v q

  -- ---- one of the two

  abbrev Either : Piece → List Piece → ForInitTree → Type 0
  Either t ts v = After (type_head t) Typed ts v ⊎ After (prim_head t) Pathed ts v

  told_symbol : (p : Place) (s : Symbol) (ts : List Piece) (v : ForInitTree) → Started (token_at p (ASymbol s)) ts v → Either (token_at p (ASymbol s)) ts v
  told_symbol p symbol.Open ts v q = inr q
  told_symbol p _ ts v q = absurd q

  told_word : (p : Place) (w : Word) (ts : List Piece) (v : ForInitTree) → Started (token_at p (AWord w)) ts v → Either (token_at p (AWord w)) ts v
  told_word p word.Int ts v q = inl q
  told_word p word.Bool ts v q = inl q
  told_word p word.Object ts v q = inl q
  told_word p word.True ts v q = inr q
  told_word p word.False ts v q = inr q
  told_word p word.Null ts v q = inr q
  told_word p word.This ts v q = inr q
  told_word p word.Base ts v q = inr q
  told_word p word.Result ts v q = inr q
  told_word p word.Old ts v q = inr q
  told_word p word.New ts v q = inr q
  told_word p word.Forall ts v q = inr q
  told_word p word.Exists ts v q = inr q
  told_word p _ ts v q = absurd q

  told_kind : (p : Place) (k : Kind) (ts : List Piece) (v : ForInitTree) → Started (token_at p k) ts v → Either (token_at p k) ts v
  told_kind p (ASymbol s) ts v q = told_symbol p s ts v q
  told_kind p (AWord w) ts v q = told_word p w ts v q
  told_kind p (AName n) ts v q = at (name_told d (record { text = n; place = p }) ts v q)
    where
      at : Typed (record { place = p; name = Rattle.ss_ast.specs.Expressions.ClassType n }) ts v ⊎ SimpleFrom (may_open d) V p (NameOf p n) ts v → Either (token_at p (AName n)) ts v
      at (inl r) = inl r
      at (inr r) = inr (to_path p n ts v r)
  told_kind p (ANumber n) ts v q = inr q
  told_kind p (AText n) ts v q = inr q
  told_kind p AnEnd ts v q = absurd q

  either : (ts : List Piece) (v : ForInitTree) → ForInit (may_open d) V ts v → Declaration (may_open d) V ts v ⊎ Simply (may_open d) V ts v
  either [] v q = absurd q
  either (LeftOut ∷ ts) v q = absurd q
  either (AToken t ∷ ts) v q = at (told_kind t.place t.kind ts v q)
    where
      at : Either (AToken t) ts v → Declaration (may_open d) V (AToken t ∷ ts) v ⊎ Simply (may_open d) V (AToken t ∷ ts) v
      at (inl r) = inl (take_back type_head (TypeEnd (may_open d)) (Declared (may_open d) V) (AToken t ∷ ts) v r)
      at (inr r) = inr (unassoc (Post (may_open d) V) (SimpleEnd (may_open d) V) (λ s. Done (SimpleFirst s)) (AToken t ∷ ts) v (take_back prim_head (PostAfter (may_open d) V) (SimpleThen (may_open d) V) (AToken t ∷ ts) v r))

  -- ---- where a type and a name come first

  abbrev Afters : TypeHead → List Piece → NameTree → Type 0
  Afters h = Bind (TypeEnd (may_open d) h) (λ t. AnyName)

  begun_kind : (p : Place) (k : Kind) (ts rest : List Piece) (m : NameTree) (v : ForInitTree) → After (type_head_kind p k) Afters ts m → Started (token_at p k) (ts ++ rest) v → declares_names v ≡ true
  begun_kind p (AWord w) ts rest m v b q = begun_word w b q
    where
      begun_word : (w : Word) → After (type_head_kind p (AWord w)) Afters ts m → Started (token_at p (AWord w)) (ts ++ rest) v → declares_names v ≡ true
      begun_word word.Int b q = declared_is d q.first q.back v q.goes_on
      begun_word word.Bool b q = declared_is d q.first q.back v q.goes_on
      begun_word word.Object b q = declared_is d q.first q.back v q.goes_on
      begun_word _ b q = absurd b
  begun_kind p (AName n) ts rest m v b q =
      let r = b.reads in
      let s = r.goes_on in
      let e : b.front ≡ r.front ++ s.front = r.parts ∙ ap (λ y. r.front ++ y) (s.parts ∙ ap (λ y. s.front ++ y) s.goes_on.0 ∙ append-nil s.front) in
      let f : ts ≡ r.front ++ (s.front ++ b.back) = b.parts ∙ ap (λ y. y ++ b.back) e ∙ append_assoc r.front s.front b.back in
      begun_is d (record { text = n; place = p }) m r.first s.first r.front s.front b.back rest v r.reads s.reads b.goes_on (subst (λ y. NameAfter (may_open d) V (record { text = n; place = p }) (y ++ rest) v) f q)
  begun_kind p _ ts rest m v b q = absurd b

  begun : (ts : List Piece) (v : ForInitTree) → ForInit (may_open d) V ts v → Begins (may_open d) ts → declares_names v ≡ true
  begun ts v q b = at b.front (take_out type_head (TypeEnd (may_open d)) (λ t. AnyName) b.front b.name b.reads) (subst (λ y. ForInit (may_open d) V y v) b.parts q)
    where
      at : (front : List Piece) → Take type_head Afters front b.name → ForInit (may_open d) V (front ++ b.rest) v → declares_names v ≡ true
      at [] r q = absurd r
      at (LeftOut ∷ front) r q = absurd r
      at (AToken t ∷ front) r q = begun_kind t.place t.kind front b.rest b.name v r q

  begins_so : (ts : List Piece) (v : ForInitTree) → Declaration (may_open d) V ts v → Begins (may_open d) ts
  begins_so ts v p =
      let c = p.goes_on.reads in
      record {
        front = p.front ++ c.front;
        rest = c.back ++ p.goes_on.back;
        name = c.first;
        parts = p.parts ∙ ap (λ y. p.front ++ y) (p.goes_on.parts ∙ ap (λ y. y ++ p.goes_on.back) c.parts ∙ append_assoc c.front c.back p.goes_on.back) ∙ sym (append_assoc p.front c.front (c.back ++ p.goes_on.back));
        reads = record { first = p.first; front = p.front; back = c.front; parts = refl; reads = p.reads; goes_on = c.reads };
      }

  where_named : (ts : List Piece) (v : ForInitTree) → ForInit (may_open d) V ts v → declares_names v ≡ true → Begins (may_open d) ts
  where_named ts v q h = at (either ts v q)
    where
      at : Declaration (may_open d) V ts v ⊎ Simply (may_open d) V ts v → Begins (may_open d) ts
      at (inl p) = begins_so ts v p
      at (inr p) = absurd (let e : true ≡ false = sym h ∙ ap declares_names p.goes_on.1 in cc)

-- ---- the same at each level

pub declares_there : (d : ℕ) (ts : List Piece) (v : ForInitTree) → Leveled ForInit d ts v → Begins (room d) ts → declares_names v ≡ true
declares_there zero ts v q b = begun 0 ts v q b
declares_there (suc d) ts v q b = begun (suc d) ts v q b

pub declares_only : (d : ℕ) (ts : List Piece) (v : ForInitTree) → Leveled ForInit d ts v → declares_names v ≡ true → Begins (room d) ts
declares_only zero ts v q h = where_named 0 ts v q h
declares_only (suc d) ts v q h = where_named (suc d) ts v q h

pub is_either : (d : ℕ) (ts : List Piece) (v : ForInitTree) → Leveled ForInit d ts v → Leveled Declaration d ts v ⊎ Leveled Simply d ts v
is_either zero ts v q = either 0 ts v q
is_either (suc d) ts v q = either (suc d) ts v q

pub is_declaration : (d : ℕ) (ts : List Piece) (v : ForInitTree) → Leveled Declaration d ts v → Leveled ForInit d ts v
is_declaration zero ts v q = from_declaration 0 ts v q
is_declaration (suc d) ts v q = from_declaration (suc d) ts v q

pub is_simple : (d : ℕ) (ts : List Piece) (v : ForInitTree) → Leveled Simply d ts v → Leveled ForInit d ts v
is_simple zero ts v q = from_simple 0 ts v q
is_simple (suc d) ts v q = from_simple (suc d) ts v q
