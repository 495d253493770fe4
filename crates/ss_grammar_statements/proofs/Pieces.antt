-- Which tokens each head function knows, and the sets of the grammar of statements.
use Rattle.std.proofs.Common.{◌≡◌, ℕ, List, [], ◌∷◌, ◌++◌, Option, Some, None, option_map, true, refl}
use Rattle.std.specs.Option.{option_or}
use Rattle.ss_core.specs.declared.names.Place.{Place}
use Rattle.ss_ast.specs.declared.token.Symbol.{Symbol}
use Rattle.ss_ast.specs.declared.token.Symbol.TheVariants as symbol
use Rattle.ss_ast.specs.declared.token.Word.{Word}
use Rattle.ss_ast.specs.declared.token.Word.TheVariants as word
use Rattle.ss_ast.specs.Tokens.{Kind, AWord, ASymbol, AName, ANumber, AText, AnEnd}
use Rattle.ss_grammar.proofs.Facts.{known}
use Rattle.ss_grammar_expressions.specs.Heads.{Piece, AToken, LeftOut, a_name, type_word, unary_kind}
use Rattle.ss_grammar_expressions.proofs.Sets.{code, code_of, mem, In, subset_in}
use Rattle.ss_grammar_expressions.proofs.Pieces.{name_in, word_type_in, expr_goes}
use Rattle.ss_grammar_statements.specs.Heads.{prim_of, prim_head, simple_of, simple_head, next_of, next_head, TypeFirst, NameFirst, PrimFirst, start_head, StmtHead, StartFirst, stmt_kind, stmt_head, other_head}

abbrev pub prim_first : List ℕ
prim_first = 54 ∷ 76 ∷ 77 ∷ 33 ∷ 34 ∷ 32 ∷ 15 ∷ 56 ∷ 57 ∷ 55 ∷ 53 ∷ 75 ∷ 58 ∷ 74 ∷ []

abbrev pub simple_set : List ℕ
simple_set = 23 ∷ 8 ∷ 9 ∷ 10 ∷ 11 ∷ 12 ∷ []

abbrev pub start_first : List ℕ
start_first = 50 ∷ 51 ∷ 52 ∷ prim_first

abbrev pub other_first : List ℕ
other_first = 19 ∷ 61 ∷ 63 ∷ 64 ∷ 65 ∷ 66 ∷ 67 ∷ 68 ∷ start_first

abbrev pub stmt_first : List ℕ
stmt_first = 13 ∷ other_first

-- what goes on with a declaration, with a simple statement, and with either
abbrev pub decls_goes : List ℕ
decls_goes = 21 ∷ 23 ∷ expr_goes

abbrev pub simple_goes : List ℕ
simple_goes = simple_set ++ expr_goes

abbrev pub start_goes : List ℕ
start_goes = 21 ∷ simple_goes

pub prim_in : (t : Piece) → known (prim_head t) ≡ true → In prim_first t ≡ true
prim_in LeftOut e = absurd cc
prim_in (AToken t) e = at t.place t.kind e
  where
    sym : (p : Place) (s : Symbol) → known (prim_of (unary_kind p (ASymbol s))) ≡ true → mem (code_of (ASymbol s)) prim_first ≡ true
    sym p symbol.Open h = refl
    sym p _ h = absurd cc

    wd : (p : Place) (w : Word) → known (prim_of (unary_kind p (AWord w))) ≡ true → mem (code_of (AWord w)) prim_first ≡ true
    wd p word.True h = refl
    wd p word.False h = refl
    wd p word.Null h = refl
    wd p word.This h = refl
    wd p word.Base h = refl
    wd p word.Result h = refl
    wd p word.Old h = refl
    wd p word.New h = refl
    wd p word.Forall h = refl
    wd p word.Exists h = refl
    wd p _ h = absurd cc

    at : (p : Place) (k : Kind) → known (prim_of (unary_kind p k)) ≡ true → mem (code_of k) prim_first ≡ true
    at p (ASymbol s) h = sym p s h
    at p (AWord w) h = wd p w h
    at p (AName n) h = refl
    at p (ANumber n) h = refl
    at p (AText n) h = refl
    at p AnEnd h = absurd cc

pub simple_in : (t : Piece) → known (simple_head t) ≡ true → In simple_set t ≡ true
simple_in LeftOut e = absurd cc
simple_in (AToken t) e = at t.kind e
  where
    sym : (s : Symbol) → known (simple_of (ASymbol s)) ≡ true → mem (code_of (ASymbol s)) simple_set ≡ true
    sym symbol.Equal h = refl
    sym symbol.PlusEqual h = refl
    sym symbol.MinusEqual h = refl
    sym symbol.StarEqual h = refl
    sym symbol.PlusPlus h = refl
    sym symbol.MinusMinus h = refl
    sym _ h = absurd cc

    at : (k : Kind) → known (simple_of k) ≡ true → mem (code_of k) simple_set ≡ true
    at (ASymbol s) h = sym s h
    at _ h = absurd cc

pub next_in : (t : Piece) → known (next_head t) ≡ true → In (32 ∷ 31 ∷ 17 ∷ []) t ≡ true
next_in LeftOut e = absurd cc
next_in (AToken t) e = at t.place t.kind e
  where
    sym : (p : Place) (s : Symbol) → known (next_of p (ASymbol s)) ≡ true → mem (code_of (ASymbol s)) (32 ∷ 31 ∷ 17 ∷ []) ≡ true
    sym p symbol.Bang h = refl
    sym p symbol.OpenBracket h = refl
    sym p _ h = absurd cc

    at : (p : Place) (k : Kind) → known (next_of p k) ≡ true → mem (code_of k) (32 ∷ 31 ∷ 17 ∷ []) ≡ true
    at p (ASymbol s) h = sym p s h
    at p (AName n) h = refl
    at p _ h = absurd cc

either : {A B C : Type 0} (a : Option A) (b : Option B) (f : A → C) → (g : Option C) → known (option_or (option_map f a) g) ≡ true → (P : Type 0) → (known a ≡ true → P) → (known g ≡ true → P) → P
either (Some x) b f g e P i j = i refl
either None b f g e P i j = j e

mapped : {A B : Type 0} (f : A → B) (a : Option A) → known (option_map f a) ≡ true → known a ≡ true
mapped f (Some x) e = refl
mapped f None e = absurd cc

pub start_in : (t : Piece) → known (start_head t) ≡ true → In start_first t ≡ true
start_in t e = either (type_word t) (type_word t) TypeFirst (option_or (option_map NameFirst (a_name t)) (option_map PrimFirst (prim_head t))) e (In start_first t ≡ true)
    (λ h. subset_in (code t) (50 ∷ 51 ∷ 52 ∷ []) start_first refl (word_type_in t h))
    (λ g. either (a_name t) (a_name t) NameFirst (option_map PrimFirst (prim_head t)) g (In start_first t ≡ true)
    (λ h. subset_in (code t) (32 ∷ []) start_first refl (name_in t h))
    (λ h. subset_in (code t) prim_first start_first refl (prim_in t (mapped PrimFirst (prim_head t) h))))

-- a statement's own words and symbols
abbrev pub own_first : List ℕ
own_first = 13 ∷ 19 ∷ 61 ∷ 63 ∷ 64 ∷ 65 ∷ 66 ∷ 67 ∷ 68 ∷ []

own_in : (p : Place) (k : Kind) → known (stmt_kind p k) ≡ true → mem (code_of k) own_first ≡ true
own_in p (ASymbol s) h = sym p s h
  where
    sym : (p : Place) (s : Symbol) → known (stmt_kind p (ASymbol s)) ≡ true → mem (code_of (ASymbol s)) own_first ≡ true
    sym p symbol.OpenBrace h = refl
    sym p symbol.Semicolon h = refl
    sym p _ h = absurd cc
own_in p (AWord w) h = wd p w h
  where
    wd : (p : Place) (w : Word) → known (stmt_kind p (AWord w)) ≡ true → mem (code_of (AWord w)) own_first ≡ true
    wd p word.If h = refl
    wd p word.While h = refl
    wd p word.For h = refl
    wd p word.Return h = refl
    wd p word.Assert h = refl
    wd p word.Assume h = refl
    wd p word.Expose h = refl
    wd p _ h = absurd cc
own_in p _ h = absurd cc

or_known : {A : Type 0} (a b : Option A) → known (option_or a b) ≡ true → (P : Type 0) → (known a ≡ true → P) → (known b ≡ true → P) → P
or_known (Some x) b e P i j = i refl
or_known None b e P i j = j e

pub stmt_in : (t : Piece) → known (stmt_head t) ≡ true → In stmt_first t ≡ true
stmt_in LeftOut e = absurd cc
stmt_in (AToken t) e = or_known (stmt_kind t.place t.kind) (option_map StartFirst (start_head (AToken t))) e (In stmt_first (AToken t) ≡ true)
    (λ h. subset_in (code_of t.kind) own_first stmt_first refl (own_in t.place t.kind h))
    (λ h. subset_in (code_of t.kind) start_first stmt_first refl (start_in (AToken t) (mapped StartFirst (start_head (AToken t)) h)))

abbrev other_at : Place → Kind → Option StmtHead
other_at p k = other_head (AToken (record { kind = k; place = p }))

pub other_in : (t : Piece) → known (other_head t) ≡ true → In other_first t ≡ true
other_in LeftOut e = absurd cc
other_in (AToken t) e = at t.place t.kind e
  where
    sym : (p : Place) (s : Symbol) → known (other_at p (ASymbol s)) ≡ true → mem (code_of (ASymbol s)) other_first ≡ true
    sym p symbol.Semicolon h = refl
    sym p symbol.Open h = refl
    sym p _ h = absurd cc

    wd : (p : Place) (w : Word) → known (other_at p (AWord w)) ≡ true → mem (code_of (AWord w)) other_first ≡ true
    wd p word.If h = refl
    wd p word.While h = refl
    wd p word.For h = refl
    wd p word.Return h = refl
    wd p word.Assert h = refl
    wd p word.Assume h = refl
    wd p word.Expose h = refl
    wd p word.Int h = refl
    wd p word.Bool h = refl
    wd p word.Object h = refl
    wd p word.True h = refl
    wd p word.False h = refl
    wd p word.Null h = refl
    wd p word.This h = refl
    wd p word.Base h = refl
    wd p word.Result h = refl
    wd p word.Old h = refl
    wd p word.New h = refl
    wd p word.Forall h = refl
    wd p word.Exists h = refl
    wd p _ h = absurd cc

    at : (p : Place) (k : Kind) → known (other_at p k) ≡ true → mem (code_of k) other_first ≡ true
    at p (ASymbol s) h = sym p s h
    at p (AWord w) h = wd p w h
    at p (AName n) h = refl
    at p (ANumber n) h = refl
    at p (AText n) h = refl
    at p AnEnd h = absurd cc
