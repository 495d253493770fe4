-- Which tokens each head function knows, and the sets of the grammar.
use Rattle.std.proofs.Common.{◌≡◌, ℕ, List, [], ◌∷◌, ◌++◌, true, false, refl, eqb}
use Rattle.ss_core.specs.declared.names.Place.{Place}
use Rattle.ss_ast.specs.declared.token.Symbol.{Symbol}
use Rattle.ss_ast.specs.declared.token.Symbol.TheVariants as symbol
use Rattle.ss_ast.specs.declared.token.Word.{Word}
use Rattle.ss_ast.specs.declared.token.Word.TheVariants as word
use Rattle.ss_ast.specs.Tokens.{Kind, AWord, ASymbol, AName, ANumber, AText, AnEnd}
use Rattle.ss_ast.specs.Expressions.{TypeNameTree, IntType, BoolType, ObjectType, ClassType}
use Rattle.ss_grammar.proofs.Facts.{known}
use Rattle.ss_grammar_expressions.specs.Heads.{Piece, AToken, LeftOut, a_name, name_of, type_word, type_word_kind, type_head, type_head_kind, link_head, link_of, of_rank, postfix_head, postfix_of, unary_head, unary_kind, castable, castable_kind, named_head, named_of, new_head, new_of, the_least, least_is}
use Rattle.ss_grammar_expressions.proofs.Sets.{code_of, mem, In}

abbrev pub castables : List ℕ
castables = 33 ∷ 34 ∷ 32 ∷ 15 ∷ 31 ∷ 56 ∷ 57 ∷ 55 ∷ 53 ∷ 75 ∷ 58 ∷ 74 ∷ []

abbrev pub unary_first : List ℕ
unary_first = 27 ∷ 54 ∷ 76 ∷ 77 ∷ castables

abbrev pub postfix_set : List ℕ
postfix_set = 22 ∷ 17 ∷ 15 ∷ []

abbrev pub unary_goes : List ℕ
unary_goes = postfix_set ++ castables

abbrev pub operators : List ℕ
operators = 28 ∷ 29 ∷ 30 ∷ 26 ∷ 27 ∷ 24 ∷ 4 ∷ 25 ∷ 5 ∷ 59 ∷ 60 ∷ 2 ∷ 3 ∷ 6 ∷ 7 ∷ []

abbrev pub imp_goes : List ℕ
imp_goes = 1 ∷ operators ++ unary_goes

abbrev pub expr_goes : List ℕ
expr_goes = 0 ∷ imp_goes

pub postfix_in : (t : Piece) → known (postfix_head t) ≡ true → In postfix_set t ≡ true
postfix_in LeftOut e = absurd cc
postfix_in (AToken t) e = at t.kind e
  where
    sym : (s : Symbol) → known (postfix_of (ASymbol s)) ≡ true → mem (code_of (ASymbol s)) postfix_set ≡ true
    sym symbol.Dot h = refl
    sym symbol.OpenBracket h = refl
    sym symbol.Open h = refl
    sym _ h = absurd cc

    at : (k : Kind) → known (postfix_of k) ≡ true → mem (code_of k) postfix_set ≡ true
    at (ASymbol s) h = sym s h
    at _ h = absurd cc

pub unary_in : (t : Piece) → known (unary_head t) ≡ true → In unary_first t ≡ true
unary_in LeftOut e = absurd cc
unary_in (AToken t) e = at t.place t.kind e
  where
    sym : (p : Place) (s : Symbol) → known (unary_kind p (ASymbol s)) ≡ true → mem (code_of (ASymbol s)) unary_first ≡ true
    sym p symbol.Minus h = refl
    sym p symbol.Bang h = refl
    sym p symbol.Open h = refl
    sym p _ h = absurd cc

    wd : (p : Place) (w : Word) → known (unary_kind p (AWord w)) ≡ true → mem (code_of (AWord w)) unary_first ≡ true
    wd p word.True h = refl
    wd p word.False h = refl
    wd p word.Null h = refl
    wd p word.This h = refl
    wd p word.Base h = refl
    wd p word.Result h = refl
    wd p word.Old h = refl
    wd p word.New h = refl
    wd p word.Forall h = refl
    wd p word.Exists h = refl
    wd p _ h = absurd cc

    at : (p : Place) (k : Kind) → known (unary_kind p k) ≡ true → mem (code_of k) unary_first ≡ true
    at p (ASymbol s) h = sym p s h
    at p (AWord w) h = wd p w h
    at p (AName n) h = refl
    at p (ANumber n) h = refl
    at p (AText n) h = refl
    at p AnEnd h = absurd cc

pub castable_in : (t : Piece) → castable t ≡ true → In castables t ≡ true
castable_in LeftOut e = absurd cc
castable_in (AToken t) e = at t.kind e
  where
    sym : (s : Symbol) → castable_kind (ASymbol s) ≡ true → mem (code_of (ASymbol s)) castables ≡ true
    sym symbol.Bang h = refl
    sym symbol.Open h = refl
    sym _ h = absurd cc

    wd : (w : Word) → castable_kind (AWord w) ≡ true → mem (code_of (AWord w)) castables ≡ true
    wd word.True h = refl
    wd word.False h = refl
    wd word.Null h = refl
    wd word.This h = refl
    wd word.Result h = refl
    wd word.Old h = refl
    wd word.New h = refl
    wd _ h = absurd cc

    at : (k : Kind) → castable_kind k ≡ true → mem (code_of k) castables ≡ true
    at (ASymbol s) h = sym s h
    at (AWord w) h = wd w h
    at (AName n) h = refl
    at (ANumber n) h = refl
    at (AText n) h = refl
    at AnEnd h = absurd cc

pub least_in : (t : Piece) → known (the_least t) ≡ true → In (33 ∷ []) t ≡ true
least_in LeftOut e = absurd cc
least_in (AToken t) e = at t.place t.kind e
  where
    at : (p : Place) (k : Kind) → known (least_is p k) ≡ true → mem (code_of k) (33 ∷ []) ≡ true
    at p (ANumber n) h = refl
    at p _ h = absurd cc

-- what may be the operand of a cast begins a unary expression
pub castable_known : (t : Piece) → castable t ≡ true → known (unary_head t) ≡ true
castable_known LeftOut e = absurd cc
castable_known (AToken t) e = at t.place t.kind e
  where
    sym : (p : Place) (s : Symbol) → castable_kind (ASymbol s) ≡ true → known (unary_kind p (ASymbol s)) ≡ true
    sym p symbol.Bang h = refl
    sym p symbol.Open h = refl
    sym p _ h = absurd cc

    wd : (p : Place) (w : Word) → castable_kind (AWord w) ≡ true → known (unary_kind p (AWord w)) ≡ true
    wd p word.True h = refl
    wd p word.False h = refl
    wd p word.Null h = refl
    wd p word.This h = refl
    wd p word.Result h = refl
    wd p word.Old h = refl
    wd p word.New h = refl
    wd p _ h = absurd cc

    at : (p : Place) (k : Kind) → castable_kind k ≡ true → known (unary_kind p k) ≡ true
    at p (ASymbol s) h = sym p s h
    at p (AWord w) h = wd p w h
    at p (AName n) h = refl
    at p (ANumber n) h = refl
    at p (AText n) h = refl
    at p AnEnd h = absurd cc

pub name_in : (t : Piece) → known (a_name t) ≡ true → In (32 ∷ []) t ≡ true
name_in LeftOut e = absurd cc
name_in (AToken t) e = at t.place t.kind e
  where
    at : (p : Place) (k : Kind) → known (name_of p k) ≡ true → mem (code_of k) (32 ∷ []) ≡ true
    at p (AName n) h = refl
    at p _ h = absurd cc

pub word_type_in : (t : Piece) → known (type_word t) ≡ true → In (50 ∷ 51 ∷ 52 ∷ []) t ≡ true
word_type_in LeftOut e = absurd cc
word_type_in (AToken t) e = at t.place t.kind e
  where
    wd : (p : Place) (w : Word) → known (type_word_kind p (AWord w)) ≡ true → mem (code_of (AWord w)) (50 ∷ 51 ∷ 52 ∷ []) ≡ true
    wd p word.Int h = refl
    wd p word.Bool h = refl
    wd p word.Object h = refl
    wd p _ h = absurd cc

    at : (p : Place) (k : Kind) → known (type_word_kind p k) ≡ true → mem (code_of k) (50 ∷ 51 ∷ 52 ∷ []) ≡ true
    at p (AWord w) h = wd p w h
    at p _ h = absurd cc

pub type_in : (t : Piece) → known (type_head t) ≡ true → In (32 ∷ 50 ∷ 51 ∷ 52 ∷ []) t ≡ true
type_in LeftOut e = absurd cc
type_in (AToken t) e = at t.place t.kind e
  where
    wd : (p : Place) (w : Word) → known (type_head_kind p (AWord w)) ≡ true → mem (code_of (AWord w)) (32 ∷ 50 ∷ 51 ∷ 52 ∷ []) ≡ true
    wd p word.Int h = refl
    wd p word.Bool h = refl
    wd p word.Object h = refl
    wd p _ h = absurd cc

    at : (p : Place) (k : Kind) → known (type_head_kind p k) ≡ true → mem (code_of k) (32 ∷ 50 ∷ 51 ∷ 52 ∷ []) ≡ true
    at p (AWord w) h = wd p w h
    at p (AName n) h = refl
    at p _ h = absurd cc

pub new_in : (n : TypeNameTree) (t : Piece) → known (new_head n t) ≡ true → In (17 ∷ 15 ∷ []) t ≡ true
new_in n LeftOut e = absurd cc
new_in n (AToken t) e = at n t.kind e
  where
    sym : (n : TypeNameTree) (s : Symbol) → known (new_of n (ASymbol s)) ≡ true → mem (code_of (ASymbol s)) (17 ∷ 15 ∷ []) ≡ true
    sym n symbol.OpenBracket h = refl
    sym n symbol.Open h = refl
    sym IntType _ h = absurd cc
    sym BoolType _ h = absurd cc
    sym ObjectType _ h = absurd cc
    sym (ClassType x) _ h = absurd cc

    at : (n : TypeNameTree) (k : Kind) → known (new_of n k) ≡ true → mem (code_of k) (17 ∷ 15 ∷ []) ≡ true
    at n (ASymbol s) h = sym n s h
    at n _ h = absurd cc

pub named_in : (t : Piece) → known (named_head t) ≡ true → In (31 ∷ 17 ∷ []) t ≡ true
named_in LeftOut e = absurd cc
named_in (AToken t) e = at t.kind e
  where
    sym : (s : Symbol) → known (named_of (ASymbol s)) ≡ true → mem (code_of (ASymbol s)) (31 ∷ 17 ∷ []) ≡ true
    sym symbol.Bang h = refl
    sym symbol.OpenBracket h = refl
    sym _ h = absurd cc

    at : (k : Kind) → known (named_of k) ≡ true → mem (code_of k) (31 ∷ 17 ∷ []) ≡ true
    at (ASymbol s) h = sym s h
    at _ h = absurd cc

-- the operators of the rank 1 to 6
abbrev pub Ranks : ℕ → List ℕ → Type 0
Ranks k l = (t : Piece) → known (link_head k t) ≡ true → In l t ≡ true

module _ (k : ℕ) (l : List ℕ) (each : (s : Symbol) → known (of_rank k (link_of (ASymbol s))) ≡ true → mem (code_of (ASymbol s)) l ≡ true) (words : (w : Word) → known (of_rank k (link_of (AWord w))) ≡ true → mem (code_of (AWord w)) l ≡ true) where
  pub ranks : Ranks k l
  ranks LeftOut e = absurd cc
  ranks (AToken t) e = at t.kind e
    where
      at : (q : Kind) → known (of_rank k (link_of q)) ≡ true → mem (code_of q) l ≡ true
      at (ASymbol s) h = each s h
      at (AWord w) h = words w h
      at _ h = absurd cc

no_words : (k : ℕ) (l : List ℕ) → eqb 3 k ≡ false → (w : Word) → known (of_rank k (link_of (AWord w))) ≡ true → mem (code_of (AWord w)) l ≡ true
no_words k l n word.Is h = absurd (let f = rw n at h in cc)
no_words k l n word.As h = absurd (let f = rw n at h in cc)
no_words k l n _ h = absurd cc

rank_one : (s : Symbol) → known (of_rank 1 (link_of (ASymbol s))) ≡ true → mem (code_of (ASymbol s)) (28 ∷ 29 ∷ 30 ∷ []) ≡ true
rank_one symbol.Star h = refl
rank_one symbol.Slash h = refl
rank_one symbol.Percent h = refl
rank_one _ h = absurd cc

rank_two : (s : Symbol) → known (of_rank 2 (link_of (ASymbol s))) ≡ true → mem (code_of (ASymbol s)) (26 ∷ 27 ∷ []) ≡ true
rank_two symbol.Plus h = refl
rank_two symbol.Minus h = refl
rank_two _ h = absurd cc

rank_three : (s : Symbol) → known (of_rank 3 (link_of (ASymbol s))) ≡ true → mem (code_of (ASymbol s)) (24 ∷ 4 ∷ 25 ∷ 5 ∷ 59 ∷ 60 ∷ []) ≡ true
rank_three symbol.Less h = refl
rank_three symbol.LessEqual h = refl
rank_three symbol.Greater h = refl
rank_three symbol.GreaterEqual h = refl
rank_three _ h = absurd cc

words_three : (w : Word) → known (of_rank 3 (link_of (AWord w))) ≡ true → mem (code_of (AWord w)) (24 ∷ 4 ∷ 25 ∷ 5 ∷ 59 ∷ 60 ∷ []) ≡ true
words_three word.Is h = refl
words_three word.As h = refl
words_three _ h = absurd cc

rank_four : (s : Symbol) → known (of_rank 4 (link_of (ASymbol s))) ≡ true → mem (code_of (ASymbol s)) (2 ∷ 3 ∷ []) ≡ true
rank_four symbol.EqualEqual h = refl
rank_four symbol.BangEqual h = refl
rank_four _ h = absurd cc

rank_five : (s : Symbol) → known (of_rank 5 (link_of (ASymbol s))) ≡ true → mem (code_of (ASymbol s)) (6 ∷ []) ≡ true
rank_five symbol.AndAnd h = refl
rank_five _ h = absurd cc

rank_six : (s : Symbol) → known (of_rank 6 (link_of (ASymbol s))) ≡ true → mem (code_of (ASymbol s)) (7 ∷ []) ≡ true
rank_six symbol.OrOr h = refl
rank_six _ h = absurd cc

pub ranks1 : Ranks 1 (28 ∷ 29 ∷ 30 ∷ [])
ranks1 = ranks 1 (28 ∷ 29 ∷ 30 ∷ []) rank_one (no_words 1 (28 ∷ 29 ∷ 30 ∷ []) refl)

pub ranks2 : Ranks 2 (26 ∷ 27 ∷ [])
ranks2 = ranks 2 (26 ∷ 27 ∷ []) rank_two (no_words 2 (26 ∷ 27 ∷ []) refl)

pub ranks3 : Ranks 3 (24 ∷ 4 ∷ 25 ∷ 5 ∷ 59 ∷ 60 ∷ [])
ranks3 = ranks 3 (24 ∷ 4 ∷ 25 ∷ 5 ∷ 59 ∷ 60 ∷ []) rank_three words_three

pub ranks4 : Ranks 4 (2 ∷ 3 ∷ [])
ranks4 = ranks 4 (2 ∷ 3 ∷ []) rank_four (no_words 4 (2 ∷ 3 ∷ []) refl)

pub ranks5 : Ranks 5 (6 ∷ [])
ranks5 = ranks 5 (6 ∷ []) rank_five (no_words 5 (6 ∷ []) refl)

pub ranks6 : Ranks 6 (7 ∷ [])
ranks6 = ranks 6 (7 ∷ []) rank_six (no_words 6 (7 ∷ []) refl)
