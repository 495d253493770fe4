-- Which tokens each head function knows.
use Rattle.std.proofs.Common.{◌≡◌, ℕ, List, [], ◌∷◌, ◌++◌, true, refl}
use Rattle.ss_core.specs.declared.names.Place.{Place}
use Rattle.ss_ast.specs.declared.token.Symbol.{Symbol}
use Rattle.ss_ast.specs.declared.token.Symbol.TheVariants as symbol
use Rattle.ss_ast.specs.declared.token.Word.{Word}
use Rattle.ss_ast.specs.declared.token.Word.TheVariants as word
use Rattle.ss_ast.specs.Tokens.{Kind, AWord, ASymbol, AName, AnEnd}
use Rattle.ss_grammar.proofs.Facts.{known}
use Rattle.ss_grammar_expressions.specs.Heads.{Piece, AToken, LeftOut}
use Rattle.ss_grammar_expressions.proofs.Sets.{code_of, mem, In}
use Rattle.ss_grammar_programs.specs.Heads.{the_end, end_of, an_access, access_of, member_word, member_word_kind, begins_class, class_kind, member_head, head_kind, begins_member, begins_kind, type_follows, type_kind, fields_follow, fields_kind, clause_head, clause_kind}

abbrev pub accesses_set : List ℕ
accesses_set = 45 ∷ 46 ∷ 47 ∷ 48 ∷ []

abbrev pub words_set : List ℕ
words_set = 42 ∷ 43 ∷ 44 ∷ accesses_set

-- `invariant`, `void`, types' words and names
abbrev pub kinds_set : List ℕ
kinds_set = 70 ∷ 49 ∷ 50 ∷ 51 ∷ 52 ∷ 32 ∷ []

abbrev pub members_set : List ℕ
members_set = 17 ∷ words_set ++ kinds_set

abbrev pub classes_set : List ℕ
classes_set = accesses_set ++ 41 ∷ []

abbrev pub clauses_set : List ℕ
clauses_set = 71 ∷ 72 ∷ 73 ∷ []

pub end_in : (t : Piece) → known (the_end t) ≡ true → In (35 ∷ []) t ≡ true
end_in LeftOut e = absurd cc
end_in (AToken t) e = at t.place t.kind e
  where
    at : (p : Place) (k : Kind) → known (end_of p k) ≡ true → mem (code_of k) (35 ∷ []) ≡ true
    at p AnEnd h = refl
    at p _ h = absurd cc

pub access_in : (t : Piece) → known (an_access t) ≡ true → In accesses_set t ≡ true
access_in LeftOut e = absurd cc
access_in (AToken t) e = at t.place t.kind e
  where
    wd : (p : Place) (w : Word) → known (access_of p (AWord w)) ≡ true → mem (code_of (AWord w)) accesses_set ≡ true
    wd p word.Public h = refl
    wd p word.Private h = refl
    wd p word.Protected h = refl
    wd p word.Internal h = refl
    wd p _ h = absurd cc

    at : (p : Place) (k : Kind) → known (access_of p k) ≡ true → mem (code_of k) accesses_set ≡ true
    at p (AWord w) h = wd p w h
    at p _ h = absurd cc

pub word_in : (t : Piece) → known (member_word t) ≡ true → In words_set t ≡ true
word_in LeftOut e = absurd cc
word_in (AToken t) e = at t.place t.kind e
  where
    wd : (p : Place) (w : Word) → known (member_word_kind p (AWord w)) ≡ true → mem (code_of (AWord w)) words_set ≡ true
    wd p word.Static h = refl
    wd p word.Virtual h = refl
    wd p word.Override h = refl
    wd p word.Public h = refl
    wd p word.Private h = refl
    wd p word.Protected h = refl
    wd p word.Internal h = refl
    wd p _ h = absurd cc

    at : (p : Place) (k : Kind) → known (member_word_kind p k) ≡ true → mem (code_of k) words_set ≡ true
    at p (AWord w) h = wd p w h
    at p _ h = absurd cc

pub class_in : (t : Piece) → begins_class t ≡ true → In classes_set t ≡ true
class_in LeftOut e = absurd cc
class_in (AToken t) e = at t.kind e
  where
    wd : (w : Word) → class_kind (AWord w) ≡ true → mem (code_of (AWord w)) classes_set ≡ true
    wd word.Class h = refl
    wd word.Public h = refl
    wd word.Private h = refl
    wd word.Protected h = refl
    wd word.Internal h = refl
    wd _ h = absurd cc

    at : (k : Kind) → class_kind k ≡ true → mem (code_of k) classes_set ≡ true
    at (AWord w) h = wd w h
    at _ h = absurd cc

pub kind_in : (t : Piece) → known (member_head t) ≡ true → In kinds_set t ≡ true
kind_in LeftOut e = absurd cc
kind_in (AToken t) e = at t.place t.kind e
  where
    wd : (p : Place) (w : Word) → known (head_kind p (AWord w)) ≡ true → mem (code_of (AWord w)) kinds_set ≡ true
    wd p word.Invariant h = refl
    wd p word.Void h = refl
    wd p word.Int h = refl
    wd p word.Bool h = refl
    wd p word.Object h = refl
    wd p _ h = absurd cc

    at : (p : Place) (k : Kind) → known (head_kind p k) ≡ true → mem (code_of k) kinds_set ≡ true
    at p (AWord w) h = wd p w h
    at p (AName n) h = refl
    at p _ h = absurd cc

pub member_in : (t : Piece) → begins_member t ≡ true → In members_set t ≡ true
member_in LeftOut e = absurd cc
member_in (AToken t) e = at t.kind e
  where
    sym : (s : Symbol) → begins_kind (ASymbol s) ≡ true → mem (code_of (ASymbol s)) members_set ≡ true
    sym symbol.OpenBracket h = refl
    sym _ h = absurd cc

    wd : (w : Word) → begins_kind (AWord w) ≡ true → mem (code_of (AWord w)) members_set ≡ true
    wd word.Static h = refl
    wd word.Virtual h = refl
    wd word.Override h = refl
    wd word.Public h = refl
    wd word.Private h = refl
    wd word.Protected h = refl
    wd word.Internal h = refl
    wd word.Invariant h = refl
    wd word.Void h = refl
    wd word.Int h = refl
    wd word.Bool h = refl
    wd word.Object h = refl
    wd _ h = absurd cc

    at : (k : Kind) → begins_kind k ≡ true → mem (code_of k) members_set ≡ true
    at (ASymbol s) h = sym s h
    at (AWord w) h = wd w h
    at (AName n) h = refl
    at _ h = absurd cc

pub type_follows_in : (t : Piece) → type_follows t ≡ true → In (17 ∷ 31 ∷ 32 ∷ []) t ≡ true
type_follows_in LeftOut e = absurd cc
type_follows_in (AToken t) e = at t.kind e
  where
    sym : (s : Symbol) → type_kind (ASymbol s) ≡ true → mem (code_of (ASymbol s)) (17 ∷ 31 ∷ 32 ∷ []) ≡ true
    sym symbol.OpenBracket h = refl
    sym symbol.Bang h = refl
    sym _ h = absurd cc

    at : (k : Kind) → type_kind k ≡ true → mem (code_of k) (17 ∷ 31 ∷ 32 ∷ []) ≡ true
    at (ASymbol s) h = sym s h
    at (AName n) h = refl
    at _ h = absurd cc

pub fields_follow_in : (t : Piece) → fields_follow t ≡ true → In (23 ∷ 21 ∷ 19 ∷ []) t ≡ true
fields_follow_in LeftOut e = absurd cc
fields_follow_in (AToken t) e = at t.kind e
  where
    sym : (s : Symbol) → fields_kind (ASymbol s) ≡ true → mem (code_of (ASymbol s)) (23 ∷ 21 ∷ 19 ∷ []) ≡ true
    sym symbol.Equal h = refl
    sym symbol.Comma h = refl
    sym symbol.Semicolon h = refl
    sym _ h = absurd cc

    at : (k : Kind) → fields_kind k ≡ true → mem (code_of k) (23 ∷ 21 ∷ 19 ∷ []) ≡ true
    at (ASymbol s) h = sym s h
    at _ h = absurd cc

pub clause_in : (t : Piece) → known (clause_head t) ≡ true → In clauses_set t ≡ true
clause_in LeftOut e = absurd cc
clause_in (AToken t) e = at t.kind e
  where
    wd : (w : Word) → known (clause_kind (AWord w)) ≡ true → mem (code_of (AWord w)) clauses_set ≡ true
    wd word.Requires h = refl
    wd word.Ensures h = refl
    wd word.Modifies h = refl
    wd _ h = absurd cc

    at : (k : Kind) → known (clause_kind k) ≡ true → mem (code_of k) clauses_set ≡ true
    at (AWord w) h = wd w h
    at _ h = absurd cc
