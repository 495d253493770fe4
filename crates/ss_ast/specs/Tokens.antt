-- Tokens as plain values, which every definition speaks of.
use Rattle.std.specs.Prelude.{ℕ, List, map, string_bytes}
use Rattle.ss_core.specs.declared.names.Place.{Place}
use Rattle.ss_ast.specs.declared.token.Word.{Word}
use Rattle.ss_ast.specs.declared.token.Word.TheVariants as word
use Rattle.ss_ast.specs.declared.token.Symbol.{Symbol}
use Rattle.ss_ast.specs.declared.token.TokenKind.{TokenKind}
use Rattle.ss_ast.specs.declared.token.TokenKind.TheVariants as code
use Rattle.ss_ast.specs.declared.token.Token.{Token}

pub data Kind : Type 0 where
  AWord : Word → Kind
  ASymbol : Symbol → Kind
  AName : List ℕ → Kind
  ANumber : ℕ → Kind
  -- a string, by the bytes that it stands for
  AText : List ℕ → Kind
  -- the end of the text
  AnEnd : Kind

-- a token with the place of its first byte
pub record Tok : Type 0 where
  pub kind : Kind
  pub place : Place

-- the token that a value of the code stands for
abbrev pub kind_of : TokenKind → Kind
kind_of (code.Word w) = AWord w
kind_of (code.Symbol s) = ASymbol s
kind_of (code.Name n) = AName (string_bytes n)
kind_of (code.Number n) = ANumber n
kind_of (code.Text t) = AText t.items
kind_of code.TextEnd = AnEnd

abbrev pub tok : Token → Tok
tok t = record { kind = kind_of t.kind; place = t.place }

abbrev pub toks : List Token → List Tok
toks ts = map tok ts

-- each word has a number of its own
abbrev pub word_number : Word → ℕ
word_number word.Using = 0
word_number word.Class = 1
word_number word.Static = 2
word_number word.Virtual = 3
word_number word.Override = 4
word_number word.Public = 5
word_number word.Private = 6
word_number word.Protected = 7
word_number word.Internal = 8
word_number word.Void = 9
word_number word.Int = 10
word_number word.Bool = 11
word_number word.Object = 12
word_number word.This = 13
word_number word.Base = 14
word_number word.Null = 15
word_number word.True = 16
word_number word.False = 17
word_number word.New = 18
word_number word.Is = 19
word_number word.As = 20
word_number word.If = 21
word_number word.Else = 22
word_number word.While = 23
word_number word.For = 24
word_number word.Return = 25
word_number word.Assert = 26
word_number word.Assume = 27
word_number word.Expose = 28
word_number word.At = 29
word_number word.Invariant = 30
word_number word.Requires = 31
word_number word.Ensures = 32
word_number word.Modifies = 33
word_number word.Old = 34
word_number word.Result = 35
word_number word.Forall = 36
word_number word.Exists = 37
word_number word.In = 38
