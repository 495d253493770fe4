-- Which tokens a part of a declaration may begin with, and what each of them says.
use Rattle.std.specs.Prelude.{Bool, true, false, Option, Some, None}
use Rattle.ss_core.specs.declared.names.Place.{Place}
use Rattle.ss_ast.specs.declared.token.Word.{Word}
use Rattle.ss_ast.specs.declared.token.Word.TheVariants as word
use Rattle.ss_ast.specs.declared.token.Symbol.{Symbol}
use Rattle.ss_ast.specs.declared.token.Symbol.TheVariants as symbol
use Rattle.ss_ast.specs.declared.class.Modifier.{Modifier}
use Rattle.ss_ast.specs.declared.class.ModifierWord.TheVariants as modifier
use Rattle.ss_ast.specs.Tokens.{Kind, AWord, ASymbol, AName, AnEnd}
use Rattle.ss_ast.specs.Expressions.{NameTree, IntType, BoolType, ObjectType}
use Rattle.ss_grammar_expressions.specs.Heads.{Piece, AToken, LeftOut, TypeHead}

abbrev pub end_of : Place → Kind → Option Place
end_of p AnEnd = Some p
end_of p _ = None

-- the end of the text
abbrev pub the_end : Piece → Option Place
the_end (AToken t) = end_of t.place t.kind
the_end LeftOut = None

-- ---- words before a class or a member

abbrev pub access_word : Place → Word → Option Place
access_word p word.Public = Some p
access_word p word.Private = Some p
access_word p word.Protected = Some p
access_word p word.Internal = Some p
access_word p _ = None

abbrev pub access_of : Place → Kind → Option Place
access_of p (AWord w) = access_word p w
access_of p _ = None

-- "public" | "private" | "protected" | "internal"
abbrev pub an_access : Piece → Option Place
an_access (AToken t) = access_of t.place t.kind
an_access LeftOut = None

abbrev pub member_word_of : Place → Word → Option (Option Modifier)
member_word_of p word.Static = Some (Some (record { place = p; word = modifier.Static }))
member_word_of p word.Virtual = Some (Some (record { place = p; word = modifier.Virtual }))
member_word_of p word.Override = Some (Some (record { place = p; word = modifier.Override }))
member_word_of p word.Public = Some None
member_word_of p word.Private = Some None
member_word_of p word.Protected = Some None
member_word_of p word.Internal = Some None
member_word_of p _ = None

abbrev pub member_word_kind : Place → Kind → Option (Option Modifier)
member_word_kind p (AWord w) = member_word_of p w
member_word_kind p _ = None

-- Access | "static" | "virtual" | "override", where an access word says nothing
abbrev pub member_word : Piece → Option (Option Modifier)
member_word (AToken t) = member_word_kind t.place t.kind
member_word LeftOut = None

-- ---- classes

abbrev pub class_word : Word → Bool
class_word word.Class = true
class_word word.Public = true
class_word word.Private = true
class_word word.Protected = true
class_word word.Internal = true
class_word _ = false

abbrev pub class_kind : Kind → Bool
class_kind (AWord w) = class_word w
class_kind _ = false

-- whether a class begins with the token
abbrev pub begins_class : Piece → Bool
begins_class (AToken t) = class_kind t.kind
begins_class LeftOut = false

-- ---- members

-- after its attributes and words a member begins with one of these: `invariant`, `void`, a type's word, or a name, with which
-- a type or a constructor begins
pub data MemberHead : Type 0 where
  InvariantFirst : MemberHead
  VoidFirst : MemberHead
  WordFirst : TypeHead → MemberHead
  NameFirst : NameTree → MemberHead

abbrev pub head_word : Place → Word → Option MemberHead
head_word p word.Invariant = Some InvariantFirst
head_word p word.Void = Some VoidFirst
head_word p word.Int = Some (WordFirst (record { place = p; name = IntType }))
head_word p word.Bool = Some (WordFirst (record { place = p; name = BoolType }))
head_word p word.Object = Some (WordFirst (record { place = p; name = ObjectType }))
head_word p _ = None

abbrev pub head_kind : Place → Kind → Option MemberHead
head_kind p (AWord w) = head_word p w
head_kind p (AName n) = Some (NameFirst (record { text = n; place = p }))
head_kind p _ = None

abbrev pub member_head : Piece → Option MemberHead
member_head (AToken t) = head_kind t.place t.kind
member_head LeftOut = None

abbrev pub begins_symbol : Symbol → Bool
begins_symbol symbol.OpenBracket = true
begins_symbol _ = false

abbrev pub begins_word : Word → Bool
begins_word word.Static = true
begins_word word.Virtual = true
begins_word word.Override = true
begins_word word.Public = true
begins_word word.Private = true
begins_word word.Protected = true
begins_word word.Internal = true
begins_word word.Invariant = true
begins_word word.Void = true
begins_word word.Int = true
begins_word word.Bool = true
begins_word word.Object = true
begins_word _ = false

abbrev pub begins_kind : Kind → Bool
begins_kind (ASymbol s) = begins_symbol s
begins_kind (AWord w) = begins_word w
begins_kind (AName n) = true
begins_kind _ = false

-- whether a member begins with the token
abbrev pub begins_member : Piece → Bool
begins_member (AToken t) = begins_kind t.kind
begins_member LeftOut = false

abbrev pub type_symbol : Symbol → Bool
type_symbol symbol.OpenBracket = true
type_symbol symbol.Bang = true
type_symbol _ = false

abbrev pub type_kind : Kind → Bool
type_kind (ASymbol s) = type_symbol s
type_kind (AName n) = true
type_kind _ = false

-- after a name: whether the name begins a type
abbrev pub type_follows : Piece → Bool
type_follows (AToken t) = type_kind t.kind
type_follows LeftOut = false

abbrev pub fields_symbol : Symbol → Bool
fields_symbol symbol.Equal = true
fields_symbol symbol.Comma = true
fields_symbol symbol.Semicolon = true
fields_symbol _ = false

abbrev pub fields_kind : Kind → Bool
fields_kind (ASymbol s) = fields_symbol s
fields_kind _ = false

-- after a type and a name: whether the name is that of a field
abbrev pub fields_follow : Piece → Bool
fields_follow (AToken t) = fields_kind t.kind
fields_follow LeftOut = false

-- ---- clauses

pub data ClauseHead : Type 0 where
  RequiresFirst : ClauseHead
  EnsuresFirst : ClauseHead
  ModifiesFirst : ClauseHead

abbrev pub clause_word : Word → Option ClauseHead
clause_word word.Requires = Some RequiresFirst
clause_word word.Ensures = Some EnsuresFirst
clause_word word.Modifies = Some ModifiesFirst
clause_word _ = None

abbrev pub clause_kind : Kind → Option ClauseHead
clause_kind (AWord w) = clause_word w
clause_kind _ = None

abbrev pub clause_head : Piece → Option ClauseHead
clause_head (AToken t) = clause_kind t.kind
clause_head LeftOut = None
