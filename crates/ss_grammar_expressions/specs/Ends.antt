-- The end of the text.
use Rattle.std.specs.Prelude.{◌≡◌, Bool, true, false, List, [], ◌∷◌}
use Rattle.ss_ast.specs.Tokens.{Kind, AnEnd}
use Rattle.ss_grammar_expressions.specs.Heads.{Piece, AToken, LeftOut}

abbrev pub is_end_kind : Kind → Bool
is_end_kind AnEnd = true
is_end_kind _ = false

-- whether a piece is the end of the text
abbrev pub is_end : Piece → Bool
is_end (AToken t) = is_end_kind t.kind
is_end LeftOut = false

-- none of these is the end of the text
abbrev pub TakesNoEnd : List Piece → Type 0
TakesNoEnd [] = Unit {0}
TakesNoEnd (t ∷ ts) = (is_end t ≡ false) × TakesNoEnd ts
