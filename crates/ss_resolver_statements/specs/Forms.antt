-- What an expression is by its form.
use Rattle.std.specs.Prelude.{ℕ, Bool, true, false, List, Option, Some, None}
use Rattle.ss_ast.specs.Expressions.{ExprTree, CallOf, ParenOf, TextOf}

abbrev pub is_call : ExprTree → Bool
is_call (CallOf p f es) = true
is_call e = false

-- the bytes of a string, in parentheses or not
abbrev pub text_of : ExprTree → Option (List ℕ)
text_of (ParenOf p e) = text_of e
text_of (TextOf p t) = Some t
text_of e = None
