-- What the values of the code stand for.
use Rattle.std.specs.Prelude.{List, [], ◌∷◌, map, option_map, string_bytes}
use Rattle.ss_ast.specs.Expressions.{name_tree}
use Rattle.ss_ast.specs.Programs.{ClassTree, param_tree}
use Rattle.ss_tables_lookup.specs.Views.{type_of}
use Rattle.ss_tables_scopes.specs.Names.{Names}
use Rattle.ss_tables_scopes.specs.Views.{scope_of, receiver_of}
use Rattle.ss_resolver_types_heads.specs.declared.wants.Want.{Want as CodeWant}
use Rattle.ss_resolver_types_heads.specs.declared.wants.Want.TheVariants as code
use Rattle.ss_resolver_types_heads.specs.declared.wants.Known.{Known as CodeKnown}
use Rattle.ss_resolver_types_heads.specs.declared.context.ExprContext.{ExprContext as CodeContext}
use Rattle.ss_resolver_types_heads.specs.declared.calls.Question.{Question}
use Rattle.ss_resolver_types_heads.specs.declared.calls.Question.TheVariants as question
use Rattle.ss_resolver_types_heads.specs.declared.calls.Called.{Called as CodeCalled}
use Rattle.ss_resolver_types_heads.specs.declared.calls.Called.TheVariants as called
use Rattle.ss_resolver_types_heads.specs.declared.heads.Head.{Head as CodeHead}
use Rattle.ss_resolver_types_heads.specs.declared.heads.Head.TheVariants as ends
use Rattle.ss_resolver_types_heads.specs.Wants.{Want, AnInt, ABool, AReference, AnArray, AnyValue, OfType, Printable, OfDeclared, OfClass, ClassName, Known}
use Rattle.ss_resolver_types_heads.specs.Calls.{ExprContext, Called, Taking, Refused, Unknown, param_wants}
use Rattle.ss_resolver_types_heads.specs.Heads.{Head, ABareName, ABaseWord, AMember, AValueOf}

abbrev pub want_of : CodeWant → Want
want_of code.AnInt = AnInt
want_of code.ABool = ABool
want_of code.AReference = AReference
want_of code.AnArray = AnArray
want_of code.AnyValue = AnyValue
want_of (code.OfType t) = OfType (option_map type_of t)
want_of code.Printable = Printable
want_of code.OfDeclared = OfDeclared
want_of (code.OfClass d) = OfClass d
want_of code.ClassName = ClassName

abbrev pub known_of : CodeKnown → Known
known_of v = record { place = v.place; ty = option_map type_of v.ty; is_nothing = v.is_nothing }

-- with these locals in scope
abbrev pub context_of : CodeContext → Names → ExprContext
context_of a names = record {
  scope = scope_of a.within names;
  is_static = a.is_static;
  in_condition = a.in_condition;
  lacks_result = a.lacks_result;
}

-- what a word takes
abbrev pub question_wants : Question → List Want
question_wants question.Print = Printable ∷ []
question_wants question.Nothing = []
question_wants question.OfOne = AReference ∷ []
question_wants question.OfTwo = AReference ∷ AReference ∷ []
question_wants question.OfTwoAtClass = AReference ∷ AReference ∷ ClassName ∷ []
question_wants question.AtClass = ClassName ∷ []

abbrev pub called_of : List ClassTree → CodeCalled → Called
called_of cs (called.Method ps) = Taking (param_wants cs (map param_tree ps.now))
called_of cs (called.Word w) = Taking (question_wants w)
called_of cs called.Refused = Refused
called_of cs called.Unknown = Unknown

abbrev pub head_of : CodeHead → Head
head_of (ends.Name p n) = ABareName p (string_bytes n.now)
head_of (ends.Base p) = ABaseWord p
head_of (ends.Member p r v n) = AMember p (receiver_of r) (known_of v) (name_tree n.now)
head_of (ends.Value f v) = AValueOf f (known_of v)
