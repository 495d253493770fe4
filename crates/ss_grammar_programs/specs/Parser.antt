-- Reading by the grammar of declarations, from left to right, at depth d.
use Rattle.std.specs.Prelude.{ℕ, true, List, [], ◌∷◌, length, Option, Some, None, Ok, ◌-◌}
use Rattle.ss_core.specs.declared.names.Place.{Place}
use Rattle.ss_ast.specs.declared.token.Word.TheVariants as word
use Rattle.ss_ast.specs.declared.token.Symbol.TheVariants as symbol
use Rattle.ss_ast.specs.declared.class.Modifier.{Modifier}
use Rattle.ss_ast.specs.Expressions.{NameTree, TypeTree, ExprTree, MemberOf, ElementOf, CallOf, arguments}
use Rattle.ss_ast.specs.Statements.{BlockTree}
use Rattle.ss_ast.specs.Programs.{ParamTree, ModifiedTree, AllOf, ElementsOf, ClauseTree, RequiresOf, EnsuresOf, ModifiesOf, BaseCallTree, MemberKindTree, FieldsOf, InvariantOf, MethodOf, ConstructorOf, MemberTree, ClassTree, ProgramTree}
use Rattle.ss_grammar.specs.Reading.{◌>>=◌, take, maybe, times}
use Rattle.ss_grammar_expressions.specs.First.{choose, here, tokened}
use Rattle.ss_grammar_expressions.specs.Heads.{Piece, place_at, or_left_out, is, the, the_word, a_name, TypeHead, type_head, PostfixHead, DotHead, IndexHead, CallHead, postfix_head, postfix_opens}
use Rattle.ss_grammar_expressions.specs.Grammar.{TheExpression, head_of}
use Rattle.ss_grammar_expressions.specs.Parser.{Gets, give, below, opened, held, name_at, type_end, args_end, index_end, whole_expression}
use Rattle.ss_grammar_statements.specs.Parser.{ended, decls_from, prim, block}
use Rattle.ss_grammar_programs.specs.Again.{again}
use Rattle.ss_grammar_programs.specs.Heads.{the_end, an_access, member_word, begins_class, MemberHead, InvariantFirst, VoidFirst, WordFirst, NameFirst, member_head, begins_member, type_follows, fields_follow, ClauseHead, RequiresFirst, EnsuresFirst, ModifiesFirst, clause_head}
use Rattle.ss_grammar_programs.specs.Grammar.{push, push_after, dropped, attribute_at, Reached, Path, Whole, path_goes, Step, stepped, modified, base_call, join_word}

-- an expression at depth d
abbrev pub expression : ℕ → Gets ExprTree
expression d = whole_expression d (below d)

-- one at the next
abbrev pub inner_expression : ℕ → Gets ExprTree
inner_expression d = below d TheExpression

-- ---- attributes, types and parameters

unfoldable pub attribute_end : Place → Gets NameTree
attribute_end p ts = name_at ts >>= λ n. take (the symbol.CloseBracket) (λ _. give (attribute_at p n.0)) n.1

-- after a `[`
abbrev pub attribute : ℕ → Place × Piece → Gets NameTree
attribute d x = opened true d (attribute_end x.0) x.1

unfoldable pub attributes : ℕ → Gets (List NameTree)
attributes d ts = times (tokened (the symbol.OpenBracket)) (attribute d) push_after (length ts) [] ts

unfoldable pub full_type : ℕ → Gets TypeTree
full_type d = take type_head (type_end d)

unfoldable pub parameter : ℕ → Gets ParamTree
parameter d ts = attributes d ts >>= λ xs. full_type d xs.1 >>= λ t. name_at t.1 >>= λ n. Ok (record { attributes = xs.0; ty = t.0; name = n.0 }, n.1)

unfoldable pub params : ℕ → Gets (List ParamTree)
params d ts = parameter d ts >>= λ p. times (the symbol.Comma) (λ _. parameter d) push_after (length p.1) (p.0 ∷ []) p.1

unfoldable pub some_params : ℕ → Gets (List ParamTree)
some_params d ts = params d ts >>= λ ps. take (the symbol.Close) (λ _. give ps.0) ps.1

unfoldable pub params_end : ℕ → Gets (List ParamTree)
params_end d = choose (is (the symbol.Close)) (take (the symbol.Close) (λ _. give [])) (some_params d)

unfoldable pub parameters : ℕ → Gets (List ParamTree)
parameters d = take (tokened (or_left_out (the symbol.Open))) (held d (λ _. params_end (d - 1)) [])

-- ---- clauses

unfoldable pub all_step : Gets Step
all_step = take (the symbol.Star) (λ _. give (λ p a. Whole (AllOf a)))

unfoldable pub member_step : Gets Step
member_step ts = name_at ts >>= λ n. Ok ((λ p a. Path (MemberOf p a n.0)), n.1)

unfoldable pub dot_step : Gets Step
dot_step = choose (is (the symbol.Star)) all_step member_step

unfoldable pub elements_step : Gets Step
elements_step = take (the symbol.Star) (λ _. take (the symbol.CloseBracket) (λ _. give (λ p a. Whole (ElementsOf a))))

unfoldable pub element_step : ℕ → Gets Step
element_step d ts = index_end (inner_expression d) ts >>= λ e. Ok ((λ p a. Path (ElementOf p a e.0)), e.1)

unfoldable pub index_step : ℕ → Gets Step
index_step d = choose (is (the symbol.Star)) elements_step (element_step d)

unfoldable pub call_step : ℕ → Gets Step
call_step d ts = args_end (inner_expression d) ts >>= λ es. Ok ((λ p a. Path (CallOf p a (arguments es.0))), es.1)

-- after `.`, `[` and `(`
unfoldable pub step_after : ℕ → PostfixHead → Gets Step
step_after d DotHead ts = dot_step ts
step_after d IndexHead ts = index_step d ts
step_after d CallHead ts = call_step d ts

unfoldable pub step : ℕ → Gets Step
step d = take (tokened postfix_head) (λ x. opened (postfix_opens x.0) d (step_after d x.0) x.1)

unfoldable pub steps : Place → ℕ → ExprTree → Gets Reached
steps p d a ts = again path_goes (step d) (stepped p) (length ts) (Path a) ts

unfoldable pub modified_from : Place → ℕ → ExprTree → Gets ModifiedTree
modified_from p d a ts = steps p d a ts >>= λ r. Ok (modified r.0, r.1)

unfoldable pub modified_term : ℕ → Gets ModifiedTree
modified_term d = here place_at (λ p ts. prim d (below d) ts >>= λ a. modified_from p d a.0 a.1)

unfoldable pub modifies : ℕ → Gets (List ModifiedTree)
modifies d ts = modified_term d ts >>= λ m. times (the symbol.Comma) (λ _. modified_term d) push_after (length m.1) (m.0 ∷ []) m.1

unfoldable pub clause_after : ℕ → ClauseHead → Gets ClauseTree
clause_after d RequiresFirst ts = ended (expression d) ts >>= λ e. Ok (RequiresOf e.0, e.1)
clause_after d EnsuresFirst ts = ended (expression d) ts >>= λ e. Ok (EnsuresOf e.0, e.1)
clause_after d ModifiesFirst ts = ended (modifies d) ts >>= λ ms. Ok (ModifiesOf ms.0, ms.1)

unfoldable pub clauses : ℕ → Gets (List ClauseTree)
clauses d ts = times clause_head (clause_after d) push_after (length ts) [] ts

unfoldable pub specified : ℕ → Gets (List ClauseTree × BlockTree)
specified d ts = clauses d ts >>= λ cs. block d cs.1 >>= λ b. Ok ((cs.0, b.0), b.1)

-- ---- members

unfoldable pub fields : ℕ → TypeTree → NameTree → Gets MemberKindTree
fields d t n ts = ended (decls_from d (below d) n) ts >>= λ cs. Ok (FieldsOf (record { ty = t; declarators = cs.0 }), cs.1)

unfoldable pub method : ℕ → Option TypeTree → NameTree → Gets MemberKindTree
method d t n ts = parameters d ts >>= λ ps. specified d ps.1 >>= λ c. Ok (MethodOf t n ps.0 c.0.0 c.0.1, c.1)

unfoldable pub base_end : Place → ℕ → Gets (Option BaseCallTree)
base_end p d ts = args_end (inner_expression d) ts >>= λ es. Ok (base_call p es.0, es.1)

unfoldable pub base_after : ℕ → Place → Gets (Option BaseCallTree)
base_after d p = take (tokened (or_left_out (the symbol.Open))) (held d (λ _. base_end p d) (base_call p []))

unfoldable pub base : ℕ → Gets (Option BaseCallTree)
base d = maybe (the symbol.Colon) (λ _. take (the_word word.Base) (base_after d)) None

unfoldable pub constructor : ℕ → NameTree → Gets MemberKindTree
constructor d n ts = parameters d ts >>= λ ps. base d ps.1 >>= λ b. specified d b.1 >>= λ c. Ok (ConstructorOf n ps.0 b.0 c.0.0 c.0.1, c.1)

unfoldable pub fields_or_method : ℕ → TypeTree → NameTree → Gets MemberKindTree
fields_or_method d t n = choose fields_follow (fields d t n) (method d (Some t) n)

unfoldable pub typed : ℕ → TypeHead → Gets MemberKindTree
typed d t ts = type_end d t ts >>= λ y. name_at y.1 >>= λ n. fields_or_method d y.0 n.0 n.1

unfoldable pub void_method : ℕ → Gets MemberKindTree
void_method d ts = name_at ts >>= λ n. method d None n.0 n.1

unfoldable pub name_first : ℕ → NameTree → Gets MemberKindTree
name_first d n = choose type_follows (typed d (head_of n)) (constructor d n)

unfoldable pub kind_after : ℕ → MemberHead → Gets MemberKindTree
kind_after d InvariantFirst ts = ended (expression d) ts >>= λ e. Ok (InvariantOf e.0, e.1)
kind_after d VoidFirst ts = void_method d ts
kind_after d (WordFirst t) ts = typed d t ts
kind_after d (NameFirst n) ts = name_first d n ts

unfoldable pub member_kind : ℕ → Gets MemberKindTree
member_kind d = take member_head (kind_after d)

unfoldable pub words : Gets (List Modifier)
words ts = again (λ _. is member_word) (take member_word give) join_word (length ts) [] ts

unfoldable pub member : ℕ → Gets MemberTree
member d ts = attributes d ts >>= λ xs. words xs.1 >>= λ ms. member_kind d ms.1 >>= λ k. Ok (record { attributes = xs.0; modifiers = ms.0; kind = k.0 }, k.1)

-- ---- classes and programs

unfoldable pub members : ℕ → Gets (List MemberTree)
members d ts = again (λ _. begins_member) (member d) push (length ts) [] ts

unfoldable pub class_end : NameTree → Option NameTree → ℕ → Gets ClassTree
class_end n a d ts = members d ts >>= λ ms. take (the symbol.CloseBrace) (λ _. give (record { name = n; above = a; members = ms.0 })) ms.1

unfoldable pub class_body : ℕ → NameTree → Option NameTree → Gets ClassTree
class_body d n a = take (tokened (or_left_out (the symbol.OpenBrace))) (held d (λ _. class_end n a (d - 1)) (record { name = n; above = a; members = [] }))

unfoldable pub class_above : Gets (Option NameTree)
class_above = maybe (the symbol.Colon) (λ _ ts. name_at ts >>= λ n. Ok (Some n.0, n.1)) None

unfoldable pub class_named : ℕ → Gets ClassTree
class_named d ts = name_at ts >>= λ n. class_above n.1 >>= λ a. class_body d n.0 a.0 a.1

unfoldable pub accesses : Gets (Unit {0})
accesses ts = again (λ _. is an_access) (take an_access give) (λ a _. a) (length ts) tt ts

unfoldable pub class_decl : ℕ → Gets ClassTree
class_decl d ts = accesses ts >>= λ x. take (the_word word.Class) (λ _. class_named d) x.1

unfoldable pub classes : ℕ → Gets (List ClassTree)
classes d ts = again (λ _. begins_class) (class_decl d) push (length ts) [] ts

unfoldable pub skipped_name : Gets (Unit {0})
skipped_name = take a_name (λ _. give tt)

unfoldable pub dotted : Gets (Unit {0})
dotted ts = times (the symbol.Dot) (λ _. skipped_name) dropped (length ts) tt ts

unfoldable pub using_end : Gets (Unit {0})
using_end ts = skipped_name ts >>= λ n. dotted n.1 >>= λ x. take (the symbol.Semicolon) (λ _. give tt) x.1

unfoldable pub usings : Gets (Unit {0})
usings ts = times (the_word word.Using) (λ _. using_end) dropped (length ts) tt ts

unfoldable pub declarations : ℕ → Gets (List ClassTree)
declarations d ts = usings ts >>= λ x. classes d x.1

unfoldable pub program : ℕ → Gets ProgramTree
program d ts = declarations d ts >>= λ cs. take the_end (λ p. give (record { classes = cs.0; last = p })) cs.1
