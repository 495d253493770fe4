-- What a bare name stands for at a place, with its number.
use Rattle.std.specs.Prelude.{ℕ, ◌+◌, List, [], ◌∷◌, Option}
use Rattle.std.specs.Option.{option_or}
use Rattle.ss_ast.specs.Expressions.{NameTree, TypeTree}
use Rattle.ss_ast.specs.Statements.{DeclaratorTree, DeclarationTree}
use Rattle.ss_ast.specs.Programs.{ParamTree, ClassTree}
use Rattle.ss_tables.specs.Named.{Named, named_in, named_among, with_named}
use Rattle.ss_tables.specs.Scopes.{Scope, class_scope, declare_local, within_quantifier}
use Rattle.ss_tables.specs.Scopes as scopes
use Rattle.ss_resolver_rules.specs.declared.known.Known.{Known}
use Rattle.ss_resolver_rules.specs.declared.known.Known.TheVariants.{Variable, BoundName}
use Rattle.ss_resolver_rules.specs.Numbers.{type_id}

-- what the names of a scope stand for
abbrev pub Known_names : Type 0
Known_names = Named Known

-- what is known at a place: which names are in scope, the numbers of the locals among them, the number of the next local, and how
-- many quantifiers stand around the place
pub record Env : Type 0 where
  pub scope : Scope
  -- the innermost scope, and those around it from the inside out
  pub inner : Known_names
  pub outer : List Known_names
  pub next : ℕ
  pub bound : ℕ

-- the innermost scope that has the name decides
abbrev pub known : Env → List ℕ → Option Known
known e n = option_or (named_in e.inner n) (named_among e.outer n)

-- within a class, where `this` is the local 0 and no other local stands
abbrev pub class_env : List ClassTree → ℕ → Env
class_env cs k = record { scope = class_scope cs k; inner = []; outer = []; next = 1; bound = 0 }

-- a scope within another one
abbrev pub enter : Env → Env
enter e = record e { scope = scopes.enter e.scope; inner = []; outer = e.inner ∷ e.outer }

-- one more local
abbrev pub declare : Env → TypeTree → NameTree → Env
declare e t n = record e { scope = declare_local e.scope t n; inner = with_named e.inner n.text (Variable e.next (type_id e.scope.classes t)); next = e.next + 1 }

abbrev pub declare_all : Env → TypeTree → List DeclaratorTree → Env
declare_all e t [] = e
declare_all e t (d ∷ ds) = declare_all (declare e t d.name) t ds

abbrev pub after_declaration : Env → DeclarationTree → Env
after_declaration e d = declare_all e d.ty d.declarators

abbrev pub declare_param : Env → ParamTree → Env
declare_param e p = record e { scope = scopes.declare_params e.scope (p ∷ []); inner = with_named e.inner p.name.text (Variable e.next (type_id e.scope.classes p.ty)); next = e.next + 1 }

-- the parameters of a body
abbrev pub declare_params : Env → List ParamTree → Env
declare_params e [] = e
declare_params e (p ∷ ps) = declare_params (declare_param e p) ps

-- within a quantifier, in its member
abbrev pub within : Env → NameTree → Env
within e n = record e { scope = within_quantifier e.scope n; inner = (n.text, BoundName e.bound) ∷ []; outer = e.inner ∷ e.outer; bound = e.bound + 1 }
