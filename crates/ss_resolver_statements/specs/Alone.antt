-- A call alone, by what is called.
use Rattle.std.specs.Prelude.{ℕ, Bool, List, Option, Some, None}
use Rattle.ss_core.specs.declared.names.Place.{Place}
use Rattle.ss_ast.specs.Expressions as text
use Rattle.ss_tables.specs.Statics.{Receiver, TheConsole, TheOwner, TheBase, AClass, AValue}
use Rattle.ss_typed.specs.Tree.{SimpleTree, AloneOf, PrintOf, PrintTextOf, BaseCallOf}
use Rattle.ss_resolver_rules.specs.Names.{Env}
use Rattle.ss_resolver_rules.specs.Expressions.{expr, args}
use Rattle.ss_resolver_rules.specs.Statements.{is_line, print}
use Rattle.ss_resolver_expressions.specs.Environments.{Part, ABareName, ABaseWord, AMember, AnOther, part_called}
use Rattle.ss_resolver_statements.specs.declared.simples.Alone.{Alone}
use Rattle.ss_resolver_statements.specs.declared.simples.Alone.TheVariants.{Print, Base, Call}

abbrev pub kind_after : Receiver → Bool → Alone
kind_after TheConsole line = Print line
kind_after TheOwner line = Call
kind_after TheBase line = Call
kind_after (AClass k) line = Call
kind_after (AValue t) line = Call

-- what a call of it alone is
abbrev pub kind_of : Part → Alone
kind_of (ABareName p n) = Call
kind_of (ABaseWord p) = Base
kind_of (AMember p r t o n) = kind_after r (is_line n)
kind_of (AnOther t x) = Call

abbrev pub of_kind : Env → Place → text.Arguments → Part → Alone → SimpleTree
of_kind e p es x (Print line) = print e p line es
of_kind e p es x Base = BaseCallOf p (args e es)
of_kind e p es x Call = AloneOf (part_called e p es (args e es) x)

abbrev pub part_alone : Env → Place → text.Arguments → Part → SimpleTree
part_alone e p es x = of_kind e p es x (kind_of x)

-- what is printed: a string by its bytes, else a value
abbrev pub print_of : Env → Place → Bool → text.ExprTree → Option (List ℕ) → SimpleTree
print_of e p line t (Some x) = PrintTextOf p x line
print_of e p line t None = PrintOf p (Some (expr e t)) line
