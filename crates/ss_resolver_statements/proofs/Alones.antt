-- Calls alone and what is printed, by the form of an expression.
use Rattle.std.proofs.Common.{ℕ, ◌≡◌, List, Bool, false, Option, Some, None, refl}
use Rattle.ss_core.specs.declared.names.Place.{Place}
use Rattle.ss_ast.specs.Expressions.{NameOf, BaseOf, MemberOf, CallOf, ParenOf, TextOf}
use Rattle.ss_ast.specs.Expressions as text
use Rattle.ss_tables.specs.Statics.{Receiver, TheConsole, TheOwner, TheBase, AClass, AValue, static, receiver}
use Rattle.ss_typed.specs.Tree.{AloneOf}
use Rattle.ss_resolver_rules.specs.Names.{Env}
use Rattle.ss_resolver_rules.specs.Expressions.{expr, args}
use Rattle.ss_resolver_rules.specs.Statements.{is_line, printed, call_alone, alone}
use Rattle.ss_resolver_expressions.specs.Environments.{Part, part, part_called}
use Rattle.ss_resolver_statements.specs.Forms.{is_call, text_of}
use Rattle.ss_resolver_statements.specs.Alone.{kind_after, of_kind, part_alone, print_of}

by_receiver : (e : Env) (p : Place) (es : text.Arguments) (x : Part) (n : List ℕ) (r : Receiver) → of_kind e p es x (kind_after r (is_line n)) ≡ call_alone e p n es r (part_called e p es (args e es) x)
by_receiver e p es x n TheConsole = refl
by_receiver e p es x n TheOwner = refl
by_receiver e p es x n TheBase = refl
by_receiver e p es x n (AClass k) = refl
by_receiver e p es x n (AValue t) = refl

-- a call alone of what stands before its arguments
pub call_is : (e : Env) (p : Place) (es : text.Arguments) (t : text.ExprTree) → part_alone e p es (part e t) ≡ alone e (CallOf p t es)
call_is e p es (NameOf q n) = refl
call_is e p es (BaseOf q) = refl
call_is e p es (MemberOf q a n) = by_receiver e p es (part e (MemberOf q a n)) n.text (receiver e.scope a (static e.scope a))
call_is e p es t = refl

-- what is no call
pub other_is : (e : Env) (t : text.ExprTree) → is_call t ≡ false → AloneOf (expr e t) ≡ alone e t
other_is e (CallOf p t es) h = absurd cc
other_is e t h = refl

-- what is printed
pub printed_is : (e : Env) (p : Place) (line : Bool) (t : text.ExprTree) → print_of e p line t (text_of t) ≡ printed e p line t
printed_is e p line (ParenOf q t) = by_text (text_of t) (printed_is e p line t)
  where
    by_text : (o : Option (List ℕ)) → print_of e p line t o ≡ printed e p line t → print_of e p line (ParenOf q t) o ≡ printed e p line t
    by_text (Some x) h = h
    by_text None h = h
printed_is e p line (TextOf q x) = refl
printed_is e p line t = refl
