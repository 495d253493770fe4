use Rattle.std.proofs.Common.{sym, ap, ◌∙◌}
use Rattle.ss_tables.specs.Statics.{member_callee}
use Rattle.ss_tables_scopes.specs.Views.{scope_of, receiver_of}
use Rattle.ss_tables_scopes.proofs.statics.member_callee.Goals as goal

pub returns-in-Base : goal.returns-in-Base
returns-in-Base c = λ names. c.base_callee.ensures names ∙ ap (λ r. member_callee (scope_of c.args.context names) c.args.name.now (receiver_of r)) (sym c.in-Base.is)

pub returns-in-Class : goal.returns-in-Class
returns-in-Class c = λ names. c.class_callee.ensures names ∙ ap (λ r. member_callee (scope_of c.args.context names) c.args.name.now (receiver_of r)) (sym c.in-Class.is)

pub returns-in-Value : goal.returns-in-Value
returns-in-Value c = λ names. c.value_callee.ensures names ∙ ap (λ r. member_callee (scope_of c.args.context names) c.args.name.now (receiver_of r)) (sym c.in-Value.is)

pub returns-in-Console : goal.returns-in-Console
returns-in-Console c = λ names. c.console_callee.ensures (scope_of c.args.context names) ∙ ap (λ r. member_callee (scope_of c.args.context names) c.args.name.now (receiver_of r)) (sym c.in-Console.is)

pub returns-in-Owner : goal.returns-in-Owner
returns-in-Owner c = λ names. c.owner_callee.ensures (scope_of c.args.context names) ∙ ap (λ r. member_callee (scope_of c.args.context names) c.args.name.now (receiver_of r)) (sym c.in-Owner.is)
