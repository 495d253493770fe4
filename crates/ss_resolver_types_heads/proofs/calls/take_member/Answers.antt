use Rattle.std.proofs.Common.{ap, sym, ◌∙◌, option_map}
use Rattle.ss_tables_lookup.specs.Views.{declared_field, declared_method}
use Rattle.ss_resolver_types_heads.specs.Calls.{method_or_field}
use Rattle.ss_resolver_types_heads.proofs.calls.take_member.Goals as goal

pub returns-in-Some : goal.returns-in-Some
returns-in-Some c = λ cs. c.take_method.ensures cs ∙ ap (λ m. method_or_field cs c.args.wants_static (option_map declared_method m) (option_map declared_field c.args.field)) (sym c.in-Some.is)
