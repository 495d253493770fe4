use Rattle.std.proofs.Common.{sym, ap, ◌∙◌}
use Rattle.ss_tables_lookup.specs.Classes.{trees}
use Rattle.ss_tables_scopes.specs.Views.{receiver_of}
use Rattle.ss_resolver_types_heads.specs.Calls.{called_member}
use Rattle.ss_resolver_types_heads.specs.Codes.{known_of, context_of}
use Rattle.ss_resolver_types_heads.proofs.calls.call_member.Goals as goal

pub returns-in-Console : goal.returns-in-Console
returns-in-Console c =
    c.call_console.ensures (trees c.args.context.now.within.tables.now)
    ∙ ap (λ r. called_member (context_of c.args.context.now c.args.locals.now) c.args.count (known_of c.args.known) c.args.name.now (receiver_of r)) (sym c.in-Console.is)

pub returns-in-Owner : goal.returns-in-Owner
returns-in-Owner c =
    c.call_owner.ensures (trees c.args.context.now.within.tables.now)
    ∙ ap (λ r. called_member (context_of c.args.context.now c.args.locals.now) c.args.count (known_of c.args.known) c.args.name.now (receiver_of r)) (sym c.in-Owner.is)
