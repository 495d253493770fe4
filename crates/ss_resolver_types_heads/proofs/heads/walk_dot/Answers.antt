use Rattle.ss_ast.specs.Expressions.{name_tree}
use Rattle.ss_resolver_types_heads.specs.Codes.{context_of, head_of}
use Rattle.ss_resolver_types_heads.proofs.Endings.{dot_leads}
use Rattle.ss_resolver_types_heads.proofs.heads.walk_dot.Goals as goal

pub returns : goal.returns
returns c =
    dot_leads (context_of c.args.context.now c.args.locals.now) c.args.found.now.items _ (head_of c.args.head) _ c.args.place (name_tree c.args.name.now)
    c.in_ok-longer.ensures.head c.in_ok-longer.ensures.noted
