use Rattle.std.proofs.Common.{map, sym, ap, ◌∙◌}
use Rattle.std.specs.Prelude.{unwrap_or, slice_get}
use Rattle.ss_ast.specs.Expressions.{expr_tree, arguments}
use Rattle.ss_typed.specs.Tree as typed
use Rattle.ss_resolver_rules.specs.Expressions.{first_class, third_class}
use Rattle.ss_resolver_expressions.specs.Environments.{env_of, part_view, part_called, given, numbers_of}
use Rattle.ss_resolver_expressions.proofs.PartIs.{args_are, first_is, third_is}
use Rattle.ss_resolver_statements.proofs.simples.resolve_call.Goals as goal

pub returns-clause-tree : goal.returns-clause-tree
returns-clause-tree c =
    let s = c.args.context.now in
    let e = env_of s c.args.names.now in
    let ts = map expr_tree c.args.written.now in
    let g = c.in_ok-given.given in
    let x = part_view c.args.before in
    let k = c.in_ok-given.ensures.kept in
    let classes = ap numbers_of c.deref.ensures.value ∙ c.in_ok-given.ensures.classes in
    let one = c.asked_of-asked.ensures.first ∙ ap (λ ns. unwrap_or (slice_get ns 0) 0) classes ∙ first_is e ts ∙ ap (λ n. first_class (env_of s n) (arguments ts)) (sym k) in
    let three = c.asked_of-asked.ensures.third ∙ ap (λ ns. unwrap_or (slice_get ns 2) 0) classes ∙ third_is e ts ∙ ap (λ n. third_class (env_of s n) (arguments ts)) (sym k) in
    c.in_ok-whole.ensures (arguments ts) one three
    ∙ ap (λ n. part_called (env_of s n) c.args.place (arguments ts) (given g.values.items) x) k
    ∙ ap (λ v. part_called e c.args.place (arguments ts) v x) (ap typed.arguments c.in_ok-given.ensures.values ∙ args_are e ts)
