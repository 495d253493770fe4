use Rattle.std.proofs.Common.{◌≡◌, ap, ◌∙◌}
use Rattle.std.specs.Prelude.{map, position, unwrap_or}
use Rattle.ss_typed.specs.Tree.{arguments}
use Rattle.ss_typed.specs.View.{exprs, typed}
use Rattle.ss_expand_rules.specs.Lifting.{arguments_of}
use Rattle.ss_expand_rules.specs.Program as program
use Rattle.ss_typed.specs.Lookups as lookups
use Rattle.ss_expand_expressions.specs.Sources.{stmts_of, listed_after}
use Rattle.ss_expand_bodies.specs.Origins.{origin_of}
use Rattle.ss_expand_bodies.proofs.ByClass.{listed_by_class}
use Rattle.ss_expand_lifting.specs.Contexts.{context_of}
use Rattle.ss_expand_lifting.proofs.Statements.{base_after}
use Rattle.ss_expand_lifting.proofs.simple.base_with.Goals as goal

pub number_among-requires : goal.number_among-requires
number_among-requires c = record { by_class = listed_by_class (typed c.args.context.now.program.now) (map origin_of c.args.context.now.origins.now) c.args.context.now.listed }

pub returns : goal.returns
returns c =
    let s = context_of c.args.context.now in
    let t = c.args.above.0 in
    let before = stmts_of c.args.code.now.statements in
    let es = arguments (exprs c.args.es.now) in
    let kinds = c.args.made.now.items in
    let listed = c.args.context.now.listed in
    base_after s c.args.place t _ before _ _ _ _ _ (arguments_of s (lookups.param_types_in (lookups.constructor_of s.program t)) es kinds)
    (c.in_ok-values.ensures ∙ ap (λ ts. listed_after before (arguments_of s ts es kinds)) (c.params_in-params.ensures ∙ ap lookups.param_types_in c.constructor_of.ensures))
    (c.in_ok-number.ensures ∙ ap (λ os. unwrap_or (position (program.same_origin (program.Constructor t)) os) 0) listed)
    c.in_ok-add_base_call.ensures c.in_ok-add_ready.ensures
