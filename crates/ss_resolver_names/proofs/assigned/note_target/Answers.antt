use Rattle.std.proofs.Common.{◌≡◌, Some, sym, ap, ◌∙◌, option_map, string_bytes}
use Rattle.std.proofs.lemmas.Result.{on_ok_weaker}
use Rattle.ss_ast.specs.Expressions.{expr_tree}
use Rattle.ss_tables.specs.Named.{named}
use Rattle.ss_tables_scopes.specs.Views.{scope_of}
use Rattle.ss_resolver_names_rules.specs.Locals.{if_param}
use Rattle.ss_resolver_names_rules.specs.Bare.{bare_name}
use Rattle.ss_resolver_scoping.specs.Views.{names_of, text_of}
use Rattle.ss_resolver_names.proofs.Targets.{target_of_name, target_of_other}
use Rattle.ss_resolver_names.proofs.assigned.note_target.Goals as goal

pub returns-in-Some : goal.returns-in-Some
returns-in-Some c =
    let l = c.args.locals.now in
    let s = scope_of c.args.context l in
    let t = expr_tree c.args.target.now in
    let n = string_bytes c.in-Some.name.now in
    let ns = names_of c.args.names.now.keys in
    let bare : bare_name t ≡ Some n = sym c.bare_name.ensures ∙ ap text_of c.in-Some.is in
    on_ok_weaker c.note_if_param.result (λ h. h ∙ ap (λ o. if_param ns c.as_str-text.result.now o) c.find-local.ensures ∙ ap (λ k. if_param ns k (named l k)) c.as_str-text.ensures.value ∙ sym (target_of_name s ns t n bare)) c.note_if_param.ensures

pub returns-in-None : goal.returns-in-None
returns-in-None c =
    let s = scope_of c.args.context c.args.locals.now in
    sym (target_of_other s (names_of c.args.names.now.keys) (expr_tree c.args.target.now) (sym c.bare_name.ensures ∙ ap text_of c.in-None.is))
