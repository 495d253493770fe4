use Rattle.std.proofs.Common.{◌≡◌, ◌++◌, ◌∙◌, ap, map, List, None, option_map}
use Rattle.std.proofs.lemmas.Result.{on_ok_weaker}
use Rattle.ss_ast.specs.declared.class.Param.{Param}
use Rattle.ss_ast.specs.declared.class.Clause.{Clause}
use Rattle.ss_ast.specs.Expressions.{type_tree}
use Rattle.ss_ast.specs.Statements.{block_tree}
use Rattle.ss_ast.specs.Programs.{ParamTree, ClauseTree, param_tree, clause_tree}
use Rattle.ss_tables.specs.Members.{is_static_word, word_of}
use Rattle.ss_tables.specs.Scopes.{Scope}
use Rattle.ss_tables.specs.Statics.{result_type}
use Rattle.ss_tables_lookup.specs.Classes.{trees}
use Rattle.ss_tables_lookup.specs.Views.{type_of}
use Rattle.ss_tables_scopes.specs.Views.{scope_of}
use Rattle.ss_resolver_names_rules.specs.Faults.{Faults}
use Rattle.ss_resolver_names_rules.specs.Members.{written_type_faults, in_method, body_faults}
use Rattle.ss_resolver_names_members.proofs.Appending.{one_more}
use Rattle.ss_resolver_names_members.proofs.members.check_method.Goals as goal

pub returns : goal.returns
returns c =
    let l = c.args.locals.now in
    let s = scope_of c.args.context l in
    let m = c.args.method.now in
    let cs = trees c.args.context.tables.now in
    let old = c.args.faults.now.items in
    let mid = c.check_result.new.faults.items in
    let new = c.check_body.new.faults.items in
    let inner = scope_of c.in_method-inner.result l in
    let static = is_static_word (word_of c.args.words.now) in
    let whole = in_method s static (result_type cs (option_map type_tree m.returns)) in
    let body : Scope → List Param → List Clause → Faults = λ v ps xs. body_faults v (map param_tree ps) None (map clause_tree xs) (block_tree m.body) in
    let typed = written_type_faults cs (option_map type_tree m.returns) in
    on_ok_weaker {P = new ≡ mid ++ body inner c.deref.result.now c.deref-2.result.now} {Q = new ≡ old ++ (typed ++ body whole m.params.items m.clauses.items)} c.check_body.result
    (λ p. one_more old mid new typed (body whole m.params.items m.clauses.items) c.in_ok-check_result.ensures
    (p ∙ ap (λ ps. mid ++ body inner ps c.deref-2.result.now) c.deref.ensures.value ∙ ap (λ xs. mid ++ body inner m.params.items xs) c.deref-2.ensures.value
    ∙ ap (λ v. mid ++ body v m.params.items m.clauses.items) (c.in_method-inner.ensures l ∙ ap (λ b. in_method s b (option_map type_of c.result_type-outcome.result)) c.is_static_word.ensures ∙ ap (in_method s static) c.result_type-outcome.ensures)))
    c.check_body.ensures
