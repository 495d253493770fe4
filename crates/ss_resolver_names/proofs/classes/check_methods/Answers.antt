use Rattle.std.proofs.Common.{◌++◌, map, sym, ap, ◌∙◌}
use Rattle.std.proofs.lemmas.List.{drop-map}
use Rattle.std.proofs.lemmas.Result.{on_ok_weaker}
use Rattle.ss_tables.specs.Members.{MethodTree}
use Rattle.ss_tables_lookup.specs.Views.{method_tree}
use Rattle.ss_core.specs.declared.rules.Rule.TheVariants as rule
use Rattle.ss_resolver_names_rules.specs.Members.{faults_at}
use Rattle.ss_resolver_names_rules.specs.Programs.{most_methods}
use Rattle.ss_resolver_names.proofs.classes.check_methods.Goals as goal

pub returns : goal.returns
returns c =
    let old = c.args.faults.now.items in
    on_ok_weaker c.add_methods.result (λ h. h
    ∙ ap (λ xs. old ++ faults_at rule.Limit (map (λ (m : MethodTree). m.name) (map method_tree xs))) c.past_limit.ensures
    ∙ ap (λ xs. old ++ faults_at rule.Limit (map (λ (m : MethodTree). m.name) xs)) (sym (drop-map method_tree most_methods c.args.methods.now))) c.add_methods.ensures
