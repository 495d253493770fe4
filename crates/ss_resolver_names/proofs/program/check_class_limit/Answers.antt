use Rattle.std.proofs.Common.{◌++◌, map, sym, ap, ◌∙◌}
use Rattle.std.proofs.lemmas.List.{drop-map}
use Rattle.std.proofs.lemmas.Result.{on_ok_weaker}
use Rattle.ss_ast.specs.Programs.{ClassTree, class_tree}
use Rattle.ss_core.specs.declared.rules.Rule.TheVariants as rule
use Rattle.ss_resolver_names_rules.specs.Members.{faults_at}
use Rattle.ss_resolver_names_rules.specs.Programs.{most_classes, class_names}
use Rattle.ss_resolver_names.proofs.program.check_class_limit.Goals as goal

pub returns : goal.returns
returns c =
    let old = c.args.faults.now.items in
    on_ok_weaker c.add_classes.result (λ h. h
    ∙ ap (λ xs. old ++ faults_at rule.Limit (class_names (map class_tree xs))) c.past_limit.ensures
    ∙ ap (λ xs. old ++ faults_at rule.Limit (class_names xs)) (sym (drop-map class_tree most_classes c.args.classes.now))
    ∙ ap (λ ns. old ++ faults_at rule.Limit ns) (sym (drop-map (λ (t : ClassTree). t.name) most_classes (map class_tree c.args.classes.now)))) c.add_classes.ensures
