use Rattle.std.proofs.Common.{drop, ap, ◌∙◌}
use Rattle.std.proofs.lemmas.List.{take_rest, drop_min}
use Rattle.ss_resolver_names_rules.specs.Programs.{most_classes}
use Rattle.ss_resolver_names.proofs.program.past_limit.Goals as goal

pub returns : goal.returns
unfolding most_classes
returns c =
    let xs = c.args.classes.now in
    take_rest xs c.min-first.result ∙ ap (λ k. drop k xs) c.min-first.ensures ∙ drop_min 4096 xs
