use Rattle.std.proofs.Common.{drop, ap, ◌∙◌}
use Rattle.std.proofs.lemmas.List.{take_rest, drop_min}
use Rattle.ss_resolver_names_rules.specs.Programs.{most_methods}
use Rattle.ss_resolver_names.proofs.classes.past_limit.Goals as goal

pub returns : goal.returns
unfolding most_methods
returns c =
    let xs = c.args.methods.now in
    take_rest xs c.min-first.result ∙ ap (λ k. drop k xs) c.min-first.ensures ∙ drop_min 1024 xs
