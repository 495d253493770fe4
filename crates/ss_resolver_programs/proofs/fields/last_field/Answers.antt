use Rattle.ss_resolver_programs.proofs.Steps.{last_reads, last_other, if_some, if_none}
use Rattle.ss_resolver_programs.proofs.fields.last_field.Goals as goal

pub returns-clause-some : goal.returns-clause-some
returns-clause-some c =
    let x = c.in-Some in
    if_some c.field_of.result _ _ (λ f k. last_reads c.args.steps.now x.field-0-1.now x.last.now x.ensures.some f.0 k) c.field_of.ensures.some

pub returns-clause-none : goal.returns-clause-none
returns-clause-none c =
    let x = c.in-Some in
    if_none c.field_of.result _ _ (λ k. last_other c.args.steps.now x.field-0-1.now x.last.now x.ensures.some k) c.field_of.ensures.none
