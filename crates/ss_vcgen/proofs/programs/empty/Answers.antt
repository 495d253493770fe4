use Rattle.std.proofs.Common.{ap, ◌∙◌}
use Rattle.ss_terms.specs.Forms.{Forms}
use Rattle.ss_vcgen.proofs.programs.empty.Goals as goal

pub returns-clause-bank : goal.returns-clause-bank
returns-clause-bank c = c.apply.ensures.grown.same_fields ∙ ap (λ (b : Forms). b.fields) c.new-bank.ensures ∙ c.in_ok-fields.ensures
