use Rattle.std.proofs.Common.{◌∙◌}
use Rattle.ss_report_values.proofs.index.Values.value_in.Goals as goal

pub returns : goal.returns
returns c = c.copied.ensures ∙ c.get.ensures.value ∙ c.requires c.args.class
