use Rattle.std.proofs.Common.{◌∙◌}
use Rattle.ss_search_models.proofs.Keys.{given_found}
use Rattle.ss_search_models.proofs.signatures.Signatures.find.Goals as goal

pub returns : goal.returns
returns c = rw (← c.self.view_is) (c.copied.ensures ∙ c.get.ensures.value ∙ given_found c.args.signature.now c.self.inside.first.entries)
