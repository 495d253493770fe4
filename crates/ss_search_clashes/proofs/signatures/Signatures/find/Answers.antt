use Rattle.std.proofs.Common.{◌∙◌}
use Rattle.ss_search_clashes.proofs.Keys.{said_found}
use Rattle.ss_search_clashes.proofs.signatures.Signatures.find.Goals as goal

pub returns : goal.returns
returns c = rw (← c.self.view_is) (c.copied.ensures ∙ c.get.ensures.value ∙ said_found c.args.signature.now c.self.inside.first.entries)
