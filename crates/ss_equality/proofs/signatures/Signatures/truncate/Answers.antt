use Rattle.std.proofs.Common.{◌∙◌, ap, sym, subst, take, map}
use Rattle.std.proofs.lemmas.List.{take-map}
use Rattle.ss_equality_rules.specs.Whole.{AreApart, signature}
use Rattle.ss_equality_rules.proofs.Lists.{front_apart}
use Rattle.ss_equality.proofs.signatures.Signatures.truncate.Goals as goal

pub invariant_of-self : goal.invariant_of-self
invariant_of-self c = subst AreApart (take-map signature c.args.count c.self.inside.entries.entries ∙ ap (λ es. map signature es) (sym c.truncate.ensures.entries)) (front_apart c.args.count _ c.self.invariant)

pub returns : goal.returns
returns c = ap (λ es. map signature es) c.truncate.ensures.entries ∙ sym (take-map signature c.args.count c.self.inside.entries.entries) ∙ ap (take c.args.count) c.self.view_is
