use Rattle.std.proofs.Common.{◌≡◌, ◌∙◌, sym, ap, subst, Some}
use Rattle.std.specs.Prelude.{option_copied, slice_get}
use Rattle.ss_terms.specs.Forms.{term_shape}
use Rattle.ss_equality_rules.specs.Names.{Has}
use Rattle.ss_equality.proofs.Found.{found_signature, absent_signature}
use Rattle.ss_equality.proofs.signatures.Signatures.find.Goals as goal

pub returns-in-Some-clause-found : goal.returns-in-Some-clause-found
returns-in-Some-clause-found c =
    subst (λ s. Has s (term_shape c.args.key.now, c.in-Some.term.now)) c.self.view_is
    (found_signature c.self.inside.entries.entries c.args.key.now c.in-Some.term.now (sym c.get.ensures.value ∙ ap option_copied c.in-Some.is))

pub returns-in-None-clause-absent : goal.returns-in-None-clause-absent
returns-in-None-clause-absent c = λ none i v at.
    absent_signature c.self.inside.entries.entries c.args.key.now (sym c.get.ensures.value ∙ ap option_copied c.in-None.is) i v
    (subst (λ s. slice_get s i ≡ Some (term_shape c.args.key.now, v)) (sym c.self.view_is) at)
