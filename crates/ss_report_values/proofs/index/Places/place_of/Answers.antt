use Rattle.std.proofs.Common.{◌∙◌, sym, ap, length, Some, None, refl}
use Rattle.std.specs.Prelude.{option_copied}
use Rattle.ss_report_values.proofs.Classes.{looked_up}
use Rattle.ss_report_values.proofs.index.Places.place_of.Goals as goal

pub returns-in-Some : goal.returns-in-Some
returns-in-Some c = looked_up c.args.bank.now c.args.terms.now c.args.self.now c.args.t (Some c.in-Some.place.now) c.in-Some.place.now c.requires.places c.requires.term (sym c.get.ensures.value ∙ ap option_copied c.in-Some.is) refl

pub returns-in-None : goal.returns-in-None
returns-in-None c = looked_up c.args.bank.now c.args.terms.now c.args.self.now c.args.t None (length c.args.terms.now) c.requires.places c.requires.term (sym c.get.ensures.value ∙ ap option_copied c.in-None.is) refl
