use Rattle.std.proofs.Common.{◌≡◌, ◌∙◌, sym, ap, length, Some, None, refl, arith}
use Rattle.std.specs.Prelude.{option_copied}
use Rattle.ss_linear_network.proofs.Making.{looked_up, place_within}
use Rattle.ss_linear_network.proofs.nodes.Nodes.place.Goals as goal

pub returns-in-Some-clause-place : goal.returns-in-Some-clause-place
returns-in-Some-clause-place c = looked_up c.args.bank.now c.args.self.now c.args.t (Some c.in-Some.place.now) c.in-Some.place.now c.requires.nodes c.requires.term (sym c.get.ensures.value ∙ ap option_copied c.in-Some.is) refl

pub returns-in-Some-clause-within : goal.returns-in-Some-clause-within
returns-in-Some-clause-within c =
    place_within c.args.bank.now c.args.self.now.terms.items c.args.t c.in-Some.place.now
    (looked_up c.args.bank.now c.args.self.now c.args.t (Some c.in-Some.place.now) c.in-Some.place.now c.requires.nodes c.requires.term (sym c.get.ensures.value ∙ ap option_copied c.in-Some.is) refl)

pub returns-in-None-clause-place : goal.returns-in-None-clause-place
returns-in-None-clause-place c =
    let size : c.len.result ≡ length c.args.self.now.terms.items = (let e = c.len.ensures in let o = c.args.self.now.terms.ok in omega arith) in
    looked_up c.args.bank.now c.args.self.now c.args.t None c.len.result c.requires.nodes c.requires.term (sym c.get.ensures.value ∙ ap option_copied c.in-None.is) size
