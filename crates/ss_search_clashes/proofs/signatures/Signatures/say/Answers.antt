use Rattle.std.proofs.Common.{◌≡◌, ◌∙◌, ap, sym, subst, Some, None, arith, rules}
use Rattle.std.proofs.lemmas.Grind.{common_steps}
use Rattle.std.proofs.lemmas.Option.{IfSome_then}
use Rattle.ss_search_clashes.specs.Says.{Sayings, key_of, said_of, IsStep}
use Rattle.ss_search_clashes.proofs.Keys.{said_new, pushed_step, same_step}
use Rattle.ss_search_clashes.proofs.signatures.Signatures.say.Goals as goal

pub returns-in-Some-clause-said : goal.returns-in-Some-clause-said
returns-in-Some-clause-said c = λ h. (c.in-Some.first.place, sym c.find.ensures ∙ c.in-Some.is ∙ ap Some (c.opposite_place.ensures.none h))

pub returns-in-Some-clause-step : goal.returns-in-Some-clause-step
returns-in-Some-clause-step c = same_step c.args.self.now (key_of c.args.signature) c.args.said

pub returns-in-Some-clause-opposite : goal.returns-in-Some-clause-opposite
returns-in-Some-clause-opposite c = IfSome_then c.opposite_place.result c.opposite_place.ensures.some (λ i e. sym c.find.ensures ∙ c.in-Some.is ∙ ap Some e)

pub returns-clause-said : goal.returns-clause-said
returns-clause-said c =
    let none : said_of c.args.self.now (key_of c.args.signature) ≡ None = first_of (search rules, grind (arith, common_steps)) in
    λ h. (
      c.args.said.place,
      subst (λ (gs : Sayings). said_of gs (key_of c.args.signature) ≡ Some c.args.said) (sym c.in_ok-insert.ensures)
          (said_new c.args.self.now (key_of c.args.signature) c.args.said none),
    )

pub returns-clause-step : goal.returns-clause-step
returns-clause-step c =
    subst (λ (gs : Sayings). IsStep c.args.self.now gs (key_of c.args.signature) c.args.said) (sym c.in_ok-insert.ensures)
    (pushed_step c.args.self.now (key_of c.args.signature) c.args.said)
