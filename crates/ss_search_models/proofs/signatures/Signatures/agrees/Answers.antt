use Rattle.std.proofs.Common.{◌≡◌, ◌∙◌, ap, sym, subst, Some, None, true, arith, rules}
use Rattle.std.proofs.lemmas.Grind.{common_steps}
use Rattle.ss_search_models.specs.contracts.signatures.GivenPartialEq.TheImpl as given_eq
use Rattle.ss_search_models.specs.Keys.{Givens, key_of, given_to}
use Rattle.ss_search_models.proofs.Keys.{given_new, given_kept, given_same}
use Rattle.ss_search_models.proofs.signatures.Signatures.agrees.Goals as goal

pub returns-in-Some-clause-given : goal.returns-in-Some-clause-given
returns-in-Some-clause-given c = λ h.
    let same : (given_eq.ghosts).eq c.in-Some.first c.args.given ≡ true = first_of (cc, search rules, grind (arith, common_steps)) in
    sym c.find.ensures ∙ c.in-Some.is ∙ ap Some (given_same c.in-Some.first c.args.given same)

pub returns-clause-given : goal.returns-clause-given
returns-clause-given c =
    let none : given_to c.args.self.now (key_of c.args.signature) ≡ None = first_of (search rules, grind (arith, common_steps)) in
    λ h. subst (λ (gs : Givens). given_to gs (key_of c.args.signature) ≡ Some c.args.given) (sym c.in_ok-insert.ensures)
    (given_new c.args.self.now (key_of c.args.signature) c.args.given none)

pub returns-clause-kept : goal.returns-clause-kept
returns-clause-kept c = λ k g h.
    subst (λ (gs : Givens). given_to gs k ≡ Some g) (sym c.in_ok-insert.ensures) (given_kept c.args.self.now (key_of c.args.signature, c.args.given) k g h)
