use Rattle.std.proofs.Common.{◌≡◌, drop, sym, ◌∙◌, ap, subst}
use Rattle.std.proofs.lemmas.Bool.{true≢false}
use Rattle.std.proofs.lemmas.Option.{IfSome_then}
use Rattle.std.specs.Prelude.{slice_get}
use Rattle.ss_logic.specs.Opened.{is_exists}
use Rattle.ss_logic_means.specs.Origins.{opened_by}
use Rattle.ss_terms.specs.Forms.{formula_at}
use Rattle.ss_search_path.specs.Paths.{known_on}
use Rattle.ss_search_path.specs.Standing.{choices_in}
use Rattle.ss_search_path.proofs.StandingFacts.{some_same}
use Rattle.ss_search_path.proofs.standing.Given.opening.Goals as goal

pub returns-in_default-clause-none : goal.returns-in_default-clause-none
returns-in_default-clause-none c = λ _ fact at exists. absurd (true≢false (sym exists ∙ (c.fact.ensures.none c.in_default.is fact at).1))

pub returns-then-not-is_exists-clause-none : goal.returns-then-not-is_exists-clause-none
returns-then-not-is_exists-clause-none c = λ _ fact at exists.
    let b = c.args.self.now.bank.now in
    let same = some_same (slice_get (known_on b c.args.path.now) c.args.place) fact (formula_at b c.in-Some.f) at c.in-Some.ensures.some.1 in
    absurd (true≢false (sym exists ∙ ap is_exists same ∙ sym c.is_exists.ensures ∙ c.if-not-is_exists.true))

pub first_choice-requires-clause-exists : goal.first_choice-requires-clause-exists
first_choice-requires-clause-exists c = sym c.is_exists.ensures ∙ c.if-not-is_exists.false

pub returns-clause-some : goal.returns-clause-some
returns-clause-some c =
    let b = c.args.self.now.bank.now in
    IfSome_then c.first_choice.result c.first_choice.ensures.some
    (λ i opens. record { fact = formula_at b c.in-Some.f; at = c.in-Some.ensures.some.1; exists = sym c.is_exists.ensures ∙ c.if-not-is_exists.false; opens = opens })

pub returns-clause-none : goal.returns-clause-none
returns-clause-none c = λ none fact at exists.
    let s = c.args.self.now in
    let b = s.bank.now in
    let same = some_same (slice_get (known_on b c.args.path.now) c.args.place) (formula_at b c.in-Some.f) fact c.in-Some.ensures.some.1 at in
    subst (λ x. opened_by (drop c.args.from (choices_in s)) x ≡ x) same (c.first_choice.ensures.none none)
