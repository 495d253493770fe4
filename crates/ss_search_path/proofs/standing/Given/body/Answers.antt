use Rattle.std.proofs.Common.{get_or, arith}
use Rattle.std.proofs.lemmas.Option.{slice_get-get_or, slice_get_within}
use Rattle.std.proofs.lemmas.Result.{on_ok_weaker}
use Rattle.ss_terms.specs.Forms.{formula_at}
use Rattle.ss_deriv.specs.Lines.{line_of}
use Rattle.ss_search_path.specs.Paths.{known_on}
use Rattle.ss_search_path.proofs.Steps.{has_terms_at, guarded_makes}
use Rattle.ss_search_path.proofs.standing.Given.body.Goals as goal

pub returns-then-origin-self-clause-goes_on : goal.returns-then-origin-self-clause-goes_on
returns-then-origin-self-clause-goes_on c =
    on_ok_weaker c.fact.result
    (λ go cs premises goal f is there says. let within = slice_get_within c.args.self.now.origins.now c.args.origin is.origin is.at in let no : ⊥ = omega (arith, within, c.if-origin-self.true) in absurd no) c.fact.ensures.goes_on

pub line_from-requires : goal.line_from-requires
line_from-requires c =
    let s = c.args.self.now in
    has_terms_at s.bank.now s.origins.now c.args.origin (get_or s.origins.now c.args.origin c.index-self-origin.result) (slice_get-get_or s.origins.now c.args.origin c.index-self-origin.result c.if-origin-self.false) c.requires.origins

pub returns-clause-goes_on : goal.returns-clause-goes_on
returns-clause-goes_on c =
    let s = c.args.self.now in
    let b = s.bank.now in
    on_ok_weaker c.fact-2.result (λ go cs premises goal f is there says.
    go cs premises goal
    (guarded_makes cs s c.args.origin f is (get_or s.origins.now c.args.origin c.index-self-origin.result) (slice_get-get_or s.origins.now c.args.origin c.index-self-origin.result c.if-origin-self.false)
    premises goal (known_on b c.args.path.now) c.args.place there (line_of b c.in_ok-line.line) c.in_ok-line.ensures (formula_at b c.args.body) says))
    c.fact-2.ensures.goes_on
