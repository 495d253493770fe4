use Rattle.std.proofs.Common.{◌≡◌, ◌∙◌, length, arith, ap, sym, true, false, refl}
use Rattle.std.specs.Prelude.{option_and_then}
use Rattle.ss_logic.specs.Matching as spec
use Rattle.ss_terms.specs.Forms.{term_at}
use Rattle.ss_rules_opened.specs.Matches.{all_found_at}
use Rattle.ss_rules_opened.proofs.Finding.{nothing_had, nothing_at, none_match, these_match, ok_these, these_same, written_whole}
use Rattle.ss_rules_opened.proofs.matching.match_term.Goals as goal

pub matched-requires-clause-found : goal.matched-requires-clause-found
matched-requires-clause-found c = nothing_had c.args.context.now.bank.now c.deref_mut.result.now c.args.context.now.count (c.deref_mut.ensures.value ∙ c.in_ok-found.ensures)

pub returns-then-not-matched : goal.returns-then-not-matched
returns-then-not-matched c =
    these_same c.args.context.now.bank.now _ _ _ (ap (λ f. option_and_then spec.all_found (spec.matched f (term_at c.args.context.now.bank.now c.args.pattern) (term_at c.args.context.now.bank.now c.args.t))) (nothing_at c.args.context.now.bank.now c.deref_mut.result.now c.args.context.now.count (c.deref_mut.ensures.value ∙ c.in_ok-found.ensures)))
    (none_match c.args.context.now.bank.now c.matched.new.found _ false c.if-not-matched.ensures refl)

pub returns : goal.returns
returns c =
    let size : c.in_ok-found.found.len ≡ length c.matched.new.found = omega (arith, ap length c.deref_mut.ensures.value, c.in_ok-found.found.ok.0) in
    ok_these c.all_found.result c.args.context.now.bank.now _ _
    (ap (λ f. spec.all_found (all_found_at c.args.context.now.bank.now f)) (c.deref.ensures.value ∙ written_whole c.in_ok-found.found.len c.matched.new.found c.in_ok-found.found.items size)
    ∙ sym (these_match c.args.context.now.bank.now c.matched.new.found _ true c.if-not-matched.ensures refl)
    ∙ ap (λ f. option_and_then spec.all_found (spec.matched f (term_at c.args.context.now.bank.now c.args.pattern) (term_at c.args.context.now.bank.now c.args.t))) (nothing_at c.args.context.now.bank.now c.deref_mut.result.now c.args.context.now.count (c.deref_mut.ensures.value ∙ c.in_ok-found.ensures)))
    c.all_found.ensures
