use Rattle.std.proofs.Common.{◌≡◌, ◌+◌, true, None, arith, rules}
use Rattle.std.proofs.lemmas.Grind.{common_steps}
use Rattle.ss_logic_means.specs.Steps.{is_value}
use Rattle.ss_terms.specs.Forms.{term_at}
use Rattle.ss_equality_rules.specs.Equal.{class_number}
use Rattle.ss_search_clashes.specs.Values.{IsEntered, AreEntered}
use Rattle.ss_search_clashes.proofs.Entered.{both_ok, one_entered}
use Rattle.ss_search_clashes.proofs.values.enter_next.Goals as goal

pub returns-clause-more : goal.returns-clause-more
returns-clause-more c = λ entered.
    let b = c.args.bank.now in
    let v : is_value (term_at b c.args.t) ≡ true = first_of (search rules, grind (arith, common_steps)) in
    both_ok c.enter.result (λ o. o ≡ None → IsEntered c.enter.new.entered (class_number c.args.classes.now c.args.t) c.args.t.0) (λ o. o ≡ None → AreEntered b c.args.classes.now (c.args.t.0 + 1) c.enter.new.entered) c.enter.ensures.step c.enter.ensures.entered
    (λ s o h e. one_entered b c.args.classes.now c.args.t c.args.entered.now c.enter.new.entered entered c.requires v s (h e))
