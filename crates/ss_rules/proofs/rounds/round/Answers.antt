use Rattle.std.proofs.Common.{reverse, ap, subst, sym, ◌∙◌}
use Rattle.std.specs.Prelude.{option_and_then}
use Rattle.ss_core.specs.View as view
use Rattle.ss_logic.specs.Ground.{closed, first_step, foralls_step}
use Rattle.ss_logic.specs.Occurring.{quantified, with_formulas}
use Rattle.ss_terms.specs.Forms.{formulas_at}
use Rattle.ss_rules_occurring.specs.Found.{formulas_of, Holds}
use Rattle.ss_logic.specs.Includes.{Includes}
use Rattle.ss_rules.proofs.Coming.{ok_comes}
use Rattle.ss_rules.proofs.GroundNoted.{ok_known, quantified_occur}
use Rattle.ss_rules.proofs.rounds.round.Goals as goal

pub returns-clause-done : goal.returns-clause-done
returns-clause-done c =
    let a = c.args.bank.now in
    let cs = view.classes c.args.context.now.classes.now in
    let fs = formulas_of a c.args.listed.now.list in
    let same = ap (formulas_at a) c.deref-2.ensures.value ∙ c.in_ok-found.ensures.are ∙ ap (λ xs. quantified (formulas_at a xs)) c.deref.ensures.value in
    ok_comes c.round_with.result c.round_with.new.bank c.round_with.new.listed.list _ _ (ap (λ gs. option_and_then (foralls_step cs c.args.context.now.limit (reverse gs)) (closed cs c.args.context.now.limit (with_formulas fs (first_step cs fs)))) same) c.round_with.ensures.done

pub returns-clause-noted : goal.returns-clause-noted
returns-clause-noted c =
    let a = c.args.bank.now in
    let b = c.round_with.new.bank in
    let found = c.in_ok-found.found in
    ok_known c.round_with.result (view.classes c.args.context.now.classes.now) a b (formulas_of a c.args.listed.now.list) (formulas_of b c.round_with.new.listed.list) c.args.listed.now.origins.items c.round_with.new.listed.origins.items
    (subst (λ xs. Includes (quantified (formulas_of a c.args.listed.now.list)) (formulas_at a xs)) (sym c.deref-2.ensures.value)
    (quantified_occur a found (formulas_of a c.args.listed.now.list) (subst (λ xs. Holds a found (quantified (formulas_at a xs))) c.deref.ensures.value c.in_ok-found.ensures)))
    c.round_with.ensures.noted
