use Rattle.std.proofs.Common.{◌∷◌, ◌++◌, ◌≤◌, length, map, get_or, Some, refl, sym, ◌∙◌, ap, subst, arith}
use Rattle.std.proofs.lemmas.List.{take_all, length-map}
use Rattle.std.proofs.lemmas.Option.{slice_get-get_or}
use Rattle.ss_logic_means.specs.Steps.{choice}
use Rattle.ss_logic_means.specs.Origins.{chosen_by}
use Rattle.ss_terms.specs.Forms.{terms_at, formula_at, HasTerms}
use Rattle.ss_rules_opened.specs.Choices.{choice_at}
use Rattle.ss_search_path.specs.Paths.{known_on}
use Rattle.ss_search_path.proofs.Going.{goes_nowhere, goes_through}
use Rattle.ss_search_path.specs.Standing.{choices_in}
use Rattle.ss_search_path.proofs.Choosing.{choice_there}
use Rattle.ss_search_procedure.proofs.Saying.{has_choice}
use Rattle.ss_search_procedure.proofs.Begins.{chosen_read, chosen_within, chosen_known, choice_goes}
use Rattle.ss_search_procedure.proofs.beginning.choose.Goals as goal

pub bounds-chosen-i : goal.bounds-chosen-i
bounds-chosen-i c = chosen_within c.args.given.now c.args.chosen.now c.requires.chosen c.loop-i.i c.loop-i-test.true

pub choice-requires-clause-exists : goal.choice-requires-clause-exists
choice-requires-clause-exists c =
    let g = c.args.given.now in
    let x = get_or g.choices.now c.loop-i.i c.index-given-i.result in
    let read = slice_get-get_or g.choices.now c.loop-i.i c.index-given-i.result c.loop-i-test.true in
    (has_choice g.bank.now g.choices.now c.loop-i.i x read c.requires.given.choices).0

pub choice-requires-clause-constants : goal.choice-requires-clause-constants
choice-requires-clause-constants c =
    let g = c.args.given.now in
    let x = get_or g.choices.now c.loop-i.i c.index-given-i.result in
    let read = slice_get-get_or g.choices.now c.loop-i.i c.index-given-i.result c.loop-i-test.true in
    subst (HasTerms g.bank.now) (sym (c.in_ok-constants.ensures.items ∙ c.deref.ensures.value)) (has_choice g.bank.now g.choices.now c.loop-i.i x read c.requires.given.choices).1

pub loop-i-init : goal.loop-i-init
loop-i-init c = record {
  known = ap (λ fs. map (formula_at c.args.given.now.bank.now) fs) c.requires.empty;
  goes_on = λ cs premises goal accepted. goes_nowhere cs premises goal c.args.given.now.bank.now c.args.path.now c.args.path.now (record { before = refl; behind = refl; known = refl });
}

pub loop-i-preserved : goal.loop-i-preserved
loop-i-preserved c =
    let g = c.args.given.now in
    let b = g.bank.now in
    let i = c.loop-i.i in
    let x = get_or g.choices.now i c.index-given-i.result in
    let read = slice_get-get_or g.choices.now i c.index-given-i.result c.loop-i-test.true in
    let at = choice_there b g.choices.now i x read in
    let says = chosen_read g c.args.chosen.now c.requires.chosen i (choice_at b x) (record { 0 = 0 }) at in
    let first = c.args.path.now in
    let old = c.loop-i.path in
    let new = c.choice.new.self in
    let more = c.in_ok-choice.ensures.known in
    let inv = c.loop-i.invariant in
    record {
      known = chosen_known b (choices_in g) old new i (choice_at b x) _ at inv.known more says;
      goes_on = λ cs premises goal accepted.
          let q = choice_goes cs premises goal (choices_in g) accepted (known_on b old) i (choice_at b x) (formula_at b x.whole) (chosen_by (choice_at b x)) at inv.known refl refl in
          let copied = ap (λ ts. choice (goal ∷ premises ++ known_on b old) (formula_at b x.whole) (terms_at b ts)) (c.in_ok-constants.ensures.items ∙ c.deref.ensures.value) in
          goes_through cs premises goal b first old new (inv.goes_on cs premises goal accepted) (c.in_ok-choice.ensures.goes_on cs premises goal (copied ∙ q.0 ∙ ap Some (sym says)) q.1);
    }

pub returns-clause-known : goal.returns-clause-known
returns-clause-known c =
    let g = c.args.given.now in
    let all : length (choices_in g) ≤ c.loop-i.i = omega (arith, c.loop-i-test.false, length-map g.choices.now (choice_at g.bank.now)) in
    c.loop-i.invariant.known ∙ ap (map chosen_by) (take_all c.loop-i.i (choices_in g) all)
