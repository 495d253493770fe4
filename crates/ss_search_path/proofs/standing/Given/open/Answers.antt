use Rattle.std.proofs.Common.{◌∙◌, length, refl, sym, arith}
use Rattle.std.proofs.lemmas.List.{take_all, length-map}
use Rattle.std.proofs.lemmas.Option.{slice_get_within}
use Rattle.ss_rules_opened.specs.Choices.{choice_at}
use Rattle.ss_search_path.proofs.Going.{goes_nowhere, goes_through}
use Rattle.ss_search_path.specs.Paths.{known_on}
use Rattle.ss_search_path.specs.Standing.{choices_in}
use Rattle.ss_search_path.proofs.StandingFacts.{kept_through, known_more, longer_chosen}
use Rattle.ss_search_path.proofs.Steps.{kept_one_more, body_there, bodies_within, opening_goes, opening_stands}
use Rattle.ss_search_path.proofs.standing.Given.open.Goals as goal

pub loop-choice-init : goal.loop-choice-init
loop-choice-init c = record {
  kept = take_all (length c.args.path.now.known.items) c.args.path.now.known.items (omega arith);
  goes_on = λ cs premises goal chose. goes_nowhere cs premises goal c.args.self.now.bank.now c.args.path.now c.args.path.now (record { before = refl; behind = refl; known = refl });
  fact = λ cs f chose h. h;
}

pub bounds-self-choice : goal.bounds-self-choice
bounds-self-choice c = bodies_within c.args.self.now c.requires c.in-Some.choice c.in-Some.ensures.some.opens.choice c.in-Some.ensures.some.opens.at

pub loop-choice-smaller : goal.loop-choice-smaller
loop-choice-smaller c =
    let s = c.args.self.now in
    let o = c.in-Some.ensures.some.opens in
    let within = slice_get_within (choices_in s) c.in-Some.choice o.choice o.at in
    let later = o.later in
    omega (arith, within, later, length-map s.choices.now (choice_at s.bank.now))

pub loop-choice-preserved : goal.loop-choice-preserved
loop-choice-preserved c =
    let s = c.args.self.now in
    let b = s.bank.now in
    let opens = c.in-Some.ensures.some in
    let i = c.in-Some.choice in
    let first = c.args.path.now in
    let old = c.loop-choice.path in
    let new = c.chosen.new.self in
    let more = c.in_ok-chosen.ensures.known in
    let is = body_there s c.requires i opens.opens.choice (record { 0 = 0 }) opens.opens.at in
    let inv = c.loop-choice.invariant in
    record {
      kept = kept_through first.known.items old.known.items new.known.items inv.kept (kept_one_more old new _ more);
      goes_on = λ cs premises goal chose.
          goes_through cs premises goal b first old new (inv.goes_on cs premises goal chose)
          (opening_goes s c.requires old new c.loop-choice.place c.loop-choice.from i opens cs premises goal _ is (longer_chosen cs s (known_on b first) (known_on b old) (known_more b first old inv.kept) chose) (c.in_ok-chosen.ensures.goes_on cs premises goal));
      fact = λ cs f chose h.
          opening_stands s c.requires old new c.loop-choice.place c.loop-choice.from i opens cs f _ c.len-next.result is (c.len-next.ensures ∙ old.known.ok.0) more
          (longer_chosen cs s (known_on b first) (known_on b old) (known_more b first old inv.kept) chose) (inv.fact cs f chose h);
    }

pub returns-clause-opened : goal.returns-clause-opened
returns-clause-opened c = λ cs f chose h.
    let r = c.loop-choice.invariant.fact cs f chose h in
    record { is = r; whole = λ e. sym (c.opening.ensures.none c.in_default.is r.fact r.at e) ∙ r.opened }
