use Rattle.std.proofs.Common.{◌≤◌, [], ◌∷◌, ◌+◌, refl, ◌∙◌, ap, sym, subst, length, take, Vec, Global, arith}
use Rattle.std.proofs.lemmas.Option.{MatchOption-at_some}
use Rattle.ss_terms.specs.Forms.{Forms, formula_at, HasFormulas}
use Rattle.ss_deriv.specs.declared.line.Line.{Line}
use Rattle.ss_search_path.proofs.Going.{goes_nowhere}
use Rattle.ss_search_reached.proofs.Fronts.{front_itself}
use Rattle.ss_search_reached.proofs.Branches.{one_branch}
use Rattle.ss_search_reaching.specs.Refuting.{bank_of, ClosesFrom}
use Rattle.ss_search_reaching.proofs.Resolving.{two_open}
use Rattle.ss_search_reaching.proofs.Guarding.{denial_basic, hold_first, hold_second, guard_undone, guard_back, end_kept, guard_denied}
use Rattle.ss_search_reaching.proofs.branches.Beside.trial.Goals as goal

pub refuted-requires-clause-basic : goal.refuted-requires-clause-basic
refuted-requires-clause-basic c =
    let b = bank_of c.args.self.now.refuting in
    denial_basic (formula_at b c.args.parts.0) (formula_at b c.negation-guard.result) c.negation-guard.ensures.negation c.requires.basic

pub returns-in_ok-refuted-in-Some : goal.returns-in_ok-refuted-in-Some
returns-in_ok-refuted-in-Some c =
    let w = c.args.self.now in
    let s = w.refuting in
    let b = bank_of s in
    let ms = c.args.congruence.now.merges in
    let old = c.args.path.now in
    let begun = c.suppose.new.self in
    let bodied = c.body.new.path in
    let new = c.known.new.path in
    let final = c.refuted.new.self in
    let p = c.args.parts.0 in
    let q = c.args.parts.1 in
    let e = c.in_ok-closing.ensures in
    let place_is = c.len-place.ensures ∙ old.known.ok.0 in
    let from = length s.given.choices.now in
    let past : length s.given.choices.now ≤ from = omega arith in
    let mark = c.in_ok-mark.mark in
    let closes = MatchOption-at_some (Unit {0}) (λ (v : Vec Line Global). ClosesFrom s ms bodied (c.len-place.result + 1) from (formula_at b q) new v.items) c.in-Some.closing c.in-Some.is e.closes in
    record {
      congruence = e.congruence;
      kept = end_kept s ms mark old begun bodied new c.args.origin c.len-place.result from c.negation-guard.result p q c.negation-guard.ensures.negation place_is past c.in_ok-mark.ensures.mark c.in_ok-mark.ensures.supposed c.in_ok-body.ensures.known
          c.in_ok-body.ensures.goes_on e.kept e.goes_on c.in-Some.closing.items closes final c.in_ok-refuted-in-Some.ensures.goes_on c.in_ok-refuted-in-Some.ensures.numbers;
      branch = one_branch w.looking (p ∷ q ∷ []) p (subst (λ (k : Forms). HasFormulas k (p ∷ q ∷ [])) (sym c.requires.beside.bank) (c.requires.guard, (c.requires.body, tt))) (0, omega arith, refl);
      leads = guard_denied s ms mark old begun bodied new c.args.origin c.len-place.result from c.negation-guard.result p q c.negation-guard.ensures.negation place_is past c.in_ok-mark.ensures.mark c.in_ok-mark.ensures.supposed c.in_ok-body.ensures.known
          c.in_ok-body.ensures.goes_on e.kept e.goes_on c.in-Some.closing.items closes final c.in_ok-refuted-in-Some.ensures.goes_on c.in_ok-refuted-in-Some.ensures.numbers c.itself.result c.itself.ensures;
    }

pub returns-in-None : goal.returns-in-None
returns-in-None c =
    let w = c.args.self.now in
    let s = w.refuting in
    let b = bank_of s in
    let ms = c.args.congruence.now.merges in
    let old = c.args.path.now in
    let begun = c.suppose.new.self in
    let bodied = c.body.new.path in
    let new = c.known.new.path in
    let final = c.undo.new.self in
    let p = c.args.parts.0 in
    let q = c.args.parts.1 in
    let e = c.in_ok-closing.ensures in
    let place_is = c.len-place.ensures ∙ old.known.ok.0 in
    let from = length s.given.choices.now in
    let past : length s.given.choices.now ≤ from = omega arith in
    let mark = c.in_ok-mark.mark in
    let back = guard_back s ms mark old begun bodied new c.args.origin c.len-place.result from c.negation-guard.result p q c.negation-guard.ensures.negation place_is past c.in_ok-mark.ensures.mark c.in_ok-mark.ensures.supposed c.in_ok-body.ensures.known
    c.in_ok-body.ensures.goes_on e.kept e.goes_on final c.undo.ensures in
    record {
      congruence = e.congruence;
      kept = ap (take (length old.known.items)) back ∙ front_itself old.known.items;
      branch = two_open w c.args.congruence.now c.requires.beside (p ∷ q ∷ []) 0 1 (omega arith) (omega arith) (hold_first s p q c.requires.holds) (hold_second s p q (e.none c.in-None.is));
      leads = λ cs premises goal h is. record {
        goes_on = goes_nowhere cs premises goal b old final
            (guard_undone s ms mark old begun bodied new c.args.origin c.len-place.result from c.negation-guard.result p q c.negation-guard.ensures.negation place_is past c.in_ok-mark.ensures.mark c.in_ok-mark.ensures.supposed c.in_ok-body.ensures.known
            c.in_ok-body.ensures.goes_on e.kept e.goes_on cs premises goal h is final c.undo.ensures);
        grounded = tt;
      };
    }
