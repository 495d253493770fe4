use Rattle.std.proofs.Common.{◌≤◌, length, ◌∙◌, Vec, Global, arith}
use Rattle.std.proofs.lemmas.Option.{MatchOption-at_some}
use Rattle.ss_terms.specs.Forms.{formula_at}
use Rattle.ss_deriv.specs.declared.line.Line.{Line}
use Rattle.ss_search_reaching.specs.Refuting.{bank_of, ClosesFrom}
use Rattle.ss_search_reaching.proofs.Guarding.{some_none, assumed_closes, assumed_stays, assumed_back}
use Rattle.ss_search_reaching.proofs.branches.Beside.case_of.Goals as goal

pub returns-in_ok-lines-in-Some : goal.returns-in_ok-lines-in-Some
returns-in_ok-lines-in-Some c =
    let s = c.args.self.now.refuting in
    let ms = c.args.congruence.now.merges in
    let f = c.args.f in
    let old = c.args.path.now in
    let begun = c.assume.new.self in
    let new = c.known.new.path in
    let final = c.cut_out.new.self in
    let e = c.in_ok-closing.ensures in
    let last_is = c.len-last.ensures ∙ old.known.ok.0 in
    let from = length s.given.choices.now in
    let past : length s.given.choices.now ≤ from = omega arith in
    let closes = MatchOption-at_some (Unit {0}) (λ (v : Vec Line Global). ClosesFrom s ms begun c.len-last.result from (formula_at (bank_of s) f) new v.items) c.in-Some.closing c.in-Some.is e.closes in
    record {
      congruence = e.congruence;
      known = assumed_back s ms c.in_ok-mark.mark f c.len-last.result from old begun new c.in_ok-mark.ensures.mark c.in_ok-mark.ensures.begun last_is past e.kept e.goes_on final c.in_ok-lines-in-Some.ensures.back;
      none = λ n. absurd (some_none c.in_ok-lines-in-Some.lines n);
      stays = λ cs premises goal h formed. assumed_stays s ms c.in_ok-mark.mark f c.len-last.result from old begun new c.in_ok-mark.ensures.mark c.in_ok-mark.ensures.begun last_is past e.kept e.goes_on cs premises goal h formed final c.in_ok-lines-in-Some.ensures.back;
      closes = λ cs premises goal h formed.
          assumed_closes s ms c.in_ok-mark.mark f c.len-last.result from old begun new c.in_ok-mark.ensures.mark c.in_ok-mark.ensures.begun last_is past e.kept e.goes_on cs premises goal h formed c.in-Some.closing.items c.in_ok-lines-in-Some.lines.items closes c.in_ok-lines-in-Some.ensures.closes;
    }

pub returns-in-None : goal.returns-in-None
returns-in-None c =
    let s = c.args.self.now.refuting in
    let ms = c.args.congruence.now.merges in
    let f = c.args.f in
    let old = c.args.path.now in
    let begun = c.assume.new.self in
    let new = c.known.new.path in
    let final = c.undo.new.self in
    let e = c.in_ok-closing.ensures in
    let last_is = c.len-last.ensures ∙ old.known.ok.0 in
    let from = length s.given.choices.now in
    let past : length s.given.choices.now ≤ from = omega arith in
    record {
      congruence = e.congruence;
      known = assumed_back s ms c.in_ok-mark.mark f c.len-last.result from old begun new c.in_ok-mark.ensures.mark c.in_ok-mark.ensures.begun last_is past e.kept e.goes_on final c.undo.ensures;
      none = λ n. e.none c.in-None.is;
      stays = λ cs premises goal h formed. assumed_stays s ms c.in_ok-mark.mark f c.len-last.result from old begun new c.in_ok-mark.ensures.mark c.in_ok-mark.ensures.begun last_is past e.kept e.goes_on cs premises goal h formed final c.undo.ensures;
      closes = tt;
    }
