use Rattle.std.proofs.Common.{get_or, refl, ◌∙◌, subst}
use Rattle.std.proofs.lemmas.List.{take_all}
use Rattle.std.proofs.lemmas.Option.{slice_get-get_or}
use Rattle.ss_terms.specs.declared.forms.FormulaId.{FormulaId}
use Rattle.ss_terms.specs.Forms.{formulas_at}
use Rattle.ss_search_path.proofs.Going.{goes_through, goes_nowhere}
use Rattle.ss_logic.specs.Includes.{Includes}
use Rattle.ss_search_reached.proofs.Spread.{grown, none_known, next_known, still_occur}
use Rattle.ss_search_reaching.specs.Refuting.{and_of}
use Rattle.ss_search_reaching.specs.Reaching.{reached_of}
use Rattle.ss_search_reaching.proofs.Learning.{nothing_grows, grows_more}
use Rattle.ss_search_reaching.proofs.Spread.{still_opened}
use Rattle.ss_search_reaching.proofs.reaching.Reaching.spread_and.Goals as goal

pub loop-part-init : goal.loop-part-init
loop-part-init c =
    let g = c.args.given.now in
    let r = c.args.self.now in
    record {
      grows = nothing_grows g r c.requires.state;
      known = none_known g.bank.now (reached_of g r) c.args.parts.now;
      classes = refl;
      reaches = λ cs premises goal h fact. record { shows = h; goes_on = goes_nowhere cs premises goal g.bank.now r.path r.path (record { before = refl; behind = refl; known = refl }) };
    }

pub spread_part-requires-clause-state : goal.spread_part-requires-clause-state
spread_part-requires-clause-state c = c.loop-part.invariant.grows.state

pub spread_part-requires-clause-occur : goal.spread_part-requires-clause-occur
spread_part-requires-clause-occur c =
    let g = c.args.given.now in
    still_occur g.bank.now c.args.self.now.reached c.loop-part.self.reached (formulas_at g.bank.now c.args.parts.now) c.loop-part.invariant.grows.reached c.requires.occur

pub loop-part-preserved : goal.loop-part-preserved
loop-part-preserved c =
    let g = c.args.given.now in
    let old = c.args.self.now in
    let now = c.loop-part.self in
    let new = c.spread_part.new.self in
    let ps = c.args.parts.now in
    let d : FormulaId = record { 0 = 0 } in
    let i = c.loop-part.invariant in
    let e = c.in_ok-spread_part.ensures in
    record {
      grows = grows_more g old now new i.grows e.grows;
      known = next_known g.bank.now (reached_of g new) ps c.loop-part.part d c.loop-part-test.true (λ x h. grown g.bank.now now.reached new.reached e.grows.reached x (i.known x h))
          (e.known (get_or ps c.loop-part.part d) (slice_get-get_or ps c.loop-part.part d c.loop-part-test.true));
      classes = e.classes ∙ i.classes;
      reaches = λ cs premises goal h fact.
          let a = i.reaches cs premises goal h fact in
          let b = e.reaches cs premises goal a.shows (still_opened cs g old now c.args.place c.args.from (and_of g.bank.now ps) i.grows fact) in
          record { shows = b.shows; goes_on = goes_through cs premises goal g.bank.now old.path now.path new.path a.goes_on b.goes_on };
    }

pub returns-clause-known : goal.returns-clause-known
returns-clause-known c =
    let g = c.args.given.now in
    subst (λ gs. Includes (reached_of g c.loop-part.self) (formulas_at g.bank.now gs)) (take_all c.loop-part.part c.args.parts.now c.loop-part-test.false) c.loop-part.invariant.known
