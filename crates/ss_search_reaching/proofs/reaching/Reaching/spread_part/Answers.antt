use Rattle.std.proofs.Common.{get_or, refl, sym, subst}
use Rattle.std.specs.List.{Contains}
use Rattle.std.proofs.lemmas.Option.{get_or_from_slice_get, slice_get-get_or}
use Rattle.ss_terms.specs.declared.forms.FormulaId.{FormulaId}
use Rattle.ss_terms.specs.Forms.{formula_at}
use Rattle.ss_terms.proofs.Tested.{AreBelow-get}
use Rattle.ss_search_path.proofs.Going.{goes_nowhere}
use Rattle.ss_logic.proofs.Lists.{map_to}
use Rattle.ss_logic_countermodels.specs.Refuting.{told_in}
use Rattle.ss_search_reached.proofs.Lists.{contains_get, single}
use Rattle.ss_search_reached.proofs.Names.{ok_then}
use Rattle.ss_search_reaching.specs.Reaching.{reached_of}
use Rattle.ss_search_reaching.proofs.Learning.{ok_both, nothing_grows}
use Rattle.ss_search_reaching.proofs.Spread.{longer_grows, part_reaches}
use Rattle.ss_search_reaching.proofs.reaching.Reaching.spread_part.Goals as goal

pub knows-requires-clause-formula : goal.knows-requires-clause-formula
knows-requires-clause-formula c = AreBelow-get _ c.args.parts.now c.args.part (record { 0 = 0 }) c.requires.formulas c.requires.part

pub returns-then-knows : goal.returns-then-knows
returns-then-knows c =
    let g = c.args.given.now in
    let ps = c.args.parts.now in
    let d : FormulaId = record { 0 = 0 } in
    let r = c.args.self.now in
    record {
      grows = nothing_grows g r c.requires.state;
      known = λ f at. subst (λ (x : FormulaId). Contains (reached_of g r) (formula_at g.bank.now x)) (get_or_from_slice_get ps c.args.part f d at) (c.knows.ensures.0 c.if-knows.true);
      classes = refl;
      reaches = λ cs premises goal h fact. record { shows = h; goes_on = goes_nowhere cs premises goal g.bank.now r.path r.path (record { before = refl; behind = refl; known = refl }) };
    }

pub learn-requires-clause-formula : goal.learn-requires-clause-formula
learn-requires-clause-formula c = AreBelow-get _ c.args.parts.now c.args.part (record { 0 = 0 }) c.requires.formulas c.requires.part

pub learn-requires-clause-occurs : goal.learn-requires-clause-occurs
learn-requires-clause-occurs c = λ p o.
    let g = c.args.given.now in
    let ps = c.args.parts.now in
    let d : FormulaId = record { 0 = 0 } in
    let f = get_or ps c.args.part d in
    c.requires.occur p (formula_at g.bank.now f, map_to (formula_at g.bank.now) ps f (contains_get ps c.args.part d c.requires.part), subst (λ x. Contains (told_in x) p) (sym (single (formula_at g.bank.now f) o.0 o.1)) o.2)

pub returns-clause-grows : goal.returns-clause-grows
returns-clause-grows c =
    let g = c.args.given.now in
    ok_then c.learn.result (λ h. longer_grows g c.args.self.now c.part.new.path c.in_ok-place.ensures.kept c.learn.new.self h) c.learn.ensures.grows

pub returns-clause-known : goal.returns-clause-known
returns-clause-known c =
    let g = c.args.given.now in
    let ps = c.args.parts.now in
    let d : FormulaId = record { 0 = 0 } in
    ok_then c.learn.result (λ h f at. subst (λ (x : FormulaId). Contains (reached_of g c.learn.new.self) (formula_at g.bank.now x)) (get_or_from_slice_get ps c.args.part f d at) h) c.learn.ensures.known

pub returns-clause-reaches : goal.returns-clause-reaches
returns-clause-reaches c =
    let g = c.args.given.now in
    let old = c.args.self.now in
    let ps = c.args.parts.now in
    let d : FormulaId = record { 0 = 0 } in
    let f = get_or ps c.args.part d in
    ok_both c.learn.result
    (λ same shows. part_reaches g old c.part.new.path c.learn.new.self c.args.place c.args.from c.in_ok-place.place c.in_ok-place.from ps c.args.part f (slice_get-get_or ps c.args.part d c.requires.part)
    c.in_ok-place.ensures.kept (λ cs premises goal fs x. c.in_ok-place.ensures.goes_on cs premises goal fs x) (λ cs fs x. c.in_ok-place.ensures.opened cs fs x) same shows)
    c.learn.ensures.path c.learn.ensures.shows
