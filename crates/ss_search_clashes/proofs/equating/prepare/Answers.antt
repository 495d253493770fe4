use Rattle.std.proofs.Common.{◌∙◌, ℕ, List, Bool, Option, length, ap, sym, subst}
use Rattle.ss_equality_rules.specs.Names.{IsLog}
use Rattle.ss_search_clashes.specs.Ways.{AreEnds}
use Rattle.ss_search_clashes.specs.Needed.{AreClosed}
use Rattle.ss_search_clashes.specs.Placed.{ArePlaced}
use Rattle.ss_search_clashes.proofs.equating.prepare.Goals as goal

pub ends-requires : goal.ends-requires
ends-requires c = subst (λ n. IsLog n c.args.joins.now) (c.requires.forms.all ∙ sym c.term_count.ensures) c.requires.log

pub needed-requires-clause-ends : goal.needed-requires-clause-ends
needed-requires-clause-ends c = subst (λ (es : List (Option ℕ)). AreEnds c.args.joins.now es) (sym c.deref.ensures.value) c.in_ok-ends.ensures

pub place_all-requires-clause-ends : goal.place_all-requires-clause-ends
place_all-requires-clause-ends c = subst (λ (es : List (Option ℕ)). AreEnds c.args.joins.now es) (sym c.deref.ensures.value) c.in_ok-ends.ensures

pub place_all-requires-clause-long : goal.place_all-requires-clause-long
place_all-requires-clause-long c = ap length c.deref-2.ensures.value ∙ c.in_ok-marks.ensures.long

pub place_all-requires-clause-closed : goal.place_all-requires-clause-closed
place_all-requires-clause-closed c = subst (λ (ms : List Bool). AreClosed c.args.context.now.congruence.now.terms c.args.joins.now 0 ms) (sym c.deref-2.ensures.value) c.in_ok-marks.ensures.needed.closed

pub returns : goal.returns
returns c = record {
  marks = c.in_ok-marks.marks.items;
  ends_are = c.in_ok-ends.ensures;
  needed = c.in_ok-marks.ensures.needed;
  long = c.in_ok-places.ensures.long;
  placed = subst (λ (ms : List Bool). ArePlaced c.args.context.now.bank.now c.args.context.now.congruence.now.merges c.args.joins.now c.args.context.now.count ms c.in_ok-places.places.items c.place_all.new.lines.items) c.deref-2.ensures.value c.in_ok-places.ensures.placed;
}
