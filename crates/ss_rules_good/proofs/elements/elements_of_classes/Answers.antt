use Rattle.std.proofs.Common.{◌∙◌}
use Rattle.ss_terms.specs.Forms.{term_at}
use Rattle.ss_terms.proofs.Grown.{IsGrown-then}
use Rattle.ss_rules_good.specs.Fields.{element_of}
use Rattle.ss_rules_good.proofs.Listed.{there_after, made_after, element_kept}
use Rattle.ss_rules_good.proofs.elements.elements_of_classes.Goals as goal

pub loop-t-preserved : goal.loop-t-preserved
loop-t-preserved c =
    let a = c.args.b.now in
    let b = c.loop-t.b in
    let d = c.element_of_class.new.b in
    let v = c.loop-t.invariant in
    let g = c.element_of_class.ensures.grown in
    let says = element_of (term_at a c.args.place.0) (term_at a c.args.place.1) (term_at a c.args.place.2) in
    record {
      grown = IsGrown-then a b d v.grown g;
      there = there_after b d g c.loop-t.made.items c.push-in-loop-t.new.self.items c.in_ok-f.f c.in_ok-push-2.ensures.items v.there c.in_ok-f.ensures.at.0;
      made = made_after b d g c.loop-t.made.items c.push-in-loop-t.new.self.items c.in_ok-f.f c.in_ok-push-2.ensures.items v.there says _ c.args.arrays.now c.loop-t.t-index 0 c.loop-t-test.true v.made
          (c.in_ok-f.ensures.at.1 ∙ element_kept a b v.grown c.args.place.0 c.args.place.1 c.args.place.2 _ c.requires.store c.requires.array c.requires.index);
    }
