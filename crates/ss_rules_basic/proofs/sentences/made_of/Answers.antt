use Rattle.std.proofs.Common.{◌≡◌, ◌+◌, ◌∙◌, sym, subst, map, take}
use Rattle.ss_terms.specs.Forms.{HasFormulas, formulas_at}
use Rattle.ss_terms.proofs.Grown.{IsGrown-then, HasFormulas-grown}
use Rattle.ss_rules_basic.specs.Facts.{sentence_at, HasSentence}
use Rattle.ss_rules_basic.proofs.Made.{HasSentences-get, HasSentence-grown, sentence_at-grown, AreBelow-push, made_next}
use Rattle.ss_rules_basic.proofs.sentences.made_of.Goals as goal

pub make-requires : goal.make-requires
make-requires c =
    HasSentence-grown c.args.b.now c.loop-sentence.b c.loop-sentence.invariant.grown c.sentence-item.result
    (subst (HasSentence c.args.b.now) (sym c.sentence-item.is) (HasSentences-get c.args.b.now c.args.sentences.now c.loop-sentence.sentence-index c.sentence-item.result c.requires c.loop-sentence-test.true))

pub loop-sentence-preserved : goal.loop-sentence-preserved
loop-sentence-preserved c =
    let a = c.args.b.now in
    let b = c.loop-sentence.b in
    let x = c.sentence-item.result in
    let i = c.loop-sentence.sentence-index in
    let made = c.loop-sentence.made.items in
    let f = c.in_ok-f.f in
    let has = subst (HasSentence a) (sym c.sentence-item.is) (HasSentences-get a c.args.sentences.now i x c.requires c.loop-sentence-test.true) in
    record {
      grown = IsGrown-then a b c.make.new.b c.loop-sentence.invariant.grown c.make.ensures.grown;
      there = subst (HasFormulas c.make.new.b) (sym c.in_ok-push.ensures.items) (AreBelow-push _ made f (HasFormulas-grown b c.make.new.b c.make.ensures.grown made c.loop-sentence.invariant.there) c.in_ok-f.ensures.at.0);
      made = subst (λ fs. formulas_at c.make.new.b fs ≡ map (sentence_at a) (take (i + 1) c.args.sentences.now)) (sym c.in_ok-push.ensures.items)
          (made_next sentence_at a b c.make.new.b c.args.sentences.now i x x made f c.sentence-item.is c.loop-sentence-test.true c.loop-sentence.invariant.there c.make.ensures.grown c.loop-sentence.invariant.made
          (c.in_ok-f.ensures.at.1 ∙ sentence_at-grown a b c.loop-sentence.invariant.grown x has));
    }
