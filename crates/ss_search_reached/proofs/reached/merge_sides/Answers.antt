use Rattle.std.proofs.Common.{true, inl, inr, refl}
use Rattle.ss_search_reached.proofs.Kept.{merged_other, merged_sides}
use Rattle.ss_search_reached.proofs.Trials.{no_merge, holding_sides, denied_sides, same_terms, begins, are_equal, one_reason}
use Rattle.ss_search_reached.proofs.reached.merge_sides.Goals as goal

pub returns-in_default : goal.returns-in_default
returns-in_default c =
    let s = c.args.congruence.now in
    record { terms = refl; begins = no_merge s.merges; merged = merged_other c.args.bank.now s.terms s.merges c.args.f (λ x y e. c.sides.ensures.none c.in_default.is true x y e); reasons = λ k m at. inl at }

pub returns-then-not-equality : goal.returns-then-not-equality
returns-then-not-equality c =
    let b = c.args.bank.now in
    let s = c.args.congruence.now in
    record {
      terms = refl;
      begins = no_merge s.merges;
      merged = merged_other b s.terms s.merges c.args.f (denied_sides b c.args.f c.in-Some.equality c.in-Some.ensures.some c.if-not-equality.true);
      reasons = λ k m at. inl at;
    }

pub merge-requires-clause-bank : goal.merge-requires-clause-bank
merge-requires-clause-bank c = inr c.requires.forms

pub returns : goal.returns
returns c =
    let b = c.args.bank.now in
    let f = c.args.f in
    let e = c.in-Some.equality in
    let apart = c.numbers_are_apart.ensures in
    let old = c.args.congruence.now in
    let new = c.merge.new.self in
    let m = c.in_ok-merge.ensures in
    record {
      terms = same_terms b apart old new e.left e.right c.args.because c.requires.forms m.terms m.merged;
      begins = begins b apart old new e.left e.right c.args.because c.requires.forms m.terms m.merged;
      merged = merged_sides b new.terms new.merges f e.left e.right c.in-Some.ensures.terms.0 c.in-Some.ensures.terms.1 (holding_sides b f e c.in-Some.ensures.some c.if-not-equality.false)
          (are_equal b apart old new e.left e.right c.args.because c.requires.forms m.terms m.merged);
      reasons = one_reason b f e.left e.right c.args.because old.merges new.merges (holding_sides b f e c.in-Some.ensures.some c.if-not-equality.false) m.merged;
    }
