use Rattle.std.proofs.Common.{◌≡◌, ◌++◌, [], ◌∷◌, true, Some, pos}
use Rattle.ss_linear_rules.specs.Two.{Refute}
use Rattle.ss_linear.specs.Contradictions.{IsContradiction, sums_of}
use Rattle.ss_linear.proofs.Glue.{have_more, facts_pushed}
use Rattle.ss_linear.proofs.Results.{end_last, end_step, mapped_ok}
use Rattle.ss_linear.proofs.steps.is_end.Goals as goal

pub loop-i-init : goal.loop-i-init
loop-i-init c = record {
  parts = c.requires;
  left = λ cs known h. (known, h, λ k. k);
}

pub returns-then-not-has_next : goal.returns-then-not-has_next
returns-then-not-has_next c = λ cs known h.
    let s = c.loop-i.invariant.left cs known h in
    mapped_ok c.is_last.result (λ yes. yes ≡ true → (c.index-sums-i.result.divisor ≡ pos 1) × IsContradiction cs s.0 c.index-sums-i.result.parts.items) (λ yes. yes ≡ true → Refute cs known (sums_of c.args.sums.now))
    (λ yes k y. s.2 (end_last cs c.args.sums.now c.loop-i.i c.index-sums-i.result c.loop-i-test.true (c.has_next.ensures c.if-not-has_next.true) c.index-sums-i.is s.0 (k y)))
    (c.is_last.ensures cs s.0 (rw c.as_slice-read.ensures.value s.1))

pub loop-i-preserved : goal.loop-i-preserved
loop-i-preserved c = record {
  parts = have_more c.args.bank.now c.loop-i.facts.items c.push.new.self.items (Some c.in-Some.fact) c.in_ok-push.ensures.items c.loop-i.invariant.parts (rw c.in-Some.is at c.in_ok-found.ensures.parts);
  left = λ cs known h.
      let s = c.loop-i.invariant.left cs known h in
      let r = rw c.in-Some.is at (c.in_ok-found.ensures.gives cs s.0 (rw c.as_slice-read.ensures.value s.1)) in (
        s.0 ++ r.1.0 ∷ [],
        facts_pushed cs c.args.bank.now s.0 c.loop-i.facts.items c.push.new.self.items r.1.0 (Some c.in-Some.fact) c.in_ok-push.ensures.items s.1 (r.0, r.1.2),
        λ k. s.2 (end_step cs c.args.sums.now c.loop-i.i c.index-sums-i.result c.loop-i-test.true c.index-sums-i.is s.0 r.1.0 r.1.1 k),
      );
}
