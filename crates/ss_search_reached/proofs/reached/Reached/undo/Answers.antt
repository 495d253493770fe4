use Rattle.std.proofs.Common.{◌≡◌, ◌<◌, ◌∙◌, ℕ, length, take, refl, ap, arith}
use Rattle.ss_search_reached.specs.Known.{merges_at}
use Rattle.ss_search_reached.proofs.Remembering.{back_to_itself, back_further}
use Rattle.ss_search_reached.proofs.Fronts.{push_long, taken_less, back_to}
use Rattle.ss_search_reached.proofs.reached.Reached.undo.Goals as goal

pub loop-self-init : goal.loop-self-init
loop-self-init c = record { reached = c.requires.reached; front = refl; back = back_to_itself c.args.bank.now c.args.self.now c.requires.reached; few = c.requires.few }

pub loop-self-preserved : goal.loop-self-preserved
loop-self-preserved c =
    let f = c.forget.ensures.known in
    let more : c.args.to < length c.loop-self.self.known.items = omega (arith, c.loop-self-test.true, c.len.ensures, c.loop-self.self.known.ok.0) in
    record {
      reached = c.forget.ensures.reached;
      front = taken_less c.args.to c.loop-self.self.known.items c.forget.new.self.known.items f.0 f.1 more ∙ c.loop-self.invariant.front;
      back = back_further c.args.bank.now c.args.self.now c.loop-self.self c.forget.new.self c.requires.reached c.loop-self.invariant.reached (omega (arith, push_long c.loop-self.self.known.items c.forget.new.self.known.items f.0 f.1)) c.loop-self.invariant.back
          (record { merges = c.forget.ensures.merges; counts = c.forget.ensures.counts });
      few = omega (arith, more, push_long c.loop-self.self.known.items c.forget.new.self.known.items f.0 f.1);
    }

pub loop-self-smaller : goal.loop-self-smaller
loop-self-smaller c = let f = c.forget.ensures.known in omega (arith, push_long c.loop-self.self.known.items c.forget.new.self.known.items f.0 f.1)

pub returns-clause-known : goal.returns-clause-known
returns-clause-known c = back_to c.args.bank.now c.args.to c.args.self.now.known.items c.loop-self.self.known.items c.loop-self.invariant.front (omega (arith, c.loop-self-test.false, c.len.ensures, c.loop-self.self.known.ok.0))

pub returns-clause-merges : goal.returns-clause-merges
returns-clause-merges c =
    let first = c.args.self.now in
    let there : length c.loop-self.self.known.items ≡ c.args.to = omega (arith, c.loop-self.invariant.few, c.loop-self-test.false, c.len.ensures, c.loop-self.self.known.ok.0) in
    c.loop-self.invariant.back.merges ∙ ap (λ (k : ℕ). take (merges_at first.merges.items first.congruence.merges k) first.congruence.merges) there

pub returns-clause-counts : goal.returns-clause-counts
returns-clause-counts c =
    let first = c.args.self.now in
    let there : length c.loop-self.self.known.items ≡ c.args.to = omega (arith, c.loop-self.invariant.few, c.loop-self-test.false, c.len.ensures, c.loop-self.self.known.ok.0) in
    c.loop-self.invariant.back.counts ∙ ap (λ (k : ℕ). take k first.merges.items) there
