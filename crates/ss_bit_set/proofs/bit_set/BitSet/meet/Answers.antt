use Rattle.std.proofs.Common.{◌≤◌, length, Bool, false, sym, ap, refl, ◌∙◌, arith, ℕ}
use Rattle.std.specs.Prelude.{if◌then◌else◌}
use Rattle.ss_paths.specs.Sets.{put}
use Rattle.ss_bit_set.specs.Marked.{marked}
use Rattle.ss_bit_set.proofs.Meets.{met_none, met_next, met_all}
use Rattle.ss_bit_set.proofs.bit_set.BitSet.meet.Goals as goal

pub loop-number-init : goal.loop-number-init
loop-number-init c = (sym (met_none (marked c.args.self.now) (marked c.args.other.now)), refl)

pub loop-number-preserved : goal.loop-number-preserved
loop-number-preserved c =
    let n = c.loop-number.number in
    let i = c.loop-number.invariant in (
      c.narrow.ensures.set
          ∙ ap (λ (h : ℕ → Bool). if c.has.result then h else put n false h) i.0
          ∙ met_next n (marked c.args.self.now) (marked c.args.other.now) c.has.result c.has.ensures,
      c.narrow.ensures.long ∙ i.1,
    )

pub returns : goal.returns
returns c =
    let l : length c.args.self.now.list.items ≤ c.loop-number.number = omega (arith, c.loop-number-test.false, c.len-number-end.ensures, c.args.self.now.list.ok.0) in
    c.loop-number.invariant.0 ∙ met_all c.args.self.now.list.items c.loop-number.number (marked c.args.other.now) l
