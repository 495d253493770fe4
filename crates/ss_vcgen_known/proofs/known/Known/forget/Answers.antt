use Rattle.std.proofs.Common.{arith}
use Rattle.ss_bit_set.specs.Marked.{marked}
use Rattle.ss_vcgen_known.specs.Views.{known_of}
use Rattle.ss_vcgen_known.proofs.Forgetting.{forget_begin, forget_one, forget_end}
use Rattle.ss_vcgen_known.proofs.known.Known.forget.Goals as goal

pub loop-x-init : goal.loop-x-init
loop-x-init c = forget_begin (marked c.args.set.now) (known_of c.args.self.now)

pub loop-x-preserved : goal.loop-x-preserved
loop-x-preserved c =
    forget_one c.loop-x.x (marked c.args.set.now) (known_of c.loop-x.self) (known_of c.args.self.now) (known_of c.forget_one.new.self) c.loop-x.invariant c.in_ok-forget_one.ensures

pub returns : goal.returns
returns c =
    let set = c.args.set.now in
    forget_end set.list.items c.loop-x.x (known_of c.loop-x.self) (known_of c.args.self.now) (omega (arith, c.loop-x-test.false, set.list.ok.0)) c.loop-x.invariant
