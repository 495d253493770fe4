use Rattle.ss_vcgen_builder.specs.Builder.{guard_of}
use Rattle.ss_vcgen_builder.proofs.Builds.{becomes_differing}
use Rattle.ss_vcgen_builder.proofs.builder.Builder.join_differing.Goals as goal

pub returns-clause-becomes : goal.returns-clause-becomes
returns-clause-becomes c =
    becomes_differing c.args.self.now c.new_term.new.self c.add_equal.new.self c.add_equal-2.new.self (guard_of c.args.first) (guard_of c.args.second) c.args.sort c.in_ok-t.t c.args.x c.args.y c.in_ok-t.ensures.becomes c.in_ok-t.ensures.at
    c.in_ok-add_equal.ensures c.in_ok-add_equal-2.ensures
