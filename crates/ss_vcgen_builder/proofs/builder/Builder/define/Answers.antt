use Rattle.ss_vcgen_express.specs.Numbers.{meant_at}
use Rattle.ss_vcgen_express.proofs.Grown.{HasMeant-grown}
use Rattle.ss_vcgen_builder.proofs.Builds.{becomes_defined}
use Rattle.ss_vcgen_builder.proofs.builder.Builder.define.Goals as goal

pub has_value-requires-clause-meant : goal.has_value-requires-clause-meant
has_value-requires-clause-meant c = HasMeant-grown c.in_ok-t.ensures.becomes.grown c.args.meant.now c.requires.meant

pub returns-clause-becomes : goal.returns-clause-becomes
returns-clause-becomes c =
    becomes_defined c.args.self.now c.new_term.new.self c.has_value.new.self c.assume.new.self c.args.sort c.in_ok-t.t (λ b. meant_at b c.args.meant.now) c.in_ok-f.f c.in_ok-t.ensures.becomes c.in_ok-t.ensures.at c.has_value.ensures.stays c.in_ok-f.ensures.at
    c.in_ok-assume.ensures
