use Rattle.std.proofs.Common.{ap, ◌∙◌}
use Rattle.ss_terms.specs.Forms.{Forms}
use Rattle.ss_terms.proofs.Grown.{IsGrown-then}
use Rattle.ss_vcgen_heaps.specs.Positions.{Position, term_for, with_term}
use Rattle.ss_vcgen_express.specs.Numbers.{meant_at}
use Rattle.ss_vcgen_express.proofs.Grown.{HasMeant-grown}
use Rattle.ss_vcgen_builder.specs.Builder.{position_at}
use Rattle.ss_vcgen_statements.proofs.Steps.{then, term_later}
use Rattle.ss_vcgen.proofs.changes.settle_two.Goals as goal

pub settle-requires-2-clause-meant : goal.settle-requires-2-clause-meant
settle-requires-2-clause-meant c = HasMeant-grown c.in_ok-one.ensures.becomes.grown c.args.second.now c.requires.second

pub returns-clause-first : goal.returns-clause-first
returns-clause-first c =
    term_later c.settle.new.self.bank c.settle-2.new.self.bank c.in_ok-other.ensures.becomes.grown c.in_ok-one.one (λ (b : Forms). term_for c.args.first_sort (meant_at b c.args.first.now) (position_at b c.args.builder.now)) c.in_ok-one.ensures.at

pub returns-clause-second : goal.returns-clause-second
returns-clause-second c =
    let t1 = c.settle.new.self in
    let t2 = c.settle-2.new.self in
    record {
      has = c.in_ok-other.ensures.at.has;
      is = λ b k.
          c.in_ok-other.ensures.at.is b k
          ∙ ap (λ (k : Position). term_for c.args.second_sort (meant_at b c.args.second.now) k) (c.in_ok-one.ensures.becomes.is b (IsGrown-then t1.bank t2.bank b c.in_ok-other.ensures.becomes.grown k));
    }

pub returns-clause-becomes : goal.returns-clause-becomes
returns-clause-becomes c =
    then c.args.builder.now c.settle.new.self c.settle-2.new.self (λ (b : Forms). with_term c.args.first_sort (meant_at b c.args.first.now) (position_at b c.args.builder.now)) (λ b k. with_term c.args.second_sort (meant_at b c.args.second.now) k)
    c.in_ok-one.ensures.becomes c.in_ok-other.ensures.becomes
