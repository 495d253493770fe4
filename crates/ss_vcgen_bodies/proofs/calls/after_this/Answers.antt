use Rattle.std.proofs.Common.{◌∷◌, ap, ◌∙◌}
use Rattle.ss_logic.specs.Express.{One}
use Rattle.ss_terms.proofs.Grown.{HasTerms-grown}
use Rattle.ss_vcgen_contracts.specs.Views.{ones_at}
use Rattle.ss_vcgen_bodies.proofs.calls.after_this.Goals as goal

pub returns-clause-at : goal.returns-clause-at
returns-clause-at c =
    let s = c.args.builder.now in
    let t = c.local_term.new.self in
    record {
      has = rw c.in_ok-all.ensures (c.in_ok-this.ensures.at.has, HasTerms-grown s.bank t.bank c.local_term.ensures.stays.grown c.args.arguments.now c.requires.arguments);
      are = λ b k. ap (ones_at b) c.in_ok-all.ensures ∙ ap (λ x. One x ∷ ones_at b c.args.arguments.now) (c.in_ok-this.ensures.at.is b k);
    }
