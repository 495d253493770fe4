use Rattle.ss_terms.specs.Forms.{term_at}
use Rattle.ss_terms.proofs.Grown.{IsGrown-then, HasTerm-grown}
use Rattle.ss_vcgen_defaults.specs.Defaults.{number_of, full_if_owned}
use Rattle.ss_vcgen_express.proofs.Grown.{formulas_each}
use Rattle.ss_vcgen_defaults.proofs.objects.are_full_if_owned.Goals as goal

pub is_full_if_owned-requires : goal.is_full_if_owned-requires
is_full_if_owned-requires c =
    let g = c.loop-class.invariant.grown in
    record {
      store = HasTerm-grown c.args.bank.now c.loop-class.bank g c.args.store c.requires.store;
      object = HasTerm-grown c.args.bank.now c.loop-class.bank g c.args.v c.requires.object;
      owner = HasTerm-grown c.args.bank.now c.loop-class.bank g c.args.x c.requires.owner;
    }

pub loop-class-preserved : goal.loop-class-preserved
loop-class-preserved c = record {
  grown = IsGrown-then c.args.bank.now c.loop-class.bank c.is_full_if_owned.new.bank c.loop-class.invariant.grown c.is_full_if_owned.ensures.grown;
  done = formulas_each number_of (λ b u. full_if_owned (term_at b c.args.store) (term_at b c.args.v) (term_at b c.args.x) u) c.loop-class.bank c.is_full_if_owned.new.bank c.args.classes.now c.loop-class.class-index (record { 0 = 0 }) c.loop-class.made.items c.push.new.self.items
      c.in_ok-f.f c.is_full_if_owned.ensures.grown c.loop-class-test.true c.in_ok-push.ensures.items c.loop-class.invariant.done c.in_ok-f.ensures.at;
}
