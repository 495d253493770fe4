use Rattle.ss_logic.specs.declared.Sort.TheVariants as sort
use Rattle.ss_terms.specs.Forms.{term_at}
use Rattle.ss_terms.proofs.Grown.{IsGrown-then, HasTerm-grown}
use Rattle.ss_vcgen_defaults.specs.Defaults.{slot_of, at_default}
use Rattle.ss_vcgen_express.proofs.Grown.{formulas_each}
use Rattle.ss_vcgen_defaults.proofs.objects.are_default.Goals as goal

pub is_default-requires : goal.is_default-requires
is_default-requires c =
    let g = c.loop-held.invariant.grown in
    record {
      store = HasTerm-grown c.args.bank.now c.loop-held.bank g c.args.store c.requires.store;
      object = HasTerm-grown c.args.bank.now c.loop-held.bank g c.args.x c.requires.object;
    }

pub loop-held-preserved : goal.loop-held-preserved
loop-held-preserved c = record {
  grown = IsGrown-then c.args.bank.now c.loop-held.bank c.is_default.new.bank c.loop-held.invariant.grown c.is_default.ensures.grown;
  done = formulas_each slot_of (λ b s. at_default (term_at b c.args.store) (term_at b c.args.x) s) c.loop-held.bank c.is_default.new.bank c.args.list.now c.loop-held.held-index (record { field = 0; sort = sort.Store }) c.loop-held.made.items c.push.new.self.items
      c.in_ok-f.f c.is_default.ensures.grown c.loop-held-test.true c.in_ok-push.ensures.items c.loop-held.invariant.done c.in_ok-f.ensures.at;
}
