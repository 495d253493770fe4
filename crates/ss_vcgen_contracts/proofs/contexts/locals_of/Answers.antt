use Rattle.std.proofs.Common.{◌++◌, map, subst}
use Rattle.ss_core.specs.View as view
use Rattle.ss_store_rules.specs.Locals.{types_of}
use Rattle.ss_vcgen_heaps.specs.Contracts as heaps
use Rattle.ss_vcgen_contracts.specs.Views.{ones_at, AreOnes}
use Rattle.ss_vcgen_contracts.proofs.Listing.{ones_join}
use Rattle.ss_vcgen_contracts.proofs.contexts.locals_of.Goals as goal

pub returns-clause-at : goal.returns-clause-at
returns-clause-at c =
    ones_join c.args.bank.now c.add_defaults.new.bank c.args.arguments.now c.in_ok-terms.terms.items c.add_defaults.new.terms.items c.args.results.now c.extend_from_slice.new.self.items
    (heaps.defaults_meant (types_of (map view.local_of c.args.body.now.locals.items))) c.in_ok-add_defaults.ensures.grown c.in_ok-terms.ensures.items c.requires.results
    (subst (λ ls. AreOnes c.add_defaults.new.bank c.add_defaults.new.terms.items (λ b. ones_at b c.in_ok-terms.terms.items ++ heaps.defaults_meant (types_of (map view.local_of ls)))) c.deref.ensures.value c.in_ok-add_defaults.ensures.at)
    c.in_ok-extend_from_slice.ensures.items
