use Rattle.std.proofs.Common.{subst}
use Rattle.std.proofs.Math.Facts.{to_z-of_z}
use Rattle.ss_store_rules.specs.Changes.{IsChange, write_element_of}
use Rattle.ss_store_rules.proofs.Keeps.{Keeps-write_element}
use Rattle.ss_store.proofs.store.Store.write_element.Goals as goal

pub returns-clause-good : goal.returns-clause-good
returns-clause-good c cs typed ready =
    let s = c.args.self.now.objects in
    let s' = c.write_element_exactly.new.self.objects in
    let r = c.write_element_exactly.result in
    Keeps-write_element cs s s' r c.args.a c.args.i c.args.v
    (subst (λ i. IsChange s s' r (write_element_of s c.args.a i c.args.v)) (to_z-of_z c.ranges.i) c.write_element_exactly.ensures.change) typed ready
