use Rattle.std.proofs.Common.{◌≡◌, subst, Ok}
use Rattle.std.specs.Prelude.{OnOk}
use Rattle.std.proofs.Math.Facts.{to_z-of_z}
use Rattle.ss_store_rules.specs.Changes.{new_array_of}
use Rattle.ss_store.proofs.Keeping.{keeps_array, fits_bits}
use Rattle.ss_store.proofs.store.Store.new_array.Goals as goal

pub returns-clause-good : goal.returns-clause-good
returns-clause-good c cs array =
    let s = c.args.self.now.objects in
    let s' = c.new_array_exactly.new.self.objects in
    let r = c.new_array_exactly.result in
    let added = subst (λ n. OnOk r (new_array_of s c.args.c.0 n ≡ Ok s')) (to_z-of_z c.ranges.n) c.new_array_exactly.ensures.added in
    keeps_array r cs s s' c.args.c.0 c.args.n added c.new_array_exactly.ensures.kept array (fits_bits c.args.n c.ranges.n)
