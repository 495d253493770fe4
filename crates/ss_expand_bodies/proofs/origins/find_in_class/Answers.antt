use Rattle.std.proofs.Common.{Some, None}
use Rattle.ss_expand_bodies.specs.Origins.{origin_of}
use Rattle.ss_expand_bodies.proofs.ByClass.{found_in_class}
use Rattle.ss_expand_bodies.proofs.origins.find_in_class.Goals as goal

pub returns-in-Some : goal.returns-in-Some
returns-in-Some c =
    let first = c.count_before-first in
    found_in_class (origin_of c.args.origin) c.args.origins.now _ _ _ (Some c.in-Some.place) c.class_of.ensures first.ensures.bound first.ensures.parted.0 c.split_at.ensures.back c.in-Some.ensures

pub returns-in-None : goal.returns-in-None
returns-in-None c =
    let first = c.count_before-first in
    found_in_class (origin_of c.args.origin) c.args.origins.now _ _ _ None c.class_of.ensures first.ensures.bound first.ensures.parted.0 c.split_at.ensures.back c.in-None.ensures
