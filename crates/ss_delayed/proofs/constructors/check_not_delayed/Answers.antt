use Rattle.std.specs.Prelude.{option_map}
use Rattle.ss_typed.specs.View.{body, typed}
use Rattle.ss_delayed.specs.Openings.{base_of}
use Rattle.ss_delayed.proofs.Constructing.{undelayed_noted}
use Rattle.ss_delayed.proofs.constructors.check_not_delayed.Goals as goal

pub returns : goal.returns
returns c =
    undelayed_noted (typed c.args.fields.now.program.now) (body c.args.constructor.now) _ (option_map base_of c.written_base.result) c.place_of_base-place.result
    c.args.found.now.items c.check_first_uses.new.found.items c.check_opening.new.found.items
    c.count_opening-count.ensures.told c.in_ok-check_first_uses.ensures c.written_base.ensures c.place_of_base-place.ensures c.in_ok-check_opening.ensures
