use Rattle.ss_typed.specs.View.{typed}
use Rattle.ss_paths_assigned.specs.Codes.{numbers_of, assigned_of}
use Rattle.ss_delayed.specs.Walked.{known_of}
use Rattle.ss_delayed.proofs.Constructing.{ends_found}
use Rattle.ss_delayed.proofs.constructors.check_ends.Goals as goal

pub returns : goal.returns
returns c =
    ends_found (typed c.args.fields.now.program.now) c.args.constructor.now (numbers_of c.numbers.result) (assigned_of c.in_ok-first.first)
    c.args.found.now.items c.walk_in.new.found.items c.note_unassigned.new.found.items (known_of c.in_ok-behind.behind)
    c.numbers.ensures c.in_ok-first.ensures c.in_ok-behind.ensures.behind c.in_ok-behind.ensures.noted c.in_ok-note_unassigned.ensures
