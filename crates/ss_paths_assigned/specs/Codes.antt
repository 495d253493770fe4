-- What values of the code stand for.
use Rattle.ss_bit_set.specs.Marked.{marked}
use Rattle.ss_paths.specs.Fields as fields
use Rattle.ss_paths.specs.Assigned as assigned
use Rattle.ss_paths_assigned.specs.declared.fields.Numbers.{Numbers}
use Rattle.ss_paths_assigned.specs.declared.assigned.Assigned.{Assigned}

abbrev pub numbers_of : Numbers → fields.Numbers
numbers_of n = record { first = n.first; count = n.count }

abbrev pub assigned_of : Assigned → assigned.Assigned
assigned_of a = record { own = marked a.own; above = a.above }
