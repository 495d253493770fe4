-- The exposes around a statement.
use Rattle.ss_expand_rules.specs.Lifting as lifting
use Rattle.ss_expand_bodies.specs.declared.exposes.Opened.{Opened}

abbrev pub opened_of : Opened → lifting.Opened
opened_of o = record { place = o.place; local = o.local; class = o.class.0 }
