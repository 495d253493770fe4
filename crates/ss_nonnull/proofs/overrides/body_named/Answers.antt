use Rattle.std.proofs.Common.{ap, ◌∙◌}
use Rattle.ss_core.specs.View.{class_of}
use Rattle.ss_nonnull_rules.specs.Faults.{body_of_entry}
use Rattle.ss_tables_lookup.specs.Places.{Places}
use Rattle.ss_tables.specs.Named.{named_in}
use Rattle.ss_nonnull.proofs.Naming.{named_here, named_nowhere}
use Rattle.ss_nonnull.proofs.overrides.body_named.Goals as goal

pub returns-in-Some : goal.returns-in-Some
returns-in-Some c =
    named_here (class_of c.args.class.now).table c.args.name.now _ _ c.in-Some.place
    (c.find.ensures ∙ ap (λ (p : Places). named_in p c.args.name.now) c.requires) c.in-Some.is
    (c.body_of_entry.ensures ∙ ap body_of_entry c.entry_at.ensures)

pub returns-in-None : goal.returns-in-None
returns-in-None c =
    named_nowhere (class_of c.args.class.now).table c.args.name.now _
    (c.find.ensures ∙ ap (λ (p : Places). named_in p c.args.name.now) c.requires) c.in-None.is
