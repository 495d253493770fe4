use Rattle.std.proofs.Common.{◌≡◌, ◌∙◌, ap}
use Rattle.ss_ast.specs.Programs.{ClassTree}
use Rattle.std.specs.Str.{bytes_eq}
use Rattle.ss_tables.specs.Classes.{class_named}
use Rattle.ss_tables_lookup.specs.Classes.{trees}
use Rattle.ss_tables.specs.Named.{named_in}
use Rattle.ss_tables_lookup.proofs.Noted.{first_place, place_within}
use Rattle.ss_tables_lookup.proofs.tables.Tables.class_named.Goals as goal

pub returns-clause-class : goal.returns-clause-class
returns-clause-class c = rw (← c.self.view_is) (c.find.ensures ∙ ap (λ p. named_in p c.args.name.now) c.self.invariant.names ∙ first_place (λ (t : ClassTree). t.name.text) c.args.name.now (trees c.self.inside.classes.now))

pub returns-clause-within : goal.returns-clause-within
returns-clause-within c =
    let e : c.find.result ≡ class_named (trees c.args.self.now) c.args.name.now = returns-clause-class c in
    rw e (place_within (λ (t : ClassTree). bytes_eq c.args.name.now t.name.text) (trees c.args.self.now))
