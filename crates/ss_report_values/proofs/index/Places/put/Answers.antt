use Rattle.std.specs.Prelude.{nat_eq}
use Rattle.indexmap.specs.IndexMap.{get}
use Rattle.ss_terms.proofs.Tested.{AreTermsBelow-get}
use Rattle.ss_report_values.specs.Index.{no_number}
use Rattle.ss_report_values.proofs.Classes.{place_put}
use Rattle.ss_report_values.proofs.index.Places.put.Goals as goal

pub returns : goal.returns
returns c = λ t h.
    place_put c.args.bank.now c.numbers_are_apart.ensures c.args.terms.now c.args.i no_number t (get nat_eq c.args.self.now.places t.0) (get nat_eq c.insert.new.self t.0) c.requires.place
    (AreTermsBelow-get _ c.args.terms.now c.args.i no_number c.requires.terms c.requires.place) h (c.in_ok-insert.ensures.updates.0 t.0) (c.requires.places t h)
