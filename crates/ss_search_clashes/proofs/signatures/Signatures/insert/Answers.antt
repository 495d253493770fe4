use Rattle.std.proofs.Common.{◌≡◌, None, ◌∙◌, ap}
use Rattle.std.proofs.lemmas.List.{map_push}
use Rattle.indexmap.proofs.CallerLemmas.{insert_entry-new}
use Rattle.ss_search_clashes.specs.Says.{key_of, keyed, sayings_in, said_of}
use Rattle.ss_search_clashes.proofs.Keys.{is_same, said_found}
use Rattle.ss_search_clashes.proofs.signatures.Signatures.insert.Goals as goal

pub returns : goal.returns
returns c =
    let old = c.self.inside.first in
    let none : said_of (sayings_in old.entries) (key_of c.args.signature) ≡ None = ap (λ gs. said_of gs (key_of c.args.signature)) c.self.view_is ∙ c.requires in
    rw (← c.self.view_is)
    (ap sayings_in (c.in_ok-insert.ensures.entries ∙ insert_entry-new is_same old c.args.signature c.args.said (said_found c.args.signature old.entries ∙ none))
    ∙ map_push keyed old.entries (c.args.signature, c.args.said))
