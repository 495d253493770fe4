use Rattle.std.proofs.Common.{◌≡◌, None, ◌∙◌, ap}
use Rattle.std.proofs.lemmas.List.{map_push}
use Rattle.indexmap.proofs.CallerLemmas.{insert_entry-new}
use Rattle.ss_search_models.specs.Keys.{key_of, keyed, givens_in, given_to}
use Rattle.ss_search_models.proofs.Keys.{is_same, given_found}
use Rattle.ss_search_models.proofs.signatures.Signatures.insert.Goals as goal

pub returns : goal.returns
returns c =
    let old = c.self.inside.first in
    let none : given_to (givens_in old.entries) (key_of c.args.signature) ≡ None = ap (λ gs. given_to gs (key_of c.args.signature)) c.self.view_is ∙ c.requires in
    rw (← c.self.view_is)
    (ap givens_in (c.in_ok-insert.ensures.entries ∙ insert_entry-new is_same old c.args.signature c.args.given (given_found c.args.signature old.entries ∙ none))
    ∙ map_push keyed old.entries (c.args.signature, c.args.given))
