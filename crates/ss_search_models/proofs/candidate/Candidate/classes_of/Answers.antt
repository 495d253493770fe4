use Rattle.std.proofs.Common.{◌∷◌, [], ◌++◌, take, map, get_or, ◌∙◌, ap, sym}
use Rattle.std.proofs.lemmas.List.{take_more, map_push}
use Rattle.ss_terms.specs.Forms.{term_at, terms_at}
use Rattle.ss_terms.proofs.Tested.{AreTermsBelow-get}
use Rattle.ss_search_models.specs.Candidates.{class_at}
use Rattle.ss_search_models.proofs.candidate.Candidate.classes_of.Goals as goal

pub class-requires-clause-term : goal.class-requires-clause-term
class-requires-clause-term c = AreTermsBelow-get _ c.args.ts.now c.loop-t.t-index (record { 0 = 0 }) c.requires.terms c.loop-t-test.true

pub loop-t-preserved : goal.loop-t-preserved
loop-t-preserved c =
    let b = c.args.bank.now in
    let g = class_at b c.args.self.now in
    c.in_ok-push.ensures.items
    ∙ ap (λ ns. ns ++ c.class.result ∷ []) c.loop-t.invariant
    ∙ ap (λ n. map g (terms_at b (take c.loop-t.t-index c.args.ts.now)) ++ n ∷ []) c.class.ensures
    ∙ sym (ap (λ xs. map g (terms_at b xs)) (take_more c.args.ts.now c.loop-t.t-index (record { 0 = 0 }) c.loop-t-test.true)
    ∙ ap (map g) (map_push (term_at b) (take c.loop-t.t-index c.args.ts.now) (get_or c.args.ts.now c.loop-t.t-index (record { 0 = 0 })))
    ∙ map_push g (terms_at b (take c.loop-t.t-index c.args.ts.now)) (term_at b (get_or c.args.ts.now c.loop-t.t-index (record { 0 = 0 }))))
