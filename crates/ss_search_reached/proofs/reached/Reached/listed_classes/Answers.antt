use Rattle.std.proofs.Common.{List, ℕ, ◌∷◌, [], ◌++◌, map, take, get_or, sym, ◌∙◌, ap}
use Rattle.std.proofs.lemmas.List.{take_more, take_all, map_push}
use Rattle.ss_terms.specs.declared.forms.TermId.{TermId}
use Rattle.ss_equality_rules.specs.Equal.{class_number}
use Rattle.ss_search_reached.specs.Models.{renumbered}
use Rattle.ss_search_reached.proofs.reached.Reached.listed_classes.Goals as goal

pub loop-t-preserved : goal.loop-t-preserved
loop-t-preserved c =
    let ns = c.args.self.now.classes.items in
    let ts = c.args.ts.now in
    let i = c.loop-t.t-index in
    let d : TermId = record { 0 = 0 } in
    let g = λ (t : TermId). renumbered c.args.names (class_number ns t) in
    c.in_ok-push.ensures.items
    ∙ ap (λ (ks : List ℕ). ks ++ c.in_ok-renumbered.field-0 ∷ []) c.loop-t.invariant
    ∙ ap (λ (k : ℕ). map g (take i ts) ++ k ∷ []) (c.in_ok-renumbered.ensures ∙ ap (renumbered c.args.names) (c.class_number.ensures ∙ ap (λ (ks : List ℕ). class_number ks (get_or ts i d)) c.deref.ensures.value))
    ∙ sym (ap (map g) (take_more ts i d c.loop-t-test.true) ∙ map_push g (take i ts) (get_or ts i d))

pub returns : goal.returns
returns c = c.loop-t.invariant ∙ ap (map (λ (t : TermId). renumbered c.args.names (class_number c.args.self.now.classes.items t))) (take_all c.loop-t.t-index c.args.ts.now c.loop-t-test.false)
