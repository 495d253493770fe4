use Rattle.std.proofs.Common.{◌≡◌, ◌++◌, ◌∷◌, [], ◌∙◌, sym, ap, subst, Some, map}
use Rattle.std.specs.Prelude.{slice_get}
use Rattle.std.proofs.lemmas.List.{map_push}
use Rattle.ss_terms.specs.Forms.{term_shape}
use Rattle.ss_equality_rules.specs.Whole.{AreApart, signature}
use Rattle.ss_equality_rules.proofs.Lists.{more_apart}
use Rattle.ss_equality.proofs.Found.{added_signature}
use Rattle.ss_equality.proofs.signatures.Signatures.add.Goals as goal

pub invariant_of-self-2 : goal.invariant_of-self-2
invariant_of-self-2 c =
    let es = c.self.inside.entries.entries in
    subst AreApart
    (sym (ap (λ xs. map signature xs) (c.in_ok-insert.ensures.entries ∙ added_signature es c.args.key c.args.term (λ i v at. c.requires i v (subst (λ s. slice_get s i ≡ Some (term_shape c.args.key, v)) c.self.view_is at)))
    ∙ map_push signature es (c.args.key, c.args.term)))
    (more_apart (map signature es) (term_shape c.args.key, c.args.term) c.self.invariant (λ i v at. c.requires i v (subst (λ s. slice_get s i ≡ Some (term_shape c.args.key, v)) c.self.view_is at)))

pub returns-clause-added : goal.returns-clause-added
returns-clause-added c =
    let es = c.self.inside.entries.entries in
    ap (λ xs. map signature xs) (c.in_ok-insert.ensures.entries ∙ added_signature es c.args.key c.args.term (λ i v at. c.requires i v (subst (λ s. slice_get s i ≡ Some (term_shape c.args.key, v)) c.self.view_is at)))
    ∙ map_push signature es (c.args.key, c.args.term)
    ∙ ap (λ s. s ++ (term_shape c.args.key, c.args.term) ∷ []) c.self.view_is
