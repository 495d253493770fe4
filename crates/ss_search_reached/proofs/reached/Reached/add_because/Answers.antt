use Rattle.std.proofs.Common.{◌∷◌, [], ◌++◌, ap, length, take, sym, subst, ◌∙◌}
use Rattle.ss_equality_rules.specs.Equal.{Equations}
use Rattle.ss_search_clashes.specs.Numbered.{AreMerged}
use Rattle.ss_terms.specs.Forms.{formula_at}
use Rattle.ss_search_reached.specs.Known.{AreMergesWith}
use Rattle.ss_search_reached.proofs.More.{more_reached, known_more}
use Rattle.ss_search_reached.proofs.Remembering.{remembers_push}
use Rattle.ss_search_reached.proofs.reached.Reached.add_because.Goals as goal

pub returns-clause-reached : goal.returns-clause-reached
returns-clause-reached c =
    let b = c.args.bank.now in
    let old = c.args.self.now in
    let new = c.enter.new.self in
    let m = c.in_ok-merge_sides.ensures in
    let e = c.in_ok-enter.ensures in
    more_reached b c.numbers_are_apart.ensures old new c.args.f c.requires.reached c.requires.formula c.requires.new e.known e.numbers
    (e.merges ∙ c.in_ok-push.ensures.items ∙ ap (λ n. old.merges.items ++ n ∷ []) c.mark-mark.ensures)
    (ap (λ (s : Equations). s.terms) e.congruence ∙ m.terms) (ap (λ (s : Equations). take (length old.congruence.merges) s.merges) e.congruence ∙ m.begins)
    (subst (λ (s : Equations). AreMerged b s.terms s.merges (c.args.f ∷ [])) (sym e.congruence) m.merged)

pub returns-clause-known : goal.returns-clause-known
returns-clause-known c = known_more c.args.bank.now c.args.self.now c.enter.new.self c.args.f c.in_ok-enter.ensures.known

pub returns-clause-reasons : goal.returns-clause-reasons
returns-clause-reasons c =
    let old = c.args.self.now in
    subst (λ (s : Equations). AreMergesWith c.args.bank.now (formula_at c.args.bank.now c.args.f) c.args.because old.congruence.merges s.merges) (sym c.in_ok-enter.ensures.congruence) c.in_ok-merge_sides.ensures.reasons

pub returns-clause-remembers : goal.returns-clause-remembers
returns-clause-remembers c =
    let old = c.args.self.now in
    let e = c.in_ok-enter.ensures in
    remembers_push c.args.bank.now old c.enter.new.self c.requires.reached (e.merges ∙ c.in_ok-push.ensures.items ∙ ap (λ n. old.merges.items ++ n ∷ []) c.mark-mark.ensures)
    (ap (λ (s : Equations). take (length old.congruence.merges) s.merges) e.congruence ∙ c.in_ok-merge_sides.ensures.begins)
