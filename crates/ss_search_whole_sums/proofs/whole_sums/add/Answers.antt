use Rattle.std.proofs.Common.{◌∙◌, ◌++◌, ◌∷◌, [], Bool, sym, ap}
use Rattle.std.specs.Prelude.{if◌then◌else◌}
use Rattle.std.proofs.lemmas.List.{append-nil}
use Rattle.ss_search_whole_sums.proofs.whole_sums.add.Goals as goal

pub returns-then-not-is_basic-clause-formulas : goal.returns-then-not-is_basic-clause-formulas
returns-then-not-is_basic-clause-formulas c =
    let old = c.args.basics.now.formulas.items in
    sym (append-nil old) ∙ ap (λ (v : Bool). old ++ (if v then c.args.f ∷ [] else [])) (sym c.if-not-is_basic.true ∙ c.is_basic.ensures)

pub returns-then-not-is_basic-clause-places : goal.returns-then-not-is_basic-clause-places
returns-then-not-is_basic-clause-places c =
    let old = c.args.basics.now.places.items in
    sym (append-nil old) ∙ ap (λ (v : Bool). old ++ (if v then c.args.place ∷ [] else [])) (sym c.if-not-is_basic.true ∙ c.is_basic.ensures)

pub returns-clause-formulas : goal.returns-clause-formulas
returns-clause-formulas c =
    let old = c.args.basics.now.formulas.items in
    c.in_ok-push.ensures.items ∙ ap (λ (v : Bool). old ++ (if v then c.args.f ∷ [] else [])) (sym c.if-not-is_basic.false ∙ c.is_basic.ensures)

pub returns-clause-places : goal.returns-clause-places
returns-clause-places c =
    let old = c.args.basics.now.places.items in
    c.in_ok-push-2.ensures.items ∙ ap (λ (v : Bool). old ++ (if v then c.args.place ∷ [] else [])) (sym c.if-not-is_basic.false ∙ c.is_basic.ensures)
