use Rattle.std.proofs.Common.{◌≡◌, Some, None, sym, ap, ◌∙◌}
use Rattle.ss_core.specs.Kinds.{declared_place}
use Rattle.ss_core.proofs.ByNumber.{number_of, place_of_number}
use Rattle.ss_report_core.proofs.groups.place_of.Goals as goal

pub returns-clause-declared : goal.returns-clause-declared
returns-clause-declared c = λ k h. number_of c.args.t.0 k (sym c.place.ensures ∙ h)

pub returns-clause-undeclared : goal.returns-clause-undeclared
returns-clause-undeclared c = λ h k e.
    let both : Some k ≡ None = sym (ap declared_place e ∙ place_of_number k) ∙ sym c.place.ensures ∙ h in
    let no : ⊥ = cc in no
