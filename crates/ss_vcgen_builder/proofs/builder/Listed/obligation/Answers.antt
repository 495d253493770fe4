use Rattle.std.proofs.Common.{◌≡◌, ℕ, ◌+◌, ◌-◌, ◌≤◌, List, take, drop, sym, subst, arith}
use Rattle.std.proofs.lemmas.List.{drop-take}
use Rattle.ss_terms.specs.declared.forms.FormulaId.{FormulaId}
use Rattle.ss_vcgen_builder.proofs.builder.Listed.obligation.Goals as goal

-- a part of a list, as code takes it
part_is : (first end : ℕ) (fs : List FormulaId) → first ≤ end → take (end - first) (drop first fs) ≡ drop first (take end fs)
part_is first end fs h =
    let whole : first + (end - first) ≡ end = omega arith in
    sym (subst (λ n. drop first (take n fs) ≡ take (end - first) (drop first fs)) whole (drop-take first (end - first) fs))

pub returns-clause-premises : goal.returns-clause-premises
returns-clause-premises c = part_is c.args.self.now.first c.args.self.now.end c.args.trail.now c.requires.first
