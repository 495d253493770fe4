use Rattle.std.proofs.Common.{◌+◌, drop, get_or, List, ap}
use Rattle.std.proofs.lemmas.List.{drop_more, drop_all}
use Rattle.ss_terms.specs.declared.forms.FormulaId.{FormulaId}
use Rattle.ss_terms.specs.Forms.{formula_at, formulas_at}
use Rattle.ss_terms.proofs.Grown.{HasFormulas-grown}
use Rattle.ss_vcgen_heaps.specs.Positions as spec
use Rattle.ss_vcgen_builder.specs.Builder.{position_at}
use Rattle.ss_vcgen_builder.proofs.Held.{HasFormulas-get, no_formula}
use Rattle.ss_vcgen_builder.proofs.Builds.{going_start, going_on, going_end}
use Rattle.ss_vcgen_builder.proofs.builder.Builder.assume_all.Goals as goal

pub loop-f-init : goal.loop-f-init
loop-f-init c = going_start c.args.self.now (λ b k. spec.assume_all (formulas_at b c.args.fs.now) k) c.requires.fine

pub assume-requires-clause-formula : goal.assume-requires-clause-formula
assume-requires-clause-formula c = HasFormulas-get c.loop-f.self.bank c.args.fs.now c.loop-f.f-index no_formula (HasFormulas-grown c.args.self.now.bank c.loop-f.self.bank c.loop-f.invariant.grown c.args.fs.now c.requires.formulas) c.loop-f-test.true

pub loop-f-preserved : goal.loop-f-preserved
loop-f-preserved c =
    let fs = c.args.fs.now in
    let i = c.loop-f.f-index in
    going_on c.args.self.now c.loop-f.self c.assume.new.self (λ b k. spec.assume_all (formulas_at b (drop i fs)) k) (λ b k. spec.assume (formula_at b (get_or fs i no_formula)) k) (λ b k. spec.assume_all (formulas_at b (drop (i + 1) fs)) k)
    (λ b. spec.assume_all (formulas_at b fs) (position_at b c.args.self.now)) c.loop-f.invariant c.in_ok-assume.ensures
    (λ b k. ap (λ (gs : List FormulaId). spec.assume_all (formulas_at b gs) k) (drop_more fs i no_formula c.loop-f-test.true))

pub returns : goal.returns
returns c =
    let fs = c.args.fs.now in
    let i = c.loop-f.f-index in
    going_end c.args.self.now c.loop-f.self (λ b k. spec.assume_all (formulas_at b (drop i fs)) k) (λ b. spec.assume_all (formulas_at b fs) (position_at b c.args.self.now)) c.loop-f.invariant
    (λ b k. ap (λ (gs : List FormulaId). spec.assume_all (formulas_at b gs) k) (drop_all i fs c.loop-f-test.false))
