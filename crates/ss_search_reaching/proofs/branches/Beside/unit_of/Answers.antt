use Rattle.std.proofs.Common.{◌≡◌, sym, ◌∙◌, ap, subst, refl}
use Rattle.std.proofs.lemmas.Result.{IfOk-weaker}
use Rattle.ss_logic.specs.Formulas.{Formula}
use Rattle.ss_terms.specs.Forms.{Forms, formula_at, HasFormula, HasFormulas, AreBelow}
use Rattle.ss_search_reached.proofs.Fronts.{front_itself}
use Rattle.ss_search_reached.proofs.Lists.{below_parts}
use Rattle.ss_search_reached.proofs.Branches.{other_branch}
use Rattle.ss_search_path.specs.declared.standing.Standing.{Standing}
use Rattle.ss_search_reaching.specs.Refuting.{bank_of, or_of}
use Rattle.ss_search_reaching.specs.Units.{IsResolved, UnitFrom, UnitGuarded, UnitStanding}
use Rattle.ss_search_reaching.proofs.Turning.{fact_leads, guarded_leads, nothing_leads}
use Rattle.ss_search_reaching.proofs.branches.Beside.unit_of.Goals as goal

pub formula_node-requires : goal.formula_node-requires
formula_node-requires c = subst (λ (b : Forms). HasFormula b c.args.f) (sym c.requires.beside.bank) c.requires.formula

pub unit-requires-clause-below : goal.unit-requires-clause-below
unit-requires-clause-below c = subst (AreBelow c.args.f.0) (sym c.deref.ensures.value) (rw c.in-Or.is at c.formula_node.ensures).below

pub guarded-requires-clause-below : goal.guarded-requires-clause-below
guarded-requires-clause-below c = subst (AreBelow c.args.f.0) (sym c.deref-in-Guarded.ensures.value) (rw c.in-Or.is at c.formula_node.ensures).below

pub guarded-requires-clause-has : goal.guarded-requires-clause-has
guarded-requires-clause-has c =
    let b = bank_of c.args.self.now.refuting in
    subst (HasFormulas b) (sym c.deref-in-Guarded.ensures.value) (below_parts b c.args.f _ c.requires.formula (rw c.in-Or.is at c.formula_node.ensures).below)

pub returns-in-Fact-clause-branch : goal.returns-in-Fact-clause-branch
returns-in-Fact-clause-branch c =
    let s = c.args.self.now.looking in
    let fs = c.deref.result.now in
    IfOk-weaker c.unit.result (IsResolved s (or_of s.bank.now fs)) (IsResolved s (formula_at s.bank.now c.args.f))
    (λ u h. subst (λ (x : Formula). IsResolved s x u) (sym ((rw c.in-Or.is at c.formula_node.ensures).built ∙ ap (or_of s.bank.now) (sym c.deref.ensures.value))) h)
    c.unit.ensures.branch

pub returns-in-Fact-clause-leads : goal.returns-in-Fact-clause-leads
returns-in-Fact-clause-leads c =
    let p = c.args.self.now in
    let ms = c.args.congruence.now.merges in
    let old = c.args.path.now in
    let new = c.unit.new.path in
    let fs = c.deref.result.now in
    let f = formula_at (bank_of p.refuting) c.args.f in
    let built = (rw c.in-Or.is at c.formula_node.ensures).built ∙ ap (or_of p.looking.bank.now) (sym c.deref.ensures.value) in
    let is = subst (λ (b : Forms). formula_at b c.args.f ≡ or_of b fs) c.requires.beside.bank built in
    IfOk-weaker c.unit.result (λ u. UnitFrom p ms old c.in-Fact.place c.in-Fact.from fs new u) (λ u. UnitStanding p ms old c.args.standing f new u)
    (λ u h. subst (λ (s : Standing). UnitStanding p ms old s f new u) (sym c.in-Fact.is) (fact_leads p ms old new c.in-Fact.place c.in-Fact.from fs f u is h))
    c.unit.ensures.leads

pub returns-in-Guarded-clause-branch : goal.returns-in-Guarded-clause-branch
returns-in-Guarded-clause-branch c =
    let s = c.args.self.now.looking in
    let fs = c.deref-in-Guarded.result.now in
    IfOk-weaker c.guarded.result (IsResolved s (or_of s.bank.now fs)) (IsResolved s (formula_at s.bank.now c.args.f))
    (λ u h. subst (λ (x : Formula). IsResolved s x u) (sym ((rw c.in-Or.is at c.formula_node.ensures).built ∙ ap (or_of s.bank.now) (sym c.deref-in-Guarded.ensures.value))) h)
    c.guarded.ensures.branch

pub returns-in-Guarded-clause-leads : goal.returns-in-Guarded-clause-leads
returns-in-Guarded-clause-leads c =
    let p = c.args.self.now in
    let ms = c.args.congruence.now.merges in
    let old = c.args.path.now in
    let new = c.guarded.new.path in
    let fs = c.deref-in-Guarded.result.now in
    let f = formula_at (bank_of p.refuting) c.args.f in
    let built = (rw c.in-Or.is at c.formula_node.ensures).built ∙ ap (or_of p.looking.bank.now) (sym c.deref-in-Guarded.ensures.value) in
    let is = subst (λ (b : Forms). formula_at b c.args.f ≡ or_of b fs) c.requires.beside.bank built in
    IfOk-weaker c.guarded.result (λ u. UnitGuarded p ms old c.in-Guarded.origin fs new u) (λ u. UnitStanding p ms old c.args.standing f new u)
    (λ u h. subst (λ (s : Standing). UnitStanding p ms old s f new u) (sym c.in-Guarded.is) (guarded_leads p ms old new c.in-Guarded.origin fs f u is h))
    c.guarded.ensures.leads

pub returns-in-And : goal.returns-in-And
returns-in-And c = record {
  congruence = refl;
  outcomes = c.requires.outcomes;
  kept = front_itself c.args.path.now.known.items;
  branch = other_branch c.args.self.now.looking (formula_at c.args.self.now.looking.bank.now c.args.f) _ (rw c.in-And.is at c.formula_node.ensures).built refl;
  leads = nothing_leads c.args.self.now c.args.congruence.now.merges c.args.path.now c.args.standing (formula_at (bank_of c.args.self.now.refuting) c.args.f);
}

pub returns-in-Literal : goal.returns-in-Literal
returns-in-Literal c = record {
  congruence = refl;
  outcomes = c.requires.outcomes;
  kept = front_itself c.args.path.now.known.items;
  branch = other_branch c.args.self.now.looking (formula_at c.args.self.now.looking.bank.now c.args.f) _ (rw c.in-Literal.is at c.formula_node.ensures).built refl;
  leads = nothing_leads c.args.self.now c.args.congruence.now.merges c.args.path.now c.args.standing (formula_at (bank_of c.args.self.now.refuting) c.args.f);
}

pub returns-in-Forall : goal.returns-in-Forall
returns-in-Forall c = record {
  congruence = refl;
  outcomes = c.requires.outcomes;
  kept = front_itself c.args.path.now.known.items;
  branch = other_branch c.args.self.now.looking (formula_at c.args.self.now.looking.bank.now c.args.f) _ (rw c.in-Forall.is at c.formula_node.ensures).built refl;
  leads = nothing_leads c.args.self.now c.args.congruence.now.merges c.args.path.now c.args.standing (formula_at (bank_of c.args.self.now.refuting) c.args.f);
}

pub returns-in-Exists : goal.returns-in-Exists
returns-in-Exists c = record {
  congruence = refl;
  outcomes = c.requires.outcomes;
  kept = front_itself c.args.path.now.known.items;
  branch = other_branch c.args.self.now.looking (formula_at c.args.self.now.looking.bank.now c.args.f) _ (rw c.in-Exists.is at c.formula_node.ensures).built refl;
  leads = nothing_leads c.args.self.now c.args.congruence.now.merges c.args.path.now c.args.standing (formula_at (bank_of c.args.self.now.refuting) c.args.f);
}
