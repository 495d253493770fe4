use Rattle.std.proofs.Common.{◌≡◌, ◌∷◌, List, ℕ, Option, None, Result, Ok, Err, sym, subst}
use Rattle.std.specs.Prelude.{IfOk}
use Rattle.ss_terms.specs.Forms.{formulas_at}
use Rattle.ss_equality_rules.specs.Equal.{AreClassesOf}
use Rattle.ss_search_clashes.specs.Numbered.{class_of, HasNoClash}
use Rattle.ss_search_clashes.specs.Found.{IsFound}
use Rattle.ss_search_procedure_rules.specs.Closed.{basics}
use Rattle.ss_search_reaching.specs.Refuting.{bank_of}
use Rattle.ss_search_reaching.proofs.basic.Refuting.contradiction.Goals as goal

none_weaker : {A E P Q : Type 0} (r : Result (Option A) E) → (P → Q) → IfOk r (λ o. o ≡ None → P) → IfOk r (λ o. o ≡ None → Q)
none_weaker (Ok o) f h = λ e. f (h e)
none_weaker (Err z) f h = tt

pub by_clash-requires-clause-clash : goal.by_clash-requires-clause-clash
by_clash-requires-clause-clash c =
    let s = c.args.self.now in
    record { classes = c.in_ok-classes.classes.items; are = c.in_ok-classes.ensures.same; holds = subst (IsFound (bank_of s) c.in_ok-classes.classes.items s.known.now) c.in-Clashes.is c.in_ok-clash.ensures }

pub by_table-requires-clause-table : goal.by_table-requires-clause-table
by_table-requires-clause-table c =
    let s = c.args.self.now in
    (subst (IsFound (bank_of s) c.in_ok-classes.classes.items s.known.now) c.in-Fits.is c.in_ok-clash.ensures).1

pub by_table-requires-clause-classes : goal.by_table-requires-clause-classes
by_table-requires-clause-classes c =
    let s = c.args.self.now in
    let k = c.args.congruence.now in
    let found = subst (IsFound (bank_of s) c.in_ok-classes.classes.items s.known.now) c.in-Fits.is c.in_ok-clash.ensures in
    subst (λ (ns : List ℕ). AreClassesOf k.terms k.merges ns) (sym found.0) c.in_ok-classes.ensures.same

pub returns-in-Fits-clause-none : goal.returns-in-Fits-clause-none
returns-in-Fits-clause-none c =
    let s = c.args.self.now in
    let b = bank_of s in
    let k = c.args.congruence.now in
    let classes = c.in_ok-classes.classes.items in
    let known = c.args.fact.formula ∷ s.known.now in
    let found = subst (IsFound b classes s.known.now) c.in-Fits.is c.in_ok-clash.ensures in
    none_weaker c.by_table.result
    (λ h. c.what_has_fitting_classes_fits.ensures (class_of b classes) (basics (formulas_at b known))
    (c.what_has_no_clash_fits.ensures k.terms k.merges classes known c.requires.forms c.in_ok-classes.ensures.same c.requires.merged
    (subst (λ (ns : List ℕ). HasNoClash b (class_of b ns) known) found.0 h)))
    c.by_table.ensures.none
