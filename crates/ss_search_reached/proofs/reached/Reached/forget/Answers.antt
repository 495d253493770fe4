use Rattle.std.proofs.Common.{ℕ, ◌∷◌, [], ◌++◌, List, subst, arith, map}
use Rattle.ss_terms.specs.declared.forms.FormulaId.{FormulaId}
use Rattle.ss_rules_occurring.specs.Found.{formula_number}
use Rattle.ss_search_reached.specs.declared.reached.Reached.{Reached}
use Rattle.ss_search_reached.specs.Known.{AreKept}
use Rattle.ss_search_reached.proofs.Marks.{less_listed, last_marked}
use Rattle.ss_search_reached.proofs.Kept.{few_merges}
use Rattle.ss_search_reached.proofs.More.{less_reached, merges_less, counts_less}
use Rattle.ss_search_reached.proofs.reached.Reached.forget.Goals as goal

pub returns-in_default : goal.returns-in_default
returns-in_default c = absurd (omega (arith, c.requires.some, c.in_default.ensures.cases.0, c.args.self.now.known.ok.0))

pub returns-in_default-pop : goal.returns-in_default-pop
returns-in_default-pop c = absurd (omega (arith, c.requires.some, c.requires.reached.kept.long, c.in_default-pop.ensures.cases.0, c.args.self.now.merges.ok.0))

pub take_out-requires : goal.take_out-requires
take_out-requires c =
    let old = c.args.self.now in
    last_marked old.numbers (map formula_number c.pop.new.self.items) c.in-Some.f.0 (less_listed old.numbers old.known.items c.pop.new.self.items c.in-Some.f c.in-Some.ensures.items c.requires.reached.marked)

pub undo-requires : goal.undo-requires
undo-requires c =
    let b = c.args.bank.now in
    let old = c.args.self.now in
    few_merges b c.pop.new.self.items c.in-Some.f c.pop-2.new.self.items c.in-Some-pop.mark old.congruence
    (subst (λ (fs : List FormulaId). AreKept b fs (c.pop-2.new.self.items ++ c.in-Some-pop.mark ∷ []) old.congruence) c.in-Some.ensures.items
    (subst (λ (ns : List ℕ). AreKept b old.known.items ns old.congruence) c.in-Some-pop.ensures.items c.requires.reached.kept))

pub returns : goal.returns
returns c =
    let old = c.args.self.now in
    let new : Reached = record { known = c.pop.new.self; numbers = c.take_out.new.numbers; congruence = c.undo.new.self; merges = c.pop-2.new.self; classes = old.classes } in
    record {
      reached = less_reached c.args.bank.now old new c.in-Some.f c.in-Some-pop.mark c.requires.reached c.in-Some.ensures.items c.take_out.ensures c.in-Some-pop.ensures.items c.undo.ensures;
      known = (c.in-Some.f, c.in-Some.ensures.items);
      merges = merges_less c.args.bank.now old new c.in-Some.f c.in-Some-pop.mark c.requires.reached c.in-Some.ensures.items c.take_out.ensures c.in-Some-pop.ensures.items c.undo.ensures;
      counts = counts_less c.args.bank.now old new c.in-Some.f c.in-Some-pop.mark c.requires.reached c.in-Some.ensures.items c.take_out.ensures c.in-Some-pop.ensures.items;
    }
