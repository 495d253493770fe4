use Rattle.std.proofs.Common.{◌≡◌, List, ℕ, length, sym, ◌∙◌, ap, subst}
use Rattle.std.proofs.lemmas.List.{length-map}
use Rattle.std.proofs.lemmas.Result.{IfOk-weaker}
use Rattle.ss_terms.specs.declared.forms.FormulaId.{FormulaId}
use Rattle.ss_terms.specs.Forms.{HasFormulas}
use Rattle.ss_equality_rules.specs.Equal.{Equations, AreClassesOf}
use Rattle.ss_search_clashes.specs.Numbered.{class_of, HasNoClash}
use Rattle.ss_search_clashes.specs.Found.{IsFound, IsClash}
use Rattle.ss_search_clashes.specs.Tables.{IsTable}
use Rattle.ss_search_procedure_rules.specs.Closed.{basics}
use Rattle.ss_search_procedure_rules.specs.Clashes.{FitsClasses}
use Rattle.ss_search_reached.specs.Following.{AreOneClass}
use Rattle.ss_search_reached.proofs.Names.{ok_then}
use Rattle.ss_search_reached.proofs.Kept.{all_merged, all_names}
use Rattle.ss_search_reached.proofs.Turns.{one_class}
use Rattle.ss_search_reaching.specs.Reaching.{place_of, reached_of}
use Rattle.ss_search_reaching.specs.Turns.{IfOpen, Turns, TurnFrom}
use Rattle.ss_search_reaching.proofs.Learning.{ok_both}
use Rattle.ss_search_reaching.proofs.Turning.{open_always, reclassed_state, reclassed_turns, reclassed_from, clash_turns, clash_from}
use Rattle.ss_search_reaching.proofs.reaching.Reaching.units.Goals as goal

pub units_by-requires-clause-state : goal.units_by-requires-clause-state
units_by-requires-clause-state c = reclassed_state c.args.given.now c.args.self.now c.in_ok-self.field-0 c.requires.state

pub returns-in-Fits-clause-turn : goal.returns-in-Fits-clause-turn
returns-in-Fits-clause-turn c =
    let g = c.args.given.now in
    let old = c.args.self.now in
    let new = c.units_by.new.self in
    IfOk-weaker c.units_by.result (Turns g _ new) (Turns g old new) (λ t h. reclassed_turns g old c.in_ok-self.field-0 new t h) c.units_by.ensures.turn

pub returns-in-Fits-clause-reaches : goal.returns-in-Fits-clause-reaches
returns-in-Fits-clause-reaches c =
    let g = c.args.given.now in
    let old = c.args.self.now in
    let new = c.units_by.new.self in
    IfOk-weaker c.units_by.result (TurnFrom g _ new) (TurnFrom g old new) (λ t h. reclassed_from g old c.in_ok-self.field-0 new t h) c.units_by.ensures.reaches

pub look-requires : goal.look-requires
look-requires c = subst (HasFormulas c.args.given.now.bank.now) (sym c.deref-2.ensures.value) c.requires.state.reached.has

pub close-requires-clause-known : goal.close-requires-clause-known
close-requires-clause-known c = subst (HasFormulas c.args.given.now.bank.now) (sym c.deref-in-Clashes.ensures.value) c.requires.state.reached.has

pub close-requires-clause-places : goal.close-requires-clause-places
close-requires-clause-places c =
    let s = c.requires.state in
    ap length (c.deref-in-Clashes-2.ensures.value ∙ s.places) ∙ length-map c.args.self.now.standings.items place_of ∙ s.long ∙ ap length (sym c.deref-in-Clashes.ensures.value)

pub close-requires-clause-clash : goal.close-requires-clause-clash
close-requires-clause-clash c =
    let b = c.args.given.now.bank.now in
    let made = c.in_ok-classes.classes.items in
    let found = subst (IsFound b made c.deref-2.result.now) c.in-Clashes.is c.in_ok-clash.ensures in
    record {
      classes = made;
      are = c.in_ok-classes.ensures.same;
      holds = subst (λ (fs : List FormulaId). IsClash b (class_of b made) fs c.in-Clashes.clash) (c.deref-2.ensures.value ∙ sym c.deref-in-Clashes.ensures.value) found;
    }

pub returns-in_ok-lines-in-Clashes-clause-turn : goal.returns-in_ok-lines-in-Clashes-clause-turn
returns-in_ok-lines-in-Clashes-clause-turn c = clash_turns c.args.given.now c.args.self.now c.in_ok-self.field-0 c.in_ok-lines-in-Clashes.lines c.requires.state

pub returns-in_ok-lines-in-Clashes-clause-reaches : goal.returns-in_ok-lines-in-Clashes-clause-reaches
returns-in_ok-lines-in-Clashes-clause-reaches c =
    clash_from c.args.given.now c.args.self.now c.in_ok-self.field-0 c.in_ok-lines-in-Clashes.lines c.len-count.result c.deref-in-Clashes.result.now c.deref-in-Clashes-2.result.now (c.len-count.ensures ∙ c.args.self.now.path.known.ok.0) c.deref-in-Clashes.ensures.value
    c.deref-in-Clashes-2.ensures.value c.requires.state c.in_ok-lines-in-Clashes.ensures

pub returns-in_ok-lines-in-Clashes-clause-names : goal.returns-in_ok-lines-in-Clashes-clause-names
returns-in_ok-lines-in-Clashes-clause-names c =
    let b = c.args.given.now.bank.now in
    let r = c.args.self.now.reached in
    let is = c.in_ok-self.ensures.items ∙ c.deref.ensures.value in
    subst (AreOneClass b) (sym is) (one_class b r.congruence c.in_ok-classes.classes.items c.requires.state.reached.kept.forms c.in_ok-classes.ensures.same (all_names b r.known.items r.merges.items r.congruence c.requires.state.reached.kept))

pub returns-in_ok-lines-in-Clashes-clause-classes : goal.returns-in_ok-lines-in-Clashes-clause-classes
returns-in_ok-lines-in-Clashes-clause-classes c =
    let k = c.args.self.now.reached.congruence in
    subst (λ (ns : List ℕ). AreClassesOf k.terms k.merges ns) (sym (c.in_ok-self.ensures.items ∙ c.deref.ensures.value)) c.in_ok-classes.ensures.same

pub units_by-requires-clause-table : goal.units_by-requires-clause-table
units_by-requires-clause-table c =
    let b = c.args.given.now.bank.now in
    let found = subst (IsFound b c.in_ok-classes.classes.items c.deref-2.result.now) c.in-Fits.is c.in_ok-clash.ensures in
    subst (λ (fs : List FormulaId). IsTable b fs c.in-Fits.table) c.deref-2.ensures.value found.1

pub units_by-requires-clause-classes : goal.units_by-requires-clause-classes
units_by-requires-clause-classes c =
    let b = c.args.given.now.bank.now in
    let k = c.args.self.now.reached.congruence in
    let found = subst (IsFound b c.in_ok-classes.classes.items c.deref-2.result.now) c.in-Fits.is c.in_ok-clash.ensures in
    subst (λ (ns : List ℕ). AreClassesOf k.terms k.merges ns) (sym found.0) c.in_ok-classes.ensures.same

pub returns-in-Fits-clause-names : goal.returns-in-Fits-clause-names
returns-in-Fits-clause-names c =
    let b = c.args.given.now.bank.now in
    let r = c.args.self.now.reached in
    let is = c.in_ok-self.ensures.items ∙ c.deref.ensures.value in
    let one = one_class b r.congruence c.in_ok-classes.classes.items c.requires.state.reached.kept.forms c.in_ok-classes.ensures.same (all_names b r.known.items r.merges.items r.congruence c.requires.state.reached.kept) in
    ok_then c.units_by.result (λ h. subst (AreOneClass b) (sym (h ∙ is)) one) c.units_by.ensures.classes

pub returns-in-Fits-clause-classes : goal.returns-in-Fits-clause-classes
returns-in-Fits-clause-classes c =
    let k = c.args.self.now.reached.congruence in
    let is = c.in_ok-self.ensures.items ∙ c.deref.ensures.value in
    ok_both c.units_by.result (λ same h. subst (λ (w : Equations). AreClassesOf w.terms w.merges c.units_by.new.self.reached.classes.items) (sym same)
    (subst (λ (ns : List ℕ). AreClassesOf k.terms k.merges ns) (sym (h ∙ is)) c.in_ok-classes.ensures.same)) c.units_by.ensures.congruence c.units_by.ensures.classes

pub returns-in-Fits-clause-fits : goal.returns-in-Fits-clause-fits
returns-in-Fits-clause-fits c =
    let g = c.args.given.now in
    let b = g.bank.now in
    let old = c.args.self.now in
    let r = old.reached in
    let new = c.units_by.new.self in
    let made = c.in_ok-classes.classes.items in
    let classes = c.in_ok-self.field-0.items in
    let is = c.in_ok-self.ensures.items ∙ c.deref.ensures.value in
    let found = subst (IsFound b made c.deref-2.result.now) c.in-Fits.is c.in_ok-clash.ensures in
    let none = subst (λ (fs : List FormulaId). HasNoClash b (class_of b made) fs) c.deref-2.ensures.value (subst (λ (ns : List ℕ). HasNoClash b (class_of b ns) c.deref-2.result.now) found.0 found.1.none) in
    let fits = c.what_has_no_clash_fits.ensures r.congruence.terms r.congruence.merges made r.known.items c.requires.state.reached.kept.forms c.in_ok-classes.ensures.same (all_merged b r.known.items r.merges.items r.congruence c.requires.state.reached.kept) none in
    IfOk-weaker c.units_by.result (λ t. new.reached.classes.items ≡ classes) (IfOpen (FitsClasses (class_of b new.reached.classes.items) (basics (reached_of g old))))
    (λ t h. open_always (FitsClasses (class_of b new.reached.classes.items) (basics (reached_of g old))) t (subst (λ (ns : List ℕ). FitsClasses (class_of b ns) (basics (reached_of g old))) (sym (h ∙ is)) fits))
    c.units_by.ensures.classes
