use Rattle.std.proofs.Common.{List, length, map, refl, sym, ◌∙◌, ap, subst}
use Rattle.std.proofs.lemmas.List.{length-map}
use Rattle.ss_terms.specs.declared.forms.FormulaId.{FormulaId}
use Rattle.ss_terms.specs.Forms.{HasFormulas}
use Rattle.ss_rules_occurring.specs.Found.{AreMarked, formula_number}
use Rattle.ss_search_clashes.specs.Numbered.{AreMerged}
use Rattle.ss_search_clashes.specs.Tables.{IsTable}
use Rattle.ss_search_reached.proofs.Kept.{all_merged}
use Rattle.ss_search_reaching.specs.declared.reaching.Reaching.{Reaching}
use Rattle.ss_search_reaching.specs.Reaching.{place_of}
use Rattle.ss_search_reaching.specs.Turns.{FollowOf, Turns, TurnFrom}
use Rattle.ss_search_reaching.proofs.Turning.{all_clauses, asked_state, asked_grows, asked_from}
use Rattle.ss_search_reaching.proofs.reaching.Reaching.units_by.Goals as goal

pub units-requires-clause-beside : goal.units-requires-clause-beside
units-requires-clause-beside c =
    let b = c.args.given.now.bank.now in
    let state = c.args.self.now in
    let r = state.reached in
    let h = c.requires.state in
    let v = sym c.deref.ensures.value in
    let w = sym c.deref-2.ensures.value in
    let merged = all_merged b r.known.items r.merges.items r.congruence h.reached.kept in
    record {
      looking = record {
        has = subst (HasFormulas b) v h.reached.has;
        marked = subst (λ (fs : List FormulaId). AreMarked r.numbers (map formula_number fs)) v h.reached.marked;
        forms = h.reached.kept.forms;
        merged = subst (AreMerged b r.congruence.terms r.congruence.merges) v merged;
        table = subst (λ (fs : List FormulaId). IsTable b fs c.args.table.now) v c.requires.table;
        classes = c.requires.classes;
      };
      refuting = record {
        has = subst (HasFormulas b) w h.reached.has;
        long = ap length (c.deref-3.ensures.value ∙ h.places) ∙ length-map state.standings.items place_of ∙ h.long ∙ ap length w;
        forms = h.reached.kept.forms;
        merged = subst (AreMerged b r.congruence.terms r.congruence.merges) w merged;
        table = subst (λ (fs : List FormulaId). IsTable b fs c.args.table.now) w c.requires.table;
        classes = c.requires.classes;
      };
      bank = refl;
      known = c.deref.ensures.value ∙ w;
    }

pub units-requires-clause-long : goal.units-requires-clause-long
units-requires-clause-long c = ap length c.deref-4.ensures.value ∙ c.requires.state.long ∙ ap length (sym c.deref.ensures.value)

pub returns-clause-turn : goal.returns-clause-turn
returns-clause-turn c =
    let g = c.args.given.now in
    let old = c.args.self.now in
    let new : Reaching = asked_state g old c.units.new.congruence c.units.new.path in
    all_clauses c.units.result (Turns g old new) c.units.ensures.congruence c.units.ensures.kept c.units.ensures.follows
    (λ t e kept follows. record { grows = asked_grows g old c.units.new.congruence c.units.new.path c.requires.state e kept; known = refl; follows = subst (λ (fs : List FormulaId). FollowOf g.bank.now fs t) c.deref.ensures.value follows })

pub returns-clause-reaches : goal.returns-clause-reaches
returns-clause-reaches c =
    let g = c.args.given.now in
    let old = c.args.self.now in
    let new : Reaching = asked_state g old c.units.new.congruence c.units.new.path in
    all_clauses c.units.result (TurnFrom g old new) c.units.ensures.congruence c.units.ensures.kept c.units.ensures.leads
    (λ t e kept leads. asked_from g old c.units.new.congruence c.units.new.path _ c.deref-4.result.now t refl c.deref-2.ensures.value c.deref-3.ensures.value c.deref-4.ensures.value c.requires.state e kept leads)
