-- Facts, and more of them.
use Rattle.std.proofs.Common.{◌≡◌, ℕ, zero, suc, List, [], ◌∷◌, length, map, take, true, Some, sym, ◌∙◌, ap, subst}
use Rattle.std.specs.Prelude.{slice_get}
use Rattle.std.proofs.lemmas.List.{take_at}
use Rattle.ss_core.specs.Tree.{ClassTree}
use Rattle.ss_logic.specs.Formulas.{Formula, formula_list, formulas_from}
use Rattle.ss_terms.specs.declared.forms.FormulaId.{FormulaId}
use Rattle.ss_terms.specs.Forms.{Forms, formula_at, formulas_at}
use Rattle.ss_deriv.specs.declared.line.Line.{Line}
use Rattle.ss_deriv.specs.Lines.{lines_of}
use Rattle.ss_equality_rules.specs.declared.Merge.{Merge}
use Rattle.ss_search_procedure_rules.specs.Closed.{is_basic}
use Rattle.ss_search_reached.proofs.Lists.{list_back}
use Rattle.ss_search_clashes.specs.Closing.{Closes}
use Rattle.ss_search_clashes.specs.Said.{AreKnown}
use Rattle.ss_search_path.specs.declared.path.Path.{Path}
use Rattle.ss_search_path.specs.declared.path.Mark.{Mark}
use Rattle.ss_search_path.specs.Paths.{GoesOn, IsMark, IsBack, IsSame}
use Rattle.ss_search_clashes.specs.declared.facts.Fact.{Fact}
use Rattle.ss_search_clashes.specs.Cases.{IsAt, AreAt}
use Rattle.ss_search_path.proofs.Longer.{merges_longer}
use Rattle.ss_search_path.proofs.StandingFacts.{stays_at, longer_chosen, basic_fact}
use Rattle.ss_search_reaching.specs.declared.basic.Refuting.{Refuting}
use Rattle.ss_search_reaching.specs.Refuting.{bank_of, CloseBeside, AreShown, IsShown}

-- ---- parts by their numbers

pub map_at : {A B : Type 0} (f : A → B) (xs : List A) (i : ℕ) (x : A) → slice_get xs i ≡ Some x → slice_get (map f xs) i ≡ Some (f x)
map_at f [] i x e = cc
map_at f (y ∷ xs) zero x e = let same : y ≡ x = cc in ap (λ z. Some (f z)) same
map_at f (y ∷ xs) (suc i) x e = map_at f xs i x e

pub part_there : (b : Forms) (parts : List FormulaId) (i : ℕ) (f : FormulaId) → slice_get parts i ≡ Some f → slice_get (formula_list (formulas_from (formulas_at b parts))) i ≡ Some (formula_at b f)
part_there b parts i f at = ap (λ (gs : List Formula). slice_get gs i) (list_back (formulas_at b parts)) ∙ map_at (formula_at b) parts i f at

-- ---- more facts

module _ (cs : List ClassTree) (b : Forms) (old new : List Formula) (kept : take (length old) new ≡ old) where
  at_longer : (fact : Fact) → IsAt cs b old fact → IsAt cs b new fact
  at_longer fact h = record { at = stays_at old new kept fact.place (formula_at b fact.formula) h.at; formed = h.formed }

  pub places_longer : (known : List FormulaId) (places : List ℕ) → AreAt cs b old known places → AreAt cs b new known places
  places_longer known places h = record { each = λ i place f p q basic. at_longer (record { formula = f; place = place }) (h.each i place f p q basic) }

module _ (cs : List ClassTree) (s : Refuting) (ms : List Merge) where
  pub shown_longer : (old new : List Formula) → take (length old) new ≡ old → AreShown cs s ms old → AreShown cs s ms new
  shown_longer old new kept h = record {
    chosen = longer_chosen cs s.given old new kept h.chosen;
    at = places_longer cs (bank_of s) old new kept s.known.now s.places.now h.at;
    merges = merges_longer cs (bank_of s) old new kept ms h.merges;
  }

  pub basic_closes : (premises : List Formula) (goal : Formula) (count : ℕ) (f : FormulaId) (place from : ℕ) (facts : List Formula) (lines : List Line) → is_basic (formula_at (bank_of s) f) ≡ true → count ≡ length facts →
      CloseBeside s ms count (record { formula = f; place = place }) lines → IsShown cs s ms facts place from (formula_at (bank_of s) f) → Closes cs premises goal facts (lines_of (bank_of s) lines)
  basic_closes premises goal count f place from facts lines basic many h shown =
      let at = basic_fact cs s.given facts place from (formula_at (bank_of s) f) basic shown.fact in
      h.closes cs premises goal facts (subst (λ (n : ℕ). AreKnown cs (bank_of s) ms n facts) (sym many) shown.shown.merges) (shown.shown.at, record { at = at.0; formed = at.1 })

-- ---- paths that are taken back

module _ (m : Mark) (p q r : Path) (mark : IsMark m p) (kept : take (length p.known.items) q.known.items ≡ p.known.items) (back : IsBack m q r) where
  pub back_known : r.known.items ≡ p.known.items
  back_known = back.known ∙ ap (λ (n : ℕ). take n q.known.items) mark.known ∙ kept

  pub back_same : (cs : List ClassTree) (premises : List Formula) (goal : Formula) (b : Forms) → GoesOn cs premises goal b p q → IsSame p r
  back_same cs premises goal b g = record {
    before = back.before ∙ ap (take m.before) g.before ∙ take_at p.before.items g.added m.before (sym mark.before);
    behind = back.behind ∙ ap (take m.behind) g.behind ∙ take_at p.behind.items g.ending m.behind (sym mark.behind);
    known = back_known;
  }
