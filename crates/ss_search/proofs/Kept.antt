-- What lines that derive a goal stand for stays, as the bank grows.
use Rattle.std.proofs.Common.{◌≡◌, ◌*◌, List, [], ◌∷◌, length, Bool, true, false, Option, Some, None, refl, sym, ◌∙◌, ap, nat_lt, option_and_then}
use Rattle.std.specs.Prelude.{◌&&◌, if◌then◌else◌}
use Rattle.std.proofs.lemmas.Bool.{lt-ltb}
use Rattle.ss_core.specs.Tree.{ClassTree}
use Rattle.ss_logic.specs.Formulas.{Formula}
use Rattle.ss_logic_means.specs.Steps.{State, Open, Between, step, run, Derives, Nowhere}
use Rattle.ss_logic_means.specs.Steps as tree
use Rattle.ss_terms.specs.declared.forms.TermId.{TermId}
use Rattle.ss_terms.specs.Forms.{Forms, HasTerms, IsGrown}
use Rattle.ss_deriv.specs.declared.line.Line.{Line}
use Rattle.ss_deriv.specs.declared.line.Line.TheVariants.{Premise, Denied, Part, Split, Cut, Inst, Choose, Rule, Good, Invariants, Chain, Cong, Swap, Sum, Clash, Case}
use Rattle.ss_deriv.specs.Lines.{all_below, is_within, line_in, line_of, lines_of}
use Rattle.ss_check.specs.Within.{LineWithin}
use Rattle.ss_check.proofs.Runs.{line_in-grown, LineWithin-grown, LineWithin-tested}

-- ---- what a bank has is below its counts

both : (x y : Bool) → x ≡ true → y ≡ true → (x && y) ≡ true
both x y p q = rw (p, q) refl

all_below-has : (b : Forms) (ts : List TermId) → HasTerms b ts → all_below (length b.terms) ts ≡ true
all_below-has b [] h = refl
all_below-has b (t ∷ ts) h = both (nat_lt t.0 (length b.terms)) (all_below (length b.terms) ts) (lt-ltb _ _ h.0) (all_below-has b ts h.1)

tested-LineWithin : (b : Forms) (line : Line) → LineWithin b line → is_within (length b.terms) (length b.formulas * 2) line ≡ true
tested-LineWithin b (Premise i) h = refl
tested-LineWithin b Denied h = refl
tested-LineWithin b (Part i j) h = refl
tested-LineWithin b (Split i k) h = refl
tested-LineWithin b (Cut f) h = lt-ltb _ _ h
tested-LineWithin b (Inst i ts) h = all_below-has b ts.items h
tested-LineWithin b (Choose f ts) h = both (nat_lt f.0 (length b.formulas * 2)) (all_below (length b.terms) ts.items) (lt-ltb _ _ h.0) (all_below-has b ts.items h.1)
tested-LineWithin b (Good name i ts) h = all_below-has b ts.items h
tested-LineWithin b (Invariants i ts) h = all_below-has b ts.items h
tested-LineWithin b (Chain x y path) h = both (nat_lt x.0 (length b.terms)) (nat_lt y.0 (length b.terms)) (lt-ltb _ _ h.0) (lt-ltb _ _ h.1)
tested-LineWithin b (Cong x y path) h = both (nat_lt x.0 (length b.terms)) (nat_lt y.0 (length b.terms)) (lt-ltb _ _ h.0) (lt-ltb _ _ h.1)
tested-LineWithin b (Swap i f js) h = lt-ltb _ _ h
tested-LineWithin b (Rule name ts) h = all_below-has b ts.items h
tested-LineWithin b (Sum s) h = refl
tested-LineWithin b (Clash i j) h = refl
tested-LineWithin b Case h = refl

-- ---- a line that is a step

-- a line that is nowhere is no step
nowhere : (cs : List ClassTree) (premises : List Formula) (goal : Formula) (state : State) → step cs premises goal state Nowhere ≡ None
nowhere cs premises goal (Open known waiting) = refl
nowhere cs premises goal (Between []) = refl
nowhere cs premises goal (Between (c ∷ waiting)) = refl

chosen : (x y : tree.Line) (t : Bool) → t ≡ true → (if t then x else y) ≡ x
chosen x y t e = rw e refl

other : (x y : tree.Line) (t : Bool) → t ≡ false → (if t then x else y) ≡ y
other x y t e = rw e refl

module _ (cs : List ClassTree) (premises : List Formula) (goal : Formula) where
  is_step : (b : Forms) (line : Line) (state next : State) → step cs premises goal state (line_of b line) ≡ Some next → is_within (length b.terms) (length b.formulas * 2) line ≡ true
  is_step b line state next e = by_test (is_within (length b.terms) (length b.formulas * 2) line) refl
    where
      by_test : (t : Bool) → is_within (length b.terms) (length b.formulas * 2) line ≡ t → is_within (length b.terms) (length b.formulas * 2) line ≡ true
      by_test true h = h
      by_test false h =
          let here : line_of b line ≡ Nowhere = other (line_in b line) Nowhere (is_within (length b.terms) (length b.formulas * 2) line) h in
          let none : step cs premises goal state (line_of b line) ≡ None = ap (step cs premises goal state) here ∙ nowhere cs premises goal state in
          absurd (cc)

  module _ (a b : Forms) (g : IsGrown a b) where
    line_kept : (line : Line) → is_within (length a.terms) (length a.formulas * 2) line ≡ true → line_of b line ≡ line_of a line
    line_kept line h =
        let has : LineWithin a line = LineWithin-tested a line h in
        let later = tested-LineWithin b line (LineWithin-grown a b g line has) in
        chosen (line_in b line) Nowhere (is_within (length b.terms) (length b.formulas * 2) line) later ∙ line_in-grown a b g line has ∙ sym (chosen (line_in a line) Nowhere (is_within (length a.terms) (length a.formulas * 2) line) h)

    run_kept : (lines : List Line) (state end : State) → run cs premises goal state (lines_of a lines) ≡ Some end → lines_of b lines ≡ lines_of a lines
    run_kept [] state end e = refl
    run_kept (line ∷ lines) state end e = by_step (step cs premises goal state (line_of a line)) refl e (λ next r. run_kept lines next end r)
      where
        by_step : (o : Option State) → step cs premises goal state (line_of a line) ≡ o → option_and_then (λ next. run cs premises goal next (lines_of a lines)) o ≡ Some end
            → ((next : State) → run cs premises goal next (lines_of a lines) ≡ Some end → lines_of b lines ≡ lines_of a lines) → lines_of b (line ∷ lines) ≡ lines_of a (line ∷ lines)
        by_step None h r later = absurd (cc)
        by_step (Some next) h r later = let first = line_kept line (is_step a line state next h) in let others = later next r in cc

    -- lines that derive the goal stand for the same in a bank that has grown
    pub lines_kept : (lines : List Line) → Derives cs premises goal (lines_of a lines) → lines_of b lines ≡ lines_of a lines
    lines_kept lines h = run_kept lines (Open [] []) (Between []) h
