use Rattle.std.proofs.Common.{◌≡◌, ℕ, List, length, take, get_or, Some, None, refl, sym, ◌∙◌, ap, subst, Vec, Global, arith}
use Rattle.std.specs.Prelude.{IfSome}
use Rattle.std.proofs.lemmas.Option.{IfSome_then, MatchOption-at_some, slice_get-get_or, get_or_from_slice_get}
use Rattle.std.proofs.lemmas.Result.{IfOk-weaker}
use Rattle.ss_logic.specs.Formulas.{Formula, formulas_from}
use Rattle.ss_terms.specs.declared.forms.FormulaId.{FormulaId}
use Rattle.ss_terms.specs.Forms.{formula_at, formulas_at}
use Rattle.ss_terms.proofs.Tested.{AreBelow-get}
use Rattle.ss_deriv.specs.declared.line.Line.{Line}
use Rattle.ss_equality_rules.specs.declared.Merge.{Merge}
use Rattle.ss_equality_rules.specs.Equal.{Equations}
use Rattle.ss_search_procedure_rules.specs.Closed.{is_basic, basics, AllMayHold, SomeMayHold}
use Rattle.ss_logic.proofs.Lists.{contains_none}
use Rattle.ss_search_reached.proofs.Lists.{one_more, all_of_them}
use Rattle.ss_search_reached.proofs.Fronts.{front_itself}
use Rattle.ss_search_reached.proofs.Holding.{all_hold, some_holds, and_holds, or_holds}
use Rattle.ss_search_reached.proofs.Names.{ok_then, ok_any}
use Rattle.ss_search_path.specs.Paths.{known_on}
use Rattle.ss_search_path.specs.Standing.{IsFact}
use Rattle.ss_search_reaching.specs.Refuting.{bank_of, known_beside, IsRefuting, IsHolding, and_of, or_of, GoesOnFrom, StaysFrom, ClosesFrom, ClosesPart, AreCasesFrom}
use Rattle.ss_search_reaching.proofs.Shown.{back_known}
use Rattle.ss_search_reaching.proofs.Parts.{OpensPart, OpensCase, part_kept, part_closes, part_goes_on, part_stays, stays_on, stays_there, stays_still, goes_on_still, closes_still, case_closes, case_back, case_stays, no_cases, next_case, cases_close}
use Rattle.ss_search_reaching.proofs.basic.Refuting.+closing.Goals as goal

-- ---- a formula

pub known-basic_fact-requires-clause-basic : goal.known-basic_fact-requires-clause-basic
known-basic_fact-requires-clause-basic t c = ap is_basic (rw c.in-Literal.is at c.formula_node.ensures).built

pub known-basic_fact-requires-in-Forall-clause-basic : goal.known-basic_fact-requires-in-Forall-clause-basic
known-basic_fact-requires-in-Forall-clause-basic t c = ap is_basic (rw c.in-Forall.is at c.formula_node.ensures).built

pub known-basic_fact-requires-in-Exists-clause-basic : goal.known-basic_fact-requires-in-Exists-clause-basic
known-basic_fact-requires-in-Exists-clause-basic t c = ap is_basic (rw c.in-Exists.is at c.formula_node.ensures).built

pub known-returns-in-Literal-clause-kept : goal.known-returns-in-Literal-clause-kept
known-returns-in-Literal-clause-kept t c = ok_any c.basic_fact.result (front_itself c.args.path.now.known.items)

pub known-returns-in-Literal-clause-goes_on : goal.known-returns-in-Literal-clause-goes_on
known-returns-in-Literal-clause-goes_on t c =
    let s = c.args.self.now in
    let p = c.args.path.now in
    let f = formula_at (bank_of s) c.args.f in
    let ms = c.args.congruence.now.merges in
    ok_any c.basic_fact.result (stays_on s ms p p c.args.place c.args.from f (stays_there s ms p c.args.place c.args.from f))

pub known-returns-in-Literal-clause-closes : goal.known-returns-in-Literal-clause-closes
known-returns-in-Literal-clause-closes t c =
    let s = c.args.self.now in
    let p = c.args.path.now in
    IfOk-weaker c.basic_fact.result (λ o. IfSome o (λ v. (from : ℕ) → ClosesFrom s c.args.congruence.now.merges p c.args.place from (formula_at (bank_of s) c.args.f) p v.items)) (λ o. IfSome o (λ v. ClosesFrom s c.args.congruence.now.merges p c.args.place c.args.from (formula_at (bank_of s) c.args.f) p v.items))
    (λ o h. IfSome_then o h (λ v k. k c.args.from))
    c.basic_fact.ensures.closes

pub known-returns-in-Forall-clause-kept : goal.known-returns-in-Forall-clause-kept
known-returns-in-Forall-clause-kept t c = ok_any c.basic_fact-in-Forall.result (front_itself c.args.path.now.known.items)

pub known-returns-in-Forall-clause-goes_on : goal.known-returns-in-Forall-clause-goes_on
known-returns-in-Forall-clause-goes_on t c =
    let s = c.args.self.now in
    let p = c.args.path.now in
    let f = formula_at (bank_of s) c.args.f in
    let ms = c.args.congruence.now.merges in
    ok_any c.basic_fact-in-Forall.result (stays_on s ms p p c.args.place c.args.from f (stays_there s ms p c.args.place c.args.from f))

pub known-returns-in-Forall-clause-closes : goal.known-returns-in-Forall-clause-closes
known-returns-in-Forall-clause-closes t c =
    let s = c.args.self.now in
    let p = c.args.path.now in
    IfOk-weaker c.basic_fact-in-Forall.result (λ o. IfSome o (λ v. (from : ℕ) → ClosesFrom s c.args.congruence.now.merges p c.args.place from (formula_at (bank_of s) c.args.f) p v.items)) (λ o. IfSome o (λ v. ClosesFrom s c.args.congruence.now.merges p c.args.place c.args.from (formula_at (bank_of s) c.args.f) p v.items))
    (λ o h. IfSome_then o h (λ v k. k c.args.from))
    c.basic_fact-in-Forall.ensures.closes

pub known-returns-in-Exists-clause-kept : goal.known-returns-in-Exists-clause-kept
known-returns-in-Exists-clause-kept t c = ok_any c.basic_fact-in-Exists.result (front_itself c.args.path.now.known.items)

pub known-returns-in-Exists-clause-goes_on : goal.known-returns-in-Exists-clause-goes_on
known-returns-in-Exists-clause-goes_on t c =
    let s = c.args.self.now in
    let p = c.args.path.now in
    let f = formula_at (bank_of s) c.args.f in
    let ms = c.args.congruence.now.merges in
    ok_any c.basic_fact-in-Exists.result (stays_on s ms p p c.args.place c.args.from f (stays_there s ms p c.args.place c.args.from f))

pub known-returns-in-Exists-clause-closes : goal.known-returns-in-Exists-clause-closes
known-returns-in-Exists-clause-closes t c =
    let s = c.args.self.now in
    let p = c.args.path.now in
    IfOk-weaker c.basic_fact-in-Exists.result (λ o. IfSome o (λ v. (from : ℕ) → ClosesFrom s c.args.congruence.now.merges p c.args.place from (formula_at (bank_of s) c.args.f) p v.items)) (λ o. IfSome o (λ v. ClosesFrom s c.args.congruence.now.merges p c.args.place c.args.from (formula_at (bank_of s) c.args.f) p v.items))
    (λ o h. IfSome_then o h (λ v k. k c.args.from))
    c.basic_fact-in-Exists.ensures.closes

pub known-returns-in-And-clause-none : goal.known-returns-in-And-clause-none
known-returns-in-And-clause-none t c =
    let s = c.args.self.now in
    let b = bank_of s in
    let fs = c.deref.result.now in
    let is = (rw c.in-And.is at c.formula_node.ensures).built ∙ ap (and_of b) (sym c.deref.ensures.value) in
    IfOk-weaker c.some_part.result (λ o. o ≡ None → AllMayHold (basics (known_beside s)) (formulas_from (formulas_at b fs))) (λ o. o ≡ None → IsHolding s c.args.f) (λ o h e. and_holds b (basics (known_beside s)) c.args.f fs is (h e)) c.some_part.ensures.none

pub known-returns-in-And-clause-goes_on : goal.known-returns-in-And-clause-goes_on
known-returns-in-And-clause-goes_on t c =
    let s = c.args.self.now in
    let b = bank_of s in
    let is = (rw c.in-And.is at c.formula_node.ensures).built ∙ ap (and_of b) (sym c.deref.ensures.value) in
    ok_then c.some_part.result (λ h. subst (λ (g : Formula). GoesOnFrom s c.args.congruence.now.merges c.args.path.now c.args.place c.args.from g c.some_part.new.path) (sym is) h) c.some_part.ensures.goes_on

pub known-returns-in-And-clause-closes : goal.known-returns-in-And-clause-closes
known-returns-in-And-clause-closes t c =
    let s = c.args.self.now in
    let b = bank_of s in
    let ms = c.args.congruence.now.merges in
    let old = c.args.path.now in
    let new = c.some_part.new.path in
    let is = (rw c.in-And.is at c.formula_node.ensures).built ∙ ap (and_of b) (sym c.deref.ensures.value) in
    IfOk-weaker c.some_part.result (λ o. IfSome o (λ v. ClosesFrom s ms old c.args.place c.args.from (and_of b c.deref.result.now) new v.items)) (λ o. IfSome o (λ v. ClosesFrom s ms old c.args.place c.args.from (formula_at b c.args.f) new v.items))
    (λ o h. IfSome_then o h (λ v k. subst (λ (g : Formula). ClosesFrom s ms old c.args.place c.args.from g new v.items) (sym is) k))
    c.some_part.ensures.closes

pub known-returns-in-Or-clause-none : goal.known-returns-in-Or-clause-none
known-returns-in-Or-clause-none t c =
    let s = c.args.self.now in
    let b = bank_of s in
    let fs = c.deref-in-Or.result.now in
    let is = (rw c.in-Or.is at c.formula_node.ensures).built ∙ ap (or_of b) (sym c.deref-in-Or.ensures.value) in
    IfOk-weaker c.all_parts.result (λ o. o ≡ None → SomeMayHold (basics (known_beside s)) (formulas_from (formulas_at b fs))) (λ o. o ≡ None → IsHolding s c.args.f) (λ o h e. or_holds b (basics (known_beside s)) c.args.f fs is (h e)) c.all_parts.ensures.none

pub known-returns-in-Or-clause-goes_on : goal.known-returns-in-Or-clause-goes_on
known-returns-in-Or-clause-goes_on t c =
    let s = c.args.self.now in
    let b = bank_of s in
    let is = (rw c.in-Or.is at c.formula_node.ensures).built ∙ ap (or_of b) (sym c.deref-in-Or.ensures.value) in
    ok_then c.all_parts.result (λ h. subst (λ (g : Formula). GoesOnFrom s c.args.congruence.now.merges c.args.path.now c.args.place c.args.from g c.all_parts.new.path) (sym is) h) c.all_parts.ensures.goes_on

pub known-returns-in-Or-clause-closes : goal.known-returns-in-Or-clause-closes
known-returns-in-Or-clause-closes t c =
    let s = c.args.self.now in
    let b = bank_of s in
    let ms = c.args.congruence.now.merges in
    let old = c.args.path.now in
    let new = c.all_parts.new.path in
    let is = (rw c.in-Or.is at c.formula_node.ensures).built ∙ ap (or_of b) (sym c.deref-in-Or.ensures.value) in
    IfOk-weaker c.all_parts.result (λ o. IfSome o (λ v. ClosesFrom s ms old c.args.place c.args.from (or_of b c.deref-in-Or.result.now) new v.items)) (λ o. IfSome o (λ v. ClosesFrom s ms old c.args.place c.args.from (formula_at b c.args.f) new v.items))
    (λ o h. IfSome_then o h (λ v k. subst (λ (g : Formula). ClosesFrom s ms old c.args.place c.args.from g new v.items) (sym is) k))
    c.all_parts.ensures.closes

-- ---- parts of an `and`

some_none : {A : Type 0} (x : A) → Some x ≡ None → ⊥
some_none x e = cc

same_kept : (xs ys : List FormulaId) → ys ≡ xs → take (length xs) ys ≡ xs
same_kept xs ys e = ap (take (length xs)) e ∙ front_itself xs

pub one_part-known-requires : goal.one_part-known-requires
one_part-known-requires t c =
    let small = AreBelow-get c.args.whole.now.bound c.args.whole.now.parts.now c.args.part (record { 0 = 0 }) c.requires.below c.requires.part in
    let room = c.requires.in_bank in
    let d = c.decreases in
    (omega arith, (c.requires.refuting, (c.requires.given, omega arith)))

pub one_part-returns-in-Some : goal.one_part-returns-in-Some
one_part-returns-in-Some t c =
    let s = c.args.self.now in
    let ms = c.args.congruence.now.merges in
    let old = c.args.path.now in
    let opened = c.part.new.path in
    let new = c.known.new.path in
    let ps = c.args.whole.now.parts.now in
    let d : FormulaId = record { 0 = 0 } in
    let f = get_or ps c.args.part d in
    let f_at = slice_get-get_or ps c.args.part d c.requires.part in
    let e = c.in_ok-lines.ensures in
    let o : OpensPart s old opened c.args.whole.now.place c.args.whole.now.from c.in_ok-at.at c.in_ok-at.opened c.args.part = record { kept = c.in_ok-at.ensures.kept; goes_on = c.in_ok-at.ensures.goes_on; opened_is = c.in_ok-at.ensures.opened } in
    record {
      congruence = e.congruence;
      kept = part_kept s ms old opened c.args.whole.now.place c.args.whole.now.from c.in_ok-at.at c.in_ok-at.opened c.args.part o ps f f_at new e.kept;
      none = λ n. absurd (some_none c.in-Some.lines n);
      known = λ n. absurd (some_none c.in-Some.lines n);
      stays = λ n. absurd (some_none c.in-Some.lines n);
      goes_on = part_goes_on s ms old opened c.args.whole.now.place c.args.whole.now.from c.in_ok-at.at c.in_ok-at.opened c.args.part o ps f f_at new e.kept e.goes_on;
      closes = part_closes s ms old opened c.args.whole.now.place c.args.whole.now.from c.in_ok-at.at c.in_ok-at.opened c.args.part o ps f f_at new e.kept c.in-Some.lines.items
          (MatchOption-at_some (Unit {0}) (λ (v : Vec Line Global). ClosesFrom s ms opened c.in_ok-at.at c.in_ok-at.opened (formula_at (bank_of s) f) new v.items) c.in-Some.lines c.in-Some.is e.closes);
    }

pub one_part-returns-in-None : goal.one_part-returns-in-None
one_part-returns-in-None t c =
    let s = c.args.self.now in
    let ms = c.args.congruence.now.merges in
    let old = c.args.path.now in
    let opened = c.part.new.path in
    let new = c.known.new.path in
    let last = c.undo.new.self in
    let ps = c.args.whole.now.parts.now in
    let d : FormulaId = record { 0 = 0 } in
    let f = get_or ps c.args.part d in
    let f_at = slice_get-get_or ps c.args.part d c.requires.part in
    let e = c.in_ok-lines.ensures in
    let o : OpensPart s old opened c.args.whole.now.place c.args.whole.now.from c.in_ok-at.at c.in_ok-at.opened c.args.part = record { kept = c.in_ok-at.ensures.kept; goes_on = c.in_ok-at.ensures.goes_on; opened_is = c.in_ok-at.ensures.opened } in
    let kept = part_kept s ms old opened c.args.whole.now.place c.args.whole.now.from c.in_ok-at.at c.in_ok-at.opened c.args.part o ps f f_at new e.kept in
    let known = back_known c.mark-mark.result old new last c.mark-mark.ensures kept c.undo.ensures in
    let stays = part_stays s ms old opened c.args.whole.now.place c.args.whole.now.from c.in_ok-at.at c.in_ok-at.opened c.args.part o ps f f_at new e.kept e.goes_on c.mark-mark.result c.mark-mark.ensures last c.undo.ensures in
    record {
      congruence = e.congruence;
      kept = same_kept old.known.items last.known.items known;
      none = λ n g at. subst (IsHolding s) (get_or_from_slice_get ps c.args.part g d at) (e.none c.in-None.is);
      known = λ n. known;
      stays = λ n. stays;
      goes_on = stays_on s ms old last c.args.whole.now.place c.args.whole.now.from (and_of (bank_of s) ps) stays;
      closes = tt;
    }

pub some_part-loop-part-init : goal.some_part-loop-part-init
some_part-loop-part-init t c = record {
  congruence = refl;
  known = refl;
  stays = stays_there c.args.self.now c.args.congruence.now.merges c.args.path.now c.args.whole.now.place c.args.whole.now.from (and_of (bank_of c.args.self.now) c.args.whole.now.parts.now);
  hold = λ f k. absurd (contains_none f k);
}

pub some_part-one_part-requires : goal.some_part-one_part-requires
some_part-one_part-requires t c =
    let d = c.decreases in
    (omega arith, (subst (IsRefuting c.args.self.now) (sym c.loop-part.invariant.congruence) c.requires.refuting, (c.requires.given, (c.requires.below, (c.requires.in_bank, c.loop-part-test.true)))))

pub some_part-returns-in-Some : goal.some_part-returns-in-Some
some_part-returns-in-Some t c =
    let s = c.args.self.now in
    let ms = c.args.congruence.now.merges in
    let old = c.args.path.now in
    let now = c.loop-part.path in
    let new = c.one_part.new.path in
    let whole = and_of (bank_of s) c.args.whole.now.parts.now in
    let i = c.loop-part.invariant in
    let e = c.in_ok-lines.ensures in
    let same = ap (λ (k : Equations). k.merges) i.congruence in
    record {
      congruence = e.congruence ∙ i.congruence;
      kept = ap (λ (xs : List FormulaId). take (length xs) new.known.items) (sym i.known) ∙ e.kept ∙ i.known;
      none = λ n. absurd (some_none c.in-Some.lines n);
      goes_on = goes_on_still s ms old now new c.args.whole.now.place c.args.whole.now.from whole i.known i.stays (subst (λ (ks : List Merge). GoesOnFrom s ks now c.args.whole.now.place c.args.whole.now.from whole new) same e.goes_on);
      closes = closes_still s ms old now new c.args.whole.now.place c.args.whole.now.from whole c.in-Some.lines.items i.known
          (subst (λ (ks : List Merge). ClosesFrom s ks now c.args.whole.now.place c.args.whole.now.from whole new c.in-Some.lines.items) same
          (MatchOption-at_some (Unit {0}) (λ (v : Vec Line Global). ClosesFrom s c.loop-part.congruence.merges now c.args.whole.now.place c.args.whole.now.from whole new v.items) c.in-Some.lines c.in-Some.is e.closes));
    }

pub some_part-loop-part-preserved : goal.some_part-loop-part-preserved
some_part-loop-part-preserved t c =
    let s = c.args.self.now in
    let ms = c.args.congruence.now.merges in
    let old = c.args.path.now in
    let now = c.loop-part.path in
    let new = c.one_part.new.path in
    let ps = c.args.whole.now.parts.now in
    let d : FormulaId = record { 0 = 0 } in
    let whole = and_of (bank_of s) ps in
    let i = c.loop-part.invariant in
    let e = c.in_ok-lines.ensures in
    let same = ap (λ (k : Equations). k.merges) i.congruence in
    record {
      congruence = e.congruence ∙ i.congruence;
      known = e.known c.in_default.is ∙ i.known;
      stays = stays_still s ms old now new c.args.whole.now.place c.args.whole.now.from whole i.known i.stays (subst (λ (ks : List Merge). StaysFrom s ks now c.args.whole.now.place c.args.whole.now.from whole new) same (e.stays c.in_default.is));
      hold = one_more (IsHolding s) ps c.loop-part.part d c.loop-part-test.true i.hold (e.none c.in_default.is (get_or ps c.loop-part.part d) (slice_get-get_or ps c.loop-part.part d c.loop-part-test.true));
    }

pub some_part-returns : goal.some_part-returns
some_part-returns t c =
    let s = c.args.self.now in
    let ms = c.args.congruence.now.merges in
    let old = c.args.path.now in
    let new = c.loop-part.path in
    let ps = c.args.whole.now.parts.now in
    let i = c.loop-part.invariant in
    record {
      congruence = i.congruence;
      kept = same_kept old.known.items new.known.items i.known;
      none = λ n. all_hold (bank_of s) (basics (known_beside s)) ps (all_of_them (IsHolding s) ps c.loop-part.part c.loop-part-test.false i.hold);
      goes_on = stays_on s ms old new c.args.whole.now.place c.args.whole.now.from (and_of (bank_of s) ps) i.stays;
      closes = tt;
    }

-- ---- cases of an `or`

pub case-known-requires : goal.case-known-requires
case-known-requires t c =
    let small = AreBelow-get c.args.whole.now.bound c.args.whole.now.parts.now c.args.part (record { 0 = 0 }) c.requires.below c.requires.part in
    let room = c.requires.in_bank in
    let d = c.decreases in
    (omega arith, (c.requires.refuting, (c.requires.given, omega arith)))

pub case-returns-in_ok-lines-in-Some : goal.case-returns-in_ok-lines-in-Some
case-returns-in_ok-lines-in-Some t c =
    let s = c.args.self.now in
    let ms = c.args.congruence.now.merges in
    let m = c.in_ok-mark.mark in
    let old = c.args.path.now in
    let begun = c.assume.new.self in
    let opened = c.open.new.path in
    let new = c.known.new.path in
    let last = c.cut_out.new.self in
    let ps = c.args.whole.now.parts.now in
    let d : FormulaId = record { 0 = 0 } in
    let f = get_or ps c.args.part d in
    let f_at = slice_get-get_or ps c.args.part d c.requires.part in
    let g = c.part_at-f.result in
    let e = c.in_ok-closing.ensures in
    let o : OpensCase s m old begun opened c.args.whole.now.place c.args.whole.now.from c.in_ok-at.at c.in_ok-at.opened c.args.part g = record {
      part_is = c.part_at-f.ensures;
      mark = c.in_ok-mark.ensures.mark;
      begun_is = c.in_ok-mark.ensures.begun;
      kept = c.in_ok-at.ensures.kept;
      goes_on = c.in_ok-at.ensures.goes_on;
      opened_is = λ cs h chosen fact. c.in_ok-at.ensures.opened cs h chosen (subst (λ (n : ℕ). IsFact cs s.given (known_on (bank_of s) begun) n c.args.whole.now.from h) (sym (c.len-last.ensures ∙ old.known.ok.0)) fact);
    } in
    record {
      congruence = e.congruence;
      known = case_back s ms m old begun opened c.args.whole.now.place c.args.whole.now.from c.in_ok-at.at c.in_ok-at.opened c.args.part g o ps f f_at new e.kept e.goes_on last c.in_ok-lines-in-Some.ensures.back;
      none = λ n. absurd (some_none c.in_ok-lines-in-Some.lines n);
      stays = case_stays s ms m old begun opened c.args.whole.now.place c.args.whole.now.from c.in_ok-at.at c.in_ok-at.opened c.args.part g o ps f f_at new e.kept e.goes_on last c.in_ok-lines-in-Some.ensures.back;
      closes = case_closes s ms m old begun opened c.args.whole.now.place c.args.whole.now.from c.in_ok-at.at c.in_ok-at.opened c.args.part g o ps f f_at new e.kept e.goes_on c.in-Some.closing.items c.in_ok-lines-in-Some.lines.items
          (MatchOption-at_some (Unit {0}) (λ (v : Vec Line Global). ClosesFrom s ms opened c.in_ok-at.at c.in_ok-at.opened (formula_at (bank_of s) f) new v.items) c.in-Some.closing c.in-Some.is e.closes)
          c.in_ok-lines-in-Some.ensures.closes;
    }

pub case-returns-in-None : goal.case-returns-in-None
case-returns-in-None t c =
    let s = c.args.self.now in
    let ms = c.args.congruence.now.merges in
    let m = c.in_ok-mark.mark in
    let old = c.args.path.now in
    let begun = c.assume.new.self in
    let opened = c.open.new.path in
    let new = c.known.new.path in
    let last = c.undo.new.self in
    let ps = c.args.whole.now.parts.now in
    let d : FormulaId = record { 0 = 0 } in
    let f = get_or ps c.args.part d in
    let f_at = slice_get-get_or ps c.args.part d c.requires.part in
    let g = c.part_at-f.result in
    let e = c.in_ok-closing.ensures in
    let o : OpensCase s m old begun opened c.args.whole.now.place c.args.whole.now.from c.in_ok-at.at c.in_ok-at.opened c.args.part g = record {
      part_is = c.part_at-f.ensures;
      mark = c.in_ok-mark.ensures.mark;
      begun_is = c.in_ok-mark.ensures.begun;
      kept = c.in_ok-at.ensures.kept;
      goes_on = c.in_ok-at.ensures.goes_on;
      opened_is = λ cs h chosen fact. c.in_ok-at.ensures.opened cs h chosen (subst (λ (n : ℕ). IsFact cs s.given (known_on (bank_of s) begun) n c.args.whole.now.from h) (sym (c.len-last.ensures ∙ old.known.ok.0)) fact);
    } in
    record {
      congruence = e.congruence;
      known = case_back s ms m old begun opened c.args.whole.now.place c.args.whole.now.from c.in_ok-at.at c.in_ok-at.opened c.args.part g o ps f f_at new e.kept e.goes_on last c.undo.ensures;
      none = λ n h at. subst (IsHolding s) (get_or_from_slice_get ps c.args.part h d at) (e.none c.in-None.is);
      stays = case_stays s ms m old begun opened c.args.whole.now.place c.args.whole.now.from c.in_ok-at.at c.in_ok-at.opened c.args.part g o ps f f_at new e.kept e.goes_on last c.undo.ensures;
      closes = tt;
    }

pub cases-loop-part-init : goal.cases-loop-part-init
cases-loop-part-init t c =
    let s = c.args.self.now in
    let ms = c.args.congruence.now.merges in
    record {
      congruence = refl;
      known = refl;
      stays = stays_there s ms c.args.path.now c.args.whole.now.place c.args.whole.now.from (or_of (bank_of s) c.args.whole.now.parts.now);
      cases = no_cases s ms c.args.path.now c.args.whole.now.place c.args.whole.now.from c.args.whole.now.parts.now c.args.start c.new-lines.result.items c.new-lines.ensures.items;
    }

pub cases-case-requires : goal.cases-case-requires
cases-case-requires t c =
    let d = c.decreases in
    let within = c.requires.end in
    let test = c.loop-part-test.true in
    (omega arith, (subst (IsRefuting c.args.self.now) (sym c.loop-part.invariant.congruence) c.requires.refuting, (c.requires.given, (c.requires.below, (c.requires.in_bank, omega arith)))))

pub cases-returns-in_default : goal.cases-returns-in_default
cases-returns-in_default t c =
    let s = c.args.self.now in
    let ms = c.args.congruence.now.merges in
    let old = c.args.path.now in
    let now = c.loop-part.path in
    let new = c.case.new.path in
    let whole = or_of (bank_of s) c.args.whole.now.parts.now in
    let i = c.loop-part.invariant in
    let e = c.in_ok-closing.ensures in
    let same = ap (λ (k : Equations). k.merges) i.congruence in
    let test = c.loop-part-test.true in
    record {
      congruence = e.congruence ∙ i.congruence;
      known = e.known ∙ i.known;
      later = c.loop-part.auto.part;
      within = omega (arith, test);
      holds = λ less f at. e.none c.in_default.is f at;
      stays = stays_still s ms old now new c.args.whole.now.place c.args.whole.now.from whole i.known i.stays (subst (λ (ks : List Merge). StaysFrom s ks now c.args.whole.now.place c.args.whole.now.from whole new) same e.stays);
      cases = i.cases;
    }

pub cases-loop-part-preserved : goal.cases-loop-part-preserved
cases-loop-part-preserved t c =
    let s = c.args.self.now in
    let ms = c.args.congruence.now.merges in
    let old = c.args.path.now in
    let now = c.loop-part.path in
    let new = c.case.new.path in
    let ps = c.args.whole.now.parts.now in
    let whole = or_of (bank_of s) ps in
    let i = c.loop-part.invariant in
    let e = c.in_ok-closing.ensures in
    let same = ap (λ (k : Equations). k.merges) i.congruence in
    let within = c.requires.end in
    let test = c.loop-part-test.true in
    record {
      congruence = e.congruence ∙ i.congruence;
      known = e.known ∙ i.known;
      stays = stays_still s ms old now new c.args.whole.now.place c.args.whole.now.from whole i.known i.stays (subst (λ (ks : List Merge). StaysFrom s ks now c.args.whole.now.place c.args.whole.now.from whole new) same e.stays);
      cases = next_case s ms old c.args.whole.now.place c.args.whole.now.from ps now c.args.start c.loop-part.part c.loop-part.lines.items c.in-Some.closing.items c.add_case.new.cases.items i.known c.loop-part.auto.part (omega (arith, within, test)) i.cases
          (subst (λ (ks : List Merge). ClosesPart s ks now c.args.whole.now.place c.args.whole.now.from whole c.loop-part.part c.in-Some.closing.items) same
          (MatchOption-at_some (Unit {0}) (λ (v : Vec Line Global). ClosesPart s c.loop-part.congruence.merges now c.args.whole.now.place c.args.whole.now.from whole c.loop-part.part v.items) c.in-Some.closing c.in-Some.is e.closes))
          c.in_ok-add_case.ensures;
    }

pub cases-returns : goal.cases-returns
cases-returns t c =
    let s = c.args.self.now in
    let ms = c.args.congruence.now.merges in
    let ps = c.args.whole.now.parts.now in
    let i = c.loop-part.invariant in
    let all : c.loop-part.part ≡ c.args.end = omega (arith, c.loop-part-test.false, c.loop-part.auto.part-end c.requires.start) in
    record {
      congruence = i.congruence;
      known = i.known;
      later = c.requires.start;
      within = omega arith;
      holds = λ less f at. absurd (omega (arith, less));
      stays = i.stays;
      cases = subst (λ (n : ℕ). AreCasesFrom s ms c.args.path.now c.args.whole.now.place c.args.whole.now.from (or_of (bank_of s) ps) c.args.start n c.loop-part.lines.items) all i.cases;
    }

pub all_parts-cases-requires : goal.all_parts-cases-requires
all_parts-cases-requires t c =
    let d = c.decreases in
    (omega arith, (c.requires.refuting, (c.requires.given, (c.requires.below, (c.requires.in_bank, (omega arith, omega arith))))))

pub all_parts-returns-then-cases-count : goal.all_parts-returns-then-cases-count
all_parts-returns-then-cases-count t c =
    let s = c.args.self.now in
    let ms = c.args.congruence.now.merges in
    let old = c.args.path.now in
    let new = c.cases.new.path in
    let ps = c.args.whole.now.parts.now in
    let d : FormulaId = record { 0 = 0 } in
    let e = c.in_ok-cases.ensures in
    let stop = c.in_ok-cases.cases.stop in
    let test = c.if-cases-count.true in
    let at = slice_get-get_or ps stop d test in
    record {
      congruence = e.congruence;
      kept = same_kept old.known.items new.known.items e.known;
      none = λ n. some_holds (bank_of s) (basics (known_beside s)) ps stop (get_or ps stop d) at (e.holds test (get_or ps stop d) at);
      goes_on = stays_on s ms old new c.args.whole.now.place c.args.whole.now.from (or_of (bank_of s) ps) e.stays;
      closes = tt;
    }

pub all_parts-returns : goal.all_parts-returns
all_parts-returns t c =
    let s = c.args.self.now in
    let ms = c.args.congruence.now.merges in
    let old = c.args.path.now in
    let new = c.cases.new.path in
    let ps = c.args.whole.now.parts.now in
    let e = c.in_ok-cases.ensures in
    record {
      congruence = e.congruence;
      kept = same_kept old.known.items new.known.items e.known;
      none = λ n. absurd (some_none c.in_ok-lines.lines n);
      goes_on = stays_on s ms old new c.args.whole.now.place c.args.whole.now.from (or_of (bank_of s) ps) e.stays;
      closes = cases_close s ms old c.args.whole.now.place c.args.whole.now.from ps new c.in_ok-cases.cases.stop c.in_ok-cases.cases.lines.items c.in_ok-lines.lines.items e.known c.if-cases-count.false c.in_ok-lines.ensures e.cases;
    }
