use Rattle.std.proofs.Common.{◌≡◌, List, ℕ, length, None, sym, ◌∙◌, ap, subst}
use Rattle.std.specs.Prelude.{IfSome, IfNone}
use Rattle.std.proofs.lemmas.List.{length-map}
use Rattle.std.proofs.lemmas.Option.{IfSome_then}
use Rattle.std.proofs.lemmas.Result.{IfOk-weaker}
use Rattle.ss_logic.specs.Formulas.{Formula}
use Rattle.ss_terms.specs.declared.forms.FormulaId.{FormulaId}
use Rattle.ss_terms.specs.Forms.{formulas_at, HasFormulas}
use Rattle.ss_deriv.specs.Lines.{lines_of}
use Rattle.ss_equality_rules.specs.Equal.{AreClassesOf}
use Rattle.ss_search_clashes.specs.Numbered.{class_of}
use Rattle.ss_search_procedure_rules.specs.Closed.{basics}
use Rattle.ss_search_clashes.specs.Closing.{Closes}
use Rattle.ss_search_reached.specs.Following.{HasNoSum}
use Rattle.ss_search_clashes.specs.Cases.{AreAt}
use Rattle.ss_search_whole_sums.specs.WholeSums.{CloseSums}
use Rattle.ss_search_reaching.specs.Reaching.{place_of, facts_of, reached_of, Shows}
use Rattle.ss_search_reaching.proofs.Turning.{none_then, shows_at, known_merges}
use Rattle.ss_search_reaching.proofs.reaching.Reaching.sums.Goals as goal

pub close_whole_sums-requires-clause-known : goal.close_whole_sums-requires-clause-known
close_whole_sums-requires-clause-known c = subst (HasFormulas c.args.given.now.bank.now) (sym c.deref-2.ensures.value) c.requires.state.reached.has

pub close_whole_sums-requires-clause-long : goal.close_whole_sums-requires-clause-long
close_whole_sums-requires-clause-long c =
    let s = c.requires.state in
    ap length (c.deref-3.ensures.value ∙ s.places) ∙ length-map c.args.self.now.standings.items place_of ∙ s.long ∙ ap length (sym c.deref-2.ensures.value)

pub close_whole_sums-requires-clause-classes : goal.close_whole_sums-requires-clause-classes
close_whole_sums-requires-clause-classes c =
    let k = c.args.self.now.reached.congruence in
    subst (λ (ns : List ℕ). AreClassesOf k.terms k.merges ns) (sym c.deref.ensures.value) c.requires.classes

pub returns-clause-none : goal.returns-clause-none
returns-clause-none c = λ cs of.
    let g = c.args.given.now in
    let b = g.bank.now in
    let r = c.args.self.now in
    IfOk-weaker c.close_whole_sums.result (λ o. IfNone o (HasNoSum cs (class_of b c.deref.result.now) (basics (formulas_at b c.deref-2.result.now)))) (λ o. o ≡ None → HasNoSum cs (class_of b r.reached.classes.items) (basics (reached_of g r)))
    (λ o h e. subst (λ (ns : List ℕ). HasNoSum cs (class_of b ns) (basics (reached_of g r))) c.deref.ensures.value
    (subst (λ (fs : List FormulaId). HasNoSum cs (class_of b c.deref.result.now) (basics (formulas_at b fs))) c.deref-2.ensures.value (none_then o h e)))
    (c.close_whole_sums.ensures.none cs of)

pub returns-clause-closes : goal.returns-clause-closes
returns-clause-closes c = λ cs of.
    let g = c.args.given.now in
    let b = g.bank.now in
    let r = c.args.self.now in
    let ms = r.reached.congruence.merges in
    IfOk-weaker c.close_whole_sums.result (λ o. IfSome o (λ v. CloseSums cs b ms c.len-count.result c.deref-2.result.now c.deref-3.result.now v.items))
    (λ o. IfSome o (λ v. (premises : List Formula) (goal : Formula) → Shows cs g r → Closes cs premises goal (facts_of g r) (lines_of b v.items)))
    (λ o h. IfSome_then o h (λ v k premises goal shows. k.closes premises goal (facts_of g r) (known_merges cs g r c.len-count.result (c.len-count.ensures ∙ r.path.known.ok.0) shows)
    (subst (λ (fs : List FormulaId). AreAt cs b (facts_of g r) fs c.deref-3.result.now) (sym c.deref-2.ensures.value)
    (subst (λ (ns : List ℕ). AreAt cs b (facts_of g r) r.reached.known.items ns) (sym c.deref-3.ensures.value) (shows_at cs g r c.requires.state shows)))))
    (c.close_whole_sums.ensures.some cs of)
