use Rattle.std.proofs.Common.{◌≡◌, ◌+◌, take, get_or, ap, sym, ◌∙◌, subst}
use Rattle.std.specs.Prelude.{Vec, filter}
use Rattle.std.specs.declared.alloc.Global.{Global}
use Rattle.std.proofs.lemmas.List.{take_all}
use Rattle.ss_logic_countermodels.specs.Refuting.{is_whole}
use Rattle.ss_terms.specs.declared.forms.TermId.{TermId}
use Rattle.ss_terms.specs.Forms.{term_at, terms_at, HasTerms}
use Rattle.ss_terms.proofs.Tested.{AreTermsBelow-get}
use Rattle.ss_search_reached.proofs.Sums.{filtered_in, filtered_out}
use Rattle.ss_terms.proofs.Longer.{HasTerms-push}
use Rattle.ss_search_reached.proofs.basics.whole.Goals.{then-is_whole+in_ok-push, else-is_whole}
use Rattle.ss_search_reached.proofs.basics.whole.Goals as goal

pub is_whole-requires : goal.is_whole-requires
is_whole-requires c = AreTermsBelow-get _ c.args.ts.now c.loop-t.t-index (record { 0 = 0 }) c.requires c.loop-t-test.true

pub loop-t-preserved : goal.loop-t-preserved
loop-t-preserved c =
    let b = c.args.bank.now in
    let ts = c.args.ts.now in
    let i = c.loop-t.t-index in
    let d : TermId = record { 0 = 0 } in
    elim c.if-is_whole.branch [
      | then-is_whole+in_ok-push w ↦ record {
        has = subst (λ (v : Vec TermId Global). HasTerms b v.items) (sym w.whole-is)
            (subst (HasTerms b) (sym w.in_ok-push.ensures.items) (HasTerms-push b c.loop-t.whole.items (get_or ts i d) c.loop-t.invariant.has (AreTermsBelow-get _ ts i d c.requires c.loop-t-test.true)));
        are = λ cs of. subst (λ (v : Vec TermId Global). terms_at b v.items ≡ filter (is_whole cs) (terms_at b (take (i + 1) ts))) (sym w.whole-is)
            (filtered_in (term_at b) (is_whole cs) ts i d c.loop-t-test.true c.loop-t.whole.items w.push.new.self.items (c.loop-t.invariant.are cs of) (sym (c.is_whole.ensures cs of) ∙ w.if-is_whole.true) w.in_ok-push.ensures.items);
      }
      | else-is_whole w ↦ record {
        has = subst (λ (v : Vec TermId Global). HasTerms b v.items) (sym w.whole-is) c.loop-t.invariant.has;
        are = λ cs of. subst (λ (v : Vec TermId Global). terms_at b v.items ≡ filter (is_whole cs) (terms_at b (take (i + 1) ts))) (sym w.whole-is)
            (filtered_out (term_at b) (is_whole cs) ts i d c.loop-t-test.true c.loop-t.whole.items (c.loop-t.invariant.are cs of) (sym (c.is_whole.ensures cs of) ∙ w.if-is_whole.false));
      }
    ]

pub returns : goal.returns
returns c = record {
  has = c.loop-t.invariant.has;
  whole = λ cs of. c.loop-t.invariant.are cs of ∙ ap (λ us. filter (is_whole cs) (terms_at c.args.bank.now us)) (take_all c.loop-t.t-index c.args.ts.now c.loop-t-test.false);
}
