use Rattle.std.proofs.Common.{List, Bool, ◌∷◌, [], ◌++◌, map, take, get_or, sym, ◌∙◌, ap}
use Rattle.std.proofs.lemmas.List.{take_more, take_all, map_push}
use Rattle.ss_bit_set.specs.Marked.{marked}
use Rattle.ss_terms.specs.declared.forms.FormulaId.{FormulaId}
use Rattle.ss_terms.specs.Forms.{formula_at}
use Rattle.ss_terms.proofs.Tested.{AreBelow-get}
use Rattle.ss_logic.proofs.Lists.{contains_none}
use Rattle.ss_search_reached.specs.Models.{HasArguments}
use Rattle.ss_search_reached.proofs.Lists.{one_more, all_of_them}
use Rattle.ss_search_reached.proofs.reached.Reached.listed_truths.Goals as goal

pub loop-f-init : goal.loop-f-init
loop-f-init c = record { truths = c.new-truths.ensures.items; arguments = λ f k. absurd (contains_none f k) }

pub arguments_are_there-requires : goal.arguments_are_there-requires
arguments_are_there-requires c = AreBelow-get _ c.args.fs.now c.loop-f.f-index (record { 0 = 0 }) c.requires c.loop-f-test.true

pub loop-f-preserved : goal.loop-f-preserved
loop-f-preserved c =
    let b = c.args.bank.now in
    let set = c.args.self.now.numbers in
    let fs = c.args.fs.now in
    let i = c.loop-f.f-index in
    let d : FormulaId = record { 0 = 0 } in
    record {
      truths = c.in_ok-push.ensures.items
          ∙ ap (λ (bs : List Bool). bs ++ c.has.result ∷ []) c.loop-f.invariant.truths
          ∙ ap (λ (v : Bool). map (λ (f : FormulaId). marked set f.0) (take i fs) ++ v ∷ []) c.has.ensures
          ∙ sym (ap (map (λ (f : FormulaId). marked set f.0)) (take_more fs i d c.loop-f-test.true) ∙ map_push (λ (f : FormulaId). marked set f.0) (take i fs) (get_or fs i d));
      arguments = one_more (λ (f : FormulaId). HasArguments b (formula_at b f)) fs i d c.loop-f-test.true c.loop-f.invariant.arguments c.arguments_are_there.ensures;
    }

pub returns : goal.returns
returns c =
    let b = c.args.bank.now in
    let set = c.args.self.now.numbers in
    record {
      truths = c.loop-f.invariant.truths ∙ ap (map (λ (f : FormulaId). marked set f.0)) (take_all c.loop-f.f-index c.args.fs.now c.loop-f-test.false);
      arguments = all_of_them (λ (f : FormulaId). HasArguments b (formula_at b f)) c.args.fs.now c.loop-f.f-index c.loop-f-test.false c.loop-f.invariant.arguments;
    }
