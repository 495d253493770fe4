use Rattle.std.proofs.Common.{◌≡◌, List, Some, length, sym, ap, ◌∙◌, subst}
use Rattle.std.specs.Prelude.{slice_get}
use Rattle.std.proofs.lemmas.Option.{slice_get-get_or}
use Rattle.ss_terms.specs.declared.forms.FormulaId.{FormulaId}
use Rattle.ss_terms.proofs.Grown.{HasFormulas-grown}
use Rattle.ss_vcgen_builder.specs.declared.builder.Listed.{Listed}
use Rattle.ss_vcgen_builder.specs.Builder.{IsPlaced}
use Rattle.ss_vcgen_builder.proofs.Within.{within_at, within_later}
use Rattle.ss_main_messages.proofs.texts.text_at.Goals as goal

pub text_of-requires-clause-placed : goal.text_of-requires-clause-placed
text_of-requires-clause-placed c =
    let os = c.args.obligations.now in
    let k = c.args.one.now.obligation in
    let o = c.in-Some.listed.now in
    let h = c.in-Some.ensures.lookup in
    let e : slice_get os.list.items k ≡ Some o =
    ap (λ (l : List Listed). slice_get l k) (sym c.deref.ensures.value) ∙ slice_get-get_or c.deref.result.now k o h.3.0 ∙ ap (λ (t : Listed). Some t) (sym h.1) in
    subst (λ (ts : List FormulaId). IsPlaced os.bank (length ts) o) (sym c.deref-3.ensures.value) (within_at os.bank (length os.trail.items) os.list.items k o c.requires.within.list e)

pub returns-clause-within : goal.returns-clause-within
returns-clause-within c =
    let os = c.args.obligations.now in
    record {
      trail = HasFormulas-grown os.bank c.text_of.new.bank c.text_of.ensures.grown os.trail.items c.requires.within.trail;
      list = within_later os.bank c.text_of.new.bank (length os.trail.items) os.list.items c.text_of.ensures.grown c.requires.within.list;
    }
