use Rattle.std.proofs.Common.{ℕ, [], ◌∷◌, ◌++◌, ap, sym, ◌∙◌, arith}
use Rattle.std.specs.Prelude.{◌||◌}
use Rattle.ss_vcgen_known.specs.Sets.{at, below}
use Rattle.ss_vcgen_known.specs.Views.{fields_of}
use Rattle.ss_vcgen_known.proofs.Listing.{below_next, fields_either}
use Rattle.ss_vcgen_known.proofs.fields.Fields.either.Goals as goal

pub returns : goal.returns
returns c =
    let a = c.args.self.now in
    let b = c.args.other.now in
    ap (at c.loop-field.list.items) c.or-beyond.ensures
    ∙ ap (λ xs. at xs (a.beyond || b.beyond)) c.loop-field.invariant
    ∙ fields_either a.list.items b.list.items a.beyond b.beyond c.loop-field.field (omega (arith, c.larger-field-end.ensures.first, c.larger-field-end.ensures.second, c.loop-field-test.false, a.list.ok.0)) (omega (arith, c.larger-field-end.ensures.second, c.loop-field-test.false, b.list.ok.0))

pub loop-field-preserved : goal.loop-field-preserved
loop-field-preserved c =
    let a = fields_of c.args.self.now in
    let b = fields_of c.args.other.now in
    let f = λ (g : ℕ). a g || b g in
    let x = c.loop-field.field in
    c.in_ok-push.ensures.items
    ∙ ap (λ xs. xs ++ c.or.result ∷ []) c.loop-field.invariant
    ∙ ap (λ v. below f x ++ v ∷ []) (c.or.ensures ∙ ap (λ v. v || c.has-in-loop-field.result) c.has.ensures ∙ ap (λ v. a x || v) c.has-in-loop-field.ensures)
    ∙ sym (below_next f x)
