use Rattle.std.proofs.Common.{ℕ, [], ◌∷◌, ◌++◌, sym, ap, ◌∙◌}
use Rattle.std.specs.Prelude.{◌&&◌, ◌==◌, not, slice_get}
use Rattle.ss_core.specs.Chain as chain
use Rattle.ss_core.specs.View.{classes}
use Rattle.ss_store_rules.specs.Changes.{field_class}
use Rattle.ss_vcgen_known.specs.Sets.{at, below}
use Rattle.ss_vcgen_known.proofs.Giving.{none_there}
use Rattle.ss_vcgen_known.proofs.Listing.{below_next, fields_above}
use Rattle.ss_vcgen_known.proofs.fields.Fields.above.Goals as goal

pub returns-then-not-is_field : goal.returns-then-not-is_field
returns-then-not-is_field c =
    let cs = classes c.args.list.now in
    let t = c.args.class.0 in
    let f = c.loop-f.f in
    ap (at c.loop-f.found.items) c.stands_above-beyond.ensures
    ∙ ap (λ xs. at xs (chain.below cs t 0 && not (0 == t))) c.loop-f.invariant
    ∙ fields_above cs t f (none_there (slice_get (chain.all_fields cs) f) (sym c.is_field.ensures ∙ c.if-not-is_field.true))

pub loop-f-preserved : goal.loop-f-preserved
loop-f-preserved c =
    let cs = classes c.args.list.now in
    let t = c.args.class.0 in
    let f = c.loop-f.f in
    let stands = λ (n : ℕ). chain.below cs t n && not (n == t) in
    let all = λ (g : ℕ). stands (field_class cs g) in
    c.in_ok-push.ensures.items
    ∙ ap (λ xs. xs ++ c.stands_above-stands.result ∷ []) c.loop-f.invariant
    ∙ ap (λ v. below all f ++ v ∷ []) (c.stands_above-stands.ensures ∙ ap stands c.field_class-declaring.ensures)
    ∙ sym (below_next all f)
