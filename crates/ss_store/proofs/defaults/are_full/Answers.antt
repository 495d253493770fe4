use Rattle.std.proofs.Common.{◌≡◌, ◌≢◌, ℕ, true, sym, ap, ◌∙◌, subst}
use Rattle.ss_store_lists.specs.Listing.{is_listed, is_held}
use Rattle.ss_store.specs.Listed.{holds_at}
use Rattle.ss_store.specs.Full.{is_full_among}
use Rattle.ss_store.proofs.Filed.{full_then, full_else}
use Rattle.ss_store.proofs.defaults.are_full.Goals as goal

pub returns-then-is_full_at : goal.returns-then-is_full_at
returns-then-is_full_at c =
    let s = c.args.objects.now in
    let h = c.holder_of-o.ensures in
    let ps = c.in-Some.positions.now in
    c.are_full_at.ensures ∙ full_then c.args.those s c.args.lists.now ps c.requires
    (subst (λ k. (q : ℕ) → is_held c.args.lists.now k q ≡ true → q ≢ k → is_listed ps q ≡ true) h c.in-Some.ensures)
    (ap (holds_at (is_full_among c.args.those) s) (sym h) ∙ sym c.is_full_at.ensures ∙ c.if-is_full_at.true)

pub returns-else-is_full_at : goal.returns-else-is_full_at
returns-else-is_full_at c =
    let s = c.args.objects.now in
    c.if-is_full_at.false ∙ full_else c.args.those s (ap (holds_at (is_full_among c.args.those) s) (sym c.holder_of-o.ensures) ∙ sym c.is_full_at.ensures ∙ c.if-is_full_at.false)
