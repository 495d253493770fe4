use Rattle.std.proofs.Common.{◌≡◌, ◌≢◌, ◌∷◌, [], ℕ, true, ap, ◌∙◌, subst}
use Rattle.ss_store_rules.specs.Changes.{changed}
use Rattle.ss_store_lists.specs.Listing.{is_listed, is_held}
use Rattle.ss_store.specs.Effects.{effect, among}
use Rattle.ss_store.proofs.Undergone.{undergone_all}
use Rattle.ss_store.proofs.effects.undergo.Goals as goal

pub returns-in-Some : goal.returns-in-Some
returns-in-Some c =
    let f = effect c.args.e in
    let s = c.args.objects.now in
    let ps = c.in-Some.positions.now in
    let h = c.reach-holder.ensures in
    c.undergo_among.ensures
    ∙ ap (changed (among ps f)) (c.undergo_at.ensures ∙ ap (λ r. changed (among (r ∷ []) f) s) h)
    ∙ undergone_all c.args.e c.args.lists.now ps s c.requires.listed (subst (λ r. (q : ℕ) → is_held c.args.lists.now r q ≡ true → q ≢ r → is_listed ps q ≡ true) h c.in-Some.ensures)
