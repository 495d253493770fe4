use Rattle.std.proofs.Common.{◌∷◌, [], take, refl, sym, ap, ◌∙◌}
use Rattle.std.proofs.lemmas.List.{take_more}
use Rattle.ss_store_rules.specs.Changes.{changed}
use Rattle.ss_store.specs.Effects.{effect, among}
use Rattle.ss_store.proofs.Loops.{changed_none}
use Rattle.ss_store.proofs.Undergone.{undergone_more}
use Rattle.ss_store.proofs.effects.undergo_among.Goals as goal

pub loop-q-init : goal.loop-q-init
loop-q-init c = sym (changed_none (among [] (effect c.args.e)) c.args.objects.now (λ q x l. refl))

pub loop-q-preserved : goal.loop-q-preserved
loop-q-preserved c =
    let e = c.args.e in
    let ps = c.args.positions.now in
    c.undergo_at.ensures
    ∙ ap (changed (among (_ ∷ []) (effect e))) c.loop-q.invariant
    ∙ undergone_more e (take c.loop-q.q-index ps) _ c.args.objects.now
    ∙ ap (λ r. changed (among r (effect e)) c.args.objects.now) (sym (take_more ps c.loop-q.q-index _ c.loop-q-test.true))
