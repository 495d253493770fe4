use Rattle.std.proofs.Common.{◌≡◌, take}
use Rattle.ss_store_rules.specs.Changes.{changed}
use Rattle.ss_store.specs.Effects.{effect, among}
use Rattle.ss_store.proofs.effects.undergo_among.Given as goal

abbrev pub invariant-loop-q : goal.invariant-loop-q
invariant-loop-q l = l.objects ≡ changed (among (take l.q-index l.positions) (effect l.e)) l.initial.objects
