use Rattle.std.proofs.Common.{◌+◌, ◌∙◌, ap, drop, get_or, length, None, arith}
use Rattle.std.specs.Prelude.{min}
use Rattle.ss_core.specs.declared.names.Ty.TheVariants as ty
use Rattle.ss_vcgen_builder.specs.Builder.{guard_of}
use Rattle.ss_vcgen_builder.proofs.Held.{HasLocals-get, HasLocals-grown}
use Rattle.ss_vcgen_builder.proofs.Joining.{joining_start, joining_next, joining_on, over_at, joined_locals, joined_becomes}
use Rattle.ss_vcgen_builder.proofs.builder.Builder.join_locals.Goals as goal

pub loop-i-init : goal.loop-i-init
loop-i-init c =
    rw c.in_ok-joined.ensures.items (joining_start (guard_of c.args.first) (guard_of c.args.second) c.args.self.now c.args.types.now c.args.firsts.now c.args.seconds.now c.requires.fine)

pub join_local-requires-clause-fine : goal.join_local-requires-clause-fine
join_local-requires-clause-fine c = c.loop-i.invariant.fine

pub join_local-requires-clause-first : goal.join_local-requires-clause-first
join_local-requires-clause-first c =
    HasLocals-get c.loop-i.self.bank c.args.firsts.now c.loop-i.i None (HasLocals-grown c.args.self.now.bank c.loop-i.self.bank c.loop-i.invariant.grown c.args.firsts.now c.requires.first) (omega (arith, c.loop-i-test.true, c.min-count.ensures, c.min-pairs.ensures))

pub join_local-requires-clause-second : goal.join_local-requires-clause-second
join_local-requires-clause-second c =
    HasLocals-get c.loop-i.self.bank c.args.seconds.now c.loop-i.i None (HasLocals-grown c.args.self.now.bank c.loop-i.self.bank c.loop-i.invariant.grown c.args.seconds.now c.requires.second) (omega (arith, c.loop-i-test.true, c.min-count.ensures, c.min-pairs.ensures))

pub loop-i-preserved : goal.loop-i-preserved
loop-i-preserved c =
    let g = guard_of c.args.first in
    let h = guard_of c.args.second in
    let s₀ = c.args.self.now in
    let s = c.loop-i.self in
    let i = c.loop-i.i in
    let types = c.args.types.now in
    let firsts = c.args.firsts.now in
    let seconds = c.args.seconds.now in
    let here = joining_next g h s₀ types firsts seconds s c.loop-i.joined.items c.min-count.result i (c.min-count.ensures ∙ ap (min (length types)) c.min-pairs.ensures) c.loop-i-test.true c.loop-i.invariant in
    joining_on g h s₀ types firsts seconds s c.join_local.new.self c.loop-i.joined.items c.push.new.self.items c.in_ok-local.local (get_or types i ty.Int) (drop (i + 1) types) (get_or firsts i None) (get_or seconds i None) (drop (i + 1) firsts)
    (drop (i + 1) seconds) here c.sort_of_type.result c.sort_of_type.ensures c.in_ok-local.ensures.becomes c.in_ok-local.ensures.at c.in_ok-push.ensures.items

pub returns-clause-at : goal.returns-clause-at
returns-clause-at c =
    let i = c.loop-i.i in
    let types = c.args.types.now in
    let firsts = c.args.firsts.now in
    let seconds = c.args.seconds.now in
    let over = over_at types firsts seconds c.min-count.result i (c.min-count.ensures ∙ ap (min (length types)) c.min-pairs.ensures) c.loop-i-test.false in
    joined_locals (guard_of c.args.first) (guard_of c.args.second) c.args.self.now types firsts seconds c.loop-i.self c.loop-i.joined.items (drop i types) (drop i firsts) (drop i seconds) c.loop-i.invariant over

pub returns-clause-becomes : goal.returns-clause-becomes
returns-clause-becomes c =
    let i = c.loop-i.i in
    let types = c.args.types.now in
    let firsts = c.args.firsts.now in
    let seconds = c.args.seconds.now in
    let over = over_at types firsts seconds c.min-count.result i (c.min-count.ensures ∙ ap (min (length types)) c.min-pairs.ensures) c.loop-i-test.false in
    joined_becomes (guard_of c.args.first) (guard_of c.args.second) c.args.self.now types firsts seconds c.loop-i.self c.loop-i.joined.items (drop i types) (drop i firsts) (drop i seconds) c.loop-i.invariant over
