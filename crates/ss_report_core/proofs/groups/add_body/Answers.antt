use Rattle.std.proofs.Common.{◌<◌, length, refl, arith}
use Rattle.std.proofs.lemmas.Option.{slice_get_read}
use Rattle.ss_report_core.proofs.BodyGroups.{left_out, past_last, added}
use Rattle.ss_report_core.proofs.groups.add_body.Goals as goal

pub returns-in_default : goal.returns-in_default
returns-in_default c = λ count bs are. left_out count bs _ _ (λ k h. c.place_of.ensures.undeclared c.in_default.is k) are

pub returns-then-k-len : goal.returns-then-k-len
returns-then-k-len c = λ count bs are. left_out count bs _ _ (λ k h. past_last count _ c.in-Some.k k (c.place_of.ensures.declared c.in-Some.k c.in-Some.is) (omega (arith, are.places)) h) are

pub returns : goal.returns
returns c = λ count bs are.
    let gs = c.args.groups.now.items in
    let k = c.in-Some.k in
    let inside : k < length gs = omega arith in
    added count bs gs k c.args.body c.index_mut.result.now c.push.new.self (c.place_of.ensures.declared k c.in-Some.is) inside (slice_get_read gs (length gs) k c.index_mut.result.now refl inside c.index_mut.ensures.value)
    c.in_ok-push.ensures.items are
