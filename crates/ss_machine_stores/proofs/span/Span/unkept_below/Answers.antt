use Rattle.std.proofs.Common.{◌<◌, length, ap, sym, ◌∙◌, arith}
use Rattle.std.proofs.lemmas.Option.{unwrap_or-slice_get}
use Rattle.ss_store_rules.specs.Reads.{no_object}
use Rattle.ss_machine_rules.specs.Frame.{unkept_at, unkept_from, unkept}
use Rattle.ss_machine_stores.specs.Firsts.{first}
use Rattle.ss_machine_stores.specs.Spans.{span_of}
use Rattle.ss_machine_stores.proofs.Firsts.{found_at, next_at}
use Rattle.ss_machine_stores.proofs.Givens.{objects_given}
use Rattle.ss_machine_stores.proofs.span.Span.unkept_below.Goals as goal

pub returns-in-Some : goal.returns-in-Some
returns-in-Some c =
    let s = span_of c.args.self.now in
    let o = c.loop-o.o in
    let l : o < length s.now = omega arith in
    found_at (unkept_from s) (unkept_at s) (objects_given s) s.now o no_object c.in-Some.at (first (unkept s)) l
    (ap (λ y. first (unkept_at s o y)) (sym (unwrap_or-slice_get s.now o no_object)) ∙ sym c.in-Some.ensures)
    c.loop-o.invariant

pub loop-o-preserved : goal.loop-o-preserved
loop-o-preserved c =
    let s = span_of c.args.self.now in
    let o = c.loop-o.o in
    let l : o < length s.now = omega arith in
    next_at (unkept_from s) (unkept_at s) (objects_given s) s.now o no_object (first (unkept s)) l
    (ap (λ y. first (unkept_at s o y)) (sym (unwrap_or-slice_get s.now o no_object)) ∙ sym c.in-None.ensures)
    c.loop-o.invariant
