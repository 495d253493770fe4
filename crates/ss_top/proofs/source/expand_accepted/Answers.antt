use Rattle.std.proofs.Common.{Err, subst}
use Rattle.ss_io.specs.declared.outside.WriteStop.{WriteStop}
use Rattle.ss_io.specs.Outside.{Grew, GrewByFront, Takes}
use Rattle.ss_core.specs.View as core
use Rattle.ss_ast.specs.Tokens.{toks}
use Rattle.ss_typed.specs.View.{typed}
use Rattle.ss_top.proofs.Says.{expanded, expanded_in_part}
use Rattle.ss_top.proofs.source.expand_accepted.Goals as goal

pub returns-in-Err-Failed-clause-says : goal.returns-in-Err-Failed-clause-says
returns-in-Err-Failed-clause-says g c = λ limits steps input.
    let old = g.S.Sink.taken c.args.out.now in
    let new = g.S.Sink.taken c.write.new.self in
    let taken = subst (λ (e : WriteStop). Takes old new c.deref.result.now (Err e)) c.in-Err-Failed.field-0-is c.in-Err-Failed.ensures.taken in
    expanded_in_part c.args.source.now (toks c.args.accepted.now.tokens.items) (typed c.args.accepted.now.program) (core.core c.in-Ok.program) c.in-Ok-core_text.text.items old new c.requires.accepted c.in-Ok.ensures c.in-Ok-core_text.ensures (subst (λ t. GrewByFront old new t) c.deref.ensures.value taken)

pub returns-in-Ok-write-clause-says : goal.returns-in-Ok-write-clause-says
returns-in-Ok-write-clause-says g c = λ limits steps input.
    let old = g.S.Sink.taken c.args.out.now in
    let new = g.S.Sink.taken c.write.new.self in
    expanded c.args.source.now (toks c.args.accepted.now.tokens.items) (typed c.args.accepted.now.program) (core.core c.in-Ok.program) c.in-Ok-core_text.text.items old new c.requires.accepted c.in-Ok.ensures c.in-Ok-core_text.ensures (subst (λ t. Grew old new t) c.deref.ensures.value c.in-Ok-write.ensures.taken)
