use Rattle.std.proofs.Common.{◌++◌, ap}
use Rattle.std.proofs.lemmas.Result.{on_ok_weaker}
use Rattle.ss_logic.specs.Express.{said}
use Rattle.ss_logic.specs.Formulas.{neg}
use Rattle.ss_terms.specs.Forms.{Forms, formula_at}
use Rattle.ss_terms.proofs.Grown.{IsGrown-then}
use Rattle.ss_vcgen_express.specs.Marked.{marked_under}
use Rattle.ss_vcgen_express.specs.Numbers.{meant_at}
use Rattle.ss_vcgen_walk.specs.Parts.{parts_at}
use Rattle.ss_vcgen_walk.proofs.Composing.{parts_so}
use Rattle.ss_vcgen_walk.proofs.Growing.{HasParts-grown}
use Rattle.ss_vcgen_walk.proofs.guards.add_unless.Goals as goal

pub add_under-requires : goal.add_under-requires
add_under-requires c =
    let g = c.denied.ensures.grown in
    record { condition = c.in_ok-f.ensures.at.has; parts = HasParts-grown g c.args.parts.now.items c.requires.parts; list = HasParts-grown g c.args.list.now c.requires.list }

pub returns-clause-asked : goal.returns-clause-asked
returns-clause-asked c =
    let a = c.args in
    let d = c.add_under.new.bank in
    on_ok_weaker c.add_under.result
    (parts_so d c.add_under.new.parts.items (λ (b : Forms). parts_at b a.parts.now.items ++ marked_under (formula_at b c.in_ok-f.f) (parts_at b a.list.now)) (λ (b : Forms). parts_at b a.parts.now.items ++ marked_under (neg (said (meant_at b a.m.now))) (parts_at b a.list.now))
    (λ b k. ap (λ f. parts_at b a.parts.now.items ++ marked_under f (parts_at b a.list.now)) (c.in_ok-f.ensures.at.is b (IsGrown-then c.denied.new.bank d b c.add_under.ensures.grown k))))
    c.add_under.ensures.asked
