use Rattle.std.proofs.Common.{List, ◌++◌, true}
use Rattle.std.proofs.lemmas.Result.{on_ok_weaker}
use Rattle.ss_core.specs.declared.names.Kind.TheVariants as kind
use Rattle.ss_logic.specs.Express.{index_fits}
use Rattle.ss_terms.specs.Forms.{Forms}
use Rattle.ss_vcgen_express.specs.Marked.{Marked, marked_part}
use Rattle.ss_vcgen_express.specs.Numbers.{meant_at}
use Rattle.ss_vcgen_express.specs.Contexts.{context_at}
use Rattle.ss_vcgen_express.proofs.Grown.{HasMeant-grown}
use Rattle.ss_vcgen_walk.specs.Asked.{asked_readable}
use Rattle.ss_vcgen_walk.specs.Parts.{parts_at}
use Rattle.ss_vcgen_walk.proofs.Composing.{parts_then}
use Rattle.ss_vcgen_walk.proofs.twos.ask_element.Goals as goal

pub ask_two-requires : goal.ask_two-requires
ask_two-requires c =
    let g = c.ask_readable.ensures.grown in
    record { first = HasMeant-grown g c.args.operands.first.now c.requires.first; second = HasMeant-grown g c.args.operands.second.now c.requires.second; relation = tt; parts = c.in_ok-ask_readable.ensures.asked.has }

pub returns-clause-asked : goal.returns-clause-asked
returns-clause-asked c =
    let a = c.args in
    on_ok_weaker c.ask_two.result
    (parts_then c.ask_readable.new.bank c.ask_two.new.bank c.ask_readable.new.parts.items c.ask_two.new.parts.items (λ (b : Forms). parts_at b a.parts.now.items ++ asked_readable a.checked (context_at b a.context.now.expression.now) (meant_at b a.operands.first.now) a.place)
    (λ (b : Forms) (ps : List Marked). ps ++ marked_part kind.Index a.place true (index_fits (meant_at b a.operands.first.now) (meant_at b a.operands.second.now))) c.ask_two.ensures.grown c.in_ok-ask_readable.ensures.asked)
    c.ask_two.ensures.asked
