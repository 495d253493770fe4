use Rattle.std.proofs.Common.{◌+◌, List, [], ◌∷◌, ◌++◌, Option, None, map, drop, sym, ap, ◌∙◌, append_assoc}
use Rattle.std.proofs.lemmas.List.{append-nil, drop_all}
use Rattle.ss_core.specs.declared.body.Local.{Local}
use Rattle.ss_core.specs.View as view
use Rattle.ss_logic.specs.Terms.{Term}
use Rattle.ss_terms.specs.Forms.{Forms}
use Rattle.ss_vcgen_heaps.specs.Positions.{Position}
use Rattle.ss_vcgen_builder.specs.Builder.{position_at}
use Rattle.ss_vcgen_builder.proofs.Builds.{going_start, going_on, going_end}
use Rattle.ss_vcgen_statements.proofs.Evaluated.{drop_next}
use Rattle.ss_vcgen.proofs.bodies.enter_each.Goals as goal

pub loop-local-init : goal.loop-local-init
loop-local-init c = going_start c.args.builder.now (λ b k. record k { locals = k.locals ++ map (λ l. None) (map view.local_of c.args.locals.now) }) c.requires

pub loop-local-preserved : goal.loop-local-preserved
loop-local-preserved c =
    let ls = c.args.locals.now in
    let i = c.loop-local.local-index in
    let l = c.local-item.result in
    let rest = λ (ls : List Local) (b : Forms) (k : Position). record k { locals = k.locals ++ map (λ l. None) (map view.local_of ls) } in
    going_on c.args.builder.now c.loop-local.builder c.enter_local.new.builder (rest (drop i ls)) (λ b k. record k { locals = k.locals ++ None ∷ [] }) (rest (drop (i + 1) ls))
    (λ b. rest ls b (position_at b c.args.builder.now)) c.loop-local.invariant c.in_ok-enter_local.ensures
    (λ b k.
    ap (λ (ms : List Local). rest ms b k) (drop_next ls i l c.loop-local-test.true c.local-item.is)
    ∙ ap (λ (ts : List (Option Term)). record k { locals = ts }) (sym (append_assoc k.locals (None ∷ []) (map (λ l. None) (map view.local_of (drop (i + 1) ls))))))

pub returns : goal.returns
returns c =
    let ls = c.args.locals.now in
    let i = c.loop-local.local-index in
    let rest = λ (ls : List Local) (b : Forms) (k : Position). record k { locals = k.locals ++ map (λ l. None) (map view.local_of ls) } in
    going_end c.args.builder.now c.loop-local.builder (rest (drop i ls)) (λ b. rest ls b (position_at b c.args.builder.now)) c.loop-local.invariant
    (λ b k. ap (λ (ms : List Local). rest ms b k) (drop_all i ls c.loop-local-test.false) ∙ ap (λ (ts : List (Option Term)). record k { locals = ts }) (append-nil k.locals))
