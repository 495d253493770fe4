use Rattle.std.proofs.Common.{ℕ, ◌+◌, List, ◌++◌, map, drop, arith, sym, subst, ap, ◌∙◌}
use Rattle.std.proofs.lemmas.List.{drop_all}
use Rattle.ss_core.specs.declared.body.Body.{Body}
use Rattle.ss_core.specs.View as view
use Rattle.ss_terms.specs.Forms.{Forms, IsBankOf}
use Rattle.ss_vcgen_heaps.specs.Obligations.{at_end, walk_of}
use Rattle.ss_vcgen_builder.specs.Builder.{counters_of}
use Rattle.ss_vcgen_statements.proofs.Evaluated.{drop_next}
use Rattle.ss_vcgen_builder.specs.declared.list.Obligations.{Obligations}
use Rattle.ss_vcgen_builder.specs.Built.{trees, IsWithin}
use Rattle.ss_vcgen.proofs.Building.{Built, begins_so, none_built, built_on, all_built}
use Rattle.ss_vcgen.proofs.programs.watched.Goals as goal

pub loop-i-init : goal.loop-i-init
loop-i-init c = none_built (view.core c.args.core.now) c.in_ok-builder.builder c.new-done.result.items c.new-done.ensures.items c.in_ok-builder.ensures.fine c.in_ok-builder.ensures.bank c.in_ok-builder.ensures.next

pub loop-i-preserved : goal.loop-i-preserved
loop-i-preserved c =
    let core = view.core c.args.core.now in
    let s = c.loop-i.builder in
    let t = c.add_body.new.builder in
    let i = c.loop-i.i in
    let all = c.args.core.now.bodies.items in
    let x = c.index.result.now in
    let body = view.body x in
    let next = counters_of s.next in
    let rest = map view.body (drop (i + 1) all) in
    let here = subst (λ (bs : List Body). Built core s c.loop-i.done.items i (map view.body bs)) (drop_next all i x (let e = c.len-i-end.ensures ∙ c.args.core.now.bodies.ok.0 in let t = c.loop-i-test.true in omega arith) c.index.ensures) c.loop-i.invariant in
    built_on core s t c.loop-i.done.items c.extend_from_slice.new.self.items i body rest here
    (begins_so s t (λ (b : Forms). at_end (walk_of core c.in_ok-number.number.0 body next) next) (λ b. at_end (walk_of core i body next) next) (λ b k. ap (λ (n : ℕ). at_end (walk_of core n body next) next) c.in_ok-number.ensures) c.in_ok-add_body.ensures)
    (c.in_ok-extend_from_slice.ensures.items ∙ ap (λ os. c.loop-i.done.items ++ os) c.deref.ensures.value)

pub returns-clause-exact : goal.returns-clause-exact
returns-clause-exact c =
    let core = view.core c.args.core.now in
    let s = c.loop-i.builder in
    let i = c.loop-i.i in
    let all = c.args.core.now.bodies.items in
    let whole = subst (λ (bs : List Body). Built core s c.loop-i.done.items i (map view.body bs)) (drop_all i all (let e = c.len-i-end.ensures ∙ c.args.core.now.bodies.ok.0 in let t = c.loop-i-test.false in omega arith)) c.loop-i.invariant in
    ap trees c.finished.ensures ∙ all_built core s c.loop-i.done.items i whole

pub returns-clause-in_bank : goal.returns-clause-in_bank
returns-clause-in_bank c = subst (λ (o : Obligations). IsWithin o) (sym c.finished.ensures) (record { trail = c.loop-i.invariant.fine.trail; list = c.loop-i.invariant.within })

pub returns-clause-bank : goal.returns-clause-bank
returns-clause-bank c = subst (λ (o : Obligations). IsBankOf (view.classes c.args.core.now.classes) o.bank) (sym c.finished.ensures) c.loop-i.invariant.bank
