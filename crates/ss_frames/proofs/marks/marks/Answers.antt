use Rattle.std.proofs.Common.{◌≡◌, ◌<◌, ◌+◌, length, map, take, get_or, ap, sym, subst}
use Rattle.ss_core.specs.View as view
use Rattle.ss_logic.specs.Frames.{the_object}
use Rattle.ss_terms.proofs.Grown.{IsGrown-then, IsBankOf-grown}
use Rattle.ss_frames.specs.declared.calls.NamedTerm.{NamedTerm}
use Rattle.ss_frames.specs.declared.calls.NamedTerm.TheVariants.{At}
use Rattle.ss_frames.specs.declared.marks.Mark.{Mark}
use Rattle.ss_frames.specs.Calls.{HasAllNamed, AreMarks, term_of_mark}
use Rattle.ss_frames.proofs.Growing.{IsTerm-grown, HasCall-grown, HasAllNamed-get, next_marks, next_terms}
use Rattle.ss_frames.proofs.marks.marks.Goals as goal

pub named-requires-clause-bank : goal.named-requires-clause-bank
named-requires-clause-bank c = IsBankOf-grown (view.classes c.args.classes.now) c.args.b.now c.loop-term.b c.loop-term.invariant.grown c.requires.bank

pub named-requires-clause-object : goal.named-requires-clause-object
named-requires-clause-object c = IsTerm-grown c.args.b.now c.loop-term.b c.loop-term.invariant.grown c.args.object the_object c.requires.object

pub named-requires-clause-term : goal.named-requires-clause-term
named-requires-clause-term c =
    HasAllNamed-get c.loop-term.b c.deref-term-items.result.now c.loop-term.term-index (At (record { 0 = 0 }) (record { 0 = 0 }) (record { 0 = 0 }))
    (subst (HasAllNamed c.loop-term.b) (sym c.deref-term-items.ensures.value) (HasCall-grown c.args.b.now c.loop-term.b c.loop-term.invariant.grown c.args.m.now c.requires.call).named) c.loop-term-test.true

pub loop-term-preserved : goal.loop-term-preserved
loop-term-preserved c =
    let a = c.args.b.now in
    let b = c.loop-term.b in
    let d = c.named.new.b in
    let v = c.loop-term.invariant in
    let i = c.loop-term.term-index in
    let xs = c.args.m.now.named.items in
    let ys = c.deref-term-items.result.now in
    let ks = c.loop-term.made.items in
    let z : NamedTerm = At (record { 0 = 0 }) (record { 0 = 0 }) (record { 0 = 0 }) in
    let k : Mark = record { term = get_or ys i z; formula = c.in_ok-formula.formula } in
    let there = (HasCall-grown a b v.grown c.args.m.now c.requires.call).named in
    let within : i < length xs = subst (λ zs. i < length zs) c.deref-term-items.ensures.value c.loop-term-test.true in
    record {
      grown = IsGrown-then a b d v.grown c.named.ensures.grown;
      terms = subst (λ js. map term_of_mark js ≡ take (i + 1) xs) (sym c.in_ok-push.ensures.items) (next_terms xs i z ks k within v.terms (ap (λ zs. get_or zs i z) c.deref-term-items.ensures.value));
      made = subst (AreMarks d c.args.n) (sym c.in_ok-push.ensures.items)
          (next_marks b d c.args.n xs i ks c.named.ensures.grown there v.terms v.made k (HasAllNamed-get b ys i z (subst (HasAllNamed b) (sym c.deref-term-items.ensures.value) there) c.loop-term-test.true) c.in_ok-formula.ensures.at);
    }
