use Rattle.std.proofs.Common.{ap}
use Rattle.ss_core.specs.View as view
use Rattle.ss_logic.specs.Frames.{the_object, kept}
use Rattle.ss_frames.specs.Calls.{call_at}
use Rattle.ss_terms.proofs.Grown.{IsGrown-then, IsBankOf-grown}
use Rattle.ss_terms_puts.proofs.Putting.{formula_equal}
use Rattle.ss_frames.proofs.Growing.{IsTerm-grown, HasCall-grown, call_at-grown}
use Rattle.ss_frames.proofs.Meaning.{made_kept_means}
use Rattle.ss_frames.proofs.frame.kept.Goals as goal

pub all_kept-requires-clause-bank : goal.all_kept-requires-clause-bank
all_kept-requires-clause-bank c =
    let g = IsGrown-then c.args.b.now c.term.new.self c.term-2.new.self c.term.ensures.grown c.term-2.ensures.grown in
    IsBankOf-grown (view.classes c.args.core.now.classes) c.args.b.now c.term-2.new.self g c.requires.bank

pub all_kept-requires-clause-call : goal.all_kept-requires-clause-call
all_kept-requires-clause-call c =
    let g = IsGrown-then c.args.b.now c.term.new.self c.term-2.new.self c.term.ensures.grown c.term-2.ensures.grown in
    HasCall-grown c.args.b.now c.term-2.new.self g c.args.m.now c.requires.call

pub all_kept-requires-clause-object : goal.all_kept-requires-clause-object
all_kept-requires-clause-object c = IsTerm-grown c.term.new.self c.term-2.new.self c.term-2.ensures.grown c.in_ok-object.object the_object c.in_ok-object.ensures.at

pub returns-clause-at : goal.returns-clause-at
returns-clause-at c =
    let g = IsGrown-then c.args.b.now c.term.new.self c.term-2.new.self c.term.ensures.grown c.term-2.ensures.grown in
    formula_equal c.all_kept.result c.all_kept.new.b _ _ (ap (kept (view.classes c.args.core.now.classes)) (call_at-grown c.args.b.now c.term-2.new.self g c.args.m.now c.requires.call)) c.all_kept.ensures.at

pub returns-clause-means : goal.returns-clause-means
returns-clause-means c = made_kept_means c.all_kept.result (view.classes c.args.core.now.classes) c.all_kept.new.b (call_at c.args.b.now c.args.m.now) (returns-clause-at c)
