use Rattle.std.proofs.Common.{ap}
use Rattle.ss_core.specs.View as view
use Rattle.ss_logic.specs.Frames as logic
use Rattle.ss_terms.specs.Forms.{term_at, terms_at}
use Rattle.ss_terms.proofs.Grown.{IsGrown-then, IsBankOf-grown}
use Rattle.ss_frames.specs.Calls.{call_at}
use Rattle.ss_vcgen_express.proofs.Grown.{formula_so}
use Rattle.ss_vcgen_heaps.specs.Contracts as heaps
use Rattle.ss_vcgen_contracts.specs.Views.{contract_of, ones_at}
use Rattle.ss_vcgen_contracts.proofs.changes.frame.Goals as goal

pub frame_terms-requires-clause-limit : goal.frame_terms-requires-clause-limit
frame_terms-requires-clause-limit c = c.requires.limits.classes

pub kept-requires-clause-bank : goal.kept-requires-clause-bank
kept-requires-clause-bank c = IsBankOf-grown (view.classes c.args.core.now.classes) c.args.bank.now c.frame_terms.new.bank c.in_ok-m.ensures.grown c.requires.bank

pub returns-clause-at : goal.returns-clause-at
returns-clause-at c =
    let cs = view.classes c.args.core.now.classes in
    formula_so c.kept.result c.kept.new.bank (λ b. logic.kept cs (call_at b c.in_ok-m.m))
    (λ b. logic.kept cs (heaps.frame_terms cs (contract_of c.args.contract) (term_at b c.args.run.before) (term_at b c.args.run.after) (ones_at b c.args.run.arguments.now) (terms_at b c.args.outside.now)))
    (λ b k. ap (logic.kept cs) (c.in_ok-m.ensures.at.is b (IsGrown-then c.frame_terms.new.bank c.kept.new.bank b c.kept.ensures.grown k))) c.kept.ensures.at
