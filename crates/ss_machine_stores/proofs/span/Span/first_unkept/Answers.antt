use Rattle.std.proofs.Common.{ap, sym}
use Rattle.ss_machine_stores.specs.Firsts.{first}
use Rattle.ss_machine_stores.specs.Spans.{span_of}
use Rattle.ss_machine_stores.proofs.Keeping.{all_kept}
use Rattle.ss_machine_stores.proofs.span.Span.first_unkept.Goals as goal

pub returns-then-all_keep : goal.returns-then-all_keep
returns-then-all_keep c =
    sym (ap first (all_kept (span_of c.args.self.now) c.args.self.now.journal.now c.args.self.now.unfull.now c.requires.whole c.requires.entry_is (sym c.if-all_keep.ensures)))
