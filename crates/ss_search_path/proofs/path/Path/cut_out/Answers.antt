use Rattle.std.proofs.Common.{take, ◌∙◌, ap}
use Rattle.ss_search_path.proofs.Going.{out_closes}
use Rattle.ss_search_path.proofs.path.Path.cut_out.Goals as goal

pub returns-clause-back : goal.returns-clause-back
returns-clause-back c = record {
  before = c.in_ok-lines.ensures.before;
  behind = c.in_ok-lines.ensures.behind;
  known = c.truncate.ensures.items ∙ ap (take c.args.mark.known) c.in_ok-lines.ensures.known;
}

pub returns-clause-closes : goal.returns-clause-closes
returns-clause-closes c = λ cs premises goal b f at trial t closes.
    out_closes cs premises goal b c.args.mark f c.args.closing.items at trial c.args.self.now t c.in_ok-lines.lines.items c.in_ok-lines.ensures.lines closes
