use Rattle.std.proofs.Common.{◌≡◌, List, Some, reverse}
use Rattle.std.proofs.lemmas.Result.{IfOk-weaker}
use Rattle.ss_logic_means.specs.Steps.{Derives}
use Rattle.ss_deriv.specs.declared.line.Line.{Line}
use Rattle.ss_deriv.specs.Lines.{lines_of}
use Rattle.ss_search_path.proofs.Shaping.{derives_shaped, path_derives}
use Rattle.ss_search_path.proofs.path.Path.finish.Goals as goal

pub returns : goal.returns
returns c = λ cs premises goal b path closes.
    let all : List Line = reverse c.in_ok-lines.lines.items in
    let derives = path_derives cs premises goal b c.args.self c.args.closing.items all path closes c.in_ok-lines.ensures in
    IfOk-weaker c.derivation_of.result (λ o. o ≡ Some all) (λ o. (d : List Line) × (o ≡ Some d) × Derives cs premises goal (lines_of b d))
    (λ o e. (all, e, derives)) (c.derivation_of.ensures (derives_shaped cs premises goal b all derives))
