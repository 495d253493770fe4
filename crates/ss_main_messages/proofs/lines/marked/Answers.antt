use Rattle.std.proofs.Common.{◌≡◌, ◌++◌, map, sym, ◌∙◌, string_bytes, append_assoc}
use Rattle.std.specs.Prelude.{codes}
use Rattle.ss_main_messages.specs.Lines.{shown, mark, marked}
use Rattle.ss_main_messages.proofs.lines.marked.Goals as goal

pub returns : goal.returns
returns c =
    let part = c.args.part.now in
    let told : string_bytes c.in_ok-shown.shown ++ (codes "\n" ++ string_bytes c.in_ok-mark.mark) ≡ marked part c.args.count =
    rw (c.in_ok-shown.ensures, c.in_ok-mark.ensures, ← c.if-is_empty.ensures) (sym (append_assoc (map shown part) (codes "\n") (mark c.args.count))) in
    c.in_ok-text.ensures.ok ∙ told
