use Rattle.std.proofs.Common.{◌≡◌, ℕ, List, ◌++◌, ap, ◌∙◌, string_bytes, append_assoc}
use Rattle.std.specs.Prelude.{codes}
use Rattle.std.specs.Fmt.{decimal}
use Rattle.ss_main_messages.specs.Messages.{heading}
use Rattle.ss_main_messages.proofs.messages.message.Goals as goal

-- the parts of a message, one after the other
parts : (f c l m h s n p : List ℕ) → f ++ (c ++ (l ++ (c ++ (m ++ (h ++ (s ++ (n ++ p))))))) ≡ f ++ c ++ l ++ c ++ m ++ h ++ s ++ n ++ p
parts f c l m h s n p = simp append_assoc

pub returns : goal.returns
returns c =
    let at = c.args.place in
    let file = c.args.file.now in
    let said = c.args.said.now in
    c.in_ok-text.ensures.ok
    ∙ parts file (codes ":") (decimal at.line) (decimal at.column) (codes ": ") said (codes "\n") (string_bytes c.in_ok-shown.shown)
    ∙ ap (λ below. heading file at ++ said ++ codes "\n" ++ below) c.in_ok-shown.ensures
