use Rattle.std.proofs.Common.{◌≡◌, List, ℕ, ◌++◌, ◌∙◌, append_assoc}
use Rattle.std.specs.Prelude.{codes}
use Rattle.ss_main_messages.proofs.messages.file_message.Goals as goal

-- the parts of a message, one after the other
parts : (f c s n : List ℕ) → f ++ (c ++ (s ++ n)) ≡ f ++ c ++ s ++ n
parts f c s n = simp append_assoc

pub returns : goal.returns
returns c = c.in_ok-text.ensures.ok ∙ parts c.args.file.now (codes ": ") c.args.said.now (codes "\n")
