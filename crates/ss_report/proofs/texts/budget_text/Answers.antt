use Rattle.std.proofs.Common.{◌≡◌, [], ◌∷◌, ◌++◌, ◌∙◌, string_bytes}
use Rattle.std.specs.Prelude.{codes}
use Rattle.std.specs.Fmt.{decimal}
use Rattle.std.proofs.lemmas.Result.{IfOk-weaker}
use Rattle.ss_report.specs.Texts.{budget_text}
use Rattle.ss_report.proofs.Lines.{four_parts}
use Rattle.ss_report.proofs.texts.budget_text.Goals as goal

pub returns-in-Splits : goal.returns-in-Splits
returns-in-Splits c =
    let splits = decimal c.in-Splits.splits in
    let told : codes ", " ++ (splits ++ codes " splits\n") ≡ budget_text c.args.over = rw c.in-Splits.is (four_parts (codes ", ") splits (codes " splits") (10 ∷ [])) in
    IfOk-weaker c.format.result (λ text. string_bytes text ≡ codes ", " ++ (splits ++ codes " splits\n")) (λ text. string_bytes text ≡ budget_text c.args.over) (λ text made. made ∙ told) c.format.ensures.ok

pub returns-in-Instances : goal.returns-in-Instances
returns-in-Instances c =
    let limit = decimal c.in-Instances.limit in
    let told : codes ", more than " ++ (limit ++ codes " instances\n") ≡ budget_text c.args.over = rw c.in-Instances.is (four_parts (codes ", more than ") limit (codes " instances") (10 ∷ [])) in
    IfOk-weaker c.format-in-Instances.result (λ text. string_bytes text ≡ codes ", more than " ++ (limit ++ codes " instances\n")) (λ text. string_bytes text ≡ budget_text c.args.over) (λ text made. made ∙ told) c.format-in-Instances.ensures.ok
