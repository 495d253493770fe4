use Rattle.std.proofs.Common.{◌≡◌, ◌<◌, ◌^◌, false, sym, ◌∙◌, rules, arith}
use Rattle.std.proofs.lemmas.Grind.{common_steps}
use Rattle.std.proofs.lemmas.Bool.{false≢true}
use Rattle.ss_search_procedure.proofs.Limits.{not_deeper, not_so_deep}
use Rattle.ss_search_procedure.proofs.powers.greatest_depth.Goals as goal

pub returns-then-not-is_within : goal.returns-then-not-is_within
returns-then-not-is_within c =
    let no : c.is_within.result ≡ false = first_of (search rules, grind (arith, common_steps)) in
    λ d le. not_deeper c.args.base c.args.limit c.loop-depth.depth d c.requires (λ k. false≢true (sym no ∙ c.is_within.ensures.1 k)) le

pub returns : goal.returns
returns c =
    let small : c.args.limit < 2 ^ 64 = omega arith in
    λ d le. not_so_deep c.args.base c.args.limit d c.requires small le
