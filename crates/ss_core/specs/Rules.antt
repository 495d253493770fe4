-- The numbers of the rules.
use Rattle.std.specs.Prelude.{ℕ}
use Rattle.ss_core.specs.declared.rules.Rule.{Rule}
use Rattle.ss_core.specs.declared.rules.Rule.TheVariants as rule

abbrev pub rule_number : Rule → ℕ
rule_number rule.BadByte = 1
rule_number rule.OpenComment = 2
rule_number rule.OpenString = 3
rule_number rule.BigNumber = 4
rule_number rule.TooLong = 5
rule_number rule.Unexpected = 10
rule_number rule.TooDeep = 11
rule_number rule.StrayBrace = 12
rule_number rule.Unknown = 20
rule_number rule.Twice = 21
rule_number rule.Cycle = 22
rule_number rule.BadOverride = 23
rule_number rule.BadType = 24
rule_number rule.NoMain = 25
rule_number rule.CallInCondition = 26
rule_number rule.Limit = 27
rule_number rule.NoReturn = 28
rule_number rule.MayBeNull = 30
rule_number rule.BadOverrideType = 31
rule_number rule.Unassigned = 40
rule_number rule.ThisEscapes = 41
rule_number rule.BaseNotDelayed = 42
rule_number rule.NotAdmissible = 50
rule_number rule.MisplacedWord = 51
rule_number rule.BadAttribute = 52
