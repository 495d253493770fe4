-- What each rule says of its arguments.
use Rattle.std.specs.Prelude.{List, [], ◌∷◌, Bool, true, false, Option, None}
use Rattle.ss_core.specs.Tree.{ClassTree}
use Rattle.ss_logic.specs.Terms.{Term}
use Rattle.ss_logic.specs.Formulas.{Good, Formula, atom}
use Rattle.ss_logic.specs.declared.GoodRule.TheVariants as good
use Rattle.ss_logic.specs.Reads.{read_instance}
use Rattle.ss_logic.specs.Rules.{numbered, fresh_of, class_of, split_of, apart_of, quorem_of, bool_of}
use Rattle.ss_logic.specs.GoodRules.{good_instance_of}
use Rattle.ss_logic.specs.Invariants.{invariants_of}
use Rattle.ss_rules.specs.declared.names.RuleName.{RuleName}
use Rattle.ss_rules.specs.declared.names.RuleName.TheVariants as rule

-- the first argument is the store
abbrev pub of_store : (Term → List Term → Option Formula) → List Term → Option Formula
of_store sentence [] = None
of_store sentence (s ∷ ts) = sentence s ts

-- what the rule says of these arguments, where they fit it
abbrev pub sentence_of : List ClassTree → RuleName → List Term → Option Formula
sentence_of cs rule.Read ts = read_instance cs ts
sentence_of cs rule.Fresh ts = numbered (fresh_of cs) ts
sentence_of cs rule.Class ts = numbered (class_of cs) ts
sentence_of cs rule.Split ts = numbered (split_of cs) ts
sentence_of cs rule.Apart ts = apart_of cs ts
sentence_of cs rule.Quorem ts = quorem_of cs ts
sentence_of cs rule.Bool ts = bool_of cs ts
sentence_of cs rule.Invariants ts = of_store (invariants_of cs) ts
sentence_of cs rule.Full ts = of_store (good_instance_of cs good.Full) ts
sentence_of cs rule.Owned ts = of_store (good_instance_of cs good.Owned) ts
sentence_of cs rule.Marks ts = of_store (good_instance_of cs good.Marks) ts
sentence_of cs rule.Typed ts = of_store (good_instance_of cs good.Typed) ts
sentence_of cs rule.Ready ts = of_store (good_instance_of cs good.Ready) ts

-- the rule speaks of every structure; the others speak of good stores
abbrev pub is_everywhere : RuleName → Bool
is_everywhere rule.Read = true
is_everywhere rule.Fresh = true
is_everywhere rule.Class = true
is_everywhere rule.Split = true
is_everywhere rule.Apart = true
is_everywhere rule.Quorem = true
is_everywhere rule.Bool = true
is_everywhere name = false

-- that the first argument is a good store
abbrev pub store_is_good : List Term → List Formula
store_is_good [] = []
store_is_good (s ∷ ts) = atom Good (s ∷ []) ∷ []
