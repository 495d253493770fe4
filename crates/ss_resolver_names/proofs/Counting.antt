-- Counts over a list from a place on.
use Rattle.std.proofs.Common.{ℕ, zero, suc, ◌≡◌, ◌<◌, ◌+◌, List, [], ◌∷◌, length, drop, refl, arith}
use Rattle.std.specs.List.{fold, count_by}
use Rattle.ss_ast.specs.Programs.{ClassTree}
use Rattle.ss_tables.specs.Members.{methods_in}
use Rattle.ss_tables.specs.Classes.{members_at}
use Rattle.ss_resolver_names_rules.specs.Programs.{is_main}

-- the methods that are `Main`, with so many before
abbrev pub mains_from : ℕ → List ClassTree → ℕ
mains_from n cs = fold (λ a (c : ClassTree). a + count_by is_main (methods_in c.members)) n cs

pub next_mains : (cs : List ClassTree) (i n : ℕ) → i < length cs → mains_from n (drop i cs) ≡ mains_from (n + count_by is_main (methods_in (members_at cs i))) (drop (suc i) cs)
next_mains [] i n h = absurd (omega arith)
next_mains (c ∷ cs) zero n h = refl
next_mains (c ∷ cs) (suc i) n h = next_mains cs i n (omega arith)
