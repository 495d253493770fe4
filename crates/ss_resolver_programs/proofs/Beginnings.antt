-- The first `Main` from a class on.
use Rattle.std.proofs.Common.{ℕ, zero, suc, ◌≡◌, ◌+◌, ◌<◌, ◌≤◌, List, [], ◌∷◌, length, drop, Some, None, refl, ap, sym, ◌∙◌, add-one, arith}
use Rattle.std.specs.Prelude.{find}
use Rattle.ss_ast.specs.Programs.{ClassTree}
use Rattle.ss_tables.specs.Members.{MethodTree, methods_in}
use Rattle.ss_tables.specs.Classes.{members_at}
use Rattle.ss_resolver_names_rules.specs.Programs.{is_main}
use Rattle.ss_resolver_rules.specs.Numbers.{method_id}
use Rattle.ss_resolver_rules.specs.Programs.{number_or, main_from}

main_at : (all cs : List ClassTree) (i k : ℕ) → i < length cs
    → main_from all k (drop i cs) ≡ number_or all k (find is_main (methods_in (members_at cs i))) (main_from all (k + 1) (drop (suc i) cs))
main_at all [] i k h = absurd (omega (arith, h))
main_at all (c ∷ cs) zero k h = refl
main_at all (c ∷ cs) (suc i) k h = main_at all cs i k (omega (arith, h))

-- the class at place k decides where it has one
pub main_step : (cs : List ClassTree) (k : ℕ) → k < length cs
    → main_from cs k (drop k cs) ≡ number_or cs k (find is_main (methods_in (members_at cs k))) (main_from cs (k + 1) (drop (k + 1) cs))
main_step cs k h = main_at cs cs k k h ∙ ap (λ j. number_or cs k (find is_main (methods_in (members_at cs k))) (main_from cs (k + 1) (drop j cs))) (sym (add-one k))

pub main_past : (cs : List ClassTree) (k : ℕ) → length cs ≤ k → main_from cs k (drop k cs) ≡ 0
main_past cs k h = ap (main_from cs k) (drop_past cs k h)
  where
    drop_past : (xs : List ClassTree) (n : ℕ) → length xs ≤ n → drop n xs ≡ []
    drop_past [] zero l = refl
    drop_past [] (suc n) l = refl
    drop_past (y ∷ ys) zero l = absurd (omega arith)
    drop_past (y ∷ ys) (suc n) l = drop_past ys n (omega arith)

-- where that class has one
pub main_found : (cs : List ClassTree) (k all : ℕ) (m : MethodTree) (n : List ℕ) (r : ℕ) → k < length cs → main_from cs k (drop k cs) ≡ all
    → Some m ≡ find is_main (methods_in (members_at cs k)) → n ≡ m.name.text → r ≡ method_id cs k n → r ≡ all
main_found cs k all m n r l h f e is =
    is ∙ ap (method_id cs k) e ∙ ap (λ o. number_or cs k o (main_from cs (k + 1) (drop (k + 1) cs))) f ∙ sym (main_step cs k l) ∙ h

-- where it has none
pub main_next : (cs : List ClassTree) (k all : ℕ) → k < length cs → main_from cs k (drop k cs) ≡ all → None ≡ find is_main (methods_in (members_at cs k))
    → main_from cs (k + 1) (drop (k + 1) cs) ≡ all
main_next cs k all l h f = ap (λ o. number_or cs k o (main_from cs (k + 1) (drop (k + 1) cs))) f ∙ sym (main_step cs k l) ∙ h
