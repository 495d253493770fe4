-- One more clause of those that a loop goes over.
use Rattle.std.proofs.Common.{ℕ, ◌≡◌, ◌+◌, ◌<◌, List, [], ◌∷◌, ◌++◌, length, map, drop, get_or, Option, Some, None, refl, sym, ap, ◌∙◌, add-one, append-nil, append_assoc}
use Rattle.ss_ast.specs.declared.class.Clause.{Clause}
use Rattle.ss_ast.specs.Programs.{ClauseTree, clause_tree, RequiresOf, EnsuresOf, ModifiesOf}
use Rattle.ss_typed.specs.Tree.{ExprTree, ModifiedTree}
use Rattle.ss_resolver_rules.specs.Names.{Env}
use Rattle.ss_resolver_rules.specs.Programs.{modified, entry_in, exit_in, modifies_in, with_terms}
use Rattle.ss_ast.proofs.Loops.{drop_item}
use Rattle.ss_resolver_programs.specs.Terms.{joined}

pub entry_more : (e : Env) (c : ClauseTree) (cs : List ClauseTree) → entry_in e (c ∷ cs) ≡ entry_in e (c ∷ []) ++ entry_in e cs
entry_more e (RequiresOf a) cs = refl
entry_more e (EnsuresOf a) cs = refl
entry_more e (ModifiesOf ms) cs = refl

pub exit_more : (e : Env) (c : ClauseTree) (cs : List ClauseTree) → exit_in e (c ∷ cs) ≡ exit_in e (c ∷ []) ++ exit_in e cs
exit_more e (RequiresOf a) cs = refl
exit_more e (EnsuresOf a) cs = refl
exit_more e (ModifiesOf ms) cs = refl

pub joined_none : (o : Option (List ModifiedTree)) → joined o None ≡ o
joined_none None = refl
joined_none (Some ms) = ap (λ l. Some l) (append-nil ms)

joined_terms : (o more : Option (List ModifiedTree)) (ms : List ModifiedTree) → joined (joined o (Some ms)) more ≡ joined o (with_terms ms more)
joined_terms None None ms = ap (λ l. Some l) (append-nil ms)
joined_terms None (Some more) ms = refl
joined_terms (Some xs) None ms = ap (λ l. Some l) (append-nil (xs ++ ms))
joined_terms (Some xs) (Some more) ms = ap (λ l. Some l) (append_assoc xs ms more)

pub joined_more : (e : Env) (o : Option (List ModifiedTree)) (c : ClauseTree) (cs : List ClauseTree) → joined (joined o (modifies_in e (c ∷ []))) (modifies_in e cs) ≡ joined o (modifies_in e (c ∷ cs))
joined_more e o (RequiresOf a) cs = ap (λ x. joined x (modifies_in e cs)) (joined_none o)
joined_more e o (EnsuresOf a) cs = ap (λ x. joined x (modifies_in e cs)) (joined_none o)
joined_more e o (ModifiesOf ms) cs = joined_terms o (modifies_in e cs) (map (modified e) ms)

-- ---- rounds of loops

next : (xs : List Clause) (i : ℕ) (x : Clause) → i < length xs → x ≡ get_or xs i x → map clause_tree (drop i xs) ≡ clause_tree x ∷ map clause_tree (drop (i + 1) xs)
next xs i x l is = ap (map clause_tree) (drop_item xs i x l is) ∙ ap (λ k. clause_tree x ∷ map clause_tree (drop k xs)) (sym (add-one i))

appended : (f : List ClauseTree → List ExprTree) → ((c : ClauseTree) (cs : List ClauseTree) → f (c ∷ cs) ≡ f (c ∷ []) ++ f cs)
    → (out out' all : List ExprTree) (xs : List Clause) (i : ℕ) (x : Clause) → i < length xs → x ≡ get_or xs i x → out' ≡ out ++ f (clause_tree x ∷ [])
    → out ++ f (map clause_tree (drop i xs)) ≡ all → out' ++ f (map clause_tree (drop (i + 1) xs)) ≡ all
appended f more out out' all xs i x l is p h =
    let rest = map clause_tree (drop (i + 1) xs) in
    ap (λ z. z ++ f rest) p ∙ append_assoc out (f (clause_tree x ∷ [])) (f rest) ∙ ap (λ z. out ++ z) (sym (more (clause_tree x) rest) ∙ ap f (sym (next xs i x l is))) ∙ h

pub one_entry : (e : Env) (out out' all : List ExprTree) (xs : List Clause) (i : ℕ) (x : Clause) → i < length xs → x ≡ get_or xs i x → out' ≡ out ++ entry_in e (clause_tree x ∷ [])
    → out ++ entry_in e (map clause_tree (drop i xs)) ≡ all → out' ++ entry_in e (map clause_tree (drop (i + 1) xs)) ≡ all
one_entry e = appended (entry_in e) (entry_more e)

pub one_exit : (e : Env) (out out' all : List ExprTree) (xs : List Clause) (i : ℕ) (x : Clause) → i < length xs → x ≡ get_or xs i x → out' ≡ out ++ exit_in e (clause_tree x ∷ [])
    → out ++ exit_in e (map clause_tree (drop i xs)) ≡ all → out' ++ exit_in e (map clause_tree (drop (i + 1) xs)) ≡ all
one_exit e = appended (exit_in e) (exit_more e)

pub one_modifies : (e : Env) (o o' all : Option (List ModifiedTree)) (xs : List Clause) (i : ℕ) (x : Clause) → i < length xs → x ≡ get_or xs i x → o' ≡ joined o (modifies_in e (clause_tree x ∷ []))
    → joined o (modifies_in e (map clause_tree (drop i xs))) ≡ all → joined o' (modifies_in e (map clause_tree (drop (i + 1) xs))) ≡ all
one_modifies e o o' all xs i x l is p h =
    let rest = map clause_tree (drop (i + 1) xs) in
    ap (λ z. joined z (modifies_in e rest)) p ∙ joined_more e o (clause_tree x) rest ∙ ap (λ ys. joined o (modifies_in e ys)) (sym (next xs i x l is)) ∙ h
