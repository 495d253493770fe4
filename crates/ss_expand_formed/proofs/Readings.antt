-- Which locals contracts read: parameters of their method.
use Rattle.std.proofs.Common.{◌≡◌, ℕ, ◌+◌, List, [], ◌∷◌, length, map, Bool, true, false, Option, Some, None, refl, sym, ◌∙◌, ap, subst, arith}
use Rattle.std.specs.Prelude.{◌&&◌}
use Rattle.std.specs.List.{list_all}
use Rattle.std.proofs.lemmas.Bool.{and_from}
use Rattle.std.proofs.lemmas.List.{length-map}
use Rattle.std.proofs.lemmas.List.Folds.{list_all-append}
use Rattle.ss_ast.specs.Programs as written
use Rattle.ss_ast.specs.Programs.{ClauseTree, RequiresOf, EnsuresOf, ModifiesOf, ClassTree}
use Rattle.ss_tables.specs.Members.{MethodTree, ConstructorTree}
use Rattle.ss_typed.specs.Tree.{ExprTree, FieldOf, ModifiedTree, OneOf, AllOf, ElementsOf, BodyTree}
use Rattle.ss_typed.specs.Tree as typed
use Rattle.ss_resolver_rules.specs.Names.{Env, class_env}
use Rattle.ss_resolver_rules.specs.Expressions.{expr}
use Rattle.ss_resolver_rules.specs.Programs.{one_of, modified, entry_in, exit_in, with_terms, modifies_in, param, param_env, method_env, method_body, constructor_body}
use Rattle.ss_expand_rules.specs.Contracts.{first_param}
use Rattle.ss_expand_formed.proofs.Choosing.{all_three}
use Rattle.ss_expand_formed.proofs.Shape.{is_from}
use Rattle.ss_expand_formed.proofs.Resolving.{is_numbered, params_numbered}
use Rattle.ss_expand_formed.proofs.Reading.{locals_pass, reads_in_scope}

-- ---- what a contract reads

-- each local in the expression is among these numbers
abbrev pub reads : ℕ → ℕ → ExprTree → Bool
reads low high e = locals_pass (is_from low high) e

abbrev pub term_reads : ℕ → ℕ → ModifiedTree → Bool
term_reads low high (OneOf e f) = reads low high e
term_reads low high (AllOf e) = reads low high e
term_reads low high (ElementsOf e) = reads low high e

abbrev pub terms_read : ℕ → ℕ → Option (List ModifiedTree) → Bool
terms_read low high None = true
terms_read low high (Some ms) = list_all (term_reads low high) ms

-- the conditions and terms of the body
abbrev pub contract_reads : ℕ → ℕ → BodyTree → Bool
contract_reads low high b = list_all (reads low high) b.entry && list_all (reads low high) b.exit && terms_read low high b.modifies

-- the parameters stand from here to there
abbrev pub after_params : BodyTree → ℕ
after_params b = first_param b + length b.params

abbrev pub reads_params : BodyTree → Bool
reads_params b = contract_reads (first_param b) (after_params b) b

-- ---- in the environment of the parameters

module _ (low : ℕ) (e : Env) (h : is_numbered low e ≡ true) where
  entry_reads : (cs : List ClauseTree) → list_all (reads low e.next) (entry_in e cs) ≡ true
  entry_reads [] = refl
  entry_reads (RequiresOf a ∷ cs) = and_from _ _ (reads_in_scope low e h a) (entry_reads cs)
  entry_reads (EnsuresOf a ∷ cs) = entry_reads cs
  entry_reads (ModifiesOf ms ∷ cs) = entry_reads cs

  exit_reads : (cs : List ClauseTree) → list_all (reads low e.next) (exit_in e cs) ≡ true
  exit_reads [] = refl
  exit_reads (RequiresOf a ∷ cs) = exit_reads cs
  exit_reads (EnsuresOf a ∷ cs) = and_from _ _ (reads_in_scope low e h a) (exit_reads cs)
  exit_reads (ModifiesOf ms ∷ cs) = exit_reads cs

  one_reads : (x : ExprTree) → reads low e.next x ≡ true → term_reads low e.next (one_of x) ≡ true
  one_reads (FieldOf p o f t) g = g
  one_reads (typed.IntOf p n) g = g
  one_reads (typed.BoolOf p b) g = g
  one_reads (typed.NullOf p) g = g
  one_reads (typed.ThisOf p t) g = g
  one_reads (typed.LocalOf p x t) g = g
  one_reads (typed.ResultOf p t) g = g
  one_reads (typed.BoundOf p n) g = g
  one_reads (typed.IffOf p a b) g = g
  one_reads (typed.ImpliesOf p a b) g = g
  one_reads (typed.BinaryOf p o a b) g = g
  one_reads (typed.IsOf p x t) g = g
  one_reads (typed.AsOf p x t) g = g
  one_reads (typed.NegateOf p x) g = g
  one_reads (typed.NotOf p x) g = g
  one_reads (typed.CastOf p t non_null x) g = g
  one_reads (typed.ElementOf p a i) g = g
  one_reads (typed.LengthOf p x) g = g
  one_reads (typed.OldOf p x) g = g
  one_reads (typed.QuantifiedOf p q name l m x) g = g
  one_reads (typed.StateOf p w x) g = g
  one_reads (typed.OwnersOf p w a b) g = g
  one_reads (typed.NewOf p t es) g = g
  one_reads (typed.NewArrayOf p t x) g = g
  one_reads (typed.CallOf p x m t es) g = g
  one_reads (typed.StaticOf p n t es) g = g
  one_reads (typed.BaseOf p m t es) g = g

  term_in_scope : (m : written.ModifiedTree) → term_reads low e.next (modified e m) ≡ true
  term_in_scope (written.AllOf a) = reads_in_scope low e h a
  term_in_scope (written.ElementsOf a) = reads_in_scope low e h a
  term_in_scope (written.OneOf a) = one_reads (expr e a) (reads_in_scope low e h a)

  terms_in_scope : (ms : List written.ModifiedTree) → list_all (term_reads low e.next) (map (modified e) ms) ≡ true
  terms_in_scope [] = refl
  terms_in_scope (m ∷ ms) = and_from _ _ (term_in_scope m) (terms_in_scope ms)

  with_reads : (ms : List ModifiedTree) (more : Option (List ModifiedTree)) → list_all (term_reads low e.next) ms ≡ true → terms_read low e.next more ≡ true → terms_read low e.next (with_terms ms more) ≡ true
  with_reads ms None g i = g
  with_reads ms (Some more) g i = list_all-append (term_reads low e.next) ms more ∙ rw (g, i) refl

  modifies_reads : (cs : List ClauseTree) → terms_read low e.next (modifies_in e cs) ≡ true
  modifies_reads [] = refl
  modifies_reads (RequiresOf a ∷ cs) = modifies_reads cs
  modifies_reads (EnsuresOf a ∷ cs) = modifies_reads cs
  modifies_reads (ModifiesOf ms ∷ cs) = with_reads (map (modified e) ms) (modifies_in e cs) (terms_in_scope ms) (modifies_reads cs)

  clauses_read : (cs : List ClauseTree) → (list_all (reads low e.next) (entry_in e cs) && list_all (reads low e.next) (exit_in e cs) && terms_read low e.next (modifies_in e cs)) ≡ true
  clauses_read cs = all_three _ _ _ (entry_reads cs) (exit_reads cs) (modifies_reads cs)

-- ---- bodies

pub method_reads : (cs : List ClassTree) (k : ℕ) (m : MethodTree) → reads_params (method_body cs k m) ≡ true
method_reads cs k m =
    let low = first_param (method_body cs k m) in
    let e0 : Env = record (class_env cs k) { next = low } in
    let r = params_numbered low e0 m.params refl (omega arith) in
    let e = method_env cs k m in
    let size : e.next ≡ low + length (map (param e) m.params) = r.next ∙ ap (λ n. low + n) (sym (length-map m.params (param e))) in
    subst (λ n. (list_all (reads low n) (entry_in e m.clauses) && list_all (reads low n) (exit_in e m.clauses) && terms_read low n (modifies_in e m.clauses)) ≡ true) size (clauses_read low e r.names m.clauses)

pub constructor_reads : (cs : List ClassTree) (k : ℕ) (c : ConstructorTree) → reads_params (constructor_body cs k c) ≡ true
constructor_reads cs k c =
    let e0 : Env = record (class_env cs k) { next = 1 } in
    let r = params_numbered 1 e0 c.params refl (omega arith) in
    let e = param_env cs k false c.params in
    let size : e.next ≡ 1 + length (map (param e) c.params) = r.next ∙ ap (λ n. 1 + n) (sym (length-map c.params (param e))) in
    subst (λ n. (list_all (reads 1 n) (entry_in e c.clauses) && list_all (reads 1 n) (exit_in e c.clauses) && terms_read 1 n (modifies_in e c.clauses)) ≡ true) size (clauses_read 1 e r.names c.clauses)
