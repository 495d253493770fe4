-- Bodies, one by one.
use Rattle.std.proofs.Common.{◌≡◌, ◌++◌, ◌+◌, ◌<◌, ℕ, suc, length, map, drop, get_or, List, sym, ap, ◌∙◌, add-one, append_assoc}
use Rattle.ss_faults.specs.declared.Fault.{Fault}
use Rattle.ss_typed.specs.declared.body.TypedBody.{TypedBody}
use Rattle.ss_typed.specs.Tree.{BodyTree, TypedTree}
use Rattle.ss_typed.specs.View.{body}
use Rattle.ss_nonnull_rules.specs.NonNull.{NullContext}
use Rattle.ss_nonnull_rules.specs.Program.{null_context_of, body_faults, bodies_faults}
use Rattle.ss_ast.proofs.Loops.{drop_item}
use Rattle.ss_nonnull.specs.Initial.{base_call_faults, code_faults, faults_in_body}
use Rattle.ss_nonnull_seen.proofs.Seeing.{joined}

pub body_noted : (p : TypedTree) (b : BodyTree) (s : NullContext) (f0 f1 f2 : List Fault)
    → s ≡ null_context_of p b → f1 ≡ f0 ++ base_call_faults s b.class b.base → f2 ≡ f1 ++ code_faults s b → f2 ≡ f0 ++ faults_in_body p b
body_noted p b s f0 f1 f2 is q r =
    joined f0 f1 f2 (base_call_faults s b.class b.base) (code_faults s b) q r
    ∙ ap (λ (x : NullContext). f0 ++ (base_call_faults x b.class b.base ++ code_faults x b)) is

-- a loop over bodies
pub one_body : (p : TypedTree) (list : List TypedBody) (i : ℕ) (b : TypedBody) (f0 f1 total : List Fault)
    → i < length list → b ≡ get_or list i b → f1 ≡ f0 ++ body_faults p (body b)
    → f0 ++ bodies_faults p (map body (drop i list)) ≡ total → f1 ++ bodies_faults p (map body (drop (i + 1) list)) ≡ total
one_body p list i b f0 f1 total within is q h =
    let rest = bodies_faults p (map body (drop (suc i) list)) in
    ap (λ (n : ℕ). f1 ++ bodies_faults p (map body (drop n list))) (add-one i)
    ∙ ap (λ (x : List Fault). x ++ rest) q
    ∙ append_assoc f0 (body_faults p (body b)) rest
    ∙ ap (λ (bs : List TypedBody). f0 ++ bodies_faults p (map body bs)) (sym (drop_item list i b within is))
    ∙ h
