-- The faults of a whole program, put together.
use Rattle.std.proofs.Common.{ℕ, ◌≡◌, ◌<◌, ◌+◌, List, [], ◌++◌, length, drop, map, get_or, sym, ap, ◌∙◌, append_assoc}
use Rattle.ss_faults.specs.declared.Fault.{Fault}
use Rattle.ss_typed.specs.declared.body.TypedBody.{TypedBody}
use Rattle.ss_typed.specs.declared.program.TypedClass.{TypedClass}
use Rattle.ss_typed.specs.declared.program.Typed.{Typed}
use Rattle.ss_typed.specs.Tree.{TypedTree}
use Rattle.ss_typed.specs.View.{body, members, typed}
use Rattle.ss_ast.proofs.Loops.{drop_next}
use Rattle.ss_delayed_rules.specs.Program.{classes_faults, body_faults, bodies_faults, construction_faults}

-- one more body
pub bodies_more : (p : TypedTree) (bs : List TypedBody) (i : ℕ) (x : TypedBody) (f0 f1 all : List Fault) → f0 ++ bodies_faults p (map body (drop i bs)) ≡ all
    → i < length bs → x ≡ get_or bs i x → f1 ≡ f0 ++ body_faults p (body x) → f1 ++ bodies_faults p (map body (drop (i + 1) bs)) ≡ all
bodies_more p bs i x f0 f1 all before within is found =
    ap (λ z. z ++ bodies_faults p (map body (drop (i + 1) bs))) found
    ∙ append_assoc f0 (body_faults p (body x)) (bodies_faults p (map body (drop (i + 1) bs)))
    ∙ sym (ap (λ zs. f0 ++ bodies_faults p (map body zs)) (drop_next bs i x within is))
    ∙ before

pub all_found : (t : Typed) (q : TypedTree) (cs : List TypedClass) (bs : List TypedBody) (f0 f1 f2 : List Fault) → cs ≡ t.members.items → bs ≡ t.bodies.items → q ≡ typed t → f0 ≡ []
    → f1 ≡ f0 ++ classes_faults (typed t) 0 (map members cs) → f2 ≡ f1 ++ bodies_faults q (map body bs) → f2 ≡ construction_faults (typed t)
unfolding construction_faults
all_found t q cs bs f0 f1 f2 cs_is bs_is q_is f0_is f1_is f2_is =
    f2_is
    ∙ ap (λ z. z ++ bodies_faults q (map body bs)) (f1_is ∙ ap (λ z. z ++ classes_faults (typed t) 0 (map members cs)) f0_is ∙ ap (λ zs. classes_faults (typed t) 0 (map members zs)) cs_is)
    ∙ ap (λ z. classes_faults (typed t) 0 (map members t.members.items) ++ bodies_faults z (map body bs)) q_is
    ∙ ap (λ zs. classes_faults (typed t) 0 (map members t.members.items) ++ bodies_faults (typed t) (map body zs)) bs_is
