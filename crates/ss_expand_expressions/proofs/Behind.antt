-- What is made of an expression after other code.
use Rattle.std.proofs.Common.{◌≡◌, ℕ, List, [], ◌∷◌, ◌++◌, Bool, true, false, cond, refl, ap, sym, ◌∙◌, append_assoc, true≢false}
use Rattle.std.specs.Prelude.{◌&&◌}
use Rattle.ss_core.specs.declared.names.Place.{Place}
use Rattle.ss_core.specs.declared.names.Ty.{Ty}
use Rattle.ss_core.specs.Tree as core
use Rattle.ss_core.specs.Tree.{LocalExpr}
use Rattle.ss_typed.specs.Tree.{ExprTree}
use Rattle.ss_typed.specs.Types.{type_of}
use Rattle.ss_expand_rules.specs.Numbers.{Numbers, plain}
use Rattle.ss_expand_rules.specs.Calls.{has_call, is_lazy}
use Rattle.ss_typed.specs.Shapes.{place_of}
use Rattle.ss_expand_rules.specs.Lifting.{Source, Pure, Created, CreatedArray, Called, put, Lifted, Valued, in_local, in_temporary, valued, valued_from, next, temporary_type, any_object, lifted_of, unlifted, operand}
use Rattle.ss_expand_expressions.specs.Sources.{lifted_after, valued_after}

abbrev Before : List core.StmtTree → core.ExprTree → List Ty → Valued
Before code e made = record { code = code; value = e; made = made }

pub in_local_after : (p : Place) (x : ℕ) (t : Ty) (before : List core.StmtTree) (l : Lifted) → in_local p x t (lifted_after before l) ≡ valued_after before (in_local p x t l)
in_local_after p x t before l = ap (λ (code : List core.StmtTree). Before code (LocalExpr p x) (l.made ++ t ∷ [])) (append_assoc before l.code (put p x l.source ∷ []))

pub in_temporary_after : (ns : Numbers) (p : Place) (t : Ty) (before : List core.StmtTree) (l : Lifted) → in_temporary ns p t (lifted_after before l) ≡ valued_after before (in_temporary ns p t l)
in_temporary_after ns p t before l = in_local_after p (next ns l.made) t before l

valued_from_after : (ns : Numbers) (e : ExprTree) (before : List core.StmtTree) (l : Lifted) (s : Source) → valued_from ns e (lifted_after before l) s ≡ valued_after before (valued_from ns e l s)
valued_from_after ns e before l (Pure v) = refl
valued_from_after ns e before l (Created p t es) = in_temporary_after ns (place_of e) (temporary_type any_object (type_of e)) before l
valued_from_after ns e before l (CreatedArray p t n) = in_temporary_after ns (place_of e) (temporary_type any_object (type_of e)) before l
valued_from_after ns e before l (Called p callee es) = in_temporary_after ns (place_of e) (temporary_type any_object (type_of e)) before l

pub valued_goes_after : (ns : Numbers) (e : ExprTree) (before : List core.StmtTree) (l : Lifted) → valued ns e (lifted_after before l) ≡ valued_after before (valued ns e l)
valued_goes_after ns e before l = valued_from_after ns e before l l.source

-- ---- an operand is what it is lifted to, in a temporary; a lazy one with a call is in one already

lazy_cases : {X Y : Type 0} (lazy call : Bool) (f g : X → Y) (lifted other : X) → (lazy && call) ≡ true → cond (lazy && call) (f lifted) (g (cond call lifted other)) ≡ f (cond call lifted other)
lazy_cases true true f g lifted other h = refl
lazy_cases true false f g lifted other h = absurd (true≢false (sym h))
lazy_cases false call f g lifted other h = absurd (true≢false (sym h))

pub operand_lazy : (ns : Numbers) (wanted : Ty) (e : ExprTree) (lift : List Ty → Lifted) (made : List Ty) → (is_lazy e && has_call e) ≡ true
    → operand ns wanted e lift made ≡ valued ns e (lifted_of ns e lift made)
operand_lazy ns wanted e lift made h =
    lazy_cases (is_lazy e) (has_call e) (valued ns e) (in_temporary ns (place_of e) (temporary_type wanted (type_of e))) (lift made) (unlifted (plain ns e) made) h

pub operand_kept : (ns : Numbers) (wanted : Ty) (e : ExprTree) (lift : List Ty → Lifted) (made : List Ty) → (is_lazy e && has_call e) ≡ false
    → operand ns wanted e lift made ≡ in_temporary ns (place_of e) (temporary_type wanted (type_of e)) (lifted_of ns e lift made)
operand_kept ns wanted e lift made h =
    ap (λ b. cond b (valued ns e (lift made)) (in_temporary ns (place_of e) (temporary_type wanted (type_of e)) (lifted_of ns e lift made))) h
