-- What is made of lifted parts, after the code before them.
use Rattle.std.proofs.Common.{◌≡◌, ℕ, List, [], ◌∷◌, ◌++◌, Bool, true, false, cond, refl, ap, sym, ◌∙◌, append_assoc, true≢false}
use Rattle.std.specs.Prelude.{◌||◌}
use Rattle.std.proofs.lemmas.List.{append-nil}
use Rattle.ss_core.specs.declared.names.Place.{Place}
use Rattle.ss_core.specs.declared.names.Ty.{Ty}
use Rattle.ss_core.specs.declared.names.Ty.TheVariants as ty
use Rattle.ss_core.specs.declared.expr.Operator.{Operator}
use Rattle.ss_core.specs.declared.expr.Operator.TheVariants as op
use Rattle.ss_core.specs.Tree as core
use Rattle.ss_core.specs.Tree.{LocalExpr, NotExpr, BinaryExpr, IfStmt, NoCode}
use Rattle.ss_core.specs.View.{code_of}
use Rattle.ss_typed.specs.Tree.{ExprTree, NewArrayOf, Arguments, Argument}
use Rattle.ss_expand_rules.specs.Numbers.{Numbers, plain, plain_arguments}
use Rattle.ss_expand_rules.specs.Calls.{has_call, have_call, is_lazy_operator}
use Rattle.ss_typed.specs.Shapes.{place_of}
use Rattle.ss_expand_rules.specs.Lifting.{ElaborationContext, Source, Pure, CreatedArray, put, Lifted, Valued, Listed, unlifted, lifted_of, lifted, right_side, unary, binary, operand, operation, lazily, lazily_in, in_temporary, next, negated, called, and_operands, no_operands, only_of, operands_of, valued, in_temporaries, first_type, other_types, any_object}
use Rattle.ss_expand_expressions.specs.Sources.{lifted_after, valued_after, listed_after}
use Rattle.ss_expand_expressions.specs.Operands.{valued_as}
use Rattle.ss_expand_expressions.proofs.Behind.{in_temporary_after}
use Rattle.ss_expand_lifting.specs.Operations.{is_and, test_of, receiver_of, size_of, values_of}

abbrev pub lifted_as : List core.StmtTree → Source → List Ty → Lifted
lifted_as code s made = record { code = code; source = s; made = made }

abbrev pub listed_as : List core.StmtTree → List core.ExprTree → List Ty → Listed
listed_as code es made = record { code = code; values = es; made = made }

-- ---- without calls

pub with_call : (s : ElaborationContext) (e : ExprTree) (made : List Ty) → has_call e ≡ true → right_side s e made ≡ lifted s e made
with_call s e made h = ap (λ b. cond b (lifted s e made) (unlifted (plain s.numbers e) made)) h

pub without_call : (s : ElaborationContext) (e : ExprTree) (made : List Ty) → has_call e ≡ false → right_side s e made ≡ unlifted (plain s.numbers e) made
without_call s e made h = ap (λ b. cond b (lifted s e made) (unlifted (plain s.numbers e) made)) h

pub unlifted_after : (before : List core.StmtTree) (e v : core.ExprTree) (made : List Ty) → v ≡ e → lifted_as before (Pure v) made ≡ lifted_after before (unlifted e made)
unlifted_after before e v made h = ap (λ x. lifted_as before (Pure x) made) h ∙ ap (λ code. lifted_as code (Pure e) made) (sym (append-nil before))

pub value_as_it_is : (before : List core.StmtTree) (e v : core.ExprTree) (made : List Ty) → v ≡ e → valued_as before v made ≡ valued_after before (record { code = []; value = e; made = made })
value_as_it_is before e v made h = ap (λ x. valued_as before x made) h ∙ ap (λ code. valued_as code e made) (sym (append-nil before))

pub values_as_they_are : (before : List core.StmtTree) (es vs : List core.ExprTree) (made : List Ty) → vs ≡ es → listed_as before vs made ≡ listed_after before (record { code = []; values = es; made = made })
values_as_they_are before es vs made h = ap (λ x. listed_as before x made) h ∙ ap (λ code. listed_as code es made) (sym (append-nil before))

-- ---- operations

pub unary_after : (f : core.ExprTree → core.ExprTree) (before now : List core.StmtTree) (a : Valued) (v value : core.ExprTree) (made : List Ty)
    → valued_as now v made ≡ valued_after before a → value ≡ f v → lifted_as now (Pure value) made ≡ lifted_after before (unary f a)
unary_after f before now a v value made h e = ap (λ x. lifted_as now (Pure x) made) e ∙ ap (unary f) h

pub binary_after : (f : core.ExprTree → core.ExprTree → core.ExprTree) (before now after : List core.StmtTree) (a : Valued) (b : List Ty → Valued) (left right value : core.ExprTree) (made more : List Ty)
    → valued_as now left made ≡ valued_after before a → valued_as after right more ≡ valued_after now (b made) → value ≡ f left right
    → lifted_as after (Pure value) more ≡ lifted_after before (binary f a b)
binary_after f before now after a b left right value made more h k e =
    ap (λ x. lifted_as after (Pure x) more) e
    ∙ ap (λ (v : Valued). lifted_as v.code (Pure (f left v.value)) v.made) k
    ∙ ap (λ (w : Valued). lifted_as (w.code ++ (b w.made).code) (Pure (f w.value (b w.made).value)) (b w.made).made) h
    ∙ ap (λ code. lifted_as code (Pure (f a.value (b a.made).value)) (b a.made).made) (append_assoc before a.code (b a.made).code)

pub strict_operation : (ns : Numbers) (p : Place) (o : Operator) (a b : ExprTree) (la lb : List Ty → Lifted) (made : List Ty) → is_lazy_operator o ≡ false
    → operation ns p o a b la lb made ≡ binary (BinaryExpr p o) (operand ns any_object a la made) (operand ns any_object b lb)
strict_operation ns p op.And a b la lb made h = absurd (true≢false h)
strict_operation ns p op.Or a b la lb made h = absurd (true≢false h)
strict_operation ns p o a b la lb made h = refl

pub lazy_operation : (ns : Numbers) (p : Place) (o : Operator) (a b : ExprTree) (la lb : List Ty → Lifted) (made : List Ty) → is_lazy_operator o ≡ true
    → operation ns p o a b la lb made ≡ lazily ns p a b (test_of p (is_and o)) (lifted_of ns a la made) (lifted_of ns b lb)
lazy_operation ns p op.And a b la lb made h = refl
lazy_operation ns p op.Or a b la lb made h = refl
lazy_operation ns p o a b la lb made h = absurd (true≢false (sym h))

-- ---- lazy operations

abbrev lazy_if : Place → ExprTree → (core.ExprTree → core.ExprTree) → ℕ → Lifted → List core.StmtTree
lazy_if p b test x second = IfStmt p (test (LocalExpr p x)) (code_of (second.code ++ put (place_of b) x second.source ∷ [])) NoCode ∷ []

pub lazily_after : (ns : Numbers) (p : Place) (a b : ExprTree) (test : core.ExprTree → core.ExprTree) (before now : List core.StmtTree) (first : Lifted) (second : List Ty → Lifted) (v : core.ExprTree) (made : List Ty) (x : ℕ)
    → x ≡ next ns first.made → valued_as now v made ≡ valued_after before (in_temporary ns (place_of a) ty.Bool first)
    → lazily_in p b test x (valued_as now v made) second ≡ lifted_after before (lazily ns p a b test first second)
lazily_after ns p a b test before now first second v made x n h =
    let kept = in_temporary ns (place_of a) ty.Bool first in
    ap (λ (w : Valued). lazily_in p b test x w second) h
    ∙ ap (λ code. lifted_as code (Pure (LocalExpr p x)) (second kept.made).made) (append_assoc before kept.code (lazy_if p b test x (second kept.made)))
    ∙ ap (λ k. lifted_after before (lazily_in p b test k kept second)) n

-- what has been begun after other code
pub begun_after : (ns : Numbers) (p : Place) (t : Ty) (before : List core.StmtTree) (v : Valued) (l first : Lifted) → v ≡ in_temporary ns p t l → l ≡ lifted_after before first
    → v ≡ valued_after before (in_temporary ns p t first)
begun_after ns p t before v l first h e = h ∙ ap (in_temporary ns p t) e ∙ in_temporary_after ns p t before first

-- ---- the negation of a lazy operation's left side

pub negated_with : (ns : Numbers) (a : ExprTree) (lift : List Ty → Lifted) (made : List Ty) → has_call a ≡ true → negated ns a lift made ≡ unary (NotExpr (place_of a)) (operand ns ty.Bool a lift made)
negated_with ns a lift made h = ap (λ b. cond b (unary (NotExpr (place_of a)) (operand ns ty.Bool a lift made)) (unlifted (NotExpr (place_of a) (plain ns a)) made)) h

pub negated_without : (ns : Numbers) (a : ExprTree) (lift : List Ty → Lifted) (made : List Ty) → has_call a ≡ false → negated ns a lift made ≡ unlifted (NotExpr (place_of a) (plain ns a)) made
negated_without ns a lift made h = ap (λ b. cond b (unary (NotExpr (place_of a)) (operand ns ty.Bool a lift made)) (unlifted (NotExpr (place_of a) (plain ns a)) made)) h

-- ---- calls

pub called_after : (f : List core.ExprTree → Source) (before now : List core.StmtTree) (l : Listed) (vs : List core.ExprTree) (made : List Ty)
    → listed_as now vs made ≡ listed_after before l → lifted_as now (f vs) made ≡ lifted_after before (called f l)
called_after f before now l vs made h = ap (called f) h

pub first_and_others : (before now after : List core.StmtTree) (v : Valued) (others : List Ty → Listed) (value : core.ExprTree) (values : List core.ExprTree) (made more : List Ty)
    → valued_as now value made ≡ valued_after before v → listed_as after values more ≡ listed_after now (others made)
    → listed_as after (value ∷ values) more ≡ listed_after before (and_operands v others)
first_and_others before now after v others value values made more h k =
    ap (λ (l : Listed). listed_as l.code (value ∷ l.values) l.made) k
    ∙ ap (λ (w : Valued). listed_as (w.code ++ (others w.made).code) (w.value ∷ (others w.made).values) (others w.made).made) h
    ∙ ap (λ code. listed_as code (v.value ∷ (others v.made).values) (others v.made).made) (append_assoc before v.code (others v.made).code)

first_and_plain : (before now after : List core.StmtTree) (e value : core.ExprTree) (es values : List core.ExprTree) (types made more : List Ty)
    → valued_as now value made ≡ valued_after before (record { code = []; value = e; made = types }) → listed_as after values more ≡ listed_after now (record { code = []; values = es; made = made })
    → listed_as after (value ∷ values) more ≡ listed_after before (record { code = []; values = e ∷ es; made = types })
first_and_plain before now after e value es values types made more h k =
    ap (λ (l : Listed). listed_as l.code (value ∷ l.values) l.made) k
    ∙ ap (λ (w : Valued). listed_as (w.code ++ []) (w.value ∷ es) w.made) h
    ∙ ap (λ code. listed_as code (e ∷ es) types) (append-nil (before ++ []))

receiver_cases : (s : ElaborationContext) (ts : List Ty) (e : ExprTree) (es : Arguments) (kept : Bool) (before now after : List core.StmtTree) (value : core.ExprTree) (values : List core.ExprTree) (types made more : List Ty)
    → valued_as now value made ≡ valued_after before (cond kept (operand s.numbers any_object e (lifted s e) types) (record { code = []; value = plain s.numbers e; made = types }))
    → listed_as after values more ≡ listed_after now (values_of s ts kept es made)
    → listed_as after (value ∷ values) more
    ≡ listed_after before (cond kept (and_operands (operand s.numbers any_object e (lifted s e) types) (in_temporaries s ts es)) (record { code = []; values = plain s.numbers e ∷ plain_arguments s.numbers es; made = types }))
receiver_cases s ts e es true before now after value values types made more h k = first_and_others before now after (operand s.numbers any_object e (lifted s e) types) (in_temporaries s ts es) value values made more h k
receiver_cases s ts e es false before now after value values types made more h k = first_and_plain before now after _ value _ values types made more h k

-- the receiver, and then the arguments
pub receiver_and_arguments : (s : ElaborationContext) (ts : List Ty) (e : ExprTree) (es : Arguments) (kept in_arguments : Bool) (before now after : List core.StmtTree) (value : core.ExprTree) (values : List core.ExprTree) (types made more : List Ty)
    → in_arguments ≡ have_call es → kept ≡ (has_call e || in_arguments)
    → valued_as now value made ≡ valued_after before (receiver_of s in_arguments e types)
    → listed_as after values more ≡ listed_after now (values_of s ts kept es made)
    → listed_as after (value ∷ values) more
    ≡ listed_after before (operands_of s.numbers (Argument e es) (λ made. and_operands (operand s.numbers any_object e (lifted s e) made) (in_temporaries s ts es)) types)
receiver_and_arguments s ts e es kept in_arguments before now after value values types made more a b h k =
    receiver_cases s ts e es (has_call e || have_call es) before now after value values types made more
    (h ∙ ap (λ x. valued_after before (receiver_of s x e types)) a)
    (k ∙ ap (λ x. listed_after now (values_of s ts x es made)) (b ∙ ap (λ x. has_call e || x) a))

-- ---- new arrays

size_cases : (p : Place) (t : ℕ) (s : ElaborationContext) (e : ExprTree) (call : Bool) (before now : List core.StmtTree) (v : core.ExprTree) (types made : List Ty)
    → valued_as now v made ≡ valued_after before (cond call (operand s.numbers any_object e (lifted s e) types) (record { code = []; value = plain s.numbers e; made = types }))
    → lifted_as now (CreatedArray p t v) made
    ≡ lifted_after before (called (λ vs. CreatedArray p t (only_of p vs)) (cond (call || false) (and_operands (operand s.numbers any_object e (lifted s e) types) no_operands) (record { code = []; values = plain s.numbers e ∷ []; made = types })))
size_cases p t s e true before now v types made h =
    let o = operand s.numbers any_object e (lifted s e) types in
    ap (λ (w : Valued). lifted_as w.code (CreatedArray p t w.value) w.made) h
    ∙ ap (λ code. lifted_as (before ++ code) (CreatedArray p t o.value) o.made) (sym (append-nil o.code))
size_cases p t s e false before now v types made h = ap (λ (w : Valued). lifted_as w.code (CreatedArray p t w.value) w.made) h

pub array_after : (p : Place) (t : ℕ) (s : ElaborationContext) (e : ExprTree) (before now : List core.StmtTree) (v : core.ExprTree) (types made : List Ty)
    → valued_as now v made ≡ valued_after before (size_of s e types) → lifted_as now (CreatedArray p t v) made ≡ lifted_after before (lifted s (NewArrayOf p t e) types)
array_after p t s e before now v types made h = size_cases p t s e (has_call e) before now v types made h

-- ---- arguments one by one

-- values and code before those of a list
abbrev pub listed_onto : List core.StmtTree → List core.ExprTree → Listed → Listed
listed_onto code values l = record { code = code ++ l.code; values = values ++ l.values; made = l.made }

pub one_more_argument : (s : ElaborationContext) (ts : List Ty) (e : ExprTree) (es : Arguments) (before now : List core.StmtTree) (values : List core.ExprTree) (v : core.ExprTree) (types made : List Ty)
    → valued_as now v made ≡ valued_after before (operand s.numbers (first_type ts) e (lifted s e) types)
    → listed_onto now (values ++ v ∷ []) (in_temporaries s (other_types ts) es made) ≡ listed_onto before values (in_temporaries s ts (Argument e es) types)
one_more_argument s ts e es before now values v types made h =
    let o = operand s.numbers (first_type ts) e (lifted s e) types in
    let others = in_temporaries s (other_types ts) es o.made in
    ap (λ (w : Valued). listed_onto w.code (values ++ w.value ∷ []) (in_temporaries s (other_types ts) es w.made)) h
    ∙ ap (λ code. listed_as code ((values ++ o.value ∷ []) ++ others.values) others.made) (append_assoc before o.code others.code)
    ∙ ap (λ vs. listed_as (before ++ (o.code ++ others.code)) vs others.made) (append_assoc values (o.value ∷ []) others.values)

pub no_more_arguments : (code : List core.StmtTree) (values : List core.ExprTree) (made : List Ty) → listed_onto code values (no_operands made) ≡ listed_as code values made
no_more_arguments code values made = ap (λ c. listed_as c (values ++ []) made) (append-nil code) ∙ ap (λ vs. listed_as code vs made) (append-nil values)

-- ---- operands for which any reference is wanted

pub kept_any : (s : ElaborationContext) (w : Ty) (e : ExprTree) (before : List core.StmtTree) (types : List Ty) → w ≡ any_object
    → valued_after before (operand s.numbers w e (lifted s e) types) ≡ valued_after before (operand s.numbers any_object e (lifted s e) types)
kept_any s w e before types h = ap (λ t. valued_after before (operand s.numbers t e (lifted s e) types)) h

pub unary_kept : (f : core.ExprTree → core.ExprTree) (s : ElaborationContext) (a : ExprTree) (w : Ty) (before now : List core.StmtTree) (v value : core.ExprTree) (types made : List Ty)
    → w ≡ any_object → valued_as now v made ≡ valued_after before (operand s.numbers w a (lifted s a) types) → value ≡ f v
    → lifted_as now (Pure value) made ≡ lifted_after before (unary f (operand s.numbers any_object a (lifted s a) types))
unary_kept f s a w before now v value types made any h e = unary_after f before now (operand s.numbers any_object a (lifted s a) types) v value made (h ∙ kept_any s w a before types any) e

pub binary_kept : (f : core.ExprTree → core.ExprTree → core.ExprTree) (s : ElaborationContext) (a b : ExprTree) (w u : Ty) (before now after : List core.StmtTree) (left right value : core.ExprTree) (types made more : List Ty)
    → w ≡ any_object → u ≡ any_object → valued_as now left made ≡ valued_after before (operand s.numbers w a (lifted s a) types)
    → valued_as after right more ≡ valued_after now (operand s.numbers u b (lifted s b) made) → value ≡ f left right
    → lifted_as after (Pure value) more ≡ lifted_after before (binary f (operand s.numbers any_object a (lifted s a) types) (operand s.numbers any_object b (lifted s b)))
binary_kept f s a b w u before now after left right value types made more any also h k e =
    binary_after f before now after (operand s.numbers any_object a (lifted s a) types) (operand s.numbers any_object b (lifted s b)) left right value made more
    (h ∙ kept_any s w a before types any) (k ∙ kept_any s u b now made also) e

pub receiver_kept : (s : ElaborationContext) (in_arguments : Bool) (e : ExprTree) (types : List Ty) → (has_call e || in_arguments) ≡ true → receiver_of s in_arguments e types ≡ operand s.numbers any_object e (lifted s e) types
receiver_kept s in_arguments e types h = ap (λ b. cond b (operand s.numbers any_object e (lifted s e) types) (valued_as [] (plain s.numbers e) types)) h

pub receiver_plain : (s : ElaborationContext) (in_arguments : Bool) (e : ExprTree) (types : List Ty) → (has_call e || in_arguments) ≡ false → receiver_of s in_arguments e types ≡ valued_as [] (plain s.numbers e) types
receiver_plain s in_arguments e types h = ap (λ b. cond b (operand s.numbers any_object e (lifted s e) types) (valued_as [] (plain s.numbers e) types)) h

pub first_is_false : (a b : Bool) → (a || b) ≡ false → a ≡ false
first_is_false true b h = absurd (true≢false h)
first_is_false false b h = refl

-- the value of an expression without calls that has been lifted
pub plain_valued : (s : ElaborationContext) (e : ExprTree) (before code : List core.StmtTree) (types made : List Ty) (x : Source) (v : Valued)
    → lifted_as code x made ≡ lifted_after before (right_side s e types) → has_call e ≡ false → v ≡ valued s.numbers e (lifted_as code x made)
    → v ≡ valued_after before (valued_as [] (plain s.numbers e) types)
plain_valued s e before code types made x v h n k = k ∙ ap (valued s.numbers e) (h ∙ ap (lifted_after before) (without_call s e types n))

-- ---- arguments

pub values_kept : (s : ElaborationContext) (ts : List Ty) (kept : Bool) (es : Arguments) (types : List Ty) → kept ≡ true → values_of s ts kept es types ≡ in_temporaries s ts es types
values_kept s ts kept es types h = ap (λ b. values_of s ts b es types) h

pub values_plain : (s : ElaborationContext) (ts : List Ty) (kept : Bool) (es : Arguments) (types : List Ty) → kept ≡ false → values_of s ts kept es types ≡ listed_as [] (plain_arguments s.numbers es) types
values_plain s ts kept es types h = ap (λ b. values_of s ts b es types) h

pub size_kept : (s : ElaborationContext) (e : ExprTree) (types : List Ty) → has_call e ≡ true → size_of s e types ≡ operand s.numbers any_object e (lifted s e) types
size_kept s e types h = ap (λ b. cond b (operand s.numbers any_object e (lifted s e) types) (valued_as [] (plain s.numbers e) types)) h

pub size_plain : (s : ElaborationContext) (e : ExprTree) (types : List Ty) → has_call e ≡ false → size_of s e types ≡ valued_as [] (plain s.numbers e) types
size_plain s e types h = ap (λ b. cond b (operand s.numbers any_object e (lifted s e) types) (valued_as [] (plain s.numbers e) types)) h
