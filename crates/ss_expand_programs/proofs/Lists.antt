-- Lists of statements, one after the other.
use Rattle.std.proofs.Common.{◌≡◌, ℕ, suc, ◌+◌, List, [], ◌∷◌, ◌++◌, take, drop, cond, Bool, true, false, Option, Some, None, refl, ap, sym, ◌∙◌, append_assoc, true≢false, arith, ◌-◌, length}
use Rattle.std.specs.Prelude.{if◌then◌else◌, ◌&&◌}
use Rattle.std.specs.List.{prefix_len}
use Rattle.std.proofs.lemmas.List.{append-nil, take_all, length-drop}
use Rattle.ss_core.specs.declared.names.Ty.{Ty}
use Rattle.ss_core.specs.Chain.{DeclaredField}
use Rattle.ss_core.specs.Tree.{ReturnStmt}
use Rattle.ss_typed.specs.Tree as typed
use Rattle.ss_typed.specs.Tree.{ExprTree, SimpleOf, ReturnOf, StmtTree, StmtTrees, NoMore, Before, stmt_trees, FieldTree, MembersTree, TypedTree}
use Rattle.ss_typed.specs.Shapes.{closing_brace}
use Rattle.ss_paths.specs.Fields.{field_numbers}
use Rattle.ss_paths.specs.Opening.{is_first}
use Rattle.ss_expand_rules.specs.Program.{field_at}
use Rattle.ss_typed.specs.Lookups.{members_of}
use Rattle.ss_expand_rules.specs.Code.{Coded, nothing, after, then_code}
use Rattle.ss_expand_rules.specs.Lifting.{ElaborationContext}
use Rattle.ss_expand_rules.specs.Simple.{base_call}
use Rattle.ss_expand_rules.specs.Ends.{can_end, all_can_end}
use Rattle.ss_expand_rules.specs.Constructors.{before_all, initialize, initializers_from, initializers_in, initializers, after_initial, base_alone}
use Rattle.ss_expand_rules.specs.Bodies.{with_return}
use Rattle.ss_expand_rules.specs.Statements.{packs, stmt, stmts}
use Rattle.ss_expand_programs.specs.Written.{last_return_of}
use Rattle.ss_expand_programs.proofs.Codes.{Code, coded, one_then}

-- ---- statements after others

behind_one : (b e : Bool) (a : Coded) (f g h : List Ty → Coded) → ((made : List Ty) → h made ≡ then_code (f made) (if e then g else nothing))
    → then_code a (if b then h else nothing) ≡ then_code (then_code a (if b then f else nothing)) (if b && e then g else nothing)
behind_one true e a f g h k =
    let more : Coded = (if e then g else nothing) (f a.made).made in
    ap (λ (x : Coded). after a.code x) (k a.made) ∙ ap (λ (c : Code). coded c more.made) (sym (append_assoc a.code (f a.made).code more.code))
behind_one false e a f g h k = ap (λ (c : Code). coded c a.made) (sym (append-nil (a.code ++ [])))

pub stmts_all : (s : ElaborationContext) (xs ys : StmtTrees) (made : List Ty) → stmts s (before_all xs ys) made ≡ then_code (stmts s xs made) (if all_can_end xs then stmts s ys else nothing)
stmts_all s NoMore ys made = refl
stmts_all s (Before x xs) ys made = behind_one (can_end x) (all_can_end xs) (stmt s x made) (stmts s xs) (stmts s ys) (stmts s (before_all xs ys)) (λ m. stmts_all s xs ys m)

and_assoc : (a b c : Bool) → (a && (b && c)) ≡ ((a && b) && c)
and_assoc true b c = refl
and_assoc false b c = refl

pub ends_all : (xs ys : StmtTrees) → all_can_end (before_all xs ys) ≡ (all_can_end xs && all_can_end ys)
ends_all NoMore ys = refl
ends_all (Before x xs) ys = ap (λ b. can_end x && b) (ends_all xs ys) ∙ and_assoc (can_end x) (all_can_end xs) (all_can_end ys)

-- ---- the last return

last_code : (e : Bool) (s : ElaborationContext) (a : Coded)
    → then_code a (if e then stmts s (Before (ReturnOf (closing_brace s.body.block) None) NoMore) else nothing) ≡ coded (a.code ++ last_return_of None s e) a.made
last_code true s a = ap (λ (c : Code). coded (a.code ++ c) a.made) (append-nil (packs s (closing_brace s.body.block) ++ ReturnStmt (closing_brace s.body.block) None ∷ []))
last_code false s a = refl

pub with_last : (s : ElaborationContext) (r : Option Ty) (ss : StmtTrees) (made : List Ty) → stmts s (with_return s.body r ss) made ≡ coded ((stmts s ss made).code ++ last_return_of r s (all_can_end ss)) (stmts s ss made).made
with_last s (Some t) ss made = ap (λ (c : Code). coded c (stmts s ss made).made) (sym (append-nil (stmts s ss made).code))
with_last s None ss made = stmts_all s ss (Before (ReturnOf (closing_brace s.body.block) None) NoMore) made ∙ last_code (all_can_end ss) s (stmts s ss made)

pub all_written : (s : ElaborationContext) (r : Option Ty) (ss : StmtTrees) (c0 c1 c2 : Code) (m0 m1 : List Ty) (reached : Bool)
    → coded c1 m1 ≡ after c0 (stmts s ss m0) → reached ≡ all_can_end ss → c2 ≡ c1 ++ last_return_of r s reached
    → coded c2 m1 ≡ after c0 (stmts s (with_return s.body r ss) m0)
all_written s r ss c0 c1 c2 m0 m1 reached e1 e e2 =
    let last = last_return_of r s (all_can_end ss) in
    ap (λ (c : Code). coded c m1) (e2 ∙ ap (λ (b : Bool). c1 ++ last_return_of r s b) e)
    ∙ ap (λ (x : Coded). coded (x.code ++ last) x.made) e1
    ∙ ap (λ (c : Code). coded c (stmts s ss m0).made) (append_assoc c0 (stmts s ss m0).code last)
    ∙ ap (λ (x : Coded). after c0 x) (sym (with_last s r ss m0))

-- ---- the assignments with which a block begins

initial_ends : (p : TypedTree) (t : ℕ) (s : StmtTree) → is_first p t s ≡ true → can_end s ≡ true
initial_ends p t (SimpleOf x) h = refl
initial_ends p t s h = absurd (true≢false (sym h))

split_one : (b : Bool) (p : TypedTree) (t : ℕ) (s x : StmtTree) (ss : List StmtTree) → is_first p t s ≡ b
    → after_initial p t x (stmt_trees ss) ≡ before_all (stmt_trees (take (prefix_len (is_first p t) ss) ss)) (Before x (stmt_trees (drop (prefix_len (is_first p t) ss) ss)))
    → (if b then Before s (after_initial p t x (stmt_trees ss)) else Before x (Before s (stmt_trees ss)))
    ≡ before_all (stmt_trees (take (cond b (1 + prefix_len (is_first p t) ss) 0) (s ∷ ss))) (Before x (stmt_trees (drop (cond b (1 + prefix_len (is_first p t) ss) 0) (s ∷ ss))))
split_one true p t s x ss h k =
    let n = prefix_len (is_first p t) ss in
    let more : 1 + n ≡ suc n = omega arith in
    ap (Before s) k ∙ ap (λ m. before_all (stmt_trees (take m (s ∷ ss))) (Before x (stmt_trees (drop m (s ∷ ss))))) (sym more)
split_one false p t s x ss h k = refl

pub split_initial : (p : TypedTree) (t : ℕ) (x : StmtTree) (ss : List StmtTree)
    → after_initial p t x (stmt_trees ss) ≡ before_all (stmt_trees (take (prefix_len (is_first p t) ss) ss)) (Before x (stmt_trees (drop (prefix_len (is_first p t) ss) ss)))
split_initial p t x [] = refl
split_initial p t x (s ∷ ss) = split_one (is_first p t s) p t s x ss refl (split_initial p t x ss)

front_one : (b : Bool) (p : TypedTree) (t : ℕ) (s : StmtTree) (ss : List StmtTree) → is_first p t s ≡ b
    → all_can_end (stmt_trees (take (prefix_len (is_first p t) ss) ss)) ≡ true
    → all_can_end (stmt_trees (take (cond b (1 + prefix_len (is_first p t) ss) 0) (s ∷ ss))) ≡ true
front_one true p t s ss h k =
    let n = prefix_len (is_first p t) ss in
    let more : 1 + n ≡ suc n = omega arith in
    ap (λ m. all_can_end (stmt_trees (take m (s ∷ ss)))) more ∙ ap (λ b. b && all_can_end (stmt_trees (take n ss))) (initial_ends p t s h) ∙ k
front_one false p t s ss h k = refl

pub front_ends : (p : TypedTree) (t : ℕ) (ss : List StmtTree) → all_can_end (stmt_trees (take (prefix_len (is_first p t) ss) ss)) ≡ true
front_ends p t [] = refl
front_ends p t (s ∷ ss) = front_one (is_first p t s) p t s ss refl (front_ends p t ss)

-- ---- `base()` between statements

-- what stands after the first n
pub rest_of : {X : Type 0} (n : ℕ) (xs : List X) → take (length xs - n) (drop n xs) ≡ drop n xs
rest_of n xs = take_all (length xs - n) (drop n xs) (omega (arith, length-drop n xs))

pub between : (s : ElaborationContext) (front others : StmtTrees) (c0 c1 c2 c3 : Code) (m0 m1 m2 m3 : List Ty)
    → all_can_end front ≡ true → coded c1 m1 ≡ after c0 (stmts s front m0) → coded c2 m2 ≡ after c1 (base_call s s.body.place typed.NoMore m1)
    → coded c3 m3 ≡ after c2 (stmts s others m2)
    → coded c3 m3 ≡ after c0 (stmts s (before_all front (Before (base_alone s.body) others)) m0)
between s front others c0 c1 c2 c3 m0 m1 m2 m3 h e1 e2 e3 =
    let more = Before (base_alone s.body) others in
    let second : coded c3 m3 ≡ after c1 (stmts s more m1) = one_then c1 c2 c3 m2 m3 (base_call s s.body.place typed.NoMore m1) (stmts s others) e2 e3 in
    one_then c0 c1 c3 m1 m3 (stmts s front m0) (stmts s more) e1 second
    ∙ ap (λ (x : Coded). after c0 x) (ap (λ (b : Bool). then_code (stmts s front m0) (if b then stmts s more else nothing)) (sym h) ∙ sym (stmts_all s front more m0))

-- ---- the beginnings of fields

pub initialize_all : (t f : ℕ) (m : FieldTree) (i : Option ExprTree) (d : Option DeclaredField) (rest more : StmtTrees) → before_all (initialize t f m i d rest) more ≡ initialize t f m i d (before_all rest more)
initialize_all t f m None d rest more = refl
initialize_all t f m (Some e) None rest more = refl
initialize_all t f m (Some e) (Some d) rest more = refl

initialize_ends : (t f : ℕ) (m : FieldTree) (i : Option ExprTree) (d : Option DeclaredField) (rest : StmtTrees) → all_can_end rest ≡ true → all_can_end (initialize t f m i d rest) ≡ true
initialize_ends t f m None d rest h = h
initialize_ends t f m (Some e) None rest h = h
initialize_ends t f m (Some e) (Some d) rest h = h

fields_end : (p : TypedTree) (t f : ℕ) (ms : List FieldTree) → all_can_end (initializers_from p t f ms) ≡ true
fields_end p t f [] = refl
fields_end p t f (m ∷ ms) = initialize_ends t f m m.initial (field_at p f) (initializers_from p t (f + 1) ms) (fields_end p t (f + 1) ms)

members_end : (p : TypedTree) (t : ℕ) (m : Option MembersTree) → all_can_end (initializers_in p t m) ≡ true
members_end p t None = refl
members_end p t (Some m) = fields_end p t (field_numbers p t).first m.fields

-- their end can be reached
pub after_initializers : (p : TypedTree) (t : ℕ) (more : StmtTrees) → all_can_end more ≡ all_can_end (before_all (initializers p t) more)
after_initializers p t more = sym (ends_all (initializers p t) more ∙ ap (λ b. b && all_can_end more) (members_end p t (members_of p t)))
