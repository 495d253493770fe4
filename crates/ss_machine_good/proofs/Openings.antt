-- The opening of a body, and the code after it.
use Rattle.std.proofs.Common.{◌≡◌, Bool, true, false, not, ◌&&◌, ◌||◌, Option, Some, None, refl}
use Rattle.std.specs.Prelude.{if◌then◌else◌}
use Rattle.std.proofs.lemmas.Bool.{false≢true, true≢false, and_parts, and_from}
use Rattle.ss_core.specs.Tree.{StmtTree, AssignStmt, WriteStmt, WriteElementStmt, NewStmt, NewArrayStmt, CallStmt, ReadyStmt, IfStmt, LoopStmt, UnpackStmt, PackStmt, AssertStmt, AssumeStmt, PrintStmt, PrintTextStmt, ReturnStmt, CodeTree, NoCode, Then, BodyTree, CoreTree}
use Rattle.ss_store_rules.specs.Locals.{each, each_inside}
use Rattle.ss_store_rules.specs.Paths.{Flow, Check, behind, at_end, holds_along, holds_at}
use Rattle.ss_store_rules.specs.Construction.{is_base_or_ready, opening, after_opening, is_below_object, wants_base, wants_ready}

-- ---- tests that each statement passes

module _ (P Q R : StmtTree → Bool) (so : (s : StmtTree) → P s ≡ true → Q s ≡ true → R s ≡ true) where
  mutual
    inside_both : (s : StmtTree) → each_inside P s ≡ true → each_inside Q s ≡ true → each_inside R s ≡ true
    inside_both (IfStmt p e a b) h g =
        let h1 = and_parts (P (IfStmt p e a b) && each P a) (each P b) h in
        let h2 = and_parts (P (IfStmt p e a b)) (each P a) h1.0 in
        let g1 = and_parts (Q (IfStmt p e a b) && each Q a) (each Q b) g in
        let g2 = and_parts (Q (IfStmt p e a b)) (each Q a) g1.0 in
        and_from (R (IfStmt p e a b) && each R a) (each R b) (and_from (R (IfStmt p e a b)) (each R a) (so (IfStmt p e a b) h2.0 g2.0) (each_both a h2.1 g2.1)) (each_both b h1.1 g1.1)
    inside_both (LoopStmt p invariants prelude e body exposes) h g =
        let s = LoopStmt p invariants prelude e body exposes in
        let h1 = and_parts (P s && each P prelude) (each P body) h in
        let h2 = and_parts (P s) (each P prelude) h1.0 in
        let g1 = and_parts (Q s && each Q prelude) (each Q body) g in
        let g2 = and_parts (Q s) (each Q prelude) g1.0 in
        and_from (R s && each R prelude) (each R body) (and_from (R s) (each R prelude) (so s h2.0 g2.0) (each_both prelude h2.1 g2.1)) (each_both body h1.1 g1.1)
    inside_both (AssignStmt p x e) h g = so (AssignStmt p x e) h g
    inside_both (WriteStmt p o f m t e) h g = so (WriteStmt p o f m t e) h g
    inside_both (WriteElementStmt p a i e) h g = so (WriteElementStmt p a i e) h g
    inside_both (NewStmt p x t es) h g = so (NewStmt p x t es) h g
    inside_both (NewArrayStmt p x t e) h g = so (NewArrayStmt p x t e) h g
    inside_both (CallStmt p x callee es) h g = so (CallStmt p x callee es) h g
    inside_both (ReadyStmt p) h g = so (ReadyStmt p) h g
    inside_both (UnpackStmt p x t) h g = so (UnpackStmt p x t) h g
    inside_both (PackStmt p x t) h g = so (PackStmt p x t) h g
    inside_both (AssertStmt p e) h g = so (AssertStmt p e) h g
    inside_both (AssumeStmt p e) h g = so (AssumeStmt p e) h g
    inside_both (PrintStmt p e newline) h g = so (PrintStmt p e newline) h g
    inside_both (PrintTextStmt p text newline) h g = so (PrintTextStmt p text newline) h g
    inside_both (ReturnStmt p e) h g = so (ReturnStmt p e) h g

    pub each_both : (code : CodeTree) → each P code ≡ true → each Q code ≡ true → each R code ≡ true
    each_both NoCode h g = refl
    each_both (Then s code) h g =
        let a = and_parts (each_inside P s) (each P code) h in
        let b = and_parts (each_inside Q s) (each Q code) g in
        and_from (each_inside R s) (each R code) (inside_both s a.0 b.0) (each_both code a.1 b.1)

pub each_so : (P Q : StmtTree → Bool) → ((s : StmtTree) → P s ≡ true → Q s ≡ true) → (code : CodeTree) → each P code ≡ true → each Q code ≡ true
each_so P Q so code h = each_both P P Q (λ s a b. so s a) code h h

-- ---- parts of the code

pub each_opening : (P : StmtTree → Bool) (code : CodeTree) → each P code ≡ true → each P (opening code) ≡ true
each_opening P NoCode h = refl
each_opening P (Then s code) h = let p = and_parts (each_inside P s) (each P code) h in here (is_base_or_ready s) p.0 (each_opening P code p.1)
  where
    here : (b : Bool) → each_inside P s ≡ true → each P (opening code) ≡ true → each P (if b then NoCode else Then s (opening code)) ≡ true
    here true i r = refl
    here false i r = and_from (each_inside P s) (each P (opening code)) i r

pub each_after : (P : StmtTree → Bool) (code : CodeTree) → each P code ≡ true → each P (after_opening code) ≡ true
each_after P NoCode h = refl
each_after P (Then s code) h = here (is_base_or_ready s) (each_after P code (and_parts (each_inside P s) (each P code) h).1)
  where
    here : (b : Bool) → each P (after_opening code) ≡ true → each P (if b then Then s code else after_opening code) ≡ true
    here true r = h
    here false r = r

pub each_of_parts : (P : StmtTree → Bool) (code : CodeTree) → each P (opening code) ≡ true → each P (after_opening code) ≡ true → each P code ≡ true
each_of_parts P NoCode h g = refl
each_of_parts P (Then s code) h g = here (is_base_or_ready s) (each_of_parts P code) h g
  where
    here : (b : Bool) → (each P (opening code) ≡ true → each P (after_opening code) ≡ true → each P code ≡ true) → each P (if b then NoCode else Then s (opening code)) ≡ true → each P (if b then Then s code else after_opening code) ≡ true → each P (Then s code) ≡ true
    here true r a d = d
    here false r a d = let p = and_parts (each_inside P s) (each P (opening code)) a in and_from (each_inside P s) (each P code) p.0 (r p.1 d)

-- a check holds along the code where it holds along both parts
pub along_parts : {S : Type 0} (f : Flow S) (c : Check S) (code : CodeTree) (o : Option S) → holds_along f c (opening code) o ≡ true → holds_along f c (after_opening code) (at_end f (opening code) o) ≡ true → holds_along f c code o ≡ true
along_parts f c NoCode o h g = refl
along_parts f c (Then s code) None h g = refl
along_parts {S} f c (Then s code) (Some k) h g = here (is_base_or_ready s) (along_parts f c code (behind f s k)) h g
  where
    here : (b : Bool) → (holds_along f c (opening code) (behind f s k) ≡ true → holds_along f c (after_opening code) (at_end f (opening code) (behind f s k)) ≡ true → holds_along f c code (behind f s k) ≡ true) → holds_along f c (if b then NoCode else Then s (opening code)) (Some k) ≡ true → holds_along f c (if b then Then s code else after_opening code) (at_end f (if b then NoCode else Then s (opening code)) (Some k)) ≡ true →
        holds_along f c (Then s code) (Some k) ≡ true
    here true r a d = d
    here false r a d =
        let p = and_parts (holds_at f c s k) (holds_along f c (opening code) (behind f s k)) a in
        and_from (holds_at f c s k) (holds_along f c code (behind f s k)) p.0 (r p.1 d)

-- ---- what an undelayed constructor wants

wants_if : (ctor delayed below_object other : Bool) → ctor ≡ true → delayed ≡ false → ((ctor && not below_object) || (ctor && not delayed && (below_object || other))) ≡ true
wants_if true false true other h g = refl
wants_if true false false other h g = refl
wants_if true true below_object other h g = absurd (true≢false g)
wants_if false delayed below_object other h g = absurd (false≢true h)

pub wants_one : (c : CoreTree) (b : BodyTree) → b.flags.ctor ≡ true → b.flags.delayed ≡ false → (wants_base c b || wants_ready c b) ≡ true
wants_one c b ctor undelayed = wants_if b.flags.ctor b.flags.delayed (is_below_object c b) _ ctor undelayed
