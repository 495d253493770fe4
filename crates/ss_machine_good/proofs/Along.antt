-- Checks that hold along code.
use Rattle.std.proofs.Common.{◌≡◌, Bool, true, false, ◌&&◌, Option, Some, None, refl}
use Rattle.std.specs.Prelude.{if◌then◌else◌, option_map}
use Rattle.std.proofs.lemmas.Bool.{and_parts, and_from}
use Rattle.ss_core.specs.Tree.{ExprTree, StmtTree, AssignStmt, WriteStmt, WriteElementStmt, NewStmt, NewArrayStmt, CallStmt, ReadyStmt, IfStmt, LoopStmt, UnpackStmt, PackStmt, AssertStmt, AssumeStmt, PrintStmt, PrintTextStmt, ReturnStmt, CodeTree, NoCode, Then}
use Rattle.ss_store_rules.specs.Locals.{each, each_inside}
use Rattle.ss_store_rules.specs.Paths.{is_literal_true, Flow, Check, behind, at_end, met, in_body, at_test, where_reached, holds_along, holds_at}

pub where_any : {S : Type 0} (test : S → Bool) → ((k : S) → test k ≡ true) → (o : Option S) → where_reached test o ≡ true
where_any test h None = refl
where_any test h (Some k) = h k

-- ---- a check that follows from another one and from what each statement is

module _ {S : Type 0} (f : Flow S) (c d : Check S) (P : StmtTree → Bool) (so : (s : StmtTree) (k : S) → P s ≡ true → c.statement s k ≡ true → d.statement s k ≡ true) (tests : (e : ExprTree) (k : S) → d.test e k ≡ true) where
  where_so : (s : StmtTree) (o : Option S) → P s ≡ true → where_reached (c.statement s) o ≡ true → where_reached (d.statement s) o ≡ true
  where_so s None p h = refl
  where_so s (Some k) p h = so s k p h

  mutual
    at_from : (s : StmtTree) (k : S) → each_inside P s ≡ true → holds_at f c s k ≡ true → holds_at f d s k ≡ true
    at_from (IfStmt p e a b) k h held =
        let x = and_parts (P (IfStmt p e a b) && each P a) (each P b) h in
        let y = and_parts (P (IfStmt p e a b)) (each P a) x.0 in
        let u = and_parts (c.statement (IfStmt p e a b) k && holds_along f c a (Some (f.tested e true k))) (holds_along f c b (Some (f.tested e false k))) held in
        let v = and_parts (c.statement (IfStmt p e a b) k) (holds_along f c a (Some (f.tested e true k))) u.0 in
        and_from (d.statement (IfStmt p e a b) k && holds_along f d a (Some (f.tested e true k))) (holds_along f d b (Some (f.tested e false k)))
        (and_from (d.statement (IfStmt p e a b) k) (holds_along f d a (Some (f.tested e true k))) (so (IfStmt p e a b) k y.0 v.0) (along_from a (Some (f.tested e true k)) y.1 v.1))
        (along_from b (Some (f.tested e false k)) x.1 u.1)
    at_from (LoopStmt p invariants prelude e body exposes) k h held =
        let s = LoopStmt p invariants prelude e body exposes in
        let x = and_parts (P s && each P prelude) (each P body) h in
        let y = and_parts (P s) (each P prelude) x.0 in
        let t = at_test f s prelude k in
        let i = in_body f e t in
        let z = at_end f body i in
        let u1 = and_parts (c.statement s k && holds_along f c prelude (Some (f.head s k)) && where_reached (c.test e) t && holds_along f c body i) (where_reached (c.statement s) z) held in
        let u2 = and_parts (c.statement s k && holds_along f c prelude (Some (f.head s k)) && where_reached (c.test e) t) (holds_along f c body i) u1.0 in
        let u3 = and_parts (c.statement s k && holds_along f c prelude (Some (f.head s k))) (where_reached (c.test e) t) u2.0 in
        let u4 = and_parts (c.statement s k) (holds_along f c prelude (Some (f.head s k))) u3.0 in
        and_from (d.statement s k && holds_along f d prelude (Some (f.head s k)) && where_reached (d.test e) t && holds_along f d body i) (where_reached (d.statement s) z)
        (and_from (d.statement s k && holds_along f d prelude (Some (f.head s k)) && where_reached (d.test e) t) (holds_along f d body i)
        (and_from (d.statement s k && holds_along f d prelude (Some (f.head s k))) (where_reached (d.test e) t)
        (and_from (d.statement s k) (holds_along f d prelude (Some (f.head s k))) (so s k y.0 u4.0) (along_from prelude (Some (f.head s k)) y.1 u4.1))
        (where_any (d.test e) (tests e) t))
        (along_from body i x.1 u2.1))
        (where_so s z y.0 u1.1)
    at_from (AssignStmt p x e) k h held = so (AssignStmt p x e) k h held
    at_from (WriteStmt p o g m t e) k h held = so (WriteStmt p o g m t e) k h held
    at_from (WriteElementStmt p a i e) k h held = so (WriteElementStmt p a i e) k h held
    at_from (NewStmt p x t es) k h held = so (NewStmt p x t es) k h held
    at_from (NewArrayStmt p x t e) k h held = so (NewArrayStmt p x t e) k h held
    at_from (CallStmt p x callee es) k h held = so (CallStmt p x callee es) k h held
    at_from (ReadyStmt p) k h held = so (ReadyStmt p) k h held
    at_from (UnpackStmt p x t) k h held = so (UnpackStmt p x t) k h held
    at_from (PackStmt p x t) k h held = so (PackStmt p x t) k h held
    at_from (AssertStmt p e) k h held = so (AssertStmt p e) k h held
    at_from (AssumeStmt p e) k h held = so (AssumeStmt p e) k h held
    at_from (PrintStmt p e newline) k h held = so (PrintStmt p e newline) k h held
    at_from (PrintTextStmt p text newline) k h held = so (PrintTextStmt p text newline) k h held
    at_from (ReturnStmt p e) k h held = so (ReturnStmt p e) k h held

    pub along_from : (code : CodeTree) (o : Option S) → each P code ≡ true → holds_along f c code o ≡ true → holds_along f d code o ≡ true
    along_from NoCode o h held = refl
    along_from (Then s code) None h held = refl
    along_from (Then s code) (Some k) h held =
        let x = and_parts (each_inside P s) (each P code) h in
        let u = and_parts (holds_at f c s k) (holds_along f c code (behind f s k)) held in
        and_from (holds_at f d s k) (holds_along f d code (behind f s k)) (at_from s k x.0 u.0) (along_from code (behind f s k) x.1 u.1)

-- nothing is asked
abbrev no_check : {S : Type 0} → Check S
no_check = record { statement = λ s k. true; test = λ e k. true }

module _ {S : Type 0} (f : Flow S) where
  mutual
    at_nothing : (s : StmtTree) (k : S) → holds_at f no_check s k ≡ true
    at_nothing (IfStmt p e a b) k = and_from (true && holds_along f no_check a (Some (f.tested e true k))) (holds_along f no_check b (Some (f.tested e false k))) (along_nothing a (Some (f.tested e true k))) (along_nothing b (Some (f.tested e false k)))
    at_nothing (LoopStmt p invariants prelude e body exposes) k =
        let s = LoopStmt p invariants prelude e body exposes in
        let t = at_test f s prelude k in
        let i = in_body f e t in
        and_from (holds_along f no_check prelude (Some (f.head s k)) && where_reached (λ z. true) t && holds_along f no_check body i) (where_reached (λ z. true) (at_end f body i))
        (and_from (holds_along f no_check prelude (Some (f.head s k)) && where_reached (λ z. true) t) (holds_along f no_check body i)
        (and_from (holds_along f no_check prelude (Some (f.head s k))) (where_reached (λ z. true) t) (along_nothing prelude (Some (f.head s k))) (where_any (λ z. true) (λ z. refl) t))
        (along_nothing body i))
        (where_any (λ z. true) (λ z. refl) (at_end f body i))
    at_nothing (AssignStmt p x e) k = refl
    at_nothing (WriteStmt p o g m t e) k = refl
    at_nothing (WriteElementStmt p a i e) k = refl
    at_nothing (NewStmt p x t es) k = refl
    at_nothing (NewArrayStmt p x t e) k = refl
    at_nothing (CallStmt p x callee es) k = refl
    at_nothing (ReadyStmt p) k = refl
    at_nothing (UnpackStmt p x t) k = refl
    at_nothing (PackStmt p x t) k = refl
    at_nothing (AssertStmt p e) k = refl
    at_nothing (AssumeStmt p e) k = refl
    at_nothing (PrintStmt p e newline) k = refl
    at_nothing (PrintTextStmt p text newline) k = refl
    at_nothing (ReturnStmt p e) k = refl

    along_nothing : (code : CodeTree) (o : Option S) → holds_along f no_check code o ≡ true
    along_nothing NoCode o = refl
    along_nothing (Then s code) None = refl
    along_nothing (Then s code) (Some k) = and_from (holds_at f no_check s k) (holds_along f no_check code (behind f s k)) (at_nothing s k) (along_nothing code (behind f s k))

  -- where each statement is such that its check holds, whatever is known
  pub along_each : (d : Check S) (P : StmtTree → Bool) → ((s : StmtTree) (k : S) → P s ≡ true → d.statement s k ≡ true) → ((e : ExprTree) (k : S) → d.test e k ≡ true) → (code : CodeTree) (o : Option S) → each P code ≡ true → holds_along f d code o ≡ true
  along_each d P so tests code o h = along_from f no_check d P (λ s k p q. so s k p) tests code o h (along_nothing code o)

-- ---- a check that holds wherever enough is known, which stays so

abbrev pub Where : {S : Type 0} → (S → Type 0) → Option S → Type 0
Where Enough None = Unit {0}
Where Enough (Some k) = Enough k

pub record IsEnough {S : Type 0} (f : Flow S) (c : Check S) (Enough : S → Type 0) : Type 0 where
  pub after : (s : StmtTree) (k : S) → Enough k → Enough (f.after s k)
  pub tested : (e : ExprTree) (v : Bool) (k : S) → Enough k → Enough (f.tested e v k)
  pub meet : (k l : S) → Enough k → Enough l → Enough (f.meet k l)
  pub head : (s : StmtTree) (k : S) → Enough k → Enough (f.head s k)
  pub statement : (s : StmtTree) (k : S) → Enough k → c.statement s k ≡ true
  pub test : (e : ExprTree) (k : S) → c.test e k ≡ true

module _ {S : Type 0} (f : Flow S) (c : Check S) (Enough : S → Type 0) (is : IsEnough f c Enough) where
  met_where : (o q : Option S) → Where Enough o → Where Enough q → Where Enough (met f o q)
  met_where None q h k = k
  met_where (Some x) None h k = h
  met_where (Some x) (Some y) h k = is.meet x y h k

  body_where : (e : ExprTree) (o : Option S) → Where Enough o → Where Enough (in_body f e o)
  body_where e None h = tt
  body_where e (Some k) h = is.tested e true k h

  left_where : (e : ExprTree) (literal : Bool) (o : Option S) → Where Enough o → Where Enough (if literal then None else option_map (f.tested e false) o)
  left_where e true o h = tt
  left_where e false None h = tt
  left_where e false (Some k) h = is.tested e false k h

  reached_where : (s : StmtTree) (o : Option S) → Where Enough o → where_reached (c.statement s) o ≡ true
  reached_where s None h = refl
  reached_where s (Some k) h = is.statement s k h

  mutual
    after_where : (s : StmtTree) (k : S) → Enough k → Where Enough (behind f s k)
    after_where (IfStmt p e a b) k h = met_where (at_end f a (Some (f.tested e true k))) (at_end f b (Some (f.tested e false k))) (end_where a (Some (f.tested e true k)) (is.tested e true k h)) (end_where b (Some (f.tested e false k)) (is.tested e false k h))
    after_where (LoopStmt p invariants prelude e body exposes) k h =
        let s = LoopStmt p invariants prelude e body exposes in
        left_where e (is_literal_true e) (at_end f prelude (Some (f.head s k))) (end_where prelude (Some (f.head s k)) (is.head s k h))
    after_where (AssignStmt p x e) k h = is.after (AssignStmt p x e) k h
    after_where (WriteStmt p o g m t e) k h = is.after (WriteStmt p o g m t e) k h
    after_where (WriteElementStmt p a i e) k h = is.after (WriteElementStmt p a i e) k h
    after_where (NewStmt p x t es) k h = is.after (NewStmt p x t es) k h
    after_where (NewArrayStmt p x t e) k h = is.after (NewArrayStmt p x t e) k h
    after_where (CallStmt p x callee es) k h = is.after (CallStmt p x callee es) k h
    after_where (ReadyStmt p) k h = is.after (ReadyStmt p) k h
    after_where (UnpackStmt p x t) k h = is.after (UnpackStmt p x t) k h
    after_where (PackStmt p x t) k h = is.after (PackStmt p x t) k h
    after_where (AssertStmt p e) k h = is.after (AssertStmt p e) k h
    after_where (AssumeStmt p e) k h = is.after (AssumeStmt p e) k h
    after_where (PrintStmt p e newline) k h = is.after (PrintStmt p e newline) k h
    after_where (PrintTextStmt p text newline) k h = is.after (PrintTextStmt p text newline) k h
    after_where (ReturnStmt p e) k h = tt

    pub end_where : (code : CodeTree) (o : Option S) → Where Enough o → Where Enough (at_end f code o)
    end_where NoCode o h = h
    end_where (Then s code) None h = tt
    end_where (Then s code) (Some k) h = end_where code (behind f s k) (after_where s k h)

  mutual
    at_where : (s : StmtTree) (k : S) → Enough k → holds_at f c s k ≡ true
    at_where (IfStmt p e a b) k h =
        and_from (c.statement (IfStmt p e a b) k && holds_along f c a (Some (f.tested e true k))) (holds_along f c b (Some (f.tested e false k)))
        (and_from (c.statement (IfStmt p e a b) k) (holds_along f c a (Some (f.tested e true k))) (is.statement (IfStmt p e a b) k h) (along_where a (Some (f.tested e true k)) (is.tested e true k h)))
        (along_where b (Some (f.tested e false k)) (is.tested e false k h))
    at_where (LoopStmt p invariants prelude e body exposes) k h =
        let s = LoopStmt p invariants prelude e body exposes in
        let t = at_test f s prelude k in
        let i = in_body f e t in
        let head = is.head s k h in
        let at = end_where prelude (Some (f.head s k)) head in
        let into = body_where e t at in
        and_from (c.statement s k && holds_along f c prelude (Some (f.head s k)) && where_reached (c.test e) t && holds_along f c body i) (where_reached (c.statement s) (at_end f body i))
        (and_from (c.statement s k && holds_along f c prelude (Some (f.head s k)) && where_reached (c.test e) t) (holds_along f c body i)
        (and_from (c.statement s k && holds_along f c prelude (Some (f.head s k))) (where_reached (c.test e) t)
        (and_from (c.statement s k) (holds_along f c prelude (Some (f.head s k))) (is.statement s k h) (along_where prelude (Some (f.head s k)) head))
        (where_any (c.test e) (is.test e) t))
        (along_where body i into))
        (reached_where s (at_end f body i) (end_where body i into))
    at_where (AssignStmt p x e) k h = is.statement (AssignStmt p x e) k h
    at_where (WriteStmt p o g m t e) k h = is.statement (WriteStmt p o g m t e) k h
    at_where (WriteElementStmt p a i e) k h = is.statement (WriteElementStmt p a i e) k h
    at_where (NewStmt p x t es) k h = is.statement (NewStmt p x t es) k h
    at_where (NewArrayStmt p x t e) k h = is.statement (NewArrayStmt p x t e) k h
    at_where (CallStmt p x callee es) k h = is.statement (CallStmt p x callee es) k h
    at_where (ReadyStmt p) k h = is.statement (ReadyStmt p) k h
    at_where (UnpackStmt p x t) k h = is.statement (UnpackStmt p x t) k h
    at_where (PackStmt p x t) k h = is.statement (PackStmt p x t) k h
    at_where (AssertStmt p e) k h = is.statement (AssertStmt p e) k h
    at_where (AssumeStmt p e) k h = is.statement (AssumeStmt p e) k h
    at_where (PrintStmt p e newline) k h = is.statement (PrintStmt p e newline) k h
    at_where (PrintTextStmt p text newline) k h = is.statement (PrintTextStmt p text newline) k h
    at_where (ReturnStmt p e) k h = is.statement (ReturnStmt p e) k h

    pub along_where : (code : CodeTree) (o : Option S) → Where Enough o → holds_along f c code o ≡ true
    along_where NoCode o h = refl
    along_where (Then s code) None h = refl
    along_where (Then s code) (Some k) h = and_from (holds_at f c s k) (holds_along f c code (behind f s k)) (at_where s k h) (along_where code (behind f s k) (after_where s k h))

-- ---- code in two parts

pub nothing_reached : {S : Type 0} (f : Flow S) (c : Check S) (code : CodeTree) → holds_along f c code None ≡ true
nothing_reached f c NoCode = refl
nothing_reached f c (Then s code) = refl

pub nothing_after : {S : Type 0} (f : Flow S) (code : CodeTree) → at_end f code None ≡ None
nothing_after f NoCode = refl
nothing_after f (Then s code) = refl
