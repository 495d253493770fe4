-- One theorem over flows: what is known at a position stays true along each step.
use Rattle.std.proofs.Common.{◌≡◌, List, [], ◌∷◌, ◌++◌, Bool, true, false, ◌&&◌, not, Option, Some, None, refl, sym, ◌∙◌, ap, subst, inl, inr, ⊎_elim}
use Rattle.std.specs.Prelude.{if◌then◌else◌, option_map, option_and_then}
use Rattle.std.proofs.lemmas.Bool.{false≢true, true≢false, and_parts, and_cases, or_parts}
use Rattle.ss_core.specs.declared.names.Place.{Place}
use Rattle.ss_core.specs.Tree.{ExprTree, StmtTree, AssignStmt, WriteStmt, WriteElementStmt, NewStmt, NewArrayStmt, CallStmt, ReadyStmt, IfStmt, LoopStmt, UnpackStmt, PackStmt, AssertStmt, AssumeStmt, PrintStmt, PrintTextStmt, ReturnStmt, CodeTree, NoCode, Then}
use Rattle.ss_store_rules.specs.Paths.{is_literal_true, passes, reaches_end, Flow, Check, behind, at_end, met, in_body, left, where_reached, holds_along, holds_at}
use Rattle.ss_machine_rules.specs.States.{Due, Statement, Test, dues}
use Rattle.ss_machine_good.specs.Flows.{is_simple, Means, Loop, stmt_of, known_at_test, known_at_end, IsReached, IsLeft, IsKnown, IsSound, IsBefore, IsEnd, IsFork, IsHead, IsTested, GoesAlong}

not_false : (b : Bool) → not b ≡ false → b ≡ true
not_false true h = refl
not_false false h = absurd (true≢false h)

-- the parts of the statement where it is a loop
abbrev parts_or : Loop → StmtTree → Loop
parts_or l (LoopStmt p invariants prelude e body exposes) = record { place = p; invariants = invariants; prelude = prelude; test = e; body = body; exposes = exposes }
parts_or l s = l

module _ {S X : Type 0} (f : Flow S) (c : Check S) (Sat : S → X → Type 0) where
  simple_after : (s : StmtTree) (k : S) → is_simple s ≡ true → behind f s k ≡ Some (f.after s k)
  simple_after (AssignStmt p x e) k h = refl
  simple_after (WriteStmt p o g m t e) k h = refl
  simple_after (WriteElementStmt p a i e) k h = refl
  simple_after (NewStmt p x t es) k h = refl
  simple_after (NewArrayStmt p x t e) k h = refl
  simple_after (CallStmt p x callee es) k h = refl
  simple_after (ReadyStmt p) k h = refl
  simple_after (IfStmt p e a b) k h = absurd (false≢true h)
  simple_after (LoopStmt p invariants prelude e body exposes) k h = absurd (false≢true h)
  simple_after (UnpackStmt p x t) k h = refl
  simple_after (PackStmt p x t) k h = refl
  simple_after (AssertStmt p e) k h = refl
  simple_after (AssumeStmt p e) k h = refl
  simple_after (PrintStmt p e newline) k h = refl
  simple_after (PrintTextStmt p text newline) k h = refl
  simple_after (ReturnStmt p e) k h = absurd (false≢true h)

  simple_checked : (s : StmtTree) (k : S) → is_simple s ≡ true → holds_at f c s k ≡ c.statement s k
  simple_checked (AssignStmt p x e) k h = refl
  simple_checked (WriteStmt p o g m t e) k h = refl
  simple_checked (WriteElementStmt p a i e) k h = refl
  simple_checked (NewStmt p x t es) k h = refl
  simple_checked (NewArrayStmt p x t e) k h = refl
  simple_checked (CallStmt p x callee es) k h = refl
  simple_checked (ReadyStmt p) k h = refl
  simple_checked (IfStmt p e a b) k h = absurd (false≢true h)
  simple_checked (LoopStmt p invariants prelude e body exposes) k h = absurd (false≢true h)
  simple_checked (UnpackStmt p x t) k h = refl
  simple_checked (PackStmt p x t) k h = refl
  simple_checked (AssertStmt p e) k h = refl
  simple_checked (AssumeStmt p e) k h = refl
  simple_checked (PrintStmt p e newline) k h = refl
  simple_checked (PrintTextStmt p text newline) k h = refl
  simple_checked (ReturnStmt p e) k h = absurd (false≢true h)

  -- ---- what follows from what is known

  weaker : (ds : List Due) (o q : Option S) → ((x : X) → Means Sat q x → Means Sat o x) → IsLeft f c Sat ds o → IsLeft f c Sat ds q
  weaker [] o q w is = λ x m. is x (w x m)
  weaker (Statement s ∷ ds) o q w is = ⊎_elim
      (λ r. inl (record { known = r.known; follows = λ x m. r.follows x (w x m); checked = r.checked; behind = r.behind }))
      (λ a. inr (record { loop = a.loop; first = a.first; is = a.is; follows = λ x m. a.follows x (w x m); checked = a.checked; behind = a.behind }))
      is
  weaker (Test e body s ∷ ds) o q w is =
      record { loop = is.loop; first = is.first; is = is.is; test = is.test; body_is = is.body_is; follows = λ x m. is.follows x (w x m); checked = is.checked; behind = is.behind }

  nowhere : (code : CodeTree) → at_end f code None ≡ None
  nowhere NoCode = refl
  nowhere (Then s code) = refl

  unreached : (code : CodeTree) → holds_along f c code None ≡ true
  unreached NoCode = refl
  unreached (Then s code) = refl

  -- the statements of code that is checked from what is known
  code_left : (code : CodeTree) (ds : List Due) (o : Option S) → holds_along f c code o ≡ true → IsLeft f c Sat ds (at_end f code o) → IsLeft f c Sat (dues code ++ ds) o
  code_left NoCode ds o h rest = rest
  code_left (Then s code) ds None h rest = inl (record { known = None; follows = λ x m. m; checked = refl; behind = code_left code ds None (unreached code) (subst (IsLeft f c Sat ds) (sym (nowhere code)) rest) })
  code_left (Then s code) ds (Some k) h rest =
      let both = and_parts (holds_at f c s k) (holds_along f c code (behind f s k)) h in
      inl (record { known = Some k; follows = λ x m. m; checked = both.0; behind = code_left code ds (behind f s k) both.1 rest })

  dues-end : (ds : List Due) → ds ++ [] ≡ ds
  dues-end [] = refl
  dues-end (d ∷ ds) = ap (λ z. d ∷ z) (dues-end ds)

  -- ---- ends that can't be reached

  mutual
    passes_nowhere : (s : StmtTree) (k : S) → passes s ≡ false → behind f s k ≡ None
    passes_nowhere (IfStmt p e a b) k h =
        let both = or_parts (reaches_end a) (reaches_end b) h in
        ap (λ o. met f o (at_end f b (Some (f.tested e false k)))) (ends_nowhere a (Some (f.tested e true k)) both.0) ∙ ends_nowhere b (Some (f.tested e false k)) both.1
    passes_nowhere (LoopStmt p invariants prelude e body exposes) k h = ap (λ b. if b then None else option_map (f.tested e false) (at_end f prelude (Some (f.head (LoopStmt p invariants prelude e body exposes) k)))) (not_false (is_literal_true e) h)
    passes_nowhere (ReturnStmt p e) k h = refl
    passes_nowhere s k h = absurd (true≢false h)

    ends_nowhere : (code : CodeTree) (o : Option S) → reaches_end code ≡ false → at_end f code o ≡ None
    ends_nowhere NoCode o h = absurd (true≢false h)
    ends_nowhere (Then s code) None h = refl
    ends_nowhere (Then s code) (Some k) h = ⊎_elim
        (λ here. ap (at_end f code) (passes_nowhere s k here) ∙ nowhere code)
        (λ later. ends_nowhere code (behind f s k) later)
        (and_cases (passes s) (reaches_end code) h)

  -- ---- entry

  pub known_entered : (code : CodeTree) (k : S) (x : X) → holds_along f c code (Some k) ≡ true → reaches_end code ≡ false → Sat k x → IsKnown f c Sat (dues code) x
  known_entered code k x h ends so = record {
    known = k;
    left = subst (λ z. IsLeft f c Sat z (Some k)) (dues-end (dues code)) (code_left code [] (Some k) h (λ y m. subst (λ o. Means Sat o y) (ends_nowhere code (Some k) ends) m));
    so = so;
  }

  -- something is left
  pub known_unended : (x : X) → IsKnown f c Sat [] x → ⊥
  known_unended x is = is.left x is.so

  -- ---- what is known where a statement is reached, with the check of it
  record IsAt (s : StmtTree) (ds : List Due) (x : X) : Type 0 where
    known : S
    so : Sat known x
    checked : holds_at f c s known ≡ true
    behind : IsLeft f c Sat ds (behind f s known)

  at_reached : (s : StmtTree) (ds : List Due) (k : S) (x : X) → Sat k x → IsReached f c Sat s (Some k) (IsLeft f c Sat ds) → IsAt s ds x
  at_reached s ds k x so is = from is.known refl (is.follows x so)
    where
      from : (o : Option S) → is.known ≡ o → Means Sat o x → IsAt s ds x
      from None e m = absurd m
      from (Some l) e m = record {
        known = l;
        so = m;
        checked = subst (λ z. where_reached (holds_at f c s) z ≡ true) e is.checked;
        behind = subst (λ z. IsLeft f c Sat ds (option_and_then (behind f s) z)) e is.behind;
      }

  -- ---- a statement that is no `if`, no loop and no return

  pub known_simple : (s : StmtTree) (ds : List Due) (x : X) → is_simple s ≡ true → IsKnown f c Sat (Statement s ∷ ds) x → IsBefore f c Sat s ds x
  known_simple s ds x simple is = ⊎_elim
      (λ here.
      let at = at_reached s ds is.known x is.so here in
      record {
        known = at.known;
        so = at.so;
        checked = sym (simple_checked s at.known simple) ∙ at.checked;
        goes_on = λ y so. record { known = f.after s at.known; left = subst (IsLeft f c Sat ds) (simple_after s at.known simple) at.behind; so = so };
      })
      (λ again. absurd (false≢true (subst (λ z. is_simple z ≡ true) again.is simple)))
      is.left

  -- ---- a return

  pub known_return : (p : Place) (e : Option ExprTree) (ds : List Due) (x : X) → IsKnown f c Sat (Statement (ReturnStmt p e) ∷ ds) x → IsEnd f c Sat (ReturnStmt p e) x
  known_return p e ds x is = ⊎_elim
      (λ here. let at = at_reached (ReturnStmt p e) ds is.known x is.so here in record { known = at.known; so = at.so; checked = at.checked })
      (λ again. let w = again.is in absurd (let none : ⊥ = cc in none))
      is.left

  -- ---- the parts of the check of a loop

  record IsChecked (l : Loop) (k : S) : Type 0 where
    statement : c.statement (stmt_of l) k ≡ true
    prelude : holds_along f c l.prelude (Some (f.head (stmt_of l) k)) ≡ true
    test : where_reached (c.test l.test) (known_at_test f l k) ≡ true
    body : holds_along f c l.body (in_body f l.test (known_at_test f l k)) ≡ true
    again : where_reached (c.statement (stmt_of l)) (known_at_end f l k) ≡ true

  loop_checked : (l : Loop) (k : S) → holds_at f c (stmt_of l) k ≡ true → IsChecked l k
  loop_checked l k h =
      let h1 = c.statement (stmt_of l) k in
      let h2 = holds_along f c l.prelude (Some (f.head (stmt_of l) k)) in
      let h3 = where_reached (c.test l.test) (known_at_test f l k) in
      let h4 = holds_along f c l.body (in_body f l.test (known_at_test f l k)) in
      let h5 = where_reached (c.statement (stmt_of l)) (known_at_end f l k) in
      let a = and_parts (h1 && h2 && h3 && h4) h5 h in
      let b = and_parts (h1 && h2 && h3) h4 a.0 in
      let d = and_parts (h1 && h2) h3 b.0 in
      let e = and_parts h1 h2 d.0 in
      record { statement = e.0; prelude = e.1; test = d.1; body = b.1; again = a.1 }

  -- ---- the test of a loop

  -- from what is known at the test, where that is reached
  reached_so : (o : Option S) (x : X) → Means Sat o x → (k : S) × (o ≡ Some k) × Sat k x
  reached_so None x m = absurd m
  reached_so (Some k) x m = (k, refl, m)

  tested_loop : (l : Loop) (first k : S) (ds : List Due) (x : X) → holds_at f c (stmt_of l) first ≡ true → known_at_test f l first ≡ Some k → IsLeft f c Sat ds (left f l.test (known_at_test f l first)) → Sat k x →
      IsTested f c Sat l.test l.body (stmt_of l) ds x
  tested_loop l first k ds x checked known behind so =
      let parts = loop_checked l first checked in
      record {
        known = k;
        so = so;
        checked = subst (λ o. where_reached (c.test l.test) o ≡ true) known parts.test;
        into = λ y m. record {
          known = f.tested l.test true k;
          left = code_left l.body (Statement (stmt_of l) ∷ ds) (Some (f.tested l.test true k))
              (subst (λ o. holds_along f c l.body (in_body f l.test o) ≡ true) known parts.body)
              (inr (record {
                loop = l;
                first = first;
                is = refl;
                follows = λ z h. subst (λ o. Means Sat (at_end f l.body (in_body f l.test o)) z) (sym known) h;
                checked = checked;
                behind = behind;
              }));
          so = m;
        };
        out = λ unending y m. record {
          known = f.tested l.test false k;
          left = subst (λ b. IsLeft f c Sat ds (if b then None else Some (f.tested l.test false k))) unending (subst (λ o. IsLeft f c Sat ds (left f l.test o)) known behind);
          so = m;
        };
      }

  pub known_test : (e : ExprTree) (body : CodeTree) (s : StmtTree) (ds : List Due) (x : X) → IsKnown f c Sat (Test e body s ∷ ds) x → IsTested f c Sat e body s ds x
  known_test e body s ds x is =
      let t = is.left in
      let r = reached_so (known_at_test f t.loop t.first) x (t.follows x is.so) in
      subst (λ z. IsTested f c Sat z body s ds x) (sym t.test)
      (subst (λ z. IsTested f c Sat t.loop.test z s ds x) (sym t.body_is)
      (subst (λ z. IsTested f c Sat t.loop.test t.loop.body z ds x) (sym t.is)
      (tested_loop t.loop t.first r.0 ds x t.checked r.1 t.behind r.2)))

  same_loop : (l m : Loop) → stmt_of l ≡ stmt_of m → l ≡ m
  same_loop l m e = ap (parts_or l) e

  -- the prelude of a loop is reached with what is known at its head
  to_prelude : (l : Loop) (k : S) (ds : List Due) (x : X) → holds_at f c (stmt_of l) k ≡ true → IsLeft f c Sat ds (left f l.test (known_at_test f l k)) → Sat (f.head (stmt_of l) k) x →
      IsKnown f c Sat (dues l.prelude ++ Test l.test l.body (stmt_of l) ∷ ds) x
  to_prelude l k ds x checked behind so = record {
    known = f.head (stmt_of l) k;
    left = code_left l.prelude (Test l.test l.body (stmt_of l) ∷ ds) (Some (f.head (stmt_of l) k)) (loop_checked l k checked).prelude
        (record { loop = l; first = k; is = refl; test = refl; body_is = refl; follows = λ z h. h; checked = checked; behind = behind });
    so = so;
  }

  module _ (sound : IsSound f c Sat) where
    -- ---- an `if`

    met_one : (o q : Option S) (x : X) → Means Sat o x → Means Sat (met f o q) x
    met_one None q x m = absurd m
    met_one (Some k) None x m = m
    met_one (Some k) (Some l) x m = sound.meet_one k l x m

    met_other : (o q : Option S) (x : X) → Means Sat q x → Means Sat (met f o q) x
    met_other None q x m = m
    met_other (Some k) None x m = absurd m
    met_other (Some k) (Some l) x m = sound.meet_other k l x m

    pub known_fork : (p : Place) (e : ExprTree) (a b : CodeTree) (ds : List Due) (x : X) → IsKnown f c Sat (Statement (IfStmt p e a b) ∷ ds) x → IsFork f c Sat p e a b ds x
    known_fork p e a b ds x is = ⊎_elim
        (λ here.
        let at = at_reached (IfStmt p e a b) ds is.known x is.so here in
        let k = at.known in
        let sides = and_parts (c.statement (IfStmt p e a b) k && holds_along f c a (Some (f.tested e true k))) (holds_along f c b (Some (f.tested e false k))) at.checked in
        let first = and_parts (c.statement (IfStmt p e a b) k) (holds_along f c a (Some (f.tested e true k))) sides.0 in
        let end_a = at_end f a (Some (f.tested e true k)) in
        let end_b = at_end f b (Some (f.tested e false k)) in
        record {
          known = k;
          so = at.so;
          checked = first.0;
          goes_on = λ v. elim v as (λ v. (y : X) → Sat (f.tested e v k) y → IsKnown f c Sat (dues (if v then a else b) ++ ds) y) [
            | true ↦ λ y so. record {
              known = f.tested e true k;
              left = code_left a ds (Some (f.tested e true k)) first.1 (weaker ds (met f end_a end_b) end_a (λ z m. met_one end_a end_b z m) at.behind);
              so = so;
            }
            | false ↦ λ y so. record {
              known = f.tested e false k;
              left = code_left b ds (Some (f.tested e false k)) sides.1 (weaker ds (met f end_a end_b) end_b (λ z m. met_other end_a end_b z m) at.behind);
              so = so;
            }
          ];
        })
        (λ again. let w = again.is in absurd (let none : ⊥ = cc in none))
        is.left

    -- ---- the head of a loop

    head_again : (l : Loop) (first m : S) (ds : List Due) (x : X) → holds_at f c (stmt_of l) first ≡ true → known_at_end f l first ≡ Some m → IsLeft f c Sat ds (left f l.test (known_at_test f l first)) → Sat m x → IsHead f c Sat l ds x
    head_again l first m ds x checked known behind so = record {
      known = m;
      so = so;
      checked = subst (λ o. where_reached (c.statement (stmt_of l)) o ≡ true) known (loop_checked l first checked).again;
      goes_on = to_prelude l first ds x checked behind (sound.again l first m x checked known so);
    }

    pub known_head : (l : Loop) (ds : List Due) (x : X) → IsKnown f c Sat (Statement (stmt_of l) ∷ ds) x → IsHead f c Sat l ds x
    known_head l ds x is = ⊎_elim
        (λ here.
        let at = at_reached (stmt_of l) ds is.known x is.so here in
        let statement = (loop_checked l at.known at.checked).statement in
        record {
          known = at.known;
          so = at.so;
          checked = statement;
          goes_on = to_prelude l at.known ds x at.checked at.behind (sound.head l at.known x statement at.so);
        })
        (λ again.
        let r = reached_so (known_at_end f again.loop again.first) x (again.follows x is.so) in
        subst (λ z. IsHead f c Sat z ds x) (sym (same_loop l again.loop again.is))
        (head_again again.loop again.first r.0 ds x again.checked r.1 again.behind r.2))
        is.left

    -- one theorem for every kind of knowledge
    pub goes_along : GoesAlong f c Sat
    goes_along = record { enters = known_entered; never_ends = known_unended; stands = known_simple; returns = known_return; forks = known_fork; loops = known_head; tests = known_test }
