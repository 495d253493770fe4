-- Assigned locals stay so along paths.
use Rattle.std.proofs.Common.{◌≡◌, ℕ, Bool, true, false, Option, Some, None, subst}
use Rattle.std.specs.Prelude.{if◌then◌else◌, option_map}
use Rattle.std.proofs.lemmas.Bool.{and_parts, and_from, or_right}
use Rattle.ss_core.specs.Tree.{ExprTree, StmtTree, AssignStmt, WriteStmt, WriteElementStmt, NewStmt, NewArrayStmt, CallStmt, ReadyStmt, IfStmt, LoopStmt, UnpackStmt, PackStmt, AssertStmt, AssumeStmt, PrintStmt, PrintTextStmt, ReturnStmt, CodeTree, NoCode, Then, BodyTree}
use Rattle.ss_store_rules.specs.Values.{Setting}
use Rattle.ss_store_rules.specs.Paths.{is_literal_true, Check, met, behind, at_end, in_body}
use Rattle.ss_store_rules.specs.Assigned.{assigned_flow}
use Rattle.ss_machine_good.specs.Flows.{Loop, known_at_test, known_at_end, IsSound}
use Rattle.ss_machine_good.specs.Known.{AreAssigned}

-- these are assigned there too, where that is reached
abbrev StaysAssigned : (ℕ → Bool) → Option (ℕ → Bool) → Type 0
StaysAssigned xs None = Unit {0}
StaysAssigned xs (Some ys) = (x : ℕ) → xs x ≡ true → ys x ≡ true

met_assigned : (xs : ℕ → Bool) (o q : Option (ℕ → Bool)) → StaysAssigned xs o → StaysAssigned xs q → StaysAssigned xs (met assigned_flow o q)
met_assigned xs None q w u = u
met_assigned xs (Some ys) None w u = w
met_assigned xs (Some ys) (Some zs) w u = λ x h. and_from (ys x) (zs x) (w x h) (u x h)

left_assigned : (xs : ℕ → Bool) (e : ExprTree) (literal : Bool) (o : Option (ℕ → Bool)) → StaysAssigned xs o → StaysAssigned xs (if literal then None else option_map (assigned_flow.tested e false) o)
left_assigned xs e true o w = tt
left_assigned xs e false None w = tt
left_assigned xs e false (Some ys) w = w

body_assigned : (xs : ℕ → Bool) (e : ExprTree) (o : Option (ℕ → Bool)) → StaysAssigned xs o → StaysAssigned xs (in_body assigned_flow e o)
body_assigned xs e None w = tt
body_assigned xs e (Some ys) w = w

mutual
  after_assigned : (s : StmtTree) (xs ys : ℕ → Bool) → ((x : ℕ) → xs x ≡ true → ys x ≡ true) → StaysAssigned xs (behind assigned_flow s ys)
  after_assigned (AssignStmt p x e) xs ys w = λ y h. or_right _ (ys y) (w y h)
  after_assigned (WriteStmt p o f m t e) xs ys w = w
  after_assigned (WriteElementStmt p x i e) xs ys w = w
  after_assigned (NewStmt p x t es) xs ys w = λ y h. or_right _ (ys y) (w y h)
  after_assigned (NewArrayStmt p x t e) xs ys w = λ y h. or_right _ (ys y) (w y h)
  after_assigned (CallStmt p x callee es) xs ys w = λ y h. or_right _ (ys y) (w y h)
  after_assigned (ReadyStmt p) xs ys w = w
  after_assigned (IfStmt p e a b) xs ys w = met_assigned xs (at_end assigned_flow a (Some ys)) (at_end assigned_flow b (Some ys)) (end_assigned a xs (Some ys) w) (end_assigned b xs (Some ys) w)
  after_assigned (LoopStmt p invariants prelude e body exposes) xs ys w = left_assigned xs e (is_literal_true e) (at_end assigned_flow prelude (Some ys)) (end_assigned prelude xs (Some ys) w)
  after_assigned (UnpackStmt p x t) xs ys w = w
  after_assigned (PackStmt p x t) xs ys w = w
  after_assigned (AssertStmt p e) xs ys w = w
  after_assigned (AssumeStmt p e) xs ys w = w
  after_assigned (PrintStmt p e newline) xs ys w = w
  after_assigned (PrintTextStmt p text newline) xs ys w = w
  after_assigned (ReturnStmt p e) xs ys w = tt

  end_assigned : (code : CodeTree) (xs : ℕ → Bool) (o : Option (ℕ → Bool)) → StaysAssigned xs o → StaysAssigned xs (at_end assigned_flow code o)
  end_assigned NoCode xs o w = w
  end_assigned (Then s code) xs None w = tt
  end_assigned (Then s code) xs (Some ys) w = end_assigned code xs (behind assigned_flow s ys) (after_assigned s xs ys w)

again_assigned : (b : BodyTree) (l : Loop) (xs ys : ℕ → Bool) (x : Setting) → known_at_end assigned_flow l xs ≡ Some ys → AreAssigned b ys x → AreAssigned b xs x
again_assigned b l xs ys x is so =
    let stays = subst (StaysAssigned xs) is
    (end_assigned l.body xs (in_body assigned_flow l.test (known_at_test assigned_flow l xs)) (body_assigned xs l.test (known_at_test assigned_flow l xs) (end_assigned l.prelude xs (Some xs) (λ y h. h)))) in
    λ y h. so y (stays y h)

-- what is known of assigned locals stays true along paths, whatever is checked
pub assigned_sound : (b : BodyTree) (c : Check (ℕ → Bool)) → IsSound assigned_flow c (AreAssigned b)
assigned_sound b c = record {
  meet_one = λ xs ys s so x h. so x (and_parts (xs x) (ys x) h).0;
  meet_other = λ xs ys s so x h. so x (and_parts (xs x) (ys x) h).1;
  head = λ l xs s checked so. so;
  again = λ l xs ys s checked is so. again_assigned b l xs ys s is so;
}
