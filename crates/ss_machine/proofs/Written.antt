-- The pieces that a run writes.
use Rattle.std.proofs.Common.{◌≡◌, ℕ, ℤ, zero, suc, ◌+◌, ◌-◌, ◌<◌, ◌≤◌, List, [], ◌∷◌, ◌++◌, Option, None, Some, Result, Ok, Err, refl, sym, ap, subst, ◌∙◌, arith, append_assoc}
use Rattle.std.specs.List.{concat}
use Rattle.std.proofs.lemmas.List.{append-nil}
use Rattle.ss_core.specs.Tree.{BodyTree, CoreTree}
use Rattle.ss_io.specs.Outside.{Wrote}
use Rattle.ss_store_rules.specs.Admitted.{first_store}
use Rattle.ss_store_rules.specs.Typed.{body_at}
use Rattle.ss_machine_rules.specs.States.{Next, State, Running, Done, Failed, Stopped}
use Rattle.ss_machine_rules.specs.Steps.{next}
use Rattle.ss_machine_rules.specs.Runs.{then_is, step, start_with, run, printed_in, printed}
use Rattle.ss_machine_rules.specs.Ends.{IsRunning}
use Rattle.ss_machine.specs.Frames.{running, waiting}
use Rattle.ss_machine.specs.Moves.{piece_of, Does, StepIs}
use Rattle.ss_machine.specs.Pieces.{one_piece, next_piece, pieces, WroteFirst, PieceIs, WritesOne}
use Rattle.ss_machine.specs.Ends.{end_of, OnWhole}
use Rattle.ss_machine.specs.declared.halt.Halt.{Halt}
use Rattle.ss_machine.specs.declared.halt.Halt.TheVariants as halt
use Rattle.ss_machine.specs.declared.machine.Machine.{Machine}
use Rattle.ss_machine.proofs.Runs.{Stands, then_prints, ended_stays, no_main}

-- ---- what a sink took

pub wrote_nothing : (t : Option (List (List ℕ))) → Wrote t t []
wrote_nothing None = refl
wrote_nothing (Some ps) = ap Some (sym (append-nil ps))

pub wrote_more : (a b c : Option (List (List ℕ))) (p q : List (List ℕ)) → Wrote a b p → Wrote b c q → Wrote a c (p ++ q)
wrote_more None None c p q g h = h
wrote_more None (Some ys) c p q g h = absurd cc
wrote_more (Some xs) b c p q g h = go b g h
  where
    go : (b : Option (List (List ℕ))) → b ≡ Some (xs ++ p) → Wrote b c q → c ≡ Some (xs ++ (p ++ q))
    go None g h = absurd cc
    go (Some ys) g h = h ∙ (let e : ys ≡ xs ++ p = cc in ap (λ (l : List (List ℕ)). Some (l ++ q)) e ∙ ap Some (append_assoc xs p q))

-- ---- one step

-- a step that isn't made writes nothing
pub stopped_piece : (h : Halt) (n : Next) (t : Option (List (List ℕ))) → PieceIs (Err h) n t t
stopped_piece h n t = wrote_nothing t

-- a step that prints nothing
pub quiet_piece : (r : Result Unit Halt) (n : Next) (m : Machine) (t : Option (List (List ℕ))) → Does r n m → PieceIs r n t t
quiet_piece (Ok u) n m t h = subst (λ (k : Next). Wrote t t (one_piece (piece_of k))) (sym h) (wrote_nothing t)
quiet_piece (Err h) n m t d = wrote_nothing t

-- a piece was written
pub written_piece : (r : Result Unit Halt) (n : Next) (written : List ℕ) (old new : Option (List (List ℕ))) → piece_of n ≡ written → WritesOne r written old new → PieceIs r n old new
written_piece (Ok u) n written old new e h = subst (λ p. Wrote old new (one_piece p)) (sym e) h
written_piece (Err x) n written old new e h = h

-- ---- runs

-- what has ended prints nothing
ended_piece : (c : CoreTree) (s : State) → (IsRunning s → ⊥) → next_piece c s ≡ []
ended_piece c (Running fs s before) never = absurd (never tt)
ended_piece c (Done s before) never = refl
ended_piece c (Failed k at before) never = refl
ended_piece c (Stopped at s before) never = refl

pub ended_pieces : (c : CoreTree) (input : List ℤ) (k n : ℕ) (s : State) → (IsRunning s → ⊥) → run c input n ≡ s → pieces c input (k + n) ≡ pieces c input n
ended_pieces c input zero n s never e = let z : zero + n ≡ n = omega arith in ap (pieces c input) z
ended_pieces c input (suc k) n s never e =
    let z : suc k + n ≡ suc (k + n) = omega arith in
    ap (pieces c input) z
    ∙ ap (λ (l : List (List ℕ)). pieces c input (k + n) ++ l) (ap (next_piece c) (ended_stays c input k n s never e) ∙ ended_piece c s never)
    ∙ append-nil (pieces c input (k + n))
    ∙ ended_pieces c input k n s never e

-- more steps write the same first
pub pieces_later : (c : CoreTree) (input : List ℤ) (k n : ℕ) → (more : List (List ℕ)) × (pieces c input (k + n) ≡ pieces c input n ++ more)
pieces_later c input zero n = let z : zero + n ≡ n = omega arith in ([], ap (pieces c input) z ∙ sym (append-nil (pieces c input n)))
pieces_later c input (suc k) n =
    let z : suc k + n ≡ suc (k + n) = omega arith in
    let a = pieces_later c input k n in
    let b = next_piece c (run c input (k + n)) in
    (a.0 ++ b, ap (pieces c input) z ∙ ap (λ (l : List (List ℕ)). l ++ b) a.1 ∙ append_assoc (pieces c input n) a.0 b)

module _ (c : CoreTree) (input : List ℤ) (n : ℕ) (m : Machine) (taken took : Option (List ℕ)) (old mid new : Option (List (List ℕ))) (s : Stands c input n m taken took) (wrote : Wrote old mid (pieces c input n)) where
  abbrev here_next : Next
  here_next = next c (running m ∷ waiting m) m.stores.now

  this_piece : next_piece c (run c input n) ≡ one_piece (piece_of here_next)
  this_piece = ap (next_piece c) s.state

  pub wrote_one_more : PieceIs (Ok tt) here_next mid new → Wrote old new (pieces c input (suc n))
  wrote_one_more h = subst (λ l. Wrote old new (pieces c input n ++ l)) (sym this_piece) (wrote_more old mid new (pieces c input n) (one_piece (piece_of here_next)) wrote h)

  still : Wrote mid new [] → Wrote old new (pieces c input n)
  still h = subst (λ l. Wrote old new l) (append-nil (pieces c input n)) (wrote_more old mid new (pieces c input n) [] wrote h)

  -- the step after which the run has ended writes nothing, and none comes after it
  at_end : (steps : ℕ) (e : State) → n < steps → (IsRunning e → ⊥) → piece_of here_next ≡ [] → then_is m.stores.now s.said here_next ≡ e → Wrote mid new [] → Wrote old new (pieces c input steps)
  at_end steps e lt never none is h =
      let z : steps ≡ (steps - suc n) + suc n = omega arith in
      let same : pieces c input steps ≡ pieces c input n =
      ap (pieces c input) z
      ∙ ended_pieces c input (steps - suc n) (suc n) e never (ap (step c) s.state ∙ is)
      ∙ ap (λ (l : List (List ℕ)). pieces c input n ++ l) (this_piece ∙ ap one_piece none)
      ∙ append-nil (pieces c input n) in
      subst (λ l. Wrote old new l) (sym same) (still h)

  pub halt_pieces : (steps : ℕ) (after : Machine) (before now : Option (List ℕ)) (h : Halt) → n < steps → StepIs (Err h) here_next after before now → Wrote mid new [] → OnWhole (end_of h (n + 1)) (Wrote old new (pieces c input steps))
  halt_pieces steps after before now halt.Over lt d h = at_end steps (Done after.stores.now s.said) lt (λ r. r) (ap piece_of d.0) (ap (λ (x : Next). then_is m.stores.now s.said x) d.0) h
  halt_pieces steps after before now (halt.Fails k at) lt d h = at_end steps (Failed k at s.said) lt (λ r. r) (ap piece_of d.0) (ap (λ (x : Next). then_is m.stores.now s.said x) d.0) h
  halt_pieces steps after before now (halt.Stops at) lt d h = at_end steps (Stopped at m.stores.now s.said) lt (λ r. r) (ap piece_of d.0) (ap (λ (x : Next). then_is m.stores.now s.said x) d.0) h
  halt_pieces steps after before now halt.WriteFault lt d h = tt
  halt_pieces steps after before now halt.Memory lt d h = tt

  pub halt_first : (steps : ℕ) → n < steps → Wrote mid new [] → WroteFirst old new (pieces c input steps)
  halt_first steps lt h =
      let z : steps ≡ (steps - n) + n = omega arith in
      let l = pieces_later c input (steps - n) n in
      (pieces c input n, l.0, ap (pieces c input) z ∙ l.1, still h)

-- the steps are spent
pub running_pieces : (c : CoreTree) (input : List ℤ) (n steps : ℕ) (old new : Option (List (List ℕ))) → Wrote old new (pieces c input n) → steps ≤ n → n ≤ steps → Wrote old new (pieces c input steps)
running_pieces c input n steps old new h le ge = let z : n ≡ steps = omega arith in subst (λ i. Wrote old new (pieces c input i)) z h

pub wrote_all : (old new : Option (List (List ℕ))) (ps : List (List ℕ)) → Wrote old new ps → WroteFirst old new ps
wrote_all old new ps h = (ps, [], sym (append-nil ps), h)

-- a program without a body for Main writes nothing
pub nothing_written : (c : CoreTree) (input : List ℤ) (n : ℕ) (t : Option (List (List ℕ))) → body_at c c.main ≡ None → Wrote t t (pieces c input n)
nothing_written c input n t e =
    let z : n ≡ n + zero = omega arith in
    subst (λ l. Wrote t t l) (sym (ap (pieces c input) z ∙ ended_pieces c input n zero (Done (first_store input) []) (λ r. r) (no_main c input 0 e))) (wrote_nothing t)

-- ---- together the pieces are what is printed

concat_one : (p : List ℕ) → concat (one_piece p) ≡ p
concat_one [] = refl
concat_one (b ∷ bytes) = append-nil (b ∷ bytes)

concat_append : (xs ys : List (List ℕ)) → concat (xs ++ ys) ≡ concat xs ++ concat ys
concat_append [] ys = refl
concat_append (x ∷ xs) ys = ap (λ (l : List ℕ). x ++ l) (concat_append xs ys) ∙ sym (append_assoc x (concat xs) (concat ys))

step_prints_piece : (c : CoreTree) (s : State) → printed_in (step c s) ≡ printed_in s ++ concat (next_piece c s)
step_prints_piece c (Running fs s before) = then_prints s before (next c fs s) ∙ ap (λ (l : List ℕ). before ++ l) (sym (concat_one (piece_of (next c fs s))))
step_prints_piece c (Done s before) = sym (append-nil before)
step_prints_piece c (Failed k at before) = sym (append-nil before)
step_prints_piece c (Stopped at s before) = sym (append-nil before)

starts_empty : (c : CoreTree) (input : List ℤ) → printed c input 0 ≡ []
starts_empty c input = go (body_at c c.main)
  where
    go : (b : Option BodyTree) → printed_in (start_with input b) ≡ []
    go None = refl
    go (Some b) = refl

pub pieces_printed : (c : CoreTree) (input : List ℤ) (n : ℕ) → concat (pieces c input n) ≡ printed c input n
pieces_printed c input zero = sym (starts_empty c input)
pieces_printed c input (suc n) =
    concat_append (pieces c input n) (next_piece c (run c input n))
    ∙ ap (λ (l : List ℕ). l ++ concat (next_piece c (run c input n))) (pieces_printed c input n)
    ∙ sym (step_prints_piece c (run c input n))
