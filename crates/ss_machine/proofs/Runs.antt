-- Whole runs.
use Rattle.std.proofs.Common.{◌≡◌, ℕ, ℤ, zero, suc, ◌+◌, ◌-◌, ◌<◌, ◌≤◌, List, [], ◌∷◌, ◌++◌, Option, None, Ok, Err, refl, sym, ap, subst, ◌∙◌, arith, append_assoc}
use Rattle.std.proofs.lemmas.List.{append-nil}
use Rattle.ss_core.specs.Tree.{CoreTree}
use Rattle.ss_core.specs.declared.names.Kind.{Kind}
use Rattle.ss_core.specs.declared.names.Place.{Place}
use Rattle.ss_io.specs.Outside.{Grew, GrewByFront}
use Rattle.ss_store_rules.specs.Store.{Object}
use Rattle.ss_store_rules.specs.Admitted.{first_store}
use Rattle.ss_store_rules.specs.Typed.{body_at}
use Rattle.ss_machine_rules.specs.States.{Next, Goes, Over, Fails, Stops, State, Running, Done, Failed, Stopped}
use Rattle.ss_machine_rules.specs.Steps.{next}
use Rattle.ss_machine_rules.specs.Runs.{then_is, step, start_with, run, printed_in, printed}
use Rattle.ss_machine_rules.specs.Ends.{IsRunning, IsDoneAt, HasFailed, HasStopped}
use Rattle.ss_machine.specs.Frames.{running, waiting}
use Rattle.ss_machine.specs.Moves.{piece_of, StepIs}
use Rattle.ss_machine.specs.declared.halt.Halt.{Halt}
use Rattle.ss_machine.specs.declared.halt.Halt.TheVariants as halt
use Rattle.ss_machine.specs.Ends.{end_of, IfDone, IfFailed, IfStopped, OnWhole}
use Rattle.ss_machine.specs.declared.machine.Machine.{Machine}
use Rattle.ss_machine.proofs.Taken.{grew_nothing, grew_more, grew_more_front, front_longer, front_whole}

-- after n steps the run stands where the machine is, and what it printed was taken
pub record Stands (c : CoreTree) (input : List ℤ) (n : ℕ) (m : Machine) (old new : Option (List ℕ)) : Type 0 where
  pub said : List ℕ
  pub state : run c input n ≡ Running (running m ∷ waiting m) m.stores.now said
  pub took : Grew old new said

pub stands_first : (c : CoreTree) (input : List ℤ) (m : Machine) (t : Option (List ℕ)) → run c input 0 ≡ Running (running m ∷ waiting m) m.stores.now [] → Stands c input 0 m t t
stands_first c input m t e = record { said = []; state = e; took = grew_nothing t }

-- a state that isn't running stays
stays : (c : CoreTree) (s : State) → (IsRunning s → ⊥) → step c s ≡ s
stays c (Running fs s p) never = absurd (never tt)
stays c (Done s p) never = refl
stays c (Failed k at p) never = refl
stays c (Stopped at s p) never = refl

pub ended_stays : (c : CoreTree) (input : List ℤ) (k n : ℕ) (s : State) → (IsRunning s → ⊥) → run c input n ≡ s → run c input (k + n) ≡ s
ended_stays c input zero n s never e = let z : zero + n ≡ n = omega arith in ap (run c input) z ∙ e
ended_stays c input (suc k) n s never e =
    let z : suc k + n ≡ suc (k + n) = omega arith in
    ap (run c input) z ∙ ap (step c) (ended_stays c input k n s never e) ∙ stays c s never

-- what runs has run before
ran_before : (c : CoreTree) (s : State) → IsRunning (step c s) → IsRunning s
ran_before c (Running fs s p) h = tt
ran_before c (Done s p) h = h
ran_before c (Failed k at p) h = h
ran_before c (Stopped at s p) h = h

ran_all : (c : CoreTree) (input : List ℤ) (k m : ℕ) → IsRunning (run c input (k + m)) → IsRunning (run c input m)
ran_all c input zero m h = let z : zero + m ≡ m = omega arith in subst (λ i. IsRunning (run c input i)) z h
ran_all c input (suc k) m h =
    let z : suc k + m ≡ suc (k + m) = omega arith in
    ran_all c input k m (ran_before c (run c input (k + m)) (subst (λ i. IsRunning (run c input i)) z h))

-- what a step prints
pub then_prints : (s : List Object) (p : List ℕ) (n : Next) → printed_in (then_is s p n) ≡ p ++ piece_of n
then_prints s p (Goes fs t piece) = refl
then_prints s p (Over t) = sym (append-nil p)
then_prints s p (Fails k at) = sym (append-nil p)
then_prints s p (Stops at) = sym (append-nil p)

step_prints : (c : CoreTree) (s : State) → (more : List ℕ) × (printed_in (step c s) ≡ printed_in s ++ more)
step_prints c (Running fs s p) = (piece_of (next c fs s), then_prints s p (next c fs s))
step_prints c (Done s p) = ([], sym (append-nil p))
step_prints c (Failed k at p) = ([], sym (append-nil p))
step_prints c (Stopped at s p) = ([], sym (append-nil p))

-- a later state has printed the same and maybe more
pub printed_later : (c : CoreTree) (input : List ℤ) (k n : ℕ) → (more : List ℕ) × (printed c input (k + n) ≡ printed c input n ++ more)
printed_later c input zero n = let z : zero + n ≡ n = omega arith in ([], ap (printed c input) z ∙ sym (append-nil (printed c input n)))
printed_later c input (suc k) n =
    let z : suc k + n ≡ suc (k + n) = omega arith in
    let a = printed_later c input k n in
    let b = step_prints c (run c input (k + n)) in
    (a.0 ++ b.0, ap (printed c input) z ∙ b.1 ∙ ap (λ (l : List ℕ). l ++ b.0) a.1 ∙ append_assoc (printed c input n) a.0 b.0)

module _ (c : CoreTree) (input : List ℤ) (n : ℕ) (m after : Machine) (old mid new : Option (List ℕ)) (s : Stands c input n m old mid) where
  abbrev pub done_next : Next
  done_next = next c (running m ∷ waiting m) m.stores.now

  one_more : run c input (suc n) ≡ then_is m.stores.now s.said done_next
  one_more = ap (step c) s.state

  pub stands_more : StepIs (Ok tt) done_next after mid new → Stands c input (suc n) after old new
  stands_more h = record {
    said = s.said ++ piece_of done_next;
    state = one_more ∙ (let e = ap (λ (x : Next). then_is m.stores.now s.said x) h.0 in e);
    took = grew_more old mid new s.said (piece_of done_next) s.took h.1;
  }

  ran : (i : ℕ) → i < suc n → IsRunning (run c input i)
  ran i lt =
      let z : n ≡ (n - i) + i = omega arith in
      let r : IsRunning (run c input n) = subst IsRunning (sym s.state) tt in
      ran_all c input (n - i) i (subst (λ j. IsRunning (run c input j)) z r)

  took_still : Grew mid new [] → Grew old new s.said
  took_still g = subst (λ p. Grew old new p) (append-nil s.said) (grew_more old mid new s.said [] s.took g)

  -- the step after which the run has ended is the last
  ended : (steps : ℕ) (e : State) → n < steps → (IsRunning e → ⊥) → then_is m.stores.now s.said done_next ≡ e → run c input steps ≡ e
  ended steps e lt never h =
      let z : steps ≡ (steps - suc n) + suc n = omega arith in
      ap (run c input) z ∙ ended_stays c input (steps - suc n) (suc n) e never (one_more ∙ h)

  over_at : (steps : ℕ) → n < steps → StepIs (Err halt.Over) done_next after mid new → run c input steps ≡ Done after.stores.now s.said
  over_at steps lt h = ended steps (Done after.stores.now s.said) lt (λ r. r) (ap (λ (x : Next). then_is m.stores.now s.said x) h.0)

  pub done_at : (steps : ℕ) → n < steps → StepIs (Err halt.Over) done_next after mid new → IsDoneAt c input (n + 1) steps
  done_at steps lt h =
      let e = over_at steps lt h in
      let k : n + 1 ≡ suc n = omega arith in
      let p : printed c input steps ≡ s.said = ap printed_in e in
      let first : run c input (suc n) ≡ Done after.stores.now s.said = one_more ∙ ap (λ (x : Next). then_is m.stores.now s.said x) h.0 in
      record {
        within = omega arith;
        least = λ i l. ran i (omega arith);
        done = (after.stores.now, ap (run c input) k ∙ first ∙ ap (λ (t : List ℕ). Done after.stores.now t) (sym p));
        stays = (after.stores.now, e ∙ ap (λ (t : List ℕ). Done after.stores.now t) (sym p));
      }

  pub done_took : (steps : ℕ) → n < steps → StepIs (Err halt.Over) done_next after mid new → Grew old new (printed c input steps)
  done_took steps lt h = subst (λ p. Grew old new p) (sym (ap printed_in (over_at steps lt h))) (took_still h.1)

  fails_at : (steps : ℕ) (k : Kind) (at : Place) → n < steps → StepIs (Err (halt.Fails k at)) done_next after mid new → run c input steps ≡ Failed k at s.said
  fails_at steps k at lt h = ended steps (Failed k at s.said) lt (λ r. r) (ap (λ (x : Next). then_is m.stores.now s.said x) h.0)

  pub failed_at : (steps : ℕ) (k : Kind) (at : Place) → n < steps → StepIs (Err (halt.Fails k at)) done_next after mid new → HasFailed c input k at steps
  failed_at steps k at lt h =
      let e = fails_at steps k at lt h in
      e ∙ ap (λ (p : List ℕ). Failed k at p) (sym (ap printed_in e))

  pub failed_took : (steps : ℕ) (k : Kind) (at : Place) → n < steps → StepIs (Err (halt.Fails k at)) done_next after mid new → Grew old new (printed c input steps)
  failed_took steps k at lt h = subst (λ p. Grew old new p) (sym (ap printed_in (fails_at steps k at lt h))) (took_still h.1)

  stops_at : (steps : ℕ) (at : Place) → n < steps → StepIs (Err (halt.Stops at)) done_next after mid new → run c input steps ≡ Stopped at m.stores.now s.said
  stops_at steps at lt h = ended steps (Stopped at m.stores.now s.said) lt (λ r. r) (ap (λ (x : Next). then_is m.stores.now s.said x) h.0)

  pub stopped_at : (steps : ℕ) (at : Place) → n < steps → StepIs (Err (halt.Stops at)) done_next after mid new → HasStopped c input at steps
  stopped_at steps at lt h =
      let e = stops_at steps at lt h in
      (m.stores.now, e ∙ ap (λ (p : List ℕ). Stopped at m.stores.now p) (sym (ap printed_in e)))

  pub stopped_took : (steps : ℕ) (at : Place) → n < steps → StepIs (Err (halt.Stops at)) done_next after mid new → Grew old new (printed c input steps)
  stopped_took steps at lt h = subst (λ p. Grew old new p) (sym (ap printed_in (stops_at steps at lt h))) (took_still h.1)

  -- a step that was not made
  pub halted_took : (steps : ℕ) → n < steps → GrewByFront mid new (piece_of done_next) → GrewByFront old new (printed c input steps)
  halted_took steps lt g =
      let z : steps ≡ (steps - suc n) + suc n = omega arith in
      let l = printed_later c input (steps - suc n) (suc n) in
      let first : printed c input (suc n) ≡ s.said ++ piece_of done_next = ap printed_in one_more ∙ then_prints m.stores.now s.said done_next in
      front_longer old new (s.said ++ piece_of done_next) l.0 (printed c input steps) (ap (printed c input) z ∙ l.1 ∙ ap (λ (p : List ℕ). p ++ l.0) first) (grew_more_front old mid new s.said (piece_of done_next) s.took g)

module _ (c : CoreTree) (input : List ℤ) (n steps : ℕ) (m after : Machine) (old mid new : Option (List ℕ)) (s : Stands c input n m old mid) (lt : n < steps) where
  pub halt_done : (h : Halt) → StepIs (Err h) (next c (running m ∷ waiting m) m.stores.now) after mid new → IfDone (end_of h (n + 1)) (λ k. IsDoneAt c input k steps)
  halt_done halt.Over h = done_at c input n m after old mid new s steps lt h
  halt_done (halt.Fails k at) h = tt
  halt_done (halt.Stops at) h = tt
  halt_done halt.WriteFault h = tt
  halt_done halt.Memory h = tt

  pub halt_failed : (h : Halt) → StepIs (Err h) (next c (running m ∷ waiting m) m.stores.now) after mid new → IfFailed (end_of h (n + 1)) (λ k at. HasFailed c input k at steps)
  halt_failed halt.Over h = tt
  halt_failed (halt.Fails k at) h = failed_at c input n m after old mid new s steps k at lt h
  halt_failed (halt.Stops at) h = tt
  halt_failed halt.WriteFault h = tt
  halt_failed halt.Memory h = tt

  pub halt_stopped : (h : Halt) → StepIs (Err h) (next c (running m ∷ waiting m) m.stores.now) after mid new → IfStopped (end_of h (n + 1)) (λ at. HasStopped c input at steps)
  halt_stopped halt.Over h = tt
  halt_stopped (halt.Fails k at) h = tt
  halt_stopped (halt.Stops at) h = stopped_at c input n m after old mid new s steps at lt h
  halt_stopped halt.WriteFault h = tt
  halt_stopped halt.Memory h = tt

  pub halt_printed : (h : Halt) → StepIs (Err h) (next c (running m ∷ waiting m) m.stores.now) after mid new → OnWhole (end_of h (n + 1)) (Grew old new (printed c input steps))
  halt_printed halt.Over h = done_took c input n m after old mid new s steps lt h
  halt_printed (halt.Fails k at) h = failed_took c input n m after old mid new s steps k at lt h
  halt_printed (halt.Stops at) h = stopped_took c input n m after old mid new s steps at lt h
  halt_printed halt.WriteFault h = tt
  halt_printed halt.Memory h = tt

  pub halt_front : (h : Halt) → StepIs (Err h) (next c (running m ∷ waiting m) m.stores.now) after mid new → GrewByFront old new (printed c input steps)
  halt_front halt.Over h = front_whole old new (printed c input steps) (done_took c input n m after old mid new s steps lt h)
  halt_front (halt.Fails k at) h = front_whole old new (printed c input steps) (failed_took c input n m after old mid new s steps k at lt h)
  halt_front (halt.Stops at) h = front_whole old new (printed c input steps) (stopped_took c input n m after old mid new s steps at lt h)
  halt_front halt.WriteFault h = halted_took c input n m after old mid new s steps lt h
  halt_front halt.Memory h = halted_took c input n m after old mid new s steps lt h

-- the steps are spent
pub running_at : (c : CoreTree) (input : List ℤ) (n steps : ℕ) (m : Machine) (old new : Option (List ℕ)) → Stands c input n m old new → steps ≤ n → n ≤ steps → IsRunning (run c input steps)
running_at c input n steps m old new s le ge =
    let z : n ≡ steps = omega arith in
    subst (λ i. IsRunning (run c input i)) z (subst IsRunning (sym s.state) tt)

pub running_took : (c : CoreTree) (input : List ℤ) (n steps : ℕ) (m : Machine) (old new : Option (List ℕ)) → Stands c input n m old new → steps ≤ n → n ≤ steps → Grew old new (printed c input steps)
running_took c input n steps m old new s le ge =
    let z : n ≡ steps = omega arith in
    subst (λ i. Grew old new (printed c input i)) z (subst (λ p. Grew old new p) (sym (ap printed_in s.state)) s.took)

-- ---- a program without a body for Main

pub no_main : (c : CoreTree) (input : List ℤ) (n : ℕ) → body_at c c.main ≡ None → run c input n ≡ Done (first_store input) []
no_main c input n e =
    let z : n ≡ n + zero = omega arith in
    ap (run c input) z ∙ ended_stays c input n zero (Done (first_store input) []) (λ r. r) (ap (start_with input) e)

pub nothing_done : (c : CoreTree) (input : List ℤ) (n : ℕ) → body_at c c.main ≡ None → IsDoneAt c input 0 n
nothing_done c input n e =
    let p : printed c input n ≡ [] = ap printed_in (no_main c input n e) in
    record {
      within = omega arith;
      least = λ i l. absurd (omega (arith, l));
      done = (first_store input, no_main c input 0 e ∙ ap (λ (t : List ℕ). Done (first_store input) t) (sym p));
      stays = (first_store input, no_main c input n e ∙ ap (λ (t : List ℕ). Done (first_store input) t) (sym p));
    }

pub nothing_took : (c : CoreTree) (input : List ℤ) (n : ℕ) (t : Option (List ℕ)) → body_at c c.main ≡ None → Grew t t (printed c input n)
nothing_took c input n t e = subst (λ p. Grew t t p) (sym (ap printed_in (no_main c input n e))) (grew_nothing t)
