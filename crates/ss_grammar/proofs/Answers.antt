-- What a reader answers, from what it gives; and what its answer says of the whole list.
use Rattle.std.proofs.Common.{◌≡◌, ℕ, List, [], ◌∷◌, ◌++◌, Result, Ok, Err, Bool, refl, sym, ap, subst, ◌∙◌}
use Rattle.std.proofs.lemmas.List.{append-nil}
use Rattle.ss_grammar.specs.declared.fault.Fault.{Fault}
use Rattle.ss_grammar.specs.declared.fault.Stop.{Stop}
use Rattle.ss_grammar.specs.declared.fault.Stop.TheVariants as stop
use Rattle.ss_grammar.specs.declared.fault.Fault.TheVariants.{Expected, TooDeep}
use Rattle.ss_grammar.specs.Language.{Ends, Finds}
use Rattle.ss_grammar.specs.Stops.{Fails, Gives, Stands, Answers}
use Rattle.ss_grammar.proofs.Good.{Good}

module _ {T A : Type 0} (L : ℕ → List T → A → Type 0) (d : ℕ) (ts : List T) where
  stands : (e : Stop) (found : Result (A × List T) (Fault × List T)) → Fails e found → Finds L d ts found → Stands L d ts e
  stands stop.Memory found g f = tt
  stands (stop.Fault c n) (Ok x) g f = absurd g
  stands (stop.Fault c n) (Err e) g f = (e.1, g.1, subst (λ b. Finds L d ts (Err (b, e.1))) g.0 f)

  pub answers : {X : Type 0} (view : X → A × List T) (r : Result X Stop) (found : Result (A × List T) (Fault × List T)) → Gives view r found → Finds L d ts found → Answers L d ts view r
  answers view (Ok x) found g f = subst (λ q. Finds L d ts q) g f
  answers view (Err e) found g f = stands e found g f

  no_whole : (M : List T → A → Type 0) (front rest : List T) → ts ≡ front ++ rest → ((v : A) → M front v → ⊥) → Ends M front rest → (v : A) → M ts v → ⊥
  no_whole M front [] e whole en v h = whole v (subst (λ y. M y v) (e ∙ append-nil front) h)
  no_whole M front (t ∷ rest) e whole en v h = en rest v (subst (λ y. M y v) e h)

  -- a token more ends it at d
  deep_whole : (front rest behind : List T) (t : T) → ts ≡ front ++ rest → rest ≡ t ∷ behind → Ends (L d) front rest → (v : A) → L d ts v → ⊥
  deep_whole front rest behind t e o en v h = subst (λ y. Ends (L d) front y) o en behind v (subst (λ y. L d y v) (e ∙ ap (λ (y : List T). front ++ y) o) h)

  -- what the whole list is read as is found, with nothing left
  accepted_whole : (first goes : T → Bool) (empty : Bool) → Good L first goes empty → (v w : A) (front rest : List T) → ts ≡ front ++ rest → L d front w → Ends (L d) front rest → L d ts v → (w ≡ v) × (rest ≡ [])
  accepted_whole first goes empty good v w front [] e reads en h = (good.facts.one front w v (d, reads) (d, subst (λ y. L d y v) (e ∙ append-nil front) h), refl)
  accepted_whole first goes empty good v w front (t ∷ rest) e reads en h = absurd (en rest v (subst (λ y. L d y v) e h))

  pub whole_found : (first goes : T → Bool) (empty : Bool) → Good L first goes empty → (v : A) (found : Result (A × List T) (Fault × List T)) → Finds L d ts found → L d ts v → found ≡ Ok (v, [])
  whole_found first goes empty good v (Ok x) f h =
      let p = accepted_whole first goes empty good v x.0 f.front x.1 f.parts f.reads (f.ends d) h in
      ap (λ (a : A). Ok (a, x.1)) p.0 ∙ ap (λ (r : List T). Ok (v, r)) p.1
  whole_found first goes empty good v (Err (Expected, rest)) f h = absurd (no_whole (L d) f.front rest f.parts (f.not_whole d) (f.ends d) v h)
  whole_found first goes empty good v (Err (TooDeep, rest)) f h = absurd (deep_whole f.front rest f.behind f.opening f.parts f.opens f.ends v h)

  -- and what is found with nothing left is what the whole list is read as
  pub found_whole : (v : A) → Finds L d ts (Ok (v, [])) → L d ts v
  found_whole v f = subst (λ y. L d y v) (sym (append-nil f.front) ∙ sym f.parts) f.reads
