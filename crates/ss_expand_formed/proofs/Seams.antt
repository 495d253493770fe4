-- Statements one after the other, where the phase of null may know less at a seam than what stands before it gives.
use Rattle.std.proofs.Common.{◌≡◌, ℕ, List, [], ◌++◌, true, Some, refl, ◌∙◌, ap}
use Rattle.std.proofs.lemmas.Bool.{and_parts, and_from}
use Rattle.ss_core.specs.declared.names.Ty.{Ty}
use Rattle.ss_core.specs.View.{code_of}
use Rattle.ss_typed.specs.Tree.{SimpleTree, SimpleOf, StmtTrees, NoMore, Before}
use Rattle.ss_paths.specs.Assigned.{has_field}
use Rattle.ss_paths.specs.Paths as phase
use Rattle.ss_nonnull_rules.specs.NonNull as source
use Rattle.ss_nonnull_rules.specs.Faults.{done_faults, null_check}
use Rattle.ss_expand_rules.specs.Simple.{simple}
use Rattle.ss_expand_rules.specs.Statements.{stmts}
use Rattle.ss_expand_rules.specs.Constructors.{before_all}
use Rattle.ss_store_rules.specs.Paths.{holds_along}
use Rattle.ss_store_rules.specs.NonNull.{Known}
use Rattle.ss_expand_formed.proofs.Facts.{none_left}
use Rattle.ss_expand_formed.proofs.Shape.{Code}
use Rattle.ss_expand_formed.proofs.Along.{holds-append}
use Rattle.ss_expand_formed.proofs.Bases.{OnlySimple}
use Rattle.ss_expand_formed.specs.Fitting.{Frame, elaboration_context, simple_fits, stmt_fits, all_fitting, Agrees, Builds, Covers, HasMade}
use Rattle.ss_expand_formed.proofs.Growth.{stmts_begin}
use Rattle.ss_expand_formed.proofs.Putting.{flow, check}
use Rattle.ss_expand_formed.proofs.Lifted.{made_before}
use Rattle.ss_expand_formed.proofs.Assignments.{Done}
use Rattle.ss_expand_formed.proofs.NullsSimple.{simple_known}
use Rattle.ss_expand_formed.proofs.NullsStatements.{stmts_known}

-- ---- lists of statements

pub fitting_parts : (z : Frame) (xs ys : StmtTrees) → all_fitting z (before_all xs ys) ≡ true → (all_fitting z xs ≡ true) × (all_fitting z ys ≡ true)
fitting_parts z NoMore ys h = (refl, h)
fitting_parts z (Before x xs) ys h =
    let both = and_parts (stmt_fits z x) (all_fitting z (before_all xs ys)) h in
    let rest = fitting_parts z xs ys both.1 in
    (and_from _ _ both.0 rest.0, rest.1)

pub fitting_both : (z : Frame) (xs ys : StmtTrees) → all_fitting z xs ≡ true → all_fitting z ys ≡ true → all_fitting z (before_all xs ys) ≡ true
fitting_both z NoMore ys h g = g
fitting_both z (Before x xs) ys h g = let both = and_parts (stmt_fits z x) (all_fitting z xs) h in and_from _ _ both.0 (fitting_both z xs ys both.1 g)

-- ---- what the phase knows

module _ (z : Frame) where
  -- it knows no more in the first than in the second
  pub record Less (k m : source.Known) : Type 0 where
    pub facts : (x : ℕ) → k.facts x ≡ true → m.facts x ≡ true
    pub fields : (f : ℕ) → z.fields f ≡ true → has_field z.context.numbers k.fields f ≡ true → has_field z.context.numbers m.fields f ≡ true

  pub covers_less : (k m : source.Known) (l : Known) → Less k m → Covers z m l → Covers z k l
  covers_less k m l h c = record {
    facts = λ x i. c.facts x (h.facts x i);
    mine = λ x i. c.mine x (h.facts x i);
    fields = λ f o i. c.fields f o (h.fields f o i);
    free = c.free;
  }

  pub itself : (k : source.Known) → Less k k
  itself k = record { facts = λ x i. i; fields = λ f o i. i }

-- ---- code that keeps nulls out

module _ (z : Frame) where
  -- where this is known before it
  abbrev pub Holds : Known → Code → Type 0
  Holds l xs = holds_along (flow z) (check z) (code_of xs) (Some l) ≡ true

  -- the statements do so wherever the phase knows this before them, whatever temporaries are made before
  abbrev pub HoldFrom : source.Known → StmtTrees → Type 0
  HoldFrom k ss = (made : List Ty) (l : Known) → Covers z k l → HasMade z (stmts (elaboration_context z []) ss made).made → Holds l (stmts (elaboration_context z []) ss made).code

  pub from_less : (k m : source.Known) (ss : StmtTrees) → Less z k m → HoldFrom k ss → HoldFrom m ss
  from_less k m ss less h made l c has = h made l (covers_less z k m l less c) has

module _ (z : Frame) (agrees : Agrees z) (builds : Builds z) where
  abbrev along : phase.Flow source.Known
  along = source.known_flow z.context

  abbrev asked : phase.Check source.Known
  asked = null_check z.context

  pub all_hold : (k : source.Known) (ss : StmtTrees) → all_fitting z ss ≡ true → phase.faults_along along asked ss (Some k) ≡ [] → HoldFrom z k ss
  all_hold k ss fit clean made l c has = (stmts_known z agrees builds ss fit [] k made clean l c has).held

  -- after code that runs to its end
  pub then_hold : (l : Known) (k : source.Known) (xs ys : Code) → (h : Done z agrees l k xs) → Holds z h.now ys → Holds z l (xs ++ ys)
  then_hold l k xs ys h g = holds-append (flow z) (check z) xs ys (Some l) h.runs.checked (ap (holds_along (flow z) (check z) (code_of ys)) h.runs.at ∙ g)

  pub after_simple : (k m : source.Known) (x : SimpleTree) (more : StmtTrees) → simple_fits z x ≡ true → done_faults z.context x (Some k) ≡ [] → Less z m (source.known_done z.context x k) → HoldFrom z m more → HoldFrom z k (Before (SimpleOf x) more)
  after_simple k m x more fit clean less rest made l c has =
      let s = elaboration_context z [] in
      let one = simple s x made in
      let first = simple_known z agrees builds [] x k l made c fit clean (made_before z agrees one.made (stmts s more one.made).made (stmts_begin s more one.made) has) in
      then_hold l (source.known_done z.context x k) one.code (stmts s more one.made).code first (rest one.made first.now (covers_less z m (source.known_done z.context x k) first.now less first.covers) has)

  -- Simple statements, of which the phase has these others after them.
  pub behind_all : (front seen more : StmtTrees) (k : source.Known) → OnlySimple front → all_fitting z front ≡ true → phase.faults_along along asked (before_all front seen) (Some k) ≡ [] →
      ((m : source.Known) → phase.faults_along along asked seen (Some m) ≡ [] → HoldFrom z m more) → HoldFrom z k (before_all front more)
  behind_all NoMore seen more k only fit clean rest = rest k clean
  behind_all (Before (SimpleOf x) front) seen more k only fit clean rest =
      let both = and_parts (simple_fits z x) (all_fitting z front) fit in
      let m = source.known_done z.context x k in
      let parts = none_left (done_faults z.context x (Some k)) (phase.faults_along along asked (before_all front seen) (Some m)) clean in
      after_simple k m x (before_all front more) both.0 parts.0 (itself z m) (behind_all front seen more m only.1 both.1 parts.1 rest)
  behind_all (Before x front) seen more k only fit clean rest = absurd only
