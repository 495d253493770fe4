-- Contracts over the numbers of a bank.
use Rattle.std.specs.Prelude.{◌≡◌, List, map, Bool, true, false, if◌then◌else◌}
use Rattle.ss_core.specs.Tree.{CalleeTree, Dispatched, BodyTree}
use Rattle.ss_core.specs.View.{body}
use Rattle.ss_logic.specs.Express as spec
use Rattle.ss_logic.specs.Frames as logic
use Rattle.ss_terms.specs.declared.forms.TermId.{TermId}
use Rattle.ss_terms.specs.Forms.{Forms, HasTerms, IsGrown}
use Rattle.ss_frames.specs.declared.calls.NamedTerm.{NamedTerm}
use Rattle.ss_frames.specs.declared.calls.CallTerms.{CallTerms}
use Rattle.ss_frames.specs.Calls.{named_at, call_at, HasNamed, HasAllNamed, HasCall}
use Rattle.ss_vcgen_express.specs.Contexts.{local_at}
use Rattle.ss_vcgen_heaps.specs.Contracts.{seen}
use Rattle.ss_vcgen_contracts.specs.declared.contract.Contract.{Contract}

-- the body with the contract that is meant
abbrev pub contract_of : Contract → BodyTree
contract_of c = if c.seen then seen (body c.body.now) else body c.body.now

-- what terms mean
abbrev pub ones_at : Forms → List TermId → List spec.Meant
ones_at b ts = map (local_at b) ts

pub record AreOnes (a : Forms) (ts : List TermId) (say : Forms → List spec.Meant) : Type 0 where
  pub has : HasTerms a ts
  pub are : (b : Forms) → IsGrown a b → ones_at b ts ≡ say b

pub record IsName (a : Forms) (n : NamedTerm) (says : Forms → logic.NamedTerm) : Type 0 where
  pub has : HasNamed a n
  pub is : (b : Forms) → IsGrown a b → named_at b n ≡ says b

pub record AreNames (a : Forms) (ns : List NamedTerm) (say : Forms → List logic.NamedTerm) : Type 0 where
  pub has : HasAllNamed a ns
  pub are : (b : Forms) → IsGrown a b → map (named_at b) ns ≡ say b

pub record IsCall (a : Forms) (m : CallTerms) (says : Forms → logic.CallTerms) : Type 0 where
  pub has : HasCall a m
  pub is : (b : Forms) → IsGrown a b → call_at b m ≡ says b

-- a call of `e.M(..)`
abbrev pub is_dispatched : CalleeTree → Bool
is_dispatched (Dispatched e t m) = true
is_dispatched callee = false
