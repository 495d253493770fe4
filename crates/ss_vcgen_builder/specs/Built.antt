-- The obligations that a list over a bank stands for.
use Rattle.std.specs.Prelude.{List, length}
use Rattle.ss_terms.specs.Forms.{HasFormulas}
use Rattle.ss_vcgen_heaps.specs.Positions as tree
use Rattle.ss_vcgen_builder.specs.Builder.{obligations_at, AreWithin}
use Rattle.ss_vcgen_builder.specs.declared.list.Obligations.{Obligations}

-- the obligations of a list that was built
abbrev pub trees : Obligations → List tree.Obligation
trees o = obligations_at o.bank o.trail.items o.list.items

-- every number is one of the bank, and the premises are parts of the trail
pub record IsWithin (o : Obligations) : Type 0 where
  pub trail : HasFormulas o.bank o.trail.items
  pub list : AreWithin o.bank (length o.trail.items) o.list.items
