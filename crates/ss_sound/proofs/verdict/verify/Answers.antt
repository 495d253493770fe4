use Rattle.std.proofs.Common.{length, sym, subst}
use Rattle.ss_core.specs.View.{core}
use Rattle.ss_vcgen_builder.specs.Built.{trees}
use Rattle.ss_vcgen_safe.specs.Formed.{AreFormed}
use Rattle.ss_vcgen_safe.proofs.FormedPrograms.{all_formed}
use Rattle.ss_sound.specs.Verdicts.{AllHaveNoModelWithin, derivations_of}
use Rattle.ss_sound.proofs.Complete.{verdict_complete}
use Rattle.ss_sound.proofs.Lists.{obligations_grown}
use Rattle.ss_sound.proofs.Whole.{verified_safe}
use Rattle.ss_sound.proofs.verdict.verify.Goals as goal

-- the obligations of a formed program are well formed, and so are its invariants
pub decide_all-requires-clause-formed : goal.decide_all-requires-clause-formed
decide_all-requires-clause-formed c =
    let p = core c.args.program.now in
    rw (c.deref.ensures.value, c.deref-2.ensures.value) (subst (AreFormed p.classes) (sym c.requires.obligations) (all_formed p c.requires.formed))

pub decide_all-requires-clause-invariants : goal.decide_all-requires-clause-invariants
decide_all-requires-clause-invariants c = record { typed = c.requires.formed.invariants; admissible = c.requires.formed.admissible }

pub returns-in-Ok-clause-safe : goal.returns-in-Ok-clause-safe
returns-in-Ok-clause-safe c =
    verified_safe c.verdict.result (core c.args.program.now) c.in-Ok.decided.countered.items c.in-Ok.decided.undecided.items c.in-Ok.decided.derivations.items c.requires.formed (trees c.args.obligations.now)
    (derivations_of c.decide_all.new.bank c.in-Ok.decided.derivations.items) c.requires.obligations (rw (c.deref.ensures.value, c.deref-2.ensures.value) at c.in-Ok.ensures.derived) c.verdict.ensures.verified

pub returns-in-Ok-clause-complete : goal.returns-in-Ok-clause-complete
returns-in-Ok-clause-complete c = λ all.
    let p = core c.args.program.now in
    let o = c.args.obligations.now in
    verdict_complete p.classes c.args.options.now c.verdict.result (trees o) (length o.list.items) c.in-Ok.decided.countered.items c.in-Ok.decided.undecided.items (rw (c.deref.ensures.value, c.deref-2.ensures.value) at c.in-Ok.ensures.decided)
    (subst (AllHaveNoModelWithin p.classes c.args.options.now) (sym c.requires.obligations) all) c.verdict.ensures.unproved c.verdict.ensures.undecided

pub returns-in-Ok-clause-obligations : goal.returns-in-Ok-clause-obligations
returns-in-Ok-clause-obligations c = let o = c.args.obligations.now in obligations_grown o.bank c.decide_all.new.bank o.trail.items (length o.trail.items) o.list.items c.decide_all.ensures.grown c.requires.within.trail c.requires.within.list

pub returns-in-Err-clause-obligations : goal.returns-in-Err-clause-obligations
returns-in-Err-clause-obligations c = let o = c.args.obligations.now in obligations_grown o.bank c.decide_all.new.bank o.trail.items (length o.trail.items) o.list.items c.decide_all.ensures.grown c.requires.within.trail c.requires.within.list
