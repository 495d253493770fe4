use Rattle.std.proofs.Common.{◌≡◌, Some, option_map, map, string_bytes, sym, ap, ◌∙◌}
use Rattle.ss_top_words.specs.Words.{Asked}
use Rattle.ss_top_words.specs.Views.{asked_of}
use Rattle.ss_top.specs.Answers.{asked_by, file_of, file_named, OfSource}
use Rattle.ss_top.proofs.Inputs.{asked_has_input}
use Rattle.ss_top.proofs.Whole.{Says-source}
use Rattle.ss_top.proofs.Says.{SaysOf, Says-refused, Says-headline, Says-verified, Says-ended, Says-ran, Says-expanded, Says-steps_spent, Says-stopped, Says-failed, Says-not_admitted, Says-unproved, Says-undecided, Says-complete, reads_only, Says-silent, Says-written, Says-memory, Says-not}
use Rattle.ss_top.proofs.top.specsharp.Given.{Over}
use Rattle.ss_top.proofs.top.specsharp.Goals as goal

-- what the words ask for
abbrev the_asked : (g : Over) (c : goal.After-drop-asked g) → Asked
the_asked g c = asked_of c.in-Ok-Some.asked

named : (g : Over) (c : goal.After-drop-asked g) → asked_by c.args.words.now ≡ Some (the_asked g c)
named g c = sym c.in-Ok-Some.ensures.means ∙ ap (option_map asked_of) c.in-Ok-Some.field-0-is

named_file : (g : Over) (c : goal.After-drop-asked g) → file_of c.args.words.now ≡ Some (the_asked g c).file
named_file g c = ap file_named (named g c)

pub answer_source-requires-clause-input : goal.answer_source-requires-clause-input
answer_source-requires-clause-input g c = asked_has_input (map string_bytes c.args.words.now) (asked_of c.in-Ok-Some.asked) (sym c.in-Ok-Some.ensures.means ∙ ap (option_map asked_of) c.in-Ok-Some.field-0-is)

-- what the answer says of its source
said : (g : Over) (c : goal.After-drop-asked g) → OfSource (g.F.Files.told c.args.files.now (the_asked g c).file) (SaysOf (the_asked g c) (g.S.Sink.taken c.args.out.now) (g.S.Sink.taken c.answer_source.new.out) c.answer_source.result)
said g c =
    let a = the_asked g c in
    Says-source a.limits a.steps a.input (g.S.Sink.taken c.args.out.now) (g.S.Sink.taken c.answer_source.new.out) c.answer_source.result a.command (g.F.Files.told c.args.files.now a.file) c.in-Ok.source.items c.in-Ok.ensures.front
    (rw c.deref.ensures.value at c.answer_source.ensures.says)

pub returns-in-Ok-clause-bad_words : goal.returns-in-Ok-clause-bad_words
returns-in-Ok-clause-bad_words g c = (
  λ e. absurd ((Says-not (the_asked g c) (g.S.Sink.taken c.args.out.now) (g.S.Sink.taken c.answer_source.new.out) c.answer_source.result (g.F.Files.told c.args.files.now) (said g c)).0 e),
  λ e. let n = named g c in absurd (cc),
)

pub returns-in-Ok-clause-read_fault : goal.returns-in-Ok-clause-read_fault
returns-in-Ok-clause-read_fault g c = λ e. absurd ((Says-not (the_asked g c) (g.S.Sink.taken c.args.out.now) (g.S.Sink.taken c.answer_source.new.out) c.answer_source.result (g.F.Files.told c.args.files.now) (said g c)).1 e)

pub returns-in-Ok-clause-silent : goal.returns-in-Ok-clause-silent
returns-in-Ok-clause-silent g c = Says-silent (the_asked g c) (g.S.Sink.taken c.args.out.now) (g.S.Sink.taken c.answer_source.new.out) c.answer_source.result (g.F.Files.told c.args.files.now) (said g c)

pub returns-in-Ok-clause-refused : goal.returns-in-Ok-clause-refused
returns-in-Ok-clause-refused g c = rw (named g c) (Says-refused (the_asked g c) (g.S.Sink.taken c.args.out.now) (g.S.Sink.taken c.answer_source.new.out) c.answer_source.result (g.F.Files.told c.args.files.now) (said g c))

pub returns-in-Ok-clause-headline : goal.returns-in-Ok-clause-headline
returns-in-Ok-clause-headline g c = rw (named g c) (Says-headline (the_asked g c) (g.S.Sink.taken c.args.out.now) (g.S.Sink.taken c.answer_source.new.out) c.answer_source.result (g.F.Files.told c.args.files.now) (said g c))

pub returns-in-Ok-clause-verified : goal.returns-in-Ok-clause-verified
returns-in-Ok-clause-verified g c = rw (named g c) (Says-verified (the_asked g c) (g.S.Sink.taken c.args.out.now) (g.S.Sink.taken c.answer_source.new.out) c.answer_source.result (g.F.Files.told c.args.files.now) (said g c))

pub returns-in-Ok-clause-ended : goal.returns-in-Ok-clause-ended
returns-in-Ok-clause-ended g c = rw (named g c) (Says-ended (the_asked g c) (g.S.Sink.taken c.args.out.now) (g.S.Sink.taken c.answer_source.new.out) c.answer_source.result (g.F.Files.told c.args.files.now) (said g c))

pub returns-in-Ok-clause-ran : goal.returns-in-Ok-clause-ran
returns-in-Ok-clause-ran g c = rw (named g c) (Says-ran (the_asked g c) (g.S.Sink.taken c.args.out.now) (g.S.Sink.taken c.answer_source.new.out) c.answer_source.result (g.F.Files.told c.args.files.now) (said g c))

pub returns-in-Ok-clause-expanded : goal.returns-in-Ok-clause-expanded
returns-in-Ok-clause-expanded g c = rw (named g c) (Says-expanded (the_asked g c) (g.S.Sink.taken c.args.out.now) (g.S.Sink.taken c.answer_source.new.out) c.answer_source.result (g.F.Files.told c.args.files.now) (said g c))

pub returns-in-Ok-clause-steps_spent : goal.returns-in-Ok-clause-steps_spent
returns-in-Ok-clause-steps_spent g c = rw (named g c) (Says-steps_spent (the_asked g c) (g.S.Sink.taken c.args.out.now) (g.S.Sink.taken c.answer_source.new.out) c.answer_source.result (g.F.Files.told c.args.files.now) (said g c))

pub returns-in-Ok-clause-stopped : goal.returns-in-Ok-clause-stopped
returns-in-Ok-clause-stopped g c = rw (named g c) (Says-stopped (the_asked g c) (g.S.Sink.taken c.args.out.now) (g.S.Sink.taken c.answer_source.new.out) c.answer_source.result (g.F.Files.told c.args.files.now) (said g c))

pub returns-in-Ok-clause-failed : goal.returns-in-Ok-clause-failed
returns-in-Ok-clause-failed g c = rw (named g c) (Says-failed (the_asked g c) (g.S.Sink.taken c.args.out.now) (g.S.Sink.taken c.answer_source.new.out) c.answer_source.result (g.F.Files.told c.args.files.now) (said g c))

pub returns-in-Ok-clause-not_admitted : goal.returns-in-Ok-clause-not_admitted
returns-in-Ok-clause-not_admitted g c = rw (named g c) (Says-not_admitted (the_asked g c) (g.S.Sink.taken c.args.out.now) (g.S.Sink.taken c.answer_source.new.out) c.answer_source.result (g.F.Files.told c.args.files.now) (said g c))

pub returns-in-Ok-clause-unproved : goal.returns-in-Ok-clause-unproved
returns-in-Ok-clause-unproved g c = rw (named g c) (Says-unproved (the_asked g c) (g.S.Sink.taken c.args.out.now) (g.S.Sink.taken c.answer_source.new.out) c.answer_source.result (g.F.Files.told c.args.files.now) (said g c))

pub returns-in-Ok-clause-undecided : goal.returns-in-Ok-clause-undecided
returns-in-Ok-clause-undecided g c = rw (named g c) (Says-undecided (the_asked g c) (g.S.Sink.taken c.args.out.now) (g.S.Sink.taken c.answer_source.new.out) c.answer_source.result (g.F.Files.told c.args.files.now) (said g c))

pub returns-in-Ok-clause-complete : goal.returns-in-Ok-clause-complete
returns-in-Ok-clause-complete g c = Says-complete (the_asked g c) (g.S.Sink.taken c.args.out.now) (g.S.Sink.taken c.answer_source.new.out) c.answer_source.result (g.F.Files.told c.args.files.now) (asked_by c.args.words.now) (named g c) (said g c)

pub returns-in-Ok-clause-written : goal.returns-in-Ok-clause-written
returns-in-Ok-clause-written g c = rw (named g c) (Says-written (the_asked g c) (g.S.Sink.taken c.args.out.now) (g.S.Sink.taken c.answer_source.new.out) c.answer_source.result (g.F.Files.told c.args.files.now) (said g c))

pub returns-in-Ok-clause-memory : goal.returns-in-Ok-clause-memory
returns-in-Ok-clause-memory g c = rw (named g c) (Says-memory (the_asked g c) (g.S.Sink.taken c.args.out.now) (g.S.Sink.taken c.answer_source.new.out) c.answer_source.result (g.F.Files.told c.args.files.now) (said g c))

pub returns-in-Ok-clause-reads : goal.returns-in-Ok-clause-reads
returns-in-Ok-clause-reads g c = reads_only (g.F.Files.faults c.args.files.now) (g.F.Files.faults c.read.new.self) (file_of c.args.words.now) (the_asked g c).file c.read.result (named_file g c) c.read.ensures.counts
