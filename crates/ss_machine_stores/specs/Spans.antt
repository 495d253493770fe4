-- What the frame condition speaks of, as the code has it.
use Rattle.std.specs.Prelude.{◌≡◌, ◌≤◌, ℕ, List, length, Bool, ◌&&◌}
use Rattle.std.specs.List.{list_all}
use Rattle.ss_core.specs.declared.class.Classes.{Classes}
use Rattle.ss_core.specs.declared.body.Body.{Body}
use Rattle.ss_core.specs.View as view
use Rattle.ss_core.specs.Chain.{most_classes}
use Rattle.ss_store_rules.specs.declared.Value.{Value}
use Rattle.ss_store_rules.specs.Store.{Object}
use Rattle.ss_store_rules.specs.Reads.{object_at}
use Rattle.ss_journal.specs.Shapes.{Segment}
use Rattle.ss_journal.specs.Undo.{entries_of, headers_of, contents_of}
use Rattle.ss_machine_rules.specs.Frame as frame
use Rattle.ss_machine_stores.specs.Shapes.{entry_of}
use Rattle.ss_machine_saves.specs.Whole.{AreWhole}
use Rattle.ss_machine_stores.specs.declared.span.Span.{Span}

abbrev pub span_between : Classes → Body → List Value → List Object → List Object → List Value → frame.Span
span_between k b locals entry now outside = record {
  classes = view.classes k;
  body = view.body b;
  locals = locals;
  entry = entry;
  now = now;
  outside = outside;
}

abbrev pub span_of : Span → frame.Span
span_of s = span_between s.classes.now s.body.now s.locals.now s.before s.store.now.objects s.outside.now

-- it has what the body names and what it captures, and the stores are those of a run
pub record IsKnown (s : Span) : Type 0 where
  pub few : length (view.classes s.classes.now) ≤ most_classes
  pub named_is : s.named.items ≡ frame.all_named (span_of s)
  pub captured_is : s.captured.items ≡ frame.captured_values (span_of s)
  pub whole : AreWhole s.store.now.objects s.journal.now s.unfull.now
  pub entry_is : s.before ≡ entry_of (entries_of s.journal.now s.store.now.objects)

-- the object keeps the frame condition
abbrev pub keeps : frame.Span → ℕ → Bool
keeps c o = frame.is_empty (frame.unkept_at c o (object_at c.now o))

-- so do all that changed since the entry
abbrev pub headers_keep : frame.Span → List Segment → Bool
headers_keep c gs = list_all (λ h. keeps c h.position) (headers_of gs)

abbrev pub contents_keep : frame.Span → List Segment → Bool
contents_keep c gs = list_all (λ o. keeps c o.position) (contents_of gs)

-- and all that are listed
abbrev pub all_keep : frame.Span → List Segment → List ℕ → Bool
all_keep c gs unfull = headers_keep c gs && contents_keep c gs && list_all (keeps c) unfull
