use Rattle.std.proofs.Common.{Option, false, sym, ap, ◌∙◌}
use Rattle.ss_typed.specs.Tree.{MembersTree}
use Rattle.ss_typed.specs.View.{typed}
use Rattle.ss_paths.specs.Sets.{Set}
use Rattle.ss_paths.specs.Fields.{fields_of_members}
use Rattle.ss_paths.specs.Assigned.{Assigned}
use Rattle.ss_paths_assigned.specs.Started.{started}
use Rattle.ss_paths_assigned.proofs.Places.{initializers_are}
use Rattle.ss_paths_assigned.proofs.beginning.assigned_by_initializers.Goals as goal

pub returns : goal.returns
returns c =
    let with_own : Set → Assigned = λ s. record { own = s; above = false } in
    ap with_own (c.in_ok-own.ensures ∙ ap (λ (m : Option MembersTree). started (fields_of_members m)) c.members_at.ensures ∙ sym (initializers_are (typed c.args.program.now) c.args.class.0))
