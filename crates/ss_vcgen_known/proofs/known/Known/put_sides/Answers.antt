use Rattle.std.proofs.Common.{Some, ap, ◌∙◌}
use Rattle.ss_bit_set.specs.Marked.{marked}
use Rattle.ss_vcgen_known.specs.Views.{pair_of, fields_of}
use Rattle.ss_vcgen_known.proofs.Setting.{with_pair, saying, set_entry}
use Rattle.ss_vcgen_known.proofs.known.Known.put_sides.Goals as goal

pub returns : goal.returns
returns c =
    let r = c.reach.new.self in
    let x = c.args.x in
    set_entry pair_of (marked r.facts) r.sides.items (marked r.beyond) (fields_of r.fields) x (record { holds = Some c.args.holds; fails = Some c.args.fails }) c.in_ok-reach.ensures.long
    ∙ ap (with_pair x (saying (marked c.args.holds) (marked c.args.fails))) c.in_ok-reach.ensures.same
