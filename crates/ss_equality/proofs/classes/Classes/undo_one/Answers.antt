use Rattle.std.proofs.Common.{map, arith}
use Rattle.ss_terms.specs.Forms.{term_shape}
use Rattle.ss_equality.proofs.Renaming.{to_within, from_within, undone_kept}
use Rattle.ss_equality.proofs.classes.Classes.undo_one.Goals as goal

pub cut_users-requires : goal.cut_users-requires
cut_users-requires c = to_within (map term_shape c.self.inside.forms.items) c.self.inside.users.items c.self.inside.ends.items c.self.inside.log.items c.pop.new.self.items c.self.invariant c.in-Some.join c.in-Some.ensures.items

pub index_mut-requires : goal.index_mut-requires
index_mut-requires c =
    let p = from_within (map term_shape c.self.inside.forms.items) c.self.inside.users.items c.self.inside.ends.items c.self.inside.log.items c.pop.new.self.items c.self.invariant c.in-Some.join c.in-Some.ensures.items in
    omega (arith, p, c.self.inside.ends.ok.0)

pub invariant_of-self : goal.invariant_of-self
invariant_of-self c = undone_kept (map term_shape c.self.inside.forms.items) c.self.inside.users.items c.self.inside.ends.items c.self.inside.log.items c.pop.new.self.items c.self.invariant c.in-Some.join c.in-Some.ensures.items c.cut_users.new.users.items c.cut_users.ensures
