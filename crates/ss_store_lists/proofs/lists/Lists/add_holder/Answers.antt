use Rattle.std.proofs.Common.{subst}
use Rattle.ss_store_lists.specs.Listing.{lists, listing, HasMore}
use Rattle.ss_store_lists.proofs.Held.{more_added}
use Rattle.ss_store_lists.proofs.lists.Lists.add_holder.Goals as goal

pub returns-else-is_err : goal.returns-else-is_err
returns-else-is_err c = record { more = subst (λ l. HasMore l (listing c.self.inside.is_whole (lists c.push.new.self.items))) c.self.view_is (more_added c.self.inside.is_whole _ c.self.inside.held.items c.push.new.self.items c.new.result c.push.ensures.items) }
