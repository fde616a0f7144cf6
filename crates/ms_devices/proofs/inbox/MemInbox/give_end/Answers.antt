use Rattle.std.proofs.Common.{ap, ◌∙◌}
use Rattle.ms_devices.proofs.InboxLemmas.{end_given, all_given}
use Rattle.ms_devices.proofs.inbox.MemInbox.give_end.Goals as goal

pub invariant_of-self : goal.invariant_of-self
invariant_of-self c =
    let all = all_given _ c.self.inside.events.items c.self.invariant.within (ap (λ s. s.left) c.self.view_is ∙ c.requires) in
    end_given c.self.inside.events.items c.push.new.self.items c.self.inside.given_count all c.self.invariant c.in-Ok.ensures.items
