use Rattle.std.proofs.Common.{◌≡◌, ◌-◌}
use Rattle.zone_core.specs.Sets.{listing}
use Rattle.zone_answers.specs.AnswerTests.{follow}
use Rattle.zone_answers.proofs.zone_index.ZoneIndex.follow.Given as goal

-- what is left to follow from here gives the same as all from the first name
abbrev pub invariant-loop : goal.invariant-loop
invariant-loop l =
    follow l.self.origin (listing l.self.records) l.asked (l.most - l.counter) l.aliases.items l.name
    ≡ follow l.self.origin (listing l.self.records) l.asked l.most l.fn.aliases.items l.fn.name
