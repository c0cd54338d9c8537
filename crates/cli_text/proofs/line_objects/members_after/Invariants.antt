use Rattle.std.proofs.Common.{◌≡◌, take, map}
use Rattle.std.specs.List.{flat_map}
use Rattle.cli_text.specs.LineObjects.{each_after, member_if, member_in}
use Rattle.cli_text.proofs.line_objects.members_after.Given as goal

abbrev pub invariant-loop-wanted : goal.invariant-loop-wanted
invariant-loop-wanted l = l.text.items ≡ flat_map (λ m. each_after 44 (member_if (map (λ w. w.now) l.words) (member_in m))) (take l.wanted-index l.members)
