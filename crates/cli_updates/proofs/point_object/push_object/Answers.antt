use Rattle.std.proofs.Common.{[], ◌∷◌}
use Rattle.grant_policy.specs.Decisions.{verdict_of}
use Rattle.cli_updates.specs.Explained.{point_in}
use Rattle.cli_updates.specs.PointObjects.{decided_object, place_members, name_members}
use Rattle.cli_text.proofs.AnswerObjectLemmas.{object_ends}
use Rattle.cli_updates.proofs.PointObjectLemmas.{object_is}
use Rattle.cli_updates.proofs.point_object.push_object.Goals as goal

pub returns : goal.returns
returns c =
    let p = point_in c.args.point in
    let v = verdict_of c.args.decision in
    object_ends c.args.text.now.items (place_members p v) (name_members p v) (decided_object p v) (44 ∷ []) c.push_place.new.text.items c.push_named.new.text.items c.push.new.self.items
    c.in_ok-push_place.ensures c.in_ok-push_named.ensures c.in_ok-push.ensures.items (object_is p v)
