use Rattle.std.proofs.Common.{◌∙◌, ap, List, ℕ, ◌++◌, map, drop}
use Rattle.std.specs.List.{flat_map, join_with_byte}
use Rattle.cli_text.specs.LineObjects.{member_in, member_if}
use Rattle.cli_text.proofs.LineObjectLemmas.{members_joined, in_braces}
use Rattle.cli_text.proofs.line_objects.push_object.Goals as goal

pub returns : goal.returns
returns c =
    let words = map (λ w. w.now) c.args.words.now in
    let rest = c.after_first.ensures ∙ (ap (drop 1) (c.deref.ensures.value ∙ c.in_ok-text.ensures) ∙ members_joined words c.args.members.now) in
    let list = join_with_byte 44 (flat_map (member_if words) (map member_in c.args.members.now)) in
    in_braces c.args.out.now.items list c.push.new.self.items c.extend_from_slice.new.self.items c.push-2.new.self.items c.in_ok-push.ensures.items
    (c.in_ok-extend_from_slice.ensures.items ∙ ap (λ (l : List ℕ). c.push.new.self.items ++ l) rest) c.in_ok-push-2.ensures.items
