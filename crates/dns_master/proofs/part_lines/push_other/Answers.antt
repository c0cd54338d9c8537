use Rattle.std.proofs.Common.{◌∙◌, ap, map, ◌++◌, List, ℕ}
use Rattle.std.specs.Prelude.{string_bytes}
use Rattle.dns_data.specs.Items.{item_of}
use Rattle.dns_master.proofs.PartingLemmas.{line_put}
use Rattle.dns_master.proofs.part_lines.push_other.Goals as goal

pub returns : goal.returns
returns c =
    line_put c.push_items.result c.args.rr.now c.args.written.kind.now c.args.text.now.items (string_bytes c.in_ok-head.head) c.extend_from_slice.new.self.items c.extend_from_slice-2.new.self.items c.push_items.new.text.items
    (map item_of c.args.written.fields.now) c.in_ok-head.ensures (c.in_ok-extend_from_slice.ensures.items ∙ ap (λ (t : List ℕ). c.args.text.now.items ++ t) c.as_bytes.ensures.value) c.in_ok-extend_from_slice-2.ensures.items c.push_items.ensures
