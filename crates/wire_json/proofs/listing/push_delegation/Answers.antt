use Rattle.std.proofs.Common.{ℕ, List, ◌++◌, map, ap, ◌∙◌, arith}
use Rattle.std.specs.Prelude.{codes}
use Rattle.dns_names.specs.Spelling.{name_text}
use Rattle.wire_json.specs.Json.{quoted, listed}
use Rattle.wire_json.specs.Appending.{comma_before}
use Rattle.wire_json.specs.Replies.{server_value}
use Rattle.wire_json.proofs.ShortLemmas.{three_steps, delegation_text}
use Rattle.wire_json.proofs.listing.push_delegation.Goals as goal

pub returns : goal.returns
returns c =
    let old = c.args.out.now.items in
    let comma = comma_before c.args.number in
    let name = name_text c.args.delegation.now.child in
    let list = listed (map server_value c.args.delegation.now.servers.items) in
    let n3 = c.push_name.new.out.items in
    let front = three_steps old comma (codes "{\"child\":") (quoted name) c.push_comma.new.out.items c.push_all.new.out.items n3
    c.in_ok-push_comma.ensures.ok (rw c.as_bytes.ensures.value at c.in_ok-push_all.ensures.text.ok) c.in_ok-push_name.ensures.ok in
    let back = three_steps n3 (codes ",\"servers\":[") list (codes "]}") c.push_all-2.new.out.items c.push_listed_servers.new.out.items c.push_all-3.new.out.items
    (rw c.as_bytes-2.ensures.value at c.in_ok-push_all-2.ensures.text.ok) (rw c.deref.ensures.value at c.in_ok-push_listed_servers.ensures.ok) (rw c.as_bytes-3.ensures.value at c.in_ok-push_all-3.ensures.text.ok) in
    record {
      ok = back ∙ ap (λ (l : List ℕ). l ++ (codes ",\"servers\":[" ++ (list ++ codes "]}"))) front ∙ delegation_text old comma name list;
      front = tt;
      capacity = omega (arith, c.in_ok-push_comma.ensures.capacity, c.in_ok-push_all.ensures.text.capacity, c.in_ok-push_name.ensures.capacity, c.in_ok-push_all-2.ensures.text.capacity, c.in_ok-push_listed_servers.ensures.capacity, c.in_ok-push_all-3.ensures.text.capacity);
    }
