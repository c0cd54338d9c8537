use Rattle.std.proofs.Common.{ℕ, List, [], ◌∷◌, ◌++◌, map, sym, ap, ◌∙◌, append_assoc, arith}
use Rattle.std.specs.Prelude.{codes}
use Rattle.wire_json.specs.Json.{listed}
use Rattle.wire_json.specs.Replies.{delegation_value}
use Rattle.wire_json.proofs.ShortLemmas.{three_steps}
use Rattle.wire_json.proofs.listing.push_delegations.Goals as goal

pub returns : goal.returns
returns c =
    let old = c.args.out.now.items in
    let list = listed (map delegation_value c.args.delegations.now) in
    let front = codes "{\"delegations\":[" in
    let all = three_steps old front list (codes "]}") c.push_all.new.out.items c.push_listed_delegations.new.out.items c.push_all-2.new.out.items
    (rw c.as_bytes.ensures.value at c.in_ok-push_all.ensures.text.ok) c.in_ok-push_listed_delegations.ensures.ok (rw c.as_bytes-2.ensures.value at c.in_ok-push_all-2.ensures.text.ok) in
    record {
      ok = all ∙ ap (λ (l : List ℕ). old ++ (front ++ l)) (sym (append_assoc list (93 ∷ []) (125 ∷ [])));
      front = tt;
      capacity = omega (arith, c.in_ok-push_all.ensures.text.capacity, c.in_ok-push_listed_delegations.ensures.capacity, c.in_ok-push_all-2.ensures.text.capacity);
    }
