use Rattle.std.proofs.Common.{◌≡◌, List, length, ◌&&◌, ◌==◌, sym, ap, ◌∙◌}
use Rattle.std.specs.FinMap.{len, entries, len-entries}
use Rattle.std.proofs.lemmas.List.{length-map}
use Rattle.dns_data.specs.declared.record.Record.{Record}
use Rattle.zone_core.specs.Sets.{Records, Key, listing, minus}
use Rattle.zone_core.specs.Changes.{ChangeOf, change_between, is_empty}
use Rattle.test_tables.proofs.states.batches.have_same.Goals as goal

length-listing : (set : Records) → length (listing set) ≡ len set
length-listing set = length-map (entries set) (λ (e : Key × Record). e.1) ∙ sym (len-entries set)

pub returns : goal.returns
returns c =
    let a = c.args.old.now.records in
    let b = c.args.new.now.records in
    c.is_empty.ensures
    ∙ ap is_empty (c.in_ok-change.ensures ∙ (λ i. change_between (c.records.ensures.set i) (c.records-2.ensures.set i)))
    ∙ (λ i. (length-listing (minus a b) i == 0) && (length-listing (minus b a) i == 0))
