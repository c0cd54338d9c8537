use Rattle.std.proofs.Common.{◌≡◌, ℕ, List, Option, Vec, Global, map, subst, ap, ◌∙◌}
use Rattle.std.specs.List.{flat_map, zip}
use Rattle.std.proofs.lemmas.Result.{IfOk-weaker}
use Rattle.dns_data.specs.declared.record.Record.{Record}
use Rattle.zone_core.specs.Changes.{ChangeOf, change_in}
use Rattle.zone_core.specs.Sets.{key_of, listing}
use Rattle.zone_tools.specs.History.{bringer}
use Rattle.zone_tools.specs.Makers.{AreMakersByParts}
use Rattle.store_rows.specs.declared.ordered.KeptReceipt.{KeptReceipt}
use Rattle.cli_store.specs.declared.zone_makers.Sender.{Sender}
use Rattle.cli_store.specs.BlameReceipts.{made_of, receipts_in, receipts_line, sender_of, updates_of}
use Rattle.cli_store.proofs.BlameLemmas.{zip_with}
use Rattle.cli_store.proofs.zone_makers.receipts_text.Goals as goal

pub returns : goal.returns
returns c =
    let read = receipts_in c.args.read in
    let found = c.in_ok-found.found in
    let lists = map (λ (v : Vec ℕ Global). v.items) found.lists.items in
    let made : c.made_of-made.result.items ≡ made_of read.zone.origin read.kept = c.made_of-made.ensures ∙ ap (λ (origin : List (List ℕ)). made_of origin read.kept) c.origin.ensures.value in
    let makers = subst (λ (ks : List KeptReceipt). AreMakersByParts read.zone.origin (updates_of ks) read.changes read.zone.records lists) made c.in_ok-found.ensures.lists in
    let line = receipts_line c.args.asked.now.name in
    let records = c.records-records.result.now in
    let changes = map change_in c.deref.result.now in
    let lines = λ (senders : List Sender) (rs : List Record) (cs : List ChangeOf). flat_map (λ (r : Record). line senders lists r (bringer cs (key_of r))) rs in
    let numbers = c.deref-2.ensures.value ∙ c.in_ok-numbers.ensures.exact in
    IfOk-weaker c.records_text.result _ _
    (λ text is. (
      lists,
      makers,
      is ∙ ap (λ (ns : List (Option ℕ)). flat_map (λ (p : Record × Option ℕ). line found.senders.items lists p.0 p.1) (zip records ns)) numbers
          ∙ zip_with (line found.senders.items lists) (λ (r : Record). bringer changes (key_of r)) records
          ∙ ap (lines found.senders.items records) (ap (map change_in) c.deref.ensures.value)
          ∙ ap (λ (rs : List Record). lines found.senders.items rs read.changes) c.records-records.ensures.value
          ∙ ap (λ (senders : List Sender). lines senders (listing read.zone.records) read.changes) (c.in_ok-found.ensures.senders ∙ ap (map sender_of) made),
    ))
    c.records_text.ensures
