use Rattle.std.proofs.Common.{ℕ, List, Option, map, ap, ◌∙◌}
use Rattle.std.specs.List.{flat_map, zip}
use Rattle.std.proofs.lemmas.Result.{IfOk-weaker}
use Rattle.dns_data.specs.declared.record.Record.{Record}
use Rattle.zone_core.specs.Changes.{ChangeOf, change_in}
use Rattle.zone_core.specs.Sets.{key_of}
use Rattle.zone_tools.specs.History.{bringer}
use Rattle.cli_store.specs.ZoneHistory.{blame_line}
use Rattle.cli_store.proofs.BlameLemmas.{zip_with}
use Rattle.cli_store.proofs.zone_blame.blame_text.Goals as goal

pub returns : goal.returns
returns c =
    let records = c.records-records.result.now in
    let changes = map change_in c.deref.result.now in
    let line = blame_line c.args.asked.now.name in
    let lines = λ (rs : List Record) (cs : List ChangeOf). flat_map (λ (r : Record). line r (bringer cs (key_of r))) rs in
    let found = c.deref-2.ensures.value ∙ c.in_ok-found.ensures.exact in
    IfOk-weaker c.blamed_text.result _ _
    (λ text is. is ∙ ap (λ (ns : List (Option ℕ)). flat_map (λ (p : Record × Option ℕ). line p.0 p.1) (zip records ns)) found
    ∙ zip_with line (λ (r : Record). bringer changes (key_of r)) records ∙ ap (lines records) (ap (map change_in) c.deref.ensures.value)
    ∙ ap (λ (rs : List Record). lines rs (map change_in c.args.history.now.changes.items)) c.records-records.ensures.value)
    c.blamed_text.ensures
