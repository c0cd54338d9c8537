use Rattle.std.proofs.Common.{◌∙◌, ap, sym, subst, map, Result, Ok}
use Rattle.std.proofs.lemmas.Result.{err_from_is_err_and}
use Rattle.dns_data.specs.Items.{item_of}
use Rattle.dns_master.specs.declared.entry_fault.EntryFault.{EntryFault}
use Rattle.dns_master.specs.EntryFaults.{◌>>=◌}
use Rattle.dns_master.specs.FileViews.{force_of}
use Rattle.dns_master.specs.AnyRecords.{OtherLead, StatedOther, other_taken}
use Rattle.dns_master.specs.PartViews.{lead_with, TakesAny}
use Rattle.dns_master.proofs.PartingLemmas.{lead_refuses, data_refuses, data_stated, lead_cut}
use Rattle.dns_master.proofs.parting.Parting.take_behind.Goals as goal

pub returns-in_err-lead : goal.returns-in_err-lead
returns-in_err-lead c =
    let p = err_from_is_err_and c.from_residual.result c.from_residual.ensures.1 in
    rw (p.1, p.2) (lead_refuses (force_of c.args.self.now.file) c.args.owner (map item_of c.args.items.now) c.in_err-lead.field-0.0 c.in_err-lead.ensures.exact)

pub returns-in_err-check_data : goal.returns-in_err-check_data
returns-in_err-check_data c =
    let p = err_from_is_err_and c.from_residual-in_err-check_data.result c.from_residual-in_err-check_data.ensures.1 in
    let ttl = c.in_ok-lead.lead.ttl in
    let lead : OtherLead = lead_with ttl c.raw_at-kind.result.now (map item_of c.split_at.result.1.now) in
    let is = c.in_ok-lead.ensures.exact ∙ ap (λ (l : OtherLead). Ok l) (lead_cut c.args.items.now c.split_at.result.1.now ttl c.in_ok-lead.lead.before c.raw_at-kind.result.now c.in_ok-lead.ensures.within c.raw_at-kind.ensures c.split_at.ensures.back) in
    rw (p.1, p.2) (data_refuses (force_of c.args.self.now.file) c.args.owner (map item_of c.args.items.now) c.in_err-check_data.field-0.0 lead is (c.in_err-check_data.ensures ttl))

pub returns : goal.returns
returns c =
    let b = force_of c.args.self.now.file in
    let ttl = c.in_ok-lead.lead.ttl in
    let lead : OtherLead = lead_with ttl c.raw_at-kind.result.now (map item_of c.split_at.result.1.now) in
    let is = c.in_ok-lead.ensures.exact ∙ ap (λ (l : OtherLead). Ok l) (lead_cut c.args.items.now c.split_at.result.1.now ttl c.in_ok-lead.lead.before c.raw_at-kind.result.now c.in_ok-lead.ensures.within c.raw_at-kind.ensures c.split_at.ensures.back) in
    let stated = data_stated b c.args.owner (map item_of c.args.items.now) lead is (c.in_ok-check_data.ensures ttl) in
    subst (λ (r : Result StatedOther EntryFault). TakesAny c.args.self.now c.take_stated.new.self (r >>= other_taken b) c.take_stated.result) (sym stated) c.take_stated.ensures
