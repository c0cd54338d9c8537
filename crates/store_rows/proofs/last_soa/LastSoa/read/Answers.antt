use Rattle.std.proofs.Common.{◌≡◌, sym, ap, ◌∙◌}
use Rattle.dns_data.specs.declared.rdata.Data.TheVariants.{Soa as SoaData}
use Rattle.dns_data.specs.declared.record_type.RecordType.TheVariants.{Soa}
use Rattle.dns_data.specs.Rdata.{type_of}
use Rattle.dns_data.specs.Text.{data_text}
use Rattle.store_rows.specs.RowReading.{data_in}
use Rattle.store_rows.proofs.ColumnLaws.{data_read}
use Rattle.store_rows.proofs.last_soa.LastSoa.read.Goals as goal

pub returns : goal.returns
returns c =
    let rdata = c.in_ok-rdata.rdata in
    let is : rdata ≡ SoaData c.goes_on.new.self.fields = c.in_ok-rdata.ensures in
    let spelled : c.args.text.now ≡ data_text (SoaData c.goes_on.new.self.fields) = c.goes_on.ensures c.if-not-goes_on.false in
    ap (data_in Soa) (spelled ∙ ap data_text (sym is)) ∙ ap (λ t. data_in t (data_text rdata)) (sym (ap type_of is)) ∙ data_read rdata c.record_type.ensures.rdata
