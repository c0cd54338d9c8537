use Rattle.std.proofs.Common.{◌≡◌, sym, ap, ◌∙◌}
use Rattle.std.specs.Net.Text.{ipv4_text}
use Rattle.dns_data.specs.declared.rdata.Data.TheVariants.{A as AddressData}
use Rattle.dns_data.specs.declared.record_type.RecordType.TheVariants.{A}
use Rattle.dns_data.specs.Text.{data_text}
use Rattle.store_rows.specs.RowReading.{data_in}
use Rattle.store_rows.proofs.ColumnLaws.{data_read}
use Rattle.store_rows.proofs.columns.address_in.Goals as goal

pub returns : goal.returns
returns c =
    let address = c.in-Ok.address in
    let written = c.in-Ok.ensures in
    let spelled : c.args.text.now ≡ data_text (AddressData address) = sym c.as_bytes.ensures.value ∙ written.spelled ∙ ap ipv4_text (sym written.value) in
    ap (data_in A) spelled ∙ data_read (AddressData address) c.record_type.ensures.rdata
